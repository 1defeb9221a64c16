-- What the calls of a state machine make of its map.
use Rattle.std.proofs.Common.{◌≡◌, ◌⊎◌, inl, inr, ◌≤◌, ◌+◌, ℕ, Bool, true, false, List, [], ◌∷◌, length, Some, None, Result, Ok, Err, OnOk, IfErr, refl, sym, ap, ◌∙◌, arith}
use Rattle.std.specs.Prelude.{◌==◌}
use Rattle.std.proofs.lemmas.Bool.{eqb-true}
use Rattle.den_codec.specs.declared.error.Error.{Error}
use Rattle.den_codec.specs.declared.error.Error.TheVariants.{OutOfMemory}
use Rattle.den_model.specs.declared.journal.JournalRecord.{JournalRecord}
use Rattle.den_model.specs.declared.region.StateRegion.TheVariants.{Records}
use Rattle.den_model.specs.Entries.{LogEntry}
use Rattle.den_model.specs.MapState.{MapState, map_after, map_after_records, map_applied_all}
use Rattle.den_model.specs.Sizes.{entries_size, store_rise}
use Rattle.den_state.specs.Cleanup.{cleaned_where}
use Rattle.den_state.specs.Light.{applied_pairs, cleaned_pairs}
use Rattle.den_state.proofs.Marks.{applied_at, records_after}
use Rattle.den_own.specs.declared.machine.OwnMachine.{OwnMachine}
use Rattle.den_own.specs.Machines.{map_weight, stored_of}

-- a chunk makes a map heavier by no more than its entries
pub chunk_lighter : (m : MapState) (chunk : List LogEntry) → map_weight (map_applied_all m chunk) ≤ map_weight m + store_rise (entries_size chunk)
chunk_lighter m chunk = omega (arith, applied_pairs m chunk)

-- a cleanup makes it no heavier
pub cleanup_lighter : (leased : Bool) (moment : ℕ) (m : MapState) → map_weight (cleaned_where leased moment m) ≤ map_weight m + store_rise 0
cleanup_lighter leased moment m = omega (arith, cleaned_pairs leased moment m)

-- no entries leave it
pub none_applied : (m : MapState) (es : List LogEntry) → (length es == 0) ≡ true → m ≡ map_applied_all m es
none_applied m [] none = refl
none_applied m (e ∷ es) none = absurd (omega (arith, eqb-true (length (e ∷ es)) 0 none))

-- the region of records that are lawful gives what they give
pub records_give : (m n : MapState) (rs items : List JournalRecord) → rs ≡ items → map_after_records m items ≡ Some n → map_after m (Records rs) ≡ Some n
records_give m n rs items same is = records_after m rs ∙ ap (map_after_records m) same ∙ is

-- so it is lawful
pub records_lawful : (m n : MapState) (rs items : List JournalRecord) → rs ≡ items → map_after_records m items ≡ Some n → map_after m (Records rs) ≡ None → ⊥
records_lawful m n rs items same is none = let gives = records_give m n rs items same is in cc (gives, none)

-- and what it gives is known
pub records_made : (m n now : MapState) (rs items : List JournalRecord) → rs ≡ items → map_after_records m items ≡ Some n → map_after m (Records rs) ≡ Some now → now ≡ n
records_made m n now rs items same is made = let gives = records_give m n rs items same is in cc (gives, made)

some_entry : (es : List LogEntry) → (length es == 0) ≡ false → 1 ≤ length es
some_entry [] none = absurd (cc none)
some_entry (e ∷ es) none = omega arith

-- the map with the stored mark, once a chunk of entries was applied
pub applied_stored : {T : Type 0} (s n : OwnMachine) (chunk : List LogEntry) (result : Result T Error) → (length chunk == 0) ≡ false → OnOk result (n.map ≡ map_applied_all s.map chunk) → OnOk result (n.stored ≡ n.map.mark) → OnOk result (n.failed ≡ false)
    → OnOk result ((stored_of n ≡ map_applied_all (stored_of s) chunk) × (n.failed ≡ false))
applied_stored s n chunk (Ok x) none map stored going = ((λ i. record n.map { mark = stored i }) ∙ map ∙ sym (applied_at s.map s.stored chunk (some_entry chunk none)), going)
applied_stored s n chunk (Err e) none map stored going = tt

-- and where it was not
pub refused_stored : {T : Type 0} (s n : OwnMachine) (result : Result T Error) → s.failed ≡ false → IfErr result (λ e. (e ≡ OutOfMemory) × ((n ≡ s) ⊎ (n.failed ≡ true)))
    → IfErr result (λ e. (e ≡ OutOfMemory) × (((stored_of n ≡ stored_of s) × (n.failed ≡ false)) ⊎ (n.failed ≡ true)))
refused_stored s n (Ok x) ready refused = tt
refused_stored s n (Err e) ready refused = (
  refused.0,
  elim refused.1 [
    | inl same ↦ inl (ap stored_of same, ap (λ (x : OwnMachine). x.failed) same ∙ ready)
    | inr fails ↦ inr fails
  ],
)
