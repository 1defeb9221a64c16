-- A chunk that a state machine turned away, or applied.
use Rattle.std.proofs.Common.{◌≡◌, ◌≤◌, ◌+◌, ℕ, arith, Bool, true, false, List, [], ◌∷◌, Option, Some, None, Result, Ok, Err, OnOk, IfErr, refl, sym, subst}
use Rattle.std.specs.Prelude.{IfSome, if◌then◌else◌}
use Rattle.std.proofs.lemmas.Result.{on_ok_weaker, IfErr-weaker}
use Rattle.den_disk.specs.declared.disk.Disk.{Ghosts}
use Rattle.den_disk.specs.declared.place.Family.TheVariants.{State as state_family}
use Rattle.den_disk.specs.Files.{Files, Content}
use Rattle.den_codec.specs.declared.error.Error.{Error}
use Rattle.den_codec.specs.declared.error.Error.TheVariants as error
use Rattle.den_core.specs.Full.{IsFullBy, IsSlotTooShort}
use Rattle.den_core.specs.PayloadSizes.{chunk_sizes}
use Rattle.den_core.proofs.Weighing.{full_by}
use Rattle.den_state.proofs.Weighing.{light_chunk}
use Rattle.den_model.specs.Entries.{LogEntry}
use Rattle.den_model.specs.MapState.{MapState, map_applied_all}
use Rattle.den_model.specs.Sizes.{entries_size, store_rise}
use Rattle.den_map.specs.Leases.{lacks_lease}
use Rattle.den_map.specs.Order.{out_of_order}
use Rattle.den_journal.specs.Causes.{IsRefusal}
use Rattle.den_journal.specs.Shown.{Held, Shown}
use Rattle.den_journal.specs.Writes.{Faulted, GoesOn, Moves, DiskTells, Writes}
use Rattle.den_journal.proofs.Moving.{goes_nowhere, moves_nothing}
use Rattle.den_state.specs.Changes.{chunk_change}
use Rattle.den_state.specs.Checkpoint.{IsCheckpointSize}
use Rattle.den_state.specs.Chunk.{IsChunkRefusal, refusal_of_chunk}
use Rattle.den_state.specs.Machine.{AtRest}

-- ---- the refusal of a chunk

no_refusal : (lacks : Bool) → (if lacks then Some error.FeatureNotEnabled else None) ≡ None → lacks ≡ false
no_refusal false is = refl
no_refusal true is = absurd (cc is)

lease_refusal : (lacks : Bool) (e : Error) → (if lacks then Some error.FeatureNotEnabled else None) ≡ Some e → (e ≡ error.FeatureNotEnabled) × (lacks ≡ true)
lease_refusal false e is = absurd (cc is)
lease_refusal true e is = (cc is, refl)

module _ (leased : Bool) (mark : ℕ) (chunk : List LogEntry) where
  abbrev by_order : Option ℕ → Option Error
  by_order o = elim o [ Some index ↦ Some (error.UnorderedChunk index) | None ↦ if lacks_lease leased chunk then Some error.FeatureNotEnabled else None ]

  pub admitted : refusal_of_chunk leased mark chunk ≡ None → (out_of_order mark chunk ≡ None) × (lacks_lease leased chunk ≡ false)
  admitted is =
      elim (out_of_order mark chunk) as (λ o. out_of_order mark chunk ≡ o → by_order o ≡ None → (out_of_order mark chunk ≡ None) × (lacks_lease leased chunk ≡ false)) [
        | Some index ↦ λ at none. absurd (cc none)
        | None ↦ λ at none. (at, no_refusal (lacks_lease leased chunk) none)
      ] refl is

  pub turned : (rose : Type 0) (most : ℕ) (e : Error) → refusal_of_chunk leased mark chunk ≡ Some e → IsChunkRefusal leased rose most mark chunk e
  turned rose most e is =
      let P : Error → Type 0 = IsChunkRefusal leased rose most mark chunk in
      elim (out_of_order mark chunk) as (λ o. out_of_order mark chunk ≡ o → by_order o ≡ Some e → P e) [
        | Some index ↦ λ at some. let is : error.UnorderedChunk index ≡ e = cc some in subst P is at
        | None ↦ λ at some. let lease = lease_refusal (lacks_lease leased chunk) e some in subst P (sym lease.0) (at, lease.1)
      ] refl is

  pub turned_light : (told : Type 0) (short : ℕ → Type 0) (most weight : ℕ) (e : Error) → refusal_of_chunk leased mark chunk ≡ Some e → IsFullBy told short most weight e
  turned_light told short most weight e is =
      let P : Error → Type 0 = IsFullBy told short most weight in
      elim (out_of_order mark chunk) as (λ o. by_order o ≡ Some e → P e) [
        | Some index ↦ λ some. let is : error.UnorderedChunk index ≡ e = cc some in subst P is tt
        | None ↦ λ some. let lease = lease_refusal (lacks_lease leased chunk) e some in subst P (sym lease.0) tt
      ] is

  pub disk_refused : (rose : Type 0) (most : ℕ) (e : Error) → refusal_of_chunk leased mark chunk ≡ None → IsRefusal rose most e → IsChunkRefusal leased rose most mark chunk e
  disk_refused rose most error.OutOfMemory none h = admitted none
  disk_refused rose most error.StorageIoError none h = let a = admitted none in (a.0, a.1, h)
  disk_refused rose most (error.DiskFull needed limit) none h = let a = admitted none in (a.0, a.1, h.0, h.1)
  disk_refused rose most _ none h = absurd h

-- ---- what the call leaves

module _ {D T : Type 0} (disk : Ghosts D) (holds : Held MapState) (was now : Shown MapState) (old new : D) (leased : Bool) (mark : ℕ) (chunk : List LogEntry) (same : Type 0) (result : Result T Error)
    (away : IfSome (refusal_of_chunk leased mark chunk) (λ e. (result ≡ Err e) × same × (new ≡ old)))
    (writes : refusal_of_chunk leased mark chunk ≡ None → Writes disk was now old new state_family holds (chunk_change was.value chunk) result) where
  by_refusal : (P : Type 0) → ((e : Error) → refusal_of_chunk leased mark chunk ≡ Some e → result ≡ Err e → new ≡ old → P)
      → (refusal_of_chunk leased mark chunk ≡ None → Writes disk was now old new state_family holds (chunk_change was.value chunk) result → P) → P
  by_refusal P turned done =
      elim (refusal_of_chunk leased mark chunk) as (λ r. refusal_of_chunk leased mark chunk ≡ r → IfSome r (λ e. (result ≡ Err e) × same × (new ≡ old)) → P) [
        | Some e ↦ λ is a. turned e is a.0 a.2
        | None ↦ λ is a. done is (writes is)
      ] refl away

  on_turned : (P : Type 0) (e : Error) → result ≡ Err e → OnOk result P
  on_turned P e is = subst (λ (r : Result T Error). OnOk r P) (sym is) tt

  pub chunk_goes_on : GoesOn disk old new
  chunk_goes_on = by_refusal (GoesOn disk old new) (λ e is r d. subst (λ (x : D). GoesOn disk old x) (sym d) (goes_nowhere disk old)) (λ none w. w.goes_on)

  pub chunk_moves : DiskTells disk old → (holds.told → (files : Files) → disk.images old (disk.moment old) files → holds.of files ≡ Some was.value) → Moves disk state_family holds (was.value ∷ map_applied_all was.value chunk ∷ []) old new
  chunk_moves tells gives =
      let Left : D → Type 0 = λ x. Moves disk state_family holds (was.value ∷ map_applied_all was.value chunk ∷ []) old x in
      by_refusal (Left new) (λ e is r d. subst Left (sym d) (moves_nothing disk state_family holds was.value (map_applied_all was.value chunk ∷ []) old gives)) (λ none w. w.moves tells)

  pub chunk_weight : OnOk result (now.weight ≤ was.weight + store_rise (entries_size chunk))
  chunk_weight = by_refusal _ (λ e is r d. on_turned _ e r) (λ none w. on_ok_weaker result (λ b. b.weight) w.done)

  pub chunk_ready : OnOk result now.ready
  chunk_ready = by_refusal _ (λ e is r d. on_turned _ e r) (λ none w. on_ok_weaker result (λ b. b.ready) w.done)

  pub chunk_rests : OnOk result (DiskTells disk old → now.rests (disk.content new))
  chunk_rests = by_refusal _ (λ e is r d. on_turned _ e r) (λ none w. on_ok_weaker result (λ b. b.rests) w.done)

  pub chunk_refused : IfErr result (IsChunkRefusal leased (Faulted disk old new) (disk.kind old).limit mark chunk)
  chunk_refused =
      let P : Error → Type 0 = IsChunkRefusal leased (Faulted disk old new) (disk.kind old).limit mark chunk in
      by_refusal (IfErr result P) (λ e is r d. subst (λ (x : Result T Error). IfErr x P) (sym r) (turned leased mark chunk (Faulted disk old new) (disk.kind old).limit e is))
      (λ none w. IfErr-weaker result _ P (λ e r. disk_refused leased mark chunk (Faulted disk old new) (disk.kind old).limit e none r.cause) w.refused)

  pub chunk_full : (m : MapState) → (DiskTells disk old → was.value ≡ m) → ((n : ℕ) → IsCheckpointSize (map_applied_all was.value chunk) n → n ≤ was.weight + store_rise (entries_size chunk))
      → IfErr result (IsFullBy (DiskTells disk old × holds.told) (λ needed. IsSlotTooShort (chunk_sizes m chunk) (was.weight + store_rise (entries_size chunk)) needed (disk.content new).reading)
      (disk.kind old).limit (was.weight + store_rise (entries_size chunk)))
  chunk_full m stored drafted =
      let most = was.weight + store_rise (entries_size chunk) in
      let P : Error → Type 0 = IsFullBy (DiskTells disk old × holds.told) (λ needed. IsSlotTooShort (chunk_sizes m chunk) most needed (disk.content new).reading) (disk.kind old).limit most in
      by_refusal (IfErr result P)
      (λ e is r d. subst (λ (x : Result T Error). IfErr x P) (sym r) (turned_light leased mark chunk (DiskTells disk old × holds.told) (λ needed. IsSlotTooShort (chunk_sizes m chunk) most needed (disk.content new).reading) (disk.kind old).limit most e is))
      (λ none w. IfErr-weaker result _ P (λ e r. full_by (DiskTells disk old × holds.told) state_family (disk.content new).reading (disk.kind old).limit most (chunk_change was.value chunk).adds (chunk_change was.value chunk).drafts (chunk_sizes m chunk) e
      (λ t n is. let light = light_chunk was.value chunk in (subst (λ (x : MapState). (chunk_change x chunk).adds n) (stored t.0) is, omega (arith, light, is)))
      (λ t n is. (subst (λ (x : MapState). (chunk_change x chunk).drafts n) (stored t.0) is, drafted n is))
      r.full r.heavy) w.refused)

-- a state machine whose files give the map that a chunk made
pub at_rest_ok : {T : Type 0} (Told : Type 0) {n : ℕ} (now : Shown MapState) (map : MapState) (content : Content) (result : Result T Error) → OnOk result (Told → now.rests content) → OnOk result (1 ≤ n → now.value ≡ map) → 1 ≤ n
    → OnOk result (Told → AtRest now map content)
at_rest_ok Told now map content (Ok x) rests stored some = λ told. record { rests = rests told; stored = stored some }
at_rest_ok Told now map content (Err e) rests stored some = tt
