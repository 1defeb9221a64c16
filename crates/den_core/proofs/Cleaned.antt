-- What a cleanup of the map leaves, and what its call writes.
use Rattle.std.proofs.Common.{◌≡◌, ◌↔◌, ◌≤◌, ◌+◌, ◌==◌, ◌&&◌, ◌||◌, inl, inr, ℕ, Bool, true, false, not, cond, filter, map, List, [], ◌∷◌, ◌++◌, length, max, nat_le, Option, Some, Result, refl, sym, ◌∙◌, ap, subst, arith}
use Rattle.std.specs.Prelude.{if◌then◌else◌}
use Rattle.std.proofs.Math.Dec.{eqb-suc-zero}
use Rattle.std.proofs.lemmas.List.{append-nil}
use Rattle.den_disk.specs.declared.disk.Disk.{Ghosts}
use Rattle.den_disk.specs.declared.place.Family.TheVariants.{Log as log_family, Meta as meta_family, State as state_family}
use Rattle.den_disk.specs.Families.{OldOrNew, SameOf, SparesImages}
use Rattle.den_disk.specs.Files.{Files, Content, IsImage}
use Rattle.den_codec.specs.declared.error.Error.{Error}
use Rattle.den_lease.specs.Due.{due_keys, has_due}
use Rattle.den_map.specs.Cleanup.{cleaned_map}
use Rattle.den_map.specs.Pages.{stored_pairs}
use Rattle.den_map.specs.Sizes.{pairs_size, stored_size}
use Rattle.den_map.proofs.Checkpoints.{stored_long}
use Rattle.den_map.proofs.Paging.{page_long, stored_more}
use Rattle.den_model.specs.declared.log_id.HardState.{HardState}
use Rattle.den_model.specs.Apply.{cleaned}
use Rattle.den_model.specs.Crash.{Survives}
use Rattle.den_model.specs.Grown.{IsLogAfter}
use Rattle.den_model.specs.Image.{joined}
use Rattle.den_model.specs.Kv.{Durable, Kv}
use Rattle.den_core.specs.declared.run.Run.{Run}
use Rattle.den_model.specs.Plan.{after, due_cleanup, first_cleanup, is_due}
use Rattle.den_model.specs.Log.{Log}
use Rattle.den_model.specs.MapState.{MapState}
use Rattle.den_model.specs.Step.{Step, Cleanup}
use Rattle.den_model.specs.Table.{Table}
use Rattle.den_journal.specs.Shown.{Held, Shown}
use Rattle.den_journal.specs.Writes.{Writes}
use Rattle.den_state.specs.Changes.{cleanup_change}
use Rattle.den_state.specs.Checkpoint.{IsCheckpointSize, IsPageSize}
use Rattle.den_state.specs.Cleanup.{cleaned_where}
use Rattle.den_state.specs.Light.{cleaned_pairs}
use Rattle.den_core.specs.Full.{IsBegun}
use Rattle.den_core.specs.Joined.{durable_is}
use Rattle.den_core.specs.Parts.{durable_of, kv_of, IsCaughtUp}
use Rattle.den_core.proofs.Quiet.{moves, stays}
use Rattle.den_core.proofs.Spared.{GivesAll, gives_now, log_state, meta_state, spared, state_moves}

-- ---- under a lease

-- a moment of at least 1 counts as it is
moment_is : (time : ℕ) → 1 ≤ time → max time 1 ≡ time
moment_is time some = omega (arith, some)

-- what is cleaned
pub cleaned_is : (leased : Bool) (time : ℕ) (m : MapState) → leased ≡ true → 1 ≤ time → cleaned_where leased (max time 1) m ≡ cleaned_map time m
cleaned_is leased time m is some = ap (λ b. cleaned_where b (max time 1) m) is ∙ ap (λ n. cleaned_map n m) (moment_is time some)

-- the call's change by these names
pub cleans_as : {D T : Type 0} (disk : Ghosts D) (was now : Shown MapState) (old new : D) (holds : Held MapState) (leased : Bool) (time : ℕ) (m : MapState) (r : Result T Error) → leased ≡ true → 1 ≤ time
    → Writes disk was now old new state_family holds (cleanup_change leased (max time 1) m) r → Writes disk was now old new state_family holds (cleanup_change true time m) r
cleans_as disk was now old new holds leased time m r is some writes =
    subst (λ n. Writes disk was now old new state_family holds (cleanup_change true n m) r) (moment_is time some)
    (subst (λ b. Writes disk was now old new state_family holds (cleanup_change b (max time 1) m) r) is writes)

-- the mark stays
pub cleaned_caught_up : (l : Log) (s m : MapState) (time : ℕ) → IsCaughtUp l s → m ≡ cleaned_map time s → IsCaughtUp l m
cleaned_caught_up l s m time caught is = subst (λ x. IsCaughtUp l x) (sym is) (record { purged = caught.purged; applied = caught.applied })

-- a call's one step, as it was begun
pub cleanup_begun : (kv : Kv) (log : Log) (time : ℕ) → IsBegun kv log (Cleanup time ∷ []) kv log (Cleanup time)
cleanup_begun kv log time = record { made = []; rest = []; parts = refl; state = refl; left_is = (inl refl, refl) }

-- the map was cleaned, or was not, over files that lay as the three stores left them
pub cleanup_survives : (holdsG : Files → Option Log) (holdsT : Files → Option (Option HardState)) (holdsM : Files → Option MapState) (old_at new_at : ℕ → Files → Type 0) (from to : ℕ) (content : Content)
    (l : Log) (h : Option HardState) (s v : MapState) (running : Run) (time : ℕ) → IsCaughtUp l s → ((files : Files) → old_at from files ↔ IsImage content files)
    → ((one other : Files) → SameOf log_family one other → holdsG other ≡ holdsG one) → ((one other : Files) → SameOf meta_family one other → holdsT other ≡ holdsT one)
    → ((files : Files) → IsImage content files → holdsG files ≡ Some l) → ((files : Files) → IsImage content files → holdsT files ≡ Some h)
    → v ≡ s → OldOrNew holdsM new_at from to v (cleaned_map time v) → SparesImages state_family old_at new_at from to
    → Survives (λ files. joined (holdsG files) (holdsT files) (holdsM files)) new_at from to [] (kv_of h s running) (Cleanup time ∷ [])
cleanup_survives holdsG holdsT holdsM old_at new_at from to content l h s v running time caught here own_log own_meta log meta is made others =
    moves (λ files. joined (holdsG files) (holdsT files) (holdsM files)) new_at from to (kv_of h s running) (Cleanup time)
    (state_moves holdsG holdsT holdsM new_at from to l h s (cleaned_map time s) (durable_of h s) (cleaned (durable_of h s) time)
    (durable_is l h s caught) (durable_is l h (cleaned_map time s) (cleaned_caught_up l s (cleaned_map time s) time caught refl))
    (spared holdsG state_family log_family old_at new_at from to l log_state own_log (gives_now holdsG (λ c. Unit {0}) old_at from content l here (λ files rest at. log files at) tt) others)
    (spared holdsT state_family meta_family old_at new_at from to h meta_state own_meta (gives_now holdsT (λ c. Unit {0}) old_at from content h here (λ files rest at. meta files at) tt) others)
    (subst (λ m. OldOrNew holdsM new_at from to m (cleaned_map time m)) is made))

-- ---- whether one is made

first_set : (a b : Bool) → (a && b) ≡ true → a ≡ true
first_set true b is = refl
first_set false b is = is

-- one is due only under a lease
pub due_leased : (kv : Kv) (time : ℕ) → is_due kv time ≡ true → kv.running.setting.lease ≡ true
due_leased kv time is = first_set kv.running.setting.lease _ is

pub due_none : (kv : Kv) (time : ℕ) → is_due kv time ≡ false → due_cleanup kv time ≡ []
due_none kv time is = ap (λ b. if b then Cleanup time ∷ [] else []) is

pub first_none : (kv : Kv) (time : ℕ) → kv.running.setting.lease ≡ false → first_cleanup kv time ≡ []
first_none kv time is = ap (λ b. if b then Cleanup time ∷ [] else []) is

-- where none is, nothing moves
pub none_survives : (holds : Files → Option Durable) (images : ℕ → Files → Type 0) (from to : ℕ) (kv : Kv) (steps : List Step) → steps ≡ [] → GivesAll holds images from to kv.durable → Survives holds images from to [] kv steps
none_survives holds images from to kv steps none given = subst (λ xs. Survives holds images from to [] kv xs) (sym none) (stays holds images from to kv given)

pub none_state : (kv : Kv) (steps : List Step) → steps ≡ [] → kv ≡ after kv steps
none_state kv steps none = ap (after kv) (sym none)

pub none_logged : (l : Log) (kv : Kv) (steps : List Step) → steps ≡ [] → IsLogAfter l kv steps l
none_logged l kv steps none = subst (λ xs. IsLogAfter l kv xs l) (sym none) (inl refl)

-- ---- the keys that go

-- there are some where one is due
some_due : (moment : ℕ) (t : Table ℕ) → not (length (due_keys moment t) == 0) ≡ has_due moment t
some_due moment [] = refl
some_due moment (e ∷ es) =
    let rest = some_due moment es in
    let keys = filter (λ (d : List ℕ × ℕ). nat_le d.1 moment) es in
    elim (nat_le e.1 moment) as (λ b. not (length (map (λ (d : List ℕ × ℕ). d.0) (cond b (e ∷ keys) keys)) == 0) ≡ (b || has_due moment es)) [
      | true ↦ ap not (eqb-suc-zero (length (map (λ (d : List ℕ × ℕ). d.0) keys)))
      | false ↦ rest
    ]

pub took_is : (leased : Bool) (time : ℕ) (t : Table ℕ) (keys : List (List ℕ)) (empty : Bool) → leased ≡ true → 1 ≤ time → empty ≡ (length keys == 0)
    → keys ≡ (cond leased (due_keys (max time 1) t) []) → not empty ≡ has_due time t
took_is leased time t keys empty is some told found =
    let due : keys ≡ due_keys time t = found ∙ ap (λ b. cond b (due_keys (max time 1) t) []) is ∙ ap (λ n. due_keys n t) (moment_is time some) in
    ap not told ∙ ap (λ (l : List (List ℕ)). not (length l == 0)) due ∙ some_due time t

-- where none was due nothing was done
pub none_due : (leased : Bool) (time : ℕ) (t : Table ℕ) (took : Bool) → leased ≡ true → 1 ≤ time → took ≡ has_due time t → took ≡ false → (leased && has_due (max time 1) t) ≡ false
none_due leased time t took is some so idle =
    ap (λ b. b && has_due (max time 1) t) is ∙ ap (λ n. has_due n t) (moment_is time some) ∙ sym so ∙ idle

-- a refusal comes only where one was
pub due_there : {A B : Type 0} (leased : Bool) (time : ℕ) (t : Table ℕ) → leased ≡ true → 1 ≤ time
    → ((leased && has_due (max time 1) t) ≡ false → A × B × (false ≡ true)) → has_due time t ≡ true
due_there leased time t is some nothing =
    elim (has_due time t) as (λ b. has_due time t ≡ b → b ≡ true) [
      | true ↦ λ due. refl
      | false ↦ λ due. (nothing (none_due leased time t false is some (sym due) refl)).2
    ] refl

-- ---- payloads of a checkpoint behind it

-- pairs that stand together take no more than all
page_within : (m : MapState) (n : ℕ) → IsPageSize m n → n ≤ 9 + pairs_size m.pairs
page_within m n p =
    let size = page_long p.page in
    let outer = stored_more p.before (p.page ++ p.behind) in
    let inner = stored_more p.page p.behind in
    let same : stored_size (p.before ++ (p.page ++ p.behind)) ≡ stored_size (stored_pairs m) = ap stored_size p.parts in
    let all : stored_size (stored_pairs m) ≡ pairs_size m.pairs = stored_long m.expiries m.pairs in
    omega (arith, p.is, size, outer, inner, same, all)

-- all pairs on one page
whole_page : (m : MapState) → IsCheckpointSize m (9 + pairs_size m.pairs)
whole_page m = inr (record {
  before = [];
  page = stored_pairs m;
  behind = [];
  parts = append-nil (stored_pairs m);
  is = let size = page_long (stored_pairs m) in let all : stored_size (stored_pairs m) ≡ pairs_size m.pairs = stored_long m.expiries m.pairs in omega (arith, size, all);
})

-- none is larger than one of the map before may be
pub cleaned_light : (time most : ℕ) (m : MapState) → ((n : ℕ) → IsCheckpointSize m n → n ≤ most) → (n : ℕ) → IsCheckpointSize (cleaned_map time m) n → n ≤ most
cleaned_light time most m light n (inl is) = light n (inl is)
cleaned_light time most m light n (inr page) =
    let less : pairs_size (cleaned_map time m).pairs ≤ pairs_size m.pairs = cleaned_pairs true time m in
    omega (arith, page_within (cleaned_map time m) n page, less, light (9 + pairs_size m.pairs) (whole_page m))
