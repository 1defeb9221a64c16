-- The log's entries above the map's mark, and what applying them leaves.
use Rattle.std.proofs.Common.{◌≡◌, ◌↔◌, ℕ, suc, ◌≤◌, ◌<◌, ◌+◌, ◌-◌, ◌^◌, ◌&&◌, ◌||◌, ◌==◌, Bool, true, false, List, [], ◌∷◌, length, get_or, Option, Some, None, IsSome, Result, Ok, Err, IfErr, cond, nat_le, nat_lt, if◌then◌else◌, not, inl, inr, refl, sym, ◌∙◌, ap, subst, arith}
use Rattle.std.proofs.lemmas.Bool.{cases_lt, le-leb, lt-leb, le-ltb, lt-ltb, eqb-true, ltb-true, leb-true}
use Rattle.den_model.specs.declared.command.Command.{Command}
use Rattle.den_model.specs.declared.command.Command.TheVariants.{Noop, Insert, Delete, CompareAndSwap}
use Rattle.den_model.specs.declared.log_id.HardState.{HardState}
use Rattle.den_model.specs.Apply.{applied, carried_out, succeeds, with_pair}
use Rattle.den_model.specs.Entries.{LogEntry, rise_above}
use Rattle.den_model.specs.Image.{Corruption, or_corrupt, durable, joined, term_of, gapless_from, applied_all}
use Rattle.den_model.specs.Crash.{Survives}
use Rattle.den_model.specs.Kv.{Durable, Kv}
use Rattle.den_core.specs.declared.run.Run.{Run}
use Rattle.den_model.specs.Log.{Log, floor, above, between, last_index, last_of}
use Rattle.den_model.specs.MapState.{MapState, map_applied, map_applied_all}
use Rattle.den_map.specs.Leases.{asks_lease, has_expiry, lacks_lease}
use Rattle.den_map.specs.Order.{out_of_order}
use Rattle.den_store.specs.Order.{IsInOrder}
use Rattle.den_core.specs.Joined.{durable_is, found_is}
use Rattle.den_core.specs.Opening.{agrees, is_exhausted, opening_refusal, refusal_by, refusal_for, IsLeft, IsOpeningFailure}
use Rattle.den_journal.specs.Causes.{IsRefusal}
use Rattle.den_codec.specs.declared.error.Error.{Error}
use Rattle.den_disk.specs.declared.place.Family.TheVariants.{Log as log_family, Meta as meta_family, State as state_family}
use Rattle.den_disk.specs.Families.{OldOrNew, SameOf, SparesImages}
use Rattle.den_disk.specs.Files.{Content, Files, IsImage}
use Rattle.den_core.specs.Parts.{durable_of, kv_of, IsCaughtUp}
use Rattle.den_core.proofs.Durables.{AllUpTo, none_above, up_to_more, applied_is}
use Rattle.den_core.proofs.Quiet.{stays}
use Rattle.den_core.proofs.Spared.{gives_now, joined_is, same_gives, spared, state_moves, log_state, meta_state}

-- both tests of a conjunction
both : (a b : Bool) → (a && b) ≡ true → (a ≡ true) × (b ≡ true)
both true true is = (refl, refl)
both true false is = cc
both false b is = cc

-- ---- the order

-- where the indices rise, the last is the greatest
pub rising_up_to : (index : ℕ) (es : List LogEntry) → rise_above index es ≡ true → (index ≤ last_of index es) × AllUpTo (last_of index es) es
unfolding AllUpTo
rising_up_to index [] rises = (omega arith, tt)
rising_up_to index (e ∷ es) rises =
    let two = both (nat_lt index e.index) (rise_above e.index es) rises in
    let over = ltb-true index e.index two.0 in
    let rest = rising_up_to e.index es two.1 in
    (omega (arith, over, rest.0), (rest.0, rest.1))

-- a run rises
pub run_rises : (index : ℕ) (es : List LogEntry) → gapless_from (index + 1) es ≡ true → rise_above index es ≡ true
run_rises index [] run = refl
run_rises index (e ∷ es) run =
    let two = both (e.index == index + 1) (gapless_from (index + 1 + 1) es) run in
    let next : e.index ≡ index + 1 = eqb-true e.index (index + 1) two.0 in
    ap (λ b. b && rise_above e.index es) (lt-ltb index e.index (omega arith))
    ∙ run_rises e.index es (subst (λ n. gapless_from (n + 1) es ≡ true) (sym next) two.1)

-- what rises is in order
pub rising_in_order : (index : ℕ) (es : List LogEntry) → rise_above index es ≡ true → out_of_order index es ≡ None
rising_in_order index [] rises = refl
rising_in_order index (e ∷ es) rises =
    let two = both (nat_lt index e.index) (rise_above e.index es) rises in
    ap (λ b. if b then out_of_order e.index es else Some e.index) two.0 ∙ rising_in_order e.index es two.1

-- the last one's index
pub last_some : (i : ℕ) (es : List LogEntry) (e : LogEntry) → 0 < length es → ((d : LogEntry) → e ≡ get_or es (length es - 1) d) → last_of i es ≡ e.index
last_some i [] e lt at = absurd (omega arith)
last_some i (x ∷ []) e lt at = ap (λ (y : LogEntry). y.index) (sym (at x))
last_some i (x ∷ y ∷ es) e lt at =
    let one : suc (suc (length es)) - 1 ≡ suc (length es) = omega arith in
    let two : suc (length es) - 1 ≡ length es = omega arith in
    last_some x.index (y ∷ es) e (omega arith)
    (λ d. at d ∙ ap (λ (k : ℕ). get_or (x ∷ y ∷ es) k d) one ∙ sym (ap (λ (k : ℕ). get_or (y ∷ es) k d) two))

-- ---- the entries above the mark

one_between : (first last i : ℕ) → i ≤ last → (nat_le (first + 1) i && nat_le i last) ≡ nat_lt first i
one_between first last i le = elim (cases_lt first i) [
  | inl over ↦ ap (λ b. b && nat_le i last) (le-leb (first + 1) i (omega arith)) ∙ le-leb i last le ∙ sym (lt-ltb first i over)
  | inr within ↦ ap (λ b. b && nat_le i last) (lt-leb (first + 1) i (omega arith)) ∙ sym (le-ltb first i within)
]

pub between_above : (first last : ℕ) (es : List LogEntry) → AllUpTo last es → between (first + 1) last es ≡ above first es
unfolding AllUpTo
between_above first last [] within = refl
between_above first last (e ∷ es) within =
    ap (λ b. cond b (e ∷ between (first + 1) last es) (between (first + 1) last es)) (one_between first last e.index within.0)
    ∙ ap (λ l. cond (nat_lt first e.index) (e ∷ l) l) (between_above first last es within.1)

none_either : (b : Bool) (e : LogEntry) (es : List LogEntry) → cond (b && false) (e ∷ es) es ≡ es
none_either true e es = refl
none_either false e es = refl

-- nothing lies from 1 up to 0
pub none_between : (es : List LogEntry) → between 1 0 es ≡ []
none_between [] = refl
none_between (e ∷ es) = elim (cases_lt 0 e.index) [
  | inl over ↦ ap (λ b. cond (nat_le 1 e.index && b) (e ∷ between 1 0 es) (between 1 0 es)) (lt-leb e.index 0 over) ∙ none_either (nat_le 1 e.index) e (between 1 0 es) ∙ none_between es
  | inr within ↦ ap (λ b. cond (b && nat_le e.index 0) (e ∷ between 1 0 es) (between 1 0 es)) (lt-leb 1 e.index (omega arith)) ∙ none_between es
]

pub entries_some : (l : Log) (index first last : ℕ) → first ≡ index + 1 → last ≡ last_index l → IsInOrder l → between first last l.entries ≡ above index l.entries
entries_some l index first last is is_last order =
    ap (λ n. between n last l.entries) is
    ∙ between_above index last l.entries (subst (λ n. AllUpTo n l.entries) (sym is_last) (rising_up_to (floor l) l.entries order.rises).1)

pub entries_none : (l : Log) (index last : ℕ) → last ≤ index → last ≡ last_index l → IsInOrder l → between 1 0 l.entries ≡ above index l.entries
entries_none l index last within is_last order = none_between l.entries
    ∙ sym (none_above index l.entries (up_to_more last index l.entries within (subst (λ n. AllUpTo n l.entries) (sym is_last) (rising_up_to (floor l) l.entries order.rises).1)))

-- where those above it are bounded, so are all
above_cases : (low high : ℕ) (e : LogEntry) (es : List LogEntry) → low ≤ high → AllUpTo high (cond (nat_lt low e.index) (e ∷ above low es) (above low es)) → (e.index ≤ high) × AllUpTo high (above low es)
unfolding AllUpTo
above_cases low high e es le within = elim (cases_lt low e.index) [
  | inl over ↦ subst (λ b. AllUpTo high (cond b (e ∷ above low es) (above low es))) (lt-ltb low e.index over) within
  | inr under ↦ (omega arith, subst (λ b. AllUpTo high (cond b (e ∷ above low es) (above low es))) (le-ltb low e.index under) within)
]

pub up_to_above : (low high : ℕ) (es : List LogEntry) → low ≤ high → AllUpTo high (above low es) → AllUpTo high es
unfolding AllUpTo
up_to_above low high [] le within = tt
up_to_above low high (e ∷ es) le within = let two = above_cases low high e es le within in (two.0, up_to_above low high es le two.1)

-- ---- what applying leaves

pub mark_after : (s : MapState) (es : List LogEntry) → (map_applied_all s es).mark.index ≡ last_of s.mark.index es
mark_after s [] = refl
mark_after s (e ∷ es) = mark_after (map_applied s e) es

pub applied_all_is : (h : Option HardState) (s : MapState) (es : List LogEntry) → durable_of h (map_applied_all s es) ≡ applied_all (durable_of h s) es
applied_all_is h s [] = refl
applied_all_is h s (e ∷ es) = applied_all_is h (map_applied s e) es ∙ ap (λ d. applied_all d es) (applied_is h s e)

module _ (l : Log) (s : MapState) (es : List LogEntry) (left : IsLeft l s es) where
  pub left_is : (h : Option HardState) → durable l h s ≡ Some (applied_all (durable_of h s) es)
  left_is h = found_is l h s es left.purged left.are ∙ ap (λ b. if b then Some (applied_all (durable_of h s) es) else None) left.run

  pub left_in_order : out_of_order s.mark.index es ≡ None
  left_in_order = rising_in_order s.mark.index es (run_rises s.mark.index es left.run)

  pub left_caught_up : IsCaughtUp l (map_applied_all s es)
  left_caught_up =
      let ends = rising_up_to s.mark.index es (run_rises s.mark.index es left.run) in
      let mark : (map_applied_all s es).mark.index ≡ last_of s.mark.index es = mark_after s es in
      record {
        purged = omega (arith, left.purged, ends.0);
        applied = none_above (map_applied_all s es).mark.index l.entries (subst (λ n. AllUpTo n l.entries) (sym mark)
            (up_to_above s.mark.index (last_of s.mark.index es) l.entries ends.0 (subst (λ x. AllUpTo (last_of s.mark.index es) x) (sym left.are) ends.1)));
      }

  pub left_again : (h : Option HardState) → durable l h (map_applied_all s es) ≡ Some (applied_all (durable_of h s) es)
  left_again h = durable_is l h (map_applied_all s es) left_caught_up ∙ ap (λ d. Some d) (applied_all_is h s es)

  pub left_applied : (h : Option HardState) → durable l h s ≡ Some (durable_of h (map_applied_all s es))
  left_applied h = left_is h ∙ ap (λ d. Some d) (sym (applied_all_is h s es))

-- ---- what a state machine that was started leaves

-- what is left to apply, of the same map
pub started_left : (l : Log) (s started : MapState) (es : List LogEntry) → started ≡ s → IsLeft l s es → IsLeft l started es
started_left l s started es same left = subst (λ m. IsLeft l m es) (sym same) left

-- and what they stand for, once all is applied
pub started_applied : (l : Log) (h : Option HardState) (s started new : MapState) (es : List LogEntry) (running : Run) (kv : Kv) → started ≡ s → IsLeft l s es
    → new ≡ map_applied_all started es → kv ≡ kv_of h new running → durable l h s ≡ Some kv.durable
started_applied l h s started new es running kv same left applied_is kv_is =
    ap (λ m. durable l h m) (sym same)
    ∙ left_applied l started es (started_left l s started es same left) h
    ∙ ap (λ m. Some (durable_of h m)) (sym applied_is)
    ∙ ap (λ (k : Kv). Some k.durable) (sym kv_is)

module _ (holdsG : Files → Option Log) (holdsT : Files → Option (Option HardState)) (holdsM : Files → Option MapState) where
  -- nothing was done: files at rest stand for what they did
  pub survives_still : (images : ℕ → Files → Type 0) (now : ℕ) (content : Content) (l : Log) (h : Option HardState) (s : MapState) (kv : Kv) → durable l h s ≡ Some kv.durable
      → ((files : Files) → images now files ↔ IsImage content files)
      → ((files : Files) → IsImage content files → holdsG files ≡ Some l) → ((files : Files) → IsImage content files → holdsT files ≡ Some h) → ((files : Files) → IsImage content files → holdsM files ≡ Some s)
      → Survives (λ files. joined (holdsG files) (holdsT files) (holdsM files)) images now now [] kv []
  survives_still images now content l h s kv is law log meta state = stays (λ files. joined (holdsG files) (holdsT files) (holdsM files)) images now now kv (record {
    each = λ t files begun ended at.
        let same : t ≡ now = omega arith in
        let image = (law files).0 (subst (λ n. images n files) same at) in
        joined_is (holdsG files) (holdsT files) (holdsM files) l h s (log files image) (meta files image) (state files image) ∙ is;
  })

  -- the map took up what was left, or did not: the files stand for the same
  pub survives_catching_up : (old_at new_at : ℕ → Files → Type 0) (from to : ℕ) (content : Content) (l : Log) (h : Option HardState) (s started : MapState) (es : List LogEntry) (kv : Kv)
      → started ≡ s → IsLeft l s es → durable l h s ≡ Some kv.durable
      → ((files : Files) → old_at from files ↔ IsImage content files)
      → ((files : Files) → IsImage content files → holdsG files ≡ Some l) → ((files : Files) → IsImage content files → holdsT files ≡ Some h)
      → ((one other : Files) → SameOf log_family one other → holdsG other ≡ holdsG one) → ((one other : Files) → SameOf meta_family one other → holdsT other ≡ holdsT one)
      → SparesImages state_family old_at new_at from to → OldOrNew holdsM new_at from to started (map_applied_all started es)
      → Survives (λ files. joined (holdsG files) (holdsT files) (holdsM files)) new_at from to [] kv []
  survives_catching_up old_at new_at from to content l h s started es kv same left is law log meta own_log own_meta spares moves =
      let left_there = started_left l s started es same left in
      let old : durable l h started ≡ Some kv.durable = ap (λ m. durable l h m) same ∙ is in
      let new : durable l h (map_applied_all started es) ≡ Some kv.durable = left_again l started es left_there h ∙ sym (left_is l started es left_there h) ∙ old in
      let holds : Files → Option Durable = λ files. joined (holdsG files) (holdsT files) (holdsM files) in
      stays holds new_at from to kv (same_gives holds new_at from to kv.durable (state_moves holdsG holdsT holdsM new_at from to l h started (map_applied_all started es) kv.durable kv.durable old new
      (spared holdsG state_family log_family old_at new_at from to l log_state own_log (gives_now holdsG (λ c. c ≡ content) old_at from content l law (λ files rest image. log files image) refl) spares)
      (spared holdsT state_family meta_family old_at new_at from to h meta_state own_meta (gives_now holdsT (λ c. c ≡ content) old_at from content h law (λ files rest image. meta files image) refl) spares)
      moves))

-- ---- the last term and index

swapped_term : (b : Bool) (d : Durable) (key value : List ℕ) (term : ℕ) → (if b then with_pair d key value term else d).term ≡ d.term
swapped_term true d key value term = refl
swapped_term false d key value term = refl

carried_term : (d : Durable) (term moment : ℕ) (command : Command) → (carried_out d term moment command).term ≡ d.term
carried_term d term moment Noop = refl
carried_term d term moment (Insert key value ttl_secs) = refl
carried_term d term moment (Delete key) = refl
carried_term d term moment (CompareAndSwap key expected value) = swapped_term (succeeds d (CompareAndSwap key expected value)) d key value term

pub ends_of : (d : Durable) (es : List LogEntry) → ((applied_all d es).term ≡ d.term) × ((applied_all d es).last_index ≡ last_of d.last_index es)
ends_of d [] = (refl, refl)
ends_of d (e ∷ es) = let rest = ends_of (applied d e) es in (rest.0 ∙ carried_term d e.term e.moment e.command, rest.1)

-- ---- what is refused

refusal_at : (place : ℕ) (agree lease : Bool) (d : Durable) → refusal_for lease (or_corrupt (record { place = place; offset = 0 }) (if agree then Some d else None)) ≡ refusal_by place agree lease (is_exhausted d)
refusal_at place true lease d = refl
refusal_at place false lease d = refl

durable_by : (l : Log) (h : Option HardState) (s : MapState) (es : List LogEntry) → above s.mark.index l.entries ≡ es
    → durable l h s ≡ (if agrees l s.mark.index es then Some (applied_all (durable_of h s) es) else None)
unfolding durable
durable_by l h s es are = ap (λ x. if nat_le (floor l) s.mark.index && gapless_from (s.mark.index + 1) x then Some (applied_all (durable_of h s) x) else None) are

pub refusal_is : (leased : Bool) (place : ℕ) (l : Log) (h : Option HardState) (s : MapState) (es : List LogEntry) → above s.mark.index l.entries ≡ es
    → opening_refusal leased place l h s
    ≡ refusal_by place (agrees l s.mark.index es) (not leased && (has_expiry s || asks_lease es)) ((term_of h == 2 ^ 64 - 1) || (last_of s.mark.index es == 2 ^ 64 - 1))
refusal_is leased place l h s es are =
    let ends = ends_of (durable_of h s) es in
    let lease = not leased && (has_expiry s || asks_lease es) in
    let corrupt : Corruption = record { place = place; offset = 0 } in
    ap (λ x. refusal_for (not leased && (has_expiry s || asks_lease x)) (or_corrupt corrupt (durable l h s))) are
    ∙ ap (λ d. refusal_for lease (or_corrupt corrupt d)) (durable_by l h s es are)
    ∙ refusal_at place (agrees l s.mark.index es) lease (applied_all (durable_of h s) es)
    ∙ ap (λ n. refusal_by place (agrees l s.mark.index es) lease ((n == 2 ^ 64 - 1) || ((applied_all (durable_of h s) es).last_index == 2 ^ 64 - 1))) ends.0
    ∙ ap (λ n. refusal_by place (agrees l s.mark.index es) lease ((term_of h == 2 ^ 64 - 1) || (n == 2 ^ 64 - 1))) ends.1

-- where nothing is
unrefused : (place : ℕ) (agree lease exhausted : Bool) → refusal_by place agree lease exhausted ≡ None → (agree ≡ true) × (lease ≡ false)
unrefused place true false exhausted none = (refl, refl)
unrefused place true true exhausted none = cc
unrefused place false lease exhausted none = cc

-- where none is lacking, no entry lacks one
unlacked : (leased has asks : Bool) → (not leased && (has || asks)) ≡ false → (asks && not leased) ≡ false
unlacked true has true none = refl
unlacked true has false none = refl
unlacked false has false none = refl
unlacked false true true none = cc
unlacked false false true none = cc

module _ (leased : Bool) (place : ℕ) (l : Log) (h : Option HardState) (s : MapState) (mark : ℕ) (es : List LogEntry) (lease : Bool) (result : Option Error) (is_mark : mark ≡ s.mark.index) (are : es ≡ above mark l.entries)
    (is_lease : lease ≡ (not leased && (has_expiry s || asks_lease es)))
    (is : result ≡ refusal_by place (agrees l mark es) lease ((term_of h == 2 ^ 64 - 1) || (last_of mark es == 2 ^ 64 - 1))) where
  here : above s.mark.index l.entries ≡ es
  here = ap (λ n. above n l.entries) (sym is_mark) ∙ sym are

  same : refusal_by place (agrees l s.mark.index es) (not leased && (has_expiry s || asks_lease es)) ((term_of h == 2 ^ 64 - 1) || (last_of s.mark.index es == 2 ^ 64 - 1)) ≡ result
  same = ap (λ n. refusal_by place (agrees l n es) (not leased && (has_expiry s || asks_lease es)) ((term_of h == 2 ^ 64 - 1) || (last_of n es == 2 ^ 64 - 1))) (sym is_mark)
      ∙ ap (λ b. refusal_by place (agrees l mark es) b ((term_of h == 2 ^ 64 - 1) || (last_of mark es == 2 ^ 64 - 1))) (sym is_lease) ∙ sym is

  pub refused_here : opening_refusal leased place l h s ≡ result
  refused_here = refusal_is leased place l h s es here ∙ same

  free : result ≡ None → (agrees l s.mark.index es ≡ true) × ((not leased && (has_expiry s || asks_lease es)) ≡ false)
  free none = unrefused place (agrees l s.mark.index es) (not leased && (has_expiry s || asks_lease es)) ((term_of h == 2 ^ 64 - 1) || (last_of s.mark.index es == 2 ^ 64 - 1)) (same ∙ none)

  pub left_here : result ≡ None → IsLeft l s es
  left_here none =
      let two = both (nat_le (floor l) s.mark.index) (gapless_from (s.mark.index + 1) es) (free none).0 in
      record { purged = leb-true (floor l) s.mark.index two.0; are = here; run = two.1 }

  pub free_here : result ≡ None → lacks_lease leased es ≡ false
  free_here none = unlacked leased (has_expiry s) (asks_lease es) (free none).1

pub none_some : {X : Type 0} (o : Option X) → o ≡ None → IsSome o → ⊥
none_some None none some = cc
none_some (Some x) none some = cc

-- behind the tests only the disk refuses
pub refused_later : {T : Type 0} (r : Result T Error) (rose : Type 0) (most : ℕ) (refusal : Option Error) → refusal ≡ None
    → IfErr r (λ e. IsRefusal rose most e) → IfErr r (λ e. IsOpeningFailure rose most refusal e)
refused_later (Ok x) rose most refusal none is = tt
refused_later (Err e) rose most refusal none is = inr (inr (none, is))

-- the term and the index of what they stand for
pub ends_here : (l : Log) (h : Option HardState) (s : MapState) (es : List LogEntry) (d : Durable) → IsLeft l s es → durable l h s ≡ Some d → (d.term ≡ term_of h) × (d.last_index ≡ last_of s.mark.index es)
ends_here l h s es d left is =
    let both_are : Some d ≡ Some (applied_all (durable_of h s) es) = sym is ∙ left_is l s es left h in
    let same : d ≡ applied_all (durable_of h s) es = cc in
    let ends = ends_of (durable_of h s) es in
    (ap (λ (x : Durable). x.term) same ∙ ends.0, ap (λ (x : Durable). x.last_index) same ∙ ends.1)

pub room_here : (l : Log) (h : Option HardState) (s : MapState) (mark : ℕ) (es : List LogEntry) (d : Durable) → mark ≡ s.mark.index → IsLeft l s es
    → (term_of h < 2 ^ 64 - 1) × (last_of mark es < 2 ^ 64 - 1) → durable l h s ≡ Some d → (d.term < 2 ^ 64 - 1) × (d.last_index < 2 ^ 64 - 1)
room_here l h s mark es d is_mark left room is =
    let ends = ends_here l h s es d left is in
    (subst (λ n. n < 2 ^ 64 - 1) (sym ends.0) room.0, subst (λ n. n < 2 ^ 64 - 1) (ap (λ n. last_of n es) is_mark ∙ sym ends.1) room.1)
