-- A log whose entries the map has all: how long it is, and what a purge up to the map's mark leaves of it.
use Rattle.std.proofs.Common.{◌≡◌, ℕ, ◌≤◌, ◌<◌, ◌+◌, ◌-◌, ℤ, ◌==◌, ◌||◌, not, Bool, true, false, List, [], ◌∷◌, ◌++◌, length, Option, Some, None, cond, nat_lt, if◌then◌else◌, inl, inr, refl, sym, ◌∙◌, ap, subst, arith, length-append}
use Rattle.std.specs.List.{All}
use Rattle.std.proofs.lemmas.Bool.{and_parts, cases_lt, eq-eqb, eqb-true, le-ltb, lt-ltb, ltb-false, ltb-true}
use Rattle.std.proofs.lemmas.List.Elements.{All-nil, All-cons, All-head, All-tail}
use Rattle.den_model.specs.declared.log_id.LogId.{LogId}
use Rattle.den_model.specs.declared.region.LogRegion.TheVariants.{Append, Purge}
use Rattle.den_model.specs.Entries.{LogEntry, rise_above}
use Rattle.den_model.specs.Grown.{HasTermOf, IsPurgedUpTo}
use Rattle.den_model.specs.Log.{Log, above, below, changed, floor, last_index, last_of}
use Rattle.den_model.specs.MapState.{MapState, map_applied}
use Rattle.den_model.specs.Step.{is_leader}
use Rattle.den_model.specs.Spelling.{log_region_word, u64_word}
use Rattle.den_model.proofs.Numbers.{length_u64_word}
use Rattle.den_journal.specs.Drafts.{anew_words, IsSizeOf}
use Rattle.den_store.specs.Changes.{purge_words}
use Rattle.den_store.specs.Lookup.{entry_of, rest_region}
use Rattle.den_store.specs.Order.{IsInOrder}
use Rattle.den_core.specs.Parts.{IsCaughtUp}
use Rattle.den_core.specs.Trimmed.{last_id, last_term_of, logged_after, opened_log, trimmed}
use Rattle.den_core.proofs.CatchUp.{rising_up_to}
use Rattle.den_core.proofs.Durables.{AllUpTo, none_above, up_to, up_to_more}
use Rattle.den_core.proofs.Weighing.{one_size}

-- ---- how many entries there are

-- entries that rise are at most as many as the indices
rising_many : (index : ℕ) (es : List LogEntry) → rise_above index es ≡ true → index + length es ≤ last_of index es
rising_many index [] rises = omega arith
rising_many index (e ∷ es) rises =
    let two = and_parts (nat_lt index e.index) (rise_above e.index es) rises in
    omega (arith, ltb-true index e.index two.0, rising_many e.index es two.1)

pub floor_below : (l : Log) → IsInOrder l → floor l ≤ last_index l
floor_below l order = omega (arith, rising_many (floor l) l.entries order.rises)

-- by the last index and the boundary
pub few_entries : (l : Log) (most : ℕ) → IsInOrder l → nat_lt most (last_index l - floor l) ≡ false → length l.entries ≤ most
few_entries l most order few = omega (arith, ltb-false most (last_index l - floor l) few, rising_many (floor l) l.entries order.rises)

-- ---- a purge up to the mark

last_up_to : (most index : ℕ) (es : List LogEntry) → index ≤ most → AllUpTo most es → last_of index es ≤ most
unfolding AllUpTo
last_up_to most index [] le within = le
last_up_to most index (e ∷ es) le within = last_up_to most e.index es within.0 within.1

-- a log whose entries the map has all ends at the mark or before it
pub last_within : (l : Log) (s : MapState) → IsCaughtUp l s → last_index l ≤ s.mark.index
last_within l s caught = last_up_to s.mark.index (floor l) l.entries caught.purged (up_to s.mark.index l.entries caught.applied)

-- a log that is too long has entries, none of them above the id
pub mark_above : (l : Log) (id : LogId) (most : ℕ) → last_index l ≤ id.index → nat_lt most (last_index l - floor l) ≡ true → floor l < id.index
mark_above l id most last long = omega (arith, last, ltb-true most (last_index l - floor l) long)

-- where the last index is at most this one, no entry is above it
pub none_behind : (l : Log) (index : ℕ) → IsInOrder l → last_index l ≤ index → above index l.entries ≡ []
none_behind l index order last =
    none_above index l.entries (up_to_more (last_index l) index l.entries last (rising_up_to (floor l) l.entries order.rises).1)

-- no entry, behind a boundary
bare : LogId → Log
bare id = record { boundary = Some id; entries = [] }

module _ (l : Log) (id : LogId) (none : above id.index l.entries ≡ []) (over : floor l < id.index) where
  bare_is : changed l (Purge id.index id.term) ≡ bare id
  unfolding bare
  bare_is =
      ap (λ b. if b then record { boundary = Some id; entries = above id.index l.entries } else l) (lt-ltb (floor l) id.index over)
      ∙ ap (λ (es : List LogEntry). let x : Log = record { boundary = Some id; entries = es } in x) none

  module _ (new : Log) (is : new ≡ changed l (Purge id.index id.term)) where
    pub trimmed_caught_up : (s : MapState) → id.index ≤ s.mark.index → IsCaughtUp new s
    unfolding bare
    trimmed_caught_up s within = subst (λ x. IsCaughtUp x s) (sym (is ∙ bare_is)) (record { purged = within; applied = refl })

    pub trimmed_short : (most : ℕ) → length new.entries ≤ most
    unfolding bare
    trimmed_short most = subst (λ (x : Log). length x.entries ≤ most) (sym (is ∙ bare_is)) (omega arith)

    pub trimmed_is : (most : ℕ) → id.index ≤ most → HasTermOf l id → IsPurgedUpTo most l new
    trimmed_is most within ends = inr (id, over, within, ends, is)

-- the payload of a purge up to an id, above which no entry is held: none is left
pub trimmed_words : (l : Log) (id : LogId) → above id.index l.entries ≡ [] → (n : ℕ) → IsSizeOf (purge_words l id) n → n ≤ 17
trimmed_words l id none n size =
    let one = one_size (log_region_word (Purge id.index id.term)) n (subst (λ (es : List LogEntry). IsSizeOf (anew_words log_region_word (Purge id.index id.term) (rest_region es)) n) none size) in
    omega (arith, one, length-append (u64_word id.index) (u64_word id.term), length_u64_word id.index, length_u64_word id.term)

-- ---- the last entry of a log

-- an entry that is found has the index, and what all have
found_in : (P : LogEntry → Type 0) (i : ℕ) (b : Bool) (x e : LogEntry) (rest : Option LogEntry) → (x.index == i) ≡ b → cond b (Some x) rest ≡ Some e → P x → (rest ≡ Some e → (e.index ≡ i) × P e)
    → (e.index ≡ i) × P e
found_in P i true x e rest same found has more =
    let is : x ≡ e = cc in
    (subst (λ (y : LogEntry). y.index ≡ i) is (eqb-true x.index i same), subst P is has)
found_in P i false x e rest same found has more = more found

found_one : (P : LogEntry → Type 0) (i : ℕ) (es : List LogEntry) (e : LogEntry) → All P es → entry_of i es ≡ Some e → (e.index ≡ i) × P e
found_one P i [] e all found = cc
found_one P i (x ∷ es) e all found =
    found_in P i (x.index == i) x e (entry_of i es) refl found (All-head P x es all) (found_one P i es e (All-tail P x es all))

-- the last of some entries is found
none_in : (b : Bool) (x : LogEntry) (rest : Option LogEntry) → cond b (Some x) rest ≡ None → rest ≡ None
none_in true x rest none = cc
none_in false x rest none = none

last_found : (index : ℕ) (es : List LogEntry) → 1 ≤ length es → entry_of (last_of index es) es ≡ None → ⊥
last_found index [] some none = absurd (omega arith)
last_found index (e ∷ []) some none =
    let is : Some e ≡ None = sym (ap (λ b. cond b (Some e) None) (eq-eqb e.index e.index refl)) ∙ none in cc
last_found index (e ∷ x ∷ es) some none =
    last_found e.index (x ∷ es) (omega arith) (none_in (e.index == last_of x.index es) e (entry_of (last_of x.index es) (x ∷ es)) none)

long_some : (index most : ℕ) (es : List LogEntry) → nat_lt most (last_of index es - index) ≡ true → 1 ≤ length es
long_some index most [] long = omega (arith, ltb-true most (index - index) long)
long_some index most (e ∷ es) long = omega arith

-- where the last is not found none is held
pub none_last : (index : ℕ) (es : List LogEntry) → entry_of (last_of index es) es ≡ None → es ≡ []
none_last index [] none = refl
none_last index (e ∷ es) none = absurd (last_found index (e ∷ es) (omega arith) none)

-- one that is too long holds entries
pub long_holds : (l : Log) (most : ℕ) → nat_lt most (last_index l - floor l) ≡ true → l.entries ≡ [] → ⊥
long_holds l most long none = omega (arith, long_some (floor l) most l.entries long, ap length none)

-- each entry of the last index has the last term
last_terms : (index term : ℕ) (es : List LogEntry) → rise_above index es ≡ true
    → All (λ (e : LogEntry). e.index ≡ last_of index es → e.term ≡ last_term_of term es) es
last_terms index term [] rises = All-nil (λ (e : LogEntry). e.index ≡ index → e.term ≡ term)
last_terms index term (e ∷ []) rises =
    let P : LogEntry → Type 0 = λ x. x.index ≡ e.index → x.term ≡ e.term in
    All-cons P e [] (λ same. refl) (All-nil P)
last_terms index term (e ∷ x ∷ es) rises =
    let two = and_parts (nat_lt index e.index) (rise_above e.index (x ∷ es)) rises in
    All-cons (λ (y : LogEntry). y.index ≡ last_of x.index es → y.term ≡ last_term_of x.term es) e (x ∷ es)
    (λ same. absurd (omega (arith, same, rising_many e.index (x ∷ es) two.1)))
    (last_terms e.index e.term (x ∷ es) two.1)

pub ends_last : (l : Log) → IsInOrder l → HasTermOf l (last_id l)
ends_last l order = last_terms (floor l) 0 l.entries order.rises

-- the last entry that is found
pub last_id_is : (l : Log) (e : LogEntry) → IsInOrder l → entry_of (last_index l) l.entries ≡ Some e → (let x : LogId = record { index = e.index; term = e.term } in x) ≡ last_id l
last_id_is l e order found =
    let two = found_one (λ (x : LogEntry). x.index ≡ last_index l → x.term ≡ last_term_of 0 l.entries) (last_index l) l.entries e (ends_last l order) found in
    ap (λ n. let x : LogId = record { index = n; term = e.term } in x) two.0
    ∙ ap (λ n. let x : LogId = record { index = last_index l; term = n } in x) (two.1 two.0)

-- ---- the log of an engine as it was opened

elim_still : (led long : Bool) (l purged : Log) → (led || not long) ≡ true → l ≡ (if led then l else if long then purged else l)
elim_still true long l purged still = refl
elim_still false true l purged still = cc
elim_still false false l purged still = refl

-- of one that leads, or whose log is short
pub opened_still : (role : ℤ) (most : ℕ) (l : Log) (leads long : Bool) → leads ≡ is_leader role → long ≡ nat_lt most (last_index l - floor l) → (leads || not long) ≡ true → l ≡ opened_log role most l
opened_still role most l leads long is_led is_long still =
    elim_still (is_leader role) (nat_lt most (last_index l - floor l)) l (changed l (Purge (last_id l).index (last_id l).term))
    (subst (λ b. (b || not (nat_lt most (last_index l - floor l))) ≡ true) is_led (subst (λ b. (leads || not b) ≡ true) is_long still))

pub not_led : (leads long : Bool) → (leads || not long) ≡ false → leads ≡ false
not_led true long is = is
not_led false long is = refl

not_long : (leads long : Bool) → (leads || not long) ≡ true → leads ≡ false → long ≡ false
not_long true long still never = cc
not_long false true still is = cc
not_long false false still is = refl

-- whose log is short, where it does not lead
pub stays_short : (role : ℤ) (l : Log) (most : ℕ) (leads long : Bool) → IsInOrder l → leads ≡ is_leader role → long ≡ nat_lt most (last_index l - floor l) → (leads || not long) ≡ true → is_leader role ≡ false
    → length l.entries ≤ most
stays_short role l most leads long order is_led is_long still follows = few_entries l most order (sym is_long ∙ not_long leads long still (is_led ∙ follows))

-- of one that does not
pub opened_trimmed : (role : ℤ) (most : ℕ) (l : Log) → is_leader role ≡ false → trimmed most (last_id l) l ≡ opened_log role most l
opened_trimmed role most l follows = sym (ap (λ b. if b then l else trimmed most (last_id l) l) follows)

-- ---- an entry that was applied

-- what the last of some entries is the only one to have
only_last : (P : LogEntry → Type 0) (e : LogEntry) (es : List LogEntry) → P e → ((x : LogEntry) → x.index < e.index → P x) → All P (below e.index es ++ e ∷ [])
only_last P e [] here others = All-cons P e [] here (All-nil P)
only_last P e (x ∷ es) here others = elim (cases_lt x.index e.index) [
  | inl under ↦ subst (λ b. All P (cond b (x ∷ below e.index es) (below e.index es) ++ e ∷ [])) (sym (lt-ltb x.index e.index under))
      (All-cons P x (below e.index es ++ e ∷ []) (others x under) (only_last P e es here others))
  | inr over ↦ subst (λ b. All P (cond b (x ∷ below e.index es) (below e.index es) ++ e ∷ [])) (sym (le-ltb x.index e.index over)) (only_last P e es here others)
]

-- the mark has the term of the entry that was applied last
pub ends_with : (l : Log) (s : MapState) (e : LogEntry) (new : Log) (applied : MapState) → new ≡ changed l (Append (e ∷ [])) → applied ≡ map_applied s e → HasTermOf new applied.mark
ends_with l s e new applied logged is =
    subst (λ x. HasTermOf x applied.mark) (sym logged)
    (subst (λ (m : MapState). HasTermOf (changed l (Append (e ∷ []))) m.mark) (sym is)
    (only_last (λ (x : LogEntry). x.index ≡ e.index → x.term ≡ e.term) e l.entries (λ same. refl) (λ x under same. absurd (omega (arith, under, same)))))

-- ---- the log behind a step

-- one that is not too long stays
pub stays_whole : (l : Log) (most : ℕ) (mark : LogId) → nat_lt most (last_index l - floor l) ≡ false → l ≡ trimmed most mark l
stays_whole l most mark few = sym (ap (λ b. if b then changed l (Purge mark.index mark.term) else l) few)

-- one that is too long was purged
pub purged_long : (l new : Log) (most : ℕ) (mark : LogId) → nat_lt most (last_index l - floor l) ≡ true → new ≡ changed l (Purge mark.index mark.term) → new ≡ trimmed most mark l
purged_long l new most mark long is = is ∙ sym (ap (λ b. if b then changed l (Purge mark.index mark.term) else l) long)

-- behind an entry that joined it
pub trimmed_behind : (old mid new : Log) (most same : ℕ) (mark now : LogId) (e : LogEntry) → same ≡ most → mark ≡ now → mid ≡ changed old (Append (e ∷ [])) → new ≡ trimmed same mark mid
    → new ≡ logged_after most now old (e ∷ [])
trimmed_behind old mid new most same mark now e same_most same_mark joined is =
    is ∙ ap (λ n. trimmed n mark mid) same_most ∙ ap (λ m. trimmed most m mid) same_mark ∙ ap (trimmed most now) joined
