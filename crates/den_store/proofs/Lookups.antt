-- Where the entry of an index stands.
use Rattle.std.proofs.Common.{◌≡◌, ℕ, ◌<◌, ◌≤◌, inl, inr, true, cond, List, [], ◌∷◌, length, drop, Option, Some, None, refl, sym, ap, ◌∙◌, arith, ne_eqb, get_or, length-drop}
use Rattle.std.specs.Prelude.{nat_lt, nat_le, nat_eq}
use Rattle.std.specs.List.{filter}
use Rattle.std.proofs.lemmas.Bool.{and_parts, ltb-true, leb-false, leb-true, eq-eqb, cond-true, cond-false, cases_Bool}
use Rattle.std.proofs.lemmas.List.{drop_more}
use Rattle.den_model.specs.Entries.{LogEntry, rise_above}
use Rattle.den_store.specs.Lookup.{entry_of}

-- the first of these entries, if it has this index
abbrev head_at : ℕ → List LogEntry → Option LogEntry
head_at index [] = None
head_at index (e ∷ es) = cond (nat_eq e.index index) (Some e) None

head_none : (i : ℕ) (es : List LogEntry) → length es ≤ 0 → head_at i es ≡ None
head_none i [] none = refl
head_none i (e ∷ es) none = absurd (omega arith)

none_above : (i a : ℕ) (es : List LogEntry) → i ≤ a → rise_above a es ≡ true → entry_of i es ≡ None
none_above i a [] le rise = refl
none_above i a (e ∷ es) le rise =
    let p = and_parts (nat_lt a e.index) (rise_above e.index es) rise in
    let up : a < e.index = ltb-true a e.index p.0 in
    cond-false (nat_eq e.index i) (Some e) (entry_of i es) (ne_eqb e.index i (λ same. absurd (omega (arith, same)))) ∙ none_above i e.index es (omega arith) p.1

at_head : (i a : ℕ) (es : List LogEntry) → rise_above a es ≡ true → entry_of i es ≡ head_at i (filter (λ (e : LogEntry). nat_le i e.index) es)
at_head i a [] rise = refl
at_head i a (e ∷ es) rise =
    let p = and_parts (nat_lt a e.index) (rise_above e.index es) rise in
    let rest = filter (λ (x : LogEntry). nat_le i x.index) es in
    elim (cases_Bool (nat_le i e.index)) [
      | inl from ↦
          let le : i ≤ e.index = leb-true i e.index from in
          ap (λ (o : Option LogEntry). cond (nat_eq e.index i) (Some e) o) (none_above i e.index es le p.1)
          ∙ ap (head_at i) (sym (cond-true (nat_le i e.index) (e ∷ rest) rest from))
      | inr before ↦
          let lt : e.index < i = omega (arith, leb-false i e.index before) in
          cond-false (nat_eq e.index i) (Some e) (entry_of i es) (ne_eqb e.index i (λ same. absurd (omega (arith, same)))) ∙ at_head i e.index es p.1
          ∙ ap (head_at i) (sym (cond-false (nat_le i e.index) (e ∷ rest) rest before))
    ]

module _ (i k a : ℕ) (es : List LogEntry) (rise : rise_above a es ≡ true) (cut : drop k es ≡ filter (λ (e : LogEntry). nat_le i e.index) es) where
  at_cut : entry_of i es ≡ head_at i (drop k es)
  at_cut = at_head i a es rise ∙ ap (head_at i) (sym cut)

  pub past_all : length es ≤ k → entry_of i es ≡ None
  past_all past = at_cut ∙ head_none i (drop k es) (omega (arith, length-drop k es))

  module _ (e : LogEntry) (lt : k < length es) (is : e ≡ get_or es k e) where
    at_entry : entry_of i es ≡ cond (nat_eq e.index i) (Some e) None
    at_entry = at_cut ∙ ap (head_at i) (drop_more es k e lt) ∙ ap (λ (x : LogEntry). cond (nat_eq x.index i) (Some x) None) (sym is)

    pub past_it : (e.index ≡ i → ⊥) → entry_of i es ≡ None
    past_it other = at_entry ∙ cond-false (nat_eq e.index i) (Some e) None (ne_eqb e.index i other)

    pub found_it : e.index ≡ i → entry_of i es ≡ Some e
    found_it same = at_entry ∙ cond-true (nat_eq e.index i) (Some e) None (eq-eqb e.index i same)
