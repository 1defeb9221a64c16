-- What a list of payloads gives with one payload more.
use Rattle.std.proofs.Common.{◌≡◌, ◌⊎◌, inl, inr, ℕ, ◌+◌, ◌<◌, ◌≤◌, List, [], ◌∷◌, ◌++◌, length, take, drop, Option, Some, None, Result, Ok, Err, refl, sym, ap, ◌∙◌, take-append-drop}
use Rattle.std.specs.Prelude.{slice_get}
use Rattle.std.proofs.lemmas.Bool.{cases_lt}
use Rattle.std.proofs.lemmas.List.{drop_more, take_more, take_all}
use Rattle.std.proofs.lemmas.Option.{slice_get_within, get_or_from_slice_get, slice_get-get_or}
use Rattle.den_model.specs.Regions.{Region, placed}
use Rattle.den_journal.specs.Folding.{IsFold, end_from}

pub placed_append : (offset : ℕ) (ps more : List (List ℕ)) → placed offset (ps ++ more) ≡ placed offset ps ++ placed (end_from offset ps) more
placed_append offset [] more = refl
placed_append offset (q ∷ ps) more =
    let first : Region = record { offset = offset; payload = q } in
    ap (λ (rs : List Region). first ∷ rs) (placed_append (offset + (9 + length q)) ps more)

-- ---- a fold over regions

module _ {V : Type 0} (after : V → List ℕ → Option V) (from : V → List Region → Result V ℕ) (folds : IsFold after from) where
  read_one : (v w : V) (r : Region) (rs more : List Region) → from v (r ∷ rs) ≡ Ok w → ((u : V) → from u rs ≡ Ok w → from u (rs ++ more) ≡ from w more) → (next : Option V) → after v r.payload ≡ next
      → from v (r ∷ (rs ++ more)) ≡ from w more
  read_one v w r rs more is on None e =
      let bad : ◌≡◌ {A = Result V ℕ} (Err r.offset) (Ok w) = sym (folds.stops v r rs e) ∙ is in
      absurd (cc bad)
  read_one v w r rs more is on (Some u) e = folds.goes_on v u r (rs ++ more) e ∙ on u (sym (folds.goes_on v u r rs e) ∙ is)

  -- a value is read on from what was read before it
  read_on : (v w : V) (rs more : List Region) → from v rs ≡ Ok w → from v (rs ++ more) ≡ from w more
  read_on v w [] more is =
      let here : ◌≡◌ {A = Result V ℕ} (Ok v) (Ok w) = sym (folds.stays v) ∙ is in
      let same : v ≡ w = cc here in
      ap (λ (x : V). from x more) same
  read_on v w (r ∷ rs) more is = read_one v w r rs more is (λ u then. read_on u w rs more then) (after v r.payload) refl

  module _ (empty : V) where
    -- one lawful payload more
    pub grows : (ps : List (List ℕ)) (p : List ℕ) (v w : V) → from empty (placed 0 ps) ≡ Ok v → after v p ≡ Some w → from empty (placed 0 (ps ++ p ∷ [])) ≡ Ok w
    grows ps p v w is next =
        let last : Region = record { offset = end_from 0 ps; payload = p } in
        ap (from empty) (placed_append 0 ps (p ∷ [])) ∙ read_on empty v (placed 0 ps) (last ∷ []) is ∙ folds.goes_on v w last [] next ∙ folds.stays w

    module _ (rs : List Region) (k : ℕ) (v : V) (so_far : from empty (take k rs) ≡ Ok v) where
      -- no region is left
      pub ends : slice_get rs k ≡ None → from empty rs ≡ Ok v
      ends none = ap (from empty) (sym (take_all k rs (past (cases_lt k (length rs))))) ∙ so_far
        where
          past : (k < length rs) ⊎ (length rs ≤ k) → length rs ≤ k
          past (inl lt) = absurd (cc (slice_get-get_or rs k (record { offset = 0; payload = [] }) lt, none))
          past (inr ge) = ge

      module _ (r : Region) (here : slice_get rs k ≡ Some r) where
        pub goes_on : (w : V) → after v r.payload ≡ Some w → from empty (take (k + 1) rs) ≡ Ok w
        goes_on w next =
            let more : take (k + 1) rs ≡ take k rs ++ r ∷ [] = take_more rs k r (slice_get_within rs k r here) ∙ ap (λ (x : Region). take k rs ++ x ∷ []) (get_or_from_slice_get rs k r r here) in
            ap (from empty) more ∙ read_on empty v (take k rs) (r ∷ []) so_far ∙ folds.goes_on v w r [] next ∙ folds.stays w

        pub stops : after v r.payload ≡ None → from empty rs ≡ Err r.offset
        stops next =
            let behind : drop k rs ≡ r ∷ drop (k + 1) rs = drop_more rs k r (slice_get_within rs k r here) ∙ ap (λ (x : Region). x ∷ drop (k + 1) rs) (get_or_from_slice_get rs k r r here) in
            let cut : rs ≡ take k rs ++ r ∷ drop (k + 1) rs = sym (take-append-drop k rs) ∙ ap (λ (x : List Region). take k rs ++ x) behind in
            ap (from empty) cut ∙ read_on empty v (take k rs) (r ∷ drop (k + 1) rs) so_far ∙ folds.stops v r (drop (k + 1) rs) next
