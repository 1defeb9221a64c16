-- A walk that changes each item in its place.
use Rattle.std.proofs.Common.{◌≡◌, ℕ, zero, suc, Bool, true, ◌+◌, ◌<◌, ◌≤◌, List, [], ◌∷◌, ◌++◌, length, take, drop, get_or, set, map, sym, ap, ◌∙◌, arith}
use Rattle.std.proofs.lemmas.List.{drop_more, drop-set-lt, length-drop, map-append, take_all, take_more, take_more_set}
use Rattle.std.proofs.Math.Seq.{map-set_same}
use Rattle.std.specs.List.{list_any}
use Rattle.std.proofs.lemmas.Bool.{or_left, or_right}
use Rattle.den_model.specs.declared.watcher.Watcher.{Watcher}
use Rattle.den_watch.specs.Queues.{Queued, waiting_in, watchers_in}
use Rattle.den_watch.specs.Registry.{Waiting}

-- ys began as xs: its first items are what f makes of those of xs, and the rest is as it was
pub record MapsInPlace {X : Type 0} (f : X → X) (xs ys : List X) (i : ℕ) : Type 0 where
  pub front : take i ys ≡ map f (take i xs)
  pub rest : drop i ys ≡ drop i xs

-- where something is left of the one, something is left of the other
longer : {X : Type 0} (xs ys : List X) (i : ℕ) → drop i ys ≡ drop i xs → i < length ys → i < length xs
longer xs ys i e lt = omega (arith, ap length e, length-drop i ys, length-drop i xs)

-- one item on
pub maps_more : {X : Type 0} (f : X → X) (xs ys : List X) (i : ℕ) (d y : X) → MapsInPlace f xs ys i → i < length ys → y ≡ f (get_or ys i d) → MapsInPlace f xs (set ys i y) (i + 1)
maps_more f xs ys i d y m lt made =
    let there = longer xs ys i m.rest lt in
    let both = sym (drop_more ys i d lt) ∙ m.rest ∙ drop_more xs i d there in
    let same : get_or ys i d ≡ get_or xs i d = cc in
    let rest : drop (i + 1) ys ≡ drop (i + 1) xs = cc in
    record {
      front = take_more_set ys i y lt ∙ ap (λ l. l ++ y ∷ []) m.front ∙ ap (λ z. map f (take i xs) ++ z ∷ []) (made ∙ ap f same)
          ∙ sym (ap (map f) (take_more xs i d there) ∙ map-append f (take i xs) (get_or xs i d ∷ []));
      rest = drop-set-lt (i + 1) ys i y (omega arith) ∙ rest;
    }

-- at the end
pub maps_all : {X : Type 0} (f : X → X) (xs ys : List X) (i : ℕ) → MapsInPlace f xs ys i → length ys ≤ i → ys ≡ map f xs
maps_all f xs ys i m le =
    let none : length xs ≤ i = omega (arith, ap length m.rest, length-drop i ys, length-drop i xs) in
    sym (take_all i ys le) ∙ m.front ∙ ap (map f) (take_all i xs none)

-- a watcher for whom the same waits changes nothing of what waits
pub waiting_set : (qs : List Queued) (i : ℕ) (d p : Queued) → p.waiting ≡ (get_or qs i d).waiting → waiting_in (set qs i p) ≡ waiting_in qs
waiting_set qs i d p same = map-set_same (λ (q : Queued). q.waiting) qs i p d same

-- a test that the watcher at an index passes, one passes
any_item : (p : Watcher → Bool) (qs : List Queued) (i : ℕ) (d : Queued) → i < length qs → p (get_or qs i d).waiting.watcher ≡ true → list_any p (watchers_in qs) ≡ true
any_item p [] i d lt at = absurd (omega arith)
any_item p (q ∷ qs) zero d lt at = or_left (p q.waiting.watcher) (list_any p (watchers_in qs)) at
any_item p (q ∷ qs) (suc i) d lt at = or_right (p q.waiting.watcher) (list_any p (watchers_in qs)) (any_item p qs i d (omega arith) at)

-- also where the walk began, if the same waits
pub any_item_at_first : (p : Watcher → Bool) (qs first : List Queued) (i : ℕ) (d : Queued) → waiting_in qs ≡ waiting_in first → i < length qs → p (get_or qs i d).waiting.watcher ≡ true → list_any p (watchers_in first) ≡ true
any_item_at_first p qs first i d same lt at = ap (λ (ws : List Waiting). list_any p (map (λ (w : Waiting). w.watcher) ws)) (sym same) ∙ any_item p qs i d lt at
