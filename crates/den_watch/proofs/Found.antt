-- The watcher of a number: where it stands, and where none has it.
use Rattle.std.proofs.Common.{◌≡◌, ℕ, zero, suc, ◌<◌, true, false, cond, List, [], ◌∷◌, length, get_or, set, map, filter, ◌+◌, ◌++◌, ◌≤◌, Bool, Some, Err, refl, sym, ap, subst, ◌∙◌, arith, eqb-true, eq-eqb}
use Rattle.std.specs.Prelude.{not}
use Rattle.std.specs.List.{list_any, remove, slice_get}
use Rattle.std.proofs.lemmas.List.{get_or-map, length-map, map-set}
use Rattle.std.proofs.lemmas.List.Elements.{filter-append}
use Rattle.den_model.specs.Step.{next_watcher}
use Rattle.den_watch.specs.Queues.{AllFit, Queued, RiseUpTo, waiting_in}
use Rattle.den_watch.specs.declared.error.WatchError.TheVariants.{NotRegistered}
use Rattle.den_watch.specs.Registry.{Registry, Waiting, emptied, is_numbered, newcomer, registering, taken_from, takes_of, waiting_at, without}
use Rattle.den_watch.proofs.Fitting.{fits_at}
use Rattle.den_watch.proofs.Rising.{any_at, none_changed, none_kept, none_left_out, none_over, only_changed, only_kept, only_left_out}

-- ---- none has it

-- a take of it is refused
pub none_taken : (r : Registry) (number : ℕ) → list_any (is_numbered number) r.waiting ≡ false → taken_from r number ≡ Err NotRegistered
none_taken r number none = rw (none_kept (is_numbered number) r.waiting none, taken_from) refl

-- to take what waits for it changes nothing
pub none_emptied : (r : Registry) (number : ℕ) → list_any (is_numbered number) r.waiting ≡ false → emptied r number ≡ r
none_emptied r number none = ap (λ ws. record r { waiting = ws }) (none_changed (is_numbered number) (λ w. record w { events = [] }) r.waiting none)

-- nor does to end it
pub none_without : (r : Registry) (number : ℕ) → list_any (is_numbered number) r.waiting ≡ false → without r number ≡ r
none_without r number none = ap (λ ws. record r { waiting = ws }) (none_left_out (is_numbered number) r.waiting none)

-- ---- it stands

-- a take gives what that of the watcher under the number gives
pub taken_where : (r : Registry) (number : ℕ) (w : Waiting) → waiting_at r number ≡ Some w → taken_from r number ≡ takes_of w
taken_where r number w at = rw (at, taken_from) refl

-- the newest stands under the next number, which none had
pub newest_stands : (r : Registry) (key : List ℕ) (prefix prev_kv : Bool) → RiseUpTo r.registered 0 r.waiting
    → waiting_at (registering r key prefix prev_kv) (r.registered + 1) ≡ Some (newcomer (next_watcher r.registered key prefix prev_kv))
newest_stands r key prefix prev_kv h =
    let number = r.registered + 1 in
    let w = newcomer (next_watcher r.registered key prefix prev_kv) in
    let test = is_numbered number in
    let above : r.registered < r.registered + 1 = omega arith in
    let none = none_kept test r.waiting (none_over r.registered 0 number r.waiting above h) in
    let own : filter test (w ∷ []) ≡ w ∷ [] = ap (λ b. cond b (w ∷ []) []) (eq-eqb number number refl) in
    ap (λ ws. slice_get ws 0) (filter-append test r.waiting (w ∷ []) ∙ ap (λ ws. ws ++ filter test (w ∷ [])) none ∙ own)

-- what waits, one watcher taken away
pub waiting_removed : (qs : List Queued) (i : ℕ) → waiting_in (remove qs i) ≡ remove (waiting_in qs) i
waiting_removed [] zero = refl
waiting_removed [] (suc i) = refl
waiting_removed (q ∷ qs) zero = refl
waiting_removed (q ∷ qs) (suc i) = ap (λ l. q.waiting ∷ l) (waiting_removed qs i)

-- what waits at an index
waiting_item : (qs : List Queued) (i : ℕ) (q : Queued) → i < length qs → q ≡ get_or qs i q → get_or (waiting_in qs) i q.waiting ≡ q.waiting
waiting_item qs i q lt is = get_or-map (λ (p : Queued). p.waiting) qs i q q.waiting lt ∙ sym (ap (λ (p : Queued). p.waiting) is)

-- an index of the watchers is one of what waits
within : (qs : List Queued) (i : ℕ) → i < length qs → i < length (waiting_in qs)
within qs i lt = omega (arith, length-map qs (λ (p : Queued). p.waiting))

-- q stands at this index, and has the number
pub record IsFound (top number : ℕ) (qs : List Queued) (i : ℕ) (q : Queued) : Type 0 where
  pub in_range : i < length qs
  pub at : q ≡ get_or qs i q
  pub numbered : is_numbered number q.waiting ≡ true
  pub rises : RiseUpTo top 0 (waiting_in qs)

-- from what is found in the same list, lent
pub found_in : (top number : ℕ) (qs lent : List Queued) (i : ℕ) (q : Queued) → lent ≡ qs → (i < length lent) × ((d : Queued) → is_numbered number (get_or lent i d).waiting ≡ true)
    → q ≡ get_or qs i q → RiseUpTo top 0 (waiting_in qs) → IsFound top number qs i q
found_in top number qs lent i q same found at rises = record {
  in_range = subst (λ l. i < length l) same found.0;
  at = at;
  numbered = ap (λ (p : Queued). is_numbered number p.waiting) at ∙ subst (λ l. is_numbered number (get_or l i q).waiting ≡ true) same (found.1 q);
  rises = rises;
}

module _ (top number : ℕ) (qs : List Queued) (i : ℕ) (q : Queued) (f : IsFound top number qs i q) where
  -- what waits at the index is its own
  item : get_or (waiting_in qs) i q.waiting ≡ q.waiting
  item = waiting_item qs i q f.in_range f.at

  -- and has the number
  same_number : (get_or (waiting_in qs) i q.waiting).watcher.number ≡ number
  same_number = ap (λ (w : Waiting). w.watcher.number) item ∙ eqb-true q.waiting.watcher.number number f.numbered

  -- it is what stands under the number
  pub found_at : slice_get (filter (is_numbered number) (waiting_in qs)) 0 ≡ Some q.waiting
  found_at = ap (λ ws. slice_get ws 0) (only_kept top 0 number (waiting_in qs) i q.waiting (within qs i f.in_range) f.rises same_number) ∙ ap Some item

  -- no more wait for it than may
  pub found_fits : (buffer : ℕ) → AllFit buffer (waiting_in qs) → length q.waiting.events ≤ buffer
  found_fits buffer fits = subst (λ (w : Waiting). length w.events ≤ buffer) item (fits_at buffer (waiting_in qs) i q.waiting (within qs i f.in_range) fits)

  pub found_there : list_any (is_numbered number) (waiting_in qs) ≡ true
  found_there = any_at (is_numbered number) (waiting_in qs) i q.waiting (within qs i f.in_range) (ap (is_numbered number) item ∙ f.numbered)

  -- the others are what is left without it
  pub found_left_out : filter (λ w. not (is_numbered number w)) (waiting_in qs) ≡ waiting_in (remove qs i)
  found_left_out = only_left_out top 0 number (waiting_in qs) i q.waiting (within qs i f.in_range) f.rises same_number ∙ sym (waiting_removed qs i)

  -- a change of what has the number is one in its place
  found_changed : (g : Waiting → Waiting) (p : Queued) → p.waiting ≡ g q.waiting → map (λ w. cond (is_numbered number w) (g w) w) (waiting_in qs) ≡ waiting_in (set qs i p)
  found_changed g p made =
      only_changed top 0 number g (waiting_in qs) i q.waiting (within qs i f.in_range) f.rises same_number ∙ ap (λ w. set (waiting_in qs) i w) (ap g item ∙ sym made)
      ∙ sym (map-set (λ (x : Queued). x.waiting) qs i p)

  -- nothing waits for it
  pub found_emptied : (p : Queued) → p.waiting ≡ record q.waiting { events = [] } → waiting_in (set qs i p) ≡ map (λ w. cond (is_numbered number w) (record w { events = [] }) w) (waiting_in qs)
  found_emptied p made = sym (found_changed (λ w. record w { events = [] }) p made)
