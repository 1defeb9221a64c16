-- Numbers that rise: each is that of one watcher alone.
use Rattle.std.proofs.Common.{◌≡◌, ℕ, zero, suc, ◌+◌, ◌<◌, ◌≤◌, Bool, true, false, cond, List, [], ◌∷◌, ◌++◌, length, get_or, set, map, filter, refl, ap, ◌∙◌, arith, eq-eqb}
use Rattle.std.specs.Prelude.{not}
use Rattle.std.specs.List.{list_any, remove}
use Rattle.std.proofs.lemmas.Bool.{ne_eqb, or_from, or_left, or_parts, or_right}
use Rattle.den_model.specs.declared.watcher.Watcher.{Watcher}
use Rattle.den_watch.specs.Queues.{RiseUpTo}
use Rattle.den_watch.specs.Registry.{Waiting, is_numbered}

-- ---- tests that nothing passes, and one thing

-- a filter by such a test keeps nothing
pub none_kept : {X : Type 0} (p : X → Bool) (xs : List X) → list_any p xs ≡ false → filter p xs ≡ []
none_kept p [] none = refl
none_kept p (x ∷ xs) none =
    let parts = or_parts (p x) (list_any p xs) none in
    ap (λ b. cond b (x ∷ filter p xs) (filter p xs)) parts.0 ∙ none_kept p xs parts.1

-- one by its opposite keeps all
pub none_left_out : {X : Type 0} (p : X → Bool) (xs : List X) → list_any p xs ≡ false → filter (λ x. not (p x)) xs ≡ xs
none_left_out p [] none = refl
none_left_out p (x ∷ xs) none =
    let parts = or_parts (p x) (list_any p xs) none in
    let rest = filter (λ y. not (p y)) xs in
    ap (λ b. cond (not b) (x ∷ rest) rest) parts.0 ∙ ap (λ l. x ∷ l) (none_left_out p xs parts.1)

-- a change where the test passes changes nothing
pub none_changed : {X : Type 0} (p : X → Bool) (f : X → X) (xs : List X) → list_any p xs ≡ false → map (λ x. cond (p x) (f x) x) xs ≡ xs
none_changed p f [] none = refl
none_changed p f (x ∷ xs) none =
    let parts = or_parts (p x) (list_any p xs) none in
    ap (λ b. cond b (f x) x ∷ map (λ y. cond (p y) (f y) y) xs) parts.0 ∙ ap (λ l. x ∷ l) (none_changed p f xs parts.1)

-- a test that passes at an index passes somewhere
pub any_at : {X : Type 0} (p : X → Bool) (xs : List X) (i : ℕ) (d : X) → i < length xs → p (get_or xs i d) ≡ true → list_any p xs ≡ true
any_at p [] i d lt at = absurd (omega arith)
any_at p (x ∷ xs) zero d lt at = or_left (p x) (list_any p xs) at
any_at p (x ∷ xs) (suc i) d lt at = or_right (p x) (list_any p xs) (any_at p xs i d (omega arith) at)

-- ---- numbers go on to rise

-- above a lower number too
pub rise_lower : (top from lower : ℕ) (ws : List Waiting) → lower ≤ from → RiseUpTo top from ws → RiseUpTo top lower ws
rise_lower top from lower [] le h = omega arith
rise_lower top from lower (w ∷ ws) le h = (omega (arith, h.0), h.1)

-- one more behind them, of the next number
pub rise_added : (top from : ℕ) (ws : List Waiting) (w : Waiting) → w.watcher.number ≡ top + 1 → RiseUpTo top from ws → RiseUpTo (top + 1) from (ws ++ w ∷ [])
rise_added top from [] w e h = (omega arith, omega arith)
rise_added top from (v ∷ ws) w e h = (h.0, rise_added top v.watcher.number ws w e h.1)

-- one fewer
pub rise_removed : (top from : ℕ) (ws : List Waiting) (i : ℕ) → RiseUpTo top from ws → RiseUpTo top from (remove ws i)
rise_removed top from [] zero h = h
rise_removed top from [] (suc i) h = h
rise_removed top from (w ∷ ws) zero h = rise_lower top w.watcher.number from ws (omega (arith, h.0)) h.1
rise_removed top from (w ∷ ws) (suc i) h = (h.0, rise_removed top w.watcher.number ws i h.1)

-- where each stays the watcher that it is
pub rise_mapped : (top from : ℕ) (f : Waiting → Waiting) → ((w : Waiting) → (f w).watcher ≡ w.watcher) → (ws : List Waiting) → RiseUpTo top from ws → RiseUpTo top from (map f ws)
rise_mapped top from f same [] h = h
rise_mapped top from f same (w ∷ ws) h =
    let e : (f w).watcher.number ≡ w.watcher.number = ap (λ (v : Watcher). v.number) (same w) in
    rw e (h.0, rise_mapped top w.watcher.number f same ws h.1)

-- ---- a number is that of one watcher

-- none above a number has it
pub none_above : (top from number : ℕ) (ws : List Waiting) → number ≤ from → RiseUpTo top from ws → list_any (is_numbered number) ws ≡ false
none_above top from number [] le h = refl
none_above top from number (w ∷ ws) le h =
    or_from _ _ (ne_eqb w.watcher.number number (λ e. omega (arith, h.0))) (none_above top w.watcher.number number ws (omega (arith, h.0)) h.1)

-- none of them is above the top
rise_top : (top from : ℕ) (ws : List Waiting) → RiseUpTo top from ws → from ≤ top
rise_top top from [] h = h
rise_top top from (w ∷ ws) h = omega (arith, h.0, rise_top top w.watcher.number ws h.1)

-- so none has a number above it
pub none_over : (top from number : ℕ) (ws : List Waiting) → top < number → RiseUpTo top from ws → list_any (is_numbered number) ws ≡ false
none_over top from number [] lt h = refl
none_over top from number (w ∷ ws) lt h =
    or_from _ _ (ne_eqb w.watcher.number number (λ e. omega (arith, rise_top top w.watcher.number ws h.1))) (none_over top w.watcher.number number ws lt h.1)

-- each number is above the one before the first
above_at : (top from : ℕ) (ws : List Waiting) (i : ℕ) (d : Waiting) → i < length ws → RiseUpTo top from ws → from < (get_or ws i d).watcher.number
above_at top from [] i d lt h = absurd (omega arith)
above_at top from (w ∷ ws) zero d lt h = h.0
above_at top from (w ∷ ws) (suc i) d lt h = omega (arith, h.0, above_at top w.watcher.number ws i d (omega arith) h.1)

-- the first of them is another than one behind it
other : (top number : ℕ) (w : Waiting) (ws : List Waiting) (i : ℕ) (d : Waiting) → i < length ws → RiseUpTo top w.watcher.number ws → (get_or ws i d).watcher.number ≡ number → is_numbered number w ≡ false
other top number w ws i d lt h at = ne_eqb w.watcher.number number (λ e. omega (arith, above_at top w.watcher.number ws i d lt h))

-- the watcher of a number is the only one that it keeps
pub only_kept : (top from number : ℕ) (ws : List Waiting) (i : ℕ) (d : Waiting) → i < length ws → RiseUpTo top from ws → (get_or ws i d).watcher.number ≡ number → filter (is_numbered number) ws ≡ get_or ws i d ∷ []
only_kept top from number [] i d lt h at = absurd (omega arith)
only_kept top from number (w ∷ ws) zero d lt h at =
    let rest = filter (is_numbered number) ws in
    ap (λ b. cond b (w ∷ rest) rest) (eq-eqb w.watcher.number number at) ∙ ap (λ l. w ∷ l) (none_kept (is_numbered number) ws (none_above top w.watcher.number number ws (omega arith) h.1))
only_kept top from number (w ∷ ws) (suc i) d lt h at =
    let rest = filter (is_numbered number) ws in
    ap (λ b. cond b (w ∷ rest) rest) (other top number w ws i d (omega arith) h.1 at) ∙ only_kept top w.watcher.number number ws i d (omega arith) h.1 at

-- it is the only one that is left out
pub only_left_out : (top from number : ℕ) (ws : List Waiting) (i : ℕ) (d : Waiting) → i < length ws → RiseUpTo top from ws → (get_or ws i d).watcher.number ≡ number → filter (λ w. not (is_numbered number w)) ws ≡ remove ws i
only_left_out top from number [] i d lt h at = absurd (omega arith)
only_left_out top from number (w ∷ ws) zero d lt h at =
    let rest = filter (λ v. not (is_numbered number v)) ws in
    ap (λ b. cond (not b) (w ∷ rest) rest) (eq-eqb w.watcher.number number at) ∙ none_left_out (is_numbered number) ws (none_above top w.watcher.number number ws (omega arith) h.1)
only_left_out top from number (w ∷ ws) (suc i) d lt h at =
    let rest = filter (λ v. not (is_numbered number v)) ws in
    ap (λ b. cond (not b) (w ∷ rest) rest) (other top number w ws i d (omega arith) h.1 at) ∙ ap (λ l. w ∷ l) (only_left_out top w.watcher.number number ws i d (omega arith) h.1 at)

-- it is the only one that is changed
pub only_changed : (top from number : ℕ) (f : Waiting → Waiting) (ws : List Waiting) (i : ℕ) (d : Waiting) → i < length ws → RiseUpTo top from ws → (get_or ws i d).watcher.number ≡ number
    → map (λ w. cond (is_numbered number w) (f w) w) ws ≡ set ws i (f (get_or ws i d))
only_changed top from number f [] i d lt h at = absurd (omega arith)
only_changed top from number f (w ∷ ws) zero d lt h at =
    ap (λ b. cond b (f w) w ∷ map (λ v. cond (is_numbered number v) (f v) v) ws) (eq-eqb w.watcher.number number at)
    ∙ ap (λ l. f w ∷ l) (none_changed (is_numbered number) f ws (none_above top w.watcher.number number ws (omega arith) h.1))
only_changed top from number f (w ∷ ws) (suc i) d lt h at =
    ap (λ b. cond b (f w) w ∷ map (λ v. cond (is_numbered number v) (f v) v) ws) (other top number w ws i d (omega arith) h.1 at)
    ∙ ap (λ l. w ∷ l) (only_changed top w.watcher.number number f ws i d (omega arith) h.1 at)

-- to take what waits leaves the watchers as they are
pub rise_emptied : (top number : ℕ) (ws : List Waiting) → RiseUpTo top 0 ws → RiseUpTo top 0 (map (λ w. cond (is_numbered number w) (record w { events = [] }) w) ws)
rise_emptied top number ws h =
    rise_mapped top 0 (λ w. cond (is_numbered number w) (record w { events = [] }) w)
    (λ w. elim (is_numbered number w) as (λ b. (cond b (record w { events = [] }) w).watcher ≡ w.watcher) [ true ↦ refl | false ↦ refl ]) ws h
