-- What is done to a map is done to its table.
use Rattle.std.proofs.Common.{◌≡◌, ℕ, Bool, true, false, cond, filter, List, [], ◌∷◌, Option, Some, None, refl, sym, ap}
use Rattle.std.specs.Prelude.{◌&&◌, IfSome}
use Rattle.std.specs.Global.{Vec}
use Rattle.std.specs.Ordering.{is_eq, is_le, is_lt, match_ordering}
use Rattle.std.specs.declared.cmp.Ordering.TheVariants.{Less, Equal, Greater}
use Rattle.std.specs.Map.{lookup, remove_entry}
use Rattle.std.specs.BTreeMap.{insert_entry}
use Rattle.std.proofs.lemmas.Map.Lookups.{exact_bytes}
use Rattle.den_model.specs.Table.{Table, by_bytes, is_same, at, set, unset}
use Rattle.den_table.specs.Keyed.{keyed}

pub keyed_at : {X : Type 0} (es : List (Vec ℕ × X)) (k : List ℕ) → lookup (λ (v : Vec ℕ). is_eq (by_bytes k v.items)) es ≡ at (keyed es) k
keyed_at [] k = refl
keyed_at (e ∷ es) k = ap (cond (is_same k e.0.items) (Some e.1)) (keyed_at es k)

pub keyed_unset : {X : Type 0} (es : List (Vec ℕ × X)) (k : List ℕ) → keyed (remove_entry (λ (v : Vec ℕ). is_eq (by_bytes k v.items)) es) ≡ unset (keyed es) k
keyed_unset [] k = refl
keyed_unset {X} (e ∷ es) k =
    elim (is_same k e.0.items) as (λ b. keyed (cond b es (e ∷ remove_entry (λ (v : Vec ℕ). is_eq (by_bytes k v.items)) es)) ≡ cond b (keyed es) ((e.0.items, e.1) ∷ unset (keyed es) k)) [
      | true ↦ refl
      | false ↦ ap (λ (t : Table X). (e.0.items, e.1) ∷ t) (keyed_unset es k)
    ]

pub keyed_set : {X : Type 0} (es : List (Vec ℕ × X)) (k : Vec ℕ) (x : X) → keyed (insert_entry (λ (a b : Vec ℕ). by_bytes a.items b.items) es k x) ≡ set (keyed es) k.items x
keyed_set [] k x = refl
keyed_set {X} (e ∷ es) k x =
    elim (by_bytes k.items e.0.items) as (λ o. keyed (match_ordering o ((k, x) ∷ e ∷ es) ((e.0, x) ∷ es) (e ∷ insert_entry (λ (a b : Vec ℕ). by_bytes a.items b.items) es k x)) ≡ match_ordering o ((k.items, x) ∷ (e.0.items, e.1) ∷ keyed es) ((e.0.items, x) ∷ keyed es) ((e.0.items, e.1) ∷ set (keyed es) k.items x)) [
      | Less ↦ refl
      | Equal ↦ refl
      | Greater ↦ ap (λ (t : Table X). (e.0.items, e.1) ∷ t) (keyed_set es k x)
    ]

pub keyed_filter : {X : Type 0} (p : List ℕ × X → Bool) (es : List (Vec ℕ × X)) → keyed (filter (λ e. p (e.0.items, e.1)) es) ≡ filter p (keyed es)
keyed_filter p [] = refl
keyed_filter {X} p (e ∷ es) =
    elim (p (e.0.items, e.1)) as (λ b. keyed (cond b (e ∷ filter (λ e. p (e.0.items, e.1)) es) (filter (λ e. p (e.0.items, e.1)) es)) ≡ cond b ((e.0.items, e.1) ∷ filter p (keyed es)) (filter p (keyed es))) [
      | true ↦ ap (λ (t : Table X). (e.0.items, e.1) ∷ t) (keyed_filter p es)
      | false ↦ keyed_filter p es
    ]

-- the keys from one on, by bounds of which only the first is given
pub keyed_from : {X : Type 0} (k : List ℕ) (es : List (Vec ℕ × X)) → keyed (filter (λ e. is_le (by_bytes k e.0.items) && true) es) ≡ filter (λ e. is_le (by_bytes k e.0)) (keyed es)
keyed_from k [] = refl
keyed_from {X} k (e ∷ es) =
    let rest = filter (λ (e : Vec ℕ × X). is_le (by_bytes k e.0.items) && true) es in
    let kept = filter (λ (e : List ℕ × X). is_le (by_bytes k e.0)) (keyed es) in
    elim (is_le (by_bytes k e.0.items)) as (λ b. keyed (cond (b && true) (e ∷ rest) rest) ≡ cond b ((e.0.items, e.1) ∷ kept) kept) [
      | true ↦ ap (λ (t : Table X). (e.0.items, e.1) ∷ t) (keyed_from k es)
      | false ↦ keyed_from k es
    ]

-- the keys above one, by bounds of which only the first is given
pub keyed_behind : {X : Type 0} (k : List ℕ) (es : List (Vec ℕ × X)) → keyed (filter (λ e. is_lt (by_bytes k e.0.items) && true) es) ≡ filter (λ e. is_lt (by_bytes k e.0)) (keyed es)
keyed_behind k [] = refl
keyed_behind {X} k (e ∷ es) =
    let rest = filter (λ (e : Vec ℕ × X). is_lt (by_bytes k e.0.items) && true) es in
    let kept = filter (λ (e : List ℕ × X). is_lt (by_bytes k e.0)) (keyed es) in
    elim (is_lt (by_bytes k e.0.items)) as (λ b. keyed (cond (b && true) (e ∷ rest) rest) ≡ cond b ((e.0.items, e.1) ∷ kept) kept) [
      | true ↦ ap (λ (t : Table X). (e.0.items, e.1) ∷ t) (keyed_behind k es)
      | false ↦ keyed_behind k es
    ]

-- and with no bound all
pub keyed_all : {X : Type 0} (es : List (Vec ℕ × X)) → keyed (filter (λ e. true && true) es) ≡ keyed es
keyed_all [] = refl
keyed_all {X} (e ∷ es) = ap (λ (t : Table X). (e.0.items, e.1) ∷ t) (keyed_all es)

-- the key that a query finds
pub same_key : {X : Type 0} (k : List ℕ) (found : Option (Vec ℕ × X)) → IfSome found (λ p. by_bytes k p.0.items ≡ Equal) → IfSome found (λ p. p.0.items ≡ k)
same_key k None h = tt
same_key k (Some p) h = sym (exact_bytes k p.0.items h)
