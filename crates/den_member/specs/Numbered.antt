-- Values at numbers: pairs in the order of their numbers, which are the entries of an ordered map.
--     at t k      the value at the number, if there is one
--     set t k x, unset t k      with x at the number; without the number
--     is_held t k      whether there is a value at the number
use Rattle.std.specs.Prelude.{ℕ, Bool, List, Option, is_some}
use Rattle.std.specs.Ordering.{nat_cmp}
use Rattle.std.specs.Map.{lookup, remove_entry}
use Rattle.std.specs.BTreeMap.{insert_entry, is_at}

abbrev pub Numbered : Type 0 → Type 0
Numbered X = List (ℕ × X)

module _ {X : Type 0} where
  abbrev pub at : Numbered X → ℕ → Option X
  at t k = lookup (is_at (nat_cmp k)) t

  abbrev pub is_held : Numbered X → ℕ → Bool
  is_held t k = is_some (at t k)

  abbrev pub set : Numbered X → ℕ → X → Numbered X
  set t k x = insert_entry nat_cmp t k x

  abbrev pub unset : Numbered X → ℕ → Numbered X
  unset t k = remove_entry (is_at (nat_cmp k)) t
