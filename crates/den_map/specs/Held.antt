-- Keys that expire, and keys that are held.
use Rattle.std.specs.Prelude.{◌≡◌, ◌≤◌, ℕ, true, List, Some}
use Rattle.std.specs.List.Sorted.{IsStrictlySortedBy}
use Rattle.std.specs.Map.{keys_of}
use Rattle.den_model.specs.declared.held.Held.{Held}
use Rattle.den_model.specs.MapState.{MapState}
use Rattle.den_model.specs.Table.{Table, by_bytes, at, is_held}

-- each key that expires has a pair
abbrev pub EachIsHeld : Table ℕ → Table Held → Type 0
EachIsHeld expiries pairs = (key : List ℕ) → is_held expiries key ≡ true → is_held pairs key ≡ true

-- no key expires at 0, which is never
abbrev pub EachIsMoment : Table ℕ → Type 0
EachIsMoment expiries = (key : List ℕ) (moment : ℕ) → at expiries key ≡ Some moment → 1 ≤ moment

-- the expiries of a map with these pairs: their keys are sorted, and each has a pair and a moment
pub record AreExpiriesOf (pairs : Table Held) (expiries : Table ℕ) : Type 0 where
  pub held : EachIsHeld expiries pairs
  pub moments : EachIsMoment expiries
  pub sorted : IsStrictlySortedBy by_bytes (keys_of expiries)

-- what a map in memory keeps, whatever it was made of: its keys are sorted, and its expiries are those of its pairs
pub record IsSound (m : MapState) : Type 0 where
  pub sorted : IsStrictlySortedBy by_bytes (keys_of m.pairs)
  pub expiries : AreExpiriesOf m.pairs m.expiries
