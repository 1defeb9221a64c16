-- The pairs of a map as a checkpoint holds them, page by page.
use Rattle.std.specs.Prelude.{◌≡◌, ◌≤◌, ◌<◌, ◌+◌, ℕ, List, [], ◌∷◌, ◌++◌, length, map, take, drop, Option, Some, None, unwrap_or}
use Rattle.den_model.specs.declared.held.Held.{Held}
use Rattle.den_model.specs.declared.region.StateRegion.TheVariants.{Pairs}
use Rattle.den_model.specs.declared.region.StoredPair.{StoredPair}
use Rattle.den_model.specs.MapState.{MapState}
use Rattle.den_model.specs.Spelling.{state_region_word}
use Rattle.den_model.specs.Table.{Table, at}

-- a pair with the moment at which its key expires, and 0 where it never does
abbrev pub stored : Table ℕ → List ℕ × Held → StoredPair
stored expiries e = record { key = e.0; value = e.1.value; term = e.1.term; expiry = unwrap_or (at expiries e.0) 0 }

-- all pairs of a map, in the order of their keys
abbrev pub stored_pairs : MapState → List StoredPair
stored_pairs s = map (stored s.expiries) s.pairs

-- the last key behind this one
abbrev pub last_from : List ℕ → List StoredPair → List ℕ
last_from key [] = key
last_from key (p ∷ ps) = last_from p.key ps

-- the key of the last pair, if there is one
abbrev pub last_key : List StoredPair → Option (List ℕ)
last_key [] = None
last_key (p ∷ ps) = Some (last_from p.key ps)

-- the bytes of the region that holds these pairs
abbrev pub page_size : List StoredPair → ℕ
page_size page = length (state_region_word (Pairs page))

-- A page of the pairs that are left: the first of them, one at least where any is left, and as many as a region of
-- 65,536 bytes holds; one alone may be longer.
pub record IsPage (left page : List StoredPair) : Type 0 where
  pub first : page ++ drop (length page) left ≡ left
  pub some : 1 ≤ length left → 1 ≤ length page
  pub small : 2 ≤ length page → page_size page ≤ 65536
  pub full : length page < length left → 65536 < page_size (take (length page + 1) left)
