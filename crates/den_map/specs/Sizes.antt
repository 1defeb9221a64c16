-- What pairs take in files, in bytes.
use Rattle.std.specs.Prelude.{ℕ, ◌+◌, List, [], ◌∷◌, length}
use Rattle.den_model.specs.declared.held.Held.{Held}
use Rattle.den_model.specs.declared.region.StoredPair.{StoredPair}
use Rattle.den_model.specs.Table.{Table}
use Rattle.den_map.specs.Pages.{page_size}

-- two lengths, term and expiry beside a key and a value
abbrev pub pair_size : List ℕ → List ℕ → ℕ
pair_size key value = 32 + length key + length value

-- the pairs of a region
abbrev pub stored_size : List StoredPair → ℕ
stored_size [] = 0
stored_size (p ∷ ps) = pair_size p.key p.value + stored_size ps

-- the pairs of a table
abbrev pub pairs_size : Table Held → ℕ
pairs_size [] = 0
pairs_size (e ∷ es) = pair_size e.0 e.1.value + pairs_size es

-- regions of these pages, with their gates and lengths
abbrev pub pages_size : List (List StoredPair) → ℕ
pages_size [] = 0
pages_size (page ∷ pages) = 9 + page_size page + pages_size pages
