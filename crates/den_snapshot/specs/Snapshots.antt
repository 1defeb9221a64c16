-- Snapshots: the pairs of a map with their expiries, under the mark that they are taken at.
use Rattle.std.specs.Prelude.{ℕ, ◌||◌, Bool, false, List, [], ◌∷◌, map, nat_lt}
use Rattle.den_model.specs.declared.log_id.LogId.{LogId}
use Rattle.den_model.specs.declared.region.StoredPair.{StoredPair}
use Rattle.den_model.specs.MapState.{MapState, with_pairs}
use Rattle.den_model.specs.Table.{Table}
use Rattle.den_lease.specs.Rising as table
use Rattle.den_map.specs.Pages.{stored_pairs}

-- a map as a snapshot holds it: each pair with its expiry, and the place of the last entry that they hold
pub record Taken : Type 0 where
  pub mark : LogId
  pub pairs : List StoredPair

-- what a snapshot of a map holds, under a mark
abbrev pub taken_of : LogId → MapState → Taken
taken_of mark m = record { mark = mark; pairs = stored_pairs m }

-- the map that a snapshot gives, under a mark that need not be its own
abbrev pub map_of : LogId → Taken → MapState
map_of mark t = with_pairs (record { pairs = []; expiries = []; mark = mark }) t.pairs

-- the pairs as a table
abbrev pub by_key : List StoredPair → Table StoredPair
by_key pairs = map (λ p. (p.key, p)) pairs

-- each key stands above the one before it, and the first above this one
abbrev pub rises_above : List ℕ → List StoredPair → Bool
rises_above key pairs = table.rises_above key (by_key pairs)

-- each key stands above the one before it
abbrev pub rises : List StoredPair → Bool
rises pairs = table.rises (by_key pairs)

-- whether a pair has an expiry
abbrev pub some_expires : List StoredPair → Bool
some_expires [] = false
some_expires (p ∷ ps) = nat_lt 0 p.expiry || some_expires ps
