-- The order of a log's entries.
use Rattle.std.specs.Prelude.{◌≡◌, true}
use Rattle.den_model.specs.Entries.{rise_above}
use Rattle.den_model.specs.Log.{Log, floor}

-- its entries rise above its boundary
pub record IsInOrder (l : Log) : Type 0 where
  pub rises : rise_above (floor l) l.entries ≡ true
