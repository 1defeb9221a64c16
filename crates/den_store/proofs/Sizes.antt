-- What a log's entries come to in bytes behind a region's word.
use Rattle.std.proofs.Common.{◌≡◌, ℕ, ◌+◌, ◌≤◌, List, length, Some, ap, arith}
use Rattle.den_model.specs.declared.region.LogRegion.{LogRegion}
use Rattle.den_model.specs.Log.{Log, changed}
use Rattle.den_model.specs.Reading.{log_region_in}
use Rattle.den_model.specs.Words.{IsBytes}
use Rattle.den_model.specs.Sizes.{entries_size}
use Rattle.den_model.proofs.Spells.{word_iff}
use Rattle.den_model.proofs.RegionSpells.{spells_log_region}
use Rattle.den_store.specs.Folds.{changed_size}

pub region_size : (l : Log) (p : List ℕ) (r : LogRegion) → IsBytes p → log_region_in p ≡ Some r → entries_size (changed l r).entries ≤ entries_size l.entries + length p
unfolding log_region_in
region_size l p r bytes is = omega (arith, changed_size l r, ap length ((word_iff spells_log_region p r bytes).0 is).0)
