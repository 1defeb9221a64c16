-- Laws of snapshots.
use Rattle.std.specs.Prelude.{◌≡◌, true}
use Rattle.den_model.specs.declared.log_id.LogId.{LogId}
use Rattle.den_model.specs.MapState.{MapState}
use Rattle.den_map.specs.Held.{IsSound}
use Rattle.den_snapshot.specs.Snapshots.{Taken, taken_of, map_of, rises}

-- what a snapshot of a map gives is the map, under the mark that it is taken at
abbrev pub SnapshotsGiveTheMap : Type 0
SnapshotsGiveTheMap = (m : MapState) → IsSound m → (mark : LogId) → map_of mark (taken_of mark m) ≡ record m { mark = mark }

-- a snapshot whose keys rise is that of the map which it gives
abbrev pub MapsGiveTheSnapshot : Type 0
MapsGiveTheSnapshot = (t : Taken) → rises t.pairs ≡ true → (mark other : LogId) → taken_of mark (map_of other t) ≡ record t { mark = mark }
