-- Empty files, under the default configuration.
use Rattle.std.proofs.Common.{◌≡◌, [], Ok, Some, None, refl}
use Rattle.den_disk.specs.declared.place.Place.{Place}
use Rattle.den_disk.specs.Files.{Files}
use Rattle.den_model.specs.Kv.{nothing}
use Rattle.den_model.specs.Log.{empty_log, log_from}
use Rattle.den_model.specs.MapState.{map_from}
use Rattle.den_model.specs.Regions.{regions_behind}
use Rattle.den_model.specs.Image.{no_files, log_in, hard_state_from, durable, durable_in, recovered}
use Rattle.den_model.specs.Sizes.{files_size}
use Rattle.den_server.specs.Default.{standard_run}
use Rattle.den_server.specs.Promises.{refused_for}

-- files of which each is empty
pub all_empty : (files : Files) → ((q : Place) → files q ≡ []) → files ≡ no_files
all_empty files none = λ i q. none q i

-- they stand for nothing
pub none_held : durable_in no_files ≡ Some nothing
unfolding regions_behind durable log_from hard_state_from map_from
none_held = refl

pub none_logged : log_in no_files ≡ Ok empty_log
unfolding regions_behind log_from
none_logged = refl

-- they are not refused, and have no region
pub none_refused : refused_for standard_run no_files ≡ None
unfolding regions_behind durable log_from hard_state_from map_from recovered
none_refused = refl

pub none_sized : files_size no_files ≡ 0
unfolding regions_behind
none_sized = refl
