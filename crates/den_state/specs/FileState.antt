-- A state machine over a journal.
use Rattle.std.specs.Prelude.{◌<◌}
use Rattle.den_disk.specs.declared.place.Family.TheVariants.{State as state_family}
use Rattle.den_model.specs.Image.{ok, map_in}
use Rattle.den_model.specs.MapState.{MapState, empty_map, map_from}
use Rattle.den_map.specs.Sizes.{pairs_size}
use Rattle.den_journal.specs.Lies.{Lies, gives_own, gives_hold, held_own}
use Rattle.den_journal.specs.Shown.{Held, Shown, shown_of, seen_as}
use Rattle.den_state.specs.declared.file_machine.FileStateMachine.{FileStateMachine}
use Rattle.den_state.specs.Folds.{held_map}
use Rattle.den_state.specs.Machine.{Settings}
use Rattle.den_state.specs.Stored.{Stored, nothing_stored, stored_from}

-- pairs, expiries and the stored mark, with the number of records behind the last Begin region
abbrev pub stored_of : FileStateMachine → Stored
stored_of s = record { map = s.journal.held.map; tail = s.journal.held.tail }

-- its map with the applied mark
abbrev pub state_map : FileStateMachine → MapState
state_map s = record s.journal.held.map { mark = s.applied }

abbrev pub state_shown : FileStateMachine → Shown MapState
state_shown s = seen_as (λ (v : Stored). v.map) (shown_of state_family (stored_from nothing_stored) (λ (v : Stored). pairs_size v.map.pairs) s.journal.failed s.journal.gate (stored_of s))

abbrev pub state_settings : FileStateMachine → Settings
state_settings s = record { leased = s.leased; running = s.running; metadata = s.metadata }

-- few records follow the last Begin region
abbrev pub HasShortTail : FileStateMachine → Type 0
HasShortTail s = s.journal.held.tail < 1000

-- what files give of a map, which is told
abbrev pub map_held : Held MapState
map_held = record { told = Unit {0}; of = λ files. ok (map_in files) }

pub state_lies : Lies state_family map_held state_shown
state_lies = record {
  rests_own = λ s. gives_own state_family (stored_from nothing_stored) s.journal.gate (stored_of s);
  holds_own = held_own state_family (map_from empty_map);
  rests_hold = λ told s c files ready rests image. held_map files (stored_of s) (gives_hold state_family (stored_from nothing_stored) s.journal.gate (stored_of s) c files rests image);
}
