-- Laws of state machines in files.
use Rattle.std.specs.Prelude.{◌≡◌, ℕ, Bool, Some, Ok}
use Rattle.den_disk.specs.declared.disk.Disk.{Ghosts}
use Rattle.den_disk.specs.declared.place.Family.TheVariants.{Snapshot as snapshot_family}
use Rattle.den_disk.specs.Families.{SameOf}
use Rattle.den_map.specs.Held.{IsSound}
use Rattle.den_snapshot.specs.Snapshots.{taken_of}
use Rattle.den_journal.specs.Writes.{DiskTells}
use Rattle.den_state.specs.declared.file_machine.FileStateMachine.{FileStateMachine}
use Rattle.den_state.specs.Cleanup.{cleaned_where}
use Rattle.den_state.specs.FileState.{map_held, state_map, state_shown}
use Rattle.den_state.specs.Snapshots.{Generates, Installs}

-- A snapshot that one state machine stored at its applied mark, and whose files are carried to another one's disk, gives that
-- one the same pairs, expiries and mark, but for the keys that have expired.
abbrev pub SnapshotsAreCarried : {D E : Type 0} → Ghosts D → Ghosts E → Type 0
SnapshotsAreCarried {D} {E} disk other = (s stored : FileStateMachine) (old new : D) → IsSound (state_map s) → DiskTells disk old
    → Generates disk (state_shown s) (state_shown stored) old new (taken_of s.applied (state_map s)) (Ok (tt {0}))
    → (leased : Bool) (moment : ℕ) (before after : FileStateMachine) (from to : E) → DiskTells other from → SameOf snapshot_family (disk.content new).reading (other.content from).reading
    → Installs other leased moment (Some s.applied) (state_shown before) (state_shown after) (state_map before) (state_map after) from to map_held (Ok (tt {0}))
    → (state_map after ≡ cleaned_where leased moment (state_map s)) × ((state_shown after).value ≡ cleaned_where leased moment (state_map s))
