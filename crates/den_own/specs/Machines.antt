-- A state machine in memory alone.
use Rattle.std.proofs.Common.{ℕ, ◌≤◌, ◌+◌, List, arith}
use Rattle.den_disk.specs.declared.place.Family.TheVariants.{State as state_family}
use Rattle.den_model.specs.Entries.{LogEntry}
use Rattle.den_model.specs.MapState.{MapState, map_applied_all}
use Rattle.den_model.specs.Sizes.{entries_size, store_rise}
use Rattle.den_map.specs.Sizes.{pairs_size}
use Rattle.den_journal.specs.Lies.{Lies}
use Rattle.den_journal.specs.Shown.{Shown, rewrite_size}
use Rattle.den_state.specs.Checkpoint.{IsCheckpointSize}
use Rattle.den_state.specs.Light.{chunk_light}
use Rattle.den_state.specs.Machine.{Settings}
use Rattle.den_own.specs.declared.machine.OwnMachine.{OwnMachine}
use Rattle.den_own.specs.Memory.{in_memory, memory_lies, nothing_told}

-- pairs, expiries and the stored mark
abbrev pub stored_of : OwnMachine → MapState
stored_of s = record s.map { mark = s.stored }

-- what its pairs would take in a file
abbrev pub map_weight : MapState → ℕ
map_weight m = rewrite_size (pairs_size m.pairs)

abbrev pub machine_shown : OwnMachine → Shown MapState
machine_shown s = in_memory s.failed map_weight (stored_of s)

abbrev pub machine_settings : OwnMachine → Settings
machine_settings s = record { leased = s.leased; running = s.running; metadata = s.metadata }

pub machine_lies : Lies state_family nothing_told machine_shown
machine_lies = memory_lies state_family map_weight (λ (s : OwnMachine). s.failed) stored_of

-- no payload of a checkpoint behind a chunk would be larger, with what the chunk brings
pub machine_light : (s : OwnMachine) (chunk : List LogEntry) (n : ℕ) → IsCheckpointSize (map_applied_all (stored_of s) chunk) n → n ≤ map_weight (stored_of s) + store_rise (entries_size chunk)
machine_light s chunk n is = chunk_light (map_weight (stored_of s)) (stored_of s) chunk n (omega arith) is
