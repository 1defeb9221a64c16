-- What a run of a node promises, of what is seen of its engine, and of its disk, its clock and the link that it is lent.
use Rattle.std.specs.Prelude.{◌-◌, ℕ, List, IsTrue, Result, length}
use Rattle.den_disk.specs.declared.clock.Clock.{Ghosts as Clocks}
use Rattle.den_disk.specs.declared.disk.Disk.{Ghosts as Disks}
use Rattle.den_disk.specs.declared.link.Link.{Ghosts as Links}
use Rattle.den_disk.specs.Goes.{Rose, IsPrefix, added}
use Rattle.den_codec.specs.declared.error.Error.{Error}
use Rattle.den_model.specs.Crash.{Survives, IsDone, Tells, bytes_of}
use Rattle.den_model.specs.Frames.{frames}
use Rattle.den_model.specs.Plan.{output, turns}
use Rattle.den_model.specs.Step.{Step}
use Rattle.den_core.specs.Full.{IsReached}
use Rattle.den_core.specs.Making.{Says, Seen, Serves}
use Rattle.den_core.specs.Weights.{served_weight}

module _ {D L C : Type 0} (disk : Disks D) (link : Links L) (clock : Clocks C) where
  module _ (says : Says) (was now : Seen) (limit : ℕ) (old new : D) (from to : L) (before after : C) where
    abbrev pub read_times : List ℕ
    read_times = added (clock.readings before) (clock.readings after)

    abbrev pub sent_then : List (ℕ × ℕ)
    sent_then = added (link.sent from) (link.sent to)

    -- the turns of the frames that were left at entry
    abbrev pub turns_made : List Step
    turns_made = turns was.kv (frames limit (link.left from)) read_times

    -- disk and link tell their bytes, and the clock still tells
    abbrev pub AllTell : Type 0
    AllTell = Tells (disk.kind old).tells (link.tells from) (clock.tells after)

    -- After a crash at any moment the disk stands for the state after a prefix of the turns that holds each step of which a
    -- byte was sent.
    abbrev pub SurvivesRun : Type 0
    SurvivesRun = AllTell → says.told → Survives says.holds (disk.images new) (disk.moment old) (disk.moment new) sent_then was.kv turns_made

    -- what was sent is a front of what the turns answer
    abbrev pub SendsFront : Type 0
    SendsFront = IsTrue (link.tells from) → IsTrue (clock.tells after) → IsPrefix (bytes_of sent_then) (output was.kv turns_made)

    -- The input was read to its end, one reading was taken for each frame, exactly what the turns answer was sent, and their
    -- entries are in the log.
    abbrev pub RunsToEnd : Type 0
    RunsToEnd = AllTell → IsDone (link.left to) (length read_times) (length (frames limit (link.left from))) sent_then was.kv was.log turns_made now.kv now.log

    -- The engine goes on as over any serving. The disk or the link refuses only where its count of faults rose, and a full disk
    -- is told of a step that was begun.
    abbrev pub ServesLink : Result (Unit {0}) Error → Type 0
    ServesLink result = Serves disk was now old new says (Rose (link.faults from) (link.faults to))
        (λ kv log next. AllTell → IsReached was.kv was.log turns_made (bytes_of sent_then) kv log next)
        (served_weight was.weight (link.taken to - link.taken from)) result
