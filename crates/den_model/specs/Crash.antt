-- What a crash at any moment leaves, and what was sent by then.
use Rattle.std.specs.Prelude.{◌≡◌, ℕ, ◌+◌, ◌≤◌, Bool, IsTrue, List, [], ◌∷◌, length, take, map, Option, Some, cond, nat_le}
use Rattle.den_disk.specs.Files.{Files}
use Rattle.den_disk.specs.Goes.{IsPrefix}
use Rattle.den_model.specs.Grown.{IsLogAfter}
use Rattle.den_model.specs.Kv.{Durable, Kv}
use Rattle.den_model.specs.Log.{Log}
use Rattle.den_model.specs.Step.{Step}
use Rattle.den_model.specs.Plan.{after, output}

-- the bytes sent, each a pair of the byte and the disk's moment at its send
abbrev pub bytes_of : List (ℕ × ℕ) → List ℕ
bytes_of sent = map (λ s. s.0) sent

-- those sent at moments up to t
abbrev pub sent_by : List (ℕ × ℕ) → ℕ → List ℕ
sent_by [] t = []
sent_by (s ∷ sent) t = cond (nat_le s.1 t) (s.0 ∷ sent_by sent t) (sent_by sent t)

-- each was sent from one moment on up to another
abbrev pub SentWithin : ℕ → ℕ → List (ℕ × ℕ) → Type 0
SentWithin from to [] = Unit {0}
SentWithin from to (s ∷ sent) = (from ≤ s.1) × (s.1 ≤ to) × SentWithin from to sent

-- The files stand for the state after a prefix of the steps that holds each step of which a byte was written.
pub record IsAfterSome (holds : Files → Option Durable) (kv : Kv) (steps : List Step) (bytes : List ℕ) (files : Files) : Type 0 where
  pub count : ℕ
  pub within : count ≤ length steps
  pub stands : holds files ≡ Some (after kv (take count steps)).durable
  pub sent : IsPrefix bytes (output kv (take count steps))

-- The crash clause, over the moments from `from` to `to` in which these bytes were sent and these steps were made
-- or begun.
pub record Survives (holds : Files → Option Durable) (images : ℕ → Files → Type 0) (from to : ℕ) (sent : List (ℕ × ℕ)) (kv : Kv) (steps : List Step) : Type 0 where
  pub each : (t : ℕ) (files : Files) → from ≤ t → t ≤ to → images t files → IsAfterSome holds kv steps (sent_by sent t) files
  pub moments : SentWithin from to sent

-- each image at this moment stands for the durable part
pub record Stands (holds : Files → Option Durable) (images : ℕ → Files → Type 0) (t : ℕ) (kept : Durable) : Type 0 where
  pub each : (files : Files) → images t files → holds files ≡ Some kept

-- each image at this moment gives the log after these steps
pub record GivesLog (logs : Files → Option Log) (images : ℕ → Files → Type 0) (t : ℕ) (kv : Kv) (log : Log) (steps : List Step) : Type 0 where
  pub each : (files : Files) → images t files → (new : Log) × (logs files ≡ Some new) × IsLogAfter log kv steps new

-- all of the steps were made, all that they send was sent, and their entries joined the log
pub record IsWhole (sent : List (ℕ × ℕ)) (kv : Kv) (log : Log) (steps : List Step) (new : Kv) (new_log : Log) : Type 0 where
  pub state : new ≡ after kv steps
  pub bytes : bytes_of sent ≡ output kv steps
  pub logged : IsLogAfter log kv steps new_log

-- disk and link tell, and the clock still does
pub record Tells (disk link clock : Bool) : Type 0 where
  pub disk_tells : IsTrue disk
  pub link_tells : IsTrue link
  pub clock_tells : IsTrue clock

-- At Ok: the input was read to its end, a reading was taken for each frame, and all was made, sent and logged.
pub record IsDone (left : List ℕ) (readings frames : ℕ) (sent : List (ℕ × ℕ)) (kv : Kv) (log : Log) (steps : List Step) (new : Kv) (new_log : Log) : Type 0 where
  pub at_end : left ≡ []
  pub one_each : readings ≡ frames
  pub whole : IsWhole sent kv log steps new new_log

-- At Ok of a whole run: the input was read to its end, a reading was taken at opening and one for each frame, and exactly the
-- output was sent.
pub record IsAnswered (left : List ℕ) (readings frames : ℕ) (sent : List (ℕ × ℕ)) (kv : Kv) (steps : List Step) : Type 0 where
  pub at_end : left ≡ []
  pub one_each : readings ≡ frames + 1
  pub output_sent : bytes_of sent ≡ output kv steps

-- And its end is on the disk, with the entry of each step in the log.
pub record IsServed (holds : Files → Option Durable) (logs : Files → Option Log) (images : ℕ → Files → Type 0) (to : ℕ) (left : List ℕ) (readings frames : ℕ)
    (sent : List (ℕ × ℕ)) (kv : Kv) (log : Log) (steps : List Step) : Type 0 where
  pub answered : IsAnswered left readings frames sent kv steps
  pub end_stands : Stands holds images to (after kv steps).durable
  pub log_stands : GivesLog logs images to kv log steps
