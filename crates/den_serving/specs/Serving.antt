-- What serving comes to, by what the words name.
use Rattle.std.specs.Prelude.{◌≡◌, ◌⊎◌, ◌++◌, ℕ, List, Option, Some, None, Result, Ok, Err, IsTrue}
use Rattle.den_disk.specs.declared.clock.Clock.{Ghosts as Clocks}
use Rattle.den_disk.specs.declared.disk.Disk.{Ghosts as Disks}
use Rattle.den_disk.specs.declared.link.Link.{Ghosts as Links}
use Rattle.den_disk.specs.declared.source.Source.{Ghosts as Sources}
use Rattle.den_disk.specs.Goes.{Rose, IsPrefix, added}
use Rattle.den_codec.specs.declared.error.Error.{Error}
use Rattle.den_codec.specs.declared.error.Error.TheVariants.{OutOfMemory, StorageIoError, DiskFull, LinkFault, DataCorruption, FeatureNotEnabled, ProposeFailed, UnorderedChunk, Config, ConfigFault, StateMachineError}
use Rattle.den_config.specs.Sources.{solo_configuration_in}
use Rattle.den_drive.specs.Report.{IsReport, report_line}
use Rattle.den_model.specs.Crash.{bytes_of}
use Rattle.den_server.specs.Configured.{IsRun}
use Rattle.den_server.specs.Default.{standard_run}
use Rattle.den_server.specs.Promises.{Runs}
use Rattle.den_serving.specs.Status.{IsWrittenFront, line_of, status_of}
use Rattle.den_words.specs.Words.{Named}

-- The numbers of a drive of so many requests, and the line that says them: it was sent, or a front of it. Nothing was read.
pub record Reports {L : Type 0} (link : Links L) (from to : L) (count : ℕ) (is_sent : (sent line : List ℕ) → Type 0) : Type 0 where
  pub requests : ℕ
  pub keys : ℕ
  pub index : ℕ
  pub bytes : ℕ
  pub numbers : IsReport count requests keys index bytes
  pub taken : link.taken to ≡ link.taken from
  pub left : IsTrue (link.tells from) → link.left to ≡ link.left from
  pub sent : IsTrue (link.tells from) → is_sent (bytes_of (added (link.sent from) (link.sent to))) (report_line requests keys index bytes)

-- What a drive answers: Ok behind its line; want of memory, with nothing sent; a fault of the link, whose count rose,
-- behind a front of its line. Nothing else.
abbrev pub IsDriveError : {L : Type 0} (link : Links L) (from to : L) (count : ℕ) → Error → Type 0
IsDriveError link from to count OutOfMemory = to ≡ from
IsDriveError link from to count LinkFault = Rose (link.faults from) (link.faults to) × Reports link from to count IsPrefix
IsDriveError link from to count StorageIoError = ⊥
IsDriveError link from to count (DiskFull needed limit) = ⊥
IsDriveError link from to count (DataCorruption place offset) = ⊥
IsDriveError link from to count FeatureNotEnabled = ⊥
IsDriveError link from to count ProposeFailed = ⊥
IsDriveError link from to count (UnorderedChunk index) = ⊥
IsDriveError link from to count (Config place) = ⊥
IsDriveError link from to count ConfigFault = ⊥
IsDriveError link from to count StateMachineError = ⊥

abbrev pub IsDriven : {L : Type 0} (link : Links L) (from to : L) (count : ℕ) → Result (Unit {0}) Error → Type 0
IsDriven link from to count (Ok done) = Reports link from to count (λ sent line. sent ≡ line)
IsDriven link from to count (Err e) = IsDriveError link from to count e

module _ {S D L C : Type 0} (source : Sources S) (disk : Disks D) (link : Links L) (clock : Clocks C) (conf conf' : S) (old new : D) (from to : L) (before after : C) where
  -- neither disk nor link nor clock was used
  abbrev pub Untouched : Type 0
  Untouched = (new ≡ old) × (to ≡ from) × (after ≡ before)

  -- what serving under the default configuration, or under that of a source, answers
  abbrev pub IsServed : (file : Option (List ℕ)) → Result (Unit {0}) Error → Type 0
  IsServed None answer = (conf' ≡ conf) × Runs disk link clock standard_run old new from to before after answer
  IsServed (Some file) answer = IsRun (Rose (source.faults conf) (source.faults conf')) (IsTrue (source.tells conf)) (solo_configuration_in (source.left conf)) Untouched
      (λ config ended. Runs disk link clock config old new from to before after ended) answer

  -- what is asked for: a drive, where the words name a count, which reads no configuration and uses neither disk nor
  -- clock; else to serve, under the configuration of the source where the words name a file, else under the default one
  abbrev pub IsAsked : (file : Option (List ℕ)) (drive : Option ℕ) → Result (Unit {0}) Error → Type 0
  IsAsked file None answer = IsServed file answer
  IsAsked file (Some count) answer = (conf' ≡ conf) × (new ≡ old) × (after ≡ before) × IsDriven link from to count answer

  -- what the words' answer is: of words that name nothing none, and nothing was touched; memory may be wanting before the
  -- words are read
  abbrev pub IsAnswer : (names : Option Named) → Option (Result (Unit {0}) Error) → Type 0
  IsAnswer None None = (conf' ≡ conf) × Untouched
  IsAnswer None (Some answer) = (answer ≡ Err OutOfMemory) × (conf' ≡ conf) × Untouched
  IsAnswer (Some names) None = ⊥
  IsAnswer (Some names) (Some answer) = IsAsked names.config names.drive answer ⊎ ((answer ≡ Err OutOfMemory) × (conf' ≡ conf) × Untouched)

-- How it ended: with an answer that has its cause, and with that answer's status and line. All of the line joined what
-- was written where the sink's count of faults did not rise, else a front of it.
pub record Ends (IsCaused : Option (Result (Unit {0}) Error) → Type 0) (status : ℕ) (told rose : Type 0) (old new : List ℕ) : Type 0 where
  pub answer : Option (Result (Unit {0}) Error)
  pub cause : IsCaused answer
  pub status_is : status ≡ status_of answer
  pub line : told → (rose → ⊥) → new ≡ old ++ line_of answer
  pub front : told → IsWrittenFront (line_of answer) old new
