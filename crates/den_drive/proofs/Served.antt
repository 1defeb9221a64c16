-- What a run over a feed says and refuses.
use Rattle.std.proofs.Common.{◌≡◌, ℕ, ◌+◌, ◌-◌, ◌^◌, ◌≤◌, List, [], None, Option, IsTrue, length, drop, sym, ap, ◌∙◌, arith}
use Rattle.std.proofs.lemmas.List.FromFn.{length-map-range_with_len}
use Rattle.den_disk.specs.declared.clock.Clock.{Ghosts as Clocks}
use Rattle.den_disk.specs.declared.disk.Disk.{Ghosts as Disks}
use Rattle.den_disk.specs.declared.link.Link.{Ghosts as Links}
use Rattle.den_disk.specs.Goes.{Rose, added}
use Rattle.den_disk.specs.Readings.{step_at}
use Rattle.den_codec.specs.declared.error.Error.{Error}
use Rattle.den_codec.specs.declared.error.Error.TheVariants as error
use Rattle.den_journal.specs.Writes.{DiskTells, Faulted}
use Rattle.den_model.specs.Crash.{IsAnswered, Tells, bytes_of}
use Rattle.den_model.specs.Image.{durable_in, log_in, no_files}
use Rattle.den_model.specs.Kv.{nothing}
use Rattle.den_model.specs.Log.{empty_log}
use Rattle.den_model.specs.Sizes.{files_size}
use Rattle.den_model.specs.Frames.{frames}
use Rattle.den_model.specs.Plan.{output, plan_over}
use Rattle.den_server.specs.Causes.{IsRunRefusal}
use Rattle.den_server.specs.Promises.{EndsEarly, IsRunTooShort, Served, refused_for}
use Rattle.den_server.specs.Default.{standard_run}
use Rattle.den_drive.specs.Report.{drive_start, moments}
use Rattle.den_drive.specs.Serving.{IsWant, answered}
use Rattle.den_drive.proofs.Empty.{none_held, none_logged, none_refused, none_sized}

-- what joined an empty list
pub added_all : {A : Type 0} (old new : List A) → old ≡ [] → added old new ≡ new
added_all old new none = ap (λ (l : List _). drop (length l) new) none

-- where the readings are those of the clock of a drive, their number is that of the frames and one more
pub said : (input left : List ℕ) (given : ℕ) (readings : List ℕ) (sent : List (ℕ × ℕ)) → readings ≡ moments given
    → IsAnswered left (length readings) (length (frames standard_run.frame_limit input)) sent drive_start (plan_over drive_start standard_run.frame_limit input readings)
    → bytes_of sent ≡ answered input
said input left given readings sent are run =
    let count : given ≡ length (frames standard_run.frame_limit input) + 1 = sym (ap length are ∙ length-map-range_with_len (step_at 1000 1) 0 given) ∙ run.one_each in
    run.output_sent ∙ ap (λ (r : List ℕ). output drive_start (plan_over drive_start standard_run.frame_limit input r)) (are ∙ ap moments count)

-- a refusal of a run over files that are not refused, which took few bytes
pub want : (disk_rose link_rose told : Type 0) (refusal : Option Error) (short : (most needed : ℕ) → Type 0) (most held taken : ℕ) → told → refusal ≡ None → 2 ^ 43 ≤ most → held ≡ 0 → taken ≤ 2 ^ 27
    → (e : Error) → IsRunRefusal disk_rose link_rose told refusal short most held taken e → IsWant e
want disk_rose link_rose told refusal short most held taken tells none large empty few error.OutOfMemory h = tt
want disk_rose link_rose told refusal short most held taken tells none large empty few error.StorageIoError h = tt
want disk_rose link_rose told refusal short most held taken tells none large empty few error.LinkFault h = tt
want disk_rose link_rose told refusal short most held taken tells none large empty few (error.DiskFull needed limit) h = let much = h.1.much tells in absurd (omega (arith, much, large, empty, few))
want disk_rose link_rose told refusal short most held taken tells none large empty few (error.DataCorruption place offset) h = let e = h tells in cc
want disk_rose link_rose told refusal short most held taken tells none large empty few error.FeatureNotEnabled h = let e = h tells in cc
want disk_rose link_rose told refusal short most held taken tells none large empty few error.ProposeFailed h = let e = h tells in cc
want disk_rose link_rose told refusal short most held taken tells none large empty few (error.UnorderedChunk index) h = h
want disk_rose link_rose told refusal short most held taken tells none large empty few (error.Config place) h = h
want disk_rose link_rose told refusal short most held taken tells none large empty few error.ConfigFault h = h
want disk_rose link_rose told refusal short most held taken tells none large empty few error.StateMachineError h = h

-- of a run over empty files
pub want_run : {D L C : Type 0} (disk : Disks D) (link : Links L) (clock : Clocks C) (old new : D) (from to : L) (before after : C) → IsTrue (disk.kind old).tells → 2 ^ 43 ≤ (disk.kind old).limit
    → (disk.content old).reading ≡ no_files → link.taken to ≤ 2 ^ 27 → (e : Error) → EndsEarly disk link clock standard_run old new from to before after e → IsWant e
want_run disk link clock old new from to before after tells large empty few e =
    want (Faulted disk old new) (Rose (link.faults from) (link.faults to)) (DiskTells disk old) (refused_for standard_run (disk.content old).reading)
    (IsRunTooShort disk link clock standard_run old new from to before after) (disk.kind old).limit (files_size (disk.content old).reading) (link.taken to - link.taken from)
    tells (ap (refused_for standard_run) empty ∙ none_refused) large (ap files_size empty ∙ none_sized) (omega arith) e

-- and what it sends, where the clock is that of a drive
pub said_run : {D L C : Type 0} (disk : Disks D) (link : Links L) (clock : Clocks C) (old new : D) (from to : L) (before after : C) (given : ℕ) → IsTrue (disk.kind old).tells → IsTrue (link.tells from) → IsTrue (clock.tells after)
    → (disk.content old).reading ≡ no_files → link.sent from ≡ [] → clock.readings before ≡ [] → clock.readings after ≡ moments given
    → Served disk link clock standard_run old new from to before after → bytes_of (link.sent to) ≡ answered (link.left from)
said_run disk link clock old new from to before after given disk_tells link_tells clock_tells empty unsent untimed are served =
    let told : Tells (disk.kind old).tells (link.tells from) (clock.tells after) = record { disk_tells = disk_tells; link_tells = link_tells; clock_tells = clock_tells } in
    let run = served nothing empty_log told (ap durable_in empty ∙ none_held) (ap log_in empty ∙ none_logged) in
    ap bytes_of (sym (added_all (link.sent from) (link.sent to) unsent))
    ∙ said (link.left from) (link.left to) given (added (clock.readings before) (clock.readings after)) (added (link.sent from) (link.sent to))
    (added_all (clock.readings before) (clock.readings after) untimed ∙ are) run.answered
