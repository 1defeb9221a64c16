-- An engine whose log is purged as it is opened: what that leaves, told of the stores as they were handed in.
use Rattle.std.proofs.Common.{◌≡◌, ℕ, ℤ, ◌≤◌, List, [], Option, Result, Ok, Err, refl, ◌∙◌, ap, arith}
use Rattle.den_disk.specs.declared.disk.Disk.{Ghosts}
use Rattle.den_disk.specs.Files.{Files}
use Rattle.den_codec.specs.declared.error.Error.{Error}
use Rattle.den_model.specs.Crash.{Survives}
use Rattle.den_model.specs.Kv.{Durable, Kv}
use Rattle.den_model.specs.Log.{Log}
use Rattle.den_model.specs.Step.{Step}
use Rattle.den_core.specs.Full.{IsSlotTooShort}
use Rattle.den_core.specs.Making.{Makes, Says, Seen}
use Rattle.den_core.specs.PayloadSizes.{PayloadSizes}
use Rattle.den_core.specs.Trimmed.{opened_log}
use Rattle.den_core.proofs.Quiet.{quiet_on}
use Rattle.den_core.proofs.Weighing.{AreAmong, heavier, short_slot}

-- a call whose payloads are among others
pub makes_among : {D : Type 0} (disk : Ghosts D) (was now : Seen) (old new : D) (says : Says) (steps : List Step) (rise : ℕ) (few all : PayloadSizes) (written : Type 0) {T : Type 0} (r : Result T Error)
    → AreAmong few all → Makes disk was now old new says steps rise (IsSlotTooShort few) written r → Makes disk was now old new says steps rise (IsSlotTooShort all) written r
makes_among disk was now old new says steps rise few all written (Ok x) among one = record {
  goes_on = one.goes_on;
  snapshot = one.snapshot;
  same_most = one.same_most;
  survives = one.survives;
  done = one.done;
  refused = tt;
}
makes_among disk was now old new says steps rise few all written (Err e) among one = record {
  goes_on = one.goes_on;
  snapshot = one.snapshot;
  same_most = one.same_most;
  survives = one.survives;
  done = tt;
  refused = record {
    cause = one.refused.cause;
    full = heavier _ _ _ _ _ _ _ _ e (λ t. t) (λ needed t short. short_slot few all _ _ needed _ among (omega arith) short) refl (omega arith) one.refused.full;
    left = one.refused.left;
  };
}

-- the log of an engine, told of the one that was handed in
pub opened_is : (new log same : Log) (role same_role : ℤ) (most same_most : ℕ) → new ≡ opened_log same_role same_most same → same_role ≡ role → same_most ≡ most → same ≡ log → new ≡ opened_log role most log
opened_is new log same role same_role most same_most is is_role is_most is_log =
    is ∙ ap (λ r. opened_log r same_most same) is_role ∙ ap (λ n. opened_log role n same) is_most ∙ ap (opened_log role most) is_log

-- nothing moved, and then nothing more
pub still_on : (holds : Files → Option Durable) (old_at new_at : ℕ → Files → Type 0) (from mid to : ℕ) (first kv : Kv) → ((t : ℕ) (files : Files) → t ≤ mid → new_at t files → old_at t files)
    → Survives holds old_at from mid [] first [] → kv ≡ first → Survives holds new_at mid to [] kv [] → Survives holds new_at from to [] first []
still_on holds old_at new_at from mid to first kv past one same two = quiet_on holds old_at new_at from mid to first kv [] [] past one same two
