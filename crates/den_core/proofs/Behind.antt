-- A change, and behind it a call that makes no steps.
use Rattle.std.proofs.Common.{◌≡◌, ℕ, ◌≤◌, ◌+◌, IsTrue, List, [], length, Result, Ok, Err, inl, inr, sym, ◌∙◌, ap, subst, arith}
use Rattle.std.specs.Result.{IsErrAnd}
use Rattle.den_disk.specs.declared.disk.Disk.{Ghosts}
use Rattle.den_disk.specs.declared.place.Family.TheVariants.{Snapshot as snapshot_family}
use Rattle.den_disk.specs.Families.{OldOrNew}
use Rattle.den_disk.specs.Files.{Files, Kind}
use Rattle.den_codec.specs.declared.error.Error.{Error}
use Rattle.den_codec.specs.declared.error.Error.TheVariants.{OutOfMemory, StorageIoError, DiskFull, LinkFault, DataCorruption, FeatureNotEnabled, ProposeFailed, UnorderedChunk, Config, ConfigFault, StateMachineError}
use Rattle.den_journal.specs.Writes.{GoesOn, DiskTells}
use Rattle.den_model.specs.Entries.{LogEntry}
use Rattle.den_model.specs.Grown.{appended, IsPurgedUpTo}
use Rattle.den_model.specs.Kv.{Durable, Kv}
use Rattle.den_model.specs.Log.{Log}
use Rattle.den_core.specs.Making.{ChangesStores, Makes, Says, Seen}
use Rattle.den_core.specs.Refusals.{FailsOrStays}
use Rattle.den_core.specs.Spared.{SparesFamily}
use Rattle.den_core.proofs.GoesOn.{disk_twice}
use Rattle.den_core.proofs.Quiet.{stood}
use Rattle.den_core.proofs.Refusing.{at_exit, not_done, refusal_behind}
use Rattle.den_core.proofs.Spared.{moves_then, spares_twice}
use Rattle.den_core.specs.Full.{IsSlotTooShort}
use Rattle.den_core.specs.PayloadSizes.{PayloadSizes}
use Rattle.den_core.proofs.Weighing.{AreAmong, heavier, short_slot}

-- a refusal that leaves what has failed, of which more was written before
left_then : (e : Error) (failed untouched written other more : Type 0) → failed → (untouched → more) → (written → more) → FailsOrStays failed untouched written e → FailsOrStays failed other more e
left_then OutOfMemory failed untouched written other more fails still wrote (inl stays) = inr (fails, still stays)
left_then OutOfMemory failed untouched written other more fails still wrote (inr left) = inr (fails, wrote left.1)
left_then StorageIoError failed untouched written other more fails still wrote left = fails
left_then (DiskFull needed limit) failed untouched written other more fails still wrote left = fails
left_then LinkFault failed untouched written other more fails still wrote left = fails
left_then (DataCorruption place offset) failed untouched written other more fails still wrote left = fails
left_then FeatureNotEnabled failed untouched written other more fails still wrote left = fails
left_then ProposeFailed failed untouched written other more fails still wrote left = fails
left_then (UnorderedChunk index) failed untouched written other more fails still wrote left = fails
left_then (Config place) failed untouched written other more fails still wrote left = fails
left_then ConfigFault failed untouched written other more fails still wrote left = fails
left_then StateMachineError failed untouched written other more fails still wrote left = fails

module _ {D : Type 0} (disk : Ghosts D) (was mid now : Seen) (old between new : D) (says : Says) (to : Durable) (entries : List LogEntry) (sizes : PayloadSizes) (rise more : ℕ) {T : Type 0} (x : T)
    (one : ChangesStores disk was mid old between says to entries sizes rise (Ok x)) (exact : mid.log ≡ appended was.log entries) where
  tells_then : DiskTells disk old → DiskTells disk between
  tells_then told = subst (λ (k : Kind). IsTrue k.tells) (sym one.goes_on.same) told

  module _ {U : Type 0} (r : Result U Error) (short : (most needed : ℕ) → Files → Type 0) (two : Makes disk mid now between new says [] more short (now.log ≡ mid.log) r) where
    both_go_on : GoesOn disk old new
    both_go_on = disk_twice disk.kind disk.moment disk.images disk.faults old between new one.goes_on two.goes_on

    both_spare : DiskTells disk old → SparesFamily snapshot_family disk.content disk.moment disk.images old new
    both_spare = spares_twice disk.kind disk.content disk.moment disk.images disk.faults snapshot_family old between new one.goes_on two.goes_on one.snapshot two.snapshot

    both_move : DiskTells disk old → says.told → OldOrNew says.holds (disk.images new) (disk.moment old) (disk.moment new) was.kv.durable to
    both_move told held =
        moves_then says.holds (disk.images between) (disk.images new) (disk.moment old) (disk.moment between) (disk.moment new) was.kv.durable to
        (two.goes_on.told (tells_then told)).past (one.moves told held)
        (subst (λ d. OldOrNew says.holds (disk.images new) (disk.moment between) (disk.moment new) d d) one.done.durable
        (stood says.holds (disk.images new) (disk.moment between) (disk.moment new) mid.kv (two.survives (tells_then told) held)))

  -- it was made
  pub changes_then : {U V : Type 0} (y : U) (z : V) (short : (most needed : ℕ) → Files → Type 0) → Makes disk mid now between new says [] more short (now.log ≡ mid.log) (Ok y) → ChangesStores disk was now old new says to entries sizes (rise + more) (Ok z)
  changes_then y z short two = record {
    goes_on = both_go_on (Ok y) short two;
    snapshot = both_spare (Ok y) short two;
    same_most = two.same_most ∙ one.same_most;
    moves = both_move (Ok y) short two;
    done = record {
      durable = ap (λ (k : Kv). k.durable) two.done.state ∙ one.done.durable;
      logged = subst (λ (d : Durable). IsPurgedUpTo d.last_index (appended was.log entries) now.log) one.done.durable
          (subst (λ (l : Log). IsPurgedUpTo mid.kv.durable.last_index l now.log) exact two.done.logged);
      weight = omega (arith, one.done.weight, two.done.weight);
      rests = λ told. two.done.rests (tells_then told);
    };
    refused = tt;
  }

  -- it was refused, with all that was changed
  pub changes_refused : {U V : Type 0} (e : Error) (r : Result V Error) (few : PayloadSizes) → AreAmong few sizes → IsErrAnd r (λ y. y ≡ e) → 1 ≤ length entries → now.failed → Makes disk mid now between new {T = U} says [] more (IsSlotTooShort few) (now.log ≡ mid.log) (Err e)
      → ChangesStores disk was now old new says to entries sizes (rise + more) r
  changes_refused e r few among exit some failed two = record {
    goes_on = both_go_on (Err e) (IsSlotTooShort few) two;
    snapshot = both_spare (Err e) (IsSlotTooShort few) two;
    same_most = two.same_most ∙ one.same_most;
    moves = both_move (Err e) (IsSlotTooShort few) two;
    done = not_done r e _ exit;
    refused = at_exit r e _ exit (record {
      cause = refusal_behind _ _ _ _ e (λ rose. omega (arith, rose, one.goes_on.counts)) (ap (λ (k : Kind). k.limit) one.goes_on.same) two.refused.cause;
      full = heavier _ _ _ _ _ _ _ _ e (λ t. (tells_then t.0, t.1)) (λ needed t. short_slot _ _ _ _ needed _ among (omega (arith, one.done.weight))) (ap (λ (k : Kind). k.limit) one.goes_on.same) (omega (arith, one.done.weight)) two.refused.full;
      left = left_then e now.failed _ _ _ _ failed
          (λ still. record { some = some; joined = still.same_log ∙ exact })
          (λ same. record { some = some; joined = same ∙ exact }) two.refused.left;
    });
  }
