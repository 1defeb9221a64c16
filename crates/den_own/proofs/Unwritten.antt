-- What the calls of a store leave that is kept in memory alone.
use Rattle.std.proofs.Common.{◌≡◌, ◌⊎◌, inl, inr, ◌≤◌, ◌+◌, ◌↔◌, ℕ, Bool, true, false, [], ◌∷◌, IsTrue, Result, Ok, Err, OnOk, IfErr, sym, ap, subst, arith}
use Rattle.std.specs.Result.{IsErrAnd}
use Rattle.den_disk.specs.declared.disk.Disk.{Ghosts}
use Rattle.den_disk.specs.declared.place.Family.{Family}
use Rattle.den_disk.specs.Crash.{Changes, IsSynced}
use Rattle.den_disk.specs.Families.{NoNewImages}
use Rattle.den_disk.specs.Files.{Files, IsImage, Kind}
use Rattle.den_codec.specs.declared.error.Error.{Error}
use Rattle.den_codec.specs.declared.error.Error.TheVariants.{OutOfMemory}
use Rattle.den_gate.proofs.Settling.{settles_images, settles_sync}
use Rattle.den_journal.specs.Shown.{Effect}
use Rattle.den_journal.specs.Writes.{DiskTells, Writes}
use Rattle.den_journal.proofs.Moving.{goes_nowhere, moves_nothing, writes_lost, writes_refused}
use Rattle.den_own.specs.Memory.{in_memory, nothing_told}

-- ---- calls that leave the disk as it is

module _ {D V T : Type 0} (disk : Ghosts D) (family : Family) (change : Effect V) (failing : Bool) (weight : V → ℕ) (was : V) (d : D) where
  -- the change was made
  pub makes : (x : T) (failed : Bool) (now : V) → failed ≡ false → now ≡ change.to → weight change.to ≤ weight was + change.rise
      → Writes disk (in_memory failing weight was) (in_memory failed weight now) d d family nothing_told change (Ok x)
  makes x failed now ready same light = record {
    goes_on = goes_nowhere disk d;
    moves = λ tells. moves_nothing disk family nothing_told was (change.to ∷ []) d (λ told. absurd told);
    done = record { value = same; weight = omega (arith, light, ap weight same); ready = ready; rests = λ tells. tt };
    refused = tt;
  }

  -- memory was wanting, and nothing was changed
  pub refuses : (result : Result T Error) (failed : Bool) (now : V) → IsErrAnd result (λ e. e ≡ OutOfMemory) → failed ≡ false → now ≡ was
      → Writes disk (in_memory failing weight was) (in_memory failed weight now) d d family nothing_told change result
  refuses result failed now is ready same =
      writes_refused disk family nothing_told change (in_memory failing weight was) (in_memory failed weight now) d ready (λ tells. tt) (λ tells told. absurd told) result is same (ap weight same)

  -- memory was wanting in the midst of the change, and the store is of no more use
  loses : (result : Result T Error) (failed : Bool) (now : V) → change.lost → IsErrAnd result (λ e. e ≡ OutOfMemory) → failed ≡ true
      → Writes disk (in_memory failing weight was) (in_memory failed weight now) d d family nothing_told change result
  loses result failed now lost memory is = writes_lost disk family nothing_told change (in_memory failing weight was) (in_memory failed weight now) d d result memory
      (goes_nowhere disk d) (λ tells. moves_nothing disk family nothing_told was (change.to ∷ []) d (λ told. absurd told))
      (record { may_be = lost; failed = λ ready. cc (is, ready); held = λ tells told. absurd told })

  -- the change was made, or memory was wanting for it
  pub either : (result : Result T Error) (failed : Bool) (now : V) → failed ≡ false → weight change.to ≤ weight was + change.rise → OnOk result (now ≡ change.to) → IfErr result (λ e. (e ≡ OutOfMemory) × (now ≡ was))
      → Writes disk (in_memory failing weight was) (in_memory failed weight now) d d family nothing_told change result
  either (Ok x) failed now ready light ok err = makes x failed now ready ok light
  either (Err e) failed now ready light ok err = refuses (Err e) failed now err.0 ready err.1

  -- the same where memory may be wanting in its midst, too
  pub either_or_loses : (result : Result T Error) (failed : Bool) (now : V) → change.lost → weight change.to ≤ weight was + change.rise → OnOk result ((now ≡ change.to) × (failed ≡ false))
      → IfErr result (λ e. (e ≡ OutOfMemory) × (((now ≡ was) × (failed ≡ false)) ⊎ (failed ≡ true)))
      → Writes disk (in_memory failing weight was) (in_memory failed weight now) d d family nothing_told change result
  either_or_loses (Ok x) failed now lost light ok err = makes x failed now ok.1 ok.0 light
  either_or_loses (Err e) failed now lost light ok err = elim err.1 [
    | inl stays ↦ refuses (Err e) failed now err.0 stays.1 stays.0
    | inr fails ↦ loses (Err e) failed now lost err.0 fails
  ]

-- ---- a sync of the disk

-- no image comes with it
pub no_image : {D T E : Type 0} (disk : Ghosts D) → ((d : D) (files : Files) → IsTrue (disk.kind d).tells → disk.images d (disk.moment d) files ↔ IsImage (disk.content d) files) → (old new : D) (result : Result T E) → disk.kind new ≡ disk.kind old
    → (DiskTells disk old → Changes disk.content disk.moment disk.images result (IsSynced (disk.content old)) (λ c. ⊥) (IsImage (disk.content old)) old new)
    → DiskTells disk old → NoNewImages (disk.images old) (disk.images new) (disk.moment old) (disk.moment new)
no_image disk law old new result same changes tells = settles_images disk.content disk.moment disk.images old new
    (settles_sync disk.content disk.moment disk.images old result new (λ files. law old files tells) (λ files. law new files (subst (λ (k : Kind). IsTrue k.tells) (sym same) tells)) (changes tells))
