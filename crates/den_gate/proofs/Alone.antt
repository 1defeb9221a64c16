-- Runs of calls on one file alone.
use Rattle.std.proofs.Common.{◌≡◌, ◌↔◌, ℕ, IsTrue, List, Result, length, sym, ◌∙◌, subst}
use Rattle.den_disk.specs.declared.disk.Disk.{Ghosts}
use Rattle.den_disk.specs.declared.place.Place.{Place}
use Rattle.den_disk.specs.Files.{Files, Kind, IsImage, torn, resized}
use Rattle.den_disk.specs.Crash.{Stays, Changes, IsWritten, IsHalfWritten, IsResized, IsSynced, IsEither}
use Rattle.den_gate.specs.Steps.{RunSpares}
use Rattle.den_gate.proofs.Beside.{spares_start}
use Rattle.den_gate.proofs.Frame.{frame_stays, frame_writes, frame_resizes, frame_syncs, frame_then}

module _ {D : Type 0} (disk : Ghosts D) where
  -- what a crash leaves at a moment is what is read then, but for what is pending
  abbrev pub Law : Type 0
  Law = (d : D) (files : Files) → IsTrue (disk.kind d).tells → disk.images d (disk.moment d) files ↔ IsImage (disk.content d) files

  -- a run on one file, on a disk of one kind
  pub record Alone (place : Place) (old new : D) : Type 0 where
    pub kind : disk.kind new ≡ disk.kind old
    pub run : IsTrue (disk.kind old).tells → RunSpares disk.content disk.moment disk.images place old new

  module _ (law : Law) (place : Place) {old new : D} (same : disk.kind new ≡ disk.kind old) where
    abbrev Told : Type 0
    Told = IsTrue (disk.kind old).tells

    old_law : Told → (files : Files) → disk.images old (disk.moment old) files ↔ IsImage (disk.content old) files
    old_law tells files = law old files tells

    new_law : Told → (files : Files) → disk.images new (disk.moment new) files ↔ IsImage (disk.content new) files
    new_law tells files = law new files (subst (λ (k : Kind). IsTrue k.tells) (sym same) tells)

    pub stays_alone : (Told → Stays disk.content disk.moment disk.images old new) → Alone place old new
    stays_alone stays = record {
      kind = same;
      run = λ tells.
          let one = frame_stays disk.content disk.moment disk.images place old (old_law tells) old new (old_law tells) (spares_start place (disk.content old)) (stays tells) in
          record { any_moment = one.0; spares = one.1 };
    }

    module _ {T E : Type 0} {result : Result T E} where
      pub writes_alone : (at : ℕ) (bytes : List ℕ)
          → (Told → Changes disk.content disk.moment disk.images result (IsWritten place at bytes (disk.content old)) (IsHalfWritten place at bytes (disk.content old))
          (IsImage (torn place at (length bytes) (disk.content old))) old new) → Alone place old new
      writes_alone at bytes writes = record {
        kind = same;
        run = λ tells.
            let one = frame_writes disk.content disk.moment disk.images place old (old_law tells) result at bytes old new (old_law tells) (new_law tells) (spares_start place (disk.content old)) (writes tells) in
            record { any_moment = one.0; spares = one.1 };
      }

      pub resizes_alone : (len : ℕ)
          → (Told → Changes disk.content disk.moment disk.images result (IsResized place len (disk.content old)) (IsResized place len (disk.content old))
          (IsEither (disk.content old) (resized place len (disk.content old))) old new) → Alone place old new
      resizes_alone len resizes = record {
        kind = same;
        run = λ tells.
            let one = frame_resizes disk.content disk.moment disk.images place old (old_law tells) result len old new (old_law tells) (new_law tells) (spares_start place (disk.content old)) (resizes tells) in
            record { any_moment = one.0; spares = one.1 };
      }

      pub syncs_alone : (Told → Changes disk.content disk.moment disk.images result (IsSynced (disk.content old)) (λ _. ⊥) (IsImage (disk.content old)) old new) → Alone place old new
      syncs_alone syncs = record {
        kind = same;
        run = λ tells.
            let one = frame_syncs disk.content disk.moment disk.images place old (old_law tells) result old new (old_law tells) (new_law tells) (spares_start place (disk.content old)) (syncs tells) in
            record { any_moment = one.0; spares = one.1 };
      }

pub runs_then : {D : Type 0} (disk : Ghosts D) (place : Place) (old mid new : D) → RunSpares disk.content disk.moment disk.images place old mid → RunSpares disk.content disk.moment disk.images place mid new
    → RunSpares disk.content disk.moment disk.images place old new
runs_then disk place old mid new first second = record {
  any_moment = frame_then disk.content disk.moment disk.images place old mid new first.any_moment second.any_moment;
  spares = record {
    reading = λ q ne. second.spares.reading q ne ∙ first.spares.reading q ne;
    pending = λ q ne k h. first.spares.pending q ne k (second.spares.pending q ne k h);
  };
}

module _ {D : Type 0} {disk : Ghosts D} {place : Place} {old mid new : D} where
  pub then_alone : Alone disk place old mid → Alone disk place mid new → Alone disk place old new
  then_alone first second = record {
    kind = second.kind ∙ first.kind;
    run = λ tells. runs_then disk place old mid new (first.run tells) (second.run (subst (λ (k : Kind). IsTrue k.tells) (sym first.kind) tells));
  }
