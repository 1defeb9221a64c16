-- A call on one file leaves the others as a crash before it might have left them.
use Rattle.std.proofs.Common.{⊎_elim, ◌↔◌, ℕ, Result, List, length, sym, subst, arith}
use Rattle.den_disk.specs.declared.place.Place.{Place}
use Rattle.den_disk.specs.Files.{Files, Content, IsImage, torn, resized}
use Rattle.den_disk.specs.Crash.{Stays, Changes, Leaves, IsWritten, IsHalfWritten, IsResized, IsSynced, IsEither}
use Rattle.den_disk.proofs.Moments.{call, call_stays, and_then, weaker}
use Rattle.den_gate.specs.Steps.{IsFrom, Spares}
use Rattle.den_gate.proofs.Beside.{spares_written, spares_torn, spares_resized, spares_synced, spares_from}
use Rattle.den_gate.proofs.Runs.{from_first, from_then}

module _ {D : Type 0} (content : D → Content) (moment : D → ℕ) (images : D → ℕ → Files → Type 0) (place : Place) (start : D)
    (at_start : (files : Files) → images start (moment start) files ↔ IsImage (content start) files) where
  abbrev Now : D → Type 0
  Now d = (files : Files) → images d (moment d) files ↔ IsImage (content d) files

  -- the other files are as they might have been at the start
  abbrev pub Framed : ℕ → Files → Type 0
  Framed t files = IsFrom place (images start (moment start)) files

  abbrev Spared : Content → Type 0
  Spared c = Spares place (content start) c

  image : (t : ℕ) (c : Content) (files : Files) → Spared c → IsImage c files → Framed t files
  image t c files b i = from_first place (IsImage (content start)) (images start (moment start)) (λ f j. (at_start f).1 j) files (spares_from place (content start) c files b i)

  pub frame_stays : (old new : D) → Now old → Spared (content old) → Stays content moment images old new → Leaves content moment images Framed old new × Spared (content new)
  frame_stays old new now b s = call_stays content moment images Framed Spared old new image now s b

  pub frame_writes : {T E : Type 0} (result : Result T E) (at : ℕ) (bytes : List ℕ) (old new : D) → Now old → Now new → Spared (content old)
      → Changes content moment images result (IsWritten place at bytes (content old)) (IsHalfWritten place at bytes (content old)) (IsImage (torn place at (length bytes) (content old))) old new
      → Leaves content moment images Framed old new × Spared (content new)
  frame_writes result at bytes old new now now' b w =
      call content moment images Framed Spared result _ _ _ old new image now now' w
      (λ is. subst Spared (sym is) (spares_written place (content start) (content old) at bytes b))
      (λ is. subst Spared (sym is.2) (spares_written place (content start) (content old) at is.0 b))
      (λ t files i. image t (torn place at (length bytes) (content old)) files (spares_torn place (content start) (content old) at (length bytes) b) i)
      b

  pub frame_resizes : {T E : Type 0} (result : Result T E) (len : ℕ) (old new : D) → Now old → Now new → Spared (content old)
      → Changes content moment images result (IsResized place len (content old)) (IsResized place len (content old)) (IsEither (content old) (resized place len (content old))) old new
      → Leaves content moment images Framed old new × Spared (content new)
  frame_resizes result len old new now now' b w =
      let next = spares_resized place (content start) (content old) len b in
      call content moment images Framed Spared result _ _ _ old new image now now' w
      (λ is. subst Spared (sym is) next)
      (λ is. subst Spared (sym is) next)
      (λ t files i. ⊎_elim (image t (content old) files b) (image t (resized place len (content old)) files next) i)
      b

  pub frame_syncs : {T E : Type 0} (result : Result T E) (old new : D) → Now old → Now new → Spared (content old)
      → Changes content moment images result (IsSynced (content old)) (λ _. ⊥) (IsImage (content old)) old new
      → Leaves content moment images Framed old new × Spared (content new)
  frame_syncs result old new now now' b w =
      call content moment images Framed Spared result _ _ _ old new image now now' w
      (λ is. subst Spared (sym is) (spares_synced place (content start) (content old) b))
      (λ none. absurd none)
      (λ t files i. image t (content old) files b i)
      b

pub frame_then : {D : Type 0} (content : D → Content) (moment : D → ℕ) (images : D → ℕ → Files → Type 0) (place : Place) (old mid new : D)
    → Leaves content moment images (λ t files. IsFrom place (images old (moment old)) files) old mid → Leaves content moment images (λ t files. IsFrom place (images mid (moment mid)) files) mid new
    → Leaves content moment images (λ t files. IsFrom place (images old (moment old)) files) old new
frame_then content moment images place old mid new first second =
    and_then content moment images (λ t files. IsFrom place (images old (moment old)) files) old mid new first
    (weaker content moment images (λ t files. IsFrom place (images mid (moment mid)) files) (λ t files. IsFrom place (images old (moment old)) files) mid new
    (λ t files k. from_then place (images old (moment old)) (images mid (moment mid)) (λ f i. first.each (moment mid) f first.later (omega arith) i) files k) second)
