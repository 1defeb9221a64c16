-- What a call leaves of the files of a family that it has no business with.
use Rattle.std.specs.Prelude.{◌≤◌, ℕ}
use Rattle.den_disk.specs.declared.place.Family.{Family}
use Rattle.den_disk.specs.Families.{SameOf, SparesOwn}
use Rattle.den_disk.specs.Files.{Files, Content}

-- Over a call that is lent a disk: the family's files read as before, with nothing more pending there, and a crash at any
-- moment of the call leaves them as a crash at its entry may have left them.
pub record SparesFamily {D : Type 0} (family : Family) (content : D → Content) (moment : D → ℕ) (crashes : D → ℕ → Files → Type 0) (old new : D) : Type 0 where
  pub own : SparesOwn family (content old) (content new)
  pub images : (t : ℕ) (files : Files) → moment old ≤ t → t ≤ moment new → crashes new t files
      → (before : Files) × crashes old (moment old) before × SameOf family before files
