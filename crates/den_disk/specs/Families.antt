-- What a call on the files of one family leaves of its own files and of the others'.
use Rattle.std.specs.Prelude.{◌≡◌, ◌⊎◌, ◌≤◌, ℕ, Option, Some}
use Rattle.den_disk.specs.declared.place.Family.{Family}
use Rattle.den_disk.specs.declared.place.Place.{Place}
use Rattle.den_disk.specs.Files.{Files, Content, IsPending}

-- the same files but for one family's
abbrev pub SameBut : Family → Files → Files → Type 0
SameBut own before after = (q : Place) → (q.family ≡ own → ⊥) → after q ≡ before q

-- the same files of one family
abbrev pub SameOf : Family → Files → Files → Type 0
SameOf own before after = (q : Place) → q.family ≡ own → after q ≡ before q

-- calls that left the other families' files as they read, with nothing more pending there
pub record SparesOthers (own : Family) (old new : Content) : Type 0 where
  pub reading : (q : Place) → (q.family ≡ own → ⊥) → new.reading q ≡ old.reading q
  pub pending : (q : Place) → (q.family ≡ own → ⊥) → (k : ℕ) → IsPending new.pending q k → IsPending old.pending q k

-- calls that left one family's files so
pub record SparesOwn (own : Family) (old new : Content) : Type 0 where
  pub reading : (q : Place) → q.family ≡ own → new.reading q ≡ old.reading q
  pub pending : (q : Place) → q.family ≡ own → (k : ℕ) → IsPending new.pending q k → IsPending old.pending q k

-- calls that left all files so
pub record SparesAll (old new : Content) : Type 0 where
  pub reading : (q : Place) → new.reading q ≡ old.reading q
  pub pending : (q : Place) (k : ℕ) → IsPending new.pending q k → IsPending old.pending q k

-- at each moment from one on up to another each image gives the old content or the new one
pub record OldOrNew {X : Type 0} (holds : Files → Option X) (images : ℕ → Files → Type 0) (from to : ℕ) (old new : X) : Type 0 where
  pub each : (t : ℕ) (files : Files) → from ≤ t → t ≤ to → images t files → (holds files ≡ Some old) ⊎ (holds files ≡ Some new)

-- and the other families' files get no image that they did not have at the first moment
pub record SparesImages (own : Family) (old_images images : ℕ → Files → Type 0) (from to : ℕ) : Type 0 where
  pub each : (t : ℕ) (files : Files) → from ≤ t → t ≤ to → images t files → (before : Files) × old_images from before × SameBut own before files

-- no image comes that was none at the first moment
pub record NoNewImages (old_images images : ℕ → Files → Type 0) (from to : ℕ) : Type 0 where
  pub each : (t : ℕ) (files : Files) → from ≤ t → t ≤ to → images t files → old_images from files
