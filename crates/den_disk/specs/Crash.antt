-- Time and crashes.
use Rattle.std.specs.Prelude.{◌≡◌, ◌<◌, ◌≤◌, ◌⊎◌, ◌↔◌, ℕ, ◌+◌, Result, OnOk, OnErr, List, length}
use Rattle.den_disk.specs.declared.place.Place.{Place}
use Rattle.den_disk.specs.Files.{Files, Content, IsImage, written, resized, synced}

module _ {D : Type 0} (content : D → Content) (moment : D → ℕ) (images : D → ℕ → Files → Type 0) where
  -- a call that changes nothing
  pub record Stays (old new : D) : Type 0 where
    pub content_same : content new ≡ content old
    pub moment_same : moment new ≡ moment old
    pub images_same : (t : ℕ) (files : Files) → images new t files ↔ images old t files

  -- a call that makes `done` of the content, or at a failure nothing or `half`, with crashes in its midst
  pub record Changes {T E : Type 0} (result : Result T E) (done half : Content → Type 0) (inside : Files → Type 0) (old new : D) : Type 0 where
    pub ok : OnOk result (done (content new) × (moment old + 2 ≤ moment new))
    pub err : OnErr result ((content new ≡ content old) ⊎ (half (content new) × (moment old + 2 ≤ moment new)))
    pub later : moment old ≤ moment new
    pub kept : (t : ℕ) (files : Files) → t ≤ moment old → images new t files ↔ images old t files
    pub within : (t : ℕ) (files : Files) → moment old < t → t < moment new → images new t files → inside files

  -- a crash at any moment from old to new leaves files that have P
  pub record Leaves (P : ℕ → Files → Type 0) (old new : D) : Type 0 where
    pub later : moment old ≤ moment new
    pub kept : (t : ℕ) (files : Files) → t ≤ moment old → images new t files ↔ images old t files
    pub each : (t : ℕ) (files : Files) → moment old ≤ t → t ≤ moment new → images new t files → P t files

-- what a write makes of the content
abbrev pub IsWritten : Place → ℕ → List ℕ → Content → Content → Type 0
IsWritten place at bytes old new = new ≡ written place at bytes old

-- a write of other bytes
abbrev pub IsHalfWritten : Place → ℕ → List ℕ → Content → Content → Type 0
IsHalfWritten place at bytes old new = (other : List ℕ) × (length other ≡ length bytes) × (new ≡ written place at other old)

abbrev pub IsResized : Place → ℕ → Content → Content → Type 0
IsResized place len old new = new ≡ resized place len old

abbrev pub IsEither : Content → Content → Files → Type 0
IsEither a b files = IsImage a files ⊎ IsImage b files

abbrev pub IsSynced : Content → Content → Type 0
IsSynced old new = new ≡ synced old
