-- How what is lent to a call goes on over it, and where a fault is counted.
use Rattle.std.specs.Prelude.{◌≡◌, ◌≤◌, ◌^◌, ℕ, ◌+◌, ◌-◌, min, Bool, IsTrue, List, ◌++◌, length, drop, map}
use Rattle.den_disk.specs.Files.{Files, Kind}

-- a count of faults rose, or stands at its last value
abbrev pub Rose : ℕ → ℕ → Type 0
Rose before now = min (before + 1) (2 ^ 64 - 1) ≤ now

-- a failure has a cause: the count of faults rose
pub record HasCause (before now : ℕ) (failure : Type 0) : Type 0 where
  pub later : before ≤ now
  pub rose : failure → Rose before now

-- what joined a list that only grows
abbrev pub added : {A : Type 0} → List A → List A → List A
added old new = drop (length old) new

pub record Extends {A : Type 0} (old new : List A) : Type 0 where
  pub is : new ≡ old ++ added old new

pub record IsPrefix (front whole : List ℕ) : Type 0 where
  pub rest : List ℕ
  pub is : front ++ rest ≡ whole

-- a piece sent at one moment: each byte with that moment
abbrev pub stamped : List ℕ → ℕ → List (ℕ × ℕ)
stamped piece t = map (λ byte. (byte, t)) piece

-- moments do not fall, and earlier moments keep their images and get no new one
pub record ImagesGoOn {D : Type 0} (moment : D → ℕ) (images : D → ℕ → Files → Type 0) (old new : D) : Type 0 where
  pub later : moment old ≤ moment new
  pub past : (t : ℕ) (files : Files) → t ≤ moment old → images new t files → images old t files
  pub keeps : (t : ℕ) (files : Files) → t ≤ moment old → images old t files → images new t files

-- Over a call that is lent a disk, or several.
pub record DiskGoesOn {D : Type 0} (kind : D → Kind) (moment : D → ℕ) (images : D → ℕ → Files → Type 0) (faults : D → ℕ) (old new : D) : Type 0 where
  pub same : kind new ≡ kind old
  pub counts : faults old ≤ faults new
  pub told : IsTrue (kind old).tells → ImagesGoOn moment images old new

-- the same of a link
pub record LinkGoesOn {L : Type 0} (tells : L → Bool) (sent : L → List (ℕ × ℕ)) (budget taken faults : L → ℕ) (old new : L) : Type 0 where
  pub same : tells new ≡ tells old
  pub grows : IsTrue (tells old) → Extends (sent old) (sent new)
  pub limit : budget new ≡ budget old
  pub more : taken old ≤ taken new
  pub counts : faults old ≤ faults new

-- the same of a clock: it tells to the end, so it told all along
pub record ClockGoesOn {C : Type 0} (tells : C → Bool) (readings : C → List ℕ) (old new : C) : Type 0 where
  pub told : IsTrue (tells new) → IsTrue (tells old)
  pub grows : IsTrue (tells new) → Extends (readings old) (readings new)

-- the same of a source
pub record SourceGoesOn {S : Type 0} (tells : S → Bool) (faults : S → ℕ) (old new : S) : Type 0 where
  pub same : tells new ≡ tells old
  pub counts : faults old ≤ faults new

-- the same of a sink
pub record SinkGoesOn {S : Type 0} (tells : S → Bool) (written : S → List ℕ) (faults : S → ℕ) (old new : S) : Type 0 where
  pub same : tells new ≡ tells old
  pub grows : IsTrue (tells old) → Extends (written old) (written new)
  pub counts : faults old ≤ faults new
