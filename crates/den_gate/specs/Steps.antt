-- What the steps of a call make of one slot, and what they and a crash in them leave of the other files.
use Rattle.std.specs.Prelude.{◌≡◌, ◌⊎◌, ◌≤◌, ◌<◌, ℕ, ◌+◌, Ok, List, [], ◌∷◌, ◌++◌}
use Rattle.den_disk.specs.declared.place.Family.{Family}
use Rattle.den_disk.specs.declared.place.Place.{Place}
use Rattle.den_disk.specs.Files.{Files, Content, IsPending}
use Rattle.den_disk.specs.Crash.{Leaves}
use Rattle.den_disk.specs.Families.{SameBut, SparesOthers}
use Rattle.den_model.specs.Regions.{regions, placed}
use Rattle.den_gate.specs.Slot.{Holds, Staged}

-- nothing of the file is pending
abbrev pub IsSettled : Place → Content → Type 0
IsSettled place content = (k : ℕ) → IsPending content.pending place k → ⊥

-- the slot's regions end here, and all of it is on the disk
pub record IsOpen (slot : Place) (list : List (List ℕ)) (end : ℕ) (content : Content) : Type 0 where
  pub holds : Holds list end (content.reading slot)
  pub settled : IsSettled slot content

-- a payload stands on the disk behind the slot's closed gate
pub record IsStaged (slot : Place) (list : List (List ℕ)) (payload : List ℕ) (end : ℕ) (content : Content) : Type 0 where
  pub staged : Staged list payload end (content.reading slot)
  pub settled : IsSettled slot content

-- calls that left the other files as they read, with nothing more pending there
pub record Spares (place : Place) (old new : Content) : Type 0 where
  pub reading : (q : Place) → (q ≡ place → ⊥) → new.reading q ≡ old.reading q
  pub pending : (q : Place) → (q ≡ place → ⊥) → (k : ℕ) → IsPending new.pending q k → IsPending old.pending q k

-- the other files as a crash before it might have left them
pub record IsFrom (place : Place) (before : Files → Type 0) (files : Files) : Type 0 where
  pub origin : Files
  pub was : before origin
  pub others : (q : Place) → (q ≡ place → ⊥) → files q ≡ origin q

-- the other families' files as a crash before it might have left them
pub record IsFromOthers (own : Family) (before : Files → Type 0) (files : Files) : Type 0 where
  pub origin : Files
  pub was : before origin
  pub others : SameBut own origin files

-- a crash leaves the slot's payloads, and nothing new in the other files
pub record Keeps (slot : Place) (list : List (List ℕ)) (before : Files → Type 0) (files : Files) : Type 0 where
  pub from : IsFrom slot before files
  pub stands : regions (files slot) ≡ Ok (placed 0 list)

-- the same, with one payload more or without it
pub record KeepsOrAdds (slot : Place) (list : List (List ℕ)) (payload : List ℕ) (before : Files → Type 0) (files : Files) : Type 0 where
  pub from : IsFrom slot before files
  pub stands : (regions (files slot) ≡ Ok (placed 0 list)) ⊎ (regions (files slot) ≡ Ok (placed 0 (list ++ payload ∷ [])))

-- the regions stand on the disk, and so does the closed gate behind them
pub record IsCalm (slot : Place) (list : List (List ℕ)) (end : ℕ) (first content : Content) : Type 0 where
  pub spares : Spares slot first content
  pub holds : Holds list end (content.reading slot)
  pub settled : (k : ℕ) → k ≤ end → IsPending content.pending slot k → ⊥

-- all but the gate at the end stands on the disk, with a payload behind that gate
pub record IsPoised (slot : Place) (list : List (List ℕ)) (payload : List ℕ) (end : ℕ) (first content : Content) : Type 0 where
  pub spares : Spares slot first content
  pub staged : Staged list payload end (content.reading slot)
  pub settled : (k : ℕ) → (k < end) ⊎ (end + 1 ≤ k) → IsPending content.pending slot k → ⊥

module _ {D : Type 0} (content : D → Content) (moment : D → ℕ) (images : D → ℕ → Files → Type 0) where
  -- calls that keep the slot's list at each moment, and spare the other files
  pub record RunKeeps (slot : Place) (list : List (List ℕ)) (old new : D) : Type 0 where
    pub any_moment : Leaves content moment images (λ t files. Keeps slot list (images old (moment old)) files) old new
    pub spares : Spares slot (content old) (content new)

  -- calls that keep it or add a payload to it
  pub record RunKeepsOrAdds (slot : Place) (list : List (List ℕ)) (payload : List ℕ) (old new : D) : Type 0 where
    pub any_moment : Leaves content moment images (λ t files. KeepsOrAdds slot list payload (images old (moment old)) files) old new
    pub spares : Spares slot (content old) (content new)

  -- calls that change one file alone
  pub record RunSpares (place : Place) (old new : D) : Type 0 where
    pub any_moment : Leaves content moment images (λ t files. IsFrom place (images old (moment old)) files) old new
    pub spares : Spares place (content old) (content new)

  -- calls that change the files of one family alone
  pub record RunSparesOthers (own : Family) (old new : D) : Type 0 where
    pub any_moment : Leaves content moment images (λ t files. IsFromOthers own (images old (moment old)) files) old new
    pub spares : SparesOthers own (content old) (content new)
