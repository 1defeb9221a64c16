-- Regions that are written anew, in the family's other slot.
use Rattle.std.specs.Prelude.{◌≡◌, ◌⊎◌, ◌+◌, ℕ, max, List, [], ◌∷◌, ◌++◌, length, Option, Some, None, IsSome, Result, IfErr, OnOk, true, false}
use Rattle.den_disk.specs.declared.disk.Disk.{Ghosts as DiskGhosts}
use Rattle.den_disk.specs.declared.place.Family.{Family}
use Rattle.den_disk.specs.Files.{Files}
use Rattle.den_model.specs.Regions.{open_regions}
use Rattle.den_model.specs.Image.{slot_of}
use Rattle.den_gate.specs.Slot.{room_for}
use Rattle.den_gate.specs.Gate.{payloads}
use Rattle.den_gate.specs.Draft.{IsDraft, draft_end, other_slot}
use Rattle.den_codec.specs.declared.error.Error.{Error}
use Rattle.den_codec.specs.declared.error.Error.TheVariants.{OutOfMemory, StorageIoError, DiskFull, LinkFault, DataCorruption, FeatureNotEnabled, ProposeFailed, UnorderedChunk, Config, ConfigFault, StateMachineError}
use Rattle.den_codec.specs.Full.{IsHeavy}
use Rattle.den_journal.specs.declared.folded.Folded.{Ghosts}
use Rattle.den_journal.specs.declared.journal.Journal.{Journal}
use Rattle.den_journal.specs.Causes.{IsRefusal, IsTooShort}
use Rattle.den_journal.specs.Shown.{Effect, RestsAs, rewrite_size}
use Rattle.den_journal.specs.Writes.{GoesOn, DiskTells, Faulted, Moves}
use Rattle.den_journal.specs.Journals.{journal_shown, journal_held}

-- ---- in one call

-- the words of a region and of another behind it, if there is one
abbrev pub anew_words : {R : Type 0} → (R → List ℕ) → R → Option R → List (List ℕ)
anew_words word region None = word region ∷ []
anew_words word region (Some rest) = word region ∷ word rest ∷ []

-- the size of one of these payloads
abbrev pub IsSizeOf : List (List ℕ) → ℕ → Type 0
IsSizeOf [] n = ⊥
IsSizeOf (p ∷ ps) n = (n ≡ length p) ⊎ IsSizeOf ps n

-- a region's change, made by writing all regions anew, with these words
abbrev pub rewrite_change : {F R : Type 0} (fold : Ghosts F R) → fold.Value → R → List (List ℕ) → Effect fold.Value
rewrite_change fold v r words = record { to = fold.changed v r; adds = λ n. ⊥; drafts = IsSizeOf words; rise = fold.rise r; lost = fold.lost r }

-- ---- in several calls

-- where the disk is full of a draft: the room that the family's other slot would need for a payload of this size more
abbrev pub IsFullOf : (told : Type 0) (family : Family) (files : Files) (end size : ℕ) → Error → Type 0
IsFullOf told family files end size (DiskFull needed limit) = (needed ≡ room_for end size) × (told → IsTooShort (other_slot (slot_of family files)) (λ n. n ≡ size) needed files)
IsFullOf told family files end size OutOfMemory = Unit {0}
IsFullOf told family files end size StorageIoError = Unit {0}
IsFullOf told family files end size LinkFault = Unit {0}
IsFullOf told family files end size (DataCorruption place offset) = Unit {0}
IsFullOf told family files end size FeatureNotEnabled = Unit {0}
IsFullOf told family files end size ProposeFailed = Unit {0}
IsFullOf told family files end size (UnorderedChunk index) = Unit {0}
IsFullOf told family files end size (Config place) = Unit {0}
IsFullOf told family files end size ConfigFault = Unit {0}
IsFullOf told family files end size StateMachineError = Unit {0}

-- `stands` is the value that the regions of the slot in use give. It is the journal's own, unless the journal took on
-- another one, which the draft is to give.
module _ {F R : Type 0} (fold : Ghosts F R) {D : Type 0} (disk : DiskGhosts D) where
  -- A journal between the beginning of a draft and its commit: these words are the draft, and the regions of the slot in use
  -- give the value that stands. It is not ready.
  pub record IsDrafting (stands : fold.Value) (j : Journal F) (words : List (List ℕ)) (at : D) : Type 0 where
    pub begun : IsSome j.gate.draft
    pub end : draft_end j.gate ≡ length (open_regions words)
    pub going : j.gate.failed ≡ false
    pub unready : j.failed ≡ true
    pub gives : DiskTells disk at → RestsAs fold.FAMILY (fold.from fold.empty) j.gate stands (disk.content at)
    pub draft : DiskTells disk at → IsDraft j.gate words (disk.content at)

  module _ (was now : Journal F) (old new : D) where
    -- A call on a draft, whatever comes of it: a crash at each moment leaves one of these values. A refusal leaves the journal
    -- of no more use, with the value that it had.
    pub record Drafts {T : Type 0} (values : List fold.Value) (result : Result T Error) : Type 0 where
      pub goes_on : GoesOn disk old new
      pub moves : DiskTells disk old → Moves disk fold.FAMILY (journal_held fold) values old new
      pub cause : IfErr result (IsRefusal (Faulted disk old new) (disk.kind old).limit)
      pub failed : IfErr result (λ e. (journal_shown fold now).ready → ⊥)
      pub same_value : IfErr result (λ e. fold.value now.held ≡ fold.value was.held)

    -- A call that adds a word to a draft of these.
    pub record Pushes {T : Type 0} (stands : fold.Value) (words : List (List ℕ)) (word : List ℕ) (result : Result T Error) : Type 0 where
      pub drafts : Drafts (stands ∷ []) result
      pub pushed : OnOk result (IsDrafting stands now (words ++ word ∷ []) new)
      pub full : IfErr result (IsFullOf (DiskTells disk old) fold.FAMILY (disk.content new).reading (length (open_regions words)) (length word))
      pub heavy : IfErr result (IsHeavy (disk.kind old).limit (length (open_regions words) + length word))

    -- a journal whose draft of these words is in use
    pub record IsCommitted (words : List (List ℕ)) : Type 0 where
      pub value : fold.value now.held ≡ fold.renewed (fold.value was.held)
      pub weight : (journal_shown fold now).weight ≡ max (length (open_regions words)) (rewrite_size (fold.size (fold.value was.held)))
      pub ready : (journal_shown fold now).ready
      pub rests : DiskTells disk old → (journal_shown fold now).rests (disk.content new)
      pub list : DiskTells disk old → payloads now.gate (disk.content new).reading ≡ words
      pub slot : now.gate.slot ≡ other_slot was.gate.slot

    -- A call that makes a draft of these words the family's list. A crash inside leaves the value that stands, or the
    -- journal's as it is once its regions are written anew.
    pub record Commits {T : Type 0} (stands : fold.Value) (words : List (List ℕ)) (result : Result T Error) : Type 0 where
      pub drafts : Drafts (stands ∷ fold.renewed (fold.value was.held) ∷ []) result
      pub done : OnOk result (IsCommitted words)
