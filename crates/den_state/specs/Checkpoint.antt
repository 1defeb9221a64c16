-- A checkpoint of a map: what its payloads are, and what the calls that write one leave.
use Rattle.std.specs.Prelude.{◌≡◌, ◌⊎◌, ◌≤◌, ◌<◌, ℕ, max, Bool, true, false, List, [], ◌∷◌, ◌++◌, length, map, Option, Result, IfErr, IfOk, OnOk}
use Rattle.std.specs.List.{AllByRecursion, flat_map}
use Rattle.den_disk.specs.declared.disk.Disk.{Ghosts as DiskGhosts}
use Rattle.den_model.specs.declared.region.StateRegion.{StateRegion}
use Rattle.den_model.specs.declared.region.StateRegion.TheVariants.{Begin, Pairs}
use Rattle.den_model.specs.declared.region.StoredPair.{StoredPair}
use Rattle.den_model.specs.MapState.{MapState}
use Rattle.den_model.specs.Spelling.{state_region_word}
use Rattle.den_table.specs.Keyed.{behind}
use Rattle.den_model.specs.Words.{FitsStateRegion}
use Rattle.den_gate.specs.Gate.{payloads}
use Rattle.den_gate.specs.Draft.{other_slot}
use Rattle.den_codec.specs.declared.error.Error.{Error}
use Rattle.den_codec.specs.Full.{IsHeavy}
use Rattle.den_map.specs.Held.{IsSound}
use Rattle.den_map.specs.Pages.{last_key, page_size, stored_pairs}
use Rattle.den_map.specs.Sizes.{pairs_size}
use Rattle.den_journal.specs.declared.folded.Folded.{Ghosts}
use Rattle.den_journal.specs.declared.journal.Journal.{Journal}
use Rattle.den_journal.specs.Causes.{IsFullFor, IsRefusal}
use Rattle.den_journal.specs.Drafts.{Drafts, IsDrafting}
use Rattle.den_journal.specs.Journals.{journal_held, journal_shown}
use Rattle.den_journal.specs.Shown.{Effect, rewrite_size}
use Rattle.den_journal.specs.Writes.{DiskTells, Faulted, GoesOn, Moves}
use Rattle.den_state.specs.declared.stored_map.StoredMap.{StoredMap}

-- a page of a checkpoint: one pair at least, and 65,536 bytes at most where it has more
abbrev pub IsShortPage : List StoredPair → Type 0
IsShortPage page = (1 ≤ length page) × (2 ≤ length page → page_size page ≤ 65536)

-- the payloads of a mark and of pages of pairs
abbrev pub words_of : MapState → List (List StoredPair) → List (List ℕ)
words_of m pages = state_region_word (Begin m.mark.index m.mark.term) ∷ map (λ page. state_region_word (Pairs page)) pages

-- the payloads of a checkpoint of this map: its mark, and all its pairs with their expiries in pages
pub record IsCheckpoint (m : MapState) (list : List (List ℕ)) : Type 0 where
  pub pages : List (List StoredPair)
  pub words : list ≡ words_of m pages
  pub all : flat_map (λ page. page) pages ≡ stored_pairs m
  pub short : AllByRecursion IsShortPage pages

-- the size of the payload of some pairs that stand together in the map
pub record IsPageSize (m : MapState) (size : ℕ) : Type 0 where
  pub before : List StoredPair
  pub page : List StoredPair
  pub behind : List StoredPair
  pub parts : before ++ (page ++ behind) ≡ stored_pairs m
  pub is : size ≡ page_size page

-- the size of a payload that a checkpoint of this map may have
abbrev pub IsCheckpointSize : MapState → ℕ → Type 0
IsCheckpointSize m size = (size ≡ length (state_region_word (Begin m.mark.index m.mark.term))) ⊎ IsPageSize m size

-- the same map, written anew, which may want memory between its parts
abbrev pub renew_change : MapState → Effect MapState
renew_change m = record { to = m; adds = λ n. ⊥; drafts = IsCheckpointSize m; rise = 0; lost = Unit {0} }

-- ---- the calls that write it

module _ (fold : Ghosts StoredMap StateRegion) {D : Type 0} (disk : DiskGhosts D) where
  -- a journal whose regions are a checkpoint of this map, in the slot that was not in use, and give this value
  pub record IsRenewed (m : MapState) (v : fold.Value) (most : ℕ) (was now : Journal StoredMap) (old new : D) : Type 0 where
    pub value : fold.value now.held ≡ v
    pub weight : (journal_shown fold now).weight ≤ most
    pub ready : (journal_shown fold now).ready
    pub rests : DiskTells disk old → (journal_shown fold now).rests (disk.content new)
    pub list : DiskTells disk old → IsCheckpoint m (payloads now.gate (disk.content new).reading)
    pub slot : now.gate.slot ≡ other_slot was.gate.slot

  -- `stands` is the value that the regions in use give. It is another one than the map's where the map is to take its
  -- place.
  module _ (stands : fold.Value) (m : MapState) where
    -- A checkpoint in its midst: the draft is the mark and these pages, whose pairs are the first of the map's.
    pub record IsWriting (most : ℕ) (last : Option (List ℕ)) (j : Journal StoredMap) (at : D) : Type 0 where
      pub pages : List (List StoredPair)
      pub left : List StoredPair
      pub drafting : IsDrafting fold disk stands j (words_of m pages) at
      pub parts : flat_map (λ page. page) pages ++ left ≡ stored_pairs m
      pub last_is : last ≡ last_key (flat_map (λ page. page) pages)
      pub short : AllByRecursion IsShortPage pages
      pub begins : FitsStateRegion (Begin m.mark.index m.mark.term)
      pub fits : AllByRecursion (λ page. FitsStateRegion (Pairs page)) pages
      pub is_map : j.held.map ≡ m
      pub light : rewrite_size (pairs_size m.pairs) ≤ most

    -- a checkpoint that stands whole in the draft
    pub record IsDraftWhole (j : Journal StoredMap) (at : D) : Type 0 where
      pub pages : List (List StoredPair)
      pub drafting : IsDrafting fold disk stands j (words_of m pages) at
      pub all : flat_map (λ page. page) pages ≡ stored_pairs m
      pub short : AllByRecursion IsShortPage pages
      pub begins : FitsStateRegion (Begin m.mark.index m.mark.term)
      pub fits : AllByRecursion (λ page. FitsStateRegion (Pairs page)) pages
      pub sound : IsSound m

    module _ (was now : Journal StoredMap) (old new : D) where
      -- What calls on the draft leave, one or several, whatever comes of them: at each moment a crash leaves the value
      -- that stands, or one of these. The map stays in memory.
      pub record Steps {T : Type 0} (most : ℕ) (values : List fold.Value) (result : Result T Error) : Type 0 where
        pub drafts : Drafts fold disk was now old new (stands ∷ values) result
        pub full : IfErr result (IsFullFor (DiskTells disk old) fold.FAMILY (disk.content new).reading most (λ n. ⊥) (IsCheckpointSize m))
        pub heavy : IfErr result (IsHeavy (disk.kind old).limit most)

      -- A call that adds the next page to the draft, if one is left, behind this key.
      pub record Next (most : ℕ) (last key : Option (List ℕ)) (result : Result Bool Error) : Type 0 where
        pub steps : Steps most [] result
        pub writing : OnOk result (IsWriting most key now new)
        pub written : IfOk result (λ more. more ≡ false → IsDraftWhole now new)
        pub fewer : IfOk result (λ more. more ≡ true → length (behind key m.pairs) < length (behind last m.pairs))

      -- a call that writes the map anew
      pub record Renews {T : Type 0} (most : ℕ) (result : Result T Error) : Type 0 where
        pub steps : Steps most (fold.renewed (fold.value was.held) ∷ []) result
        pub done : OnOk result (IsRenewed m (fold.renewed (fold.value was.held)) most was now old new)

  -- A call that puts another map in the map's place. A crash inside leaves the old map, or the other one as it is once
  -- written anew. A refusal leaves the journal of no more use, with one of the two in memory.
  pub record Replaces (held : StoredMap) (was now : Journal StoredMap) (old new : D) {T : Type 0} (result : Result T Error) : Type 0 where
    pub goes_on : GoesOn disk old new
    pub moves : DiskTells disk old → Moves disk fold.FAMILY (journal_held fold) (fold.value was.held ∷ fold.renewed (fold.value held) ∷ []) old new
    pub done : OnOk result (IsRenewed held.map (fold.renewed (fold.value held)) (max was.gate.end (rewrite_size (pairs_size held.map.pairs))) was now old new)
    pub cause : IfErr result (IsRefusal (Faulted disk old new) (disk.kind old).limit)
    pub full : IfErr result (IsFullFor (DiskTells disk old) fold.FAMILY (disk.content new).reading (max was.gate.end (rewrite_size (pairs_size held.map.pairs))) (λ n. ⊥) (IsCheckpointSize held.map))
    pub heavy : IfErr result (IsHeavy (disk.kind old).limit (max was.gate.end (rewrite_size (pairs_size held.map.pairs))))
    pub failed : IfErr result (λ e. (journal_shown fold now).ready → ⊥)
    pub kept : IfErr result (λ e. (now.held ≡ was.held) ⊎ (now.held ≡ held))
