-- What a family's files come to in bytes, and that a disk is told to be full only of what it was given.
use Rattle.std.proofs.Common.{◌≡◌, ◌⊎◌, ◌∙◌, ℕ, ◌+◌, ◌*◌, ◌^◌, ◌<◌, ◌≤◌, List, [], ◌∷◌, length, refl, sym, ap, subst, arith}
use Rattle.den_disk.specs.declared.place.Family.{Family}
use Rattle.den_disk.specs.declared.place.Place.{Place}
use Rattle.den_disk.specs.Files.{Files, Content}
use Rattle.den_disk.specs.Families.{SparesAll}
use Rattle.den_model.specs.Regions.{placed}
use Rattle.den_model.specs.Image.{slot_of}
use Rattle.den_model.specs.Sizes.{regions_size, found_size, family_size}
use Rattle.den_gate.specs.declared.error.GateError.{GateError}
use Rattle.den_gate.specs.declared.error.GateError.TheVariants as gate
use Rattle.den_gate.specs.declared.gate.GateFile.{GateFile}
use Rattle.den_gate.specs.Causes.{Because}
use Rattle.den_gate.specs.Gate.{payloads, IsAtRest, IsCurrent}
use Rattle.den_gate.specs.Draft.{other_slot}
use Rattle.den_gate.proofs.Written.{holds_regions}
use Rattle.den_gate.specs.Slot.{Holds, IsShort, room_for}
use Rattle.den_disk.specs.declared.disk.Disk.{Ghosts}
use Rattle.den_codec.specs.declared.error.Error.TheVariants.{StorageIoError, DiskFull}
use Rattle.den_journal.specs.Causes.{IsFullFor, IsTooShort, slot_size}
use Rattle.den_journal.specs.Shown.{Effect, Held, Shown}
use Rattle.den_journal.specs.Writes.{Faulted, IsRefused, DiskTells}
use Rattle.den_journal.specs.Folding.{end_from}
use Rattle.den_journal.specs.Opening.{IsLoaded}
use Rattle.den_journal.specs.Refused.{refusal}
use Rattle.den_journal.proofs.Opens.{loaded_regions, end_is}

-- ---- files

found : (offset : ℕ) (ps : List (List ℕ)) → offset + regions_size (placed offset ps) ≡ end_from offset ps
found offset [] = omega arith
found offset (p ∷ ps) = omega (arith, found (offset + (9 + length p)) ps)

-- the regions of a family's files that were loaded
pub loaded_weight : (family : Family) (gate : GateFile) (old new : Content) → IsLoaded family gate old new → SparesAll old new → gate.end ≡ family_size family old.reading
loaded_weight family gate old new is spares =
    let ps = payloads gate new.reading in
    omega (arith, ap found_size (loaded_regions family gate old new is spares), found 0 ps, end_is 0 ps, is.at_rest.holds.size)

-- ---- a full disk

pub full_of : (size needed limit weight : ℕ) → needed ≡ room_for size 0 → limit < needed → 2 ^ 43 ≤ limit → size ≤ weight → limit < 4 * weight
full_of size needed limit weight is over least within = omega arith

-- what the disk refused of a change
pub refused_by : {D V : Type 0} (disk : Ghosts D) (was now : Shown V) (old new : D) (family : Family) (holds : Held V) (change : Effect V) (full : ℕ → ℕ → Type 0) (e : GateError) → (now.ready → ⊥)
    → (now.value ≡ was.value) ⊎ (now.value ≡ change.to)
    → ((needed limit : ℕ) → full needed limit → (limit ≡ (disk.kind old).limit) × (limit < needed) × (2 ^ 43 ≤ limit))
    → ((needed limit : ℕ) → full needed limit → IsFullFor (DiskTells disk old × holds.told) family (disk.content new).reading (was.weight + change.rise) change.adds change.drafts (DiskFull needed limit))
    → Because ⊥ (Faulted disk old new) full (λ part offset. ⊥) e → IsRefused disk was now old new family holds change (refusal family e)
refused_by disk was now old new family holds change full gate.OutOfMemory failed kept says room h = absurd h
refused_by disk was now old new family holds change full gate.StorageIoError failed kept says room h =
    record { cause = h; full = tt; heavy = tt; untouched = λ e. absurd (cc e); failed = λ _ ready. failed ready; kept = λ _. kept }
refused_by disk was now old new family holds change full (gate.Full needed limit) failed kept says room h =
    let s = says needed limit h in
    let f = room needed limit h in
    record {
      cause = (s.1, s.0);
      full = f;
      heavy = omega (arith, full_of f.0.size needed limit (was.weight + change.rise) f.0.room s.1 s.2 f.0.within, s.0);
      untouched = λ e. absurd (cc e);
      failed = λ _ ready. failed ready;
      kept = λ _. kept;
    }
refused_by disk was now old new family holds change full (gate.DataCorruption part offset) failed kept says room h = absurd h

-- the slot in use is the one that the family's head names
slot_in_use : (family : Family) (slot : Place) (c : Content) → slot.family ≡ family → IsCurrent slot c → slot_of family c.reading ≡ slot
slot_in_use family slot c own current =
    let P : Family → Type 0 = λ f. slot_of f c.reading ≡ slot in
    subst P own (λ i. record { family = slot.family; part = current.head i })

-- a slot that is short of room behind the payloads that it holds
too_short : (slot : Place) (files : Files) (list : List (List ℕ)) (end needed size : ℕ) (sizes : ℕ → Type 0) → Holds list end (files slot) → sizes size → needed ≡ room_for end size → IsShort (files slot) end size
    → IsTooShort slot sizes needed files
too_short slot files list end needed size sizes holds meant room short =
    let same : end ≡ slot_size slot files = omega (arith, ap found_size (holds_regions list end (files slot) holds), found 0 list, end_is 0 list, holds.size) in
    record {
      size = size;
      meant = meant;
      room = room ∙ ap (λ (n : ℕ). room_for n size) same;
      short = subst (λ (n : ℕ). IsShort (files slot) n size) same short;
    }

-- and one that the family's head names, or does not name
pub short_in_use : (family : Family) (gate : GateFile) (c : Content) (needed size : ℕ) (sizes : ℕ → Type 0) → gate.slot.family ≡ family → IsAtRest gate c → IsCurrent gate.slot c → sizes size
    → needed ≡ room_for gate.end size → IsShort (c.reading gate.slot) gate.end size → IsTooShort (slot_of family c.reading) sizes needed c.reading
short_in_use family gate c needed size sizes own rest current meant room short =
    let P : Place → Type 0 = λ p. IsTooShort p sizes needed c.reading in
    subst P (sym (slot_in_use family gate.slot c own current)) (too_short gate.slot c.reading (payloads gate c.reading) gate.end needed size sizes rest.holds meant room short)

pub short_in_other : (family : Family) (slot : Place) (c : Content) (list : List (List ℕ)) (end needed size : ℕ) (sizes : ℕ → Type 0) → slot.family ≡ family → IsCurrent slot c
    → Holds list end (c.reading (other_slot slot)) → sizes size → needed ≡ room_for end size → IsShort (c.reading (other_slot slot)) end size → IsTooShort (other_slot (slot_of family c.reading)) sizes needed c.reading
short_in_other family slot c list end needed size sizes own current holds meant room short =
    let P : Place → Type 0 = λ p. IsTooShort (other_slot p) sizes needed c.reading in
    subst P (sym (slot_in_use family slot c own current)) (too_short (other_slot slot) c.reading list end needed size sizes holds meant room short)

-- what the disk refused of a sync
pub sync_refused : (rose : Type 0) (family : Family) (e : GateError) → Because ⊥ rose (λ needed limit. ⊥) (λ part offset. ⊥) e → (refusal family e ≡ StorageIoError) × rose
sync_refused rose family gate.OutOfMemory h = absurd h
sync_refused rose family gate.StorageIoError h = (refl, h)
sync_refused rose family (gate.Full needed limit) h = absurd h
sync_refused rose family (gate.DataCorruption part offset) h = absurd h
