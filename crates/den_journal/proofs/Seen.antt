-- A store of whose value a part is seen.
use Rattle.std.proofs.Common.{◌≡◌, refl, inl, inr, ⊎_elim, ℕ, ◌+◌, ◌≤◌, [], ◌∷◌, Some, Result, Ok, Err, ap, ◌∙◌, subst, arith}
use Rattle.den_disk.specs.declared.disk.Disk.{Ghosts}
use Rattle.den_disk.specs.declared.place.Family.{Family}
use Rattle.den_disk.specs.declared.place.Place.{Place}
use Rattle.den_disk.specs.Files.{Files}
use Rattle.den_model.specs.Image.{slot_of}
use Rattle.den_codec.specs.declared.error.Error.{Error}
use Rattle.den_codec.specs.declared.error.Error.TheVariants as error
use Rattle.den_codec.specs.Full.{IsHeavy}
use Rattle.den_gate.specs.Draft.{other_slot}
use Rattle.den_journal.specs.Causes.{IsFullFor, IsOfDisk, IsTooShort}
use Rattle.den_journal.specs.Folding.{IsUnread}
use Rattle.den_journal.specs.Shown.{Effect, Held, Shown, seen_as}
use Rattle.den_journal.specs.Writes.{DiskTells, Moves, Becomes, Untouched, IsLost, IsRefused, Writes}

-- ---- a heavier weight

pub more_heavy : (most weight more : ℕ) (e : Error) → weight ≤ more → IsHeavy most weight e → IsHeavy most more e
more_heavy most weight more error.OutOfMemory le h = tt
more_heavy most weight more error.StorageIoError le h = tt
more_heavy most weight more (error.DiskFull needed limit) le h = omega arith
more_heavy most weight more error.LinkFault le h = tt
more_heavy most weight more (error.DataCorruption place offset) le h = tt
more_heavy most weight more error.FeatureNotEnabled le h = tt
more_heavy most weight more error.ProposeFailed le h = tt
more_heavy most weight more (error.UnorderedChunk index) le h = tt
more_heavy most weight more (error.Config place) le h = tt
more_heavy most weight more error.ConfigFault le h = tt
more_heavy most weight more error.StateMachineError le h = tt

-- ---- a full disk, of more bytes and of more sizes

more_short : (slot : Place) (sizes more : ℕ → Type 0) (needed : ℕ) (files : Files) → ((n : ℕ) → sizes n → more n) → IsTooShort slot sizes needed files → IsTooShort slot more needed files
more_short slot sizes more needed files on s = record { size = s.size; meant = on s.size s.meant; room = s.room; short = s.short }

pub more_full : (told more_told : Type 0) (family : Family) (files : Files) (most more : ℕ) (adds drafts more_adds more_drafts : ℕ → Type 0) (e : Error) → (more_told → told) → most ≤ more
    → ((n : ℕ) → adds n → more_adds n) → ((n : ℕ) → drafts n → more_drafts n) → IsFullFor told family files most adds drafts e → IsFullFor more_told family files more more_adds more_drafts e
more_full told more_told family files most more adds drafts more_adds more_drafts (error.DiskFull needed limit) tells le on_adds on_drafts f = (
  record { size = f.0.size; within = omega (arith, f.0.within); room = f.0.room },
  λ t. ⊎_elim (λ s. inl (more_short (slot_of family files) adds more_adds needed files on_adds s)) (λ s. inr (more_short (other_slot (slot_of family files)) drafts more_drafts needed files on_drafts s)) (f.1 (tells t)),
)
more_full told more_told family files most more adds drafts more_adds more_drafts error.OutOfMemory tells le on_adds on_drafts f = tt
more_full told more_told family files most more adds drafts more_adds more_drafts error.StorageIoError tells le on_adds on_drafts f = tt
more_full told more_told family files most more adds drafts more_adds more_drafts error.LinkFault tells le on_adds on_drafts f = tt
more_full told more_told family files most more adds drafts more_adds more_drafts (error.DataCorruption place offset) tells le on_adds on_drafts f = tt
more_full told more_told family files most more adds drafts more_adds more_drafts error.FeatureNotEnabled tells le on_adds on_drafts f = tt
more_full told more_told family files most more adds drafts more_adds more_drafts error.ProposeFailed tells le on_adds on_drafts f = tt
more_full told more_told family files most more adds drafts more_adds more_drafts (error.UnorderedChunk index) tells le on_adds on_drafts f = tt
more_full told more_told family files most more adds drafts more_adds more_drafts (error.Config place) tells le on_adds on_drafts f = tt
more_full told more_told family files most more adds drafts more_adds more_drafts error.ConfigFault tells le on_adds on_drafts f = tt
more_full told more_told family files most more adds drafts more_adds more_drafts error.StateMachineError tells le on_adds on_drafts f = tt

-- ---- a call that writes

-- two answers of one outcome
abbrev pub IsSameOutcome : {S T : Type 0} → Result S Error → Result T Error → Type 0
IsSameOutcome (Ok x) (Ok y) = Unit {0}
IsSameOutcome (Err e) (Err f) = e ≡ f
IsSameOutcome _ _ = ⊥

module _ {D V W : Type 0} (disk : Ghosts D) (family : Family) (holds : Held V) (held : Held W) (part : V → W) (was now : Shown V) (old new : D) (change : Effect V) (made : Effect W)
    (told : held.told → holds.told) (gives : (files : Files) (v : V) → holds.of files ≡ Some v → held.of files ≡ Some (part v)) (to : part change.to ≡ made.to) (adds : (n : ℕ) → change.adds n → made.adds n) (drafts : (n : ℕ) → change.drafts n → made.drafts n) (rise : change.rise ≤ made.rise) (lost : change.lost → made.lost) where
  made_some : (files : Files) → holds.of files ≡ Some change.to → held.of files ≡ Some made.to
  made_some files is = gives files change.to is ∙ ap (λ w. Some w) to

  moves_part : Moves disk family holds (was.value ∷ change.to ∷ []) old new → Moves disk family held (part was.value ∷ made.to ∷ []) old new
  moves_part m = record {
    own = λ is t files low high i. ⊎_elim (λ before. inl (gives files was.value before)) (λ after. inr (made_some files after)) (m.own (told is) t files low high i);
    others = m.others;
    spares = m.spares;
  }

  becomes_part : Becomes disk was now old new change → Becomes disk (seen_as part was) (seen_as part now) old new made
  becomes_part b = record { value = ap part b.value ∙ to; weight = omega (arith, b.weight, rise); ready = b.ready; rests = b.rests }

  untouched_part : Untouched disk was now old new → Untouched disk (seen_as part was) (seen_as part now) old new
  untouched_part u = record { same_disk = u.same_disk; same_value = ap part u.same_value; same_weight = u.same_weight; ready = u.ready; rests = u.rests }

  lost_part : IsLost disk was now old new holds change → IsLost disk (seen_as part was) (seen_as part now) old new held made
  lost_part l = record { may_be = lost l.may_be; failed = l.failed; held = λ tells is files i. made_some files (l.held tells (told is) files i) }

  refused_part : (e : Error) → IsRefused disk was now old new family holds change e → IsRefused disk (seen_as part was) (seen_as part now) old new family held made e
  refused_part e r = record {
    cause = r.cause;
    full = more_full (DiskTells disk old × holds.told) (DiskTells disk old × held.told) family (disk.content new).reading (was.weight + change.rise) (was.weight + made.rise) change.adds change.drafts made.adds made.drafts e (λ t. (t.0, told t.1)) (omega (arith, rise)) adds drafts r.full;
    heavy = more_heavy (disk.kind old).limit (was.weight + change.rise) (was.weight + made.rise) e (omega (arith, rise)) r.heavy;
    untouched = λ is. ⊎_elim (λ u. inl (untouched_part u)) (λ l. inr (lost_part l)) (r.untouched is);
    failed = r.failed;
    kept = λ of_disk. ⊎_elim (λ same. inl (ap part same)) (λ there. inr (ap part there ∙ to)) (r.kept of_disk);
  }

  pub writes_part : {S T : Type 0} (r : Result S Error) (q : Result T Error) → IsSameOutcome r q → Writes disk was now old new family holds change r → Writes disk (seen_as part was) (seen_as part now) old new family held made q
  writes_part (Ok x) (Ok y) same w = record { goes_on = w.goes_on; moves = λ tells. moves_part (w.moves tells); done = becomes_part w.done; refused = tt }
  writes_part (Err e) (Err f) same w = record {
    goes_on = w.goes_on;
    moves = λ tells. moves_part (w.moves tells);
    done = tt;
    refused = subst (λ (x : Error). IsRefused disk (seen_as part was) (seen_as part now) old new family held made x) same (refused_part e w.refused);
  }
  writes_part (Ok x) (Err f) same w = absurd same
  writes_part (Err e) (Ok y) same w = absurd same

-- ---- an opening

pub unread_part : {V W : Type 0} (rose told : Type 0) (at : ℕ) (one : Result V ℕ) (other : Result W ℕ) (e : Error) → ((offset : ℕ) → one ≡ Err offset → other ≡ Err offset)
    → IsUnread rose (λ place offset. told → (place ≡ at) × (one ≡ Err offset)) e → IsUnread rose (λ place offset. told → (place ≡ at) × (other ≡ Err offset)) e
unread_part rose told at one other error.OutOfMemory gives h = tt
unread_part rose told at one other error.StorageIoError gives h = h
unread_part rose told at one other (error.DiskFull needed limit) gives h = h
unread_part rose told at one other error.LinkFault gives h = h
unread_part rose told at one other (error.DataCorruption place offset) gives h = λ t. ((h t).0, gives offset (h t).1)
unread_part rose told at one other error.FeatureNotEnabled gives h = h
unread_part rose told at one other error.ProposeFailed gives h = h
unread_part rose told at one other (error.UnorderedChunk index) gives h = h
unread_part rose told at one other (error.Config place) gives h = h
unread_part rose told at one other error.ConfigFault gives h = h
unread_part rose told at one other error.StateMachineError gives h = h

-- ---- a refused call

-- a call that takes no memory behind its write leaves the value, whatever refused it, where a refusal of the disk does
pub refused_same : {D V : Type 0} (disk : Ghosts D) (was now : Shown V) (old new : D) (family : Family) (holds : Held V) (change : Effect V) (e : Error) → (change.lost → ⊥) → (IsOfDisk e → now.value ≡ was.value)
    → IsRefused disk was now old new family holds change e → now.value ≡ was.value
refused_same disk was now old new family holds change error.OutOfMemory never same r = ⊎_elim (λ u. u.same_value) (λ l. absurd (never l.may_be)) (r.untouched refl)
refused_same disk was now old new family holds change error.StorageIoError never same r = same tt
refused_same disk was now old new family holds change (error.DiskFull needed limit) never same r = same tt
refused_same disk was now old new family holds change _ never same r = absurd r.cause

-- and so does any that can go on
pub refused_ready : {D V : Type 0} (disk : Ghosts D) (was now : Shown V) (old new : D) (family : Family) (holds : Held V) (change : Effect V) (e : Error) → now.ready
    → IsRefused disk was now old new family holds change e → now.value ≡ was.value
refused_ready disk was now old new family holds change error.OutOfMemory ready r = ⊎_elim (λ u. u.same_value) (λ l. absurd (l.failed ready)) (r.untouched refl)
refused_ready disk was now old new family holds change error.StorageIoError ready r = absurd (r.failed tt ready)
refused_ready disk was now old new family holds change (error.DiskFull needed limit) ready r = absurd (r.failed tt ready)
refused_ready disk was now old new family holds change _ ready r = absurd r.cause
