-- What follows of a refusal where one of its causes is known better.
use Rattle.std.proofs.Common.{◌≡◌, ℕ, ◌+◌, [], ◌≤◌, ◌<◌, ◌^◌, IsTrue, List, get_or, length, take, sym, ◌∙◌, ap, subst, arith}
use Rattle.std.proofs.lemmas.List.{get_or_default}
use Rattle.den_disk.specs.declared.disk.Disk.{Ghosts}
use Rattle.den_disk.specs.declared.place.Place.{Place}
use Rattle.den_disk.specs.Files.{Kind, Content}
use Rattle.den_disk.specs.Crash.{Stays}
use Rattle.den_model.specs.Regions.{open_regions}
use Rattle.den_disk.specs.declared.place.Part.{Part}
use Rattle.den_disk.specs.Goes.{Rose}
use Rattle.den_gate.specs.declared.error.GateError.{GateError}
use Rattle.den_gate.specs.declared.error.GateError.TheVariants.{OutOfMemory, StorageIoError, Full, DataCorruption}
use Rattle.den_gate.specs.Causes.{Because}
use Rattle.den_gate.specs.Slot.{Holds, IsShort, StopsAt, room_for, whole_chunks}
use Rattle.den_gate.specs.Draft.{PassesLimit}
use Rattle.den_gate.proofs.Filling.{FilledWithin, room_front, stops_at}

pub because_weaker : (memory fault : Type 0) (full : ℕ → ℕ → Type 0) (corrupt better : Part → ℕ → Type 0) → ((part : Part) (offset : ℕ) → corrupt part offset → better part offset)
    → (e : GateError) → Because memory fault full corrupt e → Because memory fault full better e
because_weaker memory fault full corrupt better f OutOfMemory h = h
because_weaker memory fault full corrupt better f StorageIoError h = h
because_weaker memory fault full corrupt better f (Full needed limit) h = h
because_weaker memory fault full corrupt better f (DataCorruption part offset) h = f part offset h

pub because_wider : (memory fault wider : Type 0) (full more : ℕ → ℕ → Type 0) (corrupt : Part → ℕ → Type 0) → (fault → wider) → ((needed limit : ℕ) → full needed limit → more needed limit)
    → (e : GateError) → Because memory fault full corrupt e → Because memory wider more corrupt e
because_wider memory fault wider full more corrupt f m OutOfMemory h = h
because_wider memory fault wider full more corrupt f m StorageIoError h = f h
because_wider memory fault wider full more corrupt f m (Full needed limit) h = m needed limit h
because_wider memory fault wider full more corrupt f m (DataCorruption part offset) h = h

pub rose_later : (a b c : ℕ) → a ≤ b → Rose b c → Rose a c
rose_later a b c le h = omega (arith, h)

-- a slot that is filled, where one payload more is refused
pub passes_limit : {D : Type 0} (disk : Ghosts D) (slot : Place) (list : List (List ℕ)) (i end : ℕ) (p : List ℕ) (first d last : D) (needed limit : ℕ)
    → i < length list → p ≡ get_or list i p → end ≡ length (open_regions (take i list)) → disk.kind d ≡ disk.kind first
    → needed ≡ room_for end (length p) → limit ≡ (disk.kind d).limit → limit < needed → 2 ^ 43 ≤ limit
    → (IsTrue (disk.kind d).tells → IsShort ((disk.content d).reading slot) end (length p) × Stays disk.content disk.moment disk.images d last)
    → (IsTrue (disk.kind first).tells → Holds (take i list) end ((disk.content d).reading slot))
    → (IsTrue (disk.kind first).tells → FilledWithin end (disk.kind first).limit ((disk.content d).reading slot))
    → PassesLimit disk slot list first last needed limit
passes_limit disk slot list i end p first d last needed limit lt is at same needed_is limit_is passes least stays holds filled =
    let here : p ≡ get_or list i [] = is ∙ get_or_default list i p [] lt in
    record {
      at = i;
      within = lt;
      needed_is = needed_is ∙ ap (λ (e : ℕ). room_for e (length p)) at ∙ ap (λ (q : List ℕ). room_for (length (open_regions (take i list))) (length q)) here;
      most = subst (λ (n : ℕ). n ≤ whole_chunks (length (open_regions list) + 1)) (sym needed_is) (room_front list i p end lt is at);
      limit_is = limit_is ∙ ap (λ (k : Kind). k.limit) same;
      passes = passes;
      least = least;
      stops = λ tells.
          let now = stays (subst (λ (k : Kind). IsTrue k.tells) (sym same) tells) in
          subst (λ (c : Content). StopsAt list i (c.reading slot)) (sym now.1.content_same)
          (stops_at list i end p ((disk.content d).reading slot) here at (holds tells) (filled tells).filled now.0);
    }
