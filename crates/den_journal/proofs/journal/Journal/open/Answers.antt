use Rattle.std.proofs.Common.{◌≡◌, refl, ℕ, ◌≤◌, max, IsTrue, Err, ◌∙◌, sym, ap, subst, arith}
use Rattle.den_disk.specs.declared.place.Family.{Family}
use Rattle.den_disk.specs.declared.place.Part.{Part}
use Rattle.den_disk.specs.declared.place.Place.{Place}
use Rattle.den_disk.specs.Files.{Content, Kind}
use Rattle.den_disk.specs.Place.{place_number}
use Rattle.den_disk.specs.Goes.{Rose}
use Rattle.den_model.specs.Image.{slot_of, in_regions}
use Rattle.den_model.specs.Sizes.{family_size}
use Rattle.den_journal.specs.Folding.{IsUnread}
use Rattle.den_journal.specs.Opening.{IsLoaded}
use Rattle.den_journal.specs.Shown.{RestsAs, rewrite_size}
use Rattle.den_journal.proofs.Full.{loaded_weight}
use Rattle.den_journal.proofs.Opens.{loaded_meaning, unread_weaker, handed_on, not_opened, reads_on, reads_images, reads_spares, reads_settled}
use Rattle.den_journal.proofs.journal.Journal.open.Goals as goal

rises : (old mid new : ℕ) → old ≤ mid → Rose mid new → Rose old new
rises old mid new le rose = omega arith

pub returns-in_err-held-clause-opens : goal.returns-in_err-held-clause-opens
returns-in_err-held-clause-opens g c =
    let F = g.F.Folded in
    let D = g.D.Disk in
    let family = F.FAMILY in
    let gate = c.in_ok-gate.gate in
    let d0 = c.args.disk.now in
    let d1 = c.load.new.disk in
    let d2 = c.replay.new.disk in
    let old = D.content d0 in
    let mid = D.content d1 in
    let on : IsTrue (D.kind d0).tells → IsTrue (D.kind d1).tells = λ tells. subst (λ (k : Kind). IsTrue k.tells) (sym c.load.ensures.disk.same) tells in
    let Corrupt : ℕ → ℕ → Type 0 = λ place offset. IsTrue (D.kind d0).tells → (place ≡ place_number (slot_of family old.reading)) × (in_regions family (F.from F.empty) old.reading ≡ Err offset) in
    let rose = Rose (D.faults d0) (D.faults d2) in
    record {
      goes_on = reads_on D d0 d1 d2 c.replay.ensures.disk c.load.ensures.disk;
      images = λ tells. reads_images D d0 d1 d2 c.replay.ensures.disk (on tells) (c.load.ensures.images tells);
      spares = λ tells. reads_spares D d0 d1 d2 c.replay.ensures.disk (on tells) (c.load.ensures.spares tells);
      settled = λ tells. reads_settled D d0 d1 d2 c.replay.ensures.disk (on tells) c.from_residual-in_err-held.result (c.in_ok-gate.ensures.settled tells);
      opened = not_opened _ c.in_err-held.field-0.0 c.from_residual-in_err-held.result c.from_residual-in_err-held.ensures.1;
      refused = handed_on (IsUnread rose Corrupt) c.in_err-held.field-0.0 c.from_residual-in_err-held.result c.from_residual-in_err-held.ensures.1
          (unread_weaker _ rose _ Corrupt c.in_err-held.field-0.0 (rises (D.faults d0) (D.faults d1) (D.faults d2) c.load.ensures.disk.counts)
          (λ place offset h tells.
          let is = subst (λ (f : Family). IsLoaded f gate old mid) c.FAMILY.ensures (c.in_ok-gate.ensures.loaded tells) in
          let said = h (on tells) in (
            said.0 ∙ c.file_number-place.ensures ∙ ap (λ (f : Family). place_number (record { family = f; part = c.part.result })) c.FAMILY-2.ensures ∙ ap (λ (p : Part). place_number (record { family = family; part = p })) (c.part.ensures ∙ ap (λ (p : Place). p.part) is.slot),
            loaded_meaning family (F.from F.empty) gate old mid is (c.load.ensures.spares tells) ∙ said.1,
          ))
          c.in_err-held.ensures.refused);
    }

opened_weight : (end size found : ℕ) → end ≡ found → size ≤ end → max end (rewrite_size size) ≤ rewrite_size found
opened_weight end size found is le = omega arith

pub returns-clause-opens : goal.returns-clause-opens
returns-clause-opens g c =
    let F = g.F.Folded in
    let D = g.D.Disk in
    let family = F.FAMILY in
    let gate = c.in_ok-gate.gate in
    let d0 = c.args.disk.now in
    let d1 = c.load.new.disk in
    let d2 = c.replay.new.disk in
    let old = D.content d0 in
    let mid = D.content d1 in
    let value = F.value c.in_ok-held.held in
    let on : IsTrue (D.kind d0).tells → IsTrue (D.kind d1).tells = λ tells. subst (λ (k : Kind). IsTrue k.tells) (sym c.load.ensures.disk.same) tells in
    let is_loaded : IsTrue (D.kind d0).tells → IsLoaded family gate old mid = λ tells. subst (λ (f : Family). IsLoaded f gate old mid) c.FAMILY.ensures (c.in_ok-gate.ensures.loaded tells) in
    record {
      goes_on = reads_on D d0 d1 d2 c.replay.ensures.disk c.load.ensures.disk;
      images = λ tells. reads_images D d0 d1 d2 c.replay.ensures.disk (on tells) (c.load.ensures.images tells);
      spares = λ tells. reads_spares D d0 d1 d2 c.replay.ensures.disk (on tells) (c.load.ensures.spares tells);
      settled = λ tells. ap (λ (k : Content). k.pending) (c.replay.ensures.disk.stays (on tells)).content_same ∙ c.in_ok-gate.ensures.settled tells;
      opened = record {
        ready = (refl, c.in_ok-gate.ensures.ready);
        value = λ tells. loaded_meaning family (F.from F.empty) gate old mid (is_loaded tells) (c.load.ensures.spares tells) ∙ c.in_ok-held.ensures.read (on tells);
        weight = λ tells. opened_weight gate.end (F.size value) (family_size family old.reading) (loaded_weight family gate old mid (is_loaded tells) (c.load.ensures.spares tells)) (c.in_ok-held.ensures.size (on tells));
        rests = λ tells. let is = is_loaded tells in
            let gives : RestsAs family (F.from F.empty) gate value mid = record {
              family_is = c.in_ok-gate.ensures.family ∙ c.FAMILY.ensures;
              at_rest = is.at_rest;
              current = is.current;
              means = c.in_ok-held.ensures.read (on tells);
            } in
            subst (λ (k : Content). RestsAs family (F.from F.empty) gate value k) (sym (c.replay.ensures.disk.stays (on tells)).content_same) gives;
      };
      refused = tt;
    }

pub returns-clause-size : goal.returns-clause-size
returns-clause-size g c = λ tells.
    let D = g.D.Disk in
    let old = D.content c.args.disk.now in
    let mid = D.content c.load.new.disk in
    let gate = c.in_ok-gate.gate in
    let is : IsLoaded g.F.Folded.FAMILY gate old mid = subst (λ (f : Family). IsLoaded f gate old mid) c.FAMILY.ensures (c.in_ok-gate.ensures.loaded tells) in
    let tells1 = subst (λ (k : Kind). IsTrue k.tells) (sym c.load.ensures.disk.same) tells in
    omega (arith, loaded_weight g.F.Folded.FAMILY gate old mid is (c.load.ensures.spares tells), c.in_ok-held.ensures.size tells1)
