use Rattle.std.proofs.Common.{◌≡◌, ◌≤◌, ℕ, zero, suc, List, [], ◌∷◌, IsTrue, Option, Some, None, Ok, refl, ◌∙◌, sym, ap, subst, length, length-append, take, arith}
use Rattle.std.specs.Prelude.{slice_get}
use Rattle.std.proofs.lemmas.Bool.{cond-true, cond-false}
use Rattle.den_disk.specs.Files.{Content, Kind}
use Rattle.den_disk.proofs.Moments.{stays_then}
use Rattle.den_model.specs.Regions.{open_region, open_regions, placed}
use Rattle.den_gate.specs.declared.gate.GateFile.{GateFile}
use Rattle.den_gate.specs.declared.reader.RegionReader.{RegionReader}
use Rattle.den_gate.specs.Slot.{payloads_of}
use Rattle.den_gate.specs.Gate.{payloads}
use Rattle.den_gate.specs.Reader.{payloads_before, region_found, Advances}
use Rattle.den_journal.proofs.Joins.{ends, goes_on, stops}
use Rattle.den_journal.proofs.replay.replay.Goals as goal

same_list : (reader : RegionReader) (gate : GateFile) (now was : Content) → now ≡ was → reader.slot ≡ gate.slot → payloads_before reader now.reading ≡ payloads gate was.reading
same_list reader gate now was same slot = λ i. payloads_of ((same i).reading (slot i))

-- what a reader found is the region of its number
is_here : (reader : RegionReader) (gate : GateFile) (now was : Content) (found : Option ℕ) (bytes : List ℕ) → now ≡ was → reader.slot ≡ gate.slot
    → region_found found bytes ≡ slice_get (placed 0 (payloads_before reader now.reading)) reader.given → slice_get (placed 0 (payloads gate was.reading)) reader.given ≡ region_found found bytes
is_here reader gate now was found bytes same slot is = sym (is ∙ ap (λ (ps : List (List ℕ)). slice_get (placed 0 ps) reader.given) (same_list reader gate now was same slot))

taken_size : (k : ℕ) (ps : List (List ℕ)) → length (open_regions (take k ps)) ≤ length (open_regions ps)
taken_size zero ps = omega arith
taken_size (suc k) [] = omega arith
taken_size (suc k) (p ∷ ps) = omega (arith, taken_size k ps, length-append (open_region p) (open_regions ps), length-append (open_region p) (open_regions (take k ps)))

pub returns-then-not-branch-clause-refused : goal.returns-then-not-branch-clause-refused
returns-then-not-branch-clause-refused g c = λ tells.
    let F = g.F.Folded in
    let reader = c.regions.reader in
    let gate = c.args.gate.now in
    let bytes = c.next.new.buffer.items in
    let was = g.D.Disk.content c.args.disk.now in
    let now = g.D.Disk.content c.regions.disk in
    let v = F.value c.regions.held in
    let tells1 = subst (λ (k : Kind). IsTrue k.tells) (sym c.regions.invariant.kind) tells in
    let here = is_here reader gate now was c.in-Ok-Some.field-0 bytes (c.regions.invariant.stays tells).content_same c.regions.invariant.slot (c.in-Ok-Some.ensures.found tells1) in
    let some = subst (λ (o : Option ℕ). slice_get (placed 0 (payloads gate was.reading)) reader.given ≡ region_found o bytes) c.in-Ok-Some.field-0-is here in (
      refl,
      stops F.after F.from g.met.F.Folded.folds F.empty (placed 0 (payloads gate was.reading)) reader.given v (c.regions.invariant.so_far tells) (record { offset = c.in-Ok-Some.offset; payload = bytes }) some
          (ap (F.after v) (sym c.as_slice.ensures.value) ∙ c.in_ok-take-in-Ok-Some.ensures.taken ∙ cond-false c.in_ok-take-in-Ok-Some.field-0 _ None c.if-not-branch.true),
    )

pub regions-preserved : goal.regions-preserved
regions-preserved g c =
    let F = g.F.Folded in
    let D = g.D.Disk in
    let reader = c.regions.reader in
    let gate = c.args.gate.now in
    let bytes = c.next.new.buffer.items in
    let was = D.content c.args.disk.now in
    let now = D.content c.regions.disk in
    let v = F.value c.regions.held in
    let on : Advances (Ok (Some c.in-Ok-Some.offset)) bytes reader c.next.new.self =
    subst (λ (o : Option ℕ). Advances (Ok o) bytes reader c.next.new.self) c.in-Ok-Some.field-0-is c.in-Ok-Some.ensures.advances in
    record {
      slot = c.next.ensures.slot ∙ c.regions.invariant.slot;
      kind = c.next.ensures.disk.goes_on.same ∙ c.regions.invariant.kind;
      later = omega (arith, c.regions.invariant.later, c.next.ensures.disk.goes_on.counts);
      stays = λ tells. let tells1 = subst (λ (k : Kind). IsTrue k.tells) (sym c.regions.invariant.kind) tells in
          stays_then D.content D.moment D.images c.args.disk.now c.regions.disk c.next.new.disk (c.regions.invariant.stays tells) (c.next.ensures.disk.stays tells1);
      stands = λ tells. c.next.ensures.stands (subst (λ (k : Kind). IsTrue k.tells) (sym c.regions.invariant.kind) tells);
      so_far = λ tells.
          let tells1 = subst (λ (k : Kind). IsTrue k.tells) (sym c.regions.invariant.kind) tells in
          let here = is_here reader gate now was c.in-Ok-Some.field-0 bytes (c.regions.invariant.stays tells).content_same c.regions.invariant.slot (c.in-Ok-Some.ensures.found tells1) in
          let some = subst (λ (o : Option ℕ). slice_get (placed 0 (payloads gate was.reading)) reader.given ≡ region_found o bytes) c.in-Ok-Some.field-0-is here in
          let more = goes_on F.after F.from g.met.F.Folded.folds F.empty (placed 0 (payloads gate was.reading)) reader.given v (c.regions.invariant.so_far tells) (record { offset = c.in-Ok-Some.offset; payload = bytes }) some
          (F.value c.take.new.self)
          (ap (F.after v) (sym c.as_slice.ensures.value) ∙ c.in_ok-take-in-Ok-Some.ensures.taken ∙ cond-true c.in_ok-take-in-Ok-Some.field-0 _ None c.if-not-branch.false) in
          subst (λ (n : ℕ). F.from F.empty (take n (placed 0 (payloads gate was.reading))) ≡ Ok (F.value c.take.new.self)) (sym on.2) more;
      size = omega (arith, c.regions.invariant.size, c.in_ok-take-in-Ok-Some.ensures.size c.if-not-branch.false, on.1, ap length c.as_slice.ensures.value);
    }

pub returns-in-Ok-None-clause-read : goal.returns-in-Ok-None-clause-read
returns-in-Ok-None-clause-read g c = λ tells.
    let F = g.F.Folded in
    let reader = c.regions.reader in
    let gate = c.args.gate.now in
    let was = g.D.Disk.content c.args.disk.now in
    let now = g.D.Disk.content c.regions.disk in
    let bytes = c.next.new.buffer.items in
    let tells1 = subst (λ (k : Kind). IsTrue k.tells) (sym c.regions.invariant.kind) tells in
    let here = is_here reader gate now was c.in-Ok-None.field-0 bytes (c.regions.invariant.stays tells).content_same c.regions.invariant.slot (c.in-Ok-None.ensures.found tells1) in
    let none = subst (λ (o : Option ℕ). slice_get (placed 0 (payloads gate was.reading)) reader.given ≡ region_found o bytes) c.in-Ok-None.field-0-is here in
    ends F.after F.from g.met.F.Folded.folds F.empty (placed 0 (payloads gate was.reading)) reader.given (F.value c.regions.held) (c.regions.invariant.so_far tells) none

pub returns-in-Ok-None-clause-size : goal.returns-in-Ok-None-clause-size
returns-in-Ok-None-clause-size g c = λ tells.
    let reader = c.regions.reader in
    let gate = c.args.gate.now in
    let was = g.D.Disk.content c.args.disk.now in
    let now = g.D.Disk.content c.regions.disk in
    let stands = c.regions.invariant.stands tells in
    let same = same_list reader gate now was (c.regions.invariant.stays tells).content_same c.regions.invariant.slot in
    let whole = ap (λ (ps : List (List ℕ)). length (open_regions ps)) same in
    omega (arith, c.regions.invariant.size, stands.begins.size, taken_size reader.given (payloads_before reader now.reading), whole, (c.requires.at_rest tells).holds.size)
