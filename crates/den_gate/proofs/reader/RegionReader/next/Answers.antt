use Rattle.std.proofs.Common.{◌≡◌, ◌≢◌, refl, arith, ℕ, List, IsTrue, get_or, sym, ◌∙◌, ap, subst}
use Rattle.std.proofs.lemmas.List.{get_or_past}
use Rattle.den_disk.specs.Files.{Content}
use Rattle.den_gate.specs.Slot.{payloads_of, IsRegion}
use Rattle.den_gate.specs.Loading.{Finds, IsFurther, payload_between}
use Rattle.den_gate.proofs.Written.{begins_short}
use Rattle.den_gate.proofs.NextRegion.{next_found, none_found, stands_behind}
use Rattle.den_gate.proofs.reader.RegionReader.next.Goals as goal

pub returns-then-self-clause-found : goal.returns-then-self-clause-found
returns-then-self-clause-found g c = λ tells.
    let old = c.args.self.now in
    let file = (g.D.Disk.content c.args.disk.now).reading old.slot in
    let s = c.requires.stands tells in
    let shut : get_or file old.at 0 ≢ 1 = λ e. absurd (cc (get_or_past file old.at 0 (omega (arith, s.len, c.if-self.true)), e)) in
    none_found (payloads_of file) old.given old.at file s.given s.begins s.whole (omega (arith, old.within, old.most)) shut

pub returns-in-Closed-clause-found : goal.returns-in-Closed-clause-found
returns-in-Closed-clause-found g c = λ tells.
    let old = c.args.self.now in
    let file = (g.D.Disk.content c.args.disk.now).reading old.slot in
    let s = c.requires.stands tells in
    let found = subst (λ f. Finds old.at file f) c.in-Closed.is (c.in_ok-look.ensures.found tells) in
    none_found (payloads_of file) old.given old.at file s.given s.begins s.whole (omega (arith, old.within, old.most)) found

pub returns-in_ok-take_bytes-in-Region-clause-found : goal.returns-in_ok-take_bytes-in-Region-clause-found
returns-in_ok-take_bytes-in-Region-clause-found g c = λ tells.
    let old = c.args.self.now in
    let next = c.in-Region.next in
    let file = (g.D.Disk.content c.args.disk.now).reading old.slot in
    let s = c.requires.stands tells in
    let on = subst (λ f. IsFurther old.at old.len f) c.in-Region.is c.in_ok-look.ensures.goes_on in
    let tells1 = subst (λ k. IsTrue k.tells) (sym c.look.ensures.kind) tells in
    let same : (g.D.Disk.content c.look.new.disk).reading old.slot ≡ file = ap (λ (k : Content). k.reading old.slot) (c.look.ensures.stays tells).content_same in
    let region = subst (λ f. Finds old.at file f) c.in-Region.is (c.in_ok-look.ensures.found tells) in
    let taken : c.take_bytes.new.buffer.items ≡ payload_between old.at next file = c.in_ok-take_bytes-in-Region.ensures.payload tells1 ∙ ap (payload_between old.at next) same in
    (next_found (payloads_of file) old.given old.at file s.given s.begins s.whole next c.take_bytes.new.buffer.items (omega (arith, on, old.most))
    (subst (λ (p : List ℕ). IsRegion old.at next p file) (sym taken) region)).2

pub returns-in_ok-take_bytes-in-Region-clause-stands : goal.returns-in_ok-take_bytes-in-Region-clause-stands
returns-in_ok-take_bytes-in-Region-clause-stands g c = λ tells.
    let old = c.args.self.now in
    let next = c.in-Region.next in
    let content = g.D.Disk.content in
    let file = (content c.args.disk.now).reading old.slot in
    let tells1 = subst (λ k. IsTrue k.tells) (sym c.look.ensures.kind) tells in
    let same = ap (λ (k : Content). k.reading) ((c.take_bytes.ensures.stays tells1).content_same ∙ (c.look.ensures.stays tells).content_same) in
    let region = subst (λ f. Finds old.at file f) c.in-Region.is (c.in_ok-look.ensures.found tells) in
    stands_behind old _ (content c.args.disk.now).reading (content c.take_bytes.new.disk).reading (payload_between old.at next file) (c.requires.stands tells) same refl refl refl (c.look.ensures.shows tells) region

pub returns-in-CutShort-clause-refused : goal.returns-in-CutShort-clause-refused
returns-in-CutShort-clause-refused g c = λ tells.
    let old = c.args.self.now in
    let file = (g.D.Disk.content c.args.disk.now).reading old.slot in
    let s = c.requires.stands tells in
    let found = subst (λ f. Finds old.at file f) c.in-CutShort.is (c.in_ok-look.ensures.found tells) in
    let short = begins_short _ old.at file s.begins (omega (arith, old.within, old.most)) found in
    absurd (cc (short, s.whole))
