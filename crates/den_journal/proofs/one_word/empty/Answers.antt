use Rattle.std.proofs.Common.{IsTrue, refl, sym, subst}
use Rattle.den_disk.specs.declared.place.Part.TheVariants.{Head, A, B}
use Rattle.den_disk.specs.Files.{Kind}
use Rattle.den_disk.proofs.Moments.{and_then}
use Rattle.den_gate.proofs.Alone.{resizes_alone}
use Rattle.den_journal.specs.OneWord.{KeepsOrEmpties}
use Rattle.den_journal.proofs.Emptying.{file_of, SlotsGone, slots_start, gone_behind, emptied, slot_cut, head_cut, in_family, family_then}
use Rattle.den_journal.proofs.one_word.empty.Goals as goal

pub returns-in_err-resize-clause-run : goal.returns-in_err-resize-clause-run
returns-in_err-resize-clause-run g c =
    let D = g.D.Disk in
    let law = g.met.D.Disk.images_now in
    let family = c.args.family in
    let d0 = c.args.disk.now in
    let d1 = c.resize.new.self in
    (in_family D family (file_of family B) d0 d1 refl (resizes_alone D law (file_of family B) c.resize.ensures.kind 0 c.resize.ensures.resizes)).run

pub returns-in_err-resize-clause-any_moment : goal.returns-in_err-resize-clause-any_moment
returns-in_err-resize-clause-any_moment g c = λ tells none.
    let D = g.D.Disk in
    let law = g.met.D.Disk.images_now in
    let family = c.args.family in
    let d0 = c.args.disk.now in
    let d1 = c.resize.new.self in
    let was = (D.content d0).reading in
    let tells1 = subst (λ (k : Kind). IsTrue k.tells) (sym c.resize.ensures.kind) tells in
    (slot_cut family D was {old = d0} {new = d1} (λ files. law d0 files tells) (λ files. law d1 files tells1) c.resize.result B (λ e. absurd (cc e)) (c.resize.ensures.resizes tells)
    (slots_start family (D.content d0) none)).0

pub returns-in_err-resize-2-clause-run : goal.returns-in_err-resize-2-clause-run
returns-in_err-resize-2-clause-run g c =
    let D = g.D.Disk in
    let law = g.met.D.Disk.images_now in
    let family = c.args.family in
    let d0 = c.args.disk.now in
    let d1 = c.resize.new.self in
    let d2 = c.resize-2.new.self in
    let one = in_family D family (file_of family B) d0 d1 refl (resizes_alone D law (file_of family B) c.resize.ensures.kind 0 c.resize.ensures.resizes) in
    let two = in_family D family (file_of family A) d1 d2 refl (resizes_alone D law (file_of family A) c.resize-2.ensures.kind 0 c.resize-2.ensures.resizes) in
    (family_then D family d0 d1 d2 one two).run

pub returns-in_err-resize-2-clause-any_moment : goal.returns-in_err-resize-2-clause-any_moment
returns-in_err-resize-2-clause-any_moment g c = λ tells none.
    let D = g.D.Disk in
    let law = g.met.D.Disk.images_now in
    let family = c.args.family in
    let d0 = c.args.disk.now in
    let d1 = c.resize.new.self in
    let d2 = c.resize-2.new.self in
    let was = (D.content d0).reading in
    let tells1 = subst (λ (k : Kind). IsTrue k.tells) (sym c.resize.ensures.kind) tells in
    let tells2 = subst (λ (k : Kind). IsTrue k.tells) (sym c.resize-2.ensures.kind) tells1 in
    let one = slot_cut family D was {old = d0} {new = d1} (λ files. law d0 files tells) (λ files. law d1 files tells1) c.resize.result B (λ e. absurd (cc e)) (c.resize.ensures.resizes tells)
    (slots_start family (D.content d0) none) in
    let two = slot_cut family D was {old = d1} {new = d2} (λ files. law d1 files tells1) (λ files. law d2 files tells2) c.resize-2.result A (λ e. absurd (cc e)) (c.resize-2.ensures.resizes tells1) one.1 in
    and_then D.content D.moment D.images (λ t files. KeepsOrEmpties family was files) d0 d1 d2 one.0 two.0

pub returns-clause-run : goal.returns-clause-run
returns-clause-run g c =
    let D = g.D.Disk in
    let law = g.met.D.Disk.images_now in
    let family = c.args.family in
    let d0 = c.args.disk.now in
    let d1 = c.resize.new.self in
    let d2 = c.resize-2.new.self in
    let d3 = c.resize-3.new.self in
    let one = in_family D family (file_of family B) d0 d1 refl (resizes_alone D law (file_of family B) c.resize.ensures.kind 0 c.resize.ensures.resizes) in
    let two = in_family D family (file_of family A) d1 d2 refl (resizes_alone D law (file_of family A) c.resize-2.ensures.kind 0 c.resize-2.ensures.resizes) in
    let three = in_family D family (file_of family Head) d2 d3 refl (resizes_alone D law (file_of family Head) c.resize-3.ensures.kind 0 c.resize-3.ensures.resizes) in
    (family_then D family d0 d2 d3 (family_then D family d0 d1 d2 one two) three).run

pub returns-clause-any_moment : goal.returns-clause-any_moment
returns-clause-any_moment g c = λ tells none.
    let D = g.D.Disk in
    let law = g.met.D.Disk.images_now in
    let family = c.args.family in
    let d0 = c.args.disk.now in
    let d1 = c.resize.new.self in
    let d2 = c.resize-2.new.self in
    let d3 = c.resize-3.new.self in
    let was = (D.content d0).reading in
    let tells1 = subst (λ (k : Kind). IsTrue k.tells) (sym c.resize.ensures.kind) tells in
    let tells2 = subst (λ (k : Kind). IsTrue k.tells) (sym c.resize-2.ensures.kind) tells1 in
    let tells3 = subst (λ (k : Kind). IsTrue k.tells) (sym c.resize-3.ensures.kind) tells2 in
    let one = slot_cut family D was {old = d0} {new = d1} (λ files. law d0 files tells) (λ files. law d1 files tells1) c.resize.result B (λ e. absurd (cc e)) (c.resize.ensures.resizes tells)
    (slots_start family (D.content d0) none) in
    let two = slot_cut family D was {old = d1} {new = d2} (λ files. law d1 files tells1) (λ files. law d2 files tells2) c.resize-2.result A (λ e. absurd (cc e)) (c.resize-2.ensures.resizes tells1) one.1 in
    let gone : SlotsGone family (D.content d2) =
    record { none = two.1.none; slot = gone_behind family (D.content d0) (D.content d1) (D.content d2) (c.in_ok-resize.ensures.resizes tells).ok.0 (c.in_ok-resize-2.ensures.resizes tells1).ok.0 } in
    let three = head_cut family D was {old = d2} {new = d3} (λ files. law d2 files tells2) (λ files. law d3 files tells3) c.resize-3.result (c.resize-3.ensures.resizes tells2) gone in
    and_then D.content D.moment D.images (λ t files. KeepsOrEmpties family was files) d0 d2 d3 (and_then D.content D.moment D.images (λ t files. KeepsOrEmpties family was files) d0 d1 d2 one.0 two.0) three.0

pub returns-clause-emptied : goal.returns-clause-emptied
returns-clause-emptied g c = λ tells.
    let D = g.D.Disk in
    let family = c.args.family in
    let d0 = c.args.disk.now in
    let d1 = c.resize.new.self in
    let d2 = c.resize-2.new.self in
    let tells1 = subst (λ (k : Kind). IsTrue k.tells) (sym c.resize.ensures.kind) tells in
    let tells2 = subst (λ (k : Kind). IsTrue k.tells) (sym c.resize-2.ensures.kind) tells1 in
    emptied family _ c.resize-3.result (D.content d2) (D.content c.resize-3.new.self)
    (gone_behind family (D.content d0) (D.content d1) (D.content d2) (c.in_ok-resize.ensures.resizes tells).ok.0 (c.in_ok-resize-2.ensures.resizes tells1).ok.0) (c.resize-3.ensures.resizes tells2).ok
