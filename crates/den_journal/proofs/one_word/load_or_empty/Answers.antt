use Rattle.std.proofs.Common.{◌≡◌, IsTrue, [], Err, sym, subst}
use Rattle.den_disk.specs.Files.{Kind}
use Rattle.den_disk.specs.Goes.{Rose}
use Rattle.den_gate.specs.declared.error.GateError.{GateError}
use Rattle.den_gate.specs.declared.gate.GateFile.{GateFile}
use Rattle.den_gate.specs.Loading.{IsDurable}
use Rattle.den_journal.proofs.OneWord.{unread, kept_emptied, kept_loaded, if_loaded, start_named}
use Rattle.den_journal.proofs.one_word.load_or_empty.Goals as goal

pub returns-in_err-empty-in-Err-DataCorruption-clause-any_moment : goal.returns-in_err-empty-in-Err-DataCorruption-clause-any_moment
returns-in_err-empty-in-Err-DataCorruption-clause-any_moment g c = λ tells.
    let D = g.D.Disk in
    let family = c.args.family in
    let d0 = c.args.disk.now in
    let d1 = c.load.new.disk in
    let d2 = c.empty.new.disk in
    let tells1 = subst (λ (k : Kind). IsTrue k.tells) (sym c.load.ensures.disk.same) tells in
    let bad = unread (Rose (D.faults d0) (D.faults d1)) (IsTrue (D.kind d0).tells) family (D.content d0).reading c.in-Err-DataCorruption.field-0 c.in-Err-DataCorruption.field-0-0 c.in-Err-DataCorruption.field-0-1
    c.in-Err-DataCorruption.field-0-is c.in-Err-DataCorruption.ensures.refused tells in
    let none : (D.content d1).pending ≡ [] = subst (λ (e : GateError). IsDurable {A = GateFile} (Err e) (D.content d0) (D.content d1)) c.in-Err-DataCorruption.field-0-is (c.in-Err-DataCorruption.ensures.durable tells) in
    kept_emptied D g.met.D.Disk.images_now family d0 d1 d2 tells c.load.ensures.disk (c.load.ensures.images tells) (c.load.ensures.spares tells)
    bad (c.empty.ensures.any_moment tells1 none)

pub returns-in_ok-empty-in-Err-DataCorruption-clause-any_moment : goal.returns-in_ok-empty-in-Err-DataCorruption-clause-any_moment
returns-in_ok-empty-in-Err-DataCorruption-clause-any_moment g c = λ tells.
    let D = g.D.Disk in
    let family = c.args.family in
    let d0 = c.args.disk.now in
    let d1 = c.load.new.disk in
    let d2 = c.empty.new.disk in
    let d3 = c.load-in-Err-DataCorruption.new.disk in
    let tells1 = subst (λ (k : Kind). IsTrue k.tells) (sym c.load.ensures.disk.same) tells in
    let tells2 = subst (λ (k : Kind). IsTrue k.tells) (sym c.empty.ensures.kind) tells1 in
    let bad = unread (Rose (D.faults d0) (D.faults d1)) (IsTrue (D.kind d0).tells) family (D.content d0).reading c.in-Err-DataCorruption.field-0 c.in-Err-DataCorruption.field-0-0 c.in-Err-DataCorruption.field-0-1
    c.in-Err-DataCorruption.field-0-is c.in-Err-DataCorruption.ensures.refused tells in
    let none : (D.content d1).pending ≡ [] = subst (λ (e : GateError). IsDurable {A = GateFile} (Err e) (D.content d0) (D.content d1)) c.in-Err-DataCorruption.field-0-is (c.in-Err-DataCorruption.ensures.durable tells) in
    kept_loaded D g.met.D.Disk.images_now family d0 d1 d2 tells c.load.ensures.disk (c.load.ensures.images tells) (c.load.ensures.spares tells)
    bad (c.empty.ensures.any_moment tells1 none) d3 (c.load-in-Err-DataCorruption.ensures.disk.told tells2) (c.load-in-Err-DataCorruption.ensures.images tells2)

pub returns-in_ok-empty-in-Err-DataCorruption-clause-slot : goal.returns-in_ok-empty-in-Err-DataCorruption-clause-slot
returns-in_ok-empty-in-Err-DataCorruption-clause-slot g c = λ tells.
    let D = g.D.Disk in
    let family = c.args.family in
    let d0 = c.args.disk.now in
    let d1 = c.load.new.disk in
    let d2 = c.empty.new.disk in
    let tells1 = subst (λ (k : Kind). IsTrue k.tells) (sym c.load.ensures.disk.same) tells in
    let tells2 = subst (λ (k : Kind). IsTrue k.tells) (sym c.empty.ensures.kind) tells1 in
    let bad = unread (Rose (D.faults d0) (D.faults d1)) (IsTrue (D.kind d0).tells) family (D.content d0).reading c.in-Err-DataCorruption.field-0 c.in-Err-DataCorruption.field-0-0 c.in-Err-DataCorruption.field-0-1
    c.in-Err-DataCorruption.field-0-is c.in-Err-DataCorruption.ensures.refused tells in
    if_loaded family (D.content d0).reading (D.content d2).reading bad (c.in_ok-empty-in-Err-DataCorruption.ensures.head tells1) c.load-in-Err-DataCorruption.result (c.load-in-Err-DataCorruption.ensures.slot tells2)

pub returns-in-Ok-clause-slot : goal.returns-in-Ok-clause-slot
returns-in-Ok-clause-slot g c = λ tells.
    let D = g.D.Disk in
    let l = c.in-Ok.ensures in
    start_named c.in-Ok.gate c.args.family (D.content c.args.disk.now) (D.content c.load.new.disk) l.family (l.spares tells) (l.at_rest tells) (l.current tells) (l.slot tells)
