use Rattle.std.proofs.Common.{[], sym, ◌∙◌, ap, subst}
use Rattle.den_disk.specs.Files.{Content}
use Rattle.den_gate.specs.Slot.{Holds}
use Rattle.den_gate.proofs.Alone.{resizes_alone}
use Rattle.den_gate.proofs.Filling.{cleared, no_byte}
use Rattle.den_gate.proofs.draft.clear.Goals as goal

pub returns-in_err-resize-clause-run : goal.returns-in_err-resize-clause-run
returns-in_err-resize-clause-run g c = (resizes_alone g.D.Disk g.met.D.Disk.images_now c.args.slot c.resize.ensures.kind 0 c.resize.ensures.resizes).run

pub returns-clause-run : goal.returns-clause-run
returns-clause-run g c = (resizes_alone g.D.Disk g.met.D.Disk.images_now c.args.slot c.resize.ensures.kind 0 c.resize.ensures.resizes).run

pub returns-clause-holds : goal.returns-clause-holds
returns-clause-holds g c = λ tells.
    subst (λ (k : Content). Holds [] 0 (k.reading c.args.slot)) (sym ((c.in_ok-resize.ensures.resizes tells).ok).0) (cleared c.args.slot (g.D.Disk.content c.args.disk.now))

pub returns-clause-cleared : goal.returns-clause-cleared
returns-clause-cleared g c = λ tells.
    ap (λ (k : Content). k.reading c.args.slot) ((c.in_ok-resize.ensures.resizes tells).ok).0 ∙ no_byte c.args.slot (g.D.Disk.content c.args.disk.now)
