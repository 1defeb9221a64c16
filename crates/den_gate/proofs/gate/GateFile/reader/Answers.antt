use Rattle.std.proofs.Common.{sym, ◌∙◌, subst, ap}
use Rattle.den_disk.specs.Files.{Files, Content}
use Rattle.den_gate.specs.Reader.{StandsIn}
use Rattle.den_gate.proofs.NextRegion.{stands_first}
use Rattle.den_gate.proofs.gate.GateFile.reader.Goals as goal

pub returns-clause-stands : goal.returns-clause-stands
returns-clause-stands g c = λ tells.
    let before = g.D.Disk.content c.args.disk.now in
    let same = ap (λ (k : Content). k.reading) (c.len.ensures.stays tells).content_same in
    let long = c.in_ok-len.ensures.read tells in
    let first = stands_first c.args.self.now before c.new.result (c.requires.at_rest tells) c.new.ensures.slot (c.new.ensures.len ∙ long) c.new.ensures.at c.new.ensures.given (c.new.ensures.shows (before.reading c.args.self.now.slot)) in
    subst (λ (f : Files). StandsIn c.new.result f) (sym same) first
