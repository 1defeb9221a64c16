use Rattle.std.proofs.Common.{◌≡◌, ℕ, Err, IsTrue}
use Rattle.std.proofs.lemmas.Result.{IfErr-weaker}
use Rattle.den_disk.specs.declared.place.Part.{Part}
use Rattle.den_disk.specs.Goes.{Rose}
use Rattle.den_model.specs.Regions.{regions}
use Rattle.den_gate.specs.Causes.{Because}
use Rattle.den_gate.proofs.Families.{rest_regions}
use Rattle.den_gate.proofs.Refusals.{because_weaker}
use Rattle.den_gate.proofs.gate.GateFile.regions.Goals as goal

pub returns-clause-refused : goal.returns-clause-refused
returns-clause-refused g c =
    let d0 = c.args.disk.now in
    let told = IsTrue (g.D.Disk.kind d0).tells in
    let rose = Rose (g.D.Disk.faults d0) (g.D.Disk.faults c.take_all.new.disk) in
    let none = λ (needed limit : ℕ). ⊥ in
    let found = λ (part : Part) (offset : ℕ). (told → regions ((g.D.Disk.content d0).reading c.args.self.now.slot) ≡ Err offset) in
    let never = λ (part : Part) (offset : ℕ). (told → ⊥) in
    let better : (part : Part) (offset : ℕ) → found part offset → never part offset = λ part offset h tells.
    absurd (cc (h tells, rest_regions c.args.self.now (g.D.Disk.content d0) (c.requires.at_rest tells))) in
    IfErr-weaker c.take_all.result (Because (Unit {0}) rose none found) (Because (Unit {0}) rose none never) (because_weaker (Unit {0}) rose none found never better) c.take_all.ensures.refused
