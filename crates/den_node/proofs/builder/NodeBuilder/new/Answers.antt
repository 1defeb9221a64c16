use Rattle.std.proofs.Common.{IfErr, IsTrue, MutBor}
use Rattle.den_config.specs.Sources.{IsSourceRefusal, configuration_in}
use Rattle.den_disk.specs.Goes.{Rose}
use Rattle.den_node.specs.Building.{FailsAs}
use Rattle.den_node.proofs.Left.{held_so}
use Rattle.den_node.proofs.builder.NodeBuilder.new.Goals as goal

pub returns-in-Some-clause-cause : goal.returns-in-Some-clause-cause
returns-in-Some-clause-cause g c = rw c.in-Some.is (λ f is. held_so
    (λ (p : MutBor g.row.S.Denot × Unit {0}). IfErr c.from_source.result (FailsAs (IsSourceRefusal (Rose (g.S.Source.faults c.in-Some.conf.now) (g.S.Source.faults p.0.now))
    (IsTrue (g.S.Source.tells c.in-Some.conf.now)) (configuration_in (g.S.Source.left c.in-Some.conf.now)))))
    _ f is c.from_source.ensures.refused)
