use Rattle.std.proofs.Common.{ap, arith}
use Rattle.std.proofs.lemmas.Result.{IfErr-weaker}
use Rattle.den_state.specs.Stored.{Stored}
use Rattle.den_state.proofs.Renewed.{anew_writes}
use Rattle.den_state.proofs.file_machine.FileStateMachine.checkpoint.Goals as goal

pub returns-clause-writes : goal.returns-clause-writes
returns-clause-writes g c = anew_writes g.D.Disk c.args.self.now.journal c.write_anew.new.journal c.args.disk.now c.write_anew.new.disk c.write_anew.ensures.map c.write_anew.result c.write_anew.ensures.renews

pub returns-clause-short_kept : goal.returns-clause-short_kept
returns-clause-short_kept g c =
    IfErr-weaker c.write_anew.result _ _ (λ e same short. omega (arith, ap (λ (v : Stored). v.tail) same, short)) c.write_anew.ensures.renews.steps.drafts.same_value
