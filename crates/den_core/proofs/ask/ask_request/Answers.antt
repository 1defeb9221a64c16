use Rattle.std.proofs.Common.{ap, ◌∙◌, arith}
use Rattle.den_model.specs.declared.request.Frame.TheVariants.{Good}
use Rattle.den_model.specs.MapState.{part_of}
use Rattle.den_model.specs.Step.{answer_to, command_of}
use Rattle.den_core.specs.Parts.{running_seen}
use Rattle.den_core.specs.Weights.{ask_rise, commit_rise, write_rise}
use Rattle.den_core.proofs.Asking.{rises_within}
use Rattle.den_core.proofs.Weighing.{asked_rises}
use Rattle.den_core.proofs.ask.ask_request.Goals as goal

-- an operation's command
pub returns-in-Some-clause-rise : goal.returns-in-Some-clause-rise
returns-in-Some-clause-rise g c = rises_within c.ask_write.result (write_rise c.command_of.result) (ask_rise (Good c.args.request))
    (omega (
      arith,
      asked_rises c.in-Write.write c.in-Some.operation c.in-Some.is,
      ap commit_rise (c.command_of.ensures ∙ ap command_of c.in-Some.operation-is),
      ap (λ r. ask_rise (Good r)) c.in-Write.is,
    ))
    c.ask_write.ensures.rise

pub returns-in_ok-ask_read-in-Read-clause-asked : goal.returns-in_ok-ask_read-in-Read-clause-asked
returns-in_ok-ask_read-in-Read-clause-asked g c = λ term moment.
    ap (λ r. answer_to (record { durable = part_of (g.M.StateMachine.map c.args.state.now) term; running = running_seen c.args.running.now }) moment r) c.in-Read.is
    ∙ c.in_ok-ask_read-in-Read.ensures.said term moment

pub returns-in_ok-ask_scan-in-Scan-clause-asked : goal.returns-in_ok-ask_scan-in-Scan-clause-asked
returns-in_ok-ask_scan-in-Scan-clause-asked g c = λ term moment.
    ap (λ r. answer_to (record { durable = part_of (g.M.StateMachine.map c.args.state.now) term; running = running_seen c.args.running.now }) moment r) c.in-Scan.is
    ∙ c.in_ok-ask_scan-in-Scan.ensures.said term moment
