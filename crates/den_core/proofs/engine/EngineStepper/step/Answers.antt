use Rattle.den_core.proofs.Telling.{frames_turned, grown_turned}
use Rattle.den_core.proofs.engine.EngineStepper.step.Goals as goal

pub returns-clause-waits : goal.returns-clause-waits
returns-clause-waits g c = grown_turned _ _ c.args.frame c.args.time _ _ _ c.in_ok-turned.ensures.turned c.in_ok-turned.ensures.makes.done.state

pub returns-clause-values : goal.returns-clause-values
returns-clause-values g c = (c.in_ok-turned.ensures.turned.reply, c.in_ok-turned.ensures.turned.events)

pub returns-clause-answer : goal.returns-clause-answer
returns-clause-answer g c = frames_turned _ c.args.frame c.args.time _ _ _ c.in_ok-turned.ensures.turned
