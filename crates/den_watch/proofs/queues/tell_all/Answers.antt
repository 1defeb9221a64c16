use Rattle.std.proofs.Common.{ap, ◌∙◌, map}
use Rattle.den_watch.specs.Queues.{settled, waiting_in}
use Rattle.den_watch.proofs.Telling.{told_each}
use Rattle.den_watch.proofs.queues.tell_all.Goals as goal

pub returns-clause-told : goal.returns-clause-told
returns-clause-told c =
    ap waiting_in (c.settle_all.ensures ∙ ap (map settled) c.in_ok-stage_all.ensures.noted) ∙ told_each c.args.buffer c.args.change.now c.args.queues.now
