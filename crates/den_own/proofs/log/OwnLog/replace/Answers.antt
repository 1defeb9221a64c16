use Rattle.std.proofs.Common.{List, ◌++◌, ap, ◌∙◌}
use Rattle.den_model.specs.Entries.{LogEntry}
use Rattle.den_model.specs.Log.{below}
use Rattle.den_store.proofs.HeldLogs.{replaced_order}
use Rattle.den_own.specs.Logs.{log_of}
use Rattle.den_own.proofs.log.OwnLog.replace.Goals as goal

pub invariant_of-self : goal.invariant_of-self
invariant_of-self c =
    let is = c.in_ok-self.ensures ∙ ap (λ (es : List LogEntry). below c.args.from es ++ c.args.entries.now) c.as_slice.ensures.value in
    record { order = replaced_order (log_of c.args.self.now) c.args.from c.args.entries.now _ c.args.self.now.order c.requires.rise c.requires.begin is }
