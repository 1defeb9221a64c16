use Rattle.std.proofs.Common.{◌-◌, List, length, get_or, ◌∙◌, sym, ap, arith}
use Rattle.den_model.specs.Entries.{LogEntry}
use Rattle.den_model.specs.Log.{floor}
use Rattle.den_store.proofs.HeldLogs.{last_none, last_some}
use Rattle.den_own.specs.Logs.{log_of}
use Rattle.den_own.proofs.log.OwnLogLogStore.last_index.Goals as goal

pub returns-in-None : goal.returns-in-None
returns-in-None g c =
    c.floor.ensures ∙ sym (last_none (floor (log_of c.args.self.now)) c.args.self.now.entries.items (omega (arith, c.in-None.ensures.item.3, ap length c.deref.ensures.value)))

pub returns-in-Some : goal.returns-in-Some
returns-in-Some g c =
    let e = c.in-Some.entry.now in
    c.index.ensures.is
    ∙ sym (last_some (floor (log_of c.args.self.now)) c.args.self.now.entries.items e (omega (arith, c.in-Some.ensures.item.3.0, ap length c.deref.ensures.value))
    (λ d. c.in-Some.ensures.item.3.1 d ∙ ap (λ (l : List LogEntry). get_or l (length l - 1) d) c.deref.ensures.value))
