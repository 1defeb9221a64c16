use Rattle.std.proofs.Common.{◌≡◌, true, List, take, ◌∙◌, sym, ap, subst, arith}
use Rattle.den_model.specs.Entries.{LogEntry, rise_above}
use Rattle.den_model.specs.Log.{floor, below}
use Rattle.den_store.specs.Held.{log_of}
use Rattle.den_store.proofs.Fitting.{truncated_fit}
use Rattle.den_store.proofs.HeldLogs.{truncated_order}
use Rattle.den_store.proofs.Rising.{lower}
use Rattle.den_store.proofs.held_log.HeldLog.truncate.Goals as goal

pub count_below-kept-requires : goal.count_below-kept-requires
count_below-kept-requires c =
    subst (λ (l : List LogEntry). rise_above 0 l ≡ true) (sym c.as_slice.ensures.value) (lower 0 (floor (log_of c.args.self.now)) c.args.self.now.entries.items (omega arith) c.args.self.now.order.rises)

pub invariant_of-self : goal.invariant_of-self
invariant_of-self c =
    let l = log_of c.args.self.now in
    let kept = c.truncate.ensures.items ∙ ap (λ (es : List LogEntry). take c.count_below-kept.result es) (sym c.as_slice.ensures.value) ∙ c.count_below-kept.ensures.front ∙ ap (λ (es : List LogEntry). below c.args.from es) c.as_slice.ensures.value in
    record { order = truncated_order l c.args.from _ c.args.self.now.order kept; fits = truncated_fit c.args.from l.entries _ kept c.args.self.now.fits }
