use Rattle.std.proofs.Common.{◌≡◌, true, List, drop, ◌∙◌, sym, ap, subst, arith}
use Rattle.den_model.specs.Entries.{LogEntry, rise_above}
use Rattle.den_model.specs.Log.{floor, above}
use Rattle.den_store.specs.Held.{log_of}
use Rattle.den_store.proofs.Fitting.{purged_fit}
use Rattle.den_store.proofs.HeldLogs.{purged, not_purged, purged_order}
use Rattle.den_store.proofs.Rising.{lower}
use Rattle.den_store.proofs.held_log.HeldLog.purge.Goals as goal

pub count_to-gone-requires : goal.count_to-gone-requires
count_to-gone-requires c =
    subst (λ (l : List LogEntry). rise_above 0 l ≡ true) (sym c.as_slice.ensures.value) (lower 0 (floor (log_of c.args.self.now)) c.args.self.now.entries.items (omega arith) c.args.self.now.order.rises)

pub returns-then-floor-index : goal.returns-then-floor-index
returns-then-floor-index c =
    purged (log_of c.args.self.now) c.args.index c.args.term _ (omega (arith, c.floor.ensures))
    (c.drop-drain.ensures.items ∙ c.drain.ensures.kept ∙ ap (λ (l : List LogEntry). drop c.count_to-gone.result l) (sym c.as_slice.ensures.value)
    ∙ c.count_to-gone.ensures.rest ∙ ap (λ (l : List LogEntry). above c.args.index l) c.as_slice.ensures.value)

pub returns-else-floor-index : goal.returns-else-floor-index
returns-else-floor-index c = not_purged (log_of c.args.self.now) c.args.index c.args.term (omega (arith, c.floor.ensures))

pub invariant_of-self : goal.invariant_of-self
invariant_of-self c =
    let l = log_of c.args.self.now in
    let kept = c.drop-drain.ensures.items ∙ c.drain.ensures.kept ∙ ap (λ (es : List LogEntry). drop c.count_to-gone.result es) (sym c.as_slice.ensures.value)
    ∙ c.count_to-gone.ensures.rest ∙ ap (λ (es : List LogEntry). above c.args.index es) c.as_slice.ensures.value in
    record { order = purged_order l c.args.index c.args.term _ c.args.self.now.order kept; fits = purged_fit c.args.index l.entries _ kept c.args.self.now.fits }
