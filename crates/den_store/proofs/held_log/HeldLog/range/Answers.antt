use Rattle.std.proofs.Common.{◌≡◌, true, List, ◌-◌, length, length-drop, take, drop, ◌∙◌, sym, ap, subst, arith}
use Rattle.std.specs.Prelude.{nat_le, ◌&&◌}
use Rattle.std.specs.List.{filter}
use Rattle.std.proofs.lemmas.List.{take_all}
use Rattle.den_model.specs.Entries.{LogEntry, rise_above}
use Rattle.den_model.specs.Log.{floor}
use Rattle.den_store.specs.Held.{log_of}
use Rattle.den_store.proofs.Rising.{lower, take_rise, filter_both}
use Rattle.den_store.proofs.held_log.HeldLog.range.Goals as goal

pub count_to-to-requires : goal.count_to-to-requires
count_to-to-requires c =
    subst (λ (l : List LogEntry). rise_above 0 l ≡ true) (sym c.as_slice-entries.ensures.value) (lower 0 (floor (log_of c.args.self.now)) c.args.self.now.entries.items (omega arith) c.args.self.now.order.rises)

pub count_below-from-requires : goal.count_below-from-requires
count_below-from-requires c =
    take_rise 0 c.count_to-to.result c.as_slice-entries.result.now
    (subst (λ (l : List LogEntry). rise_above 0 l ≡ true) (sym c.as_slice-entries.ensures.value) (lower 0 (floor (log_of c.args.self.now)) c.args.self.now.entries.items (omega arith) c.args.self.now.order.rises))

pub returns : goal.returns
returns c =
    let all = c.args.self.now.entries.items in
    let es = c.as_slice-entries.result.now in
    let front = take c.count_to-to.result es in
    let from = c.count_below-from.result in
    let p = λ (e : LogEntry). nat_le c.args.first e.index in
    let q = λ (e : LogEntry). nat_le e.index c.args.last in
    c.of.ensures ∙ c.in_ok-copied.ensures ∙ take_all (length front - from) (drop from front) (omega (arith, length-drop from front))
    ∙ c.count_below-from.ensures.rest ∙ ap (λ (l : List LogEntry). filter p l) c.count_to-to.ensures.front ∙ filter_both p q es
    ∙ ap (λ (l : List LogEntry). filter (λ (e : LogEntry). p e && q e) l) c.as_slice-entries.ensures.value
