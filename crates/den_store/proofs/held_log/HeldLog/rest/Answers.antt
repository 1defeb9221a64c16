use Rattle.std.proofs.Common.{◌≡◌, List, ◌-◌, length, length-drop, drop, Some, None, ◌∙◌, sym, ap, arith}
use Rattle.std.specs.Prelude.{◌&&◌, nat_le, if◌then◌else◌}
use Rattle.std.proofs.lemmas.List.{take_all}
use Rattle.den_model.specs.Entries.{LogEntry, rise_from}
use Rattle.den_model.specs.Log.{floor, above}
use Rattle.den_store.specs.Held.{log_of}
use Rattle.den_store.proofs.HeldLogs.{all_rise, rest_none}
use Rattle.den_store.proofs.Rising.{above_rise}
use Rattle.den_store.proofs.held_log.HeldLog.rest.Goals as goal

pub count_to-purged-requires : goal.count_to-purged-requires
count_to-purged-requires c = all_rise (log_of c.args.self.now) c.as_slice-entries.result.now c.args.self.now.order c.as_slice-entries.ensures.value

pub returns-in-None-clause-rest : goal.returns-in-None-clause-rest
returns-in-None-clause-rest c =
    let l = log_of c.args.self.now in
    let kept = above c.args.index l.entries in
    let es = c.as_slice-entries.result.now in
    let all = drop c.count_to-purged.result es in
    let is : c.in_ok-kept.kept.items ≡ kept = c.in_ok-kept.ensures ∙ take_all (length es - c.count_to-purged.result) all (omega (arith, length-drop c.count_to-purged.result es))
    ∙ c.count_to-purged.ensures.rest ∙ ap (λ (xs : List LogEntry). above c.args.index xs) c.as_slice-entries.ensures.value in
    rest_none c.args.index kept (above_rise (floor l) c.args.index l.entries c.args.self.now.order.rises)
    (sym c.in-None.is ∙ c.of-2.ensures ∙ ap (λ (xs : List LogEntry). if nat_le 1 (length xs) && rise_from 1 xs then Some xs else None) (c.of.ensures ∙ is))
