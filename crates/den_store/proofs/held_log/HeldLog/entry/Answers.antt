use Rattle.std.proofs.Common.{Some, ◌∙◌, ap, sym}
use Rattle.den_model.specs.Entries.{LogEntry}
use Rattle.den_store.specs.Held.{log_of}
use Rattle.den_store.specs.Lookup.{entry_of}
use Rattle.den_store.proofs.HeldLogs.{all_rise}
use Rattle.den_store.proofs.Lookups.{past_all, past_it, found_it}
use Rattle.den_store.proofs.held_log.HeldLog.entry.Goals as goal

pub count_below-before-requires : goal.count_below-before-requires
count_below-before-requires c = all_rise (log_of c.args.self.now) c.as_slice-entries.result.now c.args.self.now.order c.as_slice-entries.ensures.value

pub returns-in_default : goal.returns-in_default
returns-in_default c =
    let es = c.as_slice-entries.result.now in
    let rise = all_rise (log_of c.args.self.now) es c.args.self.now.order c.as_slice-entries.ensures.value in
    sym (past_all c.args.index c.count_below-before.result 0 es rise c.count_below-before.ensures.rest c.in_default.ensures.lookup.3)
    ∙ ap (entry_of c.args.index) c.as_slice-entries.ensures.value

pub returns-then-index : goal.returns-then-index
returns-then-index c =
    let es = c.as_slice-entries.result.now in
    let rise = all_rise (log_of c.args.self.now) es c.args.self.now.order c.as_slice-entries.ensures.value in
    let e = c.in-Some.entry.now in
    let at = c.in-Some.ensures.lookup.3 in
    sym (past_it c.args.index c.count_below-before.result 0 es rise c.count_below-before.ensures.rest e at.0 (at.1 e) (λ same. c.if-index.true (c.index.ensures.is ∙ same)))
    ∙ ap (entry_of c.args.index) c.as_slice-entries.ensures.value

pub returns : goal.returns
returns c =
    let es = c.as_slice-entries.result.now in
    let rise = all_rise (log_of c.args.self.now) es c.args.self.now.order c.as_slice-entries.ensures.value in
    let e = c.in-Some.entry.now in
    let at = c.in-Some.ensures.lookup.3 in
    ap (λ (x : LogEntry). Some x) c.in_ok-copy.ensures
    ∙ sym (found_it c.args.index c.count_below-before.result 0 es rise c.count_below-before.ensures.rest e at.0 (at.1 e) (sym c.index.ensures.is ∙ c.if-index.false))
    ∙ ap (entry_of c.args.index) c.as_slice-entries.ensures.value
