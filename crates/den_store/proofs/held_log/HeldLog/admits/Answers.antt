use Rattle.std.proofs.Common.{ℕ, List, get_or, ◌∙◌, sym, ap}
use Rattle.std.specs.Prelude.{nat_lt}
use Rattle.den_model.specs.Entries.{LogEntry}
use Rattle.den_model.specs.Log.{floor, is_lawful}
use Rattle.den_model.specs.declared.region.LogRegion.{LogRegion}
use Rattle.den_store.specs.Held.{log_of}
use Rattle.den_store.proofs.HeldLogs.{admits_append, unbounded, bounded}
use Rattle.den_store.proofs.held_log.HeldLog.admits.Goals as goal

pub returns-in-Append : goal.returns-in-Append
returns-in-Append c =
    let l = log_of c.args.self.now in
    let e = c.index-as_slice-0.result in
    ap (λ (i : ℕ). nat_lt i c.index.result) c.floor.ensures ∙ ap (λ (i : ℕ). nat_lt (floor l) i) c.index.ensures.is
    ∙ admits_append l c.in-Append.entries e c.as_slice.ensures.some (c.index-as_slice-0.is ∙ ap (λ (es : List LogEntry). get_or es 0 e) c.as_slice.ensures.is)
    ∙ sym (ap (λ (r : LogRegion). is_lawful l r) c.in-Append.is)

pub returns-then-is_none : goal.returns-then-is_none
returns-then-is_none c =
    let l = log_of c.args.self.now in
    unbounded c.args.self.now.boundary c.is_none.result (nat_lt (floor l) c.in-Replace.replacement.from) c.is_none.ensures c.if-is_none.true
    ∙ sym (ap (λ (r : LogRegion). is_lawful l r) c.in-Replace.is)

pub returns-else-is_none : goal.returns-else-is_none
returns-else-is_none c =
    let l = log_of c.args.self.now in
    let from = c.in-Replace.replacement.from in
    ap (λ (i : ℕ). nat_lt i c.from.result) c.floor-else-is_none.ensures ∙ ap (λ (i : ℕ). nat_lt (floor l) i) c.from.ensures
    ∙ bounded c.args.self.now.boundary c.is_none.result (nat_lt (floor l) from) c.is_none.ensures c.if-is_none.false ∙ sym (ap (λ (r : LogRegion). is_lawful l r) c.in-Replace.is)
