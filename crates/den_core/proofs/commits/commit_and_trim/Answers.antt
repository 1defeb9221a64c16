use Rattle.std.proofs.Common.{inl, sym, ap, arith}
use Rattle.den_model.specs.Kv.{Kv}
use Rattle.den_core.specs.Trimmed.{mark_of}
use Rattle.den_core.proofs.Behind.{changes_refused, changes_then}
use Rattle.den_core.proofs.Trimming.{trimmed_behind}
use Rattle.den_core.proofs.Weighing.{trim_among}
use Rattle.den_core.proofs.commits.commit_and_trim.Goals as goal

-- the entry joined the log, which is too long
pub returns-in_err-trim-clause-makes : goal.returns-in_err-trim-clause-makes
returns-in_err-trim-clause-makes g c =
    let committed = c.in_ok-succeeded.ensures in
    let engine = c.args.engine.now in
    let among = trim_among _ _ (g.G.LogStore.shown engine.log).value (g.G.LogStore.shown c.commit.new.engine.log).value (g.M.StateMachine.map engine.state) _ _ committed.makes.same_most committed.logged
    (ap mark_of committed.makes.done.durable) in
    changes_refused g.D.Disk _ _ _ _ _ _ _ _ _ _ _ _ _ committed.makes committed.logged c.in_err-trim.field-0.0 c.from_residual-in_err-trim.result _ among c.from_residual-in_err-trim.ensures.1 (omega arith) (inl c.in_err-trim.ensures.failed) c.in_err-trim.ensures.makes

pub returns-clause-makes : goal.returns-clause-makes
returns-clause-makes g c =
    let committed = c.in_ok-succeeded.ensures in
    changes_then g.D.Disk _ _ _ _ _ _ _ _ _ _ _ _ _ committed.makes committed.logged _ _ _ c.in_ok-trim.ensures.makes

pub returns-clause-trimmed : goal.returns-clause-trimmed
returns-clause-trimmed g c =
    let committed = c.in_ok-succeeded.ensures in
    let trim = c.in_ok-trim.ensures in
    trimmed_behind (g.G.LogStore.shown c.args.engine.now.log).value (g.G.LogStore.shown c.commit.new.engine.log).value _ _ _ _ _ _ committed.makes.same_most (sym (ap (λ (k : Kv). mark_of k.durable) trim.makes.done.state)) committed.logged trim.trimmed
