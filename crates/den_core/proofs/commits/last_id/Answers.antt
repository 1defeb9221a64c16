use Rattle.std.proofs.Common.{sym, ◌∙◌, ap}
use Rattle.den_model.specs.declared.log_id.LogId.{LogId}
use Rattle.den_store.specs.Lookup.{entry_of}
use Rattle.den_core.proofs.Trimming.{last_id_is, none_last}
use Rattle.den_core.proofs.commits.last_id.Goals as goal
use Rattle.den_model.specs.Log.{floor}

pub returns-in-Some-clause-id : goal.returns-in-Some-clause-id
returns-in-Some-clause-id g c =
    let l = (g.G.LogStore.shown c.args.log.now).value in
    ap (λ n. let x : LogId = record { index = n; term = c.term.result } in x) c.index.ensures.is
    ∙ ap (λ n. let x : LogId = record { index = c.in-Some.entry.index; term = n } in x) c.term.ensures
    ∙ last_id_is l c.in-Some.entry (g.met.G.LogStore.in_order c.args.log.now)
    (sym (ap (λ n. entry_of n l.entries) c.last_index.ensures) ∙ sym c.in_ok-entry.ensures.entry ∙ c.in-Some.is)

pub returns-in-None-clause-id : goal.returns-in-None-clause-id
returns-in-None-clause-id g c =
    let l = (g.G.LogStore.shown c.args.log.now).value in
    none_last (floor l) l.entries (sym (ap (λ n. entry_of n l.entries) c.last_index.ensures) ∙ sym c.in_ok-entry.ensures.entry ∙ c.in-None.is)
