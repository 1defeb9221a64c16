use Rattle.std.proofs.Common.{◌≡◌, ℕ, List, [], true, ap, sym, ◌∙◌, filter, nat_le}
use Rattle.std.specs.Global.{Vec}
use Rattle.std.specs.List.{AllByRecursion, list_any}
use Rattle.std.proofs.lemmas.List.Elements.{recursion_from_All}
use Rattle.den_model.specs.Table.{Table}
use Rattle.den_lease.specs.Scheduled.{is_entry}
use Rattle.den_lease.proofs.Schedules.{gather, gather_done, gather_stops, gathers_due}
use Rattle.den_lease.proofs.expiries.Expiries.due.Goals as goal
use Rattle.den_lease.proofs.expiries.Expiries.due.Goals.{in-None, in-Some+then-moment-entry}

pub returns : goal.returns
returns c =
    let t = c.self.inside.by_key in
    let s = c.self.inside.by_moment.keys in
    let m = c.args.moment in
    let it = c.loop-entry.entry-iterator in
    let stopped : gather m it c.loop-entry.due ≡ c.loop-entry.due = elim c.match-next.branch [
      | in-None w ↦ gather_done m it c.loop-entry.due w.in-None.ensures.steps.0
      | in-Some+then-moment-entry w ↦ gather_stops m it c.next.new.self w.in-Some.entry.now c.loop-entry.due w.in-Some.ensures.steps w.if-moment-entry.true
    ] in
    let all : c.into_iter-entry-iterator.result ≡ s = c.into_iter-entry-iterator.ensures.into_iter_gives ∙ c.iter-entry-items.ensures.rest in
    let found : AllByRecursion (λ (e : ℕ × Vec ℕ). list_any (is_entry e.0 e.1.items) s ≡ true) s = recursion_from_All (λ (e : ℕ × Vec ℕ). list_any (is_entry e.0 e.1.items) s ≡ true) s c.iter-entry-items.ensures.found in
    sym stopped ∙ c.loop-entry.invariant ∙ ap (λ (l : List (ℕ × Vec ℕ)). gather m l []) all ∙ gathers_due t s m c.self.invariant c.len-count.ensures.sorted c.iter-entry-items.ensures.ordered found
    ∙ ap (λ (u : Table ℕ). filter (λ e. nat_le e.1 m) u) c.self.view_is
