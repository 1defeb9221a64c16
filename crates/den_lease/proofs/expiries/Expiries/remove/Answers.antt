use Rattle.std.proofs.Common.{◌≡◌, ℕ, List, Some, None, false, sym, subst, ◌∙◌}
use Rattle.den_model.specs.Table.{Table, at}
use Rattle.den_table.proofs.Entries.{unset_none}
use Rattle.den_lease.specs.Scheduled.{IsScheduleOf}
use Rattle.den_lease.proofs.Schedules.{Changes, changed, removed}
use Rattle.den_lease.proofs.expiries.Expiries.remove.Goals as goal

pub invariant_of-self : goal.invariant_of-self
invariant_of-self c =
    let t = c.self.inside.by_key in
    let s = c.self.inside.by_moment.keys in
    let k = c.args.key.now in
    let r = c.remove.new.self.keys in
    let named : c.in-Some.key.items ≡ k = c.in-Some.ensures.key in
    let held : at t k ≡ Some c.in-Some.expiry = sym c.in-Some.ensures.value in
    let took : Changes c.get.result c.in-Some.key.items false s r = changed c.get.result c.in-Some.key.items false s r c.remove.ensures.updates.3 c.remove.ensures.updates.1 in
    let at_key : Changes c.in-Some.expiry k false s r = subst (λ (p : ℕ × List ℕ). Changes p.0 p.1 false s r) (λ i. (c.get.ensures.is i, named i)) took in
    subst (λ (u : Table ℕ). IsScheduleOf u r) (sym c.take.ensures.rest) (removed t s c.self.invariant k c.in-Some.expiry r c.take.ensures.sorted held at_key)

pub invariant_of-self-in_default : goal.invariant_of-self-in_default
invariant_of-self-in_default c =
    let t = c.self.inside.by_key in
    let none : at t c.args.key.now ≡ None = sym c.in_default.ensures.value in
    subst (λ (u : Table ℕ). IsScheduleOf u c.self.inside.by_moment.keys) (sym (c.take.ensures.rest ∙ unset_none t c.args.key.now none)) c.self.invariant
