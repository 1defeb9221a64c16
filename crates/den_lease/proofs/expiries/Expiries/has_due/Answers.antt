use Rattle.std.proofs.Common.{◌∙◌, ap, sym}
use Rattle.den_lease.specs.Due.{has_due}
use Rattle.den_lease.proofs.Schedules.{nothing, none_scheduled, first_tells}
use Rattle.den_lease.proofs.expiries.Expiries.has_due.Goals as goal

pub returns-in-None : goal.returns-in-None
returns-in-None c =
    let keys = c.self.inside.by_moment.keys in
    sym (none_scheduled c.self.inside.by_key keys c.args.moment c.self.invariant c.len-count.ensures.sorted (nothing keys c.in-None.ensures.variant.1)) ∙ ap (has_due c.args.moment) c.self.view_is

pub returns-in-Some : goal.returns-in-Some
returns-in-Some c =
    first_tells c.self.inside.by_key c.self.inside.by_moment.keys c.in-Some.first.now c.args.moment c.self.invariant c.len-count.ensures.sorted c.in-Some.ensures.all_from c.in-Some.ensures.member
    ∙ ap (has_due c.args.moment) c.self.view_is
