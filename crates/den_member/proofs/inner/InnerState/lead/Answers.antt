use Rattle.std.proofs.Common.{◌≡◌, true, refl, rules}
use Rattle.den_member.specs.Members.{is_listed}
use Rattle.den_member.proofs.inner.InnerState.lead.Goals as goal

pub returns-then-contains : goal.returns-then-contains
returns-then-contains c =
    let listed : is_listed c.in-BatchRemove.node_ids c.args.leader ≡ true = search rules in
    rw (c.in-BatchRemove.is, listed) (record { answered = λ memory. (refl, refl); kept = λ memory. refl })
