use Rattle.std.proofs.Common.{ap, ◌∙◌}
use Rattle.den_member.specs.Queries.{all_nodes}
use Rattle.den_member.proofs.ById.{joined_by_id}
use Rattle.den_member.proofs.membership.RaftMembership.new.Goals as goal

pub returns-clause-by_id : goal.returns-clause-by_id
returns-clause-by_id g c = λ differ. ap all_nodes c.in_ok-membership.ensures.nodes ∙ joined_by_id c.args.initial_nodes differ
