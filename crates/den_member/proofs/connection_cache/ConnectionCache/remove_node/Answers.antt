use Rattle.std.proofs.Common.{not, nat_eq, rules}
use Rattle.std.proofs.lemmas.Fn.{filter_same}
use Rattle.den_member.proofs.connection_cache.ConnectionCache.remove_node.Goals as goal

pub returns : goal.returns
returns g c = filter_same _ (λ c'. not (nat_eq c'.node_id c.args.node_id)) _ (λ x b f' k. search rules) _ _ c.retain.ensures.filtered
