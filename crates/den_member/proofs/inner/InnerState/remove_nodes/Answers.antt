use Rattle.std.proofs.Common.{◌≡◌, ℕ, not, filter, rules}
use Rattle.std.proofs.lemmas.Map.Made.{filter_same_pairs}
use Rattle.den_model.specs.declared.reply.NodeMeta.{NodeMeta}
use Rattle.den_member.specs.Members.{is_listed}
use Rattle.den_member.proofs.inner.InnerState.remove_nodes.Goals as goal

pub returns : goal.returns
returns c =
    let kept : c.retain.new.self.entries ≡ filter (λ (e : ℕ × NodeMeta). not (is_listed c.args.node_ids.now e.0)) c.self.inside.nodes.entries =
    filter_same_pairs _ (λ e. not (is_listed c.args.node_ids.now e.0)) _ (λ k v b w f' t. search rules) _ _ c.retain.ensures.filtered in
    search rules
