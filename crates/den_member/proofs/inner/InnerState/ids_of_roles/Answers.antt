use Rattle.std.proofs.Common.{◌≡◌, ◌∷◌, ◌++◌, ◌∙◌, [], true, ap, sym, map, filter, rules, to_z, of_z, w32}
use Rattle.den_model.specs.declared.reply.NodeMeta.{NodeMeta}
use Rattle.den_member.specs.Numbered.{Numbered}
use Rattle.den_member.proofs.Members.{kept_next}
use Rattle.den_member.proofs.inner.InnerState.ids_of_roles.Goals as goal

pub loop-id-preserved-in-Continue-1 : goal.loop-id-preserved-in-Continue-1
loop-id-preserved-in-Continue-1 g c = (
  c.loop-id.invariant.0,
  λ meets agrees.
      let same : to_z w32 (of_z w32 c.in-Some.node.now.role) ≡ c.in-Some.node.now.role = search rules in
      let passes : meets c.in-Some.node.now.role ≡ true = sym (agrees (to_z w32 (of_z w32 c.in-Some.node.now.role)) true c.if-condition.ensures ∙ ap meets same) in
      let next : c.loop-id.id-iterator ≡ (c.in-Some.id.now, c.in-Some.node.now) ∷ c.next.new.self = search rules in
      let put : c.push.new.self.items ≡ c.loop-id.ids.items ++ c.in-Some.id.now ∷ [] = search rules in
      kept_next (λ e. meets e.1.role) c.loop-id.ids.items c.push.new.self.items (c.in-Some.id.now, c.in-Some.node.now) c.next.new.self
      (map (λ e. e.0) (filter (λ e. meets e.1.role) c.args.self.now.nodes)) passes put
      (sym (ap (λ (t : Numbered NodeMeta). c.loop-id.ids.items ++ map (λ e. e.0) (filter (λ e. meets e.1.role) t)) next) ∙ c.loop-id.invariant.1 meets agrees),
)
