use Rattle.std.proofs.Common.{◌≡◌, ◌∷◌, ◌++◌, rules}
use Rattle.den_member.specs.Numbered.{set}
use Rattle.den_member.proofs.Nodes.{walk}
use Rattle.den_member.proofs.inner.InnerState.copy.Goals as goal

pub loop-id-preserved : goal.loop-id-preserved
loop-id-preserved c =
    let met : c.loop-id.nodes.entries ++ (c.in-Some.id.now, c.in-Some.node.now) ∷ c.next.new.self ≡ c.self.inside.nodes.entries = search rules in
    let put : c.insert.new.self.entries ≡ set c.loop-id.nodes.entries c.in-Some.id.now c.in-Some.node.now = search rules in
    walk c.loop-id.nodes.entries c.insert.new.self.entries c.in-Some.id.now c.in-Some.node.now c.next.new.self c.self.inside.nodes.entries met c.iter-id-items.ensures.ordered put

pub loop-id-preserved-in_ok-insert : goal.loop-id-preserved-in_ok-insert
loop-id-preserved-in_ok-insert c =
    let met : c.loop-id.nodes.entries ++ (c.in-Some.id.now, c.in-Some.node.now) ∷ c.next.new.self ≡ c.self.inside.nodes.entries = search rules in
    let put : c.insert.new.self.entries ≡ set c.loop-id.nodes.entries c.in-Some.id.now c.in-Some.node.now = search rules in
    walk c.loop-id.nodes.entries c.insert.new.self.entries c.in-Some.id.now c.in-Some.node.now c.next.new.self c.self.inside.nodes.entries met c.iter-id-items.ensures.ordered put
