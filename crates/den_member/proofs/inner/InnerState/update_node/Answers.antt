use Rattle.std.proofs.Common.{◌≡◌, Some, ap, refl, ◌∙◌, rules}
use Rattle.std.specs.BTreeMap.{get, is_at}
use Rattle.std.specs.Fn.{FnOnceReturnsAtMut}
use Rattle.std.specs.Map.{set_value}
use Rattle.std.specs.Ordering.{nat_cmp}
use Rattle.den_member.specs.Numbered.{at}
use Rattle.den_member.proofs.Members.{written}
use Rattle.den_member.proofs.inner.InnerState.update_node.Goals as goal

pub returns-clause-held : goal.returns-clause-held
returns-clause-held g c =
    let held : at c.args.self.now.nodes c.args.node_id ≡ Some c.in-Some.node.now = search rules in
    let inside : get nat_cmp c.self.inside.nodes c.args.node_id ≡ Some c.in-Some.node.now = search rules in
    let put : (c.get_mut.follows.lender c.f.new.arg2).entries ≡ set_value (is_at (nat_cmp c.args.node_id)) c.self.inside.nodes.entries c.f.new.arg2 = search rules in
    let post : FnOnceReturnsAtMut g.F.FnOnce c.args.f c.in-Some.node.now tt c.f.new.arg2 = search rules in
    let now = written c.args.self.now c.args.node_id (λ n. c.f.new.arg2) c.in-Some.node.now c.self.inside.nodes (c.get_mut.follows.lender c.f.new.arg2) c.self.inside.cluster_conf_version c.self.view_is c.get_mut.ensures.ordered inside put in
    rw held (refl, (c.f.new.arg2, post, now))

pub returns-clause-made : goal.returns-clause-made
returns-clause-made g c = λ does made.
    let held : at c.args.self.now.nodes c.args.node_id ≡ Some c.in-Some.node.now = search rules in
    let inside : get nat_cmp c.self.inside.nodes c.args.node_id ≡ Some c.in-Some.node.now = search rules in
    let post : FnOnceReturnsAtMut g.F.FnOnce c.args.f c.in-Some.node.now tt c.f.new.arg2 = search rules in
    let does_so = made c.in-Some.node.now c.f.new.arg2 post in
    let put : (c.get_mut.follows.lender c.f.new.arg2).entries ≡ set_value (is_at (nat_cmp c.args.node_id)) c.self.inside.nodes.entries c.f.new.arg2 = search rules in
    let now = written c.args.self.now c.args.node_id does c.in-Some.node.now c.self.inside.nodes (c.get_mut.follows.lender c.f.new.arg2) c.self.inside.cluster_conf_version c.self.view_is c.get_mut.ensures.ordered inside (put ∙ ap (set_value (is_at (nat_cmp c.args.node_id)) c.self.inside.nodes.entries) does_so) in
    rw held (record { answer = refl; members = now })
