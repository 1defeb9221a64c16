use Rattle.std.proofs.Common.{◌≡◌, ◌∙◌, ◌∷◌, ◌++◌, ℕ, List, Bool, true, cond, ap, sym, subst, filter, map, rules}
use Rattle.std.specs.BTreeSet.{insert_key}
use Rattle.std.specs.List.Sorted.{IsStrictlySortedBy}
use Rattle.std.specs.Map.{keys_of}
use Rattle.std.specs.Ordering.{nat_cmp}
use Rattle.den_model.specs.declared.reply.NodeMeta.{NodeMeta}
use Rattle.den_member.specs.Members.{Members}
use Rattle.den_member.specs.Numbered.{Numbered}
use Rattle.den_member.specs.Snapshots.{learns}
use Rattle.den_member.proofs.Keys.{kept_sorted, walk_keys}
use Rattle.den_member.proofs.inner.InnerState.ids_by_learning.Goals as goal

pub loop-id-preserved-in_ok-insert : goal.loop-id-preserved-in_ok-insert
loop-id-preserved-in_ok-insert c =
    let passes : ℕ × NodeMeta → Bool = learns c.args.learner in
    let entry : ℕ × NodeMeta = (c.in-Some.id.now, c.in-Some.node.now) in
    let kept : Numbered NodeMeta → List ℕ = λ t. map (λ e. e.0) (filter passes t) in
    let rest : Numbered NodeMeta = c.next.new.self in
    let all : List ℕ = kept c.args.self.now.nodes in
    let next : c.loop-id.id-iterator ≡ entry ∷ rest = search rules in
    let does : passes entry ≡ true = search rules in
    let split : kept (entry ∷ rest) ≡ entry.0 ∷ kept rest = ap (λ b. map (λ (e : ℕ × NodeMeta). e.0) (cond b (entry ∷ filter passes rest) (filter passes rest))) does in
    let met : c.loop-id.ids.keys ++ entry.0 ∷ kept rest ≡ all = sym (ap (λ (t : Numbered NodeMeta). c.loop-id.ids.keys ++ kept t) next ∙ ap (λ (u : List ℕ). c.loop-id.ids.keys ++ u) split) ∙ c.loop-id.invariant in
    let put : c.insert.new.self.keys ≡ insert_key nat_cmp c.loop-id.ids.keys entry.0 = search rules in
    let sorted : IsStrictlySortedBy nat_cmp (keys_of c.args.self.now.nodes) = subst (λ (m : Members). IsStrictlySortedBy nat_cmp (keys_of m.nodes)) c.self.view_is c.iter-id-items.ensures.ordered in
    walk_keys c.loop-id.ids.keys c.insert.new.self.keys entry.0 (kept rest) all met (kept_sorted passes c.args.self.now.nodes sorted) put
