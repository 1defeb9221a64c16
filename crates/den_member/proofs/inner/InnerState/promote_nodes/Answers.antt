use Rattle.std.proofs.Common.{◌≡◌, ◌+◌, ℕ, ℤ, List, ◌∷◌, [], drop, sym, ap, ◌∙◌, subst, slice_index, rules}
use Rattle.std.specs.Prelude.{Err}
use Rattle.std.proofs.lemmas.List.{drop_all, drop_more}
use Rattle.den_member.specs.Answers.{Comes, ChangeOutcome}
use Rattle.den_member.specs.Changes.{promoted_all}
use Rattle.den_member.specs.Status.{status_number}
use Rattle.den_member.proofs.Members.{all_promoted, one_more, stopped}
use Rattle.den_member.proofs.inner.InnerState.promote_nodes.Goals as goal

pub loop-node_id-preserved : goal.loop-node_id-preserved
loop-node_id-preserved c =
    let ids : List ℕ = c.args.node_ids.now in
    let i = c.loop-node_id.node_id-index in
    let status : ℤ = status_number c.args.status in
    let split : drop i ids ≡ slice_index ids i ∷ drop (i + 1) ids = drop_more ids i 0 c.loop-node_id-test.true in
    one_more (slice_index ids i) (drop (i + 1) ids) status c.loop-node_id.self c.promote_node.new.self c.promote_node.result c.promote_node.ensures c.in_ok-promote_node.was
    ∙ ap (λ (rest : List ℕ). promoted_all rest status c.loop-node_id.self) (sym split) ∙ c.loop-node_id.invariant

pub returns-in_err-promote_node : goal.returns-in_err-promote_node
returns-in_err-promote_node c =
    let ids : List ℕ = c.args.node_ids.now in
    let i = c.loop-node_id.node_id-index in
    let status : ℤ = status_number c.args.status in
    let split : drop i ids ≡ slice_index ids i ∷ drop (i + 1) ids = drop_more ids i 0 c.loop-node_id-test.true in
    let whole : promoted_all (slice_index ids i ∷ drop (i + 1) ids) status c.loop-node_id.self ≡ promoted_all ids status c.args.self.now =
    ap (λ (rest : List ℕ). promoted_all rest status c.loop-node_id.self) (sym split) ∙ c.loop-node_id.invariant in
    let answer : c.from_residual.result ≡ Err c.in_err-promote_node.field-0.0 = search rules in
    let stops = stopped (slice_index ids i) (drop (i + 1) ids) status c.loop-node_id.self c.promote_node.new.self c.promote_node.result c.in_err-promote_node.field-0.0 c.promote_node.ensures c.in_err-promote_node.was in
    rw answer (subst (λ (o : ChangeOutcome). Comes (Err c.in_err-promote_node.field-0.0) o c.promote_node.new.self) whole stops)

pub returns : goal.returns
returns c =
    let ids : List ℕ = c.args.node_ids.now in
    let i = c.loop-node_id.node_id-index in
    let status : ℤ = status_number c.args.status in
    let none : drop i ids ≡ [] = drop_all i ids c.loop-node_id-test.false in
    all_promoted status c.loop-node_id.self (promoted_all ids status c.args.self.now)
    (ap (λ (rest : List ℕ). promoted_all rest status c.loop-node_id.self) (sym none) ∙ c.loop-node_id.invariant)
