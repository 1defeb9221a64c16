use Rattle.std.proofs.Common.{◌≡◌, ◌+◌, ℕ, ℤ, List, ◌∷◌, [], drop, sym, ap, ◌∙◌, slice_index, w32, to_z, of_z}
use Rattle.std.proofs.lemmas.Int.{to_z-of_z}
use Rattle.std.proofs.lemmas.List.{drop_all, drop_more}
use Rattle.den_member.specs.Leading.{ready, readied}
use Rattle.den_member.proofs.Members.{none_changed, ready_first}
use Rattle.den_member.proofs.inner.InnerState.promote_ready_nodes.Goals as goal

pub loop-node_id-preserved : goal.loop-node_id-preserved
loop-node_id-preserved c =
    let ids : List ℕ = c.args.node_ids.now in
    let i = c.loop-node_id.node_id-index in
    let status : ℤ = to_z w32 (of_z w32 c.args.status) in
    let split : drop i ids ≡ slice_index ids i ∷ drop (i + 1) ids = drop_more ids i 0 c.loop-node_id-test.true in
    ap (readied (drop (i + 1) ids) status) c.promote_ready.ensures ∙ ready_first (slice_index ids i) (drop (i + 1) ids) status c.loop-node_id.self
    ∙ ap (λ (rest : List ℕ). readied rest status c.loop-node_id.self) (sym split) ∙ c.loop-node_id.invariant

pub returns : goal.returns
returns c =
    let ids : List ℕ = c.args.node_ids.now in
    let i = c.loop-node_id.node_id-index in
    let status : ℤ = to_z w32 (of_z w32 c.args.status) in
    let same : status ≡ c.args.status = to_z-of_z w32 c.args.status c.ranges.status in
    let none : drop i ids ≡ [] = drop_all i ids c.loop-node_id-test.false in
    sym (none_changed (ready status) c.loop-node_id.self)
    ∙ ap (λ (rest : List ℕ). readied rest status c.loop-node_id.self) (sym none) ∙ c.loop-node_id.invariant ∙ ap (λ (s : ℤ). readied ids s c.args.self.now) same
