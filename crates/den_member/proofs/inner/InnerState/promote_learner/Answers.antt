use Rattle.std.proofs.Common.{◌≡◌, true, Some, None, pos, ap, refl, rules, subst, sym, ◌∙◌}
use Rattle.std.specs.Prelude.{if◌then◌else◌, is_some, Option}
use Rattle.den_model.specs.declared.reply.NodeMeta.{NodeMeta}
use Rattle.den_member.specs.Answers.{Comes, ChangeOutcome, done, refused}
use Rattle.den_member.specs.Changes.{changed_one, following, is_learner}
use Rattle.den_member.specs.Leading.{promoted_learner}
use Rattle.den_member.specs.Members.{Members, changed, is_id}
use Rattle.den_member.specs.Numbered.{at}
use Rattle.den_member.specs.declared.error.MembershipError.TheVariants.{InvalidPromotion, NoMetadataFoundForNode}
use Rattle.den_member.proofs.inner.InnerState.promote_learner.Goals as goal

pub returns : goal.returns
returns c =
    let m : Members = c.args.self.now in
    let made = c.update_node.ensures.made following (λ node after post. search rules) in
    let held : at m.nodes c.args.node_id ≡ Some c.in-Some.node.now = search rules in
    let role : c.in-Some.node.now.role ≡ pos 3 = search rules in
    let learner : is_learner c.in-Some.node.now ≡ true = rw role refl in
    let follows : ChangeOutcome = done (changed (is_id c.args.node_id) following m) in
    let one : changed_one c.args.node_id following m ≡ follows =
    ap (λ (o : Option NodeMeta). if is_some o then follows else refused (NoMetadataFoundForNode c.args.node_id) m) held in
    let two : promoted_learner c.args.node_id m ≡ follows =
    ap (λ (o : Option NodeMeta). elim o [
      | None ↦ refused (NoMetadataFoundForNode c.args.node_id) m
      | Some n ↦ if is_learner n then follows else refused (InvalidPromotion c.args.node_id n.role) m
    ]) held ∙ ap (λ b. if b then follows else refused (InvalidPromotion c.args.node_id c.in-Some.node.now.role) m) learner in
    subst (λ (o : ChangeOutcome). Comes c.update_node.result o c.update_node.new.self) (one ∙ sym two) made
