use Rattle.std.proofs.Common.{◌∙◌, [], ◌∷◌, ◌++◌, Ok, Err, ap}
use Rattle.den_desk.specs.History.{finished}
use Rattle.den_desk.proofs.Replays.{kept_answered, kept_ended, kept_failed}
use Rattle.den_desk.proofs.desk.Desk.turn.Goals as goal

-- a call behind the end
pub returns-in-Some-clause-kept : goal.returns-in-Some-clause-kept
returns-in-Some-clause-kept g c =
    kept_ended g.D.Disk _ _ _ _ _ c.args.self.now.history.items _ c.in-Some.end c.len-place.result c.args.caller c.args.moment c.in-Ok.kept c.requires.kept
    (c.len-place.ensures ∙ c.reserve.ensures.len ∙ c.args.self.now.history.ok.0) c.in-Some.is
    (c.push_reserved.ensures.items ∙ ap (λ l. l ++ finished c.args.caller c.args.moment c.in-Ok.kept (Err c.in-Some.end.kind) ∷ []) c.reserve.ensures.items)

-- a call that is answered
pub returns-in-Ok-answer_twice-clause-kept : goal.returns-in-Ok-answer_twice-clause-kept
returns-in-Ok-answer_twice-clause-kept g c =
    kept_answered g.D.Disk _ _ _ _ _ _ _ _ c.args.self.now.history.items _ c.len-place.result c.args.caller c.args.moment c.args.call c.in-Ok.kept c.in-Ok-answer_twice.again c.requires.kept
    c.answer_twice.ensures.disk (c.len-place.ensures ∙ c.reserve.ensures.len ∙ c.args.self.now.history.ok.0) c.in_default-ended.is c.in-Ok.ensures.0
    (c.in-Ok-answer_twice.ensures.answered.1 ∙ c.in-Ok-answer_twice.ensures.answered.0) c.stop_at-self.ensures c.in-Ok-answer_twice.ensures.stands c.in-Ok-answer_twice.ensures.weight
    (c.push_reserved-in-Ok-answer_twice.ensures.items ∙ ap (λ l. l ++ finished c.args.caller c.args.moment c.in-Ok.kept (Ok c.in-Ok-answer_twice.again) ∷ []) c.reserve.ensures.items)

-- a call that fails
pub returns-in-Err-clause-kept : goal.returns-in-Err-clause-kept
returns-in-Err-clause-kept g c =
    kept_failed g.D.Disk _ _ _ _ _ _ _ _ c.args.self.now.history.items _ c.len-place.result c.args.caller c.args.moment c.args.call c.in-Ok.kept c.in-Err.kind c.requires.kept
    c.answer_twice.ensures.disk (c.len-place.ensures ∙ c.reserve.ensures.len ∙ c.args.self.now.history.ok.0) c.in_default-ended.is c.in-Ok.ensures.0 c.in-Err.ensures.cause
    (c.push_reserved-in-Err.ensures.items ∙ ap (λ l. l ++ finished c.args.caller c.args.moment c.in-Ok.kept (Err c.in-Err.kind) ∷ []) c.reserve.ensures.items)
