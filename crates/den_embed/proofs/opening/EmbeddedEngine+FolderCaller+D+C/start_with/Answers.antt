use Rattle.std.proofs.Common.{inr}
use Rattle.den_embed.proofs.Results.{fails_so, if_err_one, if_ok_one}
use Rattle.den_embed.proofs.opening.EmbeddedEngine+FolderCaller+D+C.start_with.Goals as goal

pub returns-in-Ok-clause-started : goal.returns-in-Ok-clause-started
returns-in-Ok-clause-started g c = if_ok_one c.start.result _ _ (λ e s. (c.in-Ok.config.node, c.in-Ok.ensures.given, s)) c.start.ensures.started

pub returns-in-Ok-clause-refused : goal.returns-in-Ok-clause-refused
returns-in-Ok-clause-refused g c = if_err_one c.start.result _ _
    (λ u f. fails_so _ _ u.error (λ e why. inr (c.in-Ok.config.node, c.in-Ok.ensures.given, f.0, why)) f.1) c.start.ensures.refused
