use Rattle.den_core.proofs.Refusing.{flags_tell, flags_told}
use Rattle.den_core.proofs.engine.EngineStepper.is_failed.Goals as goal

pub returns : goal.returns
returns g c =
    let self = c.args.self.now in (
      flags_tell self.failed _ _ _ _ _ _ c.is_failed-log.ensures c.is_failed-meta.ensures c.is_failed-state.ensures,
      flags_told self.failed _ _ _ _ _ _ c.is_failed-log.ensures c.is_failed-meta.ensures c.is_failed-state.ensures,
    )
