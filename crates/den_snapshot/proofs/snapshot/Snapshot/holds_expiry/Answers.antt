use Rattle.std.proofs.Common.{◌∙◌, sym, ap}
use Rattle.den_snapshot.specs.Snapshots.{some_expires}
use Rattle.den_snapshot.proofs.Expiring.{expires_of}
use Rattle.den_snapshot.proofs.snapshot.Snapshot.holds_expiry.Goals as goal

pub returns : goal.returns
returns c = λ mark. c.some_expires.ensures ∙ ap some_expires c.as_slice.ensures.is ∙ sym (expires_of mark c.args.self.now)
