use Rattle.std.proofs.Common.{ap}
use Rattle.den_model.specs.declared.reply.Reply.TheVariants.{Scan}
use Rattle.den_model.specs.Spelling.{reply_word}
use Rattle.den_drive.proofs.driving.report_of.Goals as goal

pub returns-clause-scanned : goal.returns-clause-scanned
returns-clause-scanned c = λ r ends low.
    let e = c.scanned-index.ensures r (c.last_body.ensures (reply_word (Scan r)) ends) low in
    (ap (λ p. p.0) e, ap (λ p. p.1) e)
