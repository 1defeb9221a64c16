use Rattle.std.proofs.Common.{◌≡◌, ◌<◌, ◌^◌, ◌∙◌, length, drop, ap, arith}
use Rattle.den_model.specs.Reading.{size_at}
use Rattle.den_drive.proofs.Last.{scan_read}
use Rattle.den_drive.proofs.tail.scanned.Goals as goal

pub returns-then-body-lt17 : goal.returns-then-body-lt17
returns-then-body-lt17 c = λ r is low.
    let small : length c.args.body.now < 2 ^ 64 = omega arith in
    absurd (omega (arith, (scan_read c.args.body.now r small low is).0, c.if-body-lt17.true))

pub returns : goal.returns
returns c = λ r is low.
    let small : length c.args.body.now < 2 ^ 64 = omega arith in
    let read = scan_read c.args.body.now r small low is in
    let fields = c.split_at.ensures.back in
    let behind = c.split_at-2.ensures.back in
    let revision : c.number_at.result ≡ r.revision = c.number_at.ensures ∙ ap size_at fields ∙ read.1 in
    let count : c.number_at-2.result ≡ length r.entries = c.number_at-2.ensures ∙ ap size_at (behind ∙ ap (drop 8) fields) ∙ read.2 in
    cc
