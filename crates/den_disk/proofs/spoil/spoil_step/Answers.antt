use Rattle.std.proofs.Common.{◌<◌, length, get_or, arith}
use Rattle.den_disk.proofs.Record.{file_is}
use Rattle.den_disk.proofs.Dropped.{takes_back}
use Rattle.den_disk.proofs.Spoilt.{wrote_spoils}
use Rattle.den_disk.proofs.spoil.spoil_step.Goals as goal

pub returns-in-Write-clause-spoils : goal.returns-in-Write-clause-spoils
returns-in-Write-clause-spoils c =
    let files = c.args.files.now in
    let place = c.in-Write.place in
    let n = c.number-number-in-Write.result in
    let has : n < length files = omega arith in
    let number = c.number-number-in-Write.ensures.number in
    let old = get_or files n c.index-files-number.result in
    wrote_spoils c.args.step.now files place n _ old c.in-Write.was c.in-Write.at c.deref.result.now c.args.caps.now c.in-Write.is has number (file_is files place n c.index-files-number.result has number) c.deref.ensures.value c.spoil_range.ensures.as_long c.spoil_range.ensures.same

pub returns-in-Write-clause-dropped : goal.returns-in-Write-clause-dropped
returns-in-Write-clause-dropped c = λ zero.
    let files = c.args.files.now in
    let place = c.in-Write.place in
    let n = c.number-number-in-Write.result in
    let has : n < length files = omega arith in
    let number = c.number-number-in-Write.ensures.number in
    let old = get_or files n c.index-files-number.result in
    takes_back c.args.step.now files place n _ old c.in-Write.was c.in-Write.at c.deref.result.now c.args.caps.now c.in-Write.is has number (file_is files place n c.index-files-number.result has number) c.deref.ensures.value (c.spoil_range.ensures.dropped zero) c.spoil_range.ensures.same
