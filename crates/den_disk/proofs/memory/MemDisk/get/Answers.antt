use Rattle.std.proofs.Common.{◌<◌, length, arith, sym, ◌∙◌}
use Rattle.den_disk.proofs.Record.{file_is}
use Rattle.den_disk.proofs.memory.MemDisk.get.Goals as goal

pub returns : goal.returns
returns c =
    let has : c.number-number.result < length c.args.self.now.files = omega arith in
    c.as_slice.ensures.value ∙ sym (file_is c.args.self.now.files c.args.place c.number-number.result c.index-self-number.result has c.number-number.ensures.number)
