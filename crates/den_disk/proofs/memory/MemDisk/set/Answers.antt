use Rattle.std.proofs.Common.{◌≡◌, ◌<◌, length, arith, rules}
use Rattle.den_disk.proofs.Puts.{put_here, put_elsewhere}
use Rattle.den_disk.proofs.memory.MemDisk.set.Goals as goal

pub returns-clause-here : goal.returns-clause-here
returns-clause-here c =
    let has : c.number-number.result < length c.args.self.now.files = omega arith in
    let is : c.in_ok-file.file.items ≡ c.args.bytes.now = search rules in
    put_here c.args.self.now.files c.args.place c.number-number.result c.in_ok-file.file has c.number-number.ensures.number c.args.bytes.now is

pub returns-clause-elsewhere : goal.returns-clause-elsewhere
returns-clause-elsewhere c =
    let has : c.number-number.result < length c.args.self.now.files = omega arith in
    let is : c.in_ok-file.file.items ≡ c.args.bytes.now = search rules in
    put_elsewhere c.args.self.now.files c.args.place c.number-number.result c.in_ok-file.file has c.number-number.ensures.number c.args.bytes.now is
