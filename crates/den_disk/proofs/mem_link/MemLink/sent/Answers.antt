use Rattle.std.proofs.Common.{◌∙◌, sym}
use Rattle.std.proofs.lemmas.Slice.Zip.{firsts-zip}
use Rattle.den_disk.proofs.mem_link.MemLink.sent.Goals as goal

pub returns : goal.returns
returns c = c.as_slice.ensures.value ∙ sym (firsts-zip c.args.self.now.sent.items c.args.self.now.moments.items c.args.self.now.paired)
