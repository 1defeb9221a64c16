use Rattle.std.proofs.Common.{◌∙◌}
use Rattle.den_proto.proofs.Ids.{parsed}
use Rattle.den_proto.proofs.hints.id_of.Goals as goal

pub returns : goal.returns
returns c = c.ok.ensures.value ∙ parsed c.args.text.now c.parse.result c.parse.ensures.value.0
