use Rattle.std.proofs.Common.{◌^◌, ◌-◌, ◌+◌, ◌∙◌, min, length, take, arith}
use Rattle.std.specs.List.{flat_map}
use Rattle.den_codec.proofs.Items.{length_more, size_more, size_all}
use Rattle.den_codec.proofs.word.list_size.Goals as goal

pub loop-item-preserved : goal.loop-item-preserved
loop-item-preserved g c =
    let word = g.T.Word.word in
    let i = c.loop-item.item-index in
    let items = c.args.items.now in
    c.saturating_add-size.ensures
    ∙ size_more c.loop-item.size (length (flat_map word (take i items))) (length (word c.item-item.result)) c.size.result 18446744073709551615 (length (flat_map word (take (i + 1) items)))
    c.loop-item.invariant c.size.ensures (length_more word items i c.item-item.result c.loop-item-test.true c.item-item.is)

pub returns : goal.returns
returns g c = size_all g.T.Word.word c.args.items.now c.loop-item.item-index c.loop-item.size 18446744073709551615 c.loop-item-test.false c.loop-item.invariant
