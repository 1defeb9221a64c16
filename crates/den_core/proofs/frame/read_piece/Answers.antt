use Rattle.std.proofs.Common.{◌≡◌, ◌+◌, ◌∙◌, sym, length}
use Rattle.den_core.proofs.Cutting.{tail_put, tail_room, piece_read}
use Rattle.den_core.proofs.frame.read_piece.Goals as goal

pub returns-clause-piece : goal.returns-clause-piece
returns-clause-piece g c = λ told.
    let resized = c.in_ok-resize.ensures in
    let fill = c.in_ok-got.ensures in
    let at : length c.args.body.now.items ≡ c.len-at.result = sym (c.len-at.ensures ∙ c.args.body.now.ok.0) in
    let room : length c.resize.new.self.items ≡ c.len-at.result + c.args.size = sym c.resize.new.self.ok.0 ∙ resized.len in
    piece_read _ _ c.args.body.now.items _ c.fill.new.buf _ _
    (tail_put c.args.body.now.items c.resize.new.self.items c.deref_mut.result.now c.fill.new.buf c.len-at.result c.args.size c.resize.new.self.len _ at resized.items room resized.len c.deref_mut.ensures.value c.fill.auto.buf)
    (tail_room _ _ _ _ (c.deref_mut.ensures.len ∙ resized.len) c.fill.auto.buf) fill.size (fill.took.fits told) (fill.bytes told) (fill.took.rest told) (λ lt. fill.end lt told)
