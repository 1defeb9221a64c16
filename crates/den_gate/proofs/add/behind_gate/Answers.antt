use Rattle.std.proofs.Common.{◌++◌, List, ℕ, [], ◌∷◌, length, ◌∙◌, ap}
use Rattle.den_gate.proofs.Rows.{row_is}
use Rattle.den_gate.proofs.Written.{length-word, word-is}
use Rattle.den_gate.proofs.add.behind_gate.Goals as goal

pub returns : goal.returns
returns c =
    let p = c.args.payload.now in
    let n = length p in
    let field = c.copy_from_slice.new.self in
    let is = c.copy_from_slice.ensures.after ∙ word-is n c.to_be_bytes.result c.to_be_bytes.ensures in
    row_is field p c.copy_from_slice-2.new.self (ap length is ∙ length-word n) c.requires c.copy_from_slice-2.ensures.after
    ∙ ap (λ (b : List ℕ). b ++ p ++ 0 ∷ []) is
