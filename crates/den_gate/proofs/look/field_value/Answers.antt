use Rattle.std.proofs.Common.{◌≡◌, ℕ, ◌<◌, length, get_or, rules, arith}
use Rattle.std.proofs.lemmas.Nat.{be_bytes_8}
use Rattle.den_model.specs.Spelling.{u64_word}
use Rattle.den_gate.proofs.look.field_value.Goals as goal

pub returns : goal.returns
unfolding u64_word
returns c =
    let long : length c.args.field.now ≡ 8 = omega arith in
    let fits : (i : ℕ) → get_or c.args.field.now i 0 < 256 = search rules in
    be_bytes_8 c.args.field.now c.from_be_bytes.result long fits c.from_be_bytes.ensures
