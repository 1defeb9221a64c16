use Rattle.std.proofs.Common.{rules, ◌≡◌, ◌<◌, ◌^◌, true}
use Rattle.den_words.specs.Numbers.{is_numeral}
use Rattle.den_words.proofs.Numbers.{no_number}
use Rattle.den_words.proofs.number.number_in.Goals as goal

pub returns-in_default : goal.returns-in_default
returns-in_default c =
    let numeral : is_numeral c.args.text.now ≡ true = search rules in
    let bound : c.args.most < 2 ^ 32 = search rules in
    no_number c.args.least c.args.most c.args.text.now c.in_default.field-0 bound c.in_default.ensures.value.0 numeral
