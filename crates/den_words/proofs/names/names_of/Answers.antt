use Rattle.std.proofs.Common.{◌≡◌, ◌∙◌, [], ap, map, string_bytes, sym}
use Rattle.std.proofs.lemmas.Result.{IfOk-weaker}
use Rattle.clap.specs.Words.{app_of, fault_of, found_of, is_simple, is_simple_and_free, matches_of, rows_of}
use Rattle.den_words.specs.Words.{command_line}
use Rattle.den_words.proofs.Few.{few_seen}
use Rattle.den_words.proofs.Read.{read, simple, simple_and_free}
use Rattle.den_words.proofs.names.names_of.Goals as goal

pub returns-in-Ok-clause-names : goal.returns-in-Ok-clause-names
returns-in-Ok-clause-names c =
    let app : app_of c.in_ok-command.field-0 ≡ command_line = c.in_ok-command.ensures in
    let words = map string_bytes c.args.words.now in
    let taken : fault_of command_line words ≡ [] = ap (λ a. fault_of a words) (sym app) ∙ c.in-Ok.ensures.kinds (ap is_simple_and_free app ∙ simple_and_free) in
    let rows : rows_of (found_of c.in-Ok.matches) ≡ matches_of command_line words = (c.in-Ok.ensures.matches (ap is_simple app ∙ simple)).0 ∙ ap (λ a. matches_of a words) app in
    IfOk-weaker c.named.result _ _ (λ r h. h ∙ (rw (c.given_port.ensures, c.given_number.ensures, c.get_str.ensures, c.get_str-in-Ok.ensures, c.get_str-in-Ok-2.ensures, c.get_str-in-Ok-3.ensures)
    (read c.in-Ok.matches words taken rows))) c.named.ensures

pub returns-in-Ok-clause-few : goal.returns-in-Ok-clause-few
returns-in-Ok-clause-few c = IfOk-weaker c.named.result _ _ (few_seen (map string_bytes c.args.words.now)) (returns-in-Ok-clause-names c)
