use Rattle.std.proofs.Common.{rules, ap, ap₂, codes, true, ◌≡◌, ◌∙◌}
use Rattle.std.proofs.lemmas.Result.{IfOk-weaker}
use Rattle.clap.specs.Words.{App, app_of, rule_of, with_rule}
use Rattle.den_words.specs.Words.{bare_command, folder_rule, option_rule}
use Rattle.den_words.proofs.command.command.Goals as goal

pub returns : goal.returns
returns c =
    let folder_is : rule_of c.required-folder.result ≡ folder_rule = search rules in
    let config_is : rule_of c.long-config.result ≡ option_rule (codes "config") = search rules in
    let listen_is : rule_of c.long-listen.result ≡ option_rule (codes "listen") = search rules in
    let drive_is : rule_of c.long-drive.result ≡ option_rule (codes "drive") = search rules in
    let bare : app_of c.disable_help_flag.result ≡ bare_command =
    rw (c.disable_help_flag.ensures, c.no_binary_name.ensures)
    (ap (λ (a : App). record { top = record a.top { no_binary_name = true; disable_help_flag = true }; subs = a.subs }) c.new-5.ensures.app) in
    let one = c.in_ok-arg.ensures.shape (search rules) ∙ ap₂ with_rule bare folder_is in
    let two = c.in_ok-arg-2.ensures.shape (search rules) ∙ ap₂ with_rule one config_is in
    let three = c.in_ok-arg-3.ensures.shape (search rules) ∙ ap₂ with_rule two listen_is in
    IfOk-weaker c.arg-4.result _ _ (λ r h. h.shape (search rules) ∙ ap₂ with_rule three drive_is) c.arg-4.ensures
