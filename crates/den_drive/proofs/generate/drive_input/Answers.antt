use Rattle.std.proofs.Common.{◌≡◌, ◌+◌, ◌%◌, ◌++◌, ◌∙◌, ap, rules, sym}
use Rattle.den_model.specs.Frames.{framed}
use Rattle.den_model.specs.Spelling.{request_word}
use Rattle.den_drive.specs.Generator.{next_number, number_at, request_of, requests_input}
use Rattle.den_drive.proofs.Made.{number_more, requests_more}
use Rattle.den_drive.proofs.generate.drive_input.Goals as goal

pub loop-number-init : goal.loop-number-init
unfolding number_at requests_input
loop-number-init c = search rules

pub loop-number-preserved : goal.loop-number-preserved
loop-number-preserved c =
    let n = c.loop-number.number in
    let at : c.next_number-x.result ≡ number_at (n + 1) = c.next_number-x.ensures ∙ ap next_number c.loop-number.invariant.at ∙ sym (number_more n) in
    record {
      made = c.in_ok-put_request.ensures ∙ ap (λ b. b ++ framed (request_word (request_of ((n + 1) % 4) c.next_number-x.result))) c.loop-number.invariant.made
          ∙ ap (λ x. requests_input n ++ framed (request_word (request_of ((n + 1) % 4) x))) at ∙ sym (requests_more n);
      at = at;
    }
