use Rattle.std.proofs.Common.{◌≡◌, ◌∙◌, ap, arith, length, subst, sym}
use Rattle.den_model.specs.Plan.{output}
use Rattle.den_model.specs.Spelling.{reply_word}
use Rattle.den_model.specs.declared.reply.Reply.TheVariants.{Scan}
use Rattle.den_drive.specs.Report.{EndsWith, drive_plan, drive_start, driven}
use Rattle.den_drive.specs.Serving.{answered}
use Rattle.den_drive.proofs.Driven.{answered_drive, drive_end, scan_of}
use Rattle.den_drive.proofs.Made.{input_size}
use Rattle.den_drive.proofs.Planned.{all_pairs}
use Rattle.den_drive.proofs.driving.drive.Goals as goal

pub new-link-requires : goal.new-link-requires
new-link-requires c = record { small = omega (arith, ap length c.in_ok-input.ensures, input_size c.args.n c.requires.few) }

pub returns-clause-report : goal.returns-clause-report
returns-clause-report c =
    let n = c.args.n in
    let sent : c.sent.result.now ≡ output drive_start (drive_plan n) =
    c.sent.ensures ∙ c.in_ok-serve.ensures.sent ∙ ap answered (c.new-link.ensures.left ∙ c.in_ok-input.ensures) ∙ answered_drive n in
    let end = drive_end n c.requires.few in
    let numbers = c.report_of.ensures.scanned (scan_of n) (subst (λ b. EndsWith b (reply_word (Scan (scan_of n)))) (sym sent) end.0) end.1 in
    record {
      all_asked = c.report_of.ensures.requests;
      keys_held = numbers.1 ∙ all_pairs (driven n).pairs;
      index_last = numbers.0;
      bytes_sent = c.report_of.ensures.bytes ∙ ap length sent;
    }
