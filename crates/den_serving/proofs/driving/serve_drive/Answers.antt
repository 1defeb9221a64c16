use Rattle.std.proofs.Common.{◌∙◌}
use Rattle.den_drive.specs.Report.{report_line}
use Rattle.den_serving.proofs.Answered.{front_sent, piece_sent}
use Rattle.den_serving.proofs.driving.serve_drive.Goals as goal

-- a front of the line was sent
pub returns-clause-driven : goal.returns-clause-driven
returns-clause-driven g c =
    let r = c.in_ok-report.report in
    let line = report_line r.requests r.keys r.index r.bytes in (
      c.in-Err.ensures.cause,
      record {
        requests = r.requests;
        keys = r.keys;
        index = r.index;
        bytes = r.bytes;
        numbers = c.in_ok-report.ensures.report;
        taken = c.send.ensures.taken;
        left = c.send.ensures.left;
        sent = λ told. front_sent (g.L.Link.sent c.args.link.now) (g.L.Link.sent c.send.new.self) c.as_bytes.result.now line (g.D.Disk.moment c.args.disk.now) (c.as_bytes.ensures.value ∙ c.in_ok-line.ensures) (c.send.ensures.front told);
      },
    )

-- all of it was sent
pub returns-in-Ok-clause-driven : goal.returns-in-Ok-clause-driven
returns-in-Ok-clause-driven g c =
    let r = c.in_ok-report.report in
    record {
      requests = r.requests;
      keys = r.keys;
      index = r.index;
      bytes = r.bytes;
      numbers = c.in_ok-report.ensures.report;
      taken = c.send.ensures.taken;
      left = c.send.ensures.left;
      sent = λ told. piece_sent (g.L.Link.sent c.args.link.now) (g.L.Link.sent c.send.new.self) c.as_bytes.result.now (g.D.Disk.moment c.args.disk.now) (c.in-Ok.ensures.all told) ∙ c.as_bytes.ensures.value ∙ c.in_ok-line.ensures;
    }
