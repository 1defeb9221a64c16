use Rattle.std.proofs.Common.{refl, sym}
use Rattle.den_embed.proofs.Opened.{fails_unopened, fails_unread, reads_so, starts}
use Rattle.den_embed.proofs.Results.{if_err_one, if_ok_three}
use Rattle.den_embed.proofs.opening.EmbeddedEngine+FolderCaller+D+C.start.Goals as goal

pub returns-in-Ok-clause-started : goal.returns-in-Ok-clause-started
returns-in-Ok-clause-started g c = rw (sym c.node-config.ensures) (if_ok_three c.start_over.result _ _ _ _
    (λ e begun opens named. starts g.D.Disk g.C.Clock c.node-config.result.now c.args.disk _ c.args.clock _ _ c.in-Ok.parts c.open_parts.new.disk _ _ _
    (reads_so g.D.Disk _ _ _ _ (λ u. refl) c.in-Ok.ensures.reads) c.in-Ok.ensures.gives begun opens named)
    c.start_over.ensures.begun c.start_over.ensures.opened c.start_over.ensures.named)

pub returns-in-Ok-clause-refused : goal.returns-in-Ok-clause-refused
returns-in-Ok-clause-refused g c = rw (sym c.node-config.ensures) (if_err_one c.start_over.result _ _
    (λ u f. (
      f.0,
      fails_unopened g.D.Disk g.C.Clock c.node-config.result.now c.args.disk u.disk c.args.clock f.0 u.error c.in-Ok.parts c.open_parts.new.disk
          (reads_so g.D.Disk _ _ _ _ (λ x. refl) c.in-Ok.ensures.reads) c.in-Ok.ensures.gives f.1 f.2,
    ))
    c.start_over.ensures.refused)

pub returns-in-Err-clause-refused : goal.returns-in-Err-clause-refused
returns-in-Err-clause-refused g c = rw (sym c.node-config.ensures) (
  c.args.clock,
  fails_unread g.D.Disk g.C.Clock c.node-config.result.now c.args.disk c.open_parts.new.disk c.args.clock c.args.clock c.in-Err.error
      (record { reads = reads_so g.D.Disk _ _ _ _ (λ never. absurd never) c.in-Err.ensures.reads; clock_is = refl; cause = c.in-Err.ensures.refused }),
)
