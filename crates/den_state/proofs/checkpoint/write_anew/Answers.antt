use Rattle.den_state.specs.contracts.stored_map.StoredMapFolded.TheImpl.{ghosts}
use Rattle.den_state.proofs.Renewing.{begun_anew}
use Rattle.den_state.proofs.checkpoint.write_anew.Goals as goal

pub returns-in-Ok-clause-renews : goal.returns-in-Ok-clause-renews
returns-in-Ok-clause-renews g c =
    begun_anew g.D.Disk c.args.journal.now c.draft_begin.new.self c.commit_map.new.journal c.args.disk.now c.draft_begin.new.disk c.commit_map.new.disk c.in-Ok.ensures.drafts c.commit_map.result c.in-Ok.ensures.held c.in-Ok.ensures.slot
    c.in-Ok.ensures.weight (c.commit_map.ensures.renews (ghosts.value c.args.journal.now.held) c.in-Ok.ensures.begun)
