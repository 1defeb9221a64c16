use Rattle.std.proofs.Common.{◌≡◌, ◌∙◌, [], length, inl, ap, arith}
use Rattle.den_model.specs.declared.log_id.LogId.{LogId}
use Rattle.den_model.specs.declared.region.StateRegion.TheVariants.{Begin}
use Rattle.den_model.specs.Spelling.{state_region_word}
use Rattle.den_map.proofs.Checkpoints.{begin_long}
use Rattle.den_state.specs.contracts.stored_map.StoredMapFolded.TheImpl.{ghosts}
use Rattle.den_state.specs.declared.stored_map.StoredMap.{StoredMap}
use Rattle.den_state.proofs.Checkpointing.{pushed_steps, mark_writing}
use Rattle.den_state.proofs.checkpoint.push_mark.Goals as goal

pub returns-clause-steps : goal.returns-clause-steps
returns-clause-steps g c = λ stands drafting.
    let j = c.args.journal.now in
    let mark = c.mark-index.result in
    let same : mark ≡ j.held.map.mark = c.mark-index.ensures ∙ ap (λ (h : StoredMap). h.map.mark) c.held.ensures in
    pushed_steps ghosts g.D.Disk stands j.held.map j c.draft_push.new.self c.args.disk.now c.draft_push.new.disk [] (state_region_word (Begin mark.index mark.term)) c.draft_push.result _
    (c.draft_push.ensures.pushes stands [] drafting) (omega (arith, begin_long mark.index mark.term)) (inl (ap (λ (p : LogId). length (state_region_word (Begin p.index p.term))) same))

pub returns-clause-writing : goal.returns-clause-writing
returns-clause-writing g c = λ stands drafting.
    let j = c.args.journal.now in
    let mark = c.mark-index.result in
    let same : mark ≡ j.held.map.mark = c.mark-index.ensures ∙ ap (λ (h : StoredMap). h.map.mark) c.held.ensures in
    mark_writing ghosts g.D.Disk stands j.held.map c.draft_push.new.self c.draft_push.new.disk mark c.draft_push.result _ same (ap (λ (h : StoredMap). h.map) c.draft_push.ensures.held) (omega arith)
    (c.draft_push.ensures.pushes stands [] drafting).pushed c.draft_push.ensures.fits
