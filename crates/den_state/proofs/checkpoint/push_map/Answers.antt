use Rattle.std.proofs.Common.{ℕ, [], OnOk, refl, subst}
use Rattle.den_journal.specs.Journals.{journal_shown}
use Rattle.den_state.specs.contracts.stored_map.StoredMapFolded.TheImpl.{ghosts}
use Rattle.den_state.specs.declared.stored_map.StoredMap.{StoredMap}
use Rattle.den_state.specs.Checkpoint.{IsDraftWhole, Steps}
use Rattle.den_state.proofs.Checkpointing.{steps_then, writing_held}
use Rattle.den_state.proofs.checkpoint.push_map.Goals as goal

pub returns-in-Ok-clause-steps : goal.returns-in-Ok-clause-steps
returns-in-Ok-clause-steps g c = λ stands drafting.
    let j = c.args.journal.now in
    let mid = c.push_mark.new.journal in
    let d = c.push_mark.new.disk in
    let now = c.push_pages.new.journal in
    let new = c.push_pages.new.disk in
    let r = c.push_pages.result in
    let w = writing_held ghosts g.D.Disk stands j.held.map j mid d c.in-Ok.ensures.held c.in-Ok.ensures.weight refl (c.in-Ok.ensures.writing stands drafting) in
    let all = subst (λ (h : StoredMap). Steps ghosts g.D.Disk stands h.map mid now d new (journal_shown ghosts mid).weight [] r) c.in-Ok.ensures.held (c.push_pages.ensures.steps stands w) in
    steps_then ghosts g.D.Disk stands j.held.map j mid now c.args.disk.now d new (journal_shown ghosts j).weight [] (tt {0}) r c.in-Ok.ensures.held (c.in-Ok.ensures.steps stands drafting)
    (subst (λ (n : ℕ). Steps ghosts g.D.Disk stands j.held.map mid now d new n [] r) c.in-Ok.ensures.weight all)

pub returns-in-Ok-clause-written : goal.returns-in-Ok-clause-written
returns-in-Ok-clause-written g c = λ stands drafting.
    let j = c.args.journal.now in
    let mid = c.push_mark.new.journal in
    let w = writing_held ghosts g.D.Disk stands j.held.map j mid c.push_mark.new.disk c.in-Ok.ensures.held c.in-Ok.ensures.weight refl (c.in-Ok.ensures.writing stands drafting) in
    subst (λ (h : StoredMap). OnOk c.push_pages.result (IsDraftWhole ghosts g.D.Disk stands h.map c.push_pages.new.journal c.push_pages.new.disk)) c.in-Ok.ensures.held (c.push_pages.ensures.written stands w)
