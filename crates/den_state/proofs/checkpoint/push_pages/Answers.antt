use Rattle.std.proofs.Common.{◌∙◌, [], refl}
use Rattle.den_journal.specs.Journals.{journal_shown}
use Rattle.den_state.specs.contracts.stored_map.StoredMapFolded.TheImpl.{ghosts}
use Rattle.den_state.proofs.Checkpointing.{no_steps, steps_err, steps_ok, steps_then}
use Rattle.den_state.proofs.checkpoint.push_pages.Goals as goal

pub loop-last-init : goal.loop-last-init
loop-last-init g c =
    let j = c.args.journal.now in
    let some = c.requires.writing in
    record {
      writing = λ stands w. w;
      steps = λ stands w. no_steps ghosts g.D.Disk stands j.held.map (journal_shown ghosts j).weight _ _ _ w g.met.D.Disk.images_now;
      going = some.1.drafting.going;
      begun = some.1.drafting.begun;
      held = refl;
      slot = refl;
    }

pub loop-last-smaller : goal.loop-last-smaller
loop-last-smaller g c =
    let j = c.args.journal.now in
    let some = c.requires.writing in
    (c.in-Ok-true.ensures.next some.0 j.held.map (journal_shown ghosts j).weight (c.loop-last.invariant.writing some.0 some.1)).fewer c.in-Ok-true.field-0-test

pub loop-last-preserved : goal.loop-last-preserved
loop-last-preserved g c =
    let j = c.args.journal.now in
    let most = (journal_shown ghosts j).weight in
    let some = c.requires.writing in
    let so_far = c.loop-last.invariant in
    let after = (c.in-Ok-true.ensures.next some.0 j.held.map most (so_far.writing some.0 some.1)).writing.drafting in
    record {
      writing = λ stands w. (c.in-Ok-true.ensures.next stands j.held.map most (so_far.writing stands w)).writing;
      steps = λ stands w. steps_then ghosts g.D.Disk stands j.held.map j c.loop-last.journal c.push_page.new.journal c.args.disk.now c.loop-last.disk c.push_page.new.disk _ [] (tt {0}) _ so_far.held (so_far.steps stands w)
          (steps_ok ghosts g.D.Disk stands j.held.map c.loop-last.journal c.push_page.new.journal c.loop-last.disk c.push_page.new.disk _ [] _ (tt {0})
          (c.in-Ok-true.ensures.next stands j.held.map most (so_far.writing stands w)).steps);
      going = after.going;
      begun = after.begun;
      held = c.push_page.ensures.held ∙ so_far.held;
      slot = c.push_page.ensures.slot ∙ so_far.slot;
    }

pub returns-in-Ok-false-clause-steps : goal.returns-in-Ok-false-clause-steps
returns-in-Ok-false-clause-steps g c = λ stands w.
    let j = c.args.journal.now in
    let so_far = c.loop-last.invariant in
    let next = c.in-Ok-false.ensures.next stands j.held.map (journal_shown ghosts j).weight (so_far.writing stands w) in
    steps_then ghosts g.D.Disk stands j.held.map j c.loop-last.journal c.push_page.new.journal c.args.disk.now c.loop-last.disk c.push_page.new.disk _ [] (tt {0}) _ so_far.held (so_far.steps stands w)
    (steps_ok ghosts g.D.Disk stands j.held.map c.loop-last.journal c.push_page.new.journal c.loop-last.disk c.push_page.new.disk _ [] _ (tt {0}) next.steps)

pub returns-in-Ok-false-clause-written : goal.returns-in-Ok-false-clause-written
returns-in-Ok-false-clause-written g c = λ stands w.
    let j = c.args.journal.now in
    (c.in-Ok-false.ensures.next stands j.held.map (journal_shown ghosts j).weight (c.loop-last.invariant.writing stands w)).written c.in-Ok-false.field-0-test

pub returns-in-Err-clause-steps : goal.returns-in-Err-clause-steps
returns-in-Err-clause-steps g c = λ stands w.
    let j = c.args.journal.now in
    let so_far = c.loop-last.invariant in
    let next = c.in-Err.ensures.next stands j.held.map (journal_shown ghosts j).weight (so_far.writing stands w) in
    steps_then ghosts g.D.Disk stands j.held.map j c.loop-last.journal c.push_page.new.journal c.args.disk.now c.loop-last.disk c.push_page.new.disk _ [] (tt {0}) _ so_far.held (so_far.steps stands w)
    (steps_err ghosts g.D.Disk stands j.held.map c.loop-last.journal c.push_page.new.journal c.loop-last.disk c.push_page.new.disk _ [] c.in-Err.error next.steps)
