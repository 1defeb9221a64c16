use Rattle.std.proofs.Common.{[], ◌∷◌, Err, arith}
use Rattle.den_journal.specs.Journals.{journal_shown}
use Rattle.den_state.specs.contracts.stored_map.StoredMapFolded.TheImpl.{ghosts}
use Rattle.den_state.specs.Checkpoint.{words_of}
use Rattle.den_state.proofs.Checkpointing.{steps_more}
use Rattle.den_state.proofs.Renewing.{anew, anew_map, given}
use Rattle.den_state.proofs.checkpoint.commit_map.Goals as goal

pub draft_commit-requires-clause-going : goal.draft_commit-requires-clause-going
draft_commit-requires-clause-going g c = (c.in-Ok.ensures.written c.requires.drafting.0 c.requires.drafting.1).drafting.going

pub draft_commit-requires-clause-begun : goal.draft_commit-requires-clause-begun
draft_commit-requires-clause-begun g c = (c.in-Ok.ensures.written c.requires.drafting.0 c.requires.drafting.1).drafting.begun

pub returns-in-Ok-clause-renews : goal.returns-in-Ok-clause-renews
returns-in-Ok-clause-renews g c = λ stands drafting.
    let j = c.args.journal.now in
    let mid = c.push_map.new.journal in
    let now = c.draft_commit.new.self in
    let old = c.args.disk.now in
    let d = c.push_map.new.disk in
    let new = c.draft_commit.new.disk in
    let most = (journal_shown ghosts j).weight in
    let steps = c.in-Ok.ensures.steps stands drafting in
    let w = c.in-Ok.ensures.written stands drafting in
    anew g.D.Disk stands j mid now old d new c.in-Ok.ensures.held c.in-Ok.ensures.slot most (omega arith) steps w c.draft_commit.result
    (c.draft_commit.ensures.commits stands (words_of j.held.map w.pages) w.drafting (given g.D.Disk stands j mid now old d new c.in-Ok.ensures.held c.in-Ok.ensures.slot most (omega arith) steps w)) c.draft_commit.ensures.refused

pub returns-in-Ok-clause-map : goal.returns-in-Ok-clause-map
returns-in-Ok-clause-map g c =
    let j = c.args.journal.now in
    let mid = c.push_map.new.journal in
    let now = c.draft_commit.new.self in
    let old = c.args.disk.now in
    let d = c.push_map.new.disk in
    let new = c.draft_commit.new.disk in
    let most = (journal_shown ghosts j).weight in
    let stands = c.requires.drafting.0 in
    let steps = c.in-Ok.ensures.steps stands c.requires.drafting.1 in
    let w = c.in-Ok.ensures.written stands c.requires.drafting.1 in
    anew_map g.D.Disk stands j mid now old d new c.in-Ok.ensures.held c.in-Ok.ensures.slot most (omega arith) steps w c.draft_commit.result
    (c.draft_commit.ensures.commits stands (words_of j.held.map w.pages) w.drafting (given g.D.Disk stands j mid now old d new c.in-Ok.ensures.held c.in-Ok.ensures.slot most (omega arith) steps w))

pub returns-in-Err-clause-renews : goal.returns-in-Err-clause-renews
returns-in-Err-clause-renews g c = λ stands drafting.
    let j = c.args.journal.now in
    record {
      steps = steps_more ghosts g.D.Disk stands j.held.map j c.push_map.new.journal c.args.disk.now c.push_map.new.disk _ (record { map = j.held.map; tail = 0 } ∷ []) (Err c.in-Err.error) (c.in-Err.ensures.steps stands drafting);
      done = tt;
    }
