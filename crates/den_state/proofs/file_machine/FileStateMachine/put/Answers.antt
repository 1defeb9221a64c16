use Rattle.den_journal.proofs.Drafting.{drafting_turned}
use Rattle.den_state.specs.contracts.stored_map.StoredMapFolded.TheImpl.{ghosts}
use Rattle.den_state.proofs.Renewing.{begun_replaces}
use Rattle.den_state.proofs.file_machine.FileStateMachine.put.Goals as goal

pub commit_map-requires : goal.commit_map-requires
commit_map-requires g c =
    let stands = ghosts.value c.args.self.now.journal.held in
    record {
      drafting =
          (stands, drafting_turned ghosts g.D.Disk stands c.draft_begin.new.self c.draft_turn_to.new.self _ c.draft_begin.new.disk c.in-Ok.ensures.begun c.draft_turn_to.ensures.gate c.draft_turn_to.ensures.unready);
    }

pub returns-in-Ok-clause-replaces : goal.returns-in-Ok-clause-replaces
returns-in-Ok-clause-replaces g c =
    let j = c.args.self.now.journal in
    let stands = ghosts.value j.held in
    let begun = c.draft_begin.new.self in
    let d = c.draft_begin.new.disk in
    let turned = c.draft_turn_to.new.self in
    let drafting = drafting_turned ghosts g.D.Disk stands begun turned _ d c.in-Ok.ensures.begun c.draft_turn_to.ensures.gate c.draft_turn_to.ensures.unready in
    begun_replaces g.D.Disk j begun c.args.disk.now d turned c.commit_map.new.journal c.commit_map.new.disk c.args.held c.commit_map.result c.in-Ok.ensures.drafts c.in-Ok.ensures.slot c.in-Ok.ensures.end
    c.draft_turn_to.ensures.held c.draft_turn_to.ensures.gate (c.commit_map.ensures.renews stands drafting) c.commit_map.ensures.held
