use Rattle.std.proofs.Common.{IsTrue, length, sym, ap, subst}
use Rattle.den_disk.specs.Files.{Kind}
use Rattle.den_model.specs.declared.region.StateRegion.TheVariants.{Records}
use Rattle.den_model.specs.Spelling.{state_region_word}
use Rattle.den_map.specs.Journal.{all_recorded}
use Rattle.den_state.specs.declared.file_machine.FileStateMachine.{FileStateMachine}
use Rattle.den_state.specs.Changes.{chunk_change}
use Rattle.den_state.specs.FileState.{map_held, state_shown}
use Rattle.den_state.proofs.Renewed.{writes_both, writes_half}
use Rattle.den_state.proofs.Tails.{adds_or_renews}
use Rattle.den_state.proofs.file_machine.FileStateMachine.apply.Goals as goal

pub returns-in-Ok-shorten-clause-writes : goal.returns-in-Ok-shorten-clause-writes
returns-in-Ok-shorten-clause-writes g c =
    let s = c.args.self.now in
    writes_both g.D.Disk map_held (state_shown s) (state_shown c.commit.new.self) (state_shown c.shorten.new.self) c.args.disk.now c.commit.new.disk c.shorten.new.disk (chunk_change s.journal.held.map c.args.chunk.now)
    c.in-Ok.results c.in-Ok.ensures.writes c.in-Ok.results _ c.in-Ok-shorten.ensures.writes

pub returns-in-Err-shorten-clause-writes : goal.returns-in-Err-shorten-clause-writes
returns-in-Err-shorten-clause-writes g c =
    let s = c.args.self.now in
    writes_half g.D.Disk map_held (state_shown s) (state_shown c.commit.new.self) (state_shown c.shorten.new.self) c.args.disk.now c.commit.new.disk c.shorten.new.disk (chunk_change s.journal.held.map c.args.chunk.now)
    c.in-Ok.results c.in-Ok.ensures.writes c.in-Err-shorten.error tt (λ n h. h) c.in-Err-shorten.ensures.failed c.in-Err-shorten.ensures.writes

pub returns-in-Ok-shorten-clause-region : goal.returns-in-Ok-shorten-clause-region
returns-in-Ok-shorten-clause-region g c =
    let s = c.args.self.now in
    adds_or_renews g.D.Disk s.journal c.commit.new.self.journal c.shorten.new.self.journal c.args.disk.now c.commit.new.disk c.shorten.new.disk (length c.args.chunk.now) (state_region_word (Records (all_recorded s.journal.held.map c.args.chunk.now)))
    (λ tells. subst (λ (k : Kind). IsTrue k.tells) (sym c.in-Ok.ensures.writes.goes_on.same) tells) c.in-Ok.ensures.tail c.commit.ensures.slot c.in-Ok.ensures.region
    (λ few. let stays = c.shorten.ensures.few few in (ap (λ (x : FileStateMachine). x.journal) stays.0, stays.1)) c.shorten.ensures.value c.in-Ok-shorten.ensures.many
