use Rattle.std.proofs.Common.{◌≡◌, false, [], None, IsSome, length, Ok}
use Rattle.den_table.specs.Keyed.{behind}
use Rattle.den_journal.specs.Journals.{journal_shown}
use Rattle.den_state.specs.contracts.stored_map.StoredMapFolded.TheImpl.{ghosts}
use Rattle.den_state.specs.Checkpoint.{IsWriting, Steps}
use Rattle.den_state.specs.Stored.{Stored}
use Rattle.den_state.proofs.checkpoint.push_pages.Given as goal

-- the pages so far stand in the draft
abbrev pub invariant-loop-last : goal.invariant-loop-last
invariant-loop-last g l = let j = l.fn.journal in let most = (journal_shown ghosts j).weight in record {
  writing : (stands : Stored) → IsWriting ghosts g.D.Disk stands j.held.map most None j l.fn.disk → IsWriting ghosts g.D.Disk stands j.held.map most l.last l.journal l.disk;
  steps : (stands : Stored) → IsWriting ghosts g.D.Disk stands j.held.map most None j l.fn.disk → Steps ghosts g.D.Disk stands j.held.map j l.journal l.fn.disk l.disk most [] (Ok (tt {0}));
  going : l.journal.gate.failed ≡ false;
  begun : IsSome l.journal.gate.draft;
  held : l.journal.held ≡ j.held;
  slot : l.journal.gate.slot ≡ j.gate.slot;
}

abbrev pub decreases-loop-last : goal.decreases-loop-last
decreases-loop-last g l = length (behind l.last l.fn.journal.held.map.pairs)
