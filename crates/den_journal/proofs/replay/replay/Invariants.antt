use Rattle.std.proofs.Common.{◌≡◌, ◌≤◌, ◌-◌, IsTrue, take, Ok}
use Rattle.den_disk.specs.Crash.{Stays}
use Rattle.den_model.specs.Regions.{placed}
use Rattle.den_gate.specs.Gate.{payloads}
use Rattle.den_gate.specs.Reader.{StandsIn}
use Rattle.den_journal.proofs.replay.replay.Given as goal

abbrev pub invariant-regions : goal.invariant-regions
invariant-regions g l = record {
  slot : l.reader.slot ≡ l.gate.slot;
  kind : g.D.Disk.kind l.disk ≡ g.D.Disk.kind l.fn.disk;
  later : g.D.Disk.faults l.fn.disk ≤ g.D.Disk.faults l.disk;
  stays : IsTrue (g.D.Disk.kind l.fn.disk).tells → Stays g.D.Disk.content g.D.Disk.moment g.D.Disk.images l.fn.disk l.disk;
  stands : IsTrue (g.D.Disk.kind l.fn.disk).tells → StandsIn l.reader (g.D.Disk.content l.disk).reading;
  so_far : IsTrue (g.D.Disk.kind l.fn.disk).tells → g.F.Folded.from g.F.Folded.empty (take l.reader.given (placed 0 (payloads l.gate (g.D.Disk.content l.fn.disk).reading))) ≡ Ok (g.F.Folded.value l.held);
  size : g.F.Folded.size (g.F.Folded.value l.held) ≤ l.reader.at;
}

abbrev pub decreases-regions : goal.decreases-regions
decreases-regions g l = l.reader.len - l.reader.at
