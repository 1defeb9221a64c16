use Rattle.std.proofs.Common.{◌≡◌, ◌≤◌, ◌-◌, IsTrue}
use Rattle.den_disk.specs.Crash.{Stays}
use Rattle.den_gate.specs.Slot.{Begins}
use Rattle.den_gate.specs.Window.{Shows}
use Rattle.den_gate.proofs.take.take_all.Given as goal

abbrev pub invariant-loop-at : goal.invariant-loop-at
invariant-loop-at g l = record {
  within : l.at ≤ l.len;
  kind : g.D.Disk.kind l.disk ≡ g.D.Disk.kind l.fn.disk;
  later : g.D.Disk.faults l.fn.disk ≤ g.D.Disk.faults l.disk;
  stays : IsTrue (g.D.Disk.kind l.fn.disk).tells → Stays g.D.Disk.content g.D.Disk.moment g.D.Disk.images l.fn.disk l.disk;
  fits : l.window.filled ≤ 65536;
  shows : IsTrue (g.D.Disk.kind l.fn.disk).tells → Shows l.window ((g.D.Disk.content l.fn.disk).reading l.slot);
  begins : IsTrue (g.D.Disk.kind l.fn.disk).tells → Begins l.list.items l.at ((g.D.Disk.content l.fn.disk).reading l.slot);
}

abbrev pub decreases-loop-at : goal.decreases-loop-at
decreases-loop-at g l = l.len - l.at
