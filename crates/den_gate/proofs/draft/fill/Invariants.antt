use Rattle.std.proofs.Common.{◌≡◌, ◌≤◌, ◌^◌, IsTrue, length, take}
use Rattle.den_model.specs.Regions.{open_regions}
use Rattle.den_gate.specs.Slot.{Holds}
use Rattle.den_gate.specs.Steps.{RunSpares}
use Rattle.den_gate.proofs.Filling.{FilledWithin}
use Rattle.den_gate.proofs.draft.fill.Given as goal

abbrev pub invariant-loop-payload : goal.invariant-loop-payload
invariant-loop-payload g l = record {
  kind : g.D.Disk.kind l.disk ≡ g.D.Disk.kind l.fn.disk;
  later : g.D.Disk.faults l.fn.disk ≤ g.D.Disk.faults l.disk;
  low : l.end ≤ 2 ^ 62;
  size : l.end ≡ length (open_regions (take l.payload-index l.list));
  holds : IsTrue (g.D.Disk.kind l.fn.disk).tells → Holds (take l.payload-index l.list) l.end ((g.D.Disk.content l.disk).reading l.slot);
  run : IsTrue (g.D.Disk.kind l.fn.disk).tells → RunSpares g.D.Disk.content g.D.Disk.moment g.D.Disk.images l.slot l.fn.disk l.disk;
  room : IsTrue (g.D.Disk.kind l.fn.disk).tells → FilledWithin l.end (g.D.Disk.kind l.fn.disk).limit ((g.D.Disk.content l.disk).reading l.slot);
}
