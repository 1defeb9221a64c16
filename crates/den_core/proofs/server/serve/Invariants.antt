use Rattle.std.proofs.Common.{◌≡◌, ◌+◌, ◌-◌, ◌≤◌, length, IsTrue}
use Rattle.den_disk.specs.declared.place.Family.TheVariants.{Snapshot as snapshot_family}
use Rattle.den_disk.specs.Goes.{DiskGoesOn, LinkGoesOn, ClockGoesOn, added}
use Rattle.den_model.specs.Crash.{Tells}
use Rattle.den_model.specs.Frames.{frames}
use Rattle.den_core.specs.Making.{LogIsShort}
use Rattle.den_core.specs.Spared.{SparesFamily}
use Rattle.den_core.specs.Weights.{served_weight}
use Rattle.den_core.proofs.FramesSoFar.{SoFar}
use Rattle.den_core.proofs.Fronts.{AnsweredSoFar}
use Rattle.den_core.proofs.server.serve.Given as goal

abbrev pub invariant-frames : goal.invariant-frames
invariant-frames g l =
    let D = g.D.Disk in
    let L = g.L.Link in
    let C = g.C.Clock in
    let S = g.S.Stepper in
    record {
      limit : l.reader.limit ≡ l.limit;
      disk : DiskGoesOn D.kind D.moment D.images D.faults l.fn.disk l.disk;
      snapshot : IsTrue (D.kind l.fn.disk).tells → SparesFamily snapshot_family D.content D.moment D.images l.fn.disk l.disk;
      link : LinkGoesOn L.tells L.sent L.budget L.taken L.faults l.fn.link l.link;
      clock : ClockGoesOn C.tells C.readings l.fn.clock l.clock;
      counted : IsTrue (L.tells l.fn.link) → L.taken l.link + length (L.left l.link) ≡ L.taken l.fn.link + length (L.left l.fn.link);
      weight : (S.seen l.stepper).weight ≤ served_weight (S.seen l.fn.stepper).weight (L.taken l.link - L.taken l.fn.link);
      most : (S.seen l.stepper).most ≡ (S.seen l.fn.stepper).most;
      short : LogIsShort (S.seen l.fn.stepper) → LogIsShort (S.seen l.stepper);
      state_short : (S.seen l.fn.stepper).short → (S.seen l.stepper).short;
      ready : (S.seen l.stepper).ready;
      rests : IsTrue (D.kind l.fn.disk).tells → (S.seen l.stepper).rests (D.content l.disk);
      so_far : Tells (D.kind l.fn.disk).tells (L.tells l.fn.link) (C.tells l.clock)
          → SoFar S.says.told S.says.holds (D.images l.disk) (D.moment l.fn.disk) (D.moment l.disk)
          (frames l.limit (L.left l.fn.link)) (frames l.limit (L.left l.link))
          (added (C.readings l.fn.clock) (C.readings l.clock)) (added (L.sent l.fn.link) (L.sent l.link)) (S.seen l.fn.stepper).kv (S.seen l.stepper).kv (S.seen l.fn.stepper).log (S.seen l.stepper).log;
      answered : IsTrue (L.tells l.fn.link) → IsTrue (C.tells l.clock)
          → AnsweredSoFar (frames l.limit (L.left l.fn.link)) (frames l.limit (L.left l.link))
          (added (C.readings l.fn.clock) (C.readings l.clock)) (added (L.sent l.fn.link) (L.sent l.link)) (S.seen l.fn.stepper).kv (S.seen l.stepper).kv;
    }

abbrev pub decreases-frames : goal.decreases-frames
decreases-frames g l = g.L.Link.budget l.link - g.L.Link.taken l.link
