use Rattle.std.proofs.Common.{◌≡◌, ◌<◌, length, take, IsTrue}
use Rattle.den_disk.specs.Goes.{LinkGoesOn}
use Rattle.den_core.specs.Answers.{frames_of, SendsFirst}
use Rattle.den_core.proofs.server.send_all.Given as goal

abbrev pub invariant-loop-event : goal.invariant-loop-event
invariant-loop-event g l =
    let L = g.L.Link in
    record {
      on : LinkGoesOn L.tells L.sent L.budget L.taken L.faults l.fn.link l.link;
      taken : L.taken l.link ≡ L.taken l.fn.link;
      left : IsTrue (L.tells l.fn.link) → L.left l.link ≡ L.left l.fn.link;
      some : 0 < length l.buffer.items;
      sent : IsTrue (L.tells l.fn.link) → SendsFirst (frames_of l.out.reply (take l.event-index l.out.events)) l.buffer.items (L.sent l.fn.link) (L.sent l.link) (g.D.Disk.moment l.disk);
    }
