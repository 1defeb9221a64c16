use Rattle.std.proofs.Common.{◌≡◌, ◌+◌, length, drop, IsTrue}
use Rattle.den_disk.specs.Goes.{LinkGoesOn}
use Rattle.den_core.proofs.frame.skip.Given as goal

abbrev pub invariant-loop-rest : goal.invariant-loop-rest
invariant-loop-rest g l =
    let L = g.L.Link in
    record {
      on : LinkGoesOn L.tells L.sent L.budget L.taken L.faults l.fn.link l.link;
      counted : IsTrue (L.tells l.fn.link) → L.taken l.link + length (L.left l.link) ≡ L.taken l.fn.link + length (L.left l.fn.link);
      quiet : IsTrue (L.tells l.fn.link) → L.sent l.link ≡ L.sent l.fn.link;
      rest : IsTrue (L.tells l.fn.link) → drop l.rest (L.left l.link) ≡ drop l.size (L.left l.fn.link);
    }

abbrev pub decreases-loop-rest : goal.decreases-loop-rest
decreases-loop-rest g l = l.rest
