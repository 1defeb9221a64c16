use Rattle.std.proofs.Common.{◌≡◌, ◌+◌, ◌-◌, ◌≤◌, length, take, IsTrue}
use Rattle.den_disk.specs.Goes.{LinkGoesOn}
use Rattle.den_core.specs.Input.{Took}
use Rattle.den_core.proofs.frame.fill.Given as goal

abbrev pub invariant-loop-n : goal.invariant-loop-n
invariant-loop-n g l =
    let L = g.L.Link in
    record {
      on : LinkGoesOn L.tells L.sent L.budget L.taken L.faults l.fn.link l.link;
      counted : IsTrue (L.tells l.fn.link) → L.taken l.link + length (L.left l.link) ≡ L.taken l.fn.link + length (L.left l.fn.link);
      took : Took L.tells L.left L.sent L.budget L.taken l.n l.fn.link l.link;
      bytes : IsTrue (L.tells l.fn.link) → take l.n l.buf ≡ take l.n (L.left l.fn.link);
      size : l.n ≤ length l.buf;
    }

abbrev pub decreases-loop-n : goal.decreases-loop-n
decreases-loop-n g l = length l.buf - l.n
