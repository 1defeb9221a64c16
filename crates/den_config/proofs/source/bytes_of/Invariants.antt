use Rattle.std.proofs.Common.{◌≡◌, ◌-◌, ◌++◌, ◌≤◌, vec_len, IsTrue}
use Rattle.den_disk.specs.Goes.{SourceGoesOn}
use Rattle.den_config.proofs.source.bytes_of.Given as goal

abbrev pub invariant-loop-piece : goal.invariant-loop-piece
invariant-loop-piece g l =
    let S = g.S.Source in
    record {
      on : SourceGoesOn S.tells S.faults l.fn.conf l.conf;
      bytes : IsTrue (S.tells l.fn.conf) → S.left l.fn.conf ≡ l.held.items ++ S.left l.conf;
      within : vec_len l.held ≤ 1052672;
    }

abbrev pub decreases-loop-piece : goal.decreases-loop-piece
decreases-loop-piece g l = 1048577 - vec_len l.held
