use Rattle.std.proofs.Common.{◌≡◌, ◌+◌, ◌-◌, ◌^◌, ◌≤◌, ◌++◌, min, length, map, option_copied}
use Rattle.den_map.specs.Pages.{stored}
use Rattle.den_map.specs.Sizes.{stored_size}
use Rattle.den_table.specs.Keyed.{keyed, behind}
use Rattle.den_map.proofs.map.Map.page.Given as goal

-- the page so far and the pairs of the rest are those behind the key; the page's size, which is within the limit where it
-- has two pairs
abbrev pub invariant-loop-key : goal.invariant-loop-key
invariant-loop-key l = record {
  pairs : l.pairs.items ++ map (stored l.self.expiries) (keyed l.key-iterator) ≡ map (stored l.self.expiries) (behind (option_copied l.behind) l.self.pairs);
  size : l.size ≡ min (9 + stored_size l.pairs.items) (2 ^ 64 - 1);
  small : 2 ≤ length l.pairs.items → l.size ≤ 65536;
}
