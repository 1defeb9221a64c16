use Rattle.std.proofs.Common.{◌≡◌, ◌≤◌, ◌<◌, ℕ, ◌-◌, length, get_or}
use Rattle.den_disk.proofs.spoil.spoil_range.Given as goal

abbrev pub invariant-loop-k : goal.invariant-loop-k
invariant-loop-k l = record {
  as_long : length l.file.items ≡ length l.fn.file.items;
  same : (k : ℕ) → (l.start ≤ k → k < l.k → ⊥) → get_or l.file.items k 0 ≡ get_or l.fn.file.items k 0;
  dropped : l.choice ≡ 0 → (k : ℕ) → l.start ≤ k → k < l.k → get_or l.file.items k 0 ≡ get_or l.was (k - l.start) 0;
}
