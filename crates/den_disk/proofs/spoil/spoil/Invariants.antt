use Rattle.std.proofs.Common.{◌≡◌, ◌≤◌, ◌<◌, ℕ, [], drop, length, get_or}
use Rattle.den_disk.specs.declared.place.Place.{Place}
use Rattle.den_disk.specs.Files.{IsImageAt}
use Rattle.den_disk.specs.Memory.{file_of, pend_all}
use Rattle.den_disk.specs.Spoil.{byte_unwritten}
use Rattle.den_disk.proofs.Dropped.{Caps}
use Rattle.den_disk.proofs.Spoilt.{Lasts}
use Rattle.den_disk.proofs.spoil.spoil.Given as goal

abbrev pub invariant-loop-left : goal.invariant-loop-left
invariant-loop-left l = record {
  within : l.left ≤ length l.steps;
  twelve : length l.caps ≡ 12;
  spoilt : (q : Place) → IsImageAt (pend_all [] l.steps) q (file_of l.fn.files q) (file_of l.files q);
  lasts : Lasts l.caps (drop l.left l.steps);
  caps : Caps l.caps (drop l.left l.steps);
  dropped : l.choice ≡ 0 → (q : Place) (k : ℕ) → k < length (file_of l.fn.files q) → get_or (file_of l.files q) k 0 ≡ byte_unwritten (drop l.left l.steps) q k (get_or (file_of l.fn.files q) k 0);
}

abbrev pub decreases-loop-left : goal.decreases-loop-left
decreases-loop-left l = l.left
