-- One file of twelve put whole.
use Rattle.std.proofs.Common.{◌≡◌, ℕ, ◌<◌, List, length, set, Vec, ◌∙◌}
use Rattle.std.specs.declared.alloc.Global.{Global}
use Rattle.den_disk.specs.declared.place.Place.{Place}
use Rattle.den_disk.specs.Place.{place_number}
use Rattle.den_disk.specs.Memory.{file_of}
use Rattle.den_disk.proofs.Places.{change-here, change-elsewhere}
use Rattle.den_disk.proofs.Record.{next_change}

module _ (files : List (Vec ℕ Global)) (place : Place) (n : ℕ) (v : Vec ℕ Global) (has : n < length files) (number : n ≡ place_number place) (bytes : List ℕ) (is : v.items ≡ bytes) where
  pub put_here : file_of (set files n v) place ≡ bytes
  put_here = next_change files place n v has number (λ _. bytes) is place ∙ change-here place (λ _. bytes) (file_of files)

  pub put_elsewhere : (q : Place) → (q ≡ place → ⊥) → file_of (set files n v) q ≡ file_of files q
  put_elsewhere q ne = next_change files place n v has number (λ _. bytes) is q ∙ change-elsewhere place (λ _. bytes) (file_of files) q ne
