-- What a commit begins with, of a family's head and its two slots.
use Rattle.std.specs.Prelude.{◌≡◌, ℕ, List, Ok}
use Rattle.den_disk.specs.declared.place.Part.{Part}
use Rattle.den_disk.specs.declared.place.Part.TheVariants.{Head, A, B}
use Rattle.den_disk.specs.declared.place.Place.{Place}
use Rattle.den_disk.specs.Files.{Content}
use Rattle.den_model.specs.Regions.{regions, placed}
use Rattle.den_gate.specs.Steps.{IsSettled}
use Rattle.den_gate.specs.Gate.{IsCurrent}
use Rattle.den_gate.specs.Draft.{other_slot}

-- the byte of a head that names the other slot
abbrev pub other_byte : Part → ℕ
other_byte Head = 0
other_byte A = 1
other_byte B = 0

-- a list in a slot that the head names, all of it on the disk, and another list in the other slot
pub record Drafted (slot : Place) (list now : List (List ℕ)) (content : Content) : Type 0 where
  pub list_is : regions (content.reading slot) ≡ Ok (placed 0 list)
  pub settled : IsSettled slot content
  pub current : IsCurrent slot content
  pub now_is : regions (content.reading (other_slot slot)) ≡ Ok (placed 0 now)
