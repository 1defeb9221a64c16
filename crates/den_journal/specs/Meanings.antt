-- What files give of one family, by that family's files alone.
use Rattle.std.specs.Prelude.{◌≡◌, ℕ, refl, List, Result}
use Rattle.std.proofs.Common.{◌∙◌, ap}
use Rattle.den_disk.specs.declared.place.Family.{Family}
use Rattle.den_disk.specs.declared.place.Place.{Place}
use Rattle.den_disk.specs.Files.{Files}
use Rattle.den_disk.specs.Families.{SameOf}
use Rattle.den_model.specs.Regions.{Region, regions}
use Rattle.den_model.specs.Image.{named, head_of, slot_of, meaning_of, in_regions}

-- files that are the same of a family give the same of it
pub own_meaning : {A : Type 0} (family : Family) (meaning : List Region → Result A ℕ) (one other : Files) → SameOf family one other → in_regions family meaning other ≡ in_regions family meaning one
own_meaning family meaning one other same =
    let head : named (other (head_of family)) ≡ named (one (head_of family)) = ap named (same (head_of family) refl) in
    let slot : slot_of family other ≡ slot_of family one = λ i. record { family = family; part = head i } in
    ap (λ (l : List ℕ). meaning_of meaning (regions l)) (ap (λ (p : Place). other p) slot ∙ same (slot_of family one) refl)
