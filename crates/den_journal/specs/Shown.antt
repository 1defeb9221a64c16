-- What contracts see of a store: a family's files, and the value that a fold over their regions gives.
use Rattle.std.specs.Prelude.{◌≡◌, ◌⊎◌, ℕ, ◌+◌, ◌*◌, max, Bool, false, List, [], ◌∷◌, Option, Some, Result, Ok}
use Rattle.den_disk.specs.declared.place.Family.{Family}
use Rattle.den_disk.specs.Files.{Files, Content}
use Rattle.den_model.specs.Regions.{Region, placed}
use Rattle.den_model.specs.Image.{ok, in_regions}
use Rattle.den_gate.specs.declared.gate.GateFile.{GateFile}
use Rattle.den_gate.specs.Gate.{payloads, IsAtRest, IsCurrent}

-- What is seen of one at a moment: its value; its weight, the bytes that its regions take, or would take when written anew,
-- at most; that its calls may go on; and that its files lie on the disk as its last call left them.
pub record Shown (V : Type 0) : Type 1 where
  pub value : V
  pub weight : ℕ
  pub ready : Type 0
  pub rests : Content → Type 0

-- What a store says of files: whether it tells what they give of its own family, which no call changes, and what they
-- give.
pub record Held (V : Type 0) : Type 1 where
  pub told : Type 0
  pub of : Files → Option V

-- What a call writes: the value that it makes; the sizes of the payloads that it may add to the slot in use, and of those
-- that it may put into the family's other slot; by how much the weight rises at most; and whether memory may be wanting
-- once a part is written.
pub record Effect (V : Type 0) : Type 1 where
  pub to : V
  pub adds : ℕ → Type 0
  pub drafts : ℕ → Type 0
  pub rise : ℕ
  pub lost : Type 0

-- the same store, of whose value a part is seen
abbrev pub seen_as : {V W : Type 0} → (V → W) → Shown V → Shown W
seen_as part s = record { value = part s.value; weight = s.weight; ready = s.ready; rests = s.rests }

-- what is found is one of these values
abbrev pub IsOneOf : {V : Type 0} → List V → Option V → Type 0
IsOneOf [] found = ⊥
IsOneOf (v ∷ []) found = found ≡ Some v
IsOneOf (v ∷ w ∷ vs) found = (found ≡ Some v) ⊎ IsOneOf (w ∷ vs) found

-- a gate file at rest, the one that the family's head names, whose regions give this value
pub record RestsAs {V : Type 0} (family : Family) (meaning : List Region → Result V ℕ) (gate : GateFile) (value : V) (c : Content) : Type 0 where
  pub family_is : gate.slot.family ≡ family
  pub at_rest : IsAtRest gate c
  pub current : IsCurrent gate.slot c
  pub means : meaning (placed 0 (payloads gate c.reading)) ≡ Ok value

-- what the regions of a value of this size take when they are written anew, at most
abbrev pub rewrite_size : ℕ → ℕ
rewrite_size size = 64 + 2 * size

-- what is seen of a gate file with the value that its regions give, by the size of values
abbrev pub shown_of : {V : Type 0} → Family → (List Region → Result V ℕ) → (size : V → ℕ) → Bool → GateFile → V → Shown V
shown_of family meaning size failed gate value = record {
  value = value;
  weight = max gate.end (rewrite_size (size value));
  ready = (failed ≡ false) × (gate.failed ≡ false);
  rests = RestsAs family meaning gate value;
}

-- what files give of a family by the meaning of its regions, which is told
abbrev pub held_in : {V : Type 0} → Family → (List Region → Result V ℕ) → Held V
held_in family meaning = record { told = Unit {0}; of = λ files. ok (in_regions family meaning files) }
