-- The laws of a store over one family's files.
use Rattle.std.specs.Prelude.{◌≡◌, ℕ, List, Some, Result}
use Rattle.std.proofs.Common.{◌∙◌, sym, ap, subst}
use Rattle.den_disk.specs.declared.place.Family.{Family}
use Rattle.den_disk.specs.Files.{Files, Content, IsImage}
use Rattle.den_disk.specs.Families.{SameOf, SparesOwn}
use Rattle.den_model.specs.Regions.{Region, placed}
use Rattle.den_model.specs.Image.{ok}
use Rattle.den_gate.specs.declared.gate.GateFile.{GateFile}
use Rattle.den_disk.specs.declared.place.Place.{Place}
use Rattle.den_gate.specs.Slot.{payloads_of}
use Rattle.den_gate.specs.Steps.{IsOpen}
use Rattle.den_gate.specs.Gate.{payloads, IsCurrent}
use Rattle.den_gate.proofs.Families.{rest_spared, current_spared, payloads_spared, rest_image, has_meaning}
use Rattle.den_journal.specs.Meanings.{own_meaning}
use Rattle.den_journal.specs.Shown.{Held, Shown, RestsAs, held_in}

-- Only the family's own files count, and files that lie as its last call left them give its value, where the store tells
-- what they give, whatever a crash does to what is pending.
pub record Lies {S V : Type 0} (family : Family) (holds : Held V) (shown : S → Shown V) : Type 0 where
  pub rests_own : (s : S) (old new : Content) → SparesOwn family old new → (shown s).rests old → (shown s).rests new
  pub holds_own : (one other : Files) → SameOf family one other → holds.of other ≡ holds.of one
  pub rests_hold : holds.told → (s : S) (c : Content) (files : Files) → (shown s).ready → (shown s).rests c → IsImage c files → holds.of files ≡ Some (shown s).value

module _ {V : Type 0} (family : Family) (meaning : List Region → Result V ℕ) (gate : GateFile) (value : V) where
  pub gives_own : (old new : Content) → SparesOwn family old new → RestsAs family meaning gate value old → RestsAs family meaning gate value new
  gives_own old new spares gives =
      let own : SparesOwn gate.slot.family old new = subst (λ (f : Family). SparesOwn f old new) (sym gives.family_is) spares in
      record {
        family_is = gives.family_is;
        at_rest = rest_spared gate old new own gives.at_rest;
        current = current_spared gate.slot old new own gives.current;
        means = ap (λ ps. meaning (placed 0 ps)) (payloads_spared gate old new own) ∙ gives.means;
      }

  pub gives_hold : (c : Content) (files : Files) → RestsAs family meaning gate value c → IsImage c files → (held_in family meaning).of files ≡ Some value
  gives_hold c files gives image =
      ap ok (has_meaning family meaning gate.slot (payloads gate c.reading) files gives.family_is (rest_image gate c files gives.at_rest gives.current image) ∙ gives.means)

-- a gate file that differs in nothing that counts
pub gives_as : {V : Type 0} (family : Family) (meaning : List Region → Result V ℕ) (gate other : GateFile) (value : V) (c : Content) → other.slot ≡ gate.slot → other.end ≡ gate.end
    → RestsAs family meaning gate value c → RestsAs family meaning other value c
gives_as family meaning gate other value c same even gives = record {
  family_is = ap (λ (p : Place). p.family) same ∙ gives.family_is;
  at_rest = subst (λ (p : Place). IsOpen p (payloads_of (c.reading p)) other.end c) (sym same) (subst (λ (n : ℕ). IsOpen gate.slot (payloads_of (c.reading gate.slot)) n c) (sym even) gives.at_rest);
  current = subst (λ (p : Place). IsCurrent p c) (sym same) gives.current;
  means = ap (λ (p : Place). meaning (placed 0 (payloads_of (c.reading p)))) same ∙ gives.means;
}

pub held_own : {V : Type 0} (family : Family) (meaning : List Region → Result V ℕ) (one other : Files) → SameOf family one other → (held_in family meaning).of other ≡ (held_in family meaning).of one
held_own family meaning one other same = ap ok (own_meaning family meaning one other same)
