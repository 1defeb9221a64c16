use Rattle.std.proofs.Common.{◌≡◌, ◌<◌, ℕ, List, length, get_or, arith, ◌∙◌, ap, subst}
use Rattle.std.proofs.Math.Logic.{∥∥₁_elim}
use Rattle.std.proofs.Props.{props}
use Rattle.den_disk.specs.declared.memory.Step.{Step}
use Rattle.den_disk.specs.Memory.{file_of}
use Rattle.den_disk.specs.Spoil.{byte_unwritten}
use Rattle.den_disk.specs.Unwritten.{unwritten}
use Rattle.den_disk.proofs.Since.{is_unwritten}
use Rattle.den_disk.proofs.memory.MemDisk.crash.Goals as goal
use Rattle.den_disk.proofs.memory.MemDisk.crash.Goals.{then-choice-ne1, else-choice-ne1}

pub returns-clause-dropped : goal.returns-clause-dropped
returns-clause-dropped c = λ zero q. elim c.if-choice-ne1.branch [
  | then-choice-ne1 w ↦
      let files = c.args.self.now.files in
      let steps = c.args.self.now.steps.items in
      let image = w.spoil.ensures.image q in
      let bytes : (k : ℕ) → k < length (file_of files q) → get_or (file_of w.spoil.new.files q) k 0 ≡ byte_unwritten steps q k (get_or (file_of files q) k 0) =
      subst (λ (s : List Step). (k : ℕ) → k < length (file_of files q) → get_or (file_of w.spoil.new.files q) k 0 ≡ byte_unwritten s q k (get_or (file_of files q) k 0)) w.as_slice.ensures.value (w.spoil.ensures.dropped zero q) in
      let is : file_of w.spoil.new.files q ≡ unwritten steps q (file_of files q) = ∥∥₁_elim c.args.self.now.recorded (Prim.hlevel props) (λ made. is_unwritten steps q (file_of files q) _ (made q) image.as_long bytes) in
      ap (λ s. file_of s.1.1.0 q) w.self-is ∙ is
  | else-choice-ne1 w ↦ absurd (omega (arith, zero, w.if-choice-ne1.false))
]
