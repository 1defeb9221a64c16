-- What contracts see of a journal.
use Rattle.std.specs.Prelude.{◌≡◌, ℕ, List, Result, length}
use Rattle.den_disk.specs.Files.{Files}
use Rattle.den_model.specs.Image.{in_regions}
use Rattle.den_journal.specs.declared.folded.Folded.{Ghosts}
use Rattle.den_journal.specs.declared.journal.Journal.{Journal}
use Rattle.den_journal.specs.Shown.{Effect, Held, Shown, shown_of, held_in}

module _ {F R : Type 0} (fold : Ghosts F R) where
  -- its value, and what else is seen of it
  abbrev pub journal_shown : Journal F → Shown fold.Value
  journal_shown j = shown_of fold.FAMILY (fold.from fold.empty) fold.size j.failed j.gate (fold.value j.held)

  -- what files give, or the place at which they do not
  abbrev pub journal_in : Files → Result fold.Value ℕ
  journal_in files = in_regions fold.FAMILY (fold.from fold.empty) files

  abbrev pub journal_held : Held fold.Value
  journal_held = held_in fold.FAMILY (fold.from fold.empty)

  -- what a region of this word changes of a value
  abbrev pub region_change : fold.Value → R → List ℕ → Effect fold.Value
  region_change v r word = record { to = fold.changed v r; adds = λ n. n ≡ length word; drafts = λ n. ⊥; rise = fold.rise r; lost = fold.lost r }
