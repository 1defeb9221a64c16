-- A store of the hard state over a journal.
use Rattle.std.specs.Prelude.{Option, None}
use Rattle.den_disk.specs.declared.place.Family.TheVariants.{Meta as meta_family}
use Rattle.den_model.specs.declared.log_id.HardState.{HardState}
use Rattle.den_model.specs.Image.{hard_state_from}
use Rattle.den_journal.specs.Lies.{Lies, gives_own, gives_hold, held_own}
use Rattle.den_journal.specs.Shown.{Held, Shown, shown_of, held_in}
use Rattle.den_store.specs.declared.meta_store.FileMetaStore.{FileMetaStore}

-- its last hard state, and what else is seen of it
abbrev pub meta_shown : FileMetaStore → Shown (Option HardState)
meta_shown s = shown_of meta_family (hard_state_from None) (λ h. 0) s.journal.failed s.journal.gate s.journal.held.last

-- what files give of hard states, which is told
abbrev pub state_held : Held (Option HardState)
state_held = held_in meta_family (hard_state_from None)

pub meta_lies : Lies meta_family state_held meta_shown
meta_lies = record {
  rests_own = λ s. gives_own meta_family (hard_state_from None) s.journal.gate s.journal.held.last;
  holds_own = held_own meta_family (hard_state_from None);
  rests_hold = λ told s c files ready. gives_hold meta_family (hard_state_from None) s.journal.gate s.journal.held.last c files;
}
