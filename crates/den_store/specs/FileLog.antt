-- A log store over a journal.
use Rattle.std.proofs.Common.{ℕ, ◌≤◌, arith}
use Rattle.den_disk.specs.declared.place.Family.TheVariants.{Log as log_family}
use Rattle.den_disk.specs.Place.{place_number}
use Rattle.den_model.specs.declared.log_id.LogId.{LogId}
use Rattle.den_model.specs.Log.{Log, empty_log, log_from}
use Rattle.den_model.specs.Sizes.{entries_size}
use Rattle.den_journal.specs.Lies.{Lies, gives_own, gives_hold, held_own}
use Rattle.den_journal.specs.Shown.{Held, Shown, shown_of, held_in}
use Rattle.den_store.specs.declared.log_store.FileLogStore.{FileLogStore}
use Rattle.den_store.specs.Changes.{purge_change}
use Rattle.den_store.specs.Folds.{purge_light}
use Rattle.den_store.specs.Held.{log_of}

-- its log, and what else is seen of it
abbrev pub log_shown : FileLogStore → Shown Log
log_shown s = shown_of log_family (log_from empty_log) (λ l. entries_size l.entries) s.journal.failed s.journal.gate (log_of s.journal.held)

-- the number of the slot that it uses
abbrev pub file_place : FileLogStore → ℕ
file_place s = place_number (record { family = log_family; part = s.journal.gate.slot.part })

-- what files give of a log, which is told
abbrev pub log_held : Held Log
log_held = held_in log_family (log_from empty_log)

pub log_lies : Lies log_family log_held log_shown
log_lies = record {
  rests_own = λ s. gives_own log_family (log_from empty_log) s.journal.gate (log_of s.journal.held);
  holds_own = held_own log_family (log_from empty_log);
  rests_hold = λ told s c files ready. gives_hold log_family (log_from empty_log) s.journal.gate (log_of s.journal.held) c files;
}

pub log_light : (s : FileLogStore) (cutoff : LogId) (n : ℕ) → (purge_change (log_shown s).value cutoff).drafts n → n ≤ (log_shown s).weight
log_light s cutoff n is = omega (arith, purge_light (log_of s.journal.held) cutoff n is)
