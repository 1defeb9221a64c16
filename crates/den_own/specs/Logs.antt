-- A log in memory alone.
use Rattle.std.proofs.Common.{ℕ, ◌≤◌}
use Rattle.den_disk.specs.declared.place.Family.TheVariants.{Log as log_family}
use Rattle.den_model.specs.declared.log_id.LogId.{LogId}
use Rattle.den_model.specs.Log.{Log}
use Rattle.den_model.specs.Sizes.{entries_size}
use Rattle.den_journal.specs.Lies.{Lies}
use Rattle.den_journal.specs.Shown.{Shown, rewrite_size}
use Rattle.den_store.specs.Changes.{purge_change}
use Rattle.den_store.specs.Folds.{purge_light}
use Rattle.den_own.specs.declared.log.OwnLog.{OwnLog}
use Rattle.den_own.specs.Memory.{in_memory, memory_lies, nothing_told}

-- its boundary and its entries
abbrev pub log_of : OwnLog → Log
log_of s = record { boundary = s.boundary; entries = s.entries.items }

-- what its entries would take in a file
abbrev pub log_weight : Log → ℕ
log_weight l = rewrite_size (entries_size l.entries)

abbrev pub log_shown : OwnLog → Shown Log
log_shown s = in_memory s.failed log_weight (log_of s)

pub log_lies : Lies log_family nothing_told log_shown
log_lies = memory_lies log_family log_weight (λ (s : OwnLog). s.failed) log_of

-- no payload of a purge would be larger
pub log_light : (s : OwnLog) (cutoff : LogId) (n : ℕ) → (purge_change (log_of s) cutoff).drafts n → n ≤ log_weight (log_of s)
log_light s cutoff n is = purge_light (log_of s) cutoff n is
