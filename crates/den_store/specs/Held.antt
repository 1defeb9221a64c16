-- A log in memory.
use Rattle.den_model.specs.Log.{Log}
use Rattle.den_store.specs.declared.held_log.HeldLog.{HeldLog}

-- the log that it is
abbrev pub log_of : HeldLog → Log
log_of h = record { boundary = h.boundary; entries = h.entries.items }
