-- What is found in a log, and what a change of it is handed.
use Rattle.std.specs.Prelude.{ℕ, Option, Some, None, List, [], ◌∷◌, nat_eq}
use Rattle.std.specs.List.{find}
use Rattle.den_model.specs.declared.region.LogRegion.{LogRegion}
use Rattle.den_model.specs.declared.region.LogRegion.TheVariants.{Append, Truncate, Purge, Replace, Reset}
use Rattle.den_model.specs.Entries.{LogEntry}

-- the entry of an index
abbrev pub entry_of : ℕ → List LogEntry → Option LogEntry
entry_of index entries = find (λ (e : LogEntry). nat_eq e.index index) entries

-- the entries that a region adds
abbrev pub entries_of : LogRegion → List LogEntry
entries_of (Append entries) = entries
entries_of (Truncate from) = []
entries_of (Purge index term) = []
entries_of (Replace r) = r.entries
entries_of Reset = []

-- the region that adds these entries, if there are any
abbrev pub rest_region : List LogEntry → Option LogRegion
rest_region [] = None
rest_region (e ∷ es) = Some (Append (e ∷ es))
