-- The keys of a configuration, as a text spells them.
use Rattle.std.specs.Prelude.{ℕ, List, [], ◌∷◌, ◌++◌, codes}
use Rattle.den_codec.specs.declared.config_place.ConfigPlace.{ConfigPlace}
use Rattle.den_codec.specs.declared.config_place.ConfigPlace.TheVariants.{Text, NodeId, InitialCluster, DbRootDir, Timeout, LeaseEnabled, CleanupInterval, CleanupDuration, MaxWatchers, WatcherBuffer, MaxLogEntries, Zombie, MaxFrame}

-- the key of each table on the way from the root, and the key in the last one
abbrev pub path : ConfigPlace → List (List ℕ)
path Text = []
path NodeId = codes "cluster" ∷ codes "node_id" ∷ []
path InitialCluster = codes "cluster" ∷ codes "initial_cluster" ∷ []
path DbRootDir = codes "cluster" ∷ codes "db_root_dir" ∷ []
path Timeout = codes "raft" ∷ codes "general_raft_timeout_duration_in_ms" ∷ []
path LeaseEnabled = codes "raft" ∷ codes "state_machine" ∷ codes "lease" ∷ codes "enabled" ∷ []
path CleanupInterval = codes "raft" ∷ codes "state_machine" ∷ codes "lease" ∷ codes "cleanup_interval_ms" ∷ []
path CleanupDuration = codes "raft" ∷ codes "state_machine" ∷ codes "lease" ∷ codes "max_cleanup_duration_ms" ∷ []
path MaxWatchers = codes "raft" ∷ codes "watch" ∷ codes "max_watcher_count" ∷ []
path WatcherBuffer = codes "raft" ∷ codes "watch" ∷ codes "watcher_buffer_size" ∷ []
path MaxLogEntries = codes "raft" ∷ codes "snapshot" ∷ codes "max_log_entries_before_snapshot" ∷ []
path Zombie = codes "raft" ∷ codes "membership" ∷ codes "zombie" ∷ codes "threshold" ∷ []
path MaxFrame = codes "network" ∷ codes "max_frame_size" ∷ []

-- keys with a dot between each and the next
abbrev pub dotted : List (List ℕ) → List ℕ
dotted [] = []
dotted (part ∷ []) = part
dotted (part ∷ next ∷ parts) = part ++ (codes "." ++ dotted (next ∷ parts))

-- the key as a text spells it, or the word for the text
abbrev pub key : ConfigPlace → List ℕ
key Text = codes "text"
key place = dotted (path place)
