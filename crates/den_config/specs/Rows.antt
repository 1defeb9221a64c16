-- The configuration that a text gives, key by key.
use Rattle.std.specs.Prelude.{ℕ, Bool, true, false, List, [], Option, Some, None, Result, Ok, Err, ok_or, length, nat_le, if◌then◌else◌}
use Rattle.toml.specs.Data.{Data, Members, table, as_bool, as_str}
use Rattle.toml.specs.Parse.{parse_document}
use Rattle.den_model.specs.declared.reply.NodeMeta.{NodeMeta}
use Rattle.den_codec.specs.declared.config.RaftNodeConfig.{RaftNodeConfig}
use Rattle.den_codec.specs.declared.config.ClusterConfig.{ClusterConfig}
use Rattle.den_codec.specs.declared.config.RaftConfig.{RaftConfig}
use Rattle.den_codec.specs.declared.config.LeaseConfig.{LeaseConfig}
use Rattle.den_codec.specs.declared.config.WatchConfig.{WatchConfig}
use Rattle.den_codec.specs.declared.config.BackoffPolicy.{BackoffPolicy}
use Rattle.den_codec.specs.declared.config_place.ConfigPlace.{ConfigPlace}
use Rattle.den_codec.specs.declared.config_place.ConfigPlace.TheVariants.{Text, NodeId, DbRootDir, Timeout, LeaseEnabled, CleanupInterval, CleanupDuration, MaxWatchers, WatcherBuffer, MaxLogEntries, Zombie, MaxFrame}
use Rattle.den_config.specs.Nodes.{cluster_nodes}
use Rattle.den_config.specs.Places.{place}
use Rattle.den_config.specs.Refusals.{and_then}
use Rattle.den_config.specs.Values.{at_least, between, value_or}

-- the values of a configuration, part by part
pub record ClusterValues : Type 0 where
  pub node_id : ℕ
  pub initial_cluster : List NodeMeta
  pub db_root_dir : List ℕ

pub record LeaseValues : Type 0 where
  pub enabled : Bool
  pub cleanup_interval_ms : ℕ
  pub max_cleanup_duration_ms : ℕ

pub record WatchValues : Type 0 where
  pub max_watcher_count : ℕ
  pub watcher_buffer_size : ℕ

pub record RaftValues : Type 0 where
  pub timeout_ms : ℕ
  pub lease : LeaseValues
  pub watch : WatchValues
  pub max_log_entries : ℕ
  pub zombie_threshold : ℕ

pub record RetryValues : Type 0 where
  pub max_retries : ℕ
  pub base_delay_ms : ℕ
  pub max_delay_ms : ℕ

pub record ConfigValues : Type 0 where
  pub cluster : ClusterValues
  pub raft : RaftValues
  pub max_frame_size : ℕ
  pub retry : RetryValues

-- the values that the program's configuration has
abbrev pub cluster_values : ClusterConfig → ClusterValues
cluster_values c = record { node_id = c.node_id; initial_cluster = c.initial_cluster; db_root_dir = c.db_root_dir }

abbrev pub lease_values : LeaseConfig → LeaseValues
lease_values c = record { enabled = c.enabled; cleanup_interval_ms = c.cleanup_interval_ms; max_cleanup_duration_ms = c.max_cleanup_duration_ms }

abbrev pub watch_values : WatchConfig → WatchValues
watch_values c = record { max_watcher_count = c.max_watcher_count; watcher_buffer_size = c.watcher_buffer_size }

abbrev pub raft_values : RaftConfig → RaftValues
raft_values c = record {
  timeout_ms = c.timeout_ms;
  lease = lease_values c.lease;
  watch = watch_values c.watch;
  max_log_entries = c.max_log_entries;
  zombie_threshold = c.zombie_threshold;
}

abbrev pub retry_values : BackoffPolicy → RetryValues
retry_values c = record { max_retries = c.max_retries; base_delay_ms = c.base_delay_ms; max_delay_ms = c.max_delay_ms }

abbrev pub values_of : RaftNodeConfig → ConfigValues
values_of c = record {
  cluster = cluster_values c.cluster;
  raft = raft_values c.raft;
  max_frame_size = c.network.max_frame_size;
  retry = retry_values c.retry;
}

-- what a key gives: the value that its test finds, or the default where the key is missing
unfoldable pub row : {A : Type 0} → ConfigPlace → A → (Data → Option A) → Data → Result A ConfigPlace
row key default test root = ok_or (value_or default test (place key root)) key

-- the node, its cluster, and the folder of its files
unfoldable pub cluster_of : Data → Result ClusterValues ConfigPlace
cluster_of root =
    and_then (row NodeId 1 (between 0 4294967295) root) (λ node_id.
    and_then (cluster_nodes node_id root) (λ nodes.
    and_then (row DbRootDir [] as_str root) (λ folder.
    Ok (record { node_id = node_id; initial_cluster = nodes; db_root_dir = folder }))))

-- the leases
unfoldable pub lease_of : Data → Result LeaseValues ConfigPlace
lease_of root =
    and_then (row LeaseEnabled false as_bool root) (λ enabled.
    and_then (row CleanupInterval 1000 (at_least 1) root) (λ interval.
    and_then (row CleanupDuration 1 (at_least 0) root) (λ duration.
    Ok (record { enabled = enabled; cleanup_interval_ms = interval; max_cleanup_duration_ms = duration }))))

-- the watchers
unfoldable pub watch_of : Data → Result WatchValues ConfigPlace
watch_of root =
    and_then (row MaxWatchers 1000 (between 0 4294967295) root) (λ count.
    and_then (row WatcherBuffer 64 (between 1 4294967295) root) (λ size.
    Ok (record { max_watcher_count = count; watcher_buffer_size = size })))

-- what the log, the leases and the watchers may take
unfoldable pub raft_of : Data → Result RaftValues ConfigPlace
raft_of root =
    and_then (row Timeout 1000 (at_least 0) root) (λ timeout.
    and_then (lease_of root) (λ leases.
    and_then (watch_of root) (λ watchers.
    and_then (row MaxLogEntries 1000 (at_least 1) root) (λ entries.
    and_then (row Zombie 3 (between 0 4294967295) root) (λ threshold.
    Ok (record { timeout_ms = timeout; lease = leases; watch = watchers; max_log_entries = entries; zombie_threshold = threshold }))))))

-- three tries behind the first, with pauses from 100 to 1000 milliseconds, which no key changes
abbrev pub standard_retry : RetryValues
standard_retry = record { max_retries = 3; base_delay_ms = 100; max_delay_ms = 1000 }

-- the configuration that a table gives, or the first key whose test fails
unfoldable pub config_of : Data → Result ConfigValues ConfigPlace
config_of root =
    and_then (cluster_of root) (λ nodes.
    and_then (raft_of root) (λ limits.
    and_then (row MaxFrame 16777216 (between 1 4294967295) root) (λ size.
    Ok (record { cluster = nodes; raft = limits; max_frame_size = size; retry = standard_retry }))))

-- a table that was read
abbrev pub table_of : Option Members → Result Data ConfigPlace
table_of (Some ms) = Ok (table ms)
table_of None = Err Text

-- the table of a text that has at most 2 ^ 20 bytes
unfoldable pub root_of : List ℕ → Result Data ConfigPlace
root_of text = if nat_le (length text) 1048576 then table_of (parse_document text) else Err Text

-- the configuration that a text gives, or the first key whose test fails
unfoldable pub configuration : List ℕ → Result ConfigValues ConfigPlace
configuration text = and_then (root_of text) config_of
