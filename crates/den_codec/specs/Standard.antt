-- The default configuration, and what a run begins with under a configuration.
use Rattle.std.specs.Prelude.{◌≡◌, ℕ, pos, false, List, [], ◌∷◌, Some, None, codes}
use Rattle.den_model.specs.declared.reply.NodeMeta.{NodeMeta}
use Rattle.den_model.specs.Kv.{Durable, Kv, running_at_entry, Running, Setting}
use Rattle.den_codec.specs.declared.config.RaftNodeConfig.{RaftNodeConfig}

-- node 1 alone, at its default address
abbrev pub standard_nodes : List NodeMeta
standard_nodes = record { id = 1; address = codes "127.0.0.1:9081"; role = pos 0; status = pos 2 } ∷ []

-- the default value of each key
pub record IsStandard (c : RaftNodeConfig) : Type 0 where
  pub node_id : c.cluster.node_id ≡ 1
  pub nodes : c.cluster.initial_cluster ≡ standard_nodes
  pub folder : c.cluster.db_root_dir ≡ []
  pub timeout : c.raft.timeout_ms ≡ 1000
  pub lease : c.raft.lease.enabled ≡ false
  pub interval : c.raft.lease.cleanup_interval_ms ≡ 1000
  pub duration : c.raft.lease.max_cleanup_duration_ms ≡ 1
  pub watchers : c.raft.watch.max_watcher_count ≡ 1000
  pub buffer : c.raft.watch.watcher_buffer_size ≡ 64
  pub entries : c.raft.max_log_entries ≡ 1000
  pub zombie : c.raft.zombie_threshold ≡ 3
  pub frame : c.network.max_frame_size ≡ 16777216
  pub retries : c.retry.max_retries ≡ 3
  pub base : c.retry.base_delay_ms ≡ 100
  pub greatest : c.retry.max_delay_ms ≡ 1000

-- the setting of a core that leads alone
abbrev pub solo_setting : RaftNodeConfig → Setting
solo_setting c = record {
  role = pos 2;
  hint = None;
  lease = c.raft.lease.enabled;
  interval = c.raft.lease.cleanup_interval_ms;
  maximum = c.raft.watch.max_watcher_count;
  buffer = c.raft.watch.watcher_buffer_size;
}

-- the run's part as a run begins
abbrev pub running_of : RaftNodeConfig → Running
running_of c = running_at_entry (solo_setting c) c.cluster.initial_cluster (Some c.cluster.node_id)

-- what a run begins with, where the files stand for this durable part
abbrev pub entered : RaftNodeConfig → Durable → Kv
entered c kept = record { durable = kept; running = running_of c }
