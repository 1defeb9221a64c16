-- What contracts see of a core, and what a run begins with under it.
use Rattle.std.specs.Prelude.{◌≡◌, ℕ, ℤ, pos, Bool, Option, Some, None, option_map}
use Rattle.den_codec.specs.declared.config.RaftNodeConfig.{RaftNodeConfig}
use Rattle.den_model.specs.declared.reply.LeaderHint.{LeaderHint}
use Rattle.den_model.specs.declared.reply.LeaderInfo.{LeaderInfo}
use Rattle.den_model.specs.declared.reply.NodeMeta.{NodeMeta}
use Rattle.den_model.specs.Kv.{running_at_entry, Running, Setting}

-- The node's id, its role, where it sends callers that it does not serve, and the node that it takes for the leader, with
-- the leader's term as far as it knows it.
pub record CoreView : Type 0 where
  pub id : ℕ
  pub role : ℤ
  pub hint : Option LeaderHint
  pub leader : Option LeaderInfo

-- the leader's id
abbrev pub leader_id : CoreView → Option ℕ
leader_id c = option_map (λ (l : LeaderInfo). l.leader_id) c.leader

-- the same, but for the leader's term
pub record KeepsPlace (old new : CoreView) : Type 0 where
  pub same_id : new.id ≡ old.id
  pub same_role : new.role ≡ old.role
  pub same_hint : new.hint ≡ old.hint
  pub same_leader : leader_id new ≡ leader_id old

-- a core that leads alone, in this term
abbrev pub solo_view : (id term : ℕ) → CoreView
solo_view id term = record { id = id; role = pos 2; hint = None; leader = Some (record { leader_id = id; term = term }) }

-- a core that follows this leader, whose term it does not know
abbrev pub follower_view : NodeMeta → Option NodeMeta → CoreView
follower_view node leader = record {
  id = node.id;
  role = pos 0;
  hint = option_map (λ (n : NodeMeta). record { leader_id = n.id; address = n.address }) leader;
  leader = option_map (λ (n : NodeMeta). record { leader_id = n.id; term = 0 }) leader;
}

-- the setting of a run under a core, with leases or without
abbrev pub setting_of : RaftNodeConfig → CoreView → Bool → Setting
setting_of c core leased = record {
  role = core.role;
  hint = core.hint;
  lease = leased;
  interval = c.raft.lease.cleanup_interval_ms;
  maximum = c.raft.watch.max_watcher_count;
  buffer = c.raft.watch.watcher_buffer_size;
}

-- the run's part as a run begins
abbrev pub running_under : RaftNodeConfig → CoreView → Bool → Running
running_under c core leased = running_at_entry (setting_of c core leased) c.cluster.initial_cluster (leader_id core)
