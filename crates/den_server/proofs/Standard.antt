-- The default configuration, as a run takes it.
use Rattle.std.proofs.Common.{◌≡◌, pos, Some, None, subst}
use Rattle.den_codec.specs.Standard.{IsStandard}
use Rattle.den_codec.specs.declared.config.RaftNodeConfig.{RaftNodeConfig}
use Rattle.den_model.specs.Kv.{running_at_entry}
use Rattle.den_server.specs.Default.{standard_run}
use Rattle.den_server.specs.Promises.{RunConfig, run_config}

is_standard_run : (node : RaftNodeConfig) → IsStandard node → run_config node ≡ standard_run
is_standard_run node is = λ i. record {
  running = running_at_entry (record { role = pos 2; hint = None; lease = is.lease i; interval = is.interval i; maximum = is.watchers i; buffer = is.buffer i }) (is.nodes i) (Some (is.node_id i));
  frame_limit = is.frame i;
  max_log_entries = is.entries i;
}

-- what is said of a run under it
pub under_standard : (P : RunConfig → Type 0) (node : RaftNodeConfig) → IsStandard node → P (run_config node) → P standard_run
under_standard P node is p = subst P (is_standard_run node is) p
