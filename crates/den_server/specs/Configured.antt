-- What a run promises whose configuration is read from a source.
use Rattle.std.specs.Prelude.{◌≡◌, ◌⊎◌, pos, Some, None, Result, Ok, Err}
use Rattle.den_codec.specs.declared.config_place.ConfigPlace.{ConfigPlace}
use Rattle.den_codec.specs.declared.error.Error.{Error}
use Rattle.den_codec.specs.declared.error.Error.TheVariants.{OutOfMemory, StorageIoError, DiskFull, LinkFault, DataCorruption, FeatureNotEnabled, ProposeFailed, UnorderedChunk, Config, ConfigFault, StateMachineError}
use Rattle.den_model.specs.Kv.{running_at_entry}
use Rattle.den_config.specs.Rows.{ConfigValues}
use Rattle.den_server.specs.Promises.{RunConfig}

-- what the values of a configuration make of a run: one voter leads alone
abbrev pub run_config_of : ConfigValues → RunConfig
run_config_of v = record {
  running = running_at_entry (record {
    role = pos 2;
    hint = None;
    lease = v.raft.lease.enabled;
    interval = v.raft.lease.cleanup_interval_ms;
    maximum = v.raft.watch.max_watcher_count;
    buffer = v.raft.watch.watcher_buffer_size;
  }) v.cluster.initial_cluster (Some v.cluster.node_id);
  frame_limit = v.max_frame_size;
  max_log_entries = v.raft.max_log_entries;
}

-- the run's configuration that the outcome of a source's bytes gives
abbrev pub run_config_in : Result ConfigValues ConfigPlace → Result RunConfig ConfigPlace
run_config_in (Ok values) = Ok (run_config_of values)
run_config_in (Err key) = Err key

-- Where a source tells its bytes, they give a configuration, and it is of a run with a promise.
pub record HasRun (told : Type 0) (outcome : Result ConfigValues ConfigPlace) (holds : RunConfig → Type 0) : Type 0 where
  -- the run's configuration
  pub config : RunConfig
  -- it is that of the bytes, where the source tells them
  pub given : told → run_config_in outcome ≡ Ok config
  -- of a run under it this holds
  pub held : holds config

-- A refusal of a source, or a run with an error, by the error.
abbrev pub IsRunError : (rose told : Type 0) (outcome : Result ConfigValues ConfigPlace) (untouched ran : Type 0) → Error → Type 0
IsRunError rose told outcome untouched ran ConfigFault = rose × untouched
IsRunError rose told outcome untouched ran (Config key) = (told → outcome ≡ Err key) × untouched
IsRunError rose told outcome untouched ran OutOfMemory = untouched ⊎ ran
IsRunError rose told outcome untouched ran StorageIoError = ran
IsRunError rose told outcome untouched ran (DiskFull needed limit) = ran
IsRunError rose told outcome untouched ran LinkFault = ran
IsRunError rose told outcome untouched ran (DataCorruption place offset) = ran
IsRunError rose told outcome untouched ran FeatureNotEnabled = ran
IsRunError rose told outcome untouched ran ProposeFailed = ran
IsRunError rose told outcome untouched ran (UnorderedChunk index) = ⊥
IsRunError rose told outcome untouched ran StateMachineError = ⊥

-- What a run under a source's configuration came to. At Ok it was a run under the configuration of the bytes. At an error:
-- a fault of the source, where its count rose, or the key that the bytes are refused for, and nothing else was touched; want
-- of memory before anything was touched, or in the run; or the run's own error.
abbrev pub IsRun : (rose told : Type 0) (outcome : Result ConfigValues ConfigPlace) (untouched : Type 0) (ran : RunConfig → Result (Unit {0}) Error → Type 0) → Result (Unit {0}) Error → Type 0
IsRun rose told outcome untouched ran (Ok done) = HasRun told outcome (λ config. ran config (Ok done))
IsRun rose told outcome untouched ran (Err e) = IsRunError rose told outcome untouched (HasRun told outcome (λ config. ran config (Err e))) e
