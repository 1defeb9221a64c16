-- The default configuration, as a run takes it.
use Rattle.std.specs.Prelude.{pos, false, Some, None}
use Rattle.den_codec.specs.Standard.{standard_nodes}
use Rattle.den_model.specs.Kv.{running_at_entry, Setting}
use Rattle.den_server.specs.Promises.{RunConfig}

-- one voter leads alone, with no lease
abbrev pub standard_setting : Setting
standard_setting = record { role = pos 2; hint = None; lease = false; interval = 1000; maximum = 1000; buffer = 64 }

abbrev pub standard_run : RunConfig
standard_run = record { running = running_at_entry standard_setting standard_nodes (Some 1); frame_limit = 16777216; max_log_entries = 1000 }
