-- What waits for an engine's watchers behind a turn.
use Rattle.std.specs.Prelude.{◌≡◌, ◌≤◌, ℕ, ◌++◌, drop, length, map, Some}
use Rattle.den_model.specs.declared.request.Frame.{Frame}
use Rattle.den_model.specs.Kv.{Kv, Running}
use Rattle.den_model.specs.Plan.{after, due_cleanup, turn}
use Rattle.den_model.specs.Step.{Outcome, answer, raised}
use Rattle.den_watch.specs.Registry.{Registry, kept, newcomer, watchers}
use Rattle.den_core.specs.declared.watching.Turned.{Turned}

-- what a frame comes to behind the cleanup that is due
abbrev pub asked_of : Kv → Frame → ℕ → Outcome
asked_of kv frame time = answer (after kv (due_cleanup kv time)) time frame

-- a registry in which those are registered too whom the run's part has more: nothing waits for them
abbrev pub grown : Registry → Running → Registry
grown r running = record r { waiting = r.waiting ++ map newcomer (drop (length r.waiting) running.watchers); registered = running.registered }

-- the registry behind a step: who registered in it waits with nothing, and each watcher is given the step's events that
-- name it
abbrev pub registry_behind : Registry → Outcome → Registry
registry_behind r o = kept o.events (grown r o.after.running)

-- What a turn comes to: the step's reply and events; a change that raises them; and who registered in it.
pub record IsTurned (o : Outcome) (old new : Registry) (turned : Turned) : Type 0 where
  pub reply : o.reply ≡ Some turned.out.reply
  pub events : o.events ≡ turned.out.events
  pub raised_by : raised (watchers new) turned.change ≡ o.events
  pub registered : new ≡ grown old o.after.running

-- the steps of a turn were made, and they raised events
pub record HasRaised (kv : Kv) (frame : Frame) (time : ℕ) (now : Kv) : Type 0 where
  pub some : 1 ≤ length (asked_of kv frame time).events
  pub made : now ≡ after kv (turn kv frame time)
