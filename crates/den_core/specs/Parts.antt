-- What an engine's three stores hold together, and when they are as an engine wants them.
use Rattle.std.specs.Prelude.{◌≡◌, ◌≤◌, ◌⊎◌, ◌+◌, ℕ, ℤ, Bool, true, [], Option, Some}
use Rattle.den_model.specs.declared.log_id.HardState.{HardState}
use Rattle.den_model.specs.Kv.{Durable, Kv, Running}
use Rattle.den_watch.specs.Registry.{watchers}
use Rattle.den_core.specs.declared.run.Run.{Run}
use Rattle.den_model.specs.Log.{Log, floor, above}
use Rattle.den_model.specs.MapState.{MapState, part_of}
use Rattle.den_model.specs.Image.{term_of}
use Rattle.den_state.specs.Machine.{Settings}

-- the durable part where the map has each entry of the log
abbrev pub durable_of : Option HardState → MapState → Durable
durable_of h s = part_of s (term_of h)

-- the run's part as the definitions see it: what waits for the watchers is not in it
abbrev pub running_seen : Run → Running
running_seen r = record {
  watchers = watchers r.registry;
  registered = r.registry.registered;
  cleaned = r.cleaned;
  members = r.members;
  setting = record { role = r.role; hint = r.hint; lease = r.lease; interval = r.interval; maximum = r.registry.maximum; buffer = r.registry.buffer };
}

abbrev pub kv_of : Option HardState → MapState → Run → Kv
kv_of h s run = record { durable = durable_of h s; running = running_seen run }

-- the hard state of a new term, in which this node votes for itself
abbrev pub raised_by : (id : ℕ) → Option HardState → HardState
raised_by id h = record { current_term = term_of h + 1; voted_for = Some (record { id = id; term = term_of h + 1 }) }

-- the map has each entry of the log, and none above its mark was purged
pub record IsCaughtUp (l : Log) (s : MapState) : Type 0 where
  pub purged : floor l ≤ s.mark.index
  pub applied : above s.mark.index l.entries ≡ []

-- The run's part goes with its core and its map: its role is the core's, and a lease is configured where the map has one.
pub record GoesWith (role : ℤ) (leased : Bool) (run : Run) : Type 0 where
  pub role_is : run.role ≡ role
  pub lease_is : run.lease ≡ leased

-- None of the three stores has failed, and they go together, with the core and the run's part; and the state machine runs.
pub record IsReady (log_ready meta_ready state_ready : Type 0) (l : Log) (s : MapState) (role : ℤ) (settings : Settings) (run : Run) : Type 0 where
  pub log : log_ready
  pub meta : meta_ready
  pub state : state_ready
  pub caught_up : IsCaughtUp l s
  pub goes_with : GoesWith role settings.leased run
  pub runs : settings.running ≡ true

-- one of the three stores has failed, or a step ended between its writes
abbrev pub HasFailed : Bool → (log_ready meta_ready state_ready : Type 0) → Type 0
HasFailed failed log_ready meta_ready state_ready = (failed ≡ true) ⊎ (log_ready → ⊥) ⊎ (meta_ready → ⊥) ⊎ (state_ready → ⊥)

-- each of the three has its files as its last call left them
pub record AllRest (log_rests meta_rests state_rests : Type 0) : Type 0 where
  pub log : log_rests
  pub meta : meta_rests
  pub state : state_rests
