-- One step of the system: what it becomes, what it replies, which events it raises, and which entries it logs.
use Rattle.std.specs.Prelude.{ℕ, ◌+◌, ◌-◌, ◌^◌, ◌==◌, ◌&&◌, ◌||◌, not, ℤ, pos, negsuc, Bool, true, false, List, [], ◌∷◌, ◌++◌, length, take, max, map, Option, Some, None, nat_le, nat_eq, if◌then◌else◌, unwrap_or, is_some, filter, filter_map, option_map}
use Rattle.std.specs.Cmp.Lexicographic.{pointwise}
use Rattle.std.specs.List.{starts_with, ends_with}
use Rattle.den_model.specs.declared.command.Command.{Command}
use Rattle.den_model.specs.declared.command.Command.TheVariants as command
use Rattle.den_model.specs.declared.command.WriteOperation.{WriteOperation}
use Rattle.den_model.specs.declared.command.WriteOperation.TheVariants as operation
use Rattle.den_model.specs.declared.request.Request.{Request}
use Rattle.den_model.specs.declared.request.Request.TheVariants as request
use Rattle.den_model.specs.declared.request.ReadConsistencyPolicy.{ReadConsistencyPolicy}
use Rattle.den_model.specs.declared.request.ReadConsistencyPolicy.TheVariants.{LinearizableRead, LeaseRead, EventualConsistency}
use Rattle.den_model.specs.declared.request.Frame.{Frame}
use Rattle.den_model.specs.declared.request.Frame.TheVariants.{Good, Bad}
use Rattle.den_model.specs.declared.reply.Reply.{Reply}
use Rattle.den_model.specs.declared.reply.Reply.TheVariants as reply
use Rattle.den_model.specs.declared.reply.ErrorCode.{ErrorCode}
use Rattle.den_model.specs.declared.reply.ErrorCode.TheVariants as code
use Rattle.den_model.specs.declared.reply.Refusal.TheVariants as refusal
use Rattle.den_model.specs.declared.reply.LeaderHint.{LeaderHint}
use Rattle.den_model.specs.declared.reply.NodeMeta.{NodeMeta}
use Rattle.den_model.specs.declared.reply.ClientResponsePayload.{ClientResponsePayload}
use Rattle.den_model.specs.declared.reply.ClientResponsePayload.TheVariants as payload
use Rattle.den_model.specs.declared.reply.KvEntry.{KvEntry}
use Rattle.den_model.specs.declared.reply.WatchEvent.{WatchEvent}
use Rattle.den_model.specs.declared.reply.WatchEventType.TheVariants as event
use Rattle.den_model.specs.Entries.{LogEntry}
use Rattle.den_model.specs.Table.{Table}
use Rattle.den_model.specs.declared.held.Held.{Held}
use Rattle.den_model.specs.declared.watcher.Change.{Change}
use Rattle.den_model.specs.declared.watcher.Watcher.{Watcher}
use Rattle.den_model.specs.Kv.{Durable, Kv, Running}
use Rattle.den_model.specs.Apply.{value_at, succeeds, applied, cleaned}

pub data Step : Type 0 where
  Raise : Step
  Noop : (moment : ℕ) → Step
  Cleanup : (moment : ℕ) → Step
  Ask : (frame : Frame) (moment : ℕ) → Step

-- what a step leaves, replies and raises, and the entries that it logs
pub record Outcome : Type 0 where
  pub after : Kv
  pub reply : Option Reply
  pub events : List WatchEvent
  pub logged : List LogEntry

-- the clock may read 0, and no moment is 0
abbrev pub moment_of : ℕ → ℕ
moment_of reading = max reading 1

-- ---- answers

abbrev pub failed : ErrorCode → Option LeaderHint → Reply
failed error hint = reply.Response (record { error = error; leader_hint = hint; retry_after_ms = None; result = None })

abbrev pub answered : ClientResponsePayload → Reply
answered result = reply.Response (record { error = code.Success; leader_hint = None; retry_after_ms = None; result = Some result })

-- nothing changes
abbrev pub says : Kv → Reply → Outcome
says s r = record { after = s; reply = Some r; events = []; logged = [] }

abbrev pub invalid : Kv → Outcome
invalid s = says s (failed code.InvalidRequest None)

-- the number of the role that leads
abbrev pub is_leader : ℤ → Bool
is_leader (pos n) = n == 2
is_leader (negsuc n) = false

abbrev pub leads : Kv → Bool
leads s = is_leader s.running.setting.role

-- what a follower, a candidate or a learner says
abbrev pub not_leader : Kv → Outcome
not_leader s = says s (failed code.NotLeader s.running.setting.hint)

-- ---- entries and events

abbrev pub begins_with : List ℕ → List ℕ → Bool
begins_with key prefix = pointwise nat_eq prefix (take (length prefix) key)

-- whether the watcher sees the key
abbrev pub sees : Watcher → List ℕ → Bool
sees w key = if w.prefix then begins_with key w.key else pointwise nat_eq key w.key

-- what the entry of this index and command does to a key where it succeeds
abbrev pub change_made : Durable → ℕ → Command → Option Change
change_made d index command.Noop = None
change_made d index (command.Insert key value ttl_secs) = Some (record { index = index; kind = event.Put; key = key; value = value; prev = value_at d key })
change_made d index (command.Delete key) = Some (record { index = index; kind = event.Delete; key = key; value = []; prev = value_at d key })
change_made d index (command.CompareAndSwap key expected value) = Some (record { index = index; kind = event.Put; key = key; value = value; prev = value_at d key })

-- the change that it makes; none where it makes none
abbrev pub change_of : Durable → ℕ → Command → Option Change
change_of d index c = if succeeds d c then change_made d index c else None

-- what a watcher is told of a change: the earlier value only where it asked for that
abbrev pub event_of : Change → Watcher → WatchEvent
event_of c w = record {
  watcher = w.number;
  revision = c.index;
  kind = c.kind;
  key = c.key;
  value = c.value;
  prev_value = (if w.prev_kv then unwrap_or c.prev [] else []);
}

-- one event for each watcher that sees the key, in their order
abbrev pub events_of : List Watcher → Change → List WatchEvent
events_of watchers c = map (event_of c) (filter (λ w. sees w c.key) watchers)

-- the events of a change, if there is one
abbrev pub raised : List Watcher → Option Change → List WatchEvent
raised watchers None = []
raised watchers (Some c) = events_of watchers c

-- the next entry
abbrev pub next_entry : Kv → ℕ → Command → LogEntry
next_entry s moment c = record { index = s.durable.last_index + 1; term = s.durable.term; moment = moment; command = c }

abbrev pub put_through : Kv → LogEntry → Kv
put_through s e = record s { durable = applied s.durable e }

-- ---- the steps

abbrev pub command_of : WriteOperation → Command
command_of (operation.Insert key value ttl_secs) = command.Insert key value ttl_secs
command_of (operation.Delete key) = command.Delete key
command_of (operation.CompareAndSwap key expected new_value) = command.CompareAndSwap key expected new_value

abbrev pub has_ttl : Command → Bool
has_ttl command.Noop = false
has_ttl (command.Insert key value ttl_secs) = is_some ttl_secs
has_ttl (command.Delete key) = false
has_ttl (command.CompareAndSwap key expected value) = false

abbrev pub committed : Kv → ℕ → Command → Outcome
committed s moment c = record {
  after = put_through s (next_entry s moment c);
  reply = Some (answered (payload.Write (succeeds s.durable c)));
  events = raised s.running.watchers (change_of s.durable (s.durable.last_index + 1) c);
  logged = next_entry s moment c ∷ [];
}

abbrev pub write : Kv → ℕ → Command → Outcome
write s moment c =
    if not (leads s) then not_leader s
    else if has_ttl c && not s.running.setting.lease then says s (reply.Refused refusal.FeatureNotEnabled)
    else if s.durable.last_index == 2 ^ 64 - 1 then says s (failed code.ProposeFailed None)
    else committed s moment c

abbrev pub may_be_old : Option ReadConsistencyPolicy → Bool
may_be_old None = false
may_be_old (Some LinearizableRead) = false
may_be_old (Some LeaseRead) = false
may_be_old (Some EventualConsistency) = true

-- the pair at the key
abbrev pub held_pair : Durable → List ℕ → Option KvEntry
held_pair d key = option_map (λ value. record { key = key; value = value }) (value_at d key)

abbrev pub read : Kv → Option ReadConsistencyPolicy → List (List ℕ) → Outcome
read s policy keys =
    if leads s || may_be_old policy then says s (answered (payload.Read (filter_map (held_pair s.durable) keys)))
    else not_leader s

-- the pairs whose key begins with the prefix, in the order of their keys
abbrev pub pairs_under : Table Held → List ℕ → List KvEntry
pairs_under pairs prefix = map (λ p. record { key = p.0; value = p.1.value }) (filter (λ p. begins_with p.0 prefix) pairs)

abbrev pub scan : Kv → List ℕ → Outcome
scan s prefix =
    if leads s then says s (reply.Scan (record { entries = pairs_under s.durable.pairs prefix; revision = s.durable.last_index }))
    else not_leader s

-- begins and ends with '/'
abbrev pub is_prefix : List ℕ → Bool
is_prefix key = starts_with nat_eq key (47 ∷ []) && ends_with nat_eq key (47 ∷ [])

-- there are as many watchers as there may be, or no number is left for one more
abbrev pub are_full : (maximum registered : ℕ) → List Watcher → Bool
are_full maximum registered watchers = nat_le maximum (length watchers) || nat_le (2 ^ 64 - 1) registered

-- the watcher that is registered behind so many
abbrev pub next_watcher : (registered : ℕ) → List ℕ → Bool → Bool → Watcher
next_watcher registered key prefix prev_kv = record { number = registered + 1; key = key; prefix = prefix; prev_kv = prev_kv }

abbrev pub with_watcher : Running → List ℕ → Bool → Bool → Running
with_watcher r key prefix prev_kv = record r { watchers = r.watchers ++ next_watcher r.registered key prefix prev_kv ∷ []; registered = r.registered + 1 }

abbrev pub watch : Kv → List ℕ → Bool → Bool → Outcome
watch s key prefix prev_kv =
    if prefix && not (is_prefix key) then says s (reply.Refused refusal.InvalidPrefix)
    else if are_full s.running.setting.maximum s.running.registered s.running.watchers then says s (reply.Refused refusal.LimitExceeded)
    else record {
      after = record s { running = with_watcher s.running key prefix prev_kv };
      reply = Some (reply.Watching (s.running.registered + 1));
      events = [];
      logged = [];
    }

-- the nodes in the order of their ids
abbrev pub with_node : NodeMeta → List NodeMeta → List NodeMeta
with_node n [] = n ∷ []
with_node n (m ∷ ms) = if nat_le n.id m.id then n ∷ m ∷ ms else m ∷ with_node n ms

abbrev pub by_id : List NodeMeta → List NodeMeta
by_id [] = []
by_id (n ∷ ns) = with_node n (by_id ns)

-- what a request does and is answered
abbrev pub answer_to : Kv → ℕ → Request → Outcome
answer_to s moment (request.Write w) = elim w.command [ None ↦ invalid s | Some o ↦ write s moment (command_of o) ]
answer_to s moment (request.Read r) = read s r.consistency_policy r.keys
answer_to s moment (request.Scan client_id prefix) = scan s prefix
answer_to s moment (request.Watch client_id prefix prev_kv key) = watch s key prefix prev_kv
answer_to s moment (request.Members client_id) = says s (reply.Members (record s.running.members { nodes = by_id s.running.members.nodes }))

-- a bad frame is an invalid request
abbrev pub answer : Kv → ℕ → Frame → Outcome
answer s moment Bad = invalid s
answer s moment (Good r) = answer_to s moment r

abbrev pub silent : Kv → Outcome
silent s = record { after = s; reply = None; events = []; logged = [] }

abbrev pub step : Kv → Step → Outcome
step s Raise = silent (record s { durable = record s.durable { term = s.durable.term + 1 } })
step s (Noop moment) = let e = next_entry s moment command.Noop in record (silent (put_through s e)) { logged = e ∷ [] }
step s (Cleanup moment) = silent (record { durable = cleaned s.durable moment; running = record s.running { cleaned = Some moment } })
step s (Ask frame moment) = answer s moment frame
