-- Watchers, and the events that wait for them.
use Rattle.std.specs.Prelude.{◌≡◌, ◌⊎◌, ℕ, ◌+◌, ◌==◌, ◌&&◌, not, Bool, true, false, List, [], ◌∷◌, ◌++◌, length, map, filter, nat_lt, Option, Some, None, Result, Ok, Err, IfOk, IfErr, IfSome, if◌then◌else◌}
use Rattle.std.specs.List.{list_any, slice_get}
use Rattle.den_model.specs.declared.reply.WatchEvent.{WatchEvent}
use Rattle.den_model.specs.declared.watcher.Change.{Change}
use Rattle.den_model.specs.declared.watcher.Watcher.{Watcher}
use Rattle.den_model.specs.Step.{are_full, event_of, is_prefix, next_watcher, sees}
use Rattle.den_watch.specs.declared.error.WatchError.{WatchError}
use Rattle.den_watch.specs.declared.error.WatchError.TheVariants.{InvalidPrefix, LimitExceeded, NotRegistered, OutOfMemory, WatchBufferOverflow}
use Rattle.den_watch.specs.declared.handle.WatcherHandle.{WatcherHandle}

-- a watcher, the events that wait for it, and whether it ended: one found no room
pub record Waiting : Type 0 where
  pub watcher : Watcher
  pub events : List WatchEvent
  pub ended : Bool

-- The watchers in the order of their registration; how many were registered; how many there may be; and how many events
-- may wait for each.
pub record Registry : Type 0 where
  pub waiting : List Waiting
  pub registered : ℕ
  pub maximum : ℕ
  pub buffer : ℕ

-- nobody was registered yet
abbrev pub nobody : (buffer maximum : ℕ) → Registry
nobody buffer maximum = record { waiting = []; registered = 0; maximum = maximum; buffer = buffer }

-- who watches, in the order of registration
abbrev pub watchers : Registry → List Watcher
watchers r = map (λ w. w.watcher) r.waiting

-- whether it has this number
abbrev pub is_numbered : ℕ → Waiting → Bool
is_numbered number w = w.watcher.number == number

-- the watcher of this number, if there is one
abbrev pub waiting_at : Registry → ℕ → Option Waiting
waiting_at r number = slice_get (filter (is_numbered number) r.waiting) 0

-- ---- who is registered

-- a watcher that was just registered: nothing waits for it
abbrev pub newcomer : Watcher → Waiting
newcomer w = record { watcher = w; events = []; ended = false }

-- one watcher more, behind the others and of the next number
abbrev pub registering : Registry → (key : List ℕ) → (prefix prev_kv : Bool) → Registry
registering r key prefix prev_kv = record r { waiting = r.waiting ++ newcomer (next_watcher r.registered key prefix prev_kv) ∷ []; registered = r.registered + 1 }

-- what is no prefix, and then one watcher more than there may be
abbrev pub register_refusal : Registry → (key : List ℕ) → (prefix : Bool) → Option WatchError
register_refusal r key prefix =
    if prefix && not (is_prefix key) then Some InvalidPrefix
    else if are_full r.maximum r.registered (watchers r) then Some LimitExceeded
    else None

-- A call that registers a watcher, which then stands under its number. On a refusal nothing changes.
pub record Registers (old new : Registry) (key : List ℕ) (prefix prev_kv : Bool) (result : Result WatcherHandle WatchError) : Type 0 where
  pub turned_away : IfSome (register_refusal old key prefix) (λ e. result ≡ Err e)
  pub done : IfOk result (λ handle. (handle.id ≡ old.registered + 1) × (new ≡ registering old key prefix prev_kv))
  pub stands : IfOk result (λ handle. waiting_at new handle.id ≡ Some (newcomer (next_watcher old.registered key prefix prev_kv)))
  pub refused : IfErr result (λ e. (new ≡ old) × ((register_refusal old key prefix ≡ Some e) ⊎ (e ≡ OutOfMemory)))

-- whether a watcher has this number
abbrev pub is_registered : Registry → ℕ → Bool
is_registered r number = list_any (is_numbered number) r.waiting

-- the watcher of this number is gone
abbrev pub without : Registry → ℕ → Registry
without r number = record r { waiting = filter (λ w. not (is_numbered number w)) r.waiting }

-- ---- what waits

-- An event for a watcher: one that ended gets none; where as many wait as may, it is dropped and the watcher ends.
abbrev pub given : (buffer : ℕ) → Waiting → WatchEvent → Waiting
given buffer w e = if w.ended then w else if nat_lt (length w.events) buffer then record w { events = w.events ++ e ∷ [] } else record w { ended = true }

-- events, one after the other
abbrev pub given_all : (buffer : ℕ) → Waiting → List WatchEvent → Waiting
given_all buffer w [] = w
given_all buffer w (e ∷ es) = given_all buffer (given buffer w e) es

-- those that name the watcher
abbrev pub named : List WatchEvent → Waiting → List WatchEvent
named events w = filter (λ e. e.watcher == w.watcher.number) events

-- each watcher is given the events that name it, in their order
abbrev pub kept : List WatchEvent → Registry → Registry
kept events r = record r { waiting = map (λ w. given_all r.buffer w (named events w)) r.waiting }

-- a watcher is told of a change of a key that it sees
abbrev pub told : (buffer : ℕ) → Change → Waiting → Waiting
told buffer c w = if sees w.watcher c.key then given buffer w (event_of c w.watcher) else w

-- and so is each
abbrev pub told_all : Change → Registry → Registry
told_all c r = record r { waiting = map (told r.buffer c) r.waiting }

-- ---- what is taken

-- a watcher that ended tells so once nothing waits for it
abbrev pub takes_of : Waiting → Result (List WatchEvent) WatchError
takes_of w = if w.ended && length w.events == 0 then Err WatchBufferOverflow else Ok w.events

-- what a take answers
abbrev pub taken_from : Registry → ℕ → Result (List WatchEvent) WatchError
taken_from r number = elim (waiting_at r number) [ None ↦ Err NotRegistered | Some w ↦ takes_of w ]

-- nothing waits for this watcher
abbrev pub emptied : Registry → ℕ → Registry
emptied r number = record r { waiting = map (λ w. if is_numbered number w then record w { events = [] } else w) r.waiting }
