-- A watcher with what the change at hand is to it.
use Rattle.std.specs.Prelude.{ℕ, ◌<◌, ◌≤◌, true, List, [], ◌∷◌, ◌++◌, length, map, nat_lt, if◌then◌else◌}
use Rattle.std.specs.List.{AllByRecursion}
use Rattle.den_model.specs.declared.watcher.Change.{Change}
use Rattle.den_model.specs.declared.watcher.Watcher.{Watcher}
use Rattle.den_model.specs.Step.{event_of, sees}
use Rattle.den_watch.specs.Registry.{Waiting}
use Rattle.den_watch.specs.declared.queue.Next.{Next}
use Rattle.den_watch.specs.declared.queue.Next.TheVariants.{Nothing, Event, End}

-- a watcher with what waits for it, and what is settled next
pub record Queued : Type 0 where
  pub waiting : Waiting
  pub next : Next

-- an event that is settled next has its place behind those that wait
abbrev pub HasPlace : Next → (len capacity : ℕ) → Type 0
HasPlace Nothing len capacity = Unit {0}
HasPlace (Event e) len capacity = len < capacity
HasPlace End len capacity = Unit {0}

-- what a change is to a watcher
abbrev pub next_of : (buffer : ℕ) → Change → Waiting → Next
next_of buffer c w =
    if w.ended then Nothing
    else if sees w.watcher c.key then (if nat_lt (length w.events) buffer then Event (event_of c w.watcher) else End)
    else Nothing

-- what it is, noted
abbrev pub staged : (buffer : ℕ) → Change → Queued → Queued
staged buffer c q = record q { next = next_of buffer c q.waiting }

-- the watcher behind that
abbrev pub behind_next : Waiting → Next → Waiting
behind_next w Nothing = w
behind_next w (Event e) = record w { events = w.events ++ e ∷ [] }
behind_next w End = record w { ended = true }

-- what was noted is done
abbrev pub settled : Queued → Queued
settled q = record { waiting = behind_next q.waiting q.next; next = Nothing }

-- the watchers with what waits for them
abbrev pub waiting_in : List Queued → List Waiting
waiting_in qs = map (λ q. q.waiting) qs

-- the watchers
abbrev pub watchers_in : List Queued → List Watcher
watchers_in qs = map (λ w. w.watcher) (waiting_in qs)

-- numbers rise, the first is above this one, and none is above the top
abbrev pub RiseUpTo : (top from : ℕ) → List Waiting → Type 0
RiseUpTo top from [] = from ≤ top
RiseUpTo top from (w ∷ ws) = (from < w.watcher.number) × RiseUpTo top w.watcher.number ws

-- no more events wait for a watcher than may
abbrev pub AllFit : (buffer : ℕ) → List Waiting → Type 0
AllFit buffer ws = AllByRecursion (λ w. length w.events ≤ buffer) ws

-- what a registry keeps of its watchers
pub record RisesAndFits (top buffer : ℕ) (ws : List Waiting) : Type 0 where
  pub rises : RiseUpTo top 0 ws
  pub fits : AllFit buffer ws
