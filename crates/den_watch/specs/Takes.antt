-- What the takes of a watcher give, one after the other.
use Rattle.std.specs.Prelude.{◌≡◌, ℕ, false, List, [], ◌∷◌, ◌++◌, if◌then◌else◌}
use Rattle.den_model.specs.declared.reply.WatchEvent.{WatchEvent}
use Rattle.den_model.specs.declared.watcher.Change.{Change}
use Rattle.den_model.specs.declared.watcher.Watcher.{Watcher}
use Rattle.den_model.specs.Step.{event_of, sees}
use Rattle.den_watch.specs.Registry.{Waiting, newcomer, told}

-- what happens to a watcher once it is registered: a change is delivered, or what waits for it is taken
pub data Happening : Type 0 where
  Delivered : (change : Change) → Happening
  Taken : Happening

-- the watcher behind these
abbrev pub behind_all : (buffer : ℕ) → Waiting → List Happening → Waiting
behind_all buffer w [] = w
behind_all buffer w (Delivered c ∷ hs) = behind_all buffer (told buffer c w) hs
behind_all buffer w (Taken ∷ hs) = behind_all buffer (record w { events = [] }) hs

-- what the takes among them gave, joined
abbrev pub given_by : (buffer : ℕ) → Waiting → List Happening → List WatchEvent
given_by buffer w [] = []
given_by buffer w (Delivered c ∷ hs) = given_by buffer (told buffer c w) hs
given_by buffer w (Taken ∷ hs) = w.events ++ given_by buffer (record w { events = [] }) hs

-- the events of the changes that the watcher sees
abbrev pub seen_by : Watcher → List Happening → List WatchEvent
seen_by w [] = []
seen_by w (Delivered c ∷ hs) = (if sees w c.key then event_of c w ∷ [] else []) ++ seen_by w hs
seen_by w (Taken ∷ hs) = seen_by w hs

-- the events of the changes that the watcher sees before the first that finds no room; one that ended hears nothing
abbrev pub heard : (buffer : ℕ) → Waiting → List Happening → List WatchEvent
heard buffer w [] = []
heard buffer w (Delivered c ∷ hs) =
    if (told buffer c w).ended then []
    else (if sees w.watcher c.key then event_of c w.watcher ∷ [] else []) ++ heard buffer (told buffer c w) hs
heard buffer w (Taken ∷ hs) = heard buffer (record w { events = [] }) hs

-- these events and some behind them are those
pub record IsFront (front whole : List WatchEvent) : Type 0 where
  pub rest : List WatchEvent
  pub is : front ++ rest ≡ whole

-- What was taken of a watcher since its registration, these events behind it, is what it heard: all that it saw, or a front.
pub record TakesAll (buffer : ℕ) (w : Watcher) (hs : List Happening) (events : List WatchEvent) : Type 0 where
  pub all : (behind_all buffer (newcomer w) hs).ended ≡ false → given_by buffer (newcomer w) hs ++ events ≡ seen_by w hs
  pub front : IsFront (given_by buffer (newcomer w) hs ++ events) (seen_by w hs)
  pub heard : given_by buffer (newcomer w) hs ++ events ≡ heard buffer (newcomer w) hs
