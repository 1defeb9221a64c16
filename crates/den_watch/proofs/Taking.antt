-- What the takes of a watcher gave, with what waits for it, is what it saw, until it ended.
use Rattle.std.proofs.Common.{◌≡◌, ℕ, Bool, true, false, cond, List, [], ◌∷◌, ◌++◌, length, refl, sym, ap, ◌∙◌, true≢false}
use Rattle.std.specs.Prelude.{nat_lt, IfOk, Ok, Err, ◌&&◌, ◌==◌}
use Rattle.std.proofs.lemmas.List.{append_assoc, append-nil}
use Rattle.den_model.specs.declared.reply.WatchEvent.{WatchEvent}
use Rattle.den_model.specs.declared.watcher.Change.{Change}
use Rattle.den_model.specs.declared.watcher.Watcher.{Watcher}
use Rattle.den_model.specs.Step.{event_of, sees}
use Rattle.den_watch.specs.declared.error.WatchError.TheVariants.{WatchBufferOverflow}
use Rattle.den_watch.specs.Registry.{Waiting, newcomer, takes_of, told}
use Rattle.den_watch.specs.Takes.{Happening, IsFront, TakesAll, behind_all, given_by, heard, seen_by}
use Rattle.den_watch.specs.Takes.Happening.{Delivered, Taken}
use Rattle.den_watch.proofs.Telling.{told_watcher}

-- what a change is to the watcher
seen : Change → Watcher → List WatchEvent
seen c w = cond (sees w c.key) (event_of c w ∷ []) []

-- by whether it sees the key, whether it ended, and whether there is room
after : (w : Waiting) (e : WatchEvent) (sees ended room : Bool) → Waiting
after w e sees ended room = cond sees (cond ended w (cond room (record w { events = w.events ++ e ∷ [] }) (record w { ended = true }))) w

-- one that goes on has what it saw behind what waited
after_open : (w : Waiting) (e : WatchEvent) (sees ended room : Bool) → w.ended ≡ ended → (after w e sees ended room).ended ≡ false → (after w e sees ended room).events ≡ w.events ++ cond sees (e ∷ []) []
unfolding after
after_open w e false ended room is still = sym (append-nil w.events)
after_open w e true true room is still = absurd (true≢false (sym is ∙ still))
after_open w e true false true is still = refl
after_open w e true false false is still = absurd (true≢false still)

-- one that ended has what waited
after_end : (w : Waiting) (e : WatchEvent) (sees ended room : Bool) → w.ended ≡ ended → (after w e sees ended room).ended ≡ true → (after w e sees ended room).events ≡ w.events
unfolding after
after_end w e false ended room is end = refl
after_end w e true true room is end = refl
after_end w e true false true is end = absurd (true≢false (sym end ∙ is))
after_end w e true false false is end = refl

-- one that had ended is as it was
after_ended : (w : Waiting) (e : WatchEvent) (sees room : Bool) → after w e sees true room ≡ w
unfolding after
after_ended w e true room = refl
after_ended w e false room = refl

-- while it goes on, it gets what it sees
told_open : (buffer : ℕ) (c : Change) (w : Waiting) → (told buffer c w).ended ≡ false → (told buffer c w).events ≡ w.events ++ seen c w.watcher
unfolding after seen
told_open buffer c w still = after_open w (event_of c w.watcher) (sees w.watcher c.key) w.ended (nat_lt (length w.events) buffer) refl still

-- where it ends, what waits stays
told_end : (buffer : ℕ) (c : Change) (w : Waiting) → (told buffer c w).ended ≡ true → (told buffer c w).events ≡ w.events
unfolding after
told_end buffer c w end = after_end w (event_of c w.watcher) (sees w.watcher c.key) w.ended (nat_lt (length w.events) buffer) refl end

-- and from then on it gets nothing
told_ended : (buffer : ℕ) (c : Change) (w : Waiting) → w.ended ≡ true → told buffer c w ≡ w
unfolding after
told_ended buffer c w ended =
    let e = event_of c w.watcher in
    let sees_it = sees w.watcher c.key in
    let room = nat_lt (length w.events) buffer in
    ap (λ b. after w e sees_it b room) ended ∙ after_ended w e sees_it room

-- ---- all that happens

-- a watcher that ended stays so
stays_ended : (buffer : ℕ) (w : Waiting) (hs : List Happening) → w.ended ≡ true → (behind_all buffer w hs).ended ≡ true
stays_ended buffer w [] ended = ended
stays_ended buffer w (Delivered c ∷ hs) ended = stays_ended buffer (told buffer c w) hs (ap (λ (v : Waiting). v.ended) (told_ended buffer c w ended) ∙ ended)
stays_ended buffer w (Taken ∷ hs) ended = stays_ended buffer (record w { events = [] }) hs ended

-- what was taken since, with what waits
had : (buffer : ℕ) → Waiting → List Happening → List WatchEvent
had buffer w hs = given_by buffer w hs ++ (behind_all buffer w hs).events

-- of one that ended it is what waits
ended_had : (buffer : ℕ) (w : Waiting) (hs : List Happening) → w.ended ≡ true → had buffer w hs ≡ w.events
unfolding had
ended_had buffer w [] ended = refl
ended_had buffer w (Delivered c ∷ hs) ended =
    let same = told_ended buffer c w ended in
    ap (λ v. given_by buffer v hs ++ (behind_all buffer v hs).events) same ∙ ended_had buffer w hs ended
ended_had buffer w (Taken ∷ hs) ended =
    let rest : Waiting = record w { events = [] } in
    append_assoc w.events (given_by buffer rest hs) (behind_all buffer rest hs).events ∙ ap (λ l. w.events ++ l) (ended_had buffer rest hs ended) ∙ append-nil w.events

-- of one that goes on it is what waits and all that it sees
all_had : (buffer : ℕ) (w : Waiting) (hs : List Happening) → (behind_all buffer w hs).ended ≡ false → had buffer w hs ≡ w.events ++ seen_by w.watcher hs
unfolding had seen
all_had buffer w [] still = sym (append-nil w.events)
all_had buffer w (Delivered c ∷ hs) still =
    let v = told buffer c w in
    let goes_on : v.ended ≡ false = elim v.ended as (λ b. v.ended ≡ b → b ≡ false) [ true ↦ λ is. absurd (true≢false (sym (stays_ended buffer v hs is) ∙ still)) | false ↦ λ is. refl ] refl in
    all_had buffer v hs still ∙ ap (λ l. l ++ seen_by v.watcher hs) (told_open buffer c w goes_on)
    ∙ ap (λ u. (w.events ++ seen c w.watcher) ++ seen_by u hs) (told_watcher buffer c w) ∙ append_assoc w.events (seen c w.watcher) (seen_by w.watcher hs)
all_had buffer w (Taken ∷ hs) still =
    let rest : Waiting = record w { events = [] } in
    append_assoc w.events (given_by buffer rest hs) (behind_all buffer rest hs).events ∙ ap (λ l. w.events ++ l) (all_had buffer rest hs still)

-- of any it is a front of that
front_had : (buffer : ℕ) (w : Waiting) (hs : List Happening) → IsFront (had buffer w hs) (w.events ++ seen_by w.watcher hs)
unfolding had seen
front_had buffer w [] = record { rest = []; is = refl }
front_had buffer w (Delivered c ∷ hs) =
    let v = told buffer c w in
    let all = w.events ++ seen_by w.watcher (Delivered c ∷ hs) in
    elim v.ended as (λ b. v.ended ≡ b → IsFront (had buffer v hs) all) [
      | true ↦ λ end. record {
        rest = seen_by w.watcher (Delivered c ∷ hs);
        is = ap (λ l. l ++ seen_by w.watcher (Delivered c ∷ hs)) (ended_had buffer v hs end ∙ told_end buffer c w end);
      }
      | false ↦ λ still. let front = front_had buffer v hs in record {
        rest = front.rest;
        is = front.is ∙ ap (λ l. l ++ seen_by v.watcher hs) (told_open buffer c w still)
            ∙ ap (λ u. (w.events ++ seen c w.watcher) ++ seen_by u hs) (told_watcher buffer c w) ∙ append_assoc w.events (seen c w.watcher) (seen_by w.watcher hs);
      }
    ] refl
front_had buffer w (Taken ∷ hs) =
    let rest : Waiting = record w { events = [] } in
    let front = front_had buffer rest hs in
    record {
      rest = front.rest;
      is = ap (λ l. l ++ front.rest) (append_assoc w.events (given_by buffer rest hs) (behind_all buffer rest hs).events)
          ∙ append_assoc w.events (had buffer rest hs) front.rest ∙ ap (λ l. w.events ++ l) front.is;
    }

-- it is what waits and what it hears
heard_had : (buffer : ℕ) (w : Waiting) (hs : List Happening) → had buffer w hs ≡ w.events ++ heard buffer w hs
unfolding had seen
heard_had buffer w [] = sym (append-nil w.events)
heard_had buffer w (Delivered c ∷ hs) =
    let v = told buffer c w in
    elim v.ended as (λ b. v.ended ≡ b → had buffer v hs ≡ w.events ++ cond b [] (seen c w.watcher ++ heard buffer v hs)) [
      | true ↦ λ end. ended_had buffer v hs end ∙ told_end buffer c w end ∙ sym (append-nil w.events)
      | false ↦ λ still. heard_had buffer v hs ∙ ap (λ l. l ++ heard buffer v hs) (told_open buffer c w still) ∙ append_assoc w.events (seen c w.watcher) (heard buffer v hs)
    ] refl
heard_had buffer w (Taken ∷ hs) =
    let rest : Waiting = record w { events = [] } in
    append_assoc w.events (given_by buffer rest hs) (behind_all buffer rest hs).events ∙ ap (λ l. w.events ++ l) (heard_had buffer rest hs)

-- what a take gives goes on from what was taken before
pub successive : (buffer : ℕ) (w : Watcher) (hs : List Happening) → IfOk (takes_of (behind_all buffer (newcomer w) hs)) (λ events. TakesAll buffer w hs events)
unfolding had
successive buffer w hs =
    let v = behind_all buffer (newcomer w) hs in
    let taken : TakesAll buffer w hs v.events = record {
      all = λ still. all_had buffer (newcomer w) hs still;
      front = front_had buffer (newcomer w) hs;
      heard = heard_had buffer (newcomer w) hs;
    } in
    elim (v.ended && length v.events == 0) as (λ b. IfOk (cond b (Err WatchBufferOverflow) (Ok v.events)) (λ events. TakesAll buffer w hs events)) [ true ↦ tt | false ↦ taken ]
