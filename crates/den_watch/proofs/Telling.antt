-- A change is told: what was noted for each watcher and is done, and the events that name each, are one thing.
use Rattle.std.proofs.Common.{◌≡◌, ℕ, ◌<◌, ◌≤◌, Bool, true, false, cond, List, [], ◌∷◌, ◌++◌, length, map, filter, refl, sym, ap, ◌∙◌, arith, eq-eqb}
use Rattle.std.specs.Prelude.{nat_lt, ◌==◌}
use Rattle.std.specs.List.{AllByRecursion}
use Rattle.std.proofs.lemmas.Bool.{ne_eqb}
use Rattle.std.proofs.lemmas.List.{append_assoc, append-nil}
use Rattle.std.proofs.lemmas.List.Elements.{filter-append}
use Rattle.den_model.specs.declared.reply.WatchEvent.{WatchEvent}
use Rattle.den_model.specs.declared.watcher.Change.{Change}
use Rattle.den_model.specs.Step.{event_of, events_of, sees}
use Rattle.den_watch.specs.declared.queue.Next.TheVariants.{Nothing, Event, End}
use Rattle.den_watch.specs.Queues.{Queued, RiseUpTo, behind_next, settled, staged, waiting_in}
use Rattle.den_watch.specs.Registry.{Registry, Waiting, given, given_all, kept, named, told, told_all, watchers}

-- ---- noted, and done

-- by whether it ended, whether it sees the key, and whether there is room
done : (w : Waiting) (e : WatchEvent) (ended sees room : Bool) → behind_next w (cond ended Nothing (cond sees (cond room (Event e) End) Nothing))
    ≡ cond sees (cond ended w (cond room (record w { events = w.events ++ e ∷ [] }) (record w { ended = true }))) w
done w e true true room = refl
done w e true false room = refl
done w e false true true = refl
done w e false true false = refl
done w e false false room = refl

-- each is told so
pub told_each : (buffer : ℕ) (c : Change) (qs : List Queued) → waiting_in (map settled (map (staged buffer c) qs)) ≡ map (told buffer c) (waiting_in qs)
told_each buffer c [] = refl
told_each buffer c (q ∷ qs) =
    let w = q.waiting in
    ap (λ v. v ∷ waiting_in (map settled (map (staged buffer c) qs))) (done w (event_of c w.watcher) w.ended (sees w.watcher c.key) (nat_lt (length w.events) buffer))
    ∙ ap (λ l. told buffer c w ∷ l) (told_each buffer c qs)

-- ---- it stays the watcher that it is

-- in each of those cases
same_watcher : (w : Waiting) (e : WatchEvent) (ended sees room : Bool)
    → (cond sees (cond ended w (cond room (record w { events = w.events ++ e ∷ [] }) (record w { ended = true }))) w).watcher ≡ w.watcher
same_watcher w e true true room = refl
same_watcher w e true false room = refl
same_watcher w e false true true = refl
same_watcher w e false true false = refl
same_watcher w e false false room = refl

-- whom a change is told
pub told_watcher : (buffer : ℕ) (c : Change) (w : Waiting) → (told buffer c w).watcher ≡ w.watcher
told_watcher buffer c w = same_watcher w (event_of c w.watcher) w.ended (sees w.watcher c.key) (nat_lt (length w.events) buffer)

-- ---- the events that name a watcher

-- none names a watcher above this number
AllUpTo : ℕ → List WatchEvent → Type 0
AllUpTo number events = AllByRecursion (λ e. e.watcher ≤ number) events

-- nor one above a greater number
up_to_more : (m n : ℕ) (es : List WatchEvent) → m ≤ n → AllUpTo m es → AllUpTo n es
unfolding AllUpTo
up_to_more m n [] le h = tt
up_to_more m n (e ∷ es) le h = (omega (arith, h.0), up_to_more m n es le h.1)

-- nor do two such lists joined
up_to_joined : (n : ℕ) (es fs : List WatchEvent) → AllUpTo n es → AllUpTo n fs → AllUpTo n (es ++ fs)
unfolding AllUpTo
up_to_joined n [] fs h k = k
up_to_joined n (e ∷ es) fs h k = (h.0, up_to_joined n es fs h.1 k)

-- they do not name a watcher above it
none_named : (n : ℕ) (es : List WatchEvent) (w : Waiting) → AllUpTo n es → n < w.watcher.number → named es w ≡ []
unfolding AllUpTo
none_named n [] w h lt = refl
none_named n (e ∷ es) w h lt =
    ap (λ b. cond b (e ∷ named es w) (named es w)) (ne_eqb e.watcher w.watcher.number (λ is. omega (arith, h.0))) ∙ none_named n es w h.1 lt

-- the events of these watchers
of_all : Change → List Waiting → List WatchEvent
of_all c ws = events_of (map (λ w. w.watcher) ws) c

-- the first of them
of_first : Change → Waiting → List WatchEvent
of_first c v = cond (sees v.watcher c.key) (event_of c v.watcher ∷ []) []

-- the events are those of the first and of the rest
first_and_rest : (c : Change) (v : Waiting) (ws : List Waiting) → of_all c (v ∷ ws) ≡ of_first c v ++ of_all c ws
unfolding of_all of_first
first_and_rest c v ws =
    let rest = filter (λ w. sees w c.key) (map (λ (w : Waiting). w.watcher) ws) in
    elim (sees v.watcher c.key) as (λ b. map (event_of c) (cond b (v.watcher ∷ rest) rest) ≡ cond b (event_of c v.watcher ∷ []) [] ++ map (event_of c) rest) [ true ↦ refl | false ↦ refl ]

-- the event of the first names it
first_up_to : (c : Change) (v : Waiting) → AllUpTo v.watcher.number (of_first c v)
unfolding of_first AllUpTo
first_up_to c v = elim (sees v.watcher c.key) as (λ b. AllUpTo v.watcher.number (cond b (event_of c v.watcher ∷ []) [])) [ true ↦ (omega arith, tt) | false ↦ tt ]

-- none of the events of those behind names it
none_behind : (top from : ℕ) (c : Change) (ws : List Waiting) (w : Waiting) → RiseUpTo top from ws → w.watcher.number ≤ from → named (of_all c ws) w ≡ []
unfolding of_all
none_behind top from c [] w h le = refl
none_behind top from c (v ∷ ws) w h le =
    let other = ne_eqb v.watcher.number w.watcher.number (λ is. omega (arith, h.0)) in
    let rest = none_behind top v.watcher.number c ws w h.1 (omega (arith, h.0)) in
    let first : named (of_first c v) w ≡ [] = unfold of_first in elim (sees v.watcher c.key) as (λ b. named (cond b (event_of c v.watcher ∷ []) []) w ≡ []) [ true ↦ ap (λ b. cond b (event_of c v.watcher ∷ []) []) other | false ↦ refl ] in
    ap (λ es. named es w) (first_and_rest c v ws) ∙ filter-append (λ e. e.watcher == w.watcher.number) (of_first c v) (of_all c ws) ∙ ap (λ l. l ++ named (of_all c ws) w) first ∙ rest

-- its own
own_named : (c : Change) (v : Waiting) → named (of_first c v) v ≡ of_first c v
unfolding of_first
own_named c v =
    elim (sees v.watcher c.key) as (λ b. named (cond b (event_of c v.watcher ∷ []) []) v ≡ cond b (event_of c v.watcher ∷ []) []) [
      | true ↦ ap (λ b. cond b (event_of c v.watcher ∷ []) []) (eq-eqb v.watcher.number v.watcher.number refl)
      | false ↦ refl
    ]

-- to be given it is to be told
given_first : (buffer : ℕ) (c : Change) (v : Waiting) → given_all buffer v (of_first c v) ≡ told buffer c v
unfolding of_first
given_first buffer c v =
    elim (sees v.watcher c.key) as (λ b. given_all buffer v (cond b (event_of c v.watcher ∷ []) []) ≡ cond b (given buffer v (event_of c v.watcher)) v) [ true ↦ refl | false ↦ refl ]

-- behind the events of those before
kept_behind : (top from buffer : ℕ) (c : Change) (es : List WatchEvent) (ws : List Waiting) → RiseUpTo top from ws → AllUpTo from es
    → map (λ w. given_all buffer w (named (es ++ of_all c ws) w)) ws ≡ map (told buffer c) ws
kept_behind top from buffer c es [] h up = refl
kept_behind top from buffer c es (v ∷ ws) h up =
    let more = es ++ of_first c v in
    let all : es ++ of_all c (v ∷ ws) ≡ more ++ of_all c ws = ap (λ l. es ++ l) (first_and_rest c v ws) ∙ sym (append_assoc es (of_first c v) (of_all c ws)) in
    let test = λ (e : WatchEvent). e.watcher == v.watcher.number in
    let own : named (more ++ of_all c ws) v ≡ of_first c v =
    filter-append test more (of_all c ws) ∙ ap (λ l. named more v ++ l) (none_behind top v.watcher.number c ws v h.1 (omega arith)) ∙ append-nil (named more v)
    ∙ filter-append test es (of_first c v) ∙ ap (λ l. l ++ named (of_first c v) v) (none_named from es v up h.0) ∙ own_named c v in
    ap (λ es'. map (λ w. given_all buffer w (named es' w)) (v ∷ ws)) all
    ∙ ap (λ w. w ∷ map (λ u. given_all buffer u (named (more ++ of_all c ws) u)) ws) (ap (given_all buffer v) own ∙ given_first buffer c v)
    ∙ ap (λ l. told buffer c v ∷ l) (kept_behind top v.watcher.number buffer c more ws h.1 (up_to_joined v.watcher.number es (of_first c v) (up_to_more from v.watcher.number es (omega (arith, h.0)) up) (first_up_to c v)))

-- each is told of a change where each is given the events of it that name it
pub kept_as_told : (c : Change) (r : Registry) → RiseUpTo r.registered 0 r.waiting → kept (events_of (watchers r) c) r ≡ told_all c r
unfolding of_all AllUpTo
kept_as_told c r h = ap (λ ws. record r { waiting = ws }) (kept_behind r.registered 0 r.buffer c [] r.waiting h tt)
