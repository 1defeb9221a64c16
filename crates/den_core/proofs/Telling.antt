-- What a turn tells those who watch.
use Rattle.std.proofs.Common.{◌≡◌, ℕ, ◌+◌, Bool, true, false, List, [], ◌∷◌, ◌++◌, ◌||◌, cond, Option, Some, None, if◌then◌else◌, refl, sym, ◌∙◌, ap, subst, map, drop, length}
use Rattle.std.proofs.lemmas.List.{append-nil}
use Rattle.den_model.specs.declared.command.Command.{Command}
use Rattle.den_model.specs.declared.reply.ClientResponsePayload.TheVariants.{Write}
use Rattle.den_model.specs.declared.reply.Reply.{Reply}
use Rattle.den_model.specs.declared.reply.WatchEvent.{WatchEvent}
use Rattle.den_model.specs.declared.reply.WatchEventType.{WatchEventType}
use Rattle.den_model.specs.declared.request.Frame.{Frame}
use Rattle.den_model.specs.declared.watcher.Change.{Change}
use Rattle.den_model.specs.declared.watcher.Watcher.{Watcher}
use Rattle.den_model.specs.Apply.{succeeds}
use Rattle.den_model.specs.Frames.{framed}
use Rattle.den_model.specs.Kv.{Kv, Running}
use Rattle.den_model.specs.Plan.{after, output, said, turn}
use Rattle.den_model.specs.Spelling.{event_word, reply_word}
use Rattle.den_model.specs.Step.{Ask, Outcome, Step, answer, answered, change_made, committed, event_of, events_of, raised, says, sees}
use Rattle.std.specs.List.{filter, flat_map, list_any}
use Rattle.den_watch.specs.Registry.{Registry, Waiting, newcomer, watchers}
use Rattle.den_core.specs.declared.watching.Turned.{Turned}
use Rattle.den_core.specs.Answers.{frames_of}
use Rattle.den_core.specs.Kept.{IsTurned, asked_of, grown}

-- nobody more
none_more : (ws : List Waiting) → drop (length ws) (map (λ (w : Waiting). w.watcher) ws) ≡ []
none_more [] = refl
none_more (w ∷ ws) = none_more ws

-- a registry whose watchers are all that the run's part has
pub grown_same : (r : Registry) (running : Running) → running.watchers ≡ watchers r → running.registered ≡ r.registered → grown r running ≡ r
grown_same r running same count =
    ap (λ ws. let x : Registry = record r { waiting = r.waiting ++ map newcomer (drop (length r.waiting) ws); registered = running.registered } in x) same
    ∙ ap (λ n. let x : Registry = record r { waiting = r.waiting ++ map newcomer (drop (length r.waiting) (watchers r)); registered = n } in x) count
    ∙ ap (λ ws. let x : Registry = record r { waiting = r.waiting ++ map newcomer ws } in x) (none_more r.waiting)
    ∙ ap (λ ws. let x : Registry = record r { waiting = ws } in x) (append-nil r.waiting)

-- the events of what is told only where it succeeded
pub raised_where : (b : Bool) (ws : List Watcher) (change : Option Change) → (if b then raised ws change else []) ≡ raised ws (if b then change else None)
raised_where true ws change = refl
raised_where false ws change = refl

-- a reply at once
pub said_turned : (o : Outcome) (kv : Kv) (r : Registry) (reply : Reply) (turned : Turned) → o ≡ says kv reply → kv.running.watchers ≡ watchers r → kv.running.registered ≡ r.registered
    → turned ≡ record { out = record { reply = reply; events = [] }; change = None } → IsTurned o r r turned
said_turned o kv r reply turned is same count made =
    subst (λ (x : Outcome). IsTurned x r r turned) (sym is) (subst (λ (t : Turned). IsTurned (says kv reply) r r t) (sym made) (record {
      reply = refl;
      events = refl;
      raised_by = refl;
      registered = sym (grown_same r kv.running same count);
    }))

-- a command that was committed
pub committed_turned : (o : Outcome) (kv : Kv) (moment : ℕ) (command : Command) (r : Registry) (succeeded : Bool) (events : List WatchEvent) (change : Option Change) (turned : Turned)
    → o ≡ committed kv moment command → kv.running.watchers ≡ watchers r → kv.running.registered ≡ r.registered
    → succeeded ≡ succeeds kv.durable command → events ≡ raised (watchers r) (change_made kv.durable (kv.durable.last_index + 1) command) → events ≡ raised (watchers r) change
    → turned.out.reply ≡ answered (Write succeeded) → turned.out.events ≡ (if succeeded then events else []) → turned.change ≡ (if succeeded then change else None)
    → IsTurned o r r turned
committed_turned o kv moment command r succeeded events change turned is same count success told by_change reply out_events out_change =
    let raises : (committed kv moment command).events ≡ (if succeeded then events else []) =
    sym (ap (λ b. if b then events else []) success
    ∙ ap (λ es. if succeeds kv.durable command then es else []) (told ∙ ap (λ ws. raised ws (change_made kv.durable (kv.durable.last_index + 1) command)) (sym same))
    ∙ raised_where (succeeds kv.durable command) kv.running.watchers (change_made kv.durable (kv.durable.last_index + 1) command)) in
    subst (λ (x : Outcome). IsTurned x r r turned) (sym is) (record {
      reply = ap (λ b. Some (answered (Write b))) (sym success) ∙ ap (λ x. Some x) (sym reply);
      events = raises ∙ sym out_events;
      raised_by = ap (raised (watchers r)) out_change ∙ sym (raised_where succeeded (watchers r) change) ∙ ap (λ es. if succeeded then es else []) (sym by_change) ∙ sym raises;
      registered = sym (grown_same r kv.running same count);
    })

-- a watcher that was registered or refused
pub watched_turned : (o watched : Outcome) (r new : Registry) (reply : Reply) (turned : Turned) → o ≡ watched → watched.reply ≡ Some reply → watched.events ≡ [] → new ≡ grown r watched.after.running
    → turned ≡ record { out = record { reply = reply; events = [] }; change = None } → IsTurned o r new turned
watched_turned o watched r new reply turned is replied quiet registered made =
    subst (λ (x : Outcome). IsTurned x r new turned) (sym is) (subst (λ (t : Turned). IsTurned watched r new t) (sym made) (record {
      reply = replied;
      events = quiet;
      raised_by = sym quiet;
      registered = registered;
    }))

-- a cleanup says nothing
quiet_turn : (b : Bool) (kv : Kv) (frame : Frame) (moment : ℕ) → let steps : List Step = if b then Step.Cleanup moment ∷ [] else [] in
    output kv (steps ++ Ask frame moment ∷ []) ≡ said (answer (after kv steps) moment frame)
quiet_turn true kv frame moment = append-nil (said (answer (after kv (Step.Cleanup moment ∷ [])) moment frame))
quiet_turn false kv frame moment = append-nil (said (answer kv moment frame))

after_turn : (b : Bool) (kv : Kv) (frame : Frame) (moment : ℕ) → let steps : List Step = if b then Step.Cleanup moment ∷ [] else [] in
    after kv (steps ++ Ask frame moment ∷ []) ≡ (answer (after kv steps) moment frame).after
after_turn true kv frame moment = refl
after_turn false kv frame moment = refl

-- who registered in a turn
pub grown_turned : (kv now : Kv) (frame : Frame) (time : ℕ) (old new : Registry) (turned : Turned) → IsTurned (asked_of kv frame time) old new turned → now ≡ after kv (turn kv frame time)
    → new ≡ grown old now.running
grown_turned kv now frame time old new turned is made = is.registered ∙ ap (λ (k : Kv). grown old k.running) (sym (made ∙ after_turn _ kv frame time))

-- the frames of a turn
pub frames_turned : (kv : Kv) (frame : Frame) (time : ℕ) (old new : Registry) (turned : Turned) → IsTurned (asked_of kv frame time) old new turned
    → frames_of turned.out.reply turned.out.events ≡ output kv (turn kv frame time)
frames_turned kv frame time old new turned is =
    let o = asked_of kv frame time in
    sym (quiet_turn _ kv frame time
    ∙ ap (λ (r : Option Reply). (elim r [ None ↦ [] | Some x ↦ framed (reply_word x) ]) ++ flat_map (λ e. framed (event_word e)) o.events) is.reply
    ∙ ap (λ es. framed (reply_word turned.out.reply) ++ flat_map (λ e. framed (event_word e)) es) is.events)

-- ---- who sees a key

abbrev IsFalse : Bool → Type 0
IsFalse true = ⊥
IsFalse false = Unit {0}

none_kept_at : {X : Type 0} (p : X → Bool) (x : X) (xs : List X) (b : Bool) → (list_any p xs ≡ false → filter p xs ≡ []) → (b || list_any p xs) ≡ false
    → cond b (x ∷ filter p xs) (filter p xs) ≡ []
none_kept_at p x xs true rest none = absurd (subst IsFalse (sym none) tt)
none_kept_at p x xs false rest none = rest none

-- where none passes none is kept
none_kept : {X : Type 0} (p : X → Bool) (xs : List X) → list_any p xs ≡ false → filter p xs ≡ []
none_kept p [] none = refl
none_kept p (x ∷ xs) none = none_kept_at p x xs (p x) (none_kept p xs) none

-- a key that nobody sees raises nothing
pub none_see : (ws : List Watcher) (key : List ℕ) (c : Change) → key ≡ c.key → list_any (λ w. sees w key) ws ≡ false → [] ≡ events_of ws c
none_see ws key c same none =
    sym (ap (map (event_of c)) (none_kept (λ w. sees w c.key) ws (subst (λ k. list_any (λ w. sees w k) ws ≡ false) same none)))

-- a change of the same key, with the same values
pub same_events : (ws : List Watcher) (index : ℕ) (kind : WatchEventType) (key key2 value value2 : List ℕ) (prev prev2 : Option (List ℕ)) → key ≡ key2 → value ≡ value2 → prev ≡ prev2
    → events_of ws (record { index = index; kind = kind; key = key; value = value; prev = prev }) ≡ events_of ws (record { index = index; kind = kind; key = key2; value = value2; prev = prev2 })
same_events ws index kind key key2 value value2 prev prev2 keys values prevs =
    ap (λ k. events_of ws (let x : Change = record { index = index; kind = kind; key = k; value = value; prev = prev } in x)) keys
    ∙ ap (λ v. events_of ws (let x : Change = record { index = index; kind = kind; key = key2; value = v; prev = prev } in x)) values
    ∙ ap (λ p. events_of ws (let x : Change = record { index = index; kind = kind; key = key2; value = value2; prev = p } in x)) prevs
