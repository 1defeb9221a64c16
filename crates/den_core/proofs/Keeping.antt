-- What waits for watchers behind a turn whose events are kept, and what the turn then comes to.
use Rattle.std.proofs.Common.{◌≡◌, ◌⊎◌, ℕ, Bool, true, false, List, [], ◌∷◌, ◌++◌, length, map, Option, Result, Ok, Err, if◌then◌else◌, nat_lt, inl, inr, refl, sym, ◌∙◌, ap, subst, arith}
use Rattle.std.specs.Result.{IsErrAnd}
use Rattle.den_disk.specs.declared.disk.Disk.{Ghosts}
use Rattle.den_disk.specs.Files.{Content, Files}
use Rattle.den_codec.specs.declared.error.Error.{Error}
use Rattle.den_codec.specs.declared.error.Error.TheVariants.{OutOfMemory}
use Rattle.den_model.specs.declared.log_id.HardState.{HardState}
use Rattle.den_model.specs.declared.reply.WatchEvent.{WatchEvent}
use Rattle.den_model.specs.declared.watcher.Watcher.{Watcher}
use Rattle.den_model.specs.Grown.{IsLogAfter}
use Rattle.den_model.specs.Kv.{Kv, Running}
use Rattle.den_model.specs.MapState.{MapState}
use Rattle.den_model.specs.Step.{Step}
use Rattle.den_watch.specs.Registry.{Registry, Waiting, given, given_all, kept, named, watchers}
use Rattle.den_core.specs.declared.run.Run.{Run}
use Rattle.den_core.specs.Making.{IsStepRefused, Makes, Says, Seen}
use Rattle.den_core.specs.Parts.{kv_of, running_seen}
use Rattle.den_core.proofs.Refusing.{at_exit, left_weaker, not_done}

-- ---- what is given to watchers

-- the same watcher by each test
who_either : (x y : Bool) (w one two : Waiting) → one.watcher ≡ w.watcher → two.watcher ≡ w.watcher → (if x then w else if y then one else two).watcher ≡ w.watcher
who_either true y w one two is also = refl
who_either false true w one two is also = is
who_either false false w one two is also = also

-- an event is given to the same watcher
who_given : (buffer : ℕ) (w : Waiting) (e : WatchEvent) → (given buffer w e).watcher ≡ w.watcher
who_given buffer w e = who_either w.ended (nat_lt (length w.events) buffer) w (record w { events = w.events ++ e ∷ [] }) (record w { ended = true }) refl refl

-- and so are events
who_given_all : (buffer : ℕ) (w : Waiting) (events : List WatchEvent) → (given_all buffer w events).watcher ≡ w.watcher
who_given_all buffer w [] = refl
who_given_all buffer w (e ∷ events) = who_given_all buffer (given buffer w e) events ∙ who_given buffer w e

-- each watcher is the same
each_watcher : (buffer : ℕ) (events : List WatchEvent) (ws : List Waiting) → map (λ (w : Waiting). w.watcher) (map (λ w. given_all buffer w (named events w)) ws) ≡ map (λ w. w.watcher) ws
each_watcher buffer events [] = refl
each_watcher buffer events (w ∷ ws) =
    ap (λ (x : Watcher). x ∷ map (λ (v : Waiting). v.watcher) (map (λ v. given_all buffer v (named events v)) ws)) (who_given_all buffer w (named events w))
    ∙ ap (λ l. w.watcher ∷ l) (each_watcher buffer events ws)

-- events leave who watches
pub watchers_kept : (events : List WatchEvent) (r : Registry) → watchers (kept events r) ≡ watchers r
watchers_kept events r = each_watcher r.buffer events r.waiting

-- no event is given
none_given : (buffer : ℕ) (ws : List Waiting) → map (λ w. given_all buffer w (named [] w)) ws ≡ ws
none_given buffer [] = refl
none_given buffer (w ∷ ws) = ap (λ l. w ∷ l) (none_given buffer ws)

-- no event leaves all as it was
pub kept_none : (r : Registry) → kept [] r ≡ r
kept_none r = ap (λ ws. let x : Registry = record r { waiting = ws } in x) (none_given r.buffer r.waiting)

-- a list of no length
pub none_of : {A : Type 0} (xs : List A) → length xs ≡ 0 → xs ≡ []
none_of [] none = refl
none_of (x ∷ xs) none = absurd (omega arith)

-- so does a run's part
pub run_none : (run : Run) (events : List WatchEvent) → events ≡ [] → run ≡ record run { registry = kept events run.registry }
run_none run events none = ap (λ r. let x : Run = record run { registry = r } in x) (sym (ap (λ es. kept es run.registry) none ∙ kept_none run.registry))

-- the definitions see nothing of events that wait
pub running_kept : (run left : Run) (events : List WatchEvent) → left ≡ record run { registry = kept events run.registry } → running_seen left ≡ running_seen run
running_kept run left events is =
    ap running_seen is ∙ ap (λ ws. let x : Running = record (running_seen run) { watchers = ws } in x) (watchers_kept events run.registry)

-- nor does what an engine holds
pub kv_kept : (h : Option HardState) (s : MapState) (run left : Run) (events : List WatchEvent) → left ≡ record run { registry = kept events run.registry } → kv_of h s left ≡ kv_of h s run
kv_kept h s run left events is = ap (λ r. let x : Kv = record (kv_of h s run) { running = r } in x) (running_kept run left events is)

-- ---- what a call comes to

-- one cause more
pub either_more : {A B C : Type 0} → A ⊎ B → A ⊎ B ⊎ C
either_more (inl a) = inl a
either_more (inr b) = inr (inl b)

module _ {D : Type 0} (disk : Ghosts D) (was now : Seen) (old new : D) (says : Says) (steps : List Step) (rise : ℕ) (short : (most needed : ℕ) → Files → Type 0) (written more : Type 0) where
  -- a callee's refusal is answered
  pub refused_so : {T U : Type 0} (e : Error) (r : Result U Error) → IsErrAnd r (λ y. y ≡ e) → (written → more)
      → Makes disk was now old new {T = T} says steps rise short written (Err e) → Makes disk was now old new says steps rise short more r
  refused_so e r exit so one = record {
    goes_on = one.goes_on;
    snapshot = one.snapshot;
    same_most = one.same_most;
    survives = one.survives;
    done = not_done r e _ exit;
    refused = at_exit r e _ exit (record {
      cause = one.refused.cause;
      full = one.refused.full;
      left = left_weaker e _ _ _ _ so one.refused.left;
    });
  }

  module _ {T U : Type 0} (left : Seen) (x : T) (same_most : left.most ≡ now.most) (one : Makes disk was now old new says steps rise short written (Ok x)) where
    -- a stepper of which the same is seen
    pub made_aside : (y : U) → left.kv ≡ now.kv → left.log ≡ now.log → left.weight ≡ now.weight → (now.ready → left.ready) → ((c : Content) → now.rests c → left.rests c)
        → Makes disk was left old new says steps rise short more (Ok y)
    made_aside y kv log weight ready rests = record {
      goes_on = one.goes_on;
      snapshot = one.snapshot;
      same_most = same_most ∙ one.same_most;
      survives = one.survives;
      done = record {
        state = kv ∙ one.done.state;
        logged = subst (IsLogAfter was.log was.kv steps) (sym log) one.done.logged;
        weight = omega (arith, one.done.weight, weight);
        ready = ready one.done.ready;
        rests = λ told. rests (disk.content new) (one.done.rests told);
      };
      refused = tt;
    }

    -- memory was wanting behind the steps
    pub wanted_behind : (e : Error) → e ≡ OutOfMemory → left.failed → more → Makes disk was left old new {T = U} says steps rise short more (Err e)
    wanted_behind e wants failed wrote = record {
      goes_on = one.goes_on;
      snapshot = one.snapshot;
      same_most = same_most ∙ one.same_most;
      survives = one.survives;
      done = tt;
      refused = subst (IsStepRefused disk was left old new says rise short more) (sym wants) (record { cause = tt; full = tt; left = inr (failed, wrote) });
    }
