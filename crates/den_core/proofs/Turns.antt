-- A turn's steps and the opening's: a cleanup that is made or not, and what a frame asks for.
use Rattle.std.proofs.Common.{◌≡◌, ℕ, ℤ, ◌≤◌, ◌+◌, Bool, true, false, List, [], ◌∷◌, ◌++◌, length, Result, Ok, Err, IfErr, if◌then◌else◌, inl, refl, sym, ◌∙◌, ap, subst, arith}
use Rattle.std.proofs.lemmas.List.{append-nil}
use Rattle.std.specs.Result.{IsErrAnd}
use Rattle.den_disk.specs.declared.disk.Disk.{Ghosts}
use Rattle.den_disk.specs.Files.{Content}
use Rattle.den_codec.specs.declared.error.Error.{Error}
use Rattle.den_codec.specs.declared.error.Error.TheVariants.{OutOfMemory}
use Rattle.den_journal.specs.Writes.{DiskTells}
use Rattle.den_model.specs.declared.command.Command.{Command}
use Rattle.den_model.specs.declared.reply.Reply.{Reply}
use Rattle.den_model.specs.declared.request.Frame.{Frame}
use Rattle.den_model.specs.Apply.{applied}
use Rattle.den_model.specs.Entries.{LogEntry}
use Rattle.den_model.specs.Grown.{appended, IsPurgedUpTo}
use Rattle.den_model.specs.Kv.{Durable, Kv, Running}
use Rattle.den_model.specs.Log.{Log}
use Rattle.den_model.specs.MapState.{MapState}
use Rattle.den_model.specs.Plan.{after, first_cleanup, logged, opening, output}
use Rattle.den_model.specs.Step.{Step, Raise, Noop, Cleanup, Ask, Outcome, answer, committed, leads, next_entry, says}
use Rattle.den_model.specs.Crash.{Survives}
use Rattle.den_disk.specs.Families.{OldOrNew}
use Rattle.den_state.specs.Machine.{Settings}
use Rattle.den_core.specs.declared.run.Run.{Run}
use Rattle.den_core.specs.Full.{IsBegun}
use Rattle.den_core.specs.Making.{CanGoOn, ChangesStores, IsCallTooShort, IsStepRefused, IsUntouched, Makes, Says, Seen}
use Rattle.den_core.specs.Parts.{IsReady}
use Rattle.den_core.specs.PayloadSizes.{PayloadSizes, entry_sizes, map_of}
use Rattle.den_core.specs.Refusals.{FailsOrStays, HasCleaned, HasJoined}
use Rattle.den_core.proofs.GoesOn.{disk_same}
use Rattle.den_core.proofs.Quiet.{moves}
use Rattle.den_core.proofs.Refusing.{at_exit, fails_behind, left_weaker, not_done}
use Rattle.den_core.proofs.Spared.{GivesAll, gives_old, spares_still}
use Rattle.den_core.proofs.Steps.{purged_after}
use Rattle.den_core.proofs.Weighing.{entries_among, heavier, short_slot}

-- ---- a cleanup, made or not

-- one where it is due
abbrev cleanup_where : Bool → ℕ → List Step
cleanup_where b moment = if b then Cleanup moment ∷ [] else []

-- steps behind it log what they do
pub cleanup_logged : (b : Bool) (kv : Kv) (moment : ℕ) (steps : List Step) → logged kv (cleanup_where b moment ++ steps) ≡ logged (after kv (cleanup_where b moment)) steps
cleanup_logged true kv moment steps = refl
cleanup_logged false kv moment steps = refl

-- it says nothing
pub cleanup_quiet : (b : Bool) (kv : Kv) (moment : ℕ) → output kv (cleanup_where b moment) ≡ []
cleanup_quiet true kv moment = refl
cleanup_quiet false kv moment = refl

-- keys that it took, of more steps
pub cleaned_more : (b : Bool) (kv : Kv) (moment : ℕ) (steps : List Step) → HasCleaned kv (cleanup_where b moment) → HasCleaned kv (cleanup_where b moment ++ steps)
cleaned_more true kv moment steps cleaned = cleaned
cleaned_more false kv moment steps cleaned = absurd cleaned

-- ---- a frame's step

-- both parts of a state
kv_is : (kv : Kv) (durable : Durable) (running : Running) → kv.durable ≡ durable → kv.running ≡ running → kv ≡ record { durable = durable; running = running }
kv_is kv durable running made same =
    ap (λ d. let x : Kv = record { durable = d; running = kv.running } in x) made ∙ ap (λ r. let x : Kv = record { durable = durable; running = r } in x) same

-- it is the only one of its call
ask_begun : (kv : Kv) (log : Log) (frame : Frame) (moment : ℕ) → IsBegun kv log (Ask frame moment ∷ []) kv log (Ask frame moment)
ask_begun kv log frame moment = record { made = []; rest = []; parts = refl; state = refl; left_is = (inl refl, refl) }

-- what it logs
ask_logged : (kv : Kv) (frame : Frame) (moment : ℕ) (o : Outcome) → answer kv moment frame ≡ o → logged kv (Ask frame moment ∷ []) ≡ o.logged
ask_logged kv frame moment o is = append-nil (answer kv moment frame).logged ∙ ap (λ (x : Outcome). x.logged) is

module _ {D : Type 0} (disk : Ghosts D) (was : Seen) (says_of : Says) (frame : Frame) (moment above : ℕ) (written : Type 0) where
  -- nothing is written
  module _ (at : D) (stands : CanGoOn disk was at) (holds : DiskTells disk at → says_of.told → GivesAll says_of.holds (disk.images at) (disk.moment at) (disk.moment at) was.kv.durable) where
    -- the durable part stays, as behind a reply at once or a watcher that was registered
    pub ask_stays : {U : Type 0} (o : Outcome) (now : Seen) (y : U) → answer was.kv moment frame ≡ o → o.logged ≡ [] → o.after.durable ≡ was.kv.durable → now.kv ≡ o.after → now.log ≡ was.log
        → now.most ≡ was.most → now.weight ≡ was.weight → now.ready → (DiskTells disk at → now.rests (disk.content at))
        → Makes disk was now at at says_of (Ask frame moment ∷ []) above (IsCallTooShort was (Ask frame moment ∷ [])) written (Ok y)
    ask_stays o now y is none durable state log most weight ready rests = record {
      goes_on = disk_same disk.kind disk.moment disk.images disk.faults at;
      snapshot = λ told. spares_still _ _ _ _ _;
      same_most = most;
      survives = λ told held. moves says_of.holds (disk.images at) (disk.moment at) (disk.moment at) was.kv (Ask frame moment) (gives_old _ _ _ _ _ _ (holds told held));
      done = record {
        state = state ∙ sym (ap (λ (x : Outcome). x.after) is);
        logged = purged_after was.log now.log was.kv (Ask frame moment ∷ []) (inl (log ∙ sym (ap (appended was.log) (ask_logged was.kv frame moment o is ∙ none))));
        weight = omega (arith, weight);
        ready = ready;
        rests = rests;
      };
      refused = tt;
    }

    -- a reply at once
    pub ask_said : {U : Type 0} (reply : Reply) (y : U) → answer was.kv moment frame ≡ says was.kv reply
        → Makes disk was was at at says_of (Ask frame moment ∷ []) above (IsCallTooShort was (Ask frame moment ∷ [])) written (Ok y)
    ask_said reply y is = ask_stays (says was.kv reply) was y is refl refl refl refl refl refl stands.ready stands.rests

    -- memory was wanting, and all that is seen stays
    pub ask_near : {U : Type 0} (now : Seen) → now.kv ≡ was.kv → now.waits ≡ was.waits → now.log ≡ was.log → now.most ≡ was.most → now.weight ≡ was.weight → (was.short → now.short) → (was.ready → now.ready)
        → (DiskTells disk at → was.rests (disk.content at) → now.rests (disk.content at)) → (e : Error) (r : Result U Error) → IsErrAnd r (λ y. y ≡ e) → e ≡ OutOfMemory
        → Makes disk was now at at says_of (Ask frame moment ∷ []) above (IsCallTooShort was (Ask frame moment ∷ [])) written r
    ask_near now kv waits log most weight short ready rests e r exit wants = record {
      goes_on = disk_same disk.kind disk.moment disk.images disk.faults at;
      snapshot = λ told. spares_still _ _ _ _ _;
      same_most = most;
      survives = λ told held. moves says_of.holds (disk.images at) (disk.moment at) (disk.moment at) was.kv (Ask frame moment) (gives_old _ _ _ _ _ _ (holds told held));
      done = not_done r e _ exit;
      refused = at_exit r e _ exit (subst (IsStepRefused disk was now at at says_of above (IsCallTooShort was (Ask frame moment ∷ [])) written) (sym wants) (record {
        cause = tt;
        full = tt;
        left = inl (record { same_kv = kv; same_waits = waits; same_log = log; same_weight = weight; same_disk = refl; stays_short = short; stays_ready = ready; stays_at_rest = rests });
      }));
    }

    -- and nothing was touched
    pub ask_wanted : {U : Type 0} (e : Error) (r : Result U Error) → IsErrAnd r (λ y. y ≡ e) → e ≡ OutOfMemory
        → Makes disk was was at at says_of (Ask frame moment ∷ []) above (IsCallTooShort was (Ask frame moment ∷ [])) written r
    ask_wanted e r exit wants = ask_near was refl refl refl refl refl (λ short. short) (λ ready. ready) (λ told rests. rests) e r exit wants

  -- an entry is committed
  module _ (command : Command) (is : answer was.kv moment frame ≡ committed was.kv moment command) (rise : ℕ) (le : rise ≤ above) (now : Seen) (old new : D) where
    ask_entry : logged was.kv (Ask frame moment ∷ []) ≡ next_entry was.kv moment command ∷ []
    ask_entry = ask_logged was.kv frame moment (committed was.kv moment command) is

    -- by these payloads
    abbrev CommitSizes : PayloadSizes
    CommitSizes = entry_sizes was.most was.log (map_of was.kv.durable) (next_entry was.kv moment command ∷ [])

    ask_moves : OldOrNew says_of.holds (disk.images new) (disk.moment old) (disk.moment new) was.kv.durable (applied was.kv.durable (next_entry was.kv moment command))
        → Survives says_of.holds (disk.images new) (disk.moment old) (disk.moment new) [] was.kv (Ask frame moment ∷ [])
    ask_moves one = moves says_of.holds (disk.images new) (disk.moment old) (disk.moment new) was.kv (Ask frame moment)
        (subst (λ d. OldOrNew says_of.holds (disk.images new) (disk.moment old) (disk.moment new) was.kv.durable d) (sym (ap (λ (o : Outcome). o.after.durable) is)) one)

    pub ask_made : {T U : Type 0} (x : T) (y : U) → now.kv.running ≡ was.kv.running → now.ready
        → ChangesStores disk was now old new says_of (applied was.kv.durable (next_entry was.kv moment command)) (next_entry was.kv moment command ∷ []) CommitSizes rise (Ok x)
        → Makes disk was now old new says_of (Ask frame moment ∷ []) above (IsCallTooShort was (Ask frame moment ∷ [])) written (Ok y)
    ask_made x y same ready makes = record {
      goes_on = makes.goes_on;
      snapshot = makes.snapshot;
      same_most = makes.same_most;
      survives = λ told held. ask_moves (makes.moves told held);
      done = record {
        state = kv_is now.kv _ _ makes.done.durable same ∙ sym (ap (λ (o : Outcome). o.after) is);
        logged = purged_after was.log now.log was.kv (Ask frame moment ∷ [])
            (subst (λ (o : Outcome). IsPurgedUpTo o.after.durable.last_index (appended was.log (logged was.kv (Ask frame moment ∷ []))) now.log) (sym is)
            (subst (λ es. IsPurgedUpTo (applied was.kv.durable (next_entry was.kv moment command)).last_index (appended was.log es) now.log) (sym ask_entry) makes.done.logged));
        weight = omega (arith, makes.done.weight, le);
        ready = ready;
        rests = makes.done.rests;
      };
      refused = tt;
    }

    pub ask_refused : {T U : Type 0} (e : Error) (r : Result U Error) → IsErrAnd r (λ y. y ≡ e) → (HasJoined was.log (logged was.kv (Ask frame moment ∷ [])) now.log → written)
        → ChangesStores disk was now old new {T = T} says_of (applied was.kv.durable (next_entry was.kv moment command)) (next_entry was.kv moment command ∷ []) CommitSizes rise (Err e)
        → Makes disk was now old new says_of (Ask frame moment ∷ []) above (IsCallTooShort was (Ask frame moment ∷ [])) written r
    ask_refused e r exit so makes = record {
      goes_on = makes.goes_on;
      snapshot = makes.snapshot;
      same_most = makes.same_most;
      survives = λ told held. ask_moves (makes.moves told held);
      done = not_done r e _ exit;
      refused = at_exit r e _ exit (record {
        cause = makes.refused.cause;
        full = heavier _ _ _ _ _ _ _ _ e (λ t. t)
            (λ needed t short. record {
              kv = was.kv;
              log = was.log;
              next = Ask frame moment;
              is_begun = ask_begun was.kv was.log frame moment;
              short = short_slot _ _ _ _ needed _ (entries_among was.most was.log (map_of was.kv.durable) _ _ (sym (ap (λ (o : Outcome). o.logged) is))) (omega (arith, le)) short;
            })
            refl (omega (arith, le)) makes.refused.full;
        left = left_weaker e _ _ _ _ (λ joined. so (subst (λ es. HasJoined was.log es now.log) (sym ask_entry) joined)) makes.refused.left;
      });
    }

-- ---- a refusal behind a cleanup

-- The same stepper, with another run's part.
pub record IsAside (one two : Seen) (running : Running) : Type 0 where
  pub kv : two.kv ≡ record { durable = one.kv.durable; running = running }
  pub waits : two.waits ≡ one.waits
  pub log : two.log ≡ one.log
  pub weight : two.weight ≡ one.weight
  pub short : one.short → two.short
  pub ready : one.ready → two.ready
  pub rests : (content : Content) → one.rests content → two.rests content

-- it can go on with another run's part that goes with it
pub ready_aside : (log_ready meta_ready state_ready : Type 0) (l : Log) (s : MapState) (role : ℤ) (settings : Settings) (one two : Run) → two.role ≡ one.role → two.lease ≡ one.lease
    → IsReady log_ready meta_ready state_ready l s role settings one → IsReady log_ready meta_ready state_ready l s role settings two
ready_aside log_ready meta_ready state_ready l s role settings one two same_role same_lease ready = record {
  log = ready.log;
  meta = ready.meta;
  state = ready.state;
  caught_up = ready.caught_up;
  goes_with = record { role_is = same_role ∙ ready.goes_with.role_is; lease_is = same_lease ∙ ready.goes_with.lease_is };
  runs = ready.runs;
}

-- a call that left all as it was, behind a cleanup that took nothing and of which no moment is kept
pub untouched_aside : {D : Type 0} (disk : Ghosts D) (was mid now left : Seen) (old between new : D) (running : Running)
    → IsAside was mid running → IsAside now left was.kv.running → between ≡ old → IsUntouched disk mid now between new → IsUntouched disk was left old new
untouched_aside disk was mid now left old between new running one two same still = record {
  same_kv = two.kv ∙ ap (λ (k : Kv). let x : Kv = record { durable = k.durable; running = was.kv.running } in x) (still.same_kv ∙ one.kv);
  same_waits = two.waits ∙ still.same_waits ∙ one.waits;
  same_log = two.log ∙ still.same_log ∙ one.log;
  same_weight = two.weight ∙ still.same_weight ∙ one.weight;
  same_disk = still.same_disk ∙ same;
  stays_short = λ short. two.short (still.stays_short (one.short short));
  stays_ready = λ ready. two.ready (still.stays_ready (one.ready ready));
  stays_at_rest = λ told rests. two.rests (disk.content new)
      (still.stays_at_rest (subst (λ d. DiskTells disk d) (sym same) told) (one.rests (disk.content between) (subst (λ d. was.rests (disk.content d)) (sym same) rests)));
}

-- entries joined the log behind a cleanup, of which the log has none
pub joined_aside : (old mid now left : Log) (es same : List LogEntry) → mid ≡ old → left ≡ now → es ≡ same → HasJoined mid es now → HasJoined old same left
joined_aside old mid now left es same before behind is joined = record {
  some = subst (λ (xs : List LogEntry). 1 ≤ length xs) is joined.some;
  joined = behind ∙ joined.joined ∙ ap (λ l. appended l es) before ∙ ap (appended old) is;
}

-- by both values
pub either_way : {P : Type 0} (b : Bool) → (b ≡ true → P) → (b ≡ false → P) → P
either_way true some none = some refl
either_way false some none = none refl

-- what a refusal leaves, where keys were taken and where none was
pub left_behind : (took : Bool) (e : Error) (failed untouched written : Type 0) → (took ≡ true → failed × written) → (took ≡ false → FailsOrStays failed untouched written e) → FailsOrStays failed untouched written e
left_behind true e failed untouched written some none = fails_behind e failed untouched written (some refl).0 (some refl).1
left_behind false e failed untouched written some none = none refl

-- ---- the opening

-- a refusal behind a term that was begun
pub fails_when : {T : Type 0} (r : Result T Error) (failed untouched written more : Type 0) → IfErr r (λ e. true ≡ true → failed × written) → (written → more) → IfErr r (FailsOrStays failed untouched more)
fails_when (Ok x) failed untouched written more fails so = tt
fails_when (Err e) failed untouched written more fails so = fails_behind e failed untouched more (fails refl).0 (so (fails refl).1)

-- of one that leads
pub opening_leads : (kv : Kv) (moment : ℕ) → leads kv ≡ true → opening kv moment ≡ (Raise ∷ Noop moment ∷ []) ++ first_cleanup kv moment
opening_leads kv moment is = ap (λ b. (if b then Raise ∷ Noop moment ∷ [] else []) ++ first_cleanup kv moment) is

-- of another
pub opening_rest : (kv : Kv) (moment : ℕ) → leads kv ≡ false → opening kv moment ≡ first_cleanup kv moment
opening_rest kv moment is = ap (λ b. (if b then Raise ∷ Noop moment ∷ [] else []) ++ first_cleanup kv moment) is

-- a cleanup behind a term, with the run's part as it was
pub opening_is : (kv between : Kv) (moment : ℕ) → leads kv ≡ true → between ≡ after kv (Raise ∷ Noop moment ∷ [])
    → (Raise ∷ Noop moment ∷ []) ++ first_cleanup between moment ≡ opening kv moment
opening_is kv between moment leader state = ap (λ k. (Raise ∷ Noop moment ∷ []) ++ first_cleanup k moment) state ∙ sym (opening_leads kv moment leader)

-- the term that it raised
pub opening_term : (kv between : Kv) (term : ℕ) (moment : ℕ) → between ≡ after kv (Raise ∷ Noop moment ∷ []) → term ≡ between.durable.term → term ≡ kv.durable.term + 1
opening_term kv between term moment state same = same ∙ ap (λ (k : Kv). k.durable.term) state
