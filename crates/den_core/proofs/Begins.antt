-- An engine that is opened over stores: what they stood for, and then the opening.
use Rattle.std.proofs.Common.{◌≡◌, ℕ, ◌+◌, ◌≤◌, IsTrue, List, [], ◌∷◌, ◌++◌, length, Bool, true, false, if◌then◌else◌, Option, Some, inl, inr, refl, sym, ◌∙◌, ap, subst, arith}
use Rattle.std.proofs.lemmas.List.{append-nil}
use Rattle.den_disk.specs.declared.disk.Disk.{Ghosts}
use Rattle.den_disk.specs.Files.{Files, Kind}
use Rattle.den_disk.specs.Goes.{added}
use Rattle.den_journal.specs.Writes.{GoesOn}
use Rattle.den_model.specs.declared.log_id.HardState.{HardState}
use Rattle.den_model.specs.Crash.{Survives}
use Rattle.den_model.specs.Grown.{IsLogAfter, IsPurgedUpTo}
use Rattle.den_model.specs.Image.{durable}
use Rattle.den_model.specs.Kv.{Durable, Kv, Running}
use Rattle.den_model.specs.Log.{Log, above}
use Rattle.den_model.specs.MapState.{MapState}
use Rattle.den_model.specs.Plan.{after, opening, plan}
use Rattle.den_model.specs.Step.{Cleanup, Noop, Raise, Step, leads, moment_of}
use Rattle.den_watch.specs.Registry.{nobody}
use Rattle.den_model.proofs.Grown.{log_twice}
use Rattle.den_core.proofs.Lists.{added_is}
use Rattle.den_core.proofs.Stretch.{goes_on}
use Rattle.den_core.proofs.Weighing.{same_short, short_step}
use Rattle.den_core.specs.Beginning.{beginning, start, IsOpened, IsOpeningTooShort}
use Rattle.den_core.specs.Full.{IsBegun, IsSlotTooShort, IsStepTooShort}
use Rattle.den_core.specs.Making.{LogIsShort, Made, Seen}
use Rattle.den_core.specs.PayloadSizes.{opened_sizes}
use Rattle.den_core.specs.Weights.{opening_rise}

-- what was found is what the stores stood for
pub start_is : (found : Option Durable) (kept : Durable) (kv : Kv) (running : Running) → found ≡ Some kv.durable → found ≡ Some kept → kv.running ≡ running → kv ≡ start kept running
start_is found kept kv running one two same =
    let both : Some kv.durable ≡ Some kept = sym one ∙ two in
    let is : kv.durable ≡ kept = cc in
    ap (λ d. start d kv.running) is ∙ ap (start kept) same

-- the opening at the one reading that was taken
pub beginning_is : (kept : Durable) (running : Running) (kv : Kv) (r0 r1 : List ℕ) (reading moment : ℕ) → kv ≡ start kept running → r1 ≡ r0 ++ reading ∷ [] → moment ≡ moment_of reading
    → opening kv moment ≡ beginning kept running (added r0 r1)
beginning_is kept running kv r0 r1 reading moment same read is_moment =
    let first = start kept running in
    ap (λ k. opening k moment) same ∙ ap (opening first) is_moment ∙ sym (append-nil (opening first (moment_of reading)))
    ∙ ap (plan first []) (sym (added_is r0 r1 (reading ∷ []) read))

pub one_added : (r0 r1 : List ℕ) (reading : ℕ) → r1 ≡ r0 ++ reading ∷ [] → length (added r0 r1) ≡ 1
one_added r0 r1 reading read = ap length (added_is r0 r1 (reading ∷ []) read)

-- bringing the stores together moved nothing, and then the opening's steps were begun
pub begins : (holds : Files → Option Durable) (old_images images : ℕ → Files → Type 0) (from mid to : ℕ) (kept : Durable) (running : Running) (kv : Kv) (r0 r1 : List ℕ) (reading moment : ℕ)
    → from ≤ mid → mid ≤ to → ((t : ℕ) (files : Files) → t ≤ mid → images t files → old_images t files)
    → Survives holds old_images from mid [] (start kept running) [] → kv ≡ start kept running → r1 ≡ r0 ++ reading ∷ [] → moment ≡ moment_of reading
    → Survives holds images mid to [] kv (opening kv moment) → Survives holds images from to [] (start kept running) (beginning kept running (added r0 r1))
begins holds old_images images from mid to kept running kv r0 r1 reading moment low high past still same read is_moment begun =
    subst (λ steps. Survives holds images from to [] (start kept running) steps) (beginning_is kept running kv r0 r1 reading moment same read is_moment)
    (goes_on holds old_images images from mid to [] [] (start kept running) kv [] (opening kv moment) low high past still same refl begun)

-- of a log that was purged before the first step
begun_purged : (first : Kv) (l old : Log) (steps : List Step) (kv : Kv) (log : Log) (next : Step) → IsPurgedUpTo first.durable.last_index l old → IsBegun first old steps kv log next → IsBegun first l steps kv log next
begun_purged first l old steps kv log next purged begun = record {
  made = begun.made;
  rest = begun.rest;
  parts = begun.parts;
  state = begun.state;
  left_is = (log_twice l old log first first [] begun.made refl purged begun.left_is.0, begun.left_is.1);
}

-- too little room for the entries above the mark, or for a purge
pub first_short : (clock_told : Type 0) (l : Log) (h : Option HardState) (s : MapState) (running : Running) (readings : List ℕ) (entries weight heaviest needed : ℕ) (files : Files) → weight ≤ heaviest
    → IsSlotTooShort (opened_sizes running.setting.role entries l s (above s.mark.index l.entries)) weight needed files → IsOpeningTooShort clock_told l h s running readings entries heaviest needed files
first_short clock_told l h s running readings entries weight heaviest needed files le slot =
    inl (same_short (opened_sizes running.setting.role entries l s (above s.mark.index l.entries)) weight heaviest needed files le slot)

-- too little room for one of the opening's steps
pub later_short : (clock_told : Type 0) (l : Log) (h : Option HardState) (s : MapState) (running : Running) (r0 r1 : List ℕ) (reading moment : ℕ) (entries same weight heaviest needed : ℕ) (files : Files) (first : Kv) (old : Log)
    → durable l h s ≡ Some first.durable → first.running ≡ running → IsPurgedUpTo first.durable.last_index l old → (clock_told → r1 ≡ r0 ++ reading ∷ []) → moment ≡ moment_of reading → same ≡ entries → weight ≤ heaviest
    → IsStepTooShort (IsBegun first old (opening first moment)) same weight needed files → IsOpeningTooShort clock_told l h s running (added r0 r1) entries heaviest needed files
later_short clock_told l h s running r0 r1 reading moment entries same weight heaviest needed files first old found ran purged read is_moment same_most le step =
    inr (short_step (IsBegun first old (opening first moment))
    (λ kv log next. clock_told → (kept : Durable) → durable l h s ≡ Some kept → IsBegun (start kept running) l (beginning kept running (added r0 r1)) kv log next) entries same weight heaviest needed files
    (λ kv log next begun told kept is.
    let same_kv = start_is (durable l h s) kept first running found is ran in
    subst (λ k. IsBegun k l (beginning kept running (added r0 r1)) kv log next) same_kv
    (begun_purged first l old (beginning kept running (added r0 r1)) kv log next purged
    (subst (λ steps. IsBegun first old steps kv log next) (beginning_is kept running first r0 r1 reading moment same_kv (read told) is_moment) begun)))
    same_most le step)

-- an opening's steps note a cleanup, and leave all else of the run's part
opened_run : (led lease : Bool) (kv : Kv) (moment : ℕ) (last : Option ℕ) → let steps : List Step = (if led then Raise ∷ Noop moment ∷ [] else []) ++ (if lease then Cleanup moment ∷ [] else []) in
    (let x : Running = record (after kv steps).running { cleaned = last } in x) ≡ record kv.running { cleaned = last }
opened_run true true kv moment last = refl
opened_run true false kv moment last = refl
opened_run false true kv moment last = refl
opened_run false false kv moment last = refl

-- whether it leads or not
led_or_not : (led : Bool) (P : Type 0) → (led ≡ true → P) → (led ≡ false → P) → P
led_or_not true P leading following = leading refl
led_or_not false P leading following = following refl

-- it was opened: the stores were brought together, and the opening's steps made
pub opened : {D : Type 0} (disk : Ghosts D) (clock_told : Type 0) (l : Log) (h : Option HardState) (s : MapState) (running : Running) (r0 r1 : List ℕ) (reading moment entries heaviest : ℕ) (was now : Seen) (old mid new : D)
    → GoesOn disk old mid → durable l h s ≡ Some was.kv.durable → was.kv.running ≡ running → IsPurgedUpTo was.kv.durable.last_index l was.log → was.most ≡ entries → was.weight + opening_rise ≤ heaviest
    → (clock_told → r1 ≡ r0 ++ reading ∷ []) → moment ≡ moment_of reading → now.most ≡ was.most → Made disk was now mid new (opening was.kv moment) opening_rise
    → (leads was.kv ≡ true → LogIsShort now) → (leads was.kv ≡ false → LogIsShort was) → (LogIsShort was → LogIsShort now) → (leads was.kv ≡ true → now.short) → was.waits ≡ nobody running.setting.buffer running.setting.maximum → now.waits ≡ was.waits → IsOpened disk clock_told l h s running (added r0 r1) entries heaviest now old new
opened disk clock_told l h s running r0 r1 reading moment entries heaviest was now old mid new on found ran purged most_is le read is_moment same_most made led short short_kept state_led waits same_waits =
    let kept = was.kv.durable in
    let same : was.kv ≡ start kept running = start_is (durable l h s) kept was.kv running found found ran in
    record {
      kept = kept;
      is_kept = found;
      one_reading = λ told. one_added r0 r1 reading (read told);
      state = λ told. made.state ∙ ap (λ k. after k (opening was.kv moment)) same
          ∙ ap (after (start kept running)) (beginning_is kept running was.kv r0 r1 reading moment same (read told) is_moment);
      logged = λ told. subst (λ k. IsLogAfter l k (beginning kept running (added r0 r1)) now.log) same
          (log_twice l was.log now.log was.kv was.kv [] (beginning kept running (added r0 r1)) refl purged
          (subst (λ steps. IsLogAfter was.log was.kv steps now.log) (beginning_is kept running was.kv r0 r1 reading moment same (read told) is_moment) made.logged));
      run_is = ap (λ (k : Kv). let x : Running = record k.running { cleaned = running.cleaned } in x) made.state
          ∙ opened_run (leads was.kv) was.kv.running.setting.lease was.kv moment running.cleaned
          ∙ ap (λ (r : Running). let x : Running = record r { cleaned = running.cleaned } in x) ran;
      waits = same_waits ∙ waits;
      same_most = same_most ∙ most_is;
      weight = omega (arith, made.weight, le);
      short = led_or_not (leads was.kv) (LogIsShort now) led (λ follows. short_kept (short follows));
      state_short = λ lead. state_led (ap leads same ∙ lead);
      ready = made.ready;
      rests = λ told. made.rests (subst (λ (k : Kind). IsTrue k.tells) (sym on.same) told);
    }
