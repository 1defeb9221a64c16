-- A run: the opening, and then the frames.
use Rattle.std.proofs.Common.{◌≡◌, ℕ, ◌≤◌, List, [], ◌∷◌, ◌++◌, length, Bool, true, false, if◌then◌else◌, Option, Some, inl, refl, sym, ◌∙◌, ap, subst, arith}
use Rattle.std.proofs.lemmas.List.{append-nil}
use Rattle.den_disk.specs.Files.{Files}
use Rattle.den_disk.specs.Goes.{Extends, added}
use Rattle.den_model.specs.declared.request.Frame.{Frame}
use Rattle.den_model.specs.Crash.{Survives, Stands, IsWhole, IsDone, IsAnswered, IsServed, bytes_of}
use Rattle.den_model.specs.Grown.{IsLogAfter}
use Rattle.den_model.specs.Kv.{Durable, Kv}
use Rattle.den_model.specs.Log.{Log}
use Rattle.den_model.specs.Plan.{after, output, new_term, first_cleanup, opening, turns, plan}
use Rattle.den_model.specs.Step.{Step, Raise, Noop, Cleanup, leads, moment_of}
use Rattle.den_model.proofs.Runs.{output_append}
use Rattle.den_core.proofs.FramesSoFar.{turns_none}
use Rattle.den_core.proofs.Lists.{added_is, added_none, added_twice, extends_by}
use Rattle.den_core.proofs.Reached.{begun_reached, reached_behind}
use Rattle.den_core.proofs.Stretch.{goes_on, whole_twice}
use Rattle.den_core.specs.Full.{IsBegun, IsReached}

-- a new term sends nothing
quiet_term : (kv : Kv) (leading : Bool) (moment : ℕ) → output kv (if leading then Raise ∷ Noop moment ∷ [] else []) ≡ []
quiet_term kv true moment = refl
quiet_term kv false moment = refl

-- nor does a cleanup
quiet_cleanup : (kv : Kv) (lease : Bool) (moment : ℕ) → output kv (if lease then Cleanup moment ∷ [] else []) ≡ []
quiet_cleanup kv true moment = refl
quiet_cleanup kv false moment = refl

-- so the opening sends nothing
pub opening_quiet : (kv : Kv) (moment : ℕ) → output kv (opening kv moment) ≡ []
opening_quiet kv moment =
    let begun = after kv (new_term kv moment) in
    output_append kv (new_term kv moment) (first_cleanup kv moment)
    ∙ ap (λ l. l ++ output begun (first_cleanup kv moment)) (quiet_term kv (leads kv) moment)
    ∙ quiet_cleanup begun kv.running.setting.lease moment

-- the opening at a reading, which is the first of those that were taken
module _ (kv : Kv) (all : List Frame) (reading moment : ℕ) (is_moment : moment ≡ moment_of reading) (opened : Kv) (r0 r1 r2 : List ℕ)
    (read : r1 ≡ r0 ++ reading ∷ []) (more : Extends r1 r2) (state : opened ≡ after kv (opening kv moment)) where
  all_taken : added r0 r2 ≡ reading ∷ added r1 r2
  all_taken = added_twice r0 r1 r2 (extends_by r0 r1 (reading ∷ []) read) more ∙ ap (λ l. l ++ added r1 r2) (added_is r0 r1 (reading ∷ []) read)

  pub is_plan : opening kv moment ++ turns opened all (added r1 r2) ≡ plan kv all (added r0 r2)
  is_plan = ap (λ k. opening kv moment ++ turns k all (added r1 r2)) state
      ∙ ap (λ m. opening kv m ++ turns (after kv (opening kv m)) all (added r1 r2)) is_moment
      ∙ ap (plan kv all) (sym all_taken)

  -- the frames were served, with the log as it was, behind the opening and at the end
  module _ (holds : Files → Option Durable) (sent : List (ℕ × ℕ)) (log opened_log new_log : Log) (left : List ℕ) (new : Kv) (first : IsLogAfter log kv (opening kv moment) opened_log)
      (done : IsDone left (length (added r1 r2)) (length all) sent opened opened_log (turns opened all (added r1 r2)) new new_log) where
    every : IsWhole sent kv log (opening kv moment ++ turns opened all (added r1 r2)) new new_log
    every = whole_twice holds [] sent kv opened new log opened_log new_log (opening kv moment) (turns opened all (added r1 r2))
        (record { state = state; bytes = sym (opening_quiet kv moment); logged = first }) done.whole

    pub runs_answered : IsAnswered left (length (added r0 r2)) (length all) sent kv (plan kv all (added r0 r2))
    runs_answered = record {
      at_end = done.at_end;
      one_each = omega (arith, ap length all_taken, done.one_each);
      output_sent = every.bytes ∙ ap (output kv) is_plan;
    }

    pub runs_whole : (logs : Files → Option Log) (later : ℕ → Files → Type 0) (to : ℕ) → Stands holds later to new.durable → ((files : Files) → later to files → logs files ≡ Some new_log)
        → IsServed holds logs later to left (length (added r0 r2)) (length all) sent kv log (plan kv all (added r0 r2))
    runs_whole logs later to stands gives = record {
      answered = runs_answered;
      end_stands = subst (λ (k : Kv). Stands holds later to k.durable) (every.state ∙ ap (after kv) is_plan) stands;
      log_stands = record { each = λ files at. (new_log, gives files at, subst (λ steps. IsLogAfter log kv steps new_log) is_plan every.logged) };
    }

module _ (holds : Files → Option Durable) (kv : Kv) (all : List Frame) (images : ℕ → Files → Type 0) (from mid : ℕ) (reading moment : ℕ) (is_moment : moment ≡ moment_of reading)
    (begun : Survives holds images from mid [] kv (opening kv moment)) where
  -- the opening was begun
  pub opens_only : (r0 r1 : List ℕ) (s0 : List (ℕ × ℕ)) → r1 ≡ r0 ++ reading ∷ [] → Survives holds images from mid (added s0 s0) kv (plan kv all (added r0 r1))
  opens_only r0 r1 s0 read = subst (λ s. Survives holds images from mid s kv (plan kv all (added r0 r1))) (sym (added_none s0))
      (subst (λ r. Survives holds images from mid [] kv (plan kv all r)) (sym (added_is r0 r1 (reading ∷ []) read))
      (subst (λ m. Survives holds images from mid [] kv (opening kv m ++ turns (after kv (opening kv m)) all [])) is_moment
      (subst (λ more. Survives holds images from mid [] kv (opening kv moment ++ more)) (sym (turns_none (after kv (opening kv moment)) all))
      (subst (λ steps. Survives holds images from mid [] kv steps) (sym (append-nil (opening kv moment))) begun))))

  -- it was made, and frames were begun: readings r0 at the start, r1 behind the opening, r2 at the end
  pub runs : (later : ℕ → Files → Type 0) (to : ℕ) (opened : Kv) (r0 r1 r2 : List ℕ) (sent : List (ℕ × ℕ)) → from ≤ mid → mid ≤ to → ((t : ℕ) (files : Files) → t ≤ mid → later t files → images t files)
      → r1 ≡ r0 ++ reading ∷ [] → Extends r1 r2 → opened ≡ after kv (opening kv moment)
      → Survives holds later mid to sent opened (turns opened all (added r1 r2)) → Survives holds later from to sent kv (plan kv all (added r0 r2))
  runs later to opened r0 r1 r2 sent low high past read more state next =
      subst (λ steps. Survives holds later from to sent kv steps) (is_plan kv all reading moment is_moment opened r0 r1 r2 read more state)
      (goes_on holds images later from mid to [] sent kv opened (opening kv moment) (turns opened all (added r1 r2)) low high past begun state (sym (opening_quiet kv moment)) next)

-- the opening was refused
pub opening_reached : (first : Kv) (old : Log) (all : List Frame) (r0 r1 : List ℕ) (reading moment : ℕ) (s0 : List (ℕ × ℕ)) (kv : Kv) (log : Log) (next : Step)
    → r1 ≡ r0 ++ reading ∷ [] → moment ≡ moment_of reading → IsBegun first old (opening first moment) kv log next → IsReached first old (plan first all (added r0 r1)) (bytes_of (added s0 s0)) kv log next
opening_reached first old all r0 r1 reading moment s0 kv log next read is_moment begun =
    let is_all : opening first moment ≡ plan first all (added r0 r1) =
    sym (append-nil (opening first moment)) ∙ ap (λ l. opening first moment ++ l) (sym (turns_none (after first (opening first moment)) all))
    ∙ ap (λ m. opening first m ++ turns (after first (opening first m)) all []) is_moment ∙ ap (plan first all) (sym (added_is r0 r1 (reading ∷ []) read)) in
    reached_behind first first old old [] (opening first moment) (plan first all (added r0 r1)) [] [] (bytes_of (added s0 s0)) kv log next
    refl refl (inl refl) is_all (ap bytes_of (added_none s0)) (begun_reached first old (opening first moment) kv log next begun)

-- a frame's step was, behind it
pub frames_reached : (first opened : Kv) (old opened_log : Log) (all : List Frame) (r0 r1 r2 : List ℕ) (reading moment : ℕ) (sent : List ℕ) (kv : Kv) (log : Log) (next : Step)
    → r1 ≡ r0 ++ reading ∷ [] → Extends r1 r2 → moment ≡ moment_of reading → opened ≡ after first (opening first moment) → IsLogAfter old first (opening first moment) opened_log
    → IsReached opened opened_log (turns opened all (added r1 r2)) sent kv log next → IsReached first old (plan first all (added r0 r2)) sent kv log next
frames_reached first opened old opened_log all r0 r1 r2 reading moment sent kv log next read more is_moment state logged reached =
    reached_behind first opened old opened_log (opening first moment) (turns opened all (added r1 r2)) (plan first all (added r0 r2)) [] sent sent kv log next
    state (sym (opening_quiet first moment)) logged (is_plan first all reading moment is_moment opened r0 r1 r2 read more state) refl reached
