-- The frames that were served so far, each with its reading, and one more.
use Rattle.std.proofs.Common.{◌≡◌, ℕ, ◌≤◌, List, [], ◌∷◌, ◌++◌, length, drop, Option, refl, sym, ◌∙◌, ap, subst, arith, append_assoc}
use Rattle.std.proofs.lemmas.List.{append-nil, drop-drop, length-drop, length_push}
use Rattle.den_disk.specs.Files.{Files}
use Rattle.den_disk.specs.Goes.{Extends, added}
use Rattle.den_model.specs.declared.request.Frame.{Frame}
use Rattle.den_model.specs.Crash.{Survives, Stands, IsWhole, IsDone, bytes_of}
use Rattle.den_model.specs.Frames.{frames, frames_behind}
use Rattle.den_model.specs.Kv.{Durable, Kv}
use Rattle.den_model.specs.Log.{Log}
use Rattle.den_model.specs.Plan.{after, turn, turns}
use Rattle.den_model.specs.Step.{Step, moment_of}
use Rattle.den_model.proofs.Grown.{log_after}
use Rattle.den_model.proofs.Runs.{after_append}
use Rattle.den_core.proofs.Lists.{added_is, added_none, added_twice, extends_by}
use Rattle.den_core.proofs.Reached.{begun_reached, reached_behind}
use Rattle.den_core.proofs.Stretch.{goes_on, whole_twice}
use Rattle.den_core.specs.Full.{IsBegun, IsReached}

-- no turn without a reading
pub turns_none : (kv : Kv) (all : List Frame) → turns kv all [] ≡ []
turns_none kv [] = refl
turns_none kv (f ∷ all) = refl

-- one reading more, where a frame is left
pub turns_push : (kv : Kv) (all : List Frame) (readings : List ℕ) (frame : Frame) (rest : List Frame) (reading : ℕ) → drop (length readings) all ≡ frame ∷ rest
    → turns kv all (readings ++ reading ∷ []) ≡ turns kv all readings ++ turn (after kv (turns kv all readings)) frame (moment_of reading)
turns_push kv [] [] frame rest reading e = cc
turns_push kv (f ∷ all) [] frame rest reading e =
    ap (λ l. turn kv f (moment_of reading) ++ l) (turns_none (after kv (turn kv f (moment_of reading))) all) ∙ append-nil (turn kv f (moment_of reading))
    ∙ ap (λ v. turn kv v (moment_of reading)) (let same : f ≡ frame = cc in same)
turns_push kv [] (r ∷ readings) frame rest reading e = cc
turns_push kv (f ∷ all) (r ∷ readings) frame rest reading e =
    let steps = turn kv f (moment_of r) in
    let more = turns (after kv steps) all readings in
    ap (λ l. steps ++ l) (turns_push (after kv steps) all readings frame rest reading e)
    ∙ sym (append_assoc steps more (turn (after (after kv steps) more) frame (moment_of reading)))
    ∙ ap (λ k. steps ++ more ++ turn k frame (moment_of reading)) (sym (after_append kv steps more))

-- what the loop keeps where all is told
pub record SoFar (told : Type 0) (holds : Files → Option Durable) (images : ℕ → Files → Type 0) (from to : ℕ) (all left : List Frame) (readings : List ℕ) (sent : List (ℕ × ℕ)) (kv now : Kv) (log log_now : Log) : Type 0 where
  pub few : length readings ≤ length all
  pub rest : drop (length readings) all ≡ left
  pub survives : told → Survives holds images from to sent kv (turns kv all readings)
  pub whole : IsWhole sent kv log (turns kv all readings) now log_now

module _ (told : Type 0) (holds : Files → Option Durable) where
  -- no step, where each image stands for the state
  nothing_yet : (images : ℕ → Files → Type 0) (t : ℕ) (kv : Kv) → Stands holds images t kv.durable → Survives holds images t t [] kv []
  nothing_yet images t kv stands = record {
    each = λ m files begun ended at. record {
      count = 0;
      within = omega arith;
      stands = stands.each files (let same : m ≡ t = omega arith in subst (λ k. images k files) same at);
      sent = record { rest = []; is = refl };
    };
    moments = tt;
  }

  at_first : (images : ℕ → Files → Type 0) (t : ℕ) (all : List Frame) (kv : Kv) (log : Log) → (told → Stands holds images t kv.durable) → SoFar told holds images t t all all [] [] kv kv log log
  at_first images t all kv log stands = record {
    few = omega arith;
    rest = refl;
    survives = λ t_told. subst (λ steps. Survives holds images t t [] kv steps) (sym (turns_none kv all)) (nothing_yet images t kv (stands t_told));
    whole = subst (λ steps. IsWhole [] kv log steps kv log) (sym (turns_none kv all)) (record { state = refl; bytes = refl; logged = log_after log log kv [] refl });
  }

  -- before the first frame
  pub begins : (images : ℕ → Files → Type 0) (t : ℕ) (all : List Frame) (readings : List ℕ) (sent : List (ℕ × ℕ)) (kv : Kv) (log : Log) → (told → Stands holds images t kv.durable)
      → SoFar told holds images t t all all (added readings readings) (added sent sent) kv kv log log
  begins images t all readings sent kv log stands =
      subst (λ s. SoFar told holds images t t all all (added readings readings) s kv kv log log) (sym (added_none sent))
      (subst (λ r. SoFar told holds images t t all all r [] kv kv log log) (sym (added_none readings)) (at_first images t all kv log stands))

  module _ (old_images images : ℕ → Files → Type 0) (from mid to : ℕ) (all left : List Frame) (readings : List ℕ) (sent more : List (ℕ × ℕ)) (kv now : Kv) (log log_now : Log)
      (frame : Frame) (rest : List Frame) (reading : ℕ) (low : from ≤ mid) (high : mid ≤ to) (past : (t : ℕ) (files : Files) → t ≤ mid → images t files → old_images t files)
      (so_far : SoFar told holds old_images from mid all left readings sent kv now log log_now) (here : left ≡ frame ∷ rest)
      (next : told → Survives holds images mid to more now (turn now frame (moment_of reading))) where
    is_plan : turns kv all (readings ++ reading ∷ []) ≡ turns kv all readings ++ turn now frame (moment_of reading)
    is_plan = turns_push kv all readings frame rest reading (so_far.rest ∙ here) ∙ ap (λ k. turns kv all readings ++ turn k frame (moment_of reading)) (sym so_far.whole.state)

    frame_begun : told → Survives holds images from to (sent ++ more) kv (turns kv all (readings ++ reading ∷ []))
    frame_begun says = subst (λ steps. Survives holds images from to (sent ++ more) kv steps) (sym is_plan)
        (goes_on holds old_images images from mid to sent more kv now (turns kv all readings) (turn now frame (moment_of reading)) low high past (so_far.survives says) so_far.whole.state so_far.whole.bytes (next says))

    frame_served : (new : Kv) (new_log : Log) → IsWhole more now log_now (turn now frame (moment_of reading)) new new_log
        → SoFar told holds images from to all rest (readings ++ reading ∷ []) (sent ++ more) kv new log new_log
    frame_served new new_log done = record {
      few = omega (arith, ap length (so_far.rest ∙ here), length_push readings reading, length-drop (length readings) all);
      rest = ap (λ n. drop n all) (length_push readings reading) ∙ sym (drop-drop 1 (length readings) all) ∙ ap (drop 1) (so_far.rest ∙ here);
      survives = frame_begun;
      whole = subst (λ steps. IsWhole (sent ++ more) kv log steps new new_log) (sym is_plan)
          (whole_twice holds sent more kv now new log log_now new_log (turns kv all readings) (turn now frame (moment_of reading)) so_far.whole done);
    }

-- the same over the lists that link and clock keep: readings r0 at the start, r1 before the frame, r2 with its own;
-- bytes sent s0, s1, s2 behind its read, s3 at the end
module _ (told : Type 0) (holds : Files → Option Durable) (old_images images : ℕ → Files → Type 0) (from mid to : ℕ) (all left rest : List Frame) (frame : Frame) (kv now : Kv) (log log_now : Log)
    (r0 r1 r2 : List ℕ) (reading moment : ℕ) (s0 s1 s2 s3 : List (ℕ × ℕ))
    (low : from ≤ mid) (high : mid ≤ to) (past : (t : ℕ) (files : Files) → t ≤ mid → images t files → old_images t files)
    (taken : Extends r0 r1) (read : r2 ≡ r1 ++ reading ∷ []) (is_moment : moment ≡ moment_of reading)
    (sent : Extends s0 s1) (quiet : s2 ≡ s1) (more : Extends s2 s3)
    (so_far : SoFar told holds old_images from mid all left (added r0 r1) (added s0 s1) kv now log log_now) (here : left ≡ frame ∷ rest)
    (next : told → Survives holds images mid to (added s2 s3) now (turn now frame moment)) where
  all_taken : added r0 r2 ≡ added r0 r1 ++ reading ∷ []
  all_taken = added_twice r0 r1 r2 taken (extends_by r1 r2 (reading ∷ []) read) ∙ ap (λ l. added r0 r1 ++ l) (added_is r1 r2 (reading ∷ []) read)

  all_sent : added s0 s3 ≡ added s0 s1 ++ added s2 s3
  all_sent = added_twice s0 s2 s3 (subst (λ s. Extends s0 s) (sym quiet) sent) more ∙ ap (λ s. added s0 s ++ added s2 s3) quiet

  at_moment : told → Survives holds images mid to (added s2 s3) now (turn now frame (moment_of reading))
  at_moment says = subst (λ m. Survives holds images mid to (added s2 s3) now (turn now frame m)) is_moment (next says)

  -- a frame was begun
  pub begun_over : told → Survives holds images from to (added s0 s3) kv (turns kv all (added r0 r2))
  begun_over says = subst (λ s. Survives holds images from to s kv (turns kv all (added r0 r2))) (sym all_sent)
      (subst (λ r. Survives holds images from to (added s0 s1 ++ added s2 s3) kv (turns kv all r)) (sym all_taken)
      (frame_begun told holds old_images images from mid to all left (added r0 r1) (added s0 s1) (added s2 s3) kv now log log_now frame rest reading low high past so_far here at_moment says))

  -- and served
  pub served_over : (new : Kv) (new_log : Log) → IsWhole (added s2 s3) now log_now (turn now frame moment) new new_log → SoFar told holds images from to all rest (added r0 r2) (added s0 s3) kv new log new_log
  served_over new new_log done = subst (λ s. SoFar told holds images from to all rest (added r0 r2) s kv new log new_log) (sym all_sent)
      (subst (λ r. SoFar told holds images from to all rest r (added s0 s1 ++ added s2 s3) kv new log new_log) (sym all_taken)
      (frame_served told holds old_images images from mid to all left (added r0 r1) (added s0 s1) (added s2 s3) kv now log log_now frame rest reading low high past so_far here at_moment
      new new_log (subst (λ m. IsWhole (added s2 s3) now log_now (turn now frame m) new new_log) is_moment done)))

-- the step of a frame was refused, and nothing was sent of it
pub turn_reached : (told : Type 0) (holds : Files → Option Durable) (images : ℕ → Files → Type 0) (from to : ℕ) (all left rest : List Frame) (frame : Frame) (first now : Kv) (old log_now : Log)
    (r0 r1 r2 : List ℕ) (reading moment : ℕ) (s0 s1 s2 : List (ℕ × ℕ)) (kv : Kv) (log : Log) (next : Step)
    → Extends r0 r1 → r2 ≡ r1 ++ reading ∷ [] → moment ≡ moment_of reading → s2 ≡ s1 → SoFar told holds images from to all left (added r0 r1) (added s0 s1) first now old log_now → left ≡ frame ∷ rest
    → IsBegun now log_now (turn now frame moment) kv log next → IsReached first old (turns first all (added r0 r2)) (bytes_of (added s0 s2)) kv log next
turn_reached told holds images from to all left rest frame first now old log_now r0 r1 r2 reading moment s0 s1 s2 kv log next taken read is_moment quiet so_far here begun =
    let made = turns first all (added r0 r1) in
    let taken_all : added r0 r2 ≡ added r0 r1 ++ reading ∷ [] = added_twice r0 r1 r2 taken (extends_by r1 r2 (reading ∷ []) read) ∙ ap (λ l. added r0 r1 ++ l) (added_is r1 r2 (reading ∷ []) read) in
    let is_all : made ++ turn now frame moment ≡ turns first all (added r0 r2) =
    ap (λ m. made ++ turn now frame m) is_moment ∙ ap (λ k. made ++ turn k frame (moment_of reading)) so_far.whole.state
    ∙ sym (turns_push first all (added r0 r1) frame rest reading (so_far.rest ∙ here)) ∙ ap (turns first all) (sym taken_all) in
    reached_behind first now old log_now made (turn now frame moment) (turns first all (added r0 r2)) (bytes_of (added s0 s1)) [] (bytes_of (added s0 s2)) kv log next
    so_far.whole.state so_far.whole.bytes so_far.whole.logged is_all (ap (λ s. bytes_of (added s0 s)) quiet ∙ sym (append-nil (bytes_of (added s0 s1))))
    (begun_reached now log_now (turn now frame moment) kv log next begun)

frames_none : (limit : ℕ) → frames limit [] ≡ []
unfolding frames_behind
frames_none limit = refl

-- no input is left
pub done_over : (told : Type 0) (holds : Files → Option Durable) (images : ℕ → Files → Type 0) (from to limit : ℕ) (all : List Frame) (left rest : List ℕ) (readings : List ℕ) (s0 s1 s2 : List (ℕ × ℕ)) (kv now : Kv) (log log_now : Log)
    → SoFar told holds images from to all (frames limit left) readings (added s0 s1) kv now log log_now → (left ≡ []) × (rest ≡ []) → s2 ≡ s1
    → IsDone rest (length readings) (length all) (added s0 s2) kv log (turns kv all readings) now log_now
done_over told holds images from to limit all left rest readings s0 s1 s2 kv now log log_now so_far ended quiet =
    let none : frames limit left ≡ [] = ap (frames limit) ended.0 ∙ frames_none limit in
    record {
      at_end = ended.1;
      one_each = omega (arith, so_far.few, ap length (so_far.rest ∙ none), length-drop (length readings) all);
      whole = subst (λ s. IsWhole (added s0 s) kv log (turns kv all readings) now log_now) (sym quiet) so_far.whole;
    }
