-- What was sent is a front of what the frames are answered, whatever is told of the disk and its files.
use Rattle.std.proofs.Common.{◌≡◌, ℕ, List, [], ◌∷◌, ◌++◌, length, drop, sym, ◌∙◌, ap, subst, append_assoc}
use Rattle.std.proofs.lemmas.List.{append-nil, drop-drop, length_push}
use Rattle.den_disk.specs.Goes.{Extends, IsPrefix, added, stamped}
use Rattle.den_model.specs.declared.request.Frame.{Frame}
use Rattle.den_model.specs.Crash.{bytes_of}
use Rattle.den_model.specs.Kv.{Kv}
use Rattle.den_model.specs.Plan.{after, output, opening, turn, turns, plan}
use Rattle.den_model.specs.Step.{moment_of}
use Rattle.den_model.proofs.Runs.{after_append, output_append}
use Rattle.den_core.proofs.Beginning.{is_plan, opening_quiet}
use Rattle.den_core.proofs.FramesSoFar.{turns_none, turns_push}
use Rattle.den_core.proofs.Lists.{added_is, added_none, added_twice, extends_by, bytes_of-append, bytes_of-stamped}

-- nothing was sent
pub none_is_front : (sent : List (ℕ × ℕ)) (whole : List ℕ) → IsPrefix (bytes_of (added sent sent)) whole
none_is_front sent whole = record { rest = whole; is = ap (λ s. bytes_of s ++ whole) (added_none sent) }

-- a front of a reply was, as a link tells it
pub sent_is_front : (old new : List (ℕ × ℕ)) (piece whole : List ℕ) (t : ℕ) → piece ≡ whole → (front : List ℕ) × IsPrefix front piece × (new ≡ old ++ stamped front t)
    → IsPrefix (bytes_of (added old new)) whole
sent_is_front old new piece whole t is_reply sent = record {
  rest = sent.1.rest;
  is = ap (λ s. bytes_of s ++ sent.1.rest) (added_is old new (stamped sent.0 t) sent.2)
      ∙ ap (λ l. l ++ sent.1.rest) (bytes_of-stamped sent.0 t) ∙ sent.1.is ∙ is_reply;
}

-- what the loop keeps where link and clock tell: just what the frames so far are answered was sent
pub record AnsweredSoFar (all left : List Frame) (readings : List ℕ) (sent : List (ℕ × ℕ)) (kv now : Kv) : Type 0 where
  pub rest : drop (length readings) all ≡ left
  pub state : now ≡ after kv (turns kv all readings)
  pub bytes : bytes_of sent ≡ output kv (turns kv all readings)

-- before the first frame
pub none_answered : (all : List Frame) (readings : List ℕ) (sent : List (ℕ × ℕ)) (kv : Kv) → AnsweredSoFar all all (added readings readings) (added sent sent) kv kv
none_answered all readings sent kv =
    let none : turns kv all (added readings readings) ≡ [] = ap (turns kv all) (added_none readings) ∙ turns_none kv all in
    record {
      rest = ap (λ r. drop (length r) all) (added_none readings);
      state = ap (after kv) (sym none);
      bytes = ap bytes_of (added_none sent) ∙ ap (output kv) (sym none);
    }

-- behind the frames so far, where nothing more was sent
pub all_is_front : (all left : List Frame) (readings : List ℕ) (s0 s1 s2 : List (ℕ × ℕ)) (kv now : Kv) → AnsweredSoFar all left readings (added s0 s1) kv now → s2 ≡ s1
    → IsPrefix (bytes_of (added s0 s2)) (output kv (turns kv all readings))
all_is_front all left readings s0 s1 s2 kv now so_far quiet = record {
  rest = [];
  is = append-nil (bytes_of (added s0 s2)) ∙ ap (λ s. bytes_of (added s0 s)) quiet ∙ so_far.bytes;
}

-- One frame more: readings r0 at the start, r1 before the frame, r2 with its own; bytes sent s0, s1, s2 behind its read, s3
-- at the end.
module _ (all left rest : List Frame) (frame : Frame) (kv now : Kv) (r0 r1 r2 : List ℕ) (reading moment : ℕ) (s0 s1 s2 s3 : List (ℕ × ℕ))
    (taken : Extends r0 r1) (read : r2 ≡ r1 ++ reading ∷ []) (is_moment : moment ≡ moment_of reading)
    (sent : Extends s0 s1) (quiet : s2 ≡ s1) (more : Extends s2 s3)
    (so_far : AnsweredSoFar all left (added r0 r1) (added s0 s1) kv now) (here : left ≡ frame ∷ rest) where
  all_taken : added r0 r2 ≡ added r0 r1 ++ reading ∷ []
  all_taken = added_twice r0 r1 r2 taken (extends_by r1 r2 (reading ∷ []) read) ∙ ap (λ l. added r0 r1 ++ l) (added_is r1 r2 (reading ∷ []) read)

  all_turns : turns kv all (added r0 r2) ≡ turns kv all (added r0 r1) ++ turn now frame moment
  all_turns = ap (turns kv all) all_taken ∙ turns_push kv all (added r0 r1) frame rest reading (so_far.rest ∙ here)
      ∙ ap (λ k. turns kv all (added r0 r1) ++ turn k frame (moment_of reading)) (sym so_far.state)
      ∙ ap (λ m. turns kv all (added r0 r1) ++ turn now frame m) (sym is_moment)

  all_answered : output kv (turns kv all (added r0 r2)) ≡ output kv (turns kv all (added r0 r1)) ++ output now (turn now frame moment)
  all_answered = ap (output kv) all_turns ∙ output_append kv (turns kv all (added r0 r1)) (turn now frame moment)
      ∙ ap (λ k. output kv (turns kv all (added r0 r1)) ++ output k (turn now frame moment)) (sym so_far.state)

  all_sent : bytes_of (added s0 s3) ≡ output kv (turns kv all (added r0 r1)) ++ bytes_of (added s2 s3)
  all_sent = ap bytes_of (added_twice s0 s2 s3 (subst (λ s. Extends s0 s) (sym quiet) sent) more)
      ∙ bytes_of-append (added s0 s2) (added s2 s3)
      ∙ ap (λ s. bytes_of (added s0 s) ++ bytes_of (added s2 s3)) quiet
      ∙ ap (λ l. l ++ bytes_of (added s2 s3)) so_far.bytes

  -- a front of what it is answered was sent
  pub begun_is_front : IsPrefix (bytes_of (added s2 s3)) (output now (turn now frame moment)) → IsPrefix (bytes_of (added s0 s3)) (output kv (turns kv all (added r0 r2)))
  begun_is_front front = record {
    rest = front.rest;
    is = ap (λ l. l ++ front.rest) all_sent ∙ append_assoc (output kv (turns kv all (added r0 r1))) (bytes_of (added s2 s3)) front.rest
        ∙ ap (λ l. output kv (turns kv all (added r0 r1)) ++ l) front.is ∙ sym all_answered;
  }

  -- and all of it
  pub one_answered : (new : Kv) → new ≡ after now (turn now frame moment) → bytes_of (added s2 s3) ≡ output now (turn now frame moment)
      → AnsweredSoFar all rest (added r0 r2) (added s0 s3) kv new
  one_answered new state bytes = record {
    rest = ap (λ r. drop (length r) all) all_taken ∙ ap (λ n. drop n all) (length_push (added r0 r1) reading) ∙ sym (drop-drop 1 (length (added r0 r1)) all)
        ∙ ap (drop 1) (so_far.rest ∙ here);
    state = state ∙ ap (λ k. after k (turn now frame moment)) so_far.state ∙ sym (after_append kv (turns kv all (added r0 r1)) (turn now frame moment))
        ∙ ap (after kv) (sym all_turns);
    bytes = all_sent ∙ ap (λ l. output kv (turns kv all (added r0 r1)) ++ l) bytes ∙ sym all_answered;
  }

-- a front of what the frames are answered is one of what the plan is, since the opening sends nothing
pub front_of_run : (kv : Kv) (all : List Frame) (reading moment : ℕ) → moment ≡ moment_of reading → (opened : Kv) (r0 r1 r2 : List ℕ) (sent : List ℕ)
    → r1 ≡ r0 ++ reading ∷ [] → Extends r1 r2 → opened ≡ after kv (opening kv moment)
    → IsPrefix sent (output opened (turns opened all (added r1 r2))) → IsPrefix sent (output kv (plan kv all (added r0 r2)))
front_of_run kv all reading moment is_moment opened r0 r1 r2 sent read more state front =
    let frames_of_it = turns opened all (added r1 r2) in
    let same : output opened frames_of_it ≡ output kv (plan kv all (added r0 r2)) =
    ap (λ k. output k frames_of_it) state
    ∙ ap (λ l. l ++ output (after kv (opening kv moment)) frames_of_it) (sym (opening_quiet kv moment))
    ∙ sym (output_append kv (opening kv moment) frames_of_it)
    ∙ ap (output kv) (is_plan kv all reading moment is_moment opened r0 r1 r2 read more state) in
    record { rest = front.rest; is = front.is ∙ same }
