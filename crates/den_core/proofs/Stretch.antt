-- How one stretch of a run goes on into the next.
use Rattle.std.proofs.Common.{◌↔◌, ◌≡◌, ⊎_elim, ℕ, ◌≤◌, ◌+◌, List, [], ◌++◌, length, take, Option, Some, sym, ◌∙◌, ap, subst, arith, append_assoc, length-append}
use Rattle.std.proofs.lemmas.Bool.{cases_lt}
use Rattle.std.proofs.lemmas.List.{append-nil, take-append-le, take_all}
use Rattle.std.proofs.Math.Seq.{take-append-add}
use Rattle.den_disk.specs.Files.{Files, Content, IsImage}
use Rattle.den_disk.specs.Goes.{IsPrefix, added, stamped}
use Rattle.den_model.specs.Crash.{IsAfterSome, Survives, Stands, IsWhole, bytes_of, sent_by}
use Rattle.den_model.specs.Kv.{Durable, Kv}
use Rattle.den_model.specs.Log.{Log}
use Rattle.den_model.specs.Plan.{after, output}
use Rattle.den_model.specs.Step.{Step}
use Rattle.den_model.proofs.Grown.{log_twice}
use Rattle.den_model.proofs.Runs.{after_append, output_append}
use Rattle.den_core.proofs.Lists.{added_is, sent_by-append, sent_by_all, sent_by_none, within-append, bytes_of-append, bytes_of-stamped, within-stamped}

-- where the files lie as the last call left them, each image stands for the state
pub stands_now : (holds : Files → Option Durable) (images : ℕ → Files → Type 0) (t : ℕ) (content : Content) (kept : Durable)
    → ((files : Files) → images t files ↔ IsImage content files) → ((files : Files) → IsImage content files → holds files ≡ Some kept) → Stands holds images t kept
stands_now holds images t content kept here law = record { each = λ files at. law files ((here files).0 at) }

module _ (holds : Files → Option Durable) where
  -- of a longer run, the same front
  wider : (kv : Kv) (steps more : List Step) (bytes : List ℕ) (files : Files) → IsAfterSome holds kv steps bytes files → IsAfterSome holds kv (steps ++ more) bytes files
  wider kv steps more bytes files is =
      let same : take is.count (steps ++ more) ≡ take is.count steps = take-append-le is.count steps more is.within in
      record {
        count = is.count;
        within = omega (arith, is.within, length-append steps more);
        stands = is.stands ∙ ap (λ s. Some (after kv s).durable) (sym same);
        sent = subst (λ s. IsPrefix bytes (output kv s)) (sym same) is.sent;
      }

  -- behind steps that were made, whose output was sent
  further : (kv new : Kv) (steps more : List Step) (bytes : List ℕ) (files : Files) → new ≡ after kv steps → IsAfterSome holds new more bytes files → IsAfterSome holds kv (steps ++ more) (output kv steps ++ bytes) files
  further kv new steps more bytes files state is =
      let front : take (length steps + is.count) (steps ++ more) ≡ steps ++ take is.count more = take-append-add steps more is.count in
      let reached : after kv (take (length steps + is.count) (steps ++ more)) ≡ after new (take is.count more) =
      ap (after kv) front ∙ after_append kv steps (take is.count more) ∙ ap (λ k. after k (take is.count more)) (sym state) in
      let told : output kv (take (length steps + is.count) (steps ++ more)) ≡ output kv steps ++ output new (take is.count more) =
      ap (output kv) front ∙ output_append kv steps (take is.count more) ∙ ap (λ k. output kv steps ++ output k (take is.count more)) (sym state) in
      record {
        count = length steps + is.count;
        within = omega (arith, is.within, length-append steps more);
        stands = is.stands ∙ ap (λ (k : Kv). Some k.durable) (sym reached);
        sent = record { rest = is.sent.rest; is = append_assoc (output kv steps) bytes is.sent.rest ∙ ap (λ l. output kv steps ++ l) is.sent.is ∙ sym told };
      }

  -- Two stretches in a row: the first made all its steps and sent all their output.
  pub goes_on : (old_images images : ℕ → Files → Type 0) (from mid to : ℕ) (sent more : List (ℕ × ℕ)) (kv between : Kv) (steps next : List Step)
      → from ≤ mid → mid ≤ to → ((t : ℕ) (files : Files) → t ≤ mid → images t files → old_images t files)
      → Survives holds old_images from mid sent kv steps → between ≡ after kv steps → bytes_of sent ≡ output kv steps → Survives holds images mid to more between next
      → Survives holds images from to (sent ++ more) kv (steps ++ next)
  goes_on old_images images from mid to sent more kv between steps next low high past one state bytes two = record {
    each = λ t files begun ended at. ⊎_elim
        (λ early. subst (λ bytes. IsAfterSome holds kv (steps ++ next) bytes files)
        (sym (sent_by-append sent more t ∙ ap (λ l. sent_by sent t ++ l) (sent_by_none mid to more t early two.moments) ∙ append-nil (sent_by sent t)))
        (wider kv steps next (sent_by sent t) files (one.each t files begun (omega arith) (past t files (omega arith) at))))
        (λ late. subst (λ bytes. IsAfterSome holds kv (steps ++ next) bytes files)
        (sym (sent_by-append sent more t ∙ ap (λ l. l ++ sent_by more t) (sent_by_all from mid sent t late one.moments ∙ bytes)))
        (further kv between steps next (sent_by more t) files state (two.each t files late ended at)))
        (cases_lt t mid);
    moments = within-append from mid to sent more low high one.moments two.moments;
  }

  pub whole_twice : (sent more : List (ℕ × ℕ)) (kv between new : Kv) (log mid_log new_log : Log) (steps next : List Step) → IsWhole sent kv log steps between mid_log → IsWhole more between mid_log next new new_log
      → IsWhole (sent ++ more) kv log (steps ++ next) new new_log
  whole_twice sent more kv between new log mid_log new_log steps next one two = record {
    state = two.state ∙ ap (λ k. after k next) one.state ∙ sym (after_append kv steps next);
    bytes = bytes_of-append sent more ∙ ap (λ l. l ++ bytes_of more) one.bytes ∙ ap (λ l. output kv steps ++ l) two.bytes
        ∙ ap (λ k. output kv steps ++ output k next) one.state ∙ sym (output_append kv steps next);
    logged = log_twice log mid_log new_log kv between steps next one.state one.logged two.logged;
  }

  -- Steps that were made, and then a prefix of their output is sent, at the moment that they ended.
  then_sent : (images : ℕ → Files → Type 0) (from to : ℕ) (kv new : Kv) (steps : List Step) (front : List ℕ)
      → from ≤ to → Survives holds images from to [] kv steps → new ≡ after kv steps → Stands holds images to new.durable → IsPrefix front (output kv steps)
      → Survives holds images from to (stamped front to) kv steps
  then_sent images from to kv new steps front le made state stands prefix = record {
    each = λ t files begun ended at. ⊎_elim
        (λ early. subst (λ bytes. IsAfterSome holds kv steps bytes files) (sym (sent_by_none to to (stamped front to) t early (within-stamped to to front (omega arith)))) (made.each t files begun ended at))
        (λ late. let now : t ≡ to = omega arith in
        let all : take (length steps) steps ≡ steps = take_all (length steps) steps (omega arith) in
        record {
          count = length steps;
          within = omega arith;
          stands = stands.each files (subst (λ m. images m files) now at) ∙ ap (λ (k : Kv). Some k.durable) (state ∙ ap (after kv) (sym all));
          sent = subst (λ bytes. IsPrefix bytes (output kv (take (length steps) steps))) (sym (sent_by_all to to (stamped front to) t late (within-stamped to to front (omega arith)) ∙ bytes_of-stamped front to))
              (subst (λ s. IsPrefix front (output kv s)) (sym all) prefix);
        })
        (cases_lt t to);
    moments = within-stamped from to front le;
  }

  -- the same, as a link tells it
  pub then_sent_over : (images : ℕ → Files → Type 0) (from to : ℕ) (kv new : Kv) (steps : List Step) (piece : List ℕ) (old_sent new_sent : List (ℕ × ℕ))
      → from ≤ to → Survives holds images from to [] kv steps → new ≡ after kv steps → Stands holds images to new.durable → piece ≡ output kv steps
      → (front : List ℕ) × IsPrefix front piece × (new_sent ≡ old_sent ++ stamped front to)
      → Survives holds images from to (added old_sent new_sent) kv steps
  then_sent_over images from to kv new steps piece old_sent new_sent le made state stands is_reply sent =
      subst (λ s. Survives holds images from to s kv steps) (sym (added_is old_sent new_sent (stamped sent.0 to) sent.2))
      (then_sent images from to kv new steps sent.0 le made state stands (subst (λ whole. IsPrefix sent.0 whole) is_reply sent.1))
