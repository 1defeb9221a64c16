-- Steps that are made while nothing is sent, one stretch after the other.
use Rattle.std.proofs.Common.{◌≡◌, ⊎_elim, ℕ, ◌≤◌, ◌+◌, List, [], ◌∷◌, ◌++◌, length, take, Option, Some, inl, refl, sym, ◌∙◌, ap, subst, arith, length-append}
use Rattle.std.proofs.lemmas.Bool.{cases_lt}
use Rattle.std.proofs.lemmas.List.{take-append-le}
use Rattle.std.proofs.Math.Seq.{take-append-add, take-nil}
use Rattle.den_disk.specs.Families.{OldOrNew}
use Rattle.den_disk.specs.Files.{Files}
use Rattle.den_disk.specs.Goes.{IsPrefix}
use Rattle.den_model.specs.Crash.{IsAfterSome, Survives}
use Rattle.den_model.specs.Kv.{Durable, Kv}
use Rattle.den_model.specs.Plan.{after, output}
use Rattle.den_model.specs.Step.{Step}
use Rattle.den_model.proofs.Runs.{after_append}
use Rattle.den_core.proofs.Spared.{GivesAll}

module _ (holds : Files → Option Durable) where
  -- of more steps, the same first ones
  wider : (kv : Kv) (steps more : List Step) (bytes : List ℕ) (files : Files) → IsAfterSome holds kv steps bytes files → IsAfterSome holds kv (steps ++ more) bytes files
  wider kv steps more bytes files is =
      let same : take is.count (steps ++ more) ≡ take is.count steps = take-append-le is.count steps more is.within in
      record {
        count = is.count;
        within = omega (arith, is.within, length-append steps more);
        stands = is.stands ∙ ap (λ s. Some (after kv s).durable) (sym same);
        sent = subst (λ s. IsPrefix bytes (output kv s)) (sym same) is.sent;
      }

  -- behind steps that were made, of whose output nothing was sent
  quieter : (kv new : Kv) (steps more : List Step) (files : Files) → new ≡ after kv steps → IsAfterSome holds new more [] files → IsAfterSome holds kv (steps ++ more) [] files
  quieter kv new steps more files state is =
      let front : take (length steps + is.count) (steps ++ more) ≡ steps ++ take is.count more = take-append-add steps more is.count in
      let reached : after kv (take (length steps + is.count) (steps ++ more)) ≡ after new (take is.count more) =
      ap (after kv) front ∙ after_append kv steps (take is.count more) ∙ ap (λ k. after k (take is.count more)) (sym state) in
      record {
        count = length steps + is.count;
        within = omega (arith, is.within, length-append steps more);
        stands = is.stands ∙ ap (λ k. Some k.durable) (sym reached);
        sent = record { rest = output kv (take (length steps + is.count) (steps ++ more)); is = refl };
      }

  -- Two stretches in a row: the first made all its steps.
  pub quiet_on : (old_at new_at : ℕ → Files → Type 0) (from mid to : ℕ) (kv between : Kv) (steps next : List Step)
      → ((t : ℕ) (files : Files) → t ≤ mid → new_at t files → old_at t files)
      → Survives holds old_at from mid [] kv steps → between ≡ after kv steps → Survives holds new_at mid to [] between next
      → Survives holds new_at from to [] kv (steps ++ next)
  quiet_on old_at new_at from mid to kv between steps next past one state two = record {
    each = λ t files begun ended at. ⊎_elim
        (λ early. wider kv steps next [] files (one.each t files begun (omega arith) (past t files (omega arith) at)))
        (λ late. quieter kv between steps next files state (two.each t files late ended at))
        (cases_lt t mid);
    moments = tt;
  }

  -- of more steps that were not begun
  pub longer : (images : ℕ → Files → Type 0) (from to : ℕ) (kv : Kv) (steps more : List Step) → Survives holds images from to [] kv steps → Survives holds images from to [] kv (steps ++ more)
  longer images from to kv steps more one = record {
    each = λ t files begun ended at. wider kv steps more [] files (one.each t files begun ended at);
    moments = tt;
  }

  -- one step, made or not
  pub moves : (images : ℕ → Files → Type 0) (from to : ℕ) (kv : Kv) (step : Step)
      → OldOrNew holds images from to kv.durable (after kv (step ∷ [])).durable → Survives holds images from to [] kv (step ∷ [])
  moves images from to kv step made = record {
    each = λ t files begun ended at. ⊎_elim
        (λ old. record { count = 0; within = omega arith; stands = old; sent = record { rest = []; is = refl } })
        (λ new. record { count = 1; within = omega arith; stands = new; sent = record { rest = output kv (step ∷ []); is = refl } })
        (made.each t files begun ended at);
    moments = tt;
  }

  -- none
  pub stays : (images : ℕ → Files → Type 0) (from to : ℕ) (kv : Kv) → GivesAll holds images from to kv.durable → Survives holds images from to [] kv []
  stays images from to kv given = record {
    each = λ t files begun ended at. record { count = 0; within = omega arith; stands = given.each t files begun ended at; sent = record { rest = []; is = refl } };
    moments = tt;
  }

  -- where none was to be made, nothing moved
  pub stood : (images : ℕ → Files → Type 0) (from to : ℕ) (kv : Kv) → Survives holds images from to [] kv [] → OldOrNew holds images from to kv.durable kv.durable
  stood images from to kv one = record {
    each = λ t files begun ended at.
        let is = one.each t files begun ended at in
        inl (is.stands ∙ ap (λ (steps : List Step). Some (after kv steps).durable) (take-nil is.count));
  }
