-- Two calls in a row that make steps.
use Rattle.std.proofs.Common.{◌≡◌, ℕ, ◌≤◌, ◌+◌, IsTrue, List, [], ◌∷◌, ◌++◌, Result, Ok, Err, IfErr, inl, inr, refl, sym, ◌∙◌, ap, subst, arith, append_assoc}
use Rattle.std.specs.Result.{IsErrAnd}
use Rattle.den_disk.specs.declared.disk.Disk.{Ghosts}
use Rattle.den_disk.specs.declared.place.Family.TheVariants.{Snapshot as snapshot_family}
use Rattle.den_disk.specs.Files.{Kind}
use Rattle.den_codec.specs.declared.error.Error.{Error}
use Rattle.den_codec.specs.declared.error.Error.TheVariants.{OutOfMemory, StorageIoError, DiskFull, LinkFault, DataCorruption, FeatureNotEnabled, ProposeFailed, UnorderedChunk, Config, ConfigFault, StateMachineError}
use Rattle.den_journal.specs.Writes.{GoesOn, DiskTells}
use Rattle.den_model.specs.Crash.{Survives}
use Rattle.den_model.specs.Grown.{IsLogAfter}
use Rattle.den_model.specs.Kv.{Kv}
use Rattle.den_model.specs.Log.{Log}
use Rattle.den_model.specs.Plan.{after, output}
use Rattle.den_model.specs.Step.{Step}
use Rattle.den_model.proofs.Grown.{log_twice}
use Rattle.den_model.proofs.Runs.{after_append, output_append}
use Rattle.den_core.specs.Full.{IsBegun}
use Rattle.den_core.specs.Making.{IsCallTooShort, IsUntouched, Makes, Says, Seen}
use Rattle.den_core.specs.Refusals.{FailsOrStays}
use Rattle.den_core.specs.Spared.{SparesFamily}
use Rattle.den_core.proofs.GoesOn.{disk_twice}
use Rattle.den_core.proofs.Quiet.{longer, quiet_on}
use Rattle.den_core.proofs.Refusing.{at_exit, left_weaker, not_done, refusal_behind}
use Rattle.den_core.proofs.Spared.{spares_twice}
use Rattle.den_core.proofs.Weighing.{heavier, short_step}

-- a refusal that is told of another stepper
pub left_by : (e : Error) (failed untouched written fails stays wrote : Type 0) → (failed → fails) → (untouched → stays) → (written → wrote) → FailsOrStays failed untouched written e → FailsOrStays fails stays wrote e
left_by OutOfMemory failed untouched written fails stays wrote f u w (inl still) = inl (u still)
left_by OutOfMemory failed untouched written fails stays wrote f u w (inr left) = inr (f left.0, w left.1)
left_by StorageIoError failed untouched written fails stays wrote f u w left = f left
left_by (DiskFull needed limit) failed untouched written fails stays wrote f u w left = f left
left_by LinkFault failed untouched written fails stays wrote f u w left = f left
left_by (DataCorruption place offset) failed untouched written fails stays wrote f u w left = f left
left_by FeatureNotEnabled failed untouched written fails stays wrote f u w left = f left
left_by ProposeFailed failed untouched written fails stays wrote f u w left = f left
left_by (UnorderedChunk index) failed untouched written fails stays wrote f u w left = f left
left_by (Config place) failed untouched written fails stays wrote f u w left = f left
left_by ConfigFault failed untouched written fails stays wrote f u w left = f left
left_by StateMachineError failed untouched written fails stays wrote f u w left = f left

-- ---- what was begun

-- of more steps, the same first ones
begun_longer : (first : Kv) (old : Log) (xs ys : List Step) (kv : Kv) (log : Log) (next : Step) → IsBegun first old xs kv log next → IsBegun first old (xs ++ ys) kv log next
begun_longer first old xs ys kv log next begun = record {
  made = begun.made;
  rest = begun.rest ++ ys;
  parts = sym (append_assoc begun.made (next ∷ begun.rest) ys) ∙ ap (λ l. l ++ ys) begun.parts;
  state = begun.state;
  left_is = begun.left_is;
}

-- behind steps that were made, which say nothing
begun_behind : (first now : Kv) (old log_now : Log) (xs ys : List Step) (kv : Kv) (log : Log) (next : Step) → now ≡ after first xs → IsLogAfter old first xs log_now → output first xs ≡ []
    → IsBegun now log_now ys kv log next → IsBegun first old (xs ++ ys) kv log next
begun_behind first now old log_now xs ys kv log next state logged quiet begun = record {
  made = xs ++ begun.made;
  rest = begun.rest;
  parts = append_assoc xs begun.made (next ∷ begun.rest) ∙ ap (λ l. xs ++ l) begun.parts;
  state = begun.state ∙ ap (λ k. after k begun.made) state ∙ sym (after_append first xs begun.made);
  left_is = (
    log_twice old log_now log first now xs begun.made state logged begun.left_is.0,
    output_append first xs begun.made ∙ ap (λ l. l ++ output (after first xs) begun.made) quiet
        ∙ ap (λ k. output k begun.made) (sym state) ∙ begun.left_is.1,
  );
}

-- ---- one call

module _ {D : Type 0} (disk : Ghosts D) (was now : Seen) (old new : D) (says : Says) where
  -- the same steps by another name
  pub same_steps : {T : Type 0} (xs ys : List Step) (rise : ℕ) (written : Type 0) (r : Result T Error) → xs ≡ ys
      → Makes disk was now old new says xs rise (IsCallTooShort was xs) written r → Makes disk was now old new says ys rise (IsCallTooShort was ys) written r
  same_steps xs ys rise written r is = subst (λ steps. Makes disk was now old new says steps rise (IsCallTooShort was steps) written r) is

  -- of a larger rise
  pub more_room : {T : Type 0} (xs : List Step) (rise above : ℕ) (first written : Type 0) (r : Result T Error) → rise ≤ above → (first → written)
      → Makes disk was now old new says xs rise (IsCallTooShort was xs) first r → Makes disk was now old new says xs above (IsCallTooShort was xs) written r
  more_room xs rise above first written (Ok y) le so one = record {
    goes_on = one.goes_on;
    snapshot = one.snapshot;
    same_most = one.same_most;
    survives = one.survives;
    done = record { state = one.done.state; logged = one.done.logged; weight = omega (arith, one.done.weight, le); ready = one.done.ready; rests = one.done.rests };
    refused = tt;
  }
  more_room xs rise above first written (Err e) le so one = record {
    goes_on = one.goes_on;
    snapshot = one.snapshot;
    same_most = one.same_most;
    survives = one.survives;
    done = tt;
    refused = record {
      cause = one.refused.cause;
      full = heavier _ _ _ _ _ _ _ _ e (λ t. t)
          (λ needed t. short_step _ _ _ _ _ _ needed _ (λ kv log next begun. begun) refl (omega (arith, le))) refl (omega (arith, le)) one.refused.full;
      left = left_weaker e _ _ _ _ so one.refused.left;
    };
  }

-- ---- the first was refused

module _ {D : Type 0} (disk : Ghosts D) (was now : Seen) (old new : D) (says : Says) (xs ys : List Step) (rise above : ℕ) (first written : Type 0) where
  -- so is a call that would have made more
  pub refused_first : {T U : Type 0} (e : Error) (r : Result U Error) → IsErrAnd r (λ y. y ≡ e) → rise ≤ above → (first → written)
      → Makes disk was now old new {T = T} says xs rise (IsCallTooShort was xs) first (Err e) → Makes disk was now old new says (xs ++ ys) above (IsCallTooShort was (xs ++ ys)) written r
  refused_first e r exit le so one = record {
    goes_on = one.goes_on;
    snapshot = one.snapshot;
    same_most = one.same_most;
    survives = λ told held. longer says.holds (disk.images new) (disk.moment old) (disk.moment new) was.kv xs ys (one.survives told held);
    done = not_done r e _ exit;
    refused = at_exit r e _ exit (record {
      cause = one.refused.cause;
      full = heavier _ _ _ _ _ _ _ _ e (λ t. t)
          (λ needed t. short_step _ _ _ _ _ _ needed _ (begun_longer was.kv was.log xs ys) refl (omega (arith, le))) refl (omega (arith, le)) one.refused.full;
      left = left_weaker e _ _ _ _ so one.refused.left;
    });
  }

-- ---- the first was made

module _ {D : Type 0} (disk : Ghosts D) (was mid : Seen) (old between : D) (says : Says) (xs ys : List Step) (rise more above : ℕ) (first second written : Type 0) {T : Type 0} (x : T)
    (one : Makes disk was mid old between says xs rise (IsCallTooShort was xs) first (Ok x)) (quiet : output was.kv xs ≡ []) (le : rise + more ≤ above) where
  tells_then : DiskTells disk old → DiskTells disk between
  tells_then told = subst (λ (k : Kind). IsTrue k.tells) (sym one.goes_on.same) told

  module _ (now : Seen) (new : D) {U : Type 0} (r : Result U Error) (two : Makes disk mid now between new says ys more (IsCallTooShort mid ys) second r) where
    both_go_on : GoesOn disk old new
    both_go_on = disk_twice disk.kind disk.moment disk.images disk.faults old between new one.goes_on two.goes_on

    both_spare : DiskTells disk old → SparesFamily snapshot_family disk.content disk.moment disk.images old new
    both_spare = spares_twice disk.kind disk.content disk.moment disk.images disk.faults snapshot_family old between new one.goes_on two.goes_on one.snapshot two.snapshot

    both_survive : DiskTells disk old → says.told → Survives says.holds (disk.images new) (disk.moment old) (disk.moment new) [] was.kv (xs ++ ys)
    both_survive told held =
        quiet_on says.holds (disk.images between) (disk.images new) (disk.moment old) (disk.moment between) (disk.moment new) was.kv mid.kv xs ys
        (two.goes_on.told (tells_then told)).past (one.survives told held) one.done.state (two.survives (tells_then told) held)

  -- and so was the second
  pub made_twice : {U V : Type 0} (now : Seen) (new : D) (y : U) (z : V) → Makes disk mid now between new says ys more (IsCallTooShort mid ys) second (Ok y)
      → Makes disk was now old new says (xs ++ ys) above (IsCallTooShort was (xs ++ ys)) written (Ok z)
  made_twice now new y z two = record {
    goes_on = both_go_on now new (Ok y) two;
    snapshot = both_spare now new (Ok y) two;
    same_most = two.same_most ∙ one.same_most;
    survives = both_survive now new (Ok y) two;
    done = record {
      state = two.done.state ∙ ap (λ k. after k ys) one.done.state ∙ sym (after_append was.kv xs ys);
      logged = log_twice was.log mid.log now.log was.kv mid.kv xs ys one.done.state one.done.logged two.done.logged;
      weight = omega (arith, one.done.weight, two.done.weight, le);
      ready = two.done.ready;
      rests = λ told. two.done.rests (tells_then told);
    };
    refused = tt;
  }

  -- the second was refused, and behind it a stepper was left that says this
  pub refused_second : {U V : Type 0} (now left_now : Seen) (new : D) (e : Error) (r : Result V Error) → IsErrAnd r (λ y. y ≡ e) → left_now.most ≡ now.most
      → FailsOrStays left_now.failed (IsUntouched disk was left_now old new) written e
      → Makes disk mid now between new {T = U} says ys more (IsCallTooShort mid ys) second (Err e)
      → Makes disk was left_now old new says (xs ++ ys) above (IsCallTooShort was (xs ++ ys)) written r
  refused_second now left_now new e r exit same left two = record {
    goes_on = both_go_on now new (Err e) two;
    snapshot = both_spare now new (Err e) two;
    same_most = same ∙ two.same_most ∙ one.same_most;
    survives = both_survive now new (Err e) two;
    done = not_done r e _ exit;
    refused = at_exit r e _ exit (record {
      cause = refusal_behind _ _ _ _ e (λ rose. omega (arith, rose, one.goes_on.counts)) (ap (λ (k : Kind). k.limit) one.goes_on.same) two.refused.cause;
      full = heavier _ _ _ _ _ _ _ _ e (λ t. (tells_then t.0, t.1))
          (λ needed t. short_step _ _ _ _ _ _ needed _
          (λ kv log next. begun_behind was.kv mid.kv was.log mid.log xs ys kv log next one.done.state one.done.logged quiet)
          one.same_most (omega (arith, one.done.weight, le)))
          (ap (λ (k : Kind). k.limit) one.goes_on.same) (omega (arith, one.done.weight, le)) two.refused.full;
      left = left;
    });
  }

  -- made or refused, the same stepper was left
  pub both_twice : {U : Type 0} (now : Seen) (new : D) (r : Result U Error) → IfErr r (FailsOrStays now.failed (IsUntouched disk was now old new) written)
      → Makes disk mid now between new says ys more (IsCallTooShort mid ys) second r → Makes disk was now old new says (xs ++ ys) above (IsCallTooShort was (xs ++ ys)) written r
  both_twice now new (Ok y) left two = made_twice now new y y two
  both_twice now new (Err e) left two = refused_second now now new e (Err e) refl refl left two
