-- A state machine whose map was written anew, alone and behind a change.
use Rattle.std.proofs.Common.{◌≡◌, inl, inr, ⊎_elim, ◌∙◌, ℕ, ◌+◌, ◌≤◌, IsTrue, [], ◌∷◌, Some, Result, Ok, Err, sym, ap, subst, arith}
use Rattle.std.proofs.Math.Nat.{le_refl}
use Rattle.den_disk.specs.declared.disk.Disk.{Ghosts as DiskGhosts}
use Rattle.den_disk.specs.declared.place.Family.TheVariants.{State}
use Rattle.den_disk.specs.Files.{Kind}
use Rattle.den_disk.specs.Goes.{Rose}
use Rattle.den_model.specs.MapState.{MapState}
use Rattle.den_codec.specs.declared.error.Error.{Error}
use Rattle.den_codec.specs.Full.{IsHeavy}
use Rattle.den_journal.specs.declared.journal.Journal.{Journal}
use Rattle.den_journal.specs.Journals.{journal_shown}
use Rattle.den_journal.specs.Shown.{Effect, Held, IsOneOf, Shown, seen_as}
use Rattle.den_journal.specs.Writes.{Faulted, GoesOn, Moves, DiskTells, Writes}
use Rattle.den_journal.proofs.Drafting.{later_cause}
use Rattle.den_journal.proofs.Moving.{moves_behind}
use Rattle.den_journal.proofs.Seen.{more_full, more_heavy}
use Rattle.den_state.specs.contracts.stored_map.StoredMapFolded.TheImpl.{ghosts}
use Rattle.den_state.specs.declared.stored_map.StoredMap.{StoredMap}
use Rattle.den_state.specs.Checkpoint.{IsCheckpointSize, Renews, renew_change}
use Rattle.den_state.specs.FileState.{map_held}
use Rattle.den_state.specs.Folds.{held_map}
use Rattle.den_state.specs.Stored.{Stored}

-- ---- alone

-- what is seen of a journal's map
abbrev pub map_shown : Journal StoredMap → Shown MapState
map_shown j = seen_as (λ (v : Stored). v.map) (journal_shown ghosts j)

module _ {D : Type 0} (disk : DiskGhosts D) (was now : Journal StoredMap) (old new : D) (same : now.held.map ≡ was.held.map) where
  m : MapState
  m = was.held.map

  -- each crash leaves the map
  anew_moves : {T : Type 0} (r : Result T Error) → Renews ghosts disk (ghosts.value was.held) was.held.map was now old new (journal_shown ghosts was).weight r → DiskTells disk old → Moves disk State map_held (was.held.map ∷ was.held.map ∷ []) old new
  anew_moves r a tells =
      let moves = a.steps.drafts.moves tells in
      record {
        own = λ told t files low high i. ⊎_elim (λ h. inl (held_map files (record { map = was.held.map; tail = was.held.tail }) h)) (λ h. inr (held_map files (record { map = was.held.map; tail = 0 }) h)) (moves.own told t files low high i);
        others = moves.others;
        spares = moves.spares;
      }

  pub anew_writes : {T : Type 0} (r : Result T Error) → Renews ghosts disk (ghosts.value was.held) was.held.map was now old new (journal_shown ghosts was).weight r → Writes disk (map_shown was) (map_shown now) old new State map_held (renew_change was.held.map) r
  anew_writes (Ok x) a = record {
    goes_on = a.steps.drafts.goes_on;
    moves = anew_moves (Ok x) a;
    done = record { value = same; weight = omega (arith, a.done.weight); ready = a.done.ready; rests = a.done.rests };
    refused = tt;
  }
  anew_writes (Err e) a = record {
    goes_on = a.steps.drafts.goes_on;
    moves = anew_moves (Err e) a;
    done = tt;
    refused = record {
      cause = a.steps.drafts.cause;
      full = more_full (DiskTells disk old) (DiskTells disk old × map_held.told) State (disk.content new).reading (journal_shown ghosts was).weight ((journal_shown ghosts was).weight + 0) (λ n. ⊥) (IsCheckpointSize was.held.map) (λ n. ⊥) (IsCheckpointSize was.held.map) e (λ t. t.0) (omega arith) (λ n h. h) (λ n h. h) a.steps.full;
      heavy = more_heavy (disk.kind old).limit (journal_shown ghosts was).weight ((journal_shown ghosts was).weight + 0) e (omega arith) a.steps.heavy;
      untouched = λ _. inr (record {
        may_be = tt;
        failed = a.steps.drafts.failed;
        held = λ tells told files i. ⊎_elim (λ h. h) (λ h. h) ((anew_moves (Err e) a tells).own told (disk.moment new) files (a.steps.drafts.goes_on.told tells).later (le_refl (disk.moment new)) i);
      });
      failed = λ _. a.steps.drafts.failed;
      kept = λ _. inl same;
    };
  }

-- ---- behind a change

module _ {D : Type 0} (disk : DiskGhosts D) (holds : Held MapState) (was mid now : Shown MapState) (old d new : D) (change : Effect MapState) where
  goes_then : GoesOn disk old d → GoesOn disk d new → GoesOn disk old new
  goes_then one two = record {
    same = two.same ∙ one.same;
    counts = omega (arith, one.counts, two.counts);
    told = λ tells.
        let first = one.told tells in
        let then = two.told (subst (λ (k : Kind). IsTrue k.tells) (sym one.same) tells) in
        record {
          later = omega (arith, first.later, then.later);
          past = λ t files le i. first.past t files le (then.past t files (omega (arith, le, first.later)) i);
          keeps = λ t files le i. then.keeps t files (omega (arith, le, first.later)) (first.keeps t files le i);
        };
  }

  module _ {S : Type 0} (x : S) (one : Writes disk was mid old d State holds change (Ok x)) where
    on : DiskTells disk old → DiskTells disk d
    on tells = subst (λ (k : Kind). IsTrue k.tells) (sym one.goes_on.same) tells

    both : (found : _) → IsOneOf (mid.value ∷ mid.value ∷ []) found → found ≡ Some change.to
    both found h = ⊎_elim (λ a. a) (λ b. b) h ∙ ap (λ (n : MapState). Some n) one.done.value

    moves_both : {T : Type 0} (r : Result T Error) → Writes disk mid now d new State holds (renew_change mid.value) r → DiskTells disk old → Moves disk State holds (was.value ∷ change.to ∷ []) old new
    moves_both r two tells =
        let moves = two.moves (on tells) in
        moves_behind one.goes_on two.goes_on tells was.value change.to (one.moves tells)
        (record { own = λ told t files low high i. both (holds.of files) (moves.own told t files low high i); others = moves.others; spares = moves.spares })

    later_rose : (first second third : ℕ) → first ≤ second → Rose second third → Rose first third
    later_rose first second third le rose = omega arith

    pub writes_both : {T U : Type 0} (y : U) (z : T) → Writes disk mid now d new State holds (renew_change mid.value) (Ok z) → Writes disk was now old new State holds change (Ok y)
    writes_both y z two = record {
      goes_on = goes_then one.goes_on two.goes_on;
      moves = moves_both (Ok z) two;
      done = record {
        value = two.done.value ∙ one.done.value;
        weight = omega (arith, one.done.weight, two.done.weight);
        ready = two.done.ready;
        rests = λ tells. two.done.rests (on tells);
      };
      refused = tt;
    }

    pub writes_half : {T U : Type 0} (e : Error) → change.lost → ((n : ℕ) → IsCheckpointSize change.to n → change.drafts n) → (now.ready → ⊥) → Writes disk mid now d new {T = T} State holds (renew_change mid.value) (Err e)
        → Writes disk was now old new {T = U} State holds change (Err e)
    writes_half e lost drafts failed two = record {
      goes_on = goes_then one.goes_on two.goes_on;
      moves = moves_both (Err e) two;
      done = tt;
      refused = record {
        cause = later_cause (Faulted disk d new) (Faulted disk old new) (disk.kind old).limit (disk.kind d).limit e (later_rose (disk.faults old) (disk.faults d) (disk.faults new) one.goes_on.counts) (ap (λ (k : Kind). k.limit) one.goes_on.same) two.refused.cause;
        full = more_full (DiskTells disk d × holds.told) (DiskTells disk old × holds.told) State (disk.content new).reading (mid.weight + 0) (was.weight + change.rise) (λ n. ⊥) (IsCheckpointSize mid.value) change.adds change.drafts e (λ t. (on t.0, t.1))
            (omega (arith, one.done.weight)) (λ n h. absurd h) (λ n h. drafts n (subst (λ (v : MapState). IsCheckpointSize v n) one.done.value h)) two.refused.full;
        heavy = subst (λ (n : ℕ). IsHeavy n (was.weight + change.rise) e) (ap (λ (k : Kind). k.limit) one.goes_on.same)
            (more_heavy (disk.kind d).limit (mid.weight + 0) (was.weight + change.rise) e (omega (arith, one.done.weight)) two.refused.heavy);
        untouched = λ _. inr (record {
          may_be = lost;
          failed = failed;
          held = λ tells told files i. both (holds.of files) ((two.moves (on tells)).own told (disk.moment new) files (two.goes_on.told (on tells)).later (le_refl (disk.moment new)) i);
        });
        failed = λ _. failed;
        kept = λ of_disk. inr (⊎_elim (λ a. a) (λ b. b) (two.refused.kept of_disk) ∙ one.done.value);
      };
    }
