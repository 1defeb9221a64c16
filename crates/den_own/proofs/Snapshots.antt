-- What a state machine leaves that has no memory for snapshots.
use Rattle.std.proofs.Common.{◌≡◌, inl, inr, ◌≤◌, ℕ, Bool, [], Option, Result, Err, refl, subst, arith}
use Rattle.den_disk.specs.declared.disk.Disk.{Ghosts}
use Rattle.den_disk.specs.declared.place.Family.TheVariants.{Snapshot, State}
use Rattle.den_codec.specs.declared.error.Error.{Error}
use Rattle.den_codec.specs.declared.error.Error.TheVariants.{OutOfMemory}
use Rattle.den_journal.specs.Shown.{Shown}
use Rattle.den_journal.proofs.Moving.{goes_nowhere, moves_nothing}
use Rattle.den_model.specs.declared.log_id.LogId.{LogId}
use Rattle.den_model.specs.MapState.{MapState}
use Rattle.den_snapshot.specs.Snapshots.{Taken}
use Rattle.den_state.specs.Snapshots.{Generates, Installs}
use Rattle.den_own.specs.Memory.{nothing_told}

same_moment : (t u : ℕ) → t ≤ u → u ≤ t → u ≡ t
same_moment t u low high = omega arith

module _ {D T : Type 0} (disk : Ghosts D) (was : Shown MapState) (d : D) (ready : was.ready) (rests : was.rests (disk.content d)) where
  -- none is stored
  pub stores_none : (made : Taken) → let result : Result T Error = Err OutOfMemory in Generates disk was was d d made result
  stores_none made =
      let moves = moves_nothing disk Snapshot nothing_told was.value [] d (λ told. absurd told) in
      record {
        goes_on = goes_nowhere disk d;
        others = λ tells. moves.others;
        spares = λ tells. moves.spares;
        same_value = refl;
        same_weight = refl;
        done = tt;
        kept = λ tells t files low high i. inr (record { origin = files; was = subst (λ k. disk.images d k files) (same_moment (disk.moment d) t low high) i; same = refl });
        cause = tt;
        full = tt;
        heavy = tt;
        room = tt;
        untouched = λ memory. record { same_disk = refl; same_value = refl; same_weight = refl; ready = ready; rests = λ tells. rests };
        failed = λ other. absurd (other refl);
      }

  -- none is put in the map's place
  pub installs_none : (leased : Bool) (moment : ℕ) (last : Option LogId) (map : MapState) → let result : Result T Error = Err OutOfMemory in Installs disk leased moment last was was map map d d nothing_told result
  installs_none leased moment last map = record {
    goes_on = goes_nowhere disk d;
    moves = λ tells. moves_nothing disk State nothing_told was.value _ d (λ told. absurd told);
    done = tt;
    refused = inl (record {
      same_value = refl;
      same_map = refl;
      same_weight = refl;
      ready = ready;
      rests = λ tells. rests;
      spares = λ tells. record { reading = λ q. refl; pending = λ q k h. h };
      images = λ tells. record { each = λ t files low high i. subst (λ k. disk.images d k files) (same_moment (disk.moment d) t low high) i };
    });
    kept = inl (refl, refl);
  }
