-- Two calls in a row.
use Rattle.std.proofs.Common.{◌≡◌, ℕ, Bool, IsTrue, List, ◌∷◌, ◌++◌, [], Option, Some, None, Result, Ok, Err, OnOk, refl, sym, ◌∙◌, ap, subst, arith}
use Rattle.std.proofs.lemmas.List.{append-nil}
use Rattle.den_disk.specs.Files.{Files, Kind}
use Rattle.den_disk.specs.Goes.{DiskGoesOn, LinkGoesOn, ClockGoesOn}
use Rattle.den_model.specs.declared.request.Frame.{Frame}
use Rattle.den_model.specs.Frames.{frames}
use Rattle.den_core.specs.Input.{Found}
use Rattle.den_core.proofs.Lists.{extends_twice, extends_by}

module _ {D : Type 0} (kind : D → Kind) (moment : D → ℕ) (images : D → ℕ → Files → Type 0) (faults : D → ℕ) where
  pub disk_same : (disk : D) → DiskGoesOn kind moment images faults disk disk
  disk_same disk = record {
    same = refl;
    counts = omega arith;
    told = λ t. record { later = omega arith; past = λ m files le at. at; keeps = λ m files le at. at };
  }

  pub disk_twice : (old mid new : D) → DiskGoesOn kind moment images faults old mid → DiskGoesOn kind moment images faults mid new → DiskGoesOn kind moment images faults old new
  disk_twice old mid new one two = record {
    same = two.same ∙ one.same;
    counts = omega (arith, one.counts, two.counts);
    told = λ t.
        let first = one.told t in
        let then = two.told (subst (λ (k : Kind). IsTrue k.tells) (sym one.same) t) in
        record {
          later = omega (arith, first.later, then.later);
          past = λ m files le at. first.past m files le (then.past m files (omega (arith, le, first.later)) at);
          keeps = λ m files le at. then.keeps m files (omega (arith, le, first.later)) (first.keeps m files le at);
        };
  }

module _ {L : Type 0} (tells : L → Bool) (sent : L → List (ℕ × ℕ)) (budget taken faults : L → ℕ) where
  pub link_same : (link : L) → LinkGoesOn tells sent budget taken faults link link
  link_same link = record {
    same = refl;
    grows = λ t. extends_by (sent link) (sent link) [] (sym (append-nil (sent link)));
    limit = refl;
    more = omega arith;
    counts = omega arith;
  }

  pub link_twice : (old mid new : L) → LinkGoesOn tells sent budget taken faults old mid → LinkGoesOn tells sent budget taken faults mid new → LinkGoesOn tells sent budget taken faults old new
  link_twice old mid new one two = record {
    same = two.same ∙ one.same;
    grows = λ told. extends_twice (sent old) (sent mid) (sent new) (one.grows told) (two.grows (subst (λ b. IsTrue b) (sym one.same) told));
    limit = two.limit ∙ one.limit;
    more = omega (arith, one.more, two.more);
    counts = omega (arith, one.counts, two.counts);
  }

module _ {C : Type 0} (tells : C → Bool) (readings : C → List ℕ) where
  pub clock_same : (clock : C) → ClockGoesOn tells readings clock clock
  clock_same clock = record { told = λ t. t; grows = λ t. extends_by (readings clock) (readings clock) [] (sym (append-nil (readings clock))) }

  pub clock_twice : (old mid new : C) → ClockGoesOn tells readings old mid → ClockGoesOn tells readings mid new → ClockGoesOn tells readings old new
  clock_twice old mid new one two = record {
    told = λ told. one.told (two.told told);
    grows = λ told. extends_twice (readings old) (readings mid) (readings new) (one.grows (two.told told)) (two.grows told);
  }

  pub clock_read : (old new : C) (reading : ℕ) → (IsTrue (tells new) → readings new ≡ readings old ++ reading ∷ []) → (IsTrue (tells new) → IsTrue (tells old)) → ClockGoesOn tells readings old new
  clock_read old new reading read told = record { told = told; grows = λ t. extends_by (readings old) (readings new) (reading ∷ []) (read t) }

-- what a read of a frame found
pub found_some : (limit at : ℕ) (left rest : List ℕ) (found : Option Frame) (frame : Frame) → at ≡ limit → found ≡ Some frame → Found at left rest found → frames limit left ≡ frame ∷ frames limit rest
found_some limit at left rest found frame same is h = ap (λ n. frames n left) (sym same) ∙ subst (λ f. Found at left rest f) is h ∙ ap (λ n. frame ∷ frames n rest) same

pub found_none : (limit : ℕ) (left rest : List ℕ) (found : Option Frame) → found ≡ None → Found limit left rest found → (left ≡ []) × (rest ≡ [])
found_none limit left rest found is h = subst (λ f. Found limit left rest f) is h

-- three clauses of one answer
pub on_ok_three : {T E P Q R X : Type 0} (r : Result T E) → (P → Q → R → X) → OnOk r P → OnOk r Q → OnOk r R → OnOk r X
on_ok_three (Ok x) f p q r = f p q r
on_ok_three (Err e) f p q r = tt
