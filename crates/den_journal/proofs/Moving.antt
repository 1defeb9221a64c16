-- What a call of a store leaves at each of its exits.
use Rattle.std.proofs.Common.{◌≡◌, inl, inr, ⊎_elim, ℕ, ◌+◌, ◌≤◌, List, [], ◌∷◌, ◌++◌, IsTrue, Option, Some, Result, Ok, Err, refl, sym, ap, ◌∙◌, subst, arith}
use Rattle.std.specs.Result.{IsErrAnd}
use Rattle.std.proofs.Math.Nat.{le_refl}
use Rattle.std.proofs.lemmas.Bool.{cases_lt}
use Rattle.den_disk.specs.declared.disk.Disk.{Ghosts}
use Rattle.den_disk.specs.declared.place.Family.{Family}
use Rattle.den_disk.specs.declared.place.Place.{Place}
use Rattle.den_disk.specs.Files.{Files, Kind}
use Rattle.den_disk.specs.Families.{OldOrNew, SparesImages, SparesOthers, SparesAll, NoNewImages}
use Rattle.den_model.specs.Regions.{Region, placed}
use Rattle.den_model.specs.Image.{ok}
use Rattle.den_codec.specs.declared.error.Error.{Error}
use Rattle.den_codec.specs.declared.error.Error.TheVariants.{OutOfMemory}
use Rattle.den_codec.specs.Full.{IsHeavy}
use Rattle.den_gate.specs.Gate.{KeepsFamily, KeepsOrAddsFamily}
use Rattle.den_gate.specs.Draft.{other_slot, FlipsFamily}
use Rattle.den_gate.proofs.Families.{has_meaning, adds_meaning}
use Rattle.den_journal.specs.Causes.{IsFullFor, IsOfDisk, IsRefusal}
use Rattle.den_journal.specs.Shown.{Effect, Held, IsOneOf, Shown, held_in}
use Rattle.den_journal.specs.Writes.{GoesOn, DiskTells, Faulted, Moves, IsLost, Writes}

same_moment : (t u : ℕ) → t ≤ u → u ≤ t → u ≡ t
same_moment t u low high = omega arith

-- ---- a call that gets no new image

-- the first of some values is one of them
pub first_of : {V : Type 0} (v : V) (vs : List V) (found : Option V) → found ≡ Some v → IsOneOf (v ∷ vs) found
first_of v [] found is = is
first_of v (w ∷ vs) found is = inl is

module _ {D V : Type 0} (disk : Ghosts D) (family : Family) (holds : Held V) (v : V) (more : List V) where
  -- what gets no new image leaves the old value
  pub moves_not : (old new : D) → (holds.told → (files : Files) → disk.images old (disk.moment old) files → holds.of files ≡ Some v)
      → NoNewImages (disk.images old) (disk.images new) (disk.moment old) (disk.moment new) → SparesAll (disk.content old) (disk.content new)
      → Moves disk family holds (v ∷ more) old new
  moves_not old new gives none spares = record {
    own = λ told t files low high i. first_of v more (holds.of files) (gives told files (none.each t files low high i));
    others = record { each = λ t files low high i. (files, none.each t files low high i, λ q ne. refl) };
    spares = record { reading = λ q ne. spares.reading q; pending = λ q ne k h. spares.pending q k h };
  }

  -- what is left as it was
  pub moves_nothing : (d : D) → (holds.told → (files : Files) → disk.images d (disk.moment d) files → holds.of files ≡ Some v) → Moves disk family holds (v ∷ more) d d
  moves_nothing d gives = moves_not d d gives (record { each = λ t files low high i. subst (λ k. disk.images d k files) (same_moment (disk.moment d) t low high) i })
      (record { reading = λ q. refl; pending = λ q k h. h })

-- a call that leaves one of two values, of a store that tells what files give
pub old_or_new : {D V : Type 0} {disk : Ghosts D} {family : Family} {holds : Held V} {v w : V} {old new : D} → holds.told → Moves disk family holds (v ∷ w ∷ []) old new
    → OldOrNew holds.of (disk.images new) (disk.moment old) (disk.moment new) v w
old_or_new told m = record { each = m.own told }

-- ---- a call that adds a region

pub moves_by : {D V : Type 0} (disk : Ghosts D) (family : Family) (meaning : List Region → Result V ℕ) (slot : Place) (list : List (List ℕ)) (payload : List ℕ) (v w : V) (old new : D) → slot.family ≡ family
    → meaning (placed 0 list) ≡ Ok v → meaning (placed 0 (list ++ payload ∷ [])) ≡ Ok w → KeepsOrAddsFamily slot list payload (disk.images new) (disk.moment old) (disk.moment new)
    → SparesImages slot.family (disk.images old) (disk.images new) (disk.moment old) (disk.moment new) → SparesOthers slot.family (disk.content old) (disk.content new)
    → Moves disk family (held_in family meaning) (v ∷ w ∷ []) old new
moves_by disk family meaning slot list payload v w old new own was is adds others spares = record {
  own = λ told. (adds_meaning (held_in family meaning).of slot list payload (disk.images new) (disk.moment old) (disk.moment new) v w
      (λ files h. ap ok (has_meaning family meaning slot list files own h ∙ was))
      (λ files h. ap ok (has_meaning family meaning slot (list ++ payload ∷ []) files own h ∙ is)) adds).each;
  others = subst (λ (f : Family). SparesImages f (disk.images old) (disk.images new) (disk.moment old) (disk.moment new)) own others;
  spares = subst (λ (f : Family). SparesOthers f (disk.content old) (disk.content new)) own spares;
}

-- ---- calls on a draft, and those that put a list in the place of another

module _ {D V : Type 0} (disk : Ghosts D) (family : Family) (meaning : List Region → Result V ℕ) (slot : Place) (list : List (List ℕ)) (v : V) (old new : D) (own : slot.family ≡ family) (was : meaning (placed 0 list) ≡ Ok v)
    (others : SparesImages slot.family (disk.images old) (disk.images new) (disk.moment old) (disk.moment new)) (spares : SparesOthers slot.family (disk.content old) (disk.content new)) where
  pub moves_kept : KeepsFamily slot list (disk.images new) (disk.moment old) (disk.moment new) → Moves disk family (held_in family meaning) (v ∷ []) old new
  moves_kept keeps = record {
    own = λ told t files low high i. ap ok (has_meaning family meaning slot list files own (keeps.each t files low high i) ∙ was);
    others = subst (λ (f : Family). SparesImages f (disk.images old) (disk.images new) (disk.moment old) (disk.moment new)) own others;
    spares = subst (λ (f : Family). SparesOthers f (disk.content old) (disk.content new)) own spares;
  }

  pub moves_flipped : (now : List (List ℕ)) (w : V) → meaning (placed 0 now) ≡ Ok w → FlipsFamily slot (other_slot slot) list now (disk.images new) (disk.moment old) (disk.moment new)
      → Moves disk family (held_in family meaning) (v ∷ w ∷ []) old new
  moves_flipped now w is flips = record {
    own = λ told t files low high i. ⊎_elim (λ h. inl (ap ok (has_meaning family meaning slot list files own h ∙ was))) (λ h. inr (ap ok (has_meaning family meaning (other_slot slot) now files own h ∙ is)))
        (flips.each t files low high i);
    others = subst (λ (f : Family). SparesImages f (disk.images old) (disk.images new) (disk.moment old) (disk.moment new)) own others;
    spares = subst (λ (f : Family). SparesOthers f (disk.content old) (disk.content new)) own spares;
  }

-- ---- one stretch behind another

module _ {D V : Type 0} {disk : Ghosts D} {family : Family} {holds : Held V} {old mid new : D} (begins : GoesOn disk old mid) (goes : GoesOn disk mid new) (tells : DiskTells disk old) where
  -- two stretches, each of whose values is one of some
  pub moves_joined : (vs ws us : List V) → ((found : Option V) → IsOneOf vs found → IsOneOf us found) → ((found : Option V) → IsOneOf ws found → IsOneOf us found)
      → Moves disk family holds vs old mid → Moves disk family holds ws mid new → Moves disk family holds us old new
  moves_joined vs ws us first second one two = record {
    own = λ told t files low high i. ⊎_elim (λ early. first (holds.of files) (one.own told t files low (omega arith) ((goes.told (subst (λ (k : Kind). IsTrue k.tells) (sym begins.same) tells)).past t files (omega arith) i))) (λ late. second (holds.of files) (two.own told t files late high i))
        (cases_lt t (disk.moment mid));
    others = record {
      each = λ t files low high i. ⊎_elim (λ early. one.others.each t files low (omega arith) ((goes.told (subst (λ (k : Kind). IsTrue k.tells) (sym begins.same) tells)).past t files (omega arith) i))
          (λ late. let b = two.others.each t files late high i in
          let a = one.others.each (disk.moment mid) b.0 (begins.told tells).later (le_refl (disk.moment mid)) b.1 in (a.0, a.1, λ q ne. b.2 q ne ∙ a.2 q ne))
          (cases_lt t (disk.moment mid));
    };
    spares = record {
      reading = λ q ne. two.spares.reading q ne ∙ one.spares.reading q ne;
      pending = λ q ne k h. one.spares.pending q ne k (two.spares.pending q ne k h);
    };
  }

  -- two stretches with the same values
  pub moves_on : (vs : List V) → Moves disk family holds vs old mid → Moves disk family holds vs mid new → Moves disk family holds vs old new
  moves_on vs one two = moves_joined vs vs vs (λ found h. h) (λ found h. h) one two

  -- a stretch that leaves the old value or the new one, behind one that leaves the old one
  pub moves_before : (v w : V) → Moves disk family holds (v ∷ []) old mid → Moves disk family holds (v ∷ w ∷ []) mid new → Moves disk family holds (v ∷ w ∷ []) old new
  moves_before v w one two = moves_joined (v ∷ []) (v ∷ w ∷ []) (v ∷ w ∷ []) (λ found h. inl h) (λ found h. h) one two

  -- a stretch that leaves the new value, behind one that leaves the old one or the new one
  pub moves_behind : (v w : V) → Moves disk family holds (v ∷ w ∷ []) old mid → Moves disk family holds (w ∷ []) mid new → Moves disk family holds (v ∷ w ∷ []) old new
  moves_behind v w one two = moves_joined (v ∷ w ∷ []) (w ∷ []) (v ∷ w ∷ []) (λ found h. h) (λ found h. inr h) one two

-- ---- the exits at which nothing was written

-- what goes on from where it is
pub goes_nowhere : {D : Type 0} (disk : Ghosts D) (d : D) → GoesOn disk d d
goes_nowhere disk d = record {
  same = refl;
  counts = le_refl (disk.faults d);
  told = λ tells. record { later = le_refl (disk.moment d); past = λ t files low i. i; keeps = λ t files low i. i };
}

module _ {D V T : Type 0} (disk : Ghosts D) (family : Family) (holds : Held V) (change : Effect V) (was now : Shown V) (d : D)
    (ready : now.ready) (rests : DiskTells disk d → now.rests (disk.content d)) (gives : DiskTells disk d → holds.told → (files : Files) → disk.images d (disk.moment d) files → holds.of files ≡ Some was.value) where
  -- nothing was to be changed
  pub writes_nothing : (x : T) → now.value ≡ change.to → now.weight ≤ was.weight → Writes disk was now d d family holds change (Ok x)
  writes_nothing x same light = record {
    goes_on = goes_nowhere disk d;
    moves = λ tells. moves_nothing disk family holds was.value (change.to ∷ []) d (gives tells);
    done = record { value = same; weight = omega arith; ready = ready; rests = rests };
    refused = tt;
  }

  -- memory was wanting
  pub writes_refused : (result : Result T Error) → IsErrAnd result (λ e. e ≡ OutOfMemory) → now.value ≡ was.value → now.weight ≡ was.weight → Writes disk was now d d family holds change result
  writes_refused (Ok x) is same even = absurd is
  writes_refused (Err e) is same even = record {
    goes_on = goes_nowhere disk d;
    moves = λ tells. moves_nothing disk family holds was.value (change.to ∷ []) d (gives tells);
    done = tt;
    refused = record {
      cause = subst (IsRefusal (Faulted disk d d) (disk.kind d).limit) (sym is) tt;
      full = subst (IsFullFor (DiskTells disk d × holds.told) family (disk.content d).reading (was.weight + change.rise) change.adds change.drafts) (sym is) tt;
      heavy = subst (IsHeavy (disk.kind d).limit (was.weight + change.rise)) (sym is) tt;
      untouched = λ _. inl (record { same_disk = refl; same_value = same; same_weight = even; ready = ready; rests = rests });
      failed = λ of_disk _. subst IsOfDisk is of_disk;
      kept = λ of_disk. absurd (subst IsOfDisk is of_disk);
    };
  }

-- memory was wanting once a change was written
pub writes_lost : {D V T : Type 0} (disk : Ghosts D) (family : Family) (holds : Held V) (change : Effect V) (was now : Shown V) (old new : D) (result : Result T Error) → IsErrAnd result (λ e. e ≡ OutOfMemory)
    → GoesOn disk old new → (DiskTells disk old → Moves disk family holds (was.value ∷ change.to ∷ []) old new) → IsLost disk was now old new holds change → Writes disk was now old new family holds change result
writes_lost disk family holds change was now old new (Ok x) is goes moves so = absurd is
writes_lost disk family holds change was now old new (Err e) is goes moves so = record {
  goes_on = goes;
  moves = moves;
  done = tt;
  refused = record {
    cause = subst (IsRefusal (Faulted disk old new) (disk.kind old).limit) (sym is) tt;
    full = subst (IsFullFor (DiskTells disk old × holds.told) family (disk.content new).reading (was.weight + change.rise) change.adds change.drafts) (sym is) tt;
    heavy = subst (IsHeavy (disk.kind old).limit (was.weight + change.rise)) (sym is) tt;
    untouched = λ _. inr so;
    failed = λ of_disk _. subst IsOfDisk is of_disk;
    kept = λ of_disk. absurd (subst IsOfDisk is of_disk);
  };
}
