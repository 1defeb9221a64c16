-- What a call on one store's files leaves of the others', and what the three stand for then.
use Rattle.std.proofs.Common.{◌≡◌, ◌↔◌, IsTrue, inl, inr, ⊎_elim, ℕ, ◌≤◌, Option, Some, Result, Ok, Err, OnOk, refl, sym, ◌∙◌, ap, subst, arith}
use Rattle.std.proofs.lemmas.Bool.{cases_lt}
use Rattle.den_disk.specs.declared.place.Family.{Family}
use Rattle.den_disk.specs.declared.place.Family.TheVariants.{Log as log_family, Meta as meta_family, State as state_family, Snapshot as snapshot_family}
use Rattle.den_disk.specs.Families.{SameOf, SparesOthers, SparesOwn, SparesImages, OldOrNew}
use Rattle.den_disk.specs.Files.{Files, Kind, Content, IsImage}
use Rattle.den_disk.specs.Goes.{DiskGoesOn, ImagesGoOn}
use Rattle.den_model.specs.declared.log_id.HardState.{HardState}
use Rattle.den_model.specs.Image.{durable, joined}
use Rattle.den_model.specs.Kv.{Durable}
use Rattle.den_model.specs.Log.{Log}
use Rattle.den_model.specs.MapState.{MapState}
use Rattle.den_core.specs.Joined.{joined_here}
use Rattle.den_core.specs.Parts.{durable_of, IsCaughtUp}
use Rattle.den_core.specs.Spared.{SparesFamily}

pub log_meta : log_family ≡ meta_family → ⊥
log_meta e = cc

pub log_state : log_family ≡ state_family → ⊥
log_state e = cc

pub meta_log : meta_family ≡ log_family → ⊥
meta_log e = cc

pub meta_state : meta_family ≡ state_family → ⊥
meta_state e = cc

pub state_log : state_family ≡ log_family → ⊥
state_log e = cc

pub state_meta : state_family ≡ meta_family → ⊥
state_meta e = cc

pub snapshot_log : snapshot_family ≡ log_family → ⊥
snapshot_log e = cc

pub snapshot_meta : snapshot_family ≡ meta_family → ⊥
snapshot_meta e = cc

pub snapshot_state : snapshot_family ≡ state_family → ⊥
snapshot_state e = cc

-- each image at each of these moments gives x
pub record GivesAll {X : Type 0} (holds : Files → Option X) (images : ℕ → Files → Type 0) (from to : ℕ) (x : X) : Type 0 where
  pub each : (t : ℕ) (files : Files) → from ≤ t → t ≤ to → images t files → holds files ≡ Some x

-- a store whose files lie as it left them
pub gives_now : {X : Type 0} (holds : Files → Option X) (rests : Content → Type 0) (images : ℕ → Files → Type 0) (now : ℕ) (content : Content) (x : X)
    → ((files : Files) → images now files ↔ IsImage content files)
    → ((files : Files) → rests content → IsImage content files → holds files ≡ Some x)
    → rests content → GivesAll holds images now now x
gives_now holds rests images now content x is law rest = record {
  each = λ t files begun ended at. let same : t ≡ now = omega arith in
      law files rest ((is files).0 (subst (λ n. images n files) same at));
}

-- another family's files are not touched
pub spared : {X : Type 0} (holds : Files → Option X) (own mine : Family) (old_at new_at : ℕ → Files → Type 0) (from to : ℕ) (x : X)
    → (mine ≡ own → ⊥) → ((one other : Files) → SameOf mine one other → holds other ≡ holds one)
    → GivesAll holds old_at from from x → SparesImages own old_at new_at from to → GivesAll holds new_at from to x
spared holds own mine old_at new_at from to x apart law before spares = record {
  each = λ t files begun ended at. let found = spares.each t files begun ended at in
      law found.0 files (λ q is. found.2 q (λ same. apart (sym is ∙ same)))
      ∙ before.each from found.0 (omega arith) (omega arith) found.1;
}

-- nor what is pending there
pub apart_own : (own mine : Family) (old new : Content) → (mine ≡ own → ⊥) → SparesOthers own old new → SparesOwn mine old new
apart_own own mine old new apart spares = record {
  reading = λ q is. spares.reading q (λ same. apart (sym is ∙ same));
  pending = λ q is k new_pending. spares.pending q (λ same. apart (sym is ∙ same)) k new_pending;
}

-- over a call on another family's files
pub spares_by : {D : Type 0} (own mine : Family) (content : D → Content) (moment : D → ℕ) (images : D → ℕ → Files → Type 0) (old new : D) → (mine ≡ own → ⊥)
    → SparesOthers own (content old) (content new) → SparesImages own (images old) (images new) (moment old) (moment new) → SparesFamily mine content moment images old new
spares_by own mine content moment images old new apart others spares = record {
  own = apart_own own mine (content old) (content new) apart others;
  images = λ t files begun ended at. let found = spares.each t files begun ended at in (found.0, found.1, λ q is. found.2 q (λ same. apart (sym is ∙ same)));
}

-- over no call
pub spares_still : {D : Type 0} (mine : Family) (content : D → Content) (moment : D → ℕ) (images : D → ℕ → Files → Type 0) (disk : D) → SparesFamily mine content moment images disk disk
spares_still mine content moment images disk = record {
  own = record { reading = λ q is. refl; pending = λ q is k at. at };
  images = λ t files begun ended at. let same : t ≡ moment disk = omega arith in (files, subst (λ n. images disk n files) same at, λ q is. refl);
}

-- over two calls: an image up to the second's entry is one of the first, and one behind it goes back to an image at it
spares_over : {D : Type 0} (mine : Family) (content : D → Content) (moment : D → ℕ) (images : D → ℕ → Files → Type 0) (old mid new : D)
    → ImagesGoOn moment images old mid → ImagesGoOn moment images mid new
    → SparesFamily mine content moment images old mid → SparesFamily mine content moment images mid new → SparesFamily mine content moment images old new
spares_over mine content moment images old mid new on one_on first second = record {
  own = record {
    reading = λ q is. second.own.reading q is ∙ first.own.reading q is;
    pending = λ q is k at. first.own.pending q is k (second.own.pending q is k at);
  };
  images = λ t files begun ended at. ⊎_elim
      (λ early. first.images t files begun (omega arith) (one_on.past t files (omega arith) at))
      (λ late.
      let found = second.images t files late ended at in
      let before = first.images (moment mid) found.0 on.later (omega arith) found.1 in
      (before.0, before.1, λ q is. found.2 q is ∙ before.2 q is))
      (cases_lt t (moment mid));
}

pub spares_twice : {D : Type 0} (kind : D → Kind) (content : D → Content) (moment : D → ℕ) (images : D → ℕ → Files → Type 0) (faults : D → ℕ) (mine : Family) (old mid new : D)
    → DiskGoesOn kind moment images faults old mid → DiskGoesOn kind moment images faults mid new
    → (IsTrue (kind old).tells → SparesFamily mine content moment images old mid) → (IsTrue (kind mid).tells → SparesFamily mine content moment images mid new)
    → IsTrue (kind old).tells → SparesFamily mine content moment images old new
spares_twice kind content moment images faults mine old mid new on then_on first second told =
    let then : IsTrue (kind mid).tells = subst (λ (k : Kind). IsTrue k.tells) (sym on.same) told in
    spares_over mine content moment images old mid new (on.told told) (then_on.told then) (first told) (second then)

pub joined_is : (a : Option Log) (b : Option (Option HardState)) (c : Option MapState) (l : Log) (h : Option HardState) (s : MapState)
    → a ≡ Some l → b ≡ Some h → c ≡ Some s → joined a b c ≡ durable l h s
joined_is a b c l h s p q r = ap (λ x. joined x b c) p ∙ ap (λ y. joined (Some l) y c) q ∙ ap (λ z. joined (Some l) (Some h) z) r

module _ (holdsG : Files → Option Log) (holdsT : Files → Option (Option HardState)) (holdsM : Files → Option MapState) (images : ℕ → Files → Type 0) (from to : ℕ) where
  -- a call on the log
  pub log_moves : (l l2 : Log) (h : Option HardState) (s : MapState) (d d2 : Durable) → durable l h s ≡ Some d → durable l2 h s ≡ Some d2
      → OldOrNew holdsG images from to l l2 → GivesAll holdsT images from to h → GivesAll holdsM images from to s
      → OldOrNew (λ files. joined (holdsG files) (holdsT files) (holdsM files)) images from to d d2
  log_moves l l2 h s d d2 is is2 moves meta state = record {
    each = λ t files begun ended at. ⊎_elim
        (λ old. inl (joined_is _ _ _ l h s old (meta.each t files begun ended at) (state.each t files begun ended at) ∙ is))
        (λ new. inr (joined_is _ _ _ l2 h s new (meta.each t files begun ended at) (state.each t files begun ended at) ∙ is2))
        (moves.each t files begun ended at);
  }

  -- a call on the hard state
  pub meta_moves : (l : Log) (h h2 : Option HardState) (s : MapState) (d d2 : Durable) → durable l h s ≡ Some d → durable l h2 s ≡ Some d2
      → GivesAll holdsG images from to l → OldOrNew holdsT images from to h h2 → GivesAll holdsM images from to s
      → OldOrNew (λ files. joined (holdsG files) (holdsT files) (holdsM files)) images from to d d2
  meta_moves l h h2 s d d2 is is2 log moves state = record {
    each = λ t files begun ended at. ⊎_elim
        (λ old. inl (joined_is _ _ _ l h s (log.each t files begun ended at) old (state.each t files begun ended at) ∙ is))
        (λ new. inr (joined_is _ _ _ l h2 s (log.each t files begun ended at) new (state.each t files begun ended at) ∙ is2))
        (moves.each t files begun ended at);
  }

  -- a call on the map
  pub state_moves : (l : Log) (h : Option HardState) (s s2 : MapState) (d d2 : Durable) → durable l h s ≡ Some d → durable l h s2 ≡ Some d2
      → GivesAll holdsG images from to l → GivesAll holdsT images from to h → OldOrNew holdsM images from to s s2
      → OldOrNew (λ files. joined (holdsG files) (holdsT files) (holdsM files)) images from to d d2
  state_moves l h s s2 d d2 is is2 log meta moves = record {
    each = λ t files begun ended at. ⊎_elim
        (λ old. inl (joined_is _ _ _ l h s (log.each t files begun ended at) (meta.each t files begun ended at) old ∙ is))
        (λ new. inr (joined_is _ _ _ l h s2 (log.each t files begun ended at) (meta.each t files begun ended at) new ∙ is2))
        (moves.each t files begun ended at);
  }

  -- none
  pub all_give : (l : Log) (h : Option HardState) (s : MapState) (d : Durable) → durable l h s ≡ Some d
      → GivesAll holdsG images from to l → GivesAll holdsT images from to h → GivesAll holdsM images from to s
      → GivesAll (λ files. joined (holdsG files) (holdsT files) (holdsM files)) images from to d
  all_give l h s d is log meta state = record {
    each = λ t files begun ended at. joined_is _ _ _ l h s (log.each t files begun ended at) (meta.each t files begun ended at) (state.each t files begun ended at) ∙ is;
  }

-- a move, and then a call that moves nothing
pub moves_then : {X : Type 0} (holds : Files → Option X) (old_at new_at : ℕ → Files → Type 0) (from mid to : ℕ) (x y : X)
    → ((t : ℕ) (files : Files) → t ≤ mid → new_at t files → old_at t files)
    → OldOrNew holds old_at from mid x y → OldOrNew holds new_at mid to y y → OldOrNew holds new_at from to x y
moves_then holds old_at new_at from mid to x y past one two = record {
  each = λ t files begun ended at. ⊎_elim
      (λ early. one.each t files begun (omega arith) (past t files (omega arith) at))
      (λ late. ⊎_elim (λ old. inr old) (λ new. inr new) (two.each t files late ended at))
      (cases_lt t mid);
}

-- nothing moved
pub gives_old : {X : Type 0} (holds : Files → Option X) (images : ℕ → Files → Type 0) (from to : ℕ) (x y : X) → GivesAll holds images from to x → OldOrNew holds images from to x y
gives_old holds images from to x y given = record { each = λ t files begun ended at. inl (given.each t files begun ended at) }

pub spares_none : (own : Family) (images : ℕ → Files → Type 0) (now : ℕ) → SparesImages own images images now now
spares_none own images now = record {
  each = λ t files begun ended at. let same : t ≡ now = omega arith in (files, subst (λ n. images n files) same at, λ q other. refl);
}

-- a call that moves nothing
pub same_gives : {X : Type 0} (holds : Files → Option X) (images : ℕ → Files → Type 0) (from to : ℕ) (x : X) → OldOrNew holds images from to x x → GivesAll holds images from to x
same_gives holds images from to x moves = record { each = λ t files begun ended at. ⊎_elim (λ old. old) (λ new. new) (moves.each t files begun ended at) }

pub on_ok_just : {T E P : Type 0} (r : Result T E) → P → OnOk r P
on_ok_just (Ok x) p = p
on_ok_just (Err e) p = tt

-- three stores whose files lie as they left them, and go together
pub all_at_rest : (holdsG : Files → Option Log) (holdsT : Files → Option (Option HardState)) (holdsM : Files → Option MapState) (images : ℕ → Files → Type 0) (now : ℕ) (content : Content)
    (l : Log) (h : Option HardState) (s : MapState) → IsCaughtUp l s → ((files : Files) → images now files ↔ IsImage content files)
    → ((files : Files) → IsImage content files → holdsG files ≡ Some l) → ((files : Files) → IsImage content files → holdsT files ≡ Some h) → ((files : Files) → IsImage content files → holdsM files ≡ Some s)
    → GivesAll (λ files. joined (holdsG files) (holdsT files) (holdsM files)) images now now (durable_of h s)
all_at_rest holdsG holdsT holdsM images now content l h s caught law log meta state = record {
  each = λ t files begun ended at.
      let same : t ≡ now = omega arith in
      let image = (law files).0 (subst (λ n. images n files) same at) in
      joined_here (holdsG files) (holdsT files) (holdsM files) l h s caught (log files image) (meta files image) (state files image);
}
