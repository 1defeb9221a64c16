-- What the Snapshot family's files hold once a snapshot's word was written there, and what the call leaves.
use Rattle.std.proofs.Common.{◌≡◌, ◌⊎◌, ◌≤◌, ◌+◌, ◌∙◌, inl, inr, ⊎_elim, ℕ, IsTrue, [], ◌∷◌, length, Some, Result, Ok, Err, IfErr, refl, sym, ap, subst, arith}
use Rattle.std.specs.Prelude.{max}
use Rattle.std.specs.Result.{IsErrAnd}
use Rattle.den_disk.specs.declared.disk.Disk.{Ghosts}
use Rattle.den_disk.specs.declared.place.Family.TheVariants.{Snapshot}
use Rattle.den_disk.specs.Files.{Files}
use Rattle.den_model.specs.declared.log_id.LogId.{LogId}
use Rattle.den_model.specs.MapState.{MapState}
use Rattle.den_codec.specs.declared.error.Error.{Error}
use Rattle.den_codec.specs.declared.error.Error.TheVariants as error
use Rattle.den_codec.specs.Full.{IsHeavy}
use Rattle.den_map.specs.Sizes.{pairs_size}
use Rattle.den_map.proofs.Checkpoints.{stored_long}
use Rattle.den_snapshot.specs.Snapshots.{Taken, taken_of}
use Rattle.den_snapshot.specs.Words.{snapshot_in, snapshot_word}
use Rattle.den_snapshot.proofs.Giving.{snapshot_long}
use Rattle.den_gate.specs.Slot.{room_for}
use Rattle.den_journal.specs.Causes.{IsFullAt, IsFullFor}
use Rattle.den_journal.specs.OneWord.{GivesAsBefore, HasOne, IsRefusalOfOne, WritesOne, one_of}
use Rattle.den_journal.specs.Shown.{Shown, rewrite_size}
use Rattle.den_journal.specs.Writes.{DiskTells, Faulted}
use Rattle.den_gate.proofs.Alone.{Law}
use Rattle.den_journal.proofs.Full.{full_of}
use Rattle.den_journal.proofs.Moving.{goes_nowhere}
use Rattle.den_journal.proofs.OneWord.{value_kept}
use Rattle.den_state.specs.Snapshots.{Generates, HoldsSnapshot, IsUnstored, snapshot_of}

-- ---- the files

-- files of one word
one_read : (word : _) (files : Files) → HasOne Snapshot word files → snapshot_of files ≡ snapshot_in word
one_read word files one = ap (one_of snapshot_in) one

held_by : (t : Taken) (files : Files) → snapshot_in (snapshot_word t) ≡ Some t → HasOne Snapshot (snapshot_word t) files → HoldsSnapshot t files
held_by t files again one = record { one = one; is = one_read (snapshot_word t) files one ∙ again }

-- ---- the call

-- why a word was not written is why its snapshot is not stored
unstored : (rose told : Type 0) (files : Files) (size most : ℕ) (e : Error) → IsRefusalOfOne rose told Snapshot files size most e → IsUnstored rose told most e
unstored rose told files size most error.OutOfMemory h = tt
unstored rose told files size most error.StorageIoError h = h
unstored rose told files size most (error.DiskFull needed limit) h = (h.passes, h.limit_is)
unstored rose told files size most (error.DataCorruption place offset) h = h
unstored rose told files size most error.LinkFault h = h
unstored rose told files size most error.FeatureNotEnabled h = h
unstored rose told files size most error.ProposeFailed h = h
unstored rose told files size most (error.UnorderedChunk index) h = h
unstored rose told files size most (error.Config place) h = h
unstored rose told files size most error.ConfigFault h = h
unstored rose told files size most error.StateMachineError h = h

full_for : (rose told : Type 0) (files : Files) (size most weight : ℕ) (e : Error) → size ≤ weight → IsRefusalOfOne rose told Snapshot files size most e → IsFullFor told Snapshot files weight (λ n. ⊥) (λ n. n ≡ size) e
full_for rose told files size most weight (error.DiskFull needed limit) within h = (record { size = size; within = within; room = omega (arith, h.room) }, λ t. inr (h.short t))
full_for rose told files size most weight error.OutOfMemory within h = tt
full_for rose told files size most weight error.StorageIoError within h = tt
full_for rose told files size most weight (error.DataCorruption place offset) within h = tt
full_for rose told files size most weight error.LinkFault within h = tt
full_for rose told files size most weight error.FeatureNotEnabled within h = tt
full_for rose told files size most weight error.ProposeFailed within h = tt
full_for rose told files size most weight (error.UnorderedChunk index) within h = tt
full_for rose told files size most weight (error.Config place) within h = tt
full_for rose told files size most weight error.ConfigFault within h = tt
full_for rose told files size most weight error.StateMachineError within h = tt

heavy_for : (rose told : Type 0) (files : Files) (size most weight : ℕ) (e : Error) → size ≤ weight → IsRefusalOfOne rose told Snapshot files size most e → IsHeavy most weight e
heavy_for rose told files size most weight (error.DiskFull needed limit) within h =
    let room : needed ≡ room_for size 0 = omega (arith, h.room) in
    omega (arith, full_of size needed limit weight room h.passes h.least within, h.limit_is)
heavy_for rose told files size most weight error.OutOfMemory within h = tt
heavy_for rose told files size most weight error.StorageIoError within h = tt
heavy_for rose told files size most weight (error.DataCorruption place offset) within h = tt
heavy_for rose told files size most weight error.LinkFault within h = tt
heavy_for rose told files size most weight error.FeatureNotEnabled within h = tt
heavy_for rose told files size most weight error.ProposeFailed within h = tt
heavy_for rose told files size most weight (error.UnorderedChunk index) within h = tt
heavy_for rose told files size most weight (error.Config place) within h = tt
heavy_for rose told files size most weight error.ConfigFault within h = tt
heavy_for rose told files size most weight error.StateMachineError within h = tt

room_told : (rose told : Type 0) (files : Files) (size most : ℕ) (e : Error) → IsRefusalOfOne rose told Snapshot files size most e → IsFullAt 0 size e
room_told rose told files size most (error.DiskFull needed limit) h = h.room
room_told rose told files size most error.OutOfMemory h = tt
room_told rose told files size most error.StorageIoError h = tt
room_told rose told files size most (error.DataCorruption place offset) h = tt
room_told rose told files size most error.LinkFault h = tt
room_told rose told files size most error.FeatureNotEnabled h = tt
room_told rose told files size most error.ProposeFailed h = tt
room_told rose told files size most (error.UnorderedChunk index) h = tt
room_told rose told files size most (error.Config place) h = tt
room_told rose told files size most error.ConfigFault h = tt
room_told rose told files size most error.StateMachineError h = tt

-- no word is told from want of memory
not_wanting : (rose told : Type 0) (files : Files) (size most : ℕ) (e : Error) → IsRefusalOfOne rose told Snapshot files size most e → e ≡ error.OutOfMemory → ⊥
not_wanting rose told files size most e h is = subst (IsRefusalOfOne rose told Snapshot files size most) is h

module _ {D : Type 0} (disk : Ghosts D) (was now : Shown MapState) (made : Taken) (same_value : now.value ≡ was.value) (same_weight : now.weight ≡ was.weight) (again : snapshot_in (snapshot_word made) ≡ Some made) where
  module _ (old new : D) where
    -- a crash finds what it found before, or the new word
    kept_by : {T : Type 0} → Law disk → (r : Result T Error) → WritesOne disk Snapshot (snapshot_word made) old new r → DiskTells disk old
        → (t : ℕ) (files : Files) → disk.moment old ≤ t → t ≤ disk.moment new → disk.images new t files
        → HoldsSnapshot made files ⊎ GivesAsBefore Snapshot snapshot_in (disk.images old (disk.moment old)) files
    kept_by law r w tells t files low high i =
        ⊎_elim (λ one. inl (held_by made files again one)) (λ same. inr same) (value_kept disk law Snapshot (snapshot_word made) snapshot_in old new r w tells t files low high i)

    pub generated : {S T : Type 0} → Law disk → (x : S) (y : T) → now.ready → (DiskTells disk old → now.rests (disk.content new)) → WritesOne disk Snapshot (snapshot_word made) old new (Ok x) → Generates disk was now old new made (Ok y)
    generated law x y ready rests w = record {
      goes_on = w.goes_on;
      others = w.images;
      spares = w.spares;
      same_value = same_value;
      same_weight = same_weight;
      done = record {
        ready = ready;
        rests = rests;
        reading = λ tells. held_by made (disk.content new).reading again (w.written tells).reading;
        images = λ tells files i. held_by made files again ((w.written tells).images files i);
      };
      kept = kept_by law (Ok x) w;
      cause = tt;
      full = tt;
      heavy = tt;
      room = tt;
      untouched = tt;
      failed = tt;
    }

    pub not_generated : {S T : Type 0} → Law disk → (e : Error) → (now.ready → ⊥) → length (snapshot_word made) ≤ was.weight → WritesOne disk Snapshot {T = S} (snapshot_word made) old new (Err e) → Generates disk was now old new {T = T} made (Err e)
    not_generated law e failed within w =
        let size = length (snapshot_word made) in
        let limit = (disk.kind old).limit in
        let files = (disk.content new).reading in
        record {
          goes_on = w.goes_on;
          others = w.images;
          spares = w.spares;
          same_value = same_value;
          same_weight = same_weight;
          done = tt;
          kept = kept_by law (Err e) w;
          cause = unstored (Faulted disk old new) (DiskTells disk old) files size limit e w.refused;
          full = full_for (Faulted disk old new) (DiskTells disk old) files size limit was.weight e within w.refused;
          heavy = heavy_for (Faulted disk old new) (DiskTells disk old) files size limit was.weight e within w.refused;
          room = room_told (Faulted disk old new) (DiskTells disk old) files size limit e w.refused;
          untouched = λ is. absurd (not_wanting (Faulted disk old new) (DiskTells disk old) files size limit e w.refused is);
          failed = λ _. failed;
        }

-- memory was wanting before the first write
pub wanting : {D T : Type 0} (disk : Ghosts D) (was : Shown MapState) (made : Taken) (d : D) → was.ready → (DiskTells disk d → was.rests (disk.content d)) → (r : Result T Error) → IsErrAnd r (λ e. e ≡ error.OutOfMemory) → Generates disk was was d d made r
wanting disk was made d ready rests (Ok x) is = absurd is
wanting disk was made d ready rests (Err e) is = record {
  goes_on = goes_nowhere disk d;
  others = λ tells. record { each = λ t files low high i. (files, subst (λ k. disk.images d k files) (omega arith) i, λ q ne. refl) };
  spares = λ tells. record { reading = λ q ne. refl; pending = λ q ne k h. h };
  same_value = refl;
  same_weight = refl;
  done = tt;
  kept = λ tells t files low high i. inr (record { origin = files; was = subst (λ k. disk.images d k files) (omega arith) i; same = refl });
  cause = subst (IsUnstored (Faulted disk d d) (DiskTells disk d) (disk.kind d).limit) (sym is) tt;
  full = subst (IsFullFor (DiskTells disk d) Snapshot (disk.content d).reading was.weight (λ n. ⊥) (λ n. n ≡ length (snapshot_word made))) (sym is) tt;
  heavy = subst (IsHeavy (disk.kind d).limit was.weight) (sym is) tt;
  room = subst (IsFullAt 0 (length (snapshot_word made))) (sym is) tt;
  untouched = λ _. record { same_disk = refl; same_value = refl; same_weight = refl; ready = ready; rests = rests };
  failed = λ other. absurd (other is);
}

-- ---- its size

-- a snapshot's word is no longer than what the map takes when it is written anew
pub word_within : (end : ℕ) (mark : LogId) (m : MapState) → length (snapshot_word (taken_of mark m)) ≤ max end (rewrite_size (pairs_size m.pairs))
word_within end mark m =
    let long = snapshot_long (taken_of mark m) in
    let same = stored_long m.expiries m.pairs in
    omega (arith, long, same)
