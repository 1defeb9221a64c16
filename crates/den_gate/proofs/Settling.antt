-- What a sync and reads after it leave.
use Rattle.std.proofs.Common.{◌≡◌, ◌↔◌, ℕ, ◌+◌, ◌≤◌, Result, IsTrue, refl, sym, subst}
use Rattle.den_disk.specs.Files.{Files, Kind, Content, IsImage, synced}
use Rattle.den_disk.specs.Crash.{Stays, Changes, Leaves, IsSynced}
use Rattle.den_disk.specs.Goes.{DiskGoesOn}
use Rattle.den_disk.specs.Families.{SparesAll, NoNewImages}
use Rattle.den_disk.proofs.Moments.{becomes, changes, stays_more}

synced_image : (c : Content) (files : Files) → IsImage (synced c) files → IsImage c files
synced_image c files i q = record { as_long = (i q).as_long; same = λ k lt settled. (i q).same k lt (λ none. absurd none) }

-- a disk goes on over calls of which each moment is known
pub goes_on : {D : Type 0} (kind : D → Kind) (content : D → Content) (moment : D → ℕ) (images : D → ℕ → Files → Type 0) (faults : D → ℕ) (P : ℕ → Files → Type 0) (old new : D)
    → kind new ≡ kind old → faults old ≤ faults new → (IsTrue (kind old).tells → Leaves content moment images P old new) → DiskGoesOn kind moment images faults old new
goes_on kind content moment images faults P old new same counts run = record {
  same = same;
  counts = counts;
  told = λ tells. let l = run tells in record { later = l.later; past = λ t files le i. (l.kept t files le).0 i; keeps = λ t files le i. (l.kept t files le).1 i };
}

module _ {D : Type 0} (content : D → Content) (moment : D → ℕ) (images : D → ℕ → Files → Type 0) (start : D) where
  -- nothing comes that was not read, nothing more is pending, and no image comes that was none at the start
  pub record Settles (new : D) : Type 0 where
    pub leaves : Leaves content moment images (λ t files. images start (moment start) files) start new
    pub spares : SparesAll (content start) (content new)

  pub settles_sync : {T E : Type 0} (result : Result T E) (new : D) → ((files : Files) → images start (moment start) files ↔ IsImage (content start) files) → ((files : Files) → images new (moment new) files ↔ IsImage (content new) files)
      → Changes content moment images result (IsSynced (content start)) (λ _. ⊥) (IsImage (content start)) start new → Settles new
  settles_sync result new now now' w =
      let Inv : Content → Type 0 = λ c. ((files : Files) → IsImage c files → IsImage (content start) files) × SparesAll (content start) c in
      let after : Inv (content new) = becomes (moment start + 2 ≤ moment new) result Inv (IsSynced (content start)) (λ _. ⊥) (content start) (content new) w.ok w.err
      ((λ files i. i), record { reading = λ q. refl; pending = λ q k h. h })
      (λ is. subst Inv (sym is) ((λ files i. synced_image (content start) files i), record { reading = λ q. refl; pending = λ q k h. absurd h }))
      (λ none. absurd none) in
      record {
        leaves = changes content moment images (λ t files. images start (moment start) files) result _ _ _ start new w (λ files i. i) (λ t files i. (now files).1 i)
            (λ files i. (now files).1 (after.0 files ((now' files).0 i)));
        spares = after.1;
      }

  pub settles_stays : (mid new : D) → Settles mid → Stays content moment images mid new → Settles new
  settles_stays mid new s same = record {
    leaves = stays_more content moment images (λ t files. images start (moment start) files) start mid new s.leaves same;
    spares = subst (λ c. SparesAll (content start) c) (sym same.content_same) s.spares;
  }

  pub settles_images : (new : D) → Settles new → NoNewImages (images start) (images new) (moment start) (moment new)
  settles_images new s = record { each = λ t files low high i. s.leaves.each t files low high i }
