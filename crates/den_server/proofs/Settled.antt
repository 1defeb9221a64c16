-- From which moment on a crash leaves what was read at entry.
use Rattle.std.proofs.Common.{◌≡◌, ◌⊎◌, inr, ⊎_elim, ◌↔◌, ℕ, ◌≤◌, ◌+◌, List, [], Err, Some, Option, refl, ◌∙◌, ap, subst, arith}
use Rattle.std.proofs.lemmas.List.{ext_get_or}
use Rattle.std.proofs.lemmas.Bool.{cases_lt}
use Rattle.den_disk.specs.declared.place.Place.{Place}
use Rattle.den_disk.specs.Files.{Files, Range, Content, IsImageAt, IsImage}
use Rattle.den_disk.specs.Families.{NoNewImages, SparesAll}
use Rattle.den_codec.specs.declared.error.Error.{Error}
use Rattle.den_codec.specs.declared.error.Error.TheVariants as error
use Rattle.den_model.specs.Kv.{Durable, Kv}
use Rattle.den_journal.specs.Opening.{AllSynced}
use Rattle.den_disk.specs.declared.place.Family.{Family}
use Rattle.den_core.specs.Spared.{SparesFamily}
use Rattle.den_server.specs.Opening.{Settles, SurvivesOpening}

pub same_reading : (old new : Content) → SparesAll old new → new.reading ≡ old.reading
same_reading old new spares = λ i q. spares.reading q i

file_is : (place : Place) (read found : List ℕ) → IsImageAt [] place read found → found ≡ read
file_is place read found image = ext_get_or 0 found read image.as_long (λ k lt. image.same k (omega (arith, image.as_long)) (λ never. never))

-- with nothing pending the one image is what is read
pub image_is_reading : (c : Content) (files : Files) → c.pending ≡ [] → IsImage c files → files ≡ c.reading
image_is_reading c files none image = λ i q. file_is q (c.reading q) (files q) (subst (λ (p : List Range). IsImageAt p q (c.reading q) (files q)) none (image q)) i

-- no call at all
pub no_call : (images : ℕ → Files → Type 0) (t : ℕ) → NoNewImages images images t t
no_call images t = record { each = λ u files begun ended at. let same : u ≡ t = omega arith in subst (λ v. images v files) same at }

-- calls that only read spare each family's files
pub spares_read : {D : Type 0} (family : Family) (content : D → Content) (moment : D → ℕ) (images : D → ℕ → Files → Type 0) (old new : D) → SparesAll (content old) (content new)
    → NoNewImages (images old) (images new) (moment old) (moment new) → SparesFamily family content moment images old new
spares_read family content moment images old new all none = record {
  own = record { reading = λ q is. all.reading q; pending = λ q is k at. all.pending q k at };
  images = λ t files begun ended at. (files, none.each t files begun ended at, λ q is. refl);
}

-- an opening that failed has synced, or left all as it was
pub settled_or_same : (A : Type 0) (e : Error) (old new : Content) → AllSynced {A = A} (Err e) old new → (new ≡ old) ⊎ (new.pending ≡ [])
settled_or_same A error.OutOfMemory old new h = inr h
settled_or_same A error.StorageIoError old new h = h
settled_or_same A (error.DataCorruption place offset) old new h = inr h
settled_or_same A (error.DiskFull needed limit) old new h = inr h
settled_or_same A error.LinkFault old new h = inr h
settled_or_same A error.FeatureNotEnabled old new h = inr h
settled_or_same A error.ProposeFailed old new h = inr h
settled_or_same A (error.UnorderedChunk index) old new h = inr h
settled_or_same A (error.Config place) old new h = inr h
settled_or_same A error.ConfigFault old new h = inr h
settled_or_same A error.StateMachineError old new h = inr h

-- no sync succeeded
pub never_settles : (images : ℕ → Files → Type 0) (from to : ℕ) (ok same : Type 0) (reading : Files) → from ≤ to → (ok → ⊥) → same → Settles images from to ok same reading
never_settles images from to ok same reading le never is = record {
  synced = to + 1;
  low = omega arith;
  high = omega arith;
  reached = λ o. absurd (never o);
  none = λ lt. is;
  each = λ t files begun ended at. absurd (omega arith);
}

-- nothing is pending at the end
pub settles_now : (images : ℕ → Files → Type 0) (from to : ℕ) (ok same : Type 0) (reading : Files) (c : Content) → from ≤ to → ((files : Files) → images to files ↔ IsImage c files)
    → c.reading ≡ reading → c.pending ≡ [] → Settles images from to ok same reading
settles_now images from to ok same reading c le now read none = record {
  synced = to;
  low = le;
  high = omega arith;
  reached = λ o. omega arith;
  none = λ lt. absurd (omega arith);
  each = λ t files begun ended at. let here : t ≡ to = omega arith in image_is_reading c files none ((now files).0 (subst (λ u. images u files) here at)) ∙ read;
}

-- calls that bring no new image leave it so
pub settles_on : (mid_images images : ℕ → Files → Type 0) (from mid to : ℕ) (done ok before same : Type 0) (reading : Files) → mid ≤ to → done
    → ((t : ℕ) (files : Files) → t ≤ mid → images t files → mid_images t files) → NoNewImages mid_images images mid to
    → Settles mid_images from mid done before reading → Settles images from to ok same reading
settles_on mid_images images from mid to done ok before same reading le is past none s = let early = s.reached is in record {
  synced = s.synced;
  low = s.low;
  high = omega (arith, early);
  reached = λ o. omega (arith, early);
  none = λ lt. absurd (omega (arith, early));
  each = λ t files begun ended at. ⊎_elim
      (λ less. s.each t files begun (omega arith) (past t files (omega arith) at))
      (λ more. s.each mid files early (omega arith) (none.each t files more ended at))
      (cases_lt t mid);
}

module _ (holds : Files → Option Durable) where
  -- what was read at entry stands
  pub settled_survives : (old_images images : ℕ → Files → Type 0) (from to : ℕ) (ok same : Type 0) (reading : Files) (kv : Kv) → holds reading ≡ Some kv.durable → NoNewImages old_images images from to
      → Settles images from to ok same reading → SurvivesOpening holds old_images images from to ok same [] kv []
  settled_survives old_images images from to ok same reading kv stands none s = record {
    synced = s.synced;
    low = s.low;
    high = s.high;
    reached = s.reached;
    none = s.none;
    before = λ t files begun early ended at. none.each t files begun ended at;
    behind = record {
      each = λ t files begun ended at. record {
        count = 0;
        within = omega arith;
        stands = ap holds (s.each t files begun ended at) ∙ stands;
        sent = record { rest = []; is = refl };
      };
      moments = record {};
    };
  }
