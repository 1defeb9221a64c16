-- What an opened family's files give.
use Rattle.std.proofs.Common.{◌≡◌, ℕ, ◌+◌, IsTrue, List, [], ◌∷◌, length, Result, Ok, Err, inr, sym, ap, ◌∙◌, subst, arith, length-append}
use Rattle.std.specs.Result.{IsErrAnd, IfErr, IfOk}
use Rattle.den_disk.specs.declared.place.Family.{Family}
use Rattle.den_disk.specs.declared.place.Place.{Place}
use Rattle.den_disk.specs.declared.disk.Disk.{Ghosts}
use Rattle.den_disk.specs.Files.{Kind, Content}
use Rattle.den_disk.specs.Families.{SparesAll, NoNewImages}
use Rattle.den_model.specs.Spelling.{u64_word}
use Rattle.den_model.specs.Regions.{Region, regions, open_region, open_regions, placed}
use Rattle.den_model.specs.Image.{slot_of, meaning_of, in_regions}
use Rattle.den_model.proofs.Numbers.{length_u64_word}
use Rattle.den_gate.specs.declared.gate.GateFile.{GateFile}
use Rattle.den_gate.specs.Gate.{payloads}
use Rattle.den_gate.specs.Reads.{OnlyReads}
use Rattle.den_gate.proofs.Families.{rest_regions}
use Rattle.den_codec.specs.declared.error.Error.{Error}
use Rattle.den_codec.specs.declared.error.Error.TheVariants as error
use Rattle.den_journal.specs.Writes.{GoesOn}
use Rattle.den_journal.specs.Folding.{end_from, IsUnread}
use Rattle.den_journal.specs.Opening.{IsLoaded, AllSynced}

-- ---- what was read means what the payloads do

pub loaded_regions : (family : Family) (gate : GateFile) (old new : Content) → IsLoaded family gate old new → SparesAll old new → regions (old.reading (slot_of family old.reading)) ≡ Ok (placed 0 (payloads gate new.reading))
loaded_regions family gate old new is spares =
    ap (λ (p : Place). regions (old.reading p)) (sym is.slot) ∙ ap regions (sym (spares.reading gate.slot)) ∙ rest_regions gate new is.at_rest

pub loaded_meaning : {A : Type 0} (family : Family) (meaning : List Region → Result A ℕ) (gate : GateFile) (old new : Content) → IsLoaded family gate old new → SparesAll old new
    → in_regions family meaning old.reading ≡ meaning (placed 0 (payloads gate new.reading))
loaded_meaning family meaning gate old new is spares = ap (meaning_of meaning) (loaded_regions family gate old new is spares)

-- ---- offsets

pub end_is : (n : ℕ) (ps : List (List ℕ)) → end_from n ps ≡ n + length (open_regions ps)
end_is n [] = omega arith
end_is n (p ∷ ps) =
    omega (arith, end_is (n + (9 + length p)) ps, length-append (open_region p) (open_regions ps), length-append (u64_word (length p)) p, length_u64_word (length p))

-- ---- refusals

pub unread_weaker : (rose then : Type 0) (P Q : ℕ → ℕ → Type 0) (e : Error) → (rose → then) → ((place offset : ℕ) → P place offset → Q place offset) → IsUnread rose P e → IsUnread then Q e
unread_weaker rose then P Q error.OutOfMemory rises weaker h = tt
unread_weaker rose then P Q error.StorageIoError rises weaker h = rises h
unread_weaker rose then P Q (error.DiskFull needed limit) rises weaker h = h
unread_weaker rose then P Q error.LinkFault rises weaker h = h
unread_weaker rose then P Q (error.DataCorruption place offset) rises weaker h = weaker place offset h
unread_weaker rose then P Q error.FeatureNotEnabled rises weaker h = h
unread_weaker rose then P Q error.ProposeFailed rises weaker h = h
unread_weaker rose then P Q (error.UnorderedChunk index) rises weaker h = h
unread_weaker rose then P Q (error.Config place) rises weaker h = h
unread_weaker rose then P Q error.ConfigFault rises weaker h = h
unread_weaker rose then P Q error.StateMachineError rises weaker h = h

-- a refusal that is handed on
pub handed_on : {A E : Type 0} (P : E → Type 0) (x : E) (r : Result A E) → IsErrAnd r (λ e. e ≡ x) → P x → IfErr r P
handed_on P x (Ok y) h p = tt
handed_on P x (Err e) h p = subst P (sym h) p

-- whatever an opening that has synced answers
pub settled_out : {A : Type 0} (result : Result A Error) (old new : Content) → new.pending ≡ [] → AllSynced result old new
settled_out (Ok x) old new h = h
settled_out (Err error.OutOfMemory) old new h = h
settled_out (Err error.StorageIoError) old new h = inr h
settled_out (Err (error.DiskFull needed limit)) old new h = h
settled_out (Err error.LinkFault) old new h = h
settled_out (Err (error.DataCorruption place offset)) old new h = h
settled_out (Err error.FeatureNotEnabled) old new h = h
settled_out (Err error.ProposeFailed) old new h = h
settled_out (Err (error.UnorderedChunk index)) old new h = h
settled_out (Err (error.Config place)) old new h = h
settled_out (Err error.ConfigFault) old new h = h
settled_out (Err error.StateMachineError) old new h = h

-- a refusal that is handed on is no opened store
pub not_opened : {A E : Type 0} (P : A → Type 0) (x : E) (r : Result A E) → IsErrAnd r (λ e. e ≡ x) → IfOk r P
not_opened P x (Ok y) h = absurd h
not_opened P x (Err e) h = tt

-- ---- reads behind an opening

module _ {D : Type 0} (disk : Ghosts D) (old mid new : D) (reads : OnlyReads disk mid new) where
  pub reads_on : GoesOn disk old mid → GoesOn disk old new
  reads_on first = record {
    same = reads.goes_on.same ∙ first.same;
    counts = omega (arith, first.counts, reads.goes_on.counts);
    told = λ tells. let one = first.told tells in
        let s = reads.stays (subst (λ (k : Kind). IsTrue k.tells) (sym first.same) tells) in
        record {
          later = omega (arith, one.later, s.moment_same);
          past = λ t files le i. one.past t files le ((s.images_same t files).0 i);
          keeps = λ t files le i. (s.images_same t files).1 (one.keeps t files le i);
        };
  }

  module _ (tells : IsTrue (disk.kind mid).tells) where
    pub reads_images : NoNewImages (disk.images old) (disk.images mid) (disk.moment old) (disk.moment mid) → NoNewImages (disk.images old) (disk.images new) (disk.moment old) (disk.moment new)
    reads_images first = let s = reads.stays tells in
        record { each = λ t files low high i. first.each t files low (omega (arith, s.moment_same)) ((s.images_same t files).0 i) }

    pub reads_spares : SparesAll (disk.content old) (disk.content mid) → SparesAll (disk.content old) (disk.content new)
    reads_spares first = subst (λ (c : Content). SparesAll (disk.content old) c) (sym (reads.stays tells).content_same) first

    pub reads_settled : {A : Type 0} (result : Result A Error) → (disk.content mid).pending ≡ [] → AllSynced result (disk.content old) (disk.content new)
    reads_settled result h = settled_out result (disk.content old) (disk.content new) (ap (λ (c : Content). c.pending) (reads.stays tells).content_same ∙ h)
