-- From what one device call does to what a crash leaves in it.
use Rattle.std.proofs.Common.{◌≡◌, inl, ⊎_elim, ◌↔◌, ℕ, ◌+◌, ◌<◌, ◌≤◌, Result, List, [], ◌∷◌, length, refl, sym, ◌∙◌, subst, arith}
use Rattle.den_disk.specs.declared.place.Place.{Place}
use Rattle.den_disk.specs.Files.{Files, Content, IsImage, torn, resized}
use Rattle.den_disk.specs.Crash.{Stays, Changes, Leaves, IsWritten, IsHalfWritten, IsResized, IsSynced, IsEither}
use Rattle.den_disk.proofs.Moments.{call, call_stays, started, and_then, weaker}
use Rattle.den_gate.specs.Steps.{Spares, IsFrom, Keeps, KeepsOrAdds, IsOpen, IsStaged, IsCalm, IsPoised, RunKeeps, RunKeepsOrAdds}
use Rattle.den_gate.proofs.Calm.{calm_start, poised_start, calm_image, calm_torn, calm_written, calm_resized, calm_synced, poised_image, poised_torn, poised_written, poised_synced}

-- what holds of the images of the content that an append began with, of those that the disk may leave then
pub from_first : (slot : Place) (before before' : Files → Type 0) → ((files : Files) → before files → before' files) → (files : Files) → IsFrom slot before files → IsFrom slot before' files
from_first slot before before' f files h = record { origin = h.origin; was = f h.origin h.was; others = h.others }

module _ {D : Type 0} (content : D → Content) (moment : D → ℕ) (images : D → ℕ → Files → Type 0) (slot : Place) (payloads : List (List ℕ)) (end : ℕ) (start : D)
    (at_start : (files : Files) → images start (moment start) files ↔ IsImage (content start) files) where
  abbrev Now : D → Type 0
  Now d = (files : Files) → images d (moment d) files ↔ IsImage (content d) files

  -- what a crash leaves before the gate is opened
  abbrev pub Kept : ℕ → Files → Type 0
  Kept t files = Keeps slot payloads (images start (moment start)) files

  abbrev Inv : Content → Type 0
  Inv c = IsCalm slot payloads end (content start) c

  keep : (t : ℕ) (c : Content) (files : Files) → Inv c → IsImage c files → Kept t files
  keep t c files b image =
      let k = calm_image slot (content start) payloads end c files b image in
      record { from = from_first slot (IsImage (content start)) (images start (moment start)) (λ f i. (at_start f).1 i) files k.from; stands = k.stands }

  pub calm_stays : (old new : D) → Now old → Inv (content old) → Stays content moment images old new → Leaves content moment images Kept old new × Inv (content new)
  calm_stays old new now b s = call_stays content moment images Kept Inv old new keep now s b

  pub calm_writes : {T E : Type 0} (result : Result T E) (at : ℕ) (bytes : List ℕ) (old new : D) → end < at → at + length bytes ≤ length ((content old).reading slot) → Now old → Now new → Inv (content old)
      → Changes content moment images result (IsWritten slot at bytes (content old)) (IsHalfWritten slot at bytes (content old)) (IsImage (torn slot at (length bytes) (content old))) old new
      → Leaves content moment images Kept old new × Inv (content new)
  calm_writes result at bytes old new past room now now' b w =
      call content moment images Kept Inv result _ _ _ old new keep now now' w
      (λ is. subst Inv (sym is) (calm_written slot (content start) payloads end (content old) at bytes past room b))
      (λ is. subst Inv (sym is.2) (calm_written slot (content start) payloads end (content old) at is.0 past (omega (arith, is.1)) b))
      (λ t files i. keep t (torn slot at (length bytes) (content old)) files (calm_torn slot (content start) payloads end (content old) at (length bytes) past b) i)
      b

  pub calm_resizes : {T E : Type 0} (result : Result T E) (len : ℕ) (old new : D) → end ≤ len → Now old → Now new → Inv (content old)
      → Changes content moment images result (IsResized slot len (content old)) (IsResized slot len (content old)) (IsEither (content old) (resized slot len (content old))) old new
      → Leaves content moment images Kept old new × Inv (content new)
  calm_resizes result len old new fits now now' b w =
      let after = calm_resized slot (content start) payloads end (content old) len fits b in
      call content moment images Kept Inv result _ _ _ old new keep now now' w
      (λ is. subst Inv (sym is) after)
      (λ is. subst Inv (sym is) after)
      (λ t files i. ⊎_elim (keep t (content old) files b) (keep t (resized slot len (content old)) files after) i)
      b

  pub calm_syncs : {T E : Type 0} (result : Result T E) (old new : D) → Now old → Now new → Inv (content old)
      → Changes content moment images result (IsSynced (content old)) (λ _. ⊥) (IsImage (content old)) old new
      → Leaves content moment images Kept old new × Inv (content new)
  calm_syncs result old new now now' b w =
      call content moment images Kept Inv result _ _ _ old new keep now now' w
      (λ is. subst Inv (sym is) (calm_synced slot (content start) payloads end (content old) b))
      (λ none. absurd none)
      (λ t files i. keep t (content old) files b i)
      b

  -- the calls so far
  abbrev pub Ran : D → Type 0
  Ran d = Leaves content moment images Kept start d × Inv (content d)

  pub ran_start : IsOpen slot payloads end (content start) → Ran start
  ran_start o =
      let inv = calm_start slot (content start) payloads end o in
      (started content moment images Kept start (λ files i. keep (moment start) (content start) files inv ((at_start files).0 i)), inv)

  pub ran_stays : (old new : D) → Now old → Ran old → Stays content moment images old new → Ran new
  ran_stays old new now r s = let one = calm_stays old new now r.1 s in (and_then content moment images Kept start old new r.0 one.0, one.1)

  pub ran_writes : {T E : Type 0} (result : Result T E) (at : ℕ) (bytes : List ℕ) (old new : D) → end < at → at + length bytes ≤ length ((content old).reading slot) → Now old → Now new → Ran old
      → Changes content moment images result (IsWritten slot at bytes (content old)) (IsHalfWritten slot at bytes (content old)) (IsImage (torn slot at (length bytes) (content old))) old new → Ran new
  ran_writes result at bytes old new past room now now' r w =
      let one = calm_writes result at bytes old new past room now now' r.1 w in (and_then content moment images Kept start old new r.0 one.0, one.1)

  pub ran_resizes : {T E : Type 0} (result : Result T E) (len : ℕ) (old new : D) → end ≤ len → Now old → Now new → Ran old
      → Changes content moment images result (IsResized slot len (content old)) (IsResized slot len (content old)) (IsEither (content old) (resized slot len (content old))) old new → Ran new
  ran_resizes result len old new fits now now' r w =
      let one = calm_resizes result len old new fits now now' r.1 w in (and_then content moment images Kept start old new r.0 one.0, one.1)

  pub ran_syncs : {T E : Type 0} (result : Result T E) (old new : D) → Now old → Now new → Ran old
      → Changes content moment images result (IsSynced (content old)) (λ _. ⊥) (IsImage (content old)) old new → Ran new
  ran_syncs result old new now now' r w =
      let one = calm_syncs result old new now now' r.1 w in (and_then content moment images Kept start old new r.0 one.0, one.1)

  pub ran_keeps : (new : D) → Ran new → RunKeeps content moment images slot payloads start new
  ran_keeps new r = record { any_moment = r.0; spares = r.1.spares }

  module _ (payload : List ℕ) where
    abbrev pub KeptOrAdded : ℕ → Files → Type 0
    KeptOrAdded t files = KeepsOrAdds slot payloads payload (images start (moment start)) files

    abbrev Ready : Content → Type 0
    Ready c = IsPoised slot payloads payload end (content start) c

    keep_or_add : (t : ℕ) (c : Content) (files : Files) → Ready c → IsImage c files → KeptOrAdded t files
    keep_or_add t c files b image =
        let k = poised_image slot (content start) payloads end payload c files b image in
        record { from = from_first slot (IsImage (content start)) (images start (moment start)) (λ f i. (at_start f).1 i) files k.from; stands = k.stands }

    pub poised_writes : {T E : Type 0} (result : Result T E) (bytes : List ℕ) (old new : D) → length bytes ≡ 1 → Now old → Now new → Ready (content old)
        → Changes content moment images result (IsWritten slot end bytes (content old)) (IsHalfWritten slot end bytes (content old)) (IsImage (torn slot end (length bytes) (content old))) old new
        → Leaves content moment images KeptOrAdded old new × Ready (content new)
    poised_writes result bytes old new one now now' b w =
        call content moment images KeptOrAdded Ready result _ _ _ old new keep_or_add now now' w
        (λ is. subst Ready (sym is) (poised_written slot (content start) payloads end payload (content old) bytes one b))
        (λ is. subst Ready (sym is.2) (poised_written slot (content start) payloads end payload (content old) is.0 (is.1 ∙ one) b))
        (λ t files i. keep_or_add t (torn slot end 1 (content old)) files (poised_torn slot (content start) payloads end payload (content old) b) (subst (λ (n : ℕ). IsImage (torn slot end n (content old)) files) one i))
        b

    pub poised_syncs : {T E : Type 0} (result : Result T E) (old new : D) → Now old → Now new → Ready (content old)
        → Changes content moment images result (IsSynced (content old)) (λ _. ⊥) (IsImage (content old)) old new
        → Leaves content moment images KeptOrAdded old new × Ready (content new)
    poised_syncs result old new now now' b w =
        call content moment images KeptOrAdded Ready result _ _ _ old new keep_or_add now now' w
        (λ is. subst Ready (sym is) (poised_synced slot (content start) payloads end payload (content old) b))
        (λ none. absurd none)
        (λ t files i. keep_or_add t (content old) files b i)
        b

    -- the write of the gate, and then the sync
    abbrev pub RanOn : D → Type 0
    RanOn d = Leaves content moment images KeptOrAdded start d × Ready (content d)

    pub ran_opens : {T E : Type 0} (result : Result T E) (new : D) → IsStaged slot payloads payload end (content start) → Now new
        → Changes content moment images result (IsWritten slot end (1 ∷ []) (content start)) (IsHalfWritten slot end (1 ∷ []) (content start)) (IsImage (torn slot end 1 (content start))) start new → RanOn new
    ran_opens result new o now' w = poised_writes result (1 ∷ []) start new refl at_start now' (poised_start slot (content start) payloads end payload o) w

    pub ran_opened : {T E : Type 0} (result : Result T E) (old new : D) → Now old → Now new → RanOn old
        → Changes content moment images result (IsSynced (content old)) (λ _. ⊥) (IsImage (content old)) old new → RanOn new
    ran_opened result old new now now' r w =
        let one = poised_syncs result old new now now' r.1 w in (and_then content moment images KeptOrAdded start old new r.0 one.0, one.1)

    pub ran_adds : (new : D) → RanOn new → RunKeepsOrAdds content moment images slot payloads payload start new
    ran_adds new r = record { any_moment = r.0; spares = r.1.spares }

-- what held from the middle on holds from the start on
pub from_then : (slot : Place) (before mid : Files → Type 0) → ((files : Files) → mid files → IsFrom slot before files) → (files : Files) → IsFrom slot mid files → IsFrom slot before files
from_then slot before mid f files h =
    let o = f h.origin h.was in
    record { origin = o.origin; was = o.was; others = λ q ne. h.others q ne ∙ o.others q ne }

pub keeps_or_adds : {D : Type 0} (content : D → Content) (moment : D → ℕ) (images : D → ℕ → Files → Type 0) (slot : Place) (list : List (List ℕ)) (payload : List ℕ) (old new : D)
    → RunKeeps content moment images slot list old new → RunKeepsOrAdds content moment images slot list payload old new
keeps_or_adds content moment images slot list payload old new l = record {
  any_moment = weaker content moment images (λ t files. Keeps slot list (images old (moment old)) files) (λ t files. KeepsOrAdds slot list payload (images old (moment old)) files) old new
      (λ t files k. record { from = k.from; stands = inl k.stands }) l.any_moment;
  spares = l.spares;
}

module _ {D : Type 0} (content : D → Content) (moment : D → ℕ) (images : D → ℕ → Files → Type 0) (slot : Place) (list : List (List ℕ)) (old mid new : D)
    (first : RunKeeps content moment images slot list old mid) where
  abbrev before : D → Files → Type 0
  before d files = images d (moment d) files

  at_mid : (files : Files) → before mid files → IsFrom slot (before old) files
  at_mid files i = (first.any_moment.each (moment mid) files first.any_moment.later (omega arith) i).from

  pub spares_then : Spares slot (content mid) (content new) → Spares slot (content old) (content new)
  spares_then s = record {
    reading = λ q ne. s.reading q ne ∙ first.spares.reading q ne;
    pending = λ q ne k h. first.spares.pending q ne k (s.pending q ne k h);
  }

  pub keeps_then : RunKeeps content moment images slot list mid new → RunKeeps content moment images slot list old new
  keeps_then second = record {
    any_moment = and_then content moment images (λ t files. Keeps slot list (before old) files) old mid new first.any_moment
        (weaker content moment images (λ t files. Keeps slot list (before mid) files) (λ t files. Keeps slot list (before old) files) mid new
        (λ t files k. record { from = from_then slot (before old) (before mid) at_mid files k.from; stands = k.stands }) second.any_moment);
    spares = spares_then second.spares;
  }

  pub adds_then : (payload : List ℕ) → RunKeepsOrAdds content moment images slot list payload mid new → RunKeepsOrAdds content moment images slot list payload old new
  adds_then payload second = record {
    any_moment = and_then content moment images (λ t files. KeepsOrAdds slot list payload (before old) files) old mid new (keeps_or_adds content moment images slot list payload old mid first).any_moment
        (weaker content moment images (λ t files. KeepsOrAdds slot list payload (before mid) files) (λ t files. KeepsOrAdds slot list payload (before old) files) mid new
        (λ t files k. record { from = from_then slot (before old) (before mid) at_mid files k.from; stands = k.stands }) second.any_moment);
    spares = spares_then second.spares;
  }
