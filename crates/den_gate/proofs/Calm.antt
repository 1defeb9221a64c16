-- What a crash leaves of the slot while a region is put behind its closed gate, and while that gate is opened.
use Rattle.std.proofs.Common.{◌≡◌, ◌⊎◌, inl, inr, ⊎_elim, ℕ, ◌+◌, ◌<◌, ◌≤◌, ◌^◌, List, [], ◌∷◌, ◌++◌, length, get_or, take, drop, refl, sym, ◌∙◌, ap, subst, arith, length-append, length-take}
use Rattle.std.proofs.lemmas.Bool.{cases_eq}
use Rattle.std.proofs.lemmas.List.{get_or_append_left, get_or_at}
use Rattle.den_disk.specs.declared.place.Place.{Place}
use Rattle.den_disk.specs.Files.{Files, Range, Content, IsPending, IsImageAt, IsImage, written, torn, resized, synced, put_at, fit}
use Rattle.den_disk.proofs.Places.{change-here}
use Rattle.den_disk.proofs.Images.{agree, agree_one, put_image, take-fit, fit_one}
use Rattle.den_model.specs.Spelling.{u64_word}
use Rattle.den_gate.specs.Slot.{Holds, Staged}
use Rattle.den_gate.specs.Steps.{Keeps, KeepsOrAdds, IsOpen, IsStaged, IsCalm, IsPoised}
use Rattle.den_gate.proofs.Written.{holds_regions, staged_open, staged_shut, staged_long, staged_once, staged_written}
use Rattle.den_gate.proofs.Beside.{spares_start, spares_written, spares_torn, spares_resized, spares_synced, spares_from, cut_pending}

holds_long : (ps : List (List ℕ)) (end : ℕ) (file : List ℕ) → Holds ps end file → end ≤ length file
holds_long ps end file h = omega (arith, ap length h.front, h.size, length-take end file)

-- an image that has nothing pending up to the gate
holds_image : (ps : List (List ℕ)) (end : ℕ) (pending : List Range) (place : Place) (read found : List ℕ) → Holds ps end read → IsImageAt pending place read found
    → ((k : ℕ) → k ≤ end → IsPending pending place k → ⊥) → Holds ps end found
holds_image ps end pending place read found h image settled =
    let same : get_or found end 0 ≡ get_or read end 0 = agree_one pending place read found image end (settled end (omega arith)) in
    record {
      front = agree pending place read found image 0 end (λ k from to. settled k (omega arith)) ∙ h.front;
      size = h.size;
      small = h.small;
      closed = λ e. h.closed (sym same ∙ e);
    }

-- an image that has nothing pending but the gate
staged_image : (ps : List (List ℕ)) (p : List ℕ) (end : ℕ) (pending : List Range) (place : Place) (read found : List ℕ) → Staged ps p end read → IsImageAt pending place read found
    → ((k : ℕ) → (k < end) ⊎ (end + 1 ≤ k) → IsPending pending place k → ⊥) → Staged ps p end found
staged_image ps p end pending place read found s image settled = record {
  front = agree pending place read found image 0 end (λ k from to. settled k (inl (omega arith))) ∙ s.front;
  size = s.size;
  small = s.small;
  behind = agree pending place read found image (end + 1) (9 + length p) (λ k from to. settled k (inr from)) ∙ s.behind;
}

module _ (slot : Place) (first : Content) (ps : List (List ℕ)) (end : ℕ) where
  pub calm_image : (c : Content) (files : Files) → IsCalm slot ps end first c → IsImage c files → Keeps slot ps (IsImage first) files
  calm_image c files b image = record {
    from = spares_from slot first c files b.spares image;
    stands = holds_regions ps end (files slot) (holds_image ps end c.pending slot (c.reading slot) (files slot) b.holds (image slot) b.settled);
  }

  pub calm_torn : (c : Content) (at n : ℕ) → end < at → IsCalm slot ps end first c → IsCalm slot ps end first (torn slot at n c)
  calm_torn c at n past b = record {
    spares = spares_torn slot first c at n b.spares;
    holds = b.holds;
    settled = λ k le h. ⊎_elim (λ here. absurd (omega (arith, here.1))) (b.settled k le) h;
  }

  pub calm_written : (c : Content) (at : ℕ) (bytes : List ℕ) → end < at → at + length bytes ≤ length (c.reading slot) → IsCalm slot ps end first c → IsCalm slot ps end first (written slot at bytes c)
  calm_written c at bytes past room b =
      let file = c.reading slot in
      let image = put_image at bytes file room slot [] in
      let put : Holds ps end (put_at at bytes file) = holds_image ps end (record { place = slot; from = at; to = at + length bytes } ∷ []) slot file (put_at at bytes file) b.holds image
      (λ k le h. ⊎_elim (λ here. absurd (omega (arith, here.1))) (λ none. absurd none) h) in
      record {
        spares = spares_written slot first c at bytes b.spares;
        holds = subst (λ (l : List ℕ). Holds ps end l) (sym (change-here slot (put_at at bytes) c.reading)) put;
        settled = λ k le h. ⊎_elim (λ here. absurd (omega (arith, here.1))) (b.settled k le) h;
      }

  pub fitted : (len : ℕ) (file : List ℕ) → end ≤ len → Holds ps end file → Holds ps end (fit len file)
  fitted len file fits h = record {
    front = take-fit end len file fits (holds_long ps end file h) ∙ h.front;
    size = h.size;
    small = h.small;
    closed = λ e. ⊎_elim (λ same. h.closed (sym same ∙ e)) (λ zero. absurd (cc (zero, e))) (fit_one end len file);
  }

  pub calm_resized : (c : Content) (len : ℕ) → end ≤ len → IsCalm slot ps end first c → IsCalm slot ps end first (resized slot len c)
  calm_resized c len fits b = record {
    spares = spares_resized slot first c len b.spares;
    holds = subst (λ (l : List ℕ). Holds ps end l) (sym (change-here slot (fit len) c.reading)) (fitted len (c.reading slot) fits b.holds);
    settled = λ k le h. b.settled k le (cut_pending slot len c.pending slot k h);
  }

  pub calm_synced : (c : Content) → IsCalm slot ps end first c → IsCalm slot ps end first (synced c)
  calm_synced c b = record { spares = spares_synced slot first c b.spares; holds = b.holds; settled = λ k le h. absurd h }

  module _ (p : List ℕ) where
    -- with the gate as it may be, the payload is there or it is not
    either : (file : List ℕ) → Staged ps p end file → Holds ps end file ⊎ Holds (ps ++ p ∷ []) (end + (9 + length p)) file
    either file s = ⊎_elim (λ is. inr (staged_open ps p end file s is)) (λ shut. inl (staged_shut ps p end file s shut)) (cases_eq (get_or file end 0) 1)

    pub poised_image : (c : Content) (files : Files) → IsPoised slot ps p end first c → IsImage c files → KeepsOrAdds slot ps p (IsImage first) files
    poised_image c files b image =
        let s = staged_image ps p end c.pending slot (c.reading slot) (files slot) b.staged (image slot) b.settled in
        record {
          from = spares_from slot first c files b.spares image;
          stands = ⊎_elim (λ h. inl (holds_regions ps end (files slot) h)) (λ h. inr (holds_regions (ps ++ p ∷ []) (end + (9 + length p)) (files slot) h)) (either (files slot) s);
        }

    pub poised_torn : (c : Content) → IsPoised slot ps p end first c → IsPoised slot ps p end first (torn slot end 1 c)
    poised_torn c b = record {
      spares = spares_torn slot first c end 1 b.spares;
      staged = b.staged;
      settled = λ k apart h. ⊎_elim (λ here. absurd (off k apart here.1 here.2)) (b.settled k apart) h;
    }
      where
        off : (k : ℕ) → (k < end) ⊎ (end + 1 ≤ k) → end ≤ k → k < end + 1 → ⊥
        off k (inl lt) from to = omega arith
        off k (inr gt) from to = omega arith

    pub poised_written : (c : Content) (bytes : List ℕ) → length bytes ≡ 1 → IsPoised slot ps p end first c → IsPoised slot ps p end first (written slot end bytes c)
    poised_written c bytes one b =
        let file = c.reading slot in
        let room : end + length bytes ≤ length file = omega (arith, staged_long ps p end file b.staged) in
        let put : Staged ps p end (put_at end bytes file) = staged_image ps p end (record { place = slot; from = end; to = end + length bytes } ∷ []) slot file (put_at end bytes file) b.staged
        (put_image end bytes file room slot []) (λ k apart h. ⊎_elim (λ here. absurd (off k apart here.1 here.2)) (λ none. absurd none) h) in
        record {
          spares = spares_written slot first c end bytes b.spares;
          staged = subst (λ (l : List ℕ). Staged ps p end l) (sym (change-here slot (put_at end bytes) c.reading)) put;
          settled = λ k apart h. ⊎_elim (λ here. absurd (off k apart here.1 here.2)) (b.settled k apart) h;
        }
      where
        off : (k : ℕ) → (k < end) ⊎ (end + 1 ≤ k) → end ≤ k → k < end + length bytes → ⊥
        off k (inl lt) from to = omega arith
        off k (inr gt) from to = omega arith

    pub poised_synced : (c : Content) → IsPoised slot ps p end first c → IsPoised slot ps p end first (synced c)
    poised_synced c b = record { spares = spares_synced slot first c b.spares; staged = b.staged; settled = λ k apart h. absurd h }

  -- a slot at rest
  pub calm_start : IsOpen slot ps end first → IsCalm slot ps end first first
  calm_start o = record { spares = spares_start slot first; holds = o.holds; settled = λ k le h. o.settled k h }

  pub poised_start : (p : List ℕ) → IsStaged slot ps p end first → IsPoised slot ps p end first first
  poised_start p o = record { spares = spares_start slot first; staged = o.staged; settled = λ k apart h. o.settled k h }

-- with the gate open and all of it on the disk
pub opened : (slot : Place) (ps : List (List ℕ)) (p : List ℕ) (end : ℕ) (c : Content) → IsStaged slot ps p end c → IsOpen slot (ps ++ p ∷ []) (end + (9 + length p)) (synced (written slot end (1 ∷ []) c))
opened slot ps p end c o =
    let file = c.reading slot in
    let poised = poised_written slot c ps end p c (1 ∷ []) refl (poised_start slot c ps end p o) in
    let long : length (take end file) ≡ end = omega (arith, length-take end file, staged_long ps p end file o.staged) in
    let first : get_or (put_at end (1 ∷ []) file) end 0 ≡ 1 =
    get_or_append_left (take end file ++ 1 ∷ []) (drop (end + 1) file) 0 end (omega (arith, long, length-append (take end file) (1 ∷ []))) ∙ get_or_at (take end file) 1 [] 0 end long in
    record {
      holds = staged_open ps p end ((written slot end (1 ∷ []) c).reading slot) poised.staged (ap (λ (l : List ℕ). get_or l end 0) (change-here slot (put_at end (1 ∷ [])) c.reading) ∙ first);
      settled = λ k h. absurd h;
    }

-- with a payload behind the closed gate and all of it on the disk
pub staged_after : (slot : Place) (ps : List (List ℕ)) (p : List ℕ) (end : ℕ) (c : Content) → IsOpen slot ps end c → end + 10 + length p ≤ length (c.reading slot) → end + 9 + length p < 2 ^ 64
    → IsStaged slot ps p end (synced (written slot (end + 9 + length p) (0 ∷ []) (written slot (end + 9) p (written slot (end + 1) (u64_word (length p)) c))))
staged_after slot ps p end c o room small =
    let n = length p in
    let one = written slot (end + 1) (u64_word n) c in
    let two = written slot (end + 9) p one in
    let three = written slot (end + 9 + n) (0 ∷ []) two in
    let reads : three.reading slot ≡ put_at (end + 9 + n) (0 ∷ []) (put_at (end + 9) p (put_at (end + 1) (u64_word n) (c.reading slot))) =
    change-here slot (put_at (end + 9 + n) (0 ∷ [])) two.reading
    ∙ ap (put_at (end + 9 + n) (0 ∷ [])) (change-here slot (put_at (end + 9) p) one.reading ∙ ap (put_at (end + 9) p) (change-here slot (put_at (end + 1) (u64_word n)) c.reading)) in
    record {
      staged = subst (λ (l : List ℕ). Staged ps p end l) (sym reads) (staged_written ps p end (c.reading slot) o.holds room small);
      settled = λ k h. absurd h;
    }

-- the same, by one write
pub staged_at_once : (slot : Place) (ps : List (List ℕ)) (p bytes : List ℕ) (end : ℕ) (c : Content) → IsOpen slot ps end c → end + 10 + length p ≤ length (c.reading slot) → end + 9 + length p < 2 ^ 64
    → bytes ≡ u64_word (length p) ++ p ++ 0 ∷ [] → length bytes ≡ 9 + length p → IsStaged slot ps p end (synced (written slot (end + 1) bytes c))
staged_at_once slot ps p bytes end c o room small is size = record {
  staged = subst (λ (l : List ℕ). Staged ps p end l) (sym (change-here slot (put_at (end + 1) bytes) c.reading)) (staged_once ps p bytes end (c.reading slot) o.holds room small is size);
  settled = λ k h. absurd h;
}

pub open_resized : (slot : Place) (ps : List (List ℕ)) (end : ℕ) (c : Content) (len : ℕ) → end ≤ len → IsOpen slot ps end c → IsOpen slot ps end (resized slot len c)
open_resized slot ps end c len fits o =
    let calm = calm_resized slot c ps end c len fits (calm_start slot c ps end o) in
    record { holds = calm.holds; settled = λ k h. o.settled k (cut_pending slot len c.pending slot k h) }
