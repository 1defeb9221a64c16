-- What a checkpoint gives, and what its commit leaves.
use Rattle.std.proofs.Common.{◌≡◌, ◌∙◌, ◌⊎◌, inl, inr, ℕ, ◌+◌, ◌≤◌, max, IsTrue, List, [], ◌∷◌, length, map, Result, Ok, Err, IfErr, OnOk, refl, sym, ap, subst, arith}
use Rattle.std.specs.List.{AllByRecursion, flat_map}
use Rattle.std.proofs.lemmas.List.{append-nil}
use Rattle.std.proofs.lemmas.Result.{IfErr-weaker, on_ok_weaker}
use Rattle.den_disk.specs.declared.disk.Disk.{Ghosts as DiskGhosts}
use Rattle.den_disk.specs.Files.{Kind}
use Rattle.den_model.specs.declared.region.StateRegion.TheVariants.{Begin, Pairs}
use Rattle.den_model.specs.declared.region.StoredPair.{StoredPair}
use Rattle.den_model.specs.MapState.{MapState, empty_map, with_pairs}
use Rattle.den_model.specs.Regions.{Region, placed}
use Rattle.den_model.specs.Spelling.{state_region_word}
use Rattle.den_model.specs.Words.{FitsStateRegion}
use Rattle.den_gate.specs.declared.gate.GateFile.{GateFile}
use Rattle.den_gate.specs.Draft.{other_slot}
use Rattle.den_codec.specs.declared.error.Error.{Error}
use Rattle.den_codec.specs.declared.error.Error.TheVariants.{StorageIoError}
use Rattle.den_map.specs.Held.{IsSound}
use Rattle.den_map.specs.Pages.{stored_pairs}
use Rattle.den_map.specs.Sizes.{pairs_size}
use Rattle.den_map.proofs.Checkpoints.{begin_map, page_map, word_tail}
use Rattle.den_map.proofs.Rebuilding.{rebuilt, with_both}
use Rattle.den_journal.specs.declared.journal.Journal.{Journal}
use Rattle.den_journal.specs.Drafts.{Commits, Drafts, IsCommitted}
use Rattle.den_journal.specs.Journals.{journal_shown}
use Rattle.den_journal.specs.Shown.{rewrite_size}
use Rattle.den_journal.specs.Writes.{DiskTells, GoesOn}
use Rattle.den_state.specs.contracts.stored_map.StoredMapFolded.TheImpl.{ghosts}
use Rattle.den_state.specs.declared.stored_map.StoredMap.{StoredMap}
use Rattle.den_state.specs.Checkpoint.{IsRenewed, IsDraftWhole, Renews, Replaces, Steps, words_of}
use Rattle.den_state.specs.Folds.{after_lawful, stored_fold}
use Rattle.den_state.specs.Stored.{Stored, nothing_stored, stored_from}
use Rattle.den_state.proofs.Checkpointing.{front_small, steps_by, steps_more, steps_then}

-- ---- what it gives

stored_pages : (s : Stored) (offset : ℕ) (pages : List (List StoredPair)) → AllByRecursion (λ page. FitsStateRegion (Pairs page)) pages
    → stored_from s (placed offset (map (λ page. state_region_word (Pairs page)) pages)) ≡ Ok (record { map = with_pairs s.map (flat_map (λ page. page) pages); tail = s.tail })
stored_pages s offset [] fits = stored_fold.stays s
stored_pages s offset (page ∷ pages) fits =
    let word = state_region_word (Pairs page) in
    let next : Stored = record { map = with_pairs s.map page; tail = s.tail } in
    let r : Region = record { offset = offset; payload = word } in
    stored_fold.goes_on s next r (placed (offset + (9 + length word)) (map (λ page. state_region_word (Pairs page)) pages))
    (after_lawful s word next.map s.tail (page_map s.map page fits.0) (sym (word_tail s.tail (Pairs page) fits.0)))
    ∙ stored_pages next (offset + (9 + length word)) pages fits.1
    ∙ ap (λ (n : MapState). Ok (record { map = n; tail = s.tail })) (with_both s.map page (flat_map (λ page. page) pages))

-- the map, and no record behind its beginning
pub stored_anew : (m : MapState) (pages : List (List StoredPair)) → IsSound m → flat_map (λ page. page) pages ≡ stored_pairs m → FitsStateRegion (Begin m.mark.index m.mark.term) → AllByRecursion (λ page. FitsStateRegion (Pairs page)) pages
    → stored_from nothing_stored (placed 0 (words_of m pages)) ≡ Ok (record { map = m; tail = 0 })
stored_anew m pages sound all begins fits =
    let word = state_region_word (Begin m.mark.index m.mark.term) in
    let start : Stored = record { map = record { pairs = []; expiries = []; mark = m.mark }; tail = 0 } in
    let r : Region = record { offset = 0; payload = word } in
    stored_fold.goes_on nothing_stored start r (placed (0 + (9 + length word)) (map (λ page. state_region_word (Pairs page)) pages))
    (after_lawful nothing_stored word start.map 0 (begin_map empty_map m.mark.index m.mark.term begins) (sym (word_tail 0 (Begin m.mark.index m.mark.term) begins)))
    ∙ stored_pages start (0 + (9 + length word)) pages fits
    ∙ ap (λ (ps : List StoredPair). Ok (record { map = with_pairs start.map ps; tail = 0 })) all
    ∙ ap (λ (n : MapState). Ok (record { map = n; tail = 0 })) (rebuilt m sound)

-- ---- what its commit leaves

module _ {D : Type 0} (disk : DiskGhosts D) (stands : Stored) (was mid now : Journal StoredMap) (old d new : D) (held : mid.held ≡ was.held) (slot : mid.gate.slot ≡ was.gate.slot) (most : ℕ) (light : (journal_shown ghosts was).weight ≤ most)
    (steps : Steps ghosts disk stands was.held.map was mid old d most [] (Ok (tt {0}))) (w : IsDraftWhole ghosts disk stands was.held.map mid d) where
  pub given : stored_from nothing_stored (placed 0 (words_of was.held.map w.pages)) ≡ Ok (record { map = mid.held.map; tail = 0 })
  given = stored_anew was.held.map w.pages w.sound w.all w.begins w.fits ∙ ap (λ (h : StoredMap). Ok (record { map = h.map; tail = 0 })) (sym held)

  pub anew_steps : {T : Type 0} (result : Result T Error) → Commits ghosts disk mid now d new stands (words_of was.held.map w.pages) result → IfErr result (λ e. e ≡ StorageIoError)
      → Steps ghosts disk stands was.held.map was now old new most (record { map = was.held.map; tail = 0 } ∷ []) result
  anew_steps result c is =
      subst (λ (h : StoredMap). Steps ghosts disk stands was.held.map was now old new most (record { map = h.map; tail = 0 } ∷ []) result) held
      (steps_then ghosts disk stands was.held.map was mid now old d new most (record { map = mid.held.map; tail = 0 } ∷ []) (tt {0}) result held steps
      (steps_by ghosts disk stands was.held.map mid now d new most (record { map = mid.held.map; tail = 0 } ∷ []) result c.drafts is))

  pub anew_done : IsCommitted ghosts disk mid now d new (words_of was.held.map w.pages) → IsRenewed ghosts disk was.held.map (record { map = was.held.map; tail = 0 }) most was now old new
  anew_done c =
      let on : DiskTells disk old → DiskTells disk d = λ tells. subst (λ (k : Kind). IsTrue k.tells) (sym steps.drafts.goes_on.same) tells in
      let size = front_small was.held.map w.pages [] (journal_shown ghosts was).weight w.short (append-nil (flat_map (λ page. page) w.pages) ∙ w.all) (omega arith) in
      let same = ap (λ (h : StoredMap). (journal_shown ghosts (record was { held = h })).weight) held in
      record {
        value = c.value ∙ ap (λ (h : StoredMap). record { map = h.map; tail = 0 }) held;
        weight = omega (arith, c.weight, size, light, same);
        ready = c.ready;
        rests = λ tells. c.rests (on tells);
        list = λ tells. record { pages = w.pages; words = c.list (on tells); all = w.all; short = w.short };
        slot = c.slot ∙ ap other_slot slot;
      }

  pub anew : {T : Type 0} (result : Result T Error) → Commits ghosts disk mid now d new stands (words_of was.held.map w.pages) result → IfErr result (λ e. e ≡ StorageIoError)
      → Renews ghosts disk stands was.held.map was now old new most result
  anew result c is = record { steps = anew_steps result c is; done = on_ok_weaker result (λ done. anew_done done) c.done }

  pub anew_map : {T : Type 0} (result : Result T Error) → Commits ghosts disk mid now d new stands (words_of was.held.map w.pages) result → now.held.map ≡ was.held.map
  anew_map (Ok x) c = ap (λ (v : Stored). v.map) c.done.value ∙ ap (λ (h : StoredMap). h.map) held
  anew_map (Err e) c = ap (λ (v : Stored). v.map) c.drafts.same_value ∙ ap (λ (h : StoredMap). h.map) held

-- ---- behind the beginning of its draft

module _ {D : Type 0} (disk : DiskGhosts D) (was begun now : Journal StoredMap) (old d new : D) where
  abbrev stands : Stored
  stands = ghosts.value was.held

  -- what is renewed behind a call that keeps the slot is renewed behind it and that call
  renewed_behind : (m : MapState) (v : Stored) (most : ℕ) → GoesOn disk old d → begun.gate.slot ≡ was.gate.slot → IsRenewed ghosts disk m v most begun now d new → IsRenewed ghosts disk m v most was now old new
  renewed_behind m v most goes slot r =
      let on : DiskTells disk old → DiskTells disk d = λ tells. subst (λ (k : Kind). IsTrue k.tells) (sym goes.same) tells in
      record {
        value = r.value;
        weight = r.weight;
        ready = r.ready;
        rests = λ tells. r.rests (on tells);
        list = λ tells. r.list (on tells);
        slot = r.slot ∙ ap other_slot slot;
      }

  module _ (drafts : Drafts ghosts disk was begun old d (ghosts.value was.held ∷ []) (Ok (tt {0}))) {T : Type 0} (r : Result T Error) where
    -- the map itself
    pub begun_anew : begun.held ≡ was.held → begun.gate.slot ≡ was.gate.slot → (journal_shown ghosts begun).weight ≡ (journal_shown ghosts was).weight
        → Renews ghosts disk stands begun.held.map begun now d new (journal_shown ghosts begun).weight r → Renews ghosts disk stands was.held.map was now old new (journal_shown ghosts was).weight r
    begun_anew held slot weight two =
        let most = (journal_shown ghosts was).weight in
        let anew_of : StoredMap → Stored = λ h. record { map = h.map; tail = 0 } in
        let steps : Steps ghosts disk stands was.held.map begun now d new most (anew_of was.held ∷ []) r =
        subst (λ (n : ℕ). Steps ghosts disk stands was.held.map begun now d new n (anew_of was.held ∷ []) r) weight
        (subst (λ (h : StoredMap). Steps ghosts disk stands h.map begun now d new (journal_shown ghosts begun).weight (anew_of h ∷ []) r) held two.steps) in
        let done : OnOk r (IsRenewed ghosts disk was.held.map (anew_of was.held) most begun now d new) =
        subst (λ (n : ℕ). OnOk r (IsRenewed ghosts disk was.held.map (anew_of was.held) n begun now d new)) weight
        (subst (λ (h : StoredMap). OnOk r (IsRenewed ghosts disk h.map (anew_of h) (journal_shown ghosts begun).weight begun now d new)) held two.done) in
        record {
          steps = steps_then ghosts disk stands was.held.map was begun now old d new most (anew_of was.held ∷ []) (tt {0}) r held
              (steps_by ghosts disk stands was.held.map was begun old d most [] (Ok (tt {0})) drafts tt) steps;
          done = on_ok_weaker r (λ s. renewed_behind was.held.map (anew_of was.held) most drafts.goes_on slot s) done;
        }

-- ---- another map in its place

module _ {D : Type 0} (disk : DiskGhosts D) (was begun : Journal StoredMap) (old d : D) where
  -- what the regions are to take at most
  abbrev most_of : StoredMap → ℕ
  most_of held = max was.gate.end (rewrite_size (pairs_size held.map.pairs))

  -- the journal took it on
  turned_replaces : (turned now : Journal StoredMap) (new : D) {T : Type 0} (r : Result T Error) → Drafts ghosts disk was begun old d (ghosts.value was.held ∷ []) (Ok (tt {0})) → turned.gate.slot ≡ was.gate.slot → turned.gate.end ≡ was.gate.end
      → Renews ghosts disk (ghosts.value was.held) turned.held.map turned now d new (journal_shown ghosts turned).weight r → IfErr r (λ e. now.held ≡ turned.held) → Replaces ghosts disk turned.held was now old new r
  turned_replaces turned now new r drafts slot end two kept =
      let v = ghosts.value was.held in
      let m = turned.held.map in
      let most = most_of turned.held in
      let w : Stored = record { map = m; tail = 0 } in
      let weight : (journal_shown ghosts turned).weight ≡ most = ap (λ (n : ℕ). max n (rewrite_size (pairs_size m.pairs))) end in
      let one = steps_by ghosts disk v m turned turned old d most [] (Ok (tt {0})) (record { goes_on = drafts.goes_on; moves = drafts.moves; cause = tt; failed = tt; same_value = tt }) tt in
      let both = steps_then ghosts disk v m turned turned now old d new most (w ∷ []) (tt {0}) r refl one (subst (λ (n : ℕ). Steps ghosts disk v m turned now d new n (w ∷ []) r) weight two.steps) in
      record {
        goes_on = both.drafts.goes_on;
        moves = both.drafts.moves;
        done = on_ok_weaker r (λ s. renewed_behind disk was turned now old d new m w most drafts.goes_on slot s)
            (subst (λ (n : ℕ). OnOk r (IsRenewed ghosts disk m w n turned now d new)) weight two.done);
        cause = both.drafts.cause;
        full = both.full;
        heavy = both.heavy;
        failed = both.drafts.failed;
        kept = IfErr-weaker r (λ e. now.held ≡ turned.held) (λ e. (now.held ≡ was.held) ⊎ (now.held ≡ turned.held)) (λ e h. inr h) kept;
      }

  pub begun_replaces : (turned now : Journal StoredMap) (new : D) (held : StoredMap) {T : Type 0} (r : Result T Error) → Drafts ghosts disk was begun old d (ghosts.value was.held ∷ []) (Ok (tt {0})) → begun.gate.slot ≡ was.gate.slot
      → begun.gate.end ≡ was.gate.end → turned.held ≡ held → turned.gate ≡ begun.gate → Renews ghosts disk (ghosts.value was.held) turned.held.map turned now d new (journal_shown ghosts turned).weight r
      → IfErr r (λ e. now.held ≡ turned.held) → Replaces ghosts disk held was now old new r
  begun_replaces turned now new held r drafts slot end took gate two kept =
      subst (λ (h : StoredMap). Replaces ghosts disk h was now old new r) took
      (turned_replaces turned now new r drafts (ap (λ (f : GateFile). f.slot) gate ∙ slot) (ap (λ (f : GateFile). f.end) gate ∙ end) two kept)

  -- a fault of the disk came before
  pub not_begun : {T : Type 0} (held : StoredMap) (e : Error) → Drafts ghosts disk was begun old d {T = T} (ghosts.value was.held ∷ []) (Err e) → e ≡ StorageIoError → begun.held ≡ was.held → Replaces ghosts disk held was begun old d {T = T} (Err e)
  not_begun held e drafts is same =
      let v = ghosts.value was.held in
      let w : Stored = record { map = held.map; tail = 0 } in
      let steps = steps_more ghosts disk v held.map was begun old d (most_of held) (w ∷ []) (Err e) (steps_by ghosts disk v held.map was begun old d (most_of held) [] (Err e) drafts is) in
      record {
        goes_on = steps.drafts.goes_on;
        moves = steps.drafts.moves;
        done = tt;
        cause = steps.drafts.cause;
        full = steps.full;
        heavy = steps.heavy;
        failed = steps.drafts.failed;
        kept = inl same;
      }
