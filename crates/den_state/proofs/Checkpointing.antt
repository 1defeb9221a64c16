-- The calls that write a checkpoint, one behind the other.
use Rattle.std.proofs.Common.{◌≡◌, ◌∙◌, inr, ℕ, ◌+◌, ◌≤◌, IsTrue, Bool, true, false, List, [], ◌∷◌, ◌++◌, length, map, drop, Option, Some, None, Result, Ok, Err, IfErr, OnOk, refl, sym, ap, subst, arith, length-append}
use Rattle.std.specs.List.{AllByRecursion, flat_map}
use Rattle.std.specs.Result.{IsErrAnd}
use Rattle.std.proofs.lemmas.List.{length-map, map-append}
use Rattle.std.proofs.lemmas.Result.{IfErr-weaker}
use Rattle.den_disk.specs.declared.disk.Disk.{Ghosts as DiskGhosts}
use Rattle.den_disk.specs.Files.{Kind}
use Rattle.den_model.specs.declared.log_id.LogId.{LogId}
use Rattle.den_model.specs.declared.region.StateRegion.{StateRegion}
use Rattle.den_model.specs.declared.region.StateRegion.TheVariants.{Begin, Pairs}
use Rattle.den_model.specs.declared.region.StoredPair.{StoredPair}
use Rattle.den_model.specs.MapState.{MapState}
use Rattle.den_model.specs.Regions.{open_region, open_regions}
use Rattle.den_model.specs.Spelling.{u64_word, state_region_word}
use Rattle.den_model.specs.Words.{FitsStateRegion}
use Rattle.den_model.proofs.Numbers.{length_u64_word}
use Rattle.den_codec.specs.declared.error.Error.{Error}
use Rattle.den_codec.specs.declared.error.Error.TheVariants as error
use Rattle.den_codec.specs.declared.error.Error.TheVariants.{OutOfMemory, StorageIoError}
use Rattle.den_table.specs.Keyed.{behind}
use Rattle.den_gate.proofs.Alone.{Law}
use Rattle.den_map.specs.Held.{IsSound}
use Rattle.den_codec.specs.Full.{IsHeavy}
use Rattle.den_map.specs.Pages.{IsPage, page_size, stored, stored_pairs, last_key}
use Rattle.den_map.specs.Sizes.{pages_size, pairs_size}
use Rattle.den_map.proofs.Checkpoints.{begin_long, checkpoint_long, pairs_push, size_push}
use Rattle.den_map.proofs.Paging.{behind_front, last_goes_on, walk_ends, walk_goes_on, walk_smaller}
use Rattle.den_journal.specs.declared.folded.Folded.{Ghosts}
use Rattle.den_journal.specs.declared.journal.Journal.{Journal}
use Rattle.den_journal.specs.Causes.{IsFullFor}
use Rattle.den_journal.specs.Drafts.{Drafts, IsDrafting, Pushes}
use Rattle.den_journal.specs.Journals.{journal_shown}
use Rattle.den_journal.specs.Shown.{rewrite_size}
use Rattle.den_journal.specs.Writes.{DiskTells}
use Rattle.den_journal.proofs.Drafting.{drafts_then, full_for, push_wanting}
use Rattle.den_journal.proofs.Moving.{first_of}
use Rattle.den_journal.proofs.Seen.{more_full, more_heavy}
use Rattle.den_state.specs.declared.stored_map.StoredMap.{StoredMap}
use Rattle.den_state.specs.Checkpoint.{IsCheckpointSize, IsShortPage, IsWriting, Next, Steps, words_of}

-- ---- what the payloads take

one_long : (p : List ℕ) → length (open_region p) ≡ 9 + length p
one_long p = omega (arith, length-append (u64_word (length p)) p, length_u64_word (length p))

pages_long : (pages : List (List StoredPair)) → length (open_regions (map (λ page. state_region_word (Pairs page)) pages)) ≡ pages_size pages
pages_long [] = refl
pages_long (page ∷ pages) =
    omega (arith, length-append (open_region (state_region_word (Pairs page))) (open_regions (map (λ page. state_region_word (Pairs page)) pages)), one_long (state_region_word (Pairs page)), pages_long pages)

pub words_long : (m : MapState) (pages : List (List StoredPair)) → length (open_regions (words_of m pages)) ≡ 26 + pages_size pages
words_long m pages =
    omega (arith, length-append (open_region (state_region_word (Begin m.mark.index m.mark.term))) (open_regions (map (λ page. state_region_word (Pairs page)) pages)), one_long (state_region_word (Begin m.mark.index m.mark.term)), begin_long m.mark.index m.mark.term, pages_long pages)

-- ---- one more

pub all_push : {X : Type 0} (P : X → Type 0) (xs : List X) (x : X) → AllByRecursion P xs → P x → AllByRecursion P (xs ++ x ∷ [])
all_push P [] x all p = (p, tt)
all_push P (y ∷ ys) x all p = (all.0, all_push P ys x all.1 p)

some_pages : (pages : List (List StoredPair)) → AllByRecursion IsShortPage pages → AllByRecursion (λ page. 1 ≤ length page) pages
some_pages [] short = tt
some_pages (page ∷ pages) short = (short.0.0, some_pages pages short.1)

-- what a front of the pages takes
pub front_small : (m : MapState) (pages : List (List StoredPair)) (left : List StoredPair) (most : ℕ) → AllByRecursion IsShortPage pages → flat_map (λ page. page) pages ++ left ≡ stored_pairs m → rewrite_size (pairs_size m.pairs) ≤ most
    → length (open_regions (words_of m pages)) ≤ most
front_small m pages left most short parts light =
    omega (arith, words_long m pages, checkpoint_long m pages left (some_pages pages short) parts, light)

words_push : (m : MapState) (pages : List (List StoredPair)) (page : List StoredPair) → words_of m (pages ++ page ∷ []) ≡ words_of m pages ++ state_region_word (Pairs page) ∷ []
words_push m pages page = ap (λ (ws : List (List ℕ)). state_region_word (Begin m.mark.index m.mark.term) ∷ ws) (map-append (λ page. state_region_word (Pairs page)) pages (page ∷ []))

some_key : (key : List ℕ) (page : List StoredPair) → Some key ≡ last_key page → 1 ≤ length page
some_key key [] is = absurd (cc is)
some_key key (p ∷ ps) is = omega arith

none_key : (page : List StoredPair) → None ≡ last_key page → length page ≡ 0
none_key [] is = refl
none_key (p ∷ ps) is = absurd (cc is)

-- ---- the calls

module _ (fold : Ghosts StoredMap StateRegion) {D : Type 0} (disk : DiskGhosts D) (stands : fold.Value) (m : MapState) where
  -- a payload that is pushed
  pub pushed_steps : (was now : Journal StoredMap) (old new : D) (words : List (List ℕ)) (word : List ℕ) {T : Type 0} (r : Result T Error) (most : ℕ) → Pushes fold disk was now old new stands words word r
      → length (open_regions words) + length word ≤ most → IsCheckpointSize m (length word) → Steps fold disk stands m was now old new most [] r
  pushed_steps was now old new words word r most p small meant = record {
    drafts = p.drafts;
    full = IfErr-weaker r _ _ (λ e h. full_for (DiskTells disk old) (DiskTells disk old) fold.FAMILY (disk.content new).reading (length (open_regions words)) (length word) most (λ n. ⊥) (IsCheckpointSize m) e (λ t. t) small meant h) p.full;
    heavy = IfErr-weaker r _ _ (λ e h. more_heavy (disk.kind old).limit (length (open_regions words) + length word) most e small h) p.heavy;
  }

  -- what was left is what it is, whatever is answered
  pub steps_ok : (was now : Journal StoredMap) (old new : D) (most : ℕ) (vs : List fold.Value) {S T : Type 0} (r : Result S Error) (x : T) → Steps fold disk stands m was now old new most vs r → Steps fold disk stands m was now old new most vs (Ok x)
  steps_ok was now old new most vs r x s = record { drafts = record { goes_on = s.drafts.goes_on; moves = s.drafts.moves; cause = tt; failed = tt; same_value = tt }; full = tt; heavy = tt }

  pub steps_err : (was now : Journal StoredMap) (old new : D) (most : ℕ) (vs : List fold.Value) {S T : Type 0} (e : Error) → Steps fold disk stands m was now old new {T = S} most vs (Err e) → Steps fold disk stands m was now old new {T = T} most vs (Err e)
  steps_err was now old new most vs e s = record {
    drafts = record { goes_on = s.drafts.goes_on; moves = s.drafts.moves; cause = s.drafts.cause; failed = s.drafts.failed; same_value = s.drafts.same_value };
    full = s.full;
    heavy = s.heavy;
  }

  -- one stretch behind another
  pub steps_then : (was mid now : Journal StoredMap) (old d new : D) (most : ℕ) (vs : List fold.Value) {S T : Type 0} (x : S) (r : Result T Error) → mid.held ≡ was.held
      → Steps fold disk stands m was mid old d most [] (Ok x) → Steps fold disk stands m mid now d new most vs r → Steps fold disk stands m was now old new most vs r
  steps_then was mid now old d new most vs x r held one two = record {
    drafts = drafts_then fold disk stands was mid now old d new vs x r (ap fold.value held) one.drafts two.drafts;
    full = IfErr-weaker r _ _ (λ e h. more_full (DiskTells disk d) (DiskTells disk old) fold.FAMILY (disk.content new).reading most most (λ n. ⊥) (IsCheckpointSize m) (λ n. ⊥) (IsCheckpointSize m) e
        (λ tells. subst (λ (k : Kind). IsTrue k.tells) (sym one.drafts.goes_on.same) tells) (omega arith) (λ n h. h) (λ n h. h) h) two.full;
    heavy = subst (λ (n : ℕ). IfErr r (IsHeavy n most)) (ap (λ (k : Kind). k.limit) one.drafts.goes_on.same) two.heavy;
  }

  -- a call that a fault alone refuses
  pub steps_by : (was now : Journal StoredMap) (old new : D) (most : ℕ) (vs : List fold.Value) {T : Type 0} (r : Result T Error) → Drafts fold disk was now old new (stands ∷ vs) r → IfErr r (λ e. e ≡ StorageIoError)
      → Steps fold disk stands m was now old new most vs r
  steps_by was now old new most vs (Ok x) drafts is = record { drafts = drafts; full = tt; heavy = tt }
  steps_by was now old new most vs (Err e) drafts is = record {
    drafts = drafts;
    full = subst (IsFullFor (DiskTells disk old) fold.FAMILY (disk.content new).reading most (λ n. ⊥) (IsCheckpointSize m)) (sym is) tt;
    heavy = subst (IsHeavy (disk.kind old).limit most) (sym is) tt;
  }

  -- what leaves the value that stands leaves one of more
  pub steps_more : (was now : Journal StoredMap) (old new : D) (most : ℕ) (vs : List fold.Value) {T : Type 0} (r : Result T Error) → Steps fold disk stands m was now old new most [] r → Steps fold disk stands m was now old new most vs r
  steps_more was now old new most vs r s = record {
    drafts = record {
      goes_on = s.drafts.goes_on;
      moves = λ tells. let moves = s.drafts.moves tells in
          record { own = λ told t files low high i. first_of stands vs _ (moves.own told t files low high i); others = moves.others; spares = moves.spares };
      cause = s.drafts.cause;
      failed = s.drafts.failed;
      same_value = s.drafts.same_value;
    };
    full = s.full;
    heavy = s.heavy;
  }

  -- the mark is
  pub mark_writing : (now : Journal StoredMap) (new : D) (mark : LogId) {T : Type 0} (r : Result T Error) (most : ℕ) → mark ≡ m.mark → now.held.map ≡ m → rewrite_size (pairs_size m.pairs) ≤ most
      → OnOk r (IsDrafting fold disk stands now (state_region_word (Begin mark.index mark.term) ∷ []) new) → OnOk r (FitsStateRegion (Begin mark.index mark.term)) → OnOk r (IsWriting fold disk stands m most None now new)
  mark_writing now new mark (Ok x) most same is_map light drafting fits = record {
    pages = [];
    left = stored_pairs m;
    drafting = subst (λ (p : LogId). IsDrafting fold disk stands now (state_region_word (Begin p.index p.term) ∷ []) new) same drafting;
    parts = refl;
    last_is = refl;
    short = tt;
    begins = subst (λ (p : LogId). FitsStateRegion (Begin p.index p.term)) same fits;
    fits = tt;
    is_map = is_map;
    light = light;
  }
  mark_writing now new mark (Err e) most same is_map light drafting fits = tt

  -- the same where the journal has the map still
  pub writing_held : (was now : Journal StoredMap) (new : D) → now.held ≡ was.held → (journal_shown fold now).weight ≡ (journal_shown fold was).weight → was.held.map ≡ m
      → IsWriting fold disk stands m (journal_shown fold was).weight None now new → IsWriting fold disk stands now.held.map (journal_shown fold now).weight None now new
  writing_held was now new held weight is_map w =
      subst (λ (n : ℕ). IsWriting fold disk stands now.held.map n None now new) (sym weight)
      (subst (λ (o : MapState). IsWriting fold disk stands o (journal_shown fold was).weight None now new) (sym (ap (λ (h : StoredMap). h.map) held ∙ is_map)) w)

  -- ---- a page

  module _ (most : ℕ) (last : Option (List ℕ)) (was : Journal StoredMap) (old : D) (w : IsWriting fold disk stands m most last was old) where
    -- behind the last key are the pairs that are left
    left_long : IsSound m → length (behind last m.pairs) ≡ length w.left
    left_long sound =
        sym (length-map (behind last m.pairs) (stored m.expiries))
        ∙ ap length (ap (λ k. map (stored m.expiries) (behind k m.pairs)) w.last_is ∙ behind_front m.expiries w.left (flat_map (λ page. page) w.pages) m.pairs sound.sorted w.parts)

    -- what a map's page is of the pairs that are left
    pub page_is : (over : MapState) (key : Option (List ℕ)) (page : List StoredPair) → over ≡ m → key ≡ last
        → ((front left : List StoredPair) → front ++ left ≡ stored_pairs over → key ≡ last_key front → IsPage left page) → IsPage w.left page
    page_is over key page same is gives = gives (flat_map (λ page. page) w.pages) w.left (w.parts ∙ sym (ap stored_pairs same)) (is ∙ w.last_is)

    -- memory was wanting
    pub wanting : Law disk → {T : Type 0} (r : Result T Error) → IsErrAnd r (λ e. e ≡ OutOfMemory) → Steps fold disk stands m was was old old most [] r
    wanting law (Ok x) is = absurd is
    wanting law (Err e) is = record {
      drafts = (push_wanting fold disk law stands was was old (words_of m w.pages) [] w.drafting refl refl (Err e) is).drafts;
      full = subst (IsFullFor (DiskTells disk old) fold.FAMILY (disk.content old).reading most (λ n. ⊥) (IsCheckpointSize m)) (sym is) tt;
      heavy = subst (IsHeavy (disk.kind old).limit most) (sym is) tt;
    }

    -- nothing was done
    pub no_steps : Law disk → Steps fold disk stands m was was old old most [] (Ok (tt {0}))
    no_steps law = steps_ok was was old old most [] {S = Unit {0}} (Err error.OutOfMemory) (tt {0}) (wanting law (Err error.OutOfMemory) refl)

    pub wanting_next : Law disk → (r : Result Bool Error) → IsErrAnd r (λ e. e ≡ OutOfMemory) → Next fold disk stands m was was old old most last last r
    wanting_next law (Ok x) is = absurd is
    wanting_next law (Err e) is = record { steps = wanting law (Err e) is; writing = tt; written = tt; fewer = tt }

    -- no pair is left
    pub none_next : Law disk → (page : List StoredPair) → IsPage w.left page → None ≡ last_key page → IsSound m → Next fold disk stands m was was old old most last last (Ok false)
    none_next law page one none sound = record {
      steps = steps_ok was was old old most [] {S = Unit {0}} (Err error.OutOfMemory) false (wanting law (Err error.OutOfMemory) refl);
      writing = w;
      written = λ _. record {
        pages = w.pages;
        drafting = w.drafting;
        all = walk_ends (flat_map (λ page. page) w.pages) w.left page (stored_pairs m) w.parts one (none_key page none);
        short = w.short;
        begins = w.begins;
        fits = w.fits;
        sound = sound;
      };
      fewer = λ more. absurd (cc more);
    }

    module _ (now : Journal StoredMap) (new : D) (page : List StoredPair) (key : List ℕ) (one : IsPage w.left page) (is : Some key ≡ last_key page) where
      some : 1 ≤ length page
      some = some_key key page is

      parts : flat_map (λ page. page) (w.pages ++ page ∷ []) ++ drop (length page) w.left ≡ stored_pairs m
      parts = ap (λ (ps : List StoredPair). ps ++ drop (length page) w.left) (pairs_push w.pages page) ∙ walk_goes_on (flat_map (λ page. page) w.pages) w.left page (stored_pairs m) w.parts one

      short : AllByRecursion IsShortPage (w.pages ++ page ∷ [])
      short = all_push IsShortPage w.pages page w.short (some, one.small)

      small : length (open_regions (words_of m w.pages)) + page_size page ≤ most
      small = omega (arith, front_small m (w.pages ++ page ∷ []) (drop (length page) w.left) most short parts w.light, words_long m w.pages, words_long m (w.pages ++ page ∷ []), size_push w.pages page)

      meant : IsCheckpointSize m (page_size page)
      meant = inr (record {
        before = flat_map (λ page. page) w.pages;
        page = page;
        behind = drop (length page) w.left;
        parts = ap (λ (ps : List StoredPair). flat_map (λ page. page) w.pages ++ ps) one.first ∙ w.parts;
        is = refl;
      })

      pub page_steps : {T : Type 0} (r : Result T Error) → Pushes fold disk was now old new stands (words_of m w.pages) (state_region_word (Pairs page)) r → Steps fold disk stands m was now old new most [] r
      page_steps r p = pushed_steps was now old new (words_of m w.pages) (state_region_word (Pairs page)) r most p small meant

      pub page_next : {T : Type 0} (x : T) → Pushes fold disk was now old new stands (words_of m w.pages) (state_region_word (Pairs page)) (Ok x) → FitsStateRegion (Pairs page) → now.held.map ≡ m → IsSound m
          → Next fold disk stands m was now old new most last (Some key) (Ok true)
      page_next x p fits is_map sound =
          let after : IsWriting fold disk stands m most (Some key) now new = record {
            pages = w.pages ++ page ∷ [];
            left = drop (length page) w.left;
            drafting = subst (λ (ws : List (List ℕ)). IsDrafting fold disk stands now ws new) (sym (words_push m w.pages page)) p.pushed;
            parts = parts;
            last_is = is ∙ sym (ap last_key (pairs_push w.pages page) ∙ last_goes_on (flat_map (λ page. page) w.pages) page some);
            short = short;
            begins = w.begins;
            fits = all_push (λ page. FitsStateRegion (Pairs page)) w.pages page w.fits fits;
            is_map = is_map;
            light = w.light;
          } in
          record {
            steps = steps_ok was now old new most [] (Ok x) true (page_steps (Ok x) p);
            writing = after;
            written = λ none. absurd (cc none);
            fewer = λ _. omega (arith, left_long sound, length_behind now new after sound, walk_smaller w.left page one some);
          }
        where
          length_behind : (now : Journal StoredMap) (new : D) (after : IsWriting fold disk stands m most (Some key) now new) → IsSound m → length (behind (Some key) m.pairs) ≡ length after.left
          length_behind now new after sound =
              sym (length-map (behind (Some key) m.pairs) (stored m.expiries))
              ∙ ap length (ap (λ k. map (stored m.expiries) (behind k m.pairs)) after.last_is ∙ behind_front m.expiries after.left (flat_map (λ page. page) after.pages) m.pairs sound.sorted after.parts)

      pub page_refused : {T : Type 0} (e : Error) → Pushes fold disk was now old new {T = T} stands (words_of m w.pages) (state_region_word (Pairs page)) (Err e) → Next fold disk stands m was now old new most last (Some key) (Err e)
      page_refused e p = record { steps = steps_err was now old new most [] e (page_steps (Err e) p); writing = tt; written = tt; fewer = tt }
