-- What reading the files' snapshot leaves of a state machine, and what putting it in the map's place does.
use Rattle.std.proofs.Common.{◌≡◌, ◌⊎◌, ◌≤◌, ◌<◌, ◌+◌, ◌∙◌, inl, inr, ⊎_elim, ℕ, Bool, true, false, IsTrue, List, [], ◌∷◌, length, Option, Some, None, Result, Ok, Err, IfErr, refl, sym, ap, subst, arith}
use Rattle.std.specs.Prelude.{max, unwrap_or}
use Rattle.std.specs.Result.{IsErrAnd}
use Rattle.den_disk.specs.declared.disk.Disk.{Ghosts}
use Rattle.den_disk.specs.declared.place.Family.TheVariants.{State, Snapshot}
use Rattle.den_disk.specs.Place.{place_number}
use Rattle.den_disk.specs.Files.{Files, IsImage, Kind}
use Rattle.den_disk.specs.Families.{NoNewImages, SparesAll}
use Rattle.den_model.specs.declared.log_id.LogId.{LogId}
use Rattle.den_model.specs.declared.region.StoredPair.{StoredPair}
use Rattle.den_model.specs.Image.{slot_of}
use Rattle.den_model.specs.MapState.{MapState, with_stored, with_pairs}
use Rattle.den_gate.proofs.Families.{all_own}
use Rattle.den_codec.specs.declared.error.Error.{Error}
use Rattle.den_codec.specs.declared.error.Error.TheVariants as error
use Rattle.den_map.specs.Cleanup.{cleaned_map}
use Rattle.den_snapshot.specs.Snapshots.{Taken, map_of}
use Rattle.den_map.specs.Sizes.{pairs_size}
use Rattle.den_snapshot.specs.Words.{snapshot_word}
use Rattle.den_snapshot.proofs.Giving.{map_light, map_marked, snapshot_long}
use Rattle.den_codec.specs.Full.{IsHeavy}
use Rattle.den_model.specs.Sizes.{store_rise}
use Rattle.den_disk.specs.Goes.{Rose}
use Rattle.den_journal.specs.Folding.{IsUnread}
use Rattle.den_journal.specs.Causes.{IsFullFor, IsRefusal}
use Rattle.den_journal.specs.Journals.{journal_held}
use Rattle.den_journal.specs.Shown.{IsOneOf, Shown, rewrite_size}
use Rattle.den_journal.specs.Writes.{DiskTells, Faulted, GoesOn, Moves, StoreStands}
use Rattle.den_journal.proofs.Moving.{first_of, moves_joined, moves_not}
use Rattle.den_journal.proofs.Seen.{more_full, more_heavy}
use Rattle.den_state.specs.contracts.stored_map.StoredMapFolded.TheImpl.{ghosts}
use Rattle.den_state.specs.declared.file_machine.FileStateMachine.{FileStateMachine}
use Rattle.den_state.specs.declared.stored_map.StoredMap.{StoredMap}
use Rattle.den_gate.specs.Gate.{payloads}
use Rattle.den_state.specs.Checkpoint.{IsCheckpoint, IsCheckpointSize, Replaces}
use Rattle.den_state.specs.Cleanup.{cleaned_where}
use Rattle.den_state.specs.FileState.{map_held, state_lies, state_map, state_shown, stored_of}
use Rattle.den_state.specs.Folds.{held_map}
use Rattle.den_state.specs.Light.{cleaned_pairs}
use Rattle.den_state.specs.Stored.{Stored}
use Rattle.den_state.specs.Snapshots.{Installs, IsFound, IsFullOfMap, IsInstalled, IsLeft, IsPut, IsUninstalled, installed, installed_value, installed_values, is_fault, snapshot_of}

-- ---- the map under another mark

remarked : (m : MapState) (mark : LogId) (ps : List StoredPair) → with_pairs (record m { mark = mark }) ps ≡ record (with_pairs m ps) { mark = mark }
remarked m mark [] = refl
remarked m mark (p ∷ ps) = remarked (with_stored m p.key p.value p.term p.expiry) mark ps

-- a snapshot's map, once its expired keys are gone, is the same under each mark
pub installed_at : (leased : Bool) (moment : ℕ) (one other : LogId) (t : Taken) → record (installed leased moment one t) { mark = other } ≡ installed leased moment other t
installed_at false moment one other t = sym (remarked (record { pairs = []; expiries = []; mark = one }) other t.pairs)
installed_at true moment one other t = ap (cleaned_map moment) (sym (remarked (record { pairs = []; expiries = []; mark = one }) other t.pairs))

installed_mark : (leased : Bool) (moment : ℕ) (mark : LogId) (t : Taken) → (installed leased moment mark t).mark ≡ mark
installed_mark false moment mark t = map_marked mark t
installed_mark true moment mark t = map_marked mark t

later_of : (last : Option LogId) (one other : LogId) → one.index ≤ other.index → (unwrap_or last one).index ≤ (unwrap_or last other).index
later_of None one other le = le
later_of (Some mark) one other le = omega arith

-- its mark is not above the applied one
pub installed_below : (leased : Bool) (moment : ℕ) (last : Option LogId) (one other : LogId) (t : Taken) (m : MapState) → m ≡ installed leased moment (unwrap_or last one) t → one.index ≤ other.index → m.mark.index ≤ (unwrap_or last other).index
installed_below leased moment last one other t m is le =
    let mark : m.mark.index ≡ (unwrap_or last one).index = ap (λ (x : MapState). x.mark.index) is ∙ ap (λ (p : LogId). p.index) (installed_mark leased moment (unwrap_or last one) t) in
    omega (arith, mark, later_of last one other le)

-- few records follow the beginning of a map that was not put in the place, or was
pub short_kept : (was now held : StoredMap) → (now ≡ was) ⊎ (now ≡ held) → held.tail ≡ 0 → was.tail < 1000 → now.tail < 1000
short_kept was now held (inl same) none short = omega (arith, ap (λ (h : StoredMap). h.tail) same, short)
short_kept was now held (inr same) none short = omega (arith, ap (λ (h : StoredMap). h.tail) same, none)

-- ---- after a sync

module _ {D : Type 0} (disk : Ghosts D) (s : FileStateMachine) (old new : D) (stands : StoreStands disk (state_shown s) old) (spares : DiskTells disk old → SparesAll (disk.content old) (disk.content new)) where
  pub rests_on : DiskTells disk old → (state_shown s).rests (disk.content new)
  rests_on tells = state_lies.rests_own s (disk.content old) (disk.content new) (all_own State (disk.content old) (disk.content new) (spares tells)) (stands.rests tells)

  -- a crash leaves the map
  pub left_moves : ((files : Files) → DiskTells disk old → disk.images old (disk.moment old) files → IsImage (disk.content old) files)
      → (DiskTells disk old → NoNewImages (disk.images old) (disk.images new) (disk.moment old) (disk.moment new)) → DiskTells disk old → Moves disk State map_held (s.journal.held.map ∷ []) old new
  left_moves image none tells = moves_not disk State map_held s.journal.held.map [] old new (λ told files i. state_lies.rests_hold told s (disk.content old) files stands.ready (stands.rests tells) (image files tells i)) (none tells) (spares tells)

  pub left : (DiskTells disk old → NoNewImages (disk.images old) (disk.images new) (disk.moment old) (disk.moment new)) → IsLeft disk (state_shown s) (state_shown s) (state_map s) (state_map s) old new
  left none = record { same_value = refl; same_map = refl; same_weight = refl; ready = stands.ready; rests = rests_on; spares = spares; images = none }

-- ---- a snapshot that cannot be read

module _ {D : Type 0} (disk : Ghosts D) (leased : Bool) (moment : ℕ) (last : Option LogId) (s now : FileStateMachine) (old new : D) where
  abbrev pub Corrupt : ℕ → ℕ → Type 0
  Corrupt place offset = DiskTells disk old → (place ≡ place_number (slot_of Snapshot (disk.content old).reading)) × (offset ≡ 0) × (snapshot_of (disk.content old).reading ≡ None)

  -- there is none, or memory was wanting
  pub unread : (e : Error) → is_fault e ≡ false → IsUnread (Faulted disk old new) Corrupt e → IsLeft disk (state_shown s) (state_shown now) (state_map s) (state_map now) old new
      → IsUninstalled disk leased moment last (state_shown s) (state_shown now) (state_map s) (state_map now) old new (Unit {0}) e
  unread error.StorageIoError is h same = absurd (cc is)
  unread error.OutOfMemory is h same = inl same
  unread (error.DiskFull needed limit) is h same = absurd h
  unread error.LinkFault is h same = absurd h
  unread (error.DataCorruption place offset) is h same = (same, λ tells. let p = h tells in (p.2, p.0, p.1))
  unread error.FeatureNotEnabled is h same = absurd h
  unread error.ProposeFailed is h same = absurd h
  unread (error.UnorderedChunk index) is h same = absurd h
  unread (error.Config place) is h same = absurd h
  unread error.ConfigFault is h same = absurd h
  unread error.StateMachineError is h same = absurd h

-- ---- what a crash may find

-- the old map alone
pub moves_first : {D : Type 0} (disk : Ghosts D) (v : MapState) (vs : List MapState) (old new : D) → Moves disk State map_held (v ∷ []) old new → Moves disk State map_held (v ∷ vs) old new
moves_first disk v vs old new moves = record { own = λ told t files low high i. first_of v vs (map_held.of files) (moves.own told t files low high i); others = moves.others; spares = moves.spares }

-- ---- the snapshot's map in the old one's place

at_most : (first second third : ℕ) → first ≤ second → second ≤ third → first ≤ third
at_most first second third one two = omega arith

more_rose : (first second third : ℕ) → first ≤ second → Rose second third → Rose first third
more_rose first second third le rose = omega arith

goes_then : {D : Type 0} (disk : Ghosts D) (old d new : D) → GoesOn disk old d → GoesOn disk d new → GoesOn disk old new
goes_then disk old d new one two = record {
  same = two.same ∙ one.same;
  counts = omega (arith, one.counts, two.counts);
  told = λ tells.
      let first = one.told tells in
      let then = two.told (subst (λ (k : Kind). IsTrue k.tells) (sym one.same) tells) in
      record {
        later = omega (arith, first.later, then.later);
        past = λ t files le i. first.past t files le (then.past t files (omega (arith, le, first.later)) i);
        keeps = λ t files le i. then.keeps t files (omega (arith, le, first.later)) (first.keeps t files le i);
      };
}

-- what a snapshot's map takes when it is written anew
within : (leased : Bool) (moment : ℕ) (mark : LogId) (t : Taken) (m : MapState) (end size : ℕ) → m ≡ installed leased moment mark t
    → max end (rewrite_size (pairs_size m.pairs)) ≤ max end (rewrite_size size) + store_rise (length (snapshot_word t))
within leased moment mark t m end size is =
    let same : pairs_size m.pairs ≡ pairs_size (installed leased moment mark t).pairs = ap (λ (n : MapState). pairs_size n.pairs) is in
    omega (arith, same, cleaned_pairs leased moment (map_of mark t), map_light mark t, snapshot_long t)

module _ {D : Type 0} (disk : Ghosts D) (s now : FileStateMachine) (old d new : D) (leased : Bool) (moment : ℕ) (last : Option LogId) (t : Taken) (found : IsFound disk leased old t false)
    (goes : GoesOn disk old d) (first : DiskTells disk old → Moves disk State map_held (s.journal.held.map ∷ []) old d)
    (held : StoredMap) (is : held.map ≡ installed leased moment (unwrap_or last s.journal.held.map.mark) t) where
  on : DiskTells disk old → DiskTells disk d
  on tells = subst (λ (k : Kind). IsTrue k.tells) (sym goes.same) tells

  abbrev pub new_map : MapState
  new_map = installed leased moment (unwrap_or last s.journal.held.map.mark) t

  one_of_two : (o : Option Taken) → o ≡ Some t → (x : Option MapState) → IsOneOf (s.journal.held.map ∷ new_map ∷ []) x
      → IsOneOf (s.journal.held.map ∷ installed_values leased moment (unwrap_or last s.journal.held.map.mark) o) x
  one_of_two o there x h =
      subst (λ (p : Option Taken). IsOneOf (s.journal.held.map ∷ installed_values leased moment (unwrap_or last s.journal.held.map.mark) p) x) (sym there) (⊎_elim (λ a. inl a) (λ b. inr (inr b)) h)

  one_of_one : (o : Option Taken) → o ≡ Some t → (x : Option MapState) → IsOneOf (s.journal.held.map ∷ new_map ∷ []) x
      → IsOneOf (s.journal.held.map ∷ installed_value leased moment (unwrap_or last s.journal.held.map.mark) o) x
  one_of_one o there x h = subst (λ (p : Option Taken). IsOneOf (s.journal.held.map ∷ installed_value leased moment (unwrap_or last s.journal.held.map.mark) p) x) (sym there) h

  moves_both : (vs : List MapState) → ((x : Option MapState) → IsOneOf (s.journal.held.map ∷ new_map ∷ []) x → IsOneOf (s.journal.held.map ∷ vs) x) → GoesOn disk d new
      → (DiskTells disk d → Moves disk State (journal_held ghosts) (stored_of s ∷ ghosts.renewed (ghosts.value held) ∷ []) d new) → DiskTells disk old → Moves disk State map_held (s.journal.held.map ∷ vs) old new
  moves_both vs widen then second tells =
      let moves = second (on tells) in
      moves_joined goes then tells (s.journal.held.map ∷ []) (s.journal.held.map ∷ new_map ∷ []) (s.journal.held.map ∷ vs) (λ x h. first_of s.journal.held.map vs x h) widen (first tells)
      (record {
        own = λ told u files low high i. ⊎_elim (λ h. inl (held_map files (stored_of s) h)) (λ h. inr (held_map files (record { map = held.map; tail = 0 }) h ∙ ap (λ (m : MapState). Some m) is)) (moves.own tt u files low high i);
        others = moves.others;
        spares = moves.spares;
      })

  moves_all : GoesOn disk d new → (DiskTells disk d → Moves disk State (journal_held ghosts) (stored_of s ∷ ghosts.renewed (ghosts.value held) ∷ []) d new) → DiskTells disk old
      → Moves disk State map_held (s.journal.held.map ∷ installed_values leased moment (unwrap_or last s.journal.held.map.mark) (snapshot_of (disk.content old).reading)) old new
  moves_all then second tells =
      let o = snapshot_of (disk.content old).reading in
      moves_both (installed_values leased moment (unwrap_or last s.journal.held.map.mark) o) (λ x h. one_of_two o (found.there tells) x h) then second tells

  -- a crash finds the old map or the new one
  pub moves_put : {T : Type 0} (r : Result T Error) → Replaces ghosts disk held s.journal now.journal d new r → DiskTells disk old
      → Moves disk State map_held (s.journal.held.map ∷ installed_value leased moment (unwrap_or last s.journal.held.map.mark) (snapshot_of (disk.content old).reading)) old new
  moves_put r replaced tells =
      let o = snapshot_of (disk.content old).reading in
      moves_both (installed_value leased moment (unwrap_or last s.journal.held.map.mark) o) (λ x h. one_of_one o (found.there tells) x h) replaced.goes_on replaced.moves tells

  put : now.journal.held.map ≡ held.map → now.applied ≡ unwrap_or last s.applied → IsPut disk leased moment last (state_shown s) (state_shown now) (state_map s) (state_map now) old new
  put same applied = record {
    taken = t;
    found = found;
    value = same ∙ is;
    map =
        (λ i. record ((same ∙ is) i) { mark = applied i }) ∙ installed_at leased moment (unwrap_or last s.journal.held.map.mark) (unwrap_or last s.applied) t;
  }

  -- ---- how it ends

  failing : {T : Type 0} (e : Error) → Replaces ghosts disk held s.journal now.journal d new {T = T} (Err e) → IsUninstalled disk leased moment last (state_shown s) (state_shown now) (state_map s) (state_map now) old new (Unit {0}) e
  failing error.OutOfMemory r = inr r.failed
  failing error.StorageIoError r = (more_rose (disk.faults old) (disk.faults d) (disk.faults new) goes.counts r.cause, r.failed)
  failing (error.DiskFull needed limit) r =
      let most = max s.journal.gate.end (rewrite_size (pairs_size held.map.pairs)) in
      let more = (state_shown s).weight + store_rise (length (snapshot_word t)) in
      let light : most ≤ more = within leased moment (unwrap_or last s.journal.held.map.mark) t held.map s.journal.gate.end (pairs_size s.journal.held.map.pairs) is in
      let same : (disk.kind d).limit ≡ (disk.kind old).limit = ap (λ (k : Kind). k.limit) goes.same in (
        record {
          taken = t;
          found = found;
          passes = r.cause.0;
          limit_is = r.cause.1 ∙ same;
          full = more_full (DiskTells disk d) (DiskTells disk old × Unit {0}) State (disk.content new).reading most more (λ n. ⊥) (IsCheckpointSize held.map) (λ n. ⊥) (IsCheckpointSize new_map) (error.DiskFull needed limit)
              (λ tells. on tells.0) light (λ n h. h) (λ n h. subst (λ (m : MapState). IsCheckpointSize m n) is h) r.full;
          heavy = subst (λ (n : ℕ). IsHeavy n more (error.DiskFull needed limit)) same (more_heavy (disk.kind d).limit most more (error.DiskFull needed limit) light r.heavy);
        },
        r.failed,
      )
  failing error.LinkFault r = absurd r.cause
  failing (error.DataCorruption place offset) r = absurd r.cause
  failing error.FeatureNotEnabled r = absurd r.cause
  failing error.ProposeFailed r = absurd r.cause
  failing (error.UnorderedChunk index) r = absurd r.cause
  failing (error.Config place) r = absurd r.cause
  failing error.ConfigFault r = absurd r.cause
  failing error.StateMachineError r = absurd r.cause

  pub installs : {S T : Type 0} (x : S) (y : T) → now.applied ≡ unwrap_or last s.applied → Replaces ghosts disk held s.journal now.journal d new (Ok x)
      → Installs disk leased moment last (state_shown s) (state_shown now) (state_map s) (state_map now) old new map_held (Ok y)
  unfolding put
  installs x y applied r = record {
    goes_on = goes_then disk old d new goes r.goes_on;
    moves = moves_all r.goes_on r.moves;
    done = record {
      put = put (ap (λ (v : Stored). v.map) r.done.value) applied;
      weight = at_most _ _ _ r.done.weight (within leased moment (unwrap_or last s.journal.held.map.mark) t held.map s.journal.gate.end (pairs_size s.journal.held.map.pairs) is);
      ready = r.done.ready;
      rests = λ tells. r.done.rests (on tells);
    };
    refused = tt;
    kept = tt;
  }

  -- the slot in use has a checkpoint of it
  pub installed_list : {T : Type 0} (x : T) → Replaces ghosts disk held s.journal now.journal d new (Ok x) → DiskTells disk old → IsCheckpoint now.journal.held.map (payloads now.journal.gate (disk.content new).reading)
  installed_list x r tells = subst (λ (m : MapState). IsCheckpoint m (payloads now.journal.gate (disk.content new).reading)) (sym (ap (λ (v : Stored). v.map) r.done.value)) (r.done.list (on tells))

  pub not_installed : {S T : Type 0} (e : Error) → Replaces ghosts disk held s.journal now.journal d new {T = S} (Err e)
      → ((now.journal.held ≡ s.journal.held) × (now.applied ≡ s.applied)) ⊎ ((now.journal.held ≡ held) × (now.applied ≡ unwrap_or last s.applied))
      → Installs disk leased moment last (state_shown s) (state_shown now) (state_map s) (state_map now) old new {T = T} map_held (Err e)
  not_installed e r kept = record {
    goes_on = goes_then disk old d new goes r.goes_on;
    moves = moves_all r.goes_on r.moves;
    done = tt;
    refused = failing e r;
    kept = ⊎_elim (λ k. inl (ap (λ (h : StoredMap). h.map) k.0, λ i. record (k.0 i).map { mark = k.1 i })) (λ k. inr (put (ap (λ (h : StoredMap). h.map) k.0) k.1)) kept;
  }

-- ---- the exits before

module _ {D : Type 0} (disk : Ghosts D) (leased : Bool) (moment : ℕ) (last : Option LogId) (s now : FileStateMachine) (old new : D) (goes : GoesOn disk old new) (first : DiskTells disk old → Moves disk State map_held (s.journal.held.map ∷ []) old new) where
  pub not_found : {T : Type 0} (e : Error) → IsUninstalled disk leased moment last (state_shown s) (state_shown now) (state_map s) (state_map now) old new (Unit {0}) e → now.journal.held.map ≡ s.journal.held.map → state_map now ≡ state_map s
      → Installs disk leased moment last (state_shown s) (state_shown now) (state_map s) (state_map now) old new {T = T} map_held (Err e)
  not_found e refused value map = record {
    goes_on = goes;
    moves = λ tells. moves_first disk s.journal.held.map (installed_values leased moment (unwrap_or last s.journal.held.map.mark) (snapshot_of (disk.content old).reading)) old new (first tells);
    done = tt;
    refused = refused;
    kept = inl (value, map);
  }

  -- memory was wanting before the first write
  pub wanting : {T : Type 0} (r : Result T Error) → IsErrAnd r (λ e. e ≡ error.OutOfMemory) → IsLeft disk (state_shown s) (state_shown now) (state_map s) (state_map now) old new
      → Installs disk leased moment last (state_shown s) (state_shown now) (state_map s) (state_map now) old new map_held r
  wanting (Ok x) is same = absurd is
  wanting (Err e) is same =
      not_found e (subst (IsUninstalled disk leased moment last (state_shown s) (state_shown now) (state_map s) (state_map now) old new (Unit {0})) (sym is) (inl same)) same.same_value same.same_map
