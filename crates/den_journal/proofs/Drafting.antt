-- What calls on a draft of a journal leave.
use Rattle.std.proofs.Common.{◌≡◌, inl, inr, ℕ, zero, suc, ◌+◌, ◌*◌, ◌^◌, ◌<◌, ◌≤◌, max, true, false, List, [], ◌∷◌, ◌++◌, length, take, get_or, Option, Some, IsSome, IsTrue, Result, Ok, Err, refl, sym, ap, ◌∙◌, subst, arith, length-append}
use Rattle.std.specs.Option.{unwrap_or}
use Rattle.std.specs.Result.{IsErrAnd}
use Rattle.std.proofs.lemmas.Result.{IfErr-weaker}
use Rattle.den_disk.specs.declared.disk.Disk.{Ghosts as DiskGhosts}
use Rattle.den_disk.specs.declared.place.Family.{Family}
use Rattle.den_disk.specs.declared.place.Place.{Place}
use Rattle.den_disk.specs.Files.{Content, Files, Kind}
use Rattle.den_model.specs.Image.{slot_of}
use Rattle.den_disk.specs.Crash.{Stays}
use Rattle.den_disk.specs.Goes.{Rose}
use Rattle.den_model.specs.Regions.{Region, open_region, open_regions, placed}
use Rattle.den_model.specs.Spelling.{u64_word}
use Rattle.den_model.proofs.Numbers.{length_u64_word}
use Rattle.den_gate.specs.declared.error.GateError.{GateError}
use Rattle.den_gate.specs.declared.error.GateError.TheVariants as gate
use Rattle.den_gate.specs.declared.gate.GateFile.{GateFile}
use Rattle.den_gate.specs.Causes.{Because}
use Rattle.den_gate.specs.Slot.{Holds, IsShort, room_for}
use Rattle.den_gate.specs.Gate.{payloads, IsAtRest, IsCurrent}
use Rattle.den_gate.specs.Draft.{IsDraft, KeepsList, RestsWith, Rewrites, Rewritten, WritesOwn, draft_end, other_slot}
use Rattle.den_gate.proofs.Alone.{Law}
use Rattle.den_gate.proofs.Written.{regions-push}
use Rattle.den_codec.specs.declared.error.Error.{Error}
use Rattle.den_codec.specs.declared.error.Error.TheVariants.{DiskFull, OutOfMemory}
use Rattle.den_codec.specs.declared.error.Error.TheVariants as error
use Rattle.den_codec.specs.Full.{IsHeavy}
use Rattle.den_journal.specs.declared.folded.Folded.{Ghosts}
use Rattle.den_journal.specs.declared.journal.Journal.{Journal}
use Rattle.den_journal.specs.Causes.{IsFullFor, IsRefusal, IsTooShort}
use Rattle.den_journal.specs.Drafts.{Commits, Drafts, IsDrafting, IsFullOf, IsSizeOf, Pushes}
use Rattle.den_journal.specs.Lies.{gives_hold}
use Rattle.den_journal.specs.Refused.{refusal}
use Rattle.den_journal.specs.Shown.{RestsAs, held_in, rewrite_size}
use Rattle.den_journal.specs.Writes.{Faulted, Moves, DiskTells}
use Rattle.den_journal.proofs.Full.{full_of, short_in_other, sync_refused}
use Rattle.den_journal.proofs.Moving.{first_of, goes_nowhere, moves_joined, moves_flipped, moves_kept, moves_nothing}

-- one payload more
pub pushed_size : (ps : List (List ℕ)) (p : List ℕ) → length (open_regions (ps ++ p ∷ [])) ≡ length (open_regions ps) + (9 + length p)
pushed_size ps p =
    omega (arith, ap length (regions-push ps p), length-append (open_regions ps) (open_region p), length-append (u64_word (length p)) p, length_u64_word (length p))

-- ---- what files give beside a draft, and behind its commit

module _ {V D : Type 0} (disk : DiskGhosts D) (family : Family) (meaning : List Region → Result V ℕ) (was now : GateFile) (v : V) (old new : D) (tells : DiskTells disk old) (gives : RestsAs family meaning was v (disk.content old)) where
  pub gives_beside : KeepsList disk was now old new → RestsAs family meaning now v (disk.content new)
  gives_beside keeps = record {
    family_is = ap (λ (p : Place). p.family) keeps.slot ∙ gives.family_is;
    at_rest = keeps.at_rest tells gives.at_rest;
    current = keeps.current tells gives.current;
    means = ap (λ ps. meaning (placed 0 ps)) (keeps.same tells) ∙ gives.means;
  }

  pub moves_beside : {T E : Type 0} (result : Result T E) → WritesOwn disk was now old new result → KeepsList disk was now old new → Moves disk family (held_in family meaning) (v ∷ []) old new
  moves_beside result writes keeps =
      moves_kept disk family meaning was.slot (payloads was (disk.content old).reading) v old new gives.family_is gives.means (writes.images tells) (writes.others tells)
      (keeps.family tells gives.at_rest gives.current)

  pub moves_over : {T E : Type 0} (result : Result T E) (list : List (List ℕ)) (w : V) → WritesOwn disk was now old new result → meaning (placed 0 list) ≡ Ok w → Rewrites disk was now old new list
      → Moves disk family (held_in family meaning) (v ∷ w ∷ []) old new
  moves_over result list w writes is rewrites =
      moves_flipped disk family meaning was.slot (payloads was (disk.content old).reading) v old new gives.family_is gives.means (writes.images tells) (writes.others tells) list w is rewrites.family

pub rests_give : {V : Type 0} (family : Family) (meaning : List Region → Result V ℕ) (gate : GateFile) (list : List (List ℕ)) (v : V) (c : Content) → gate.slot.family ≡ family → RestsWith gate list c
    → meaning (placed 0 list) ≡ Ok v → RestsAs family meaning gate v c
rests_give family meaning gate list v c own rests is = record {
  family_is = own;
  at_rest = rests.at_rest;
  current = rests.current;
  means = ap (λ ps. meaning (placed 0 ps)) rests.list_is ∙ is;
}

-- ---- what the disk refused of a payload

-- where the disk was full, nothing was written
abbrev pub WasFull : {D : Type 0} (disk : DiskGhosts D) (gate : GateFile) (old new : D) (size needed limit : ℕ) → Type 0
WasFull disk gate old new size needed limit =
    (needed ≡ room_for (draft_end gate) size) × (limit ≡ (disk.kind old).limit) × (limit < needed) × (2 ^ 43 ≤ limit)
    × (DiskTells disk old → IsShort ((disk.content old).reading (other_slot gate.slot)) (draft_end gate) size × Stays disk.content disk.moment disk.images old new)

module _ {F R D : Type 0} (fold : Ghosts F R) (disk : DiskGhosts D) (law : Law disk) (stands : fold.Value) (was now : Journal F) (old new : D) (words : List (List ℕ)) (drafting : IsDrafting fold disk stands was words old) (held : now.held ≡ was.held) where
  why : (word : List ℕ) (e : GateError) → Because ⊥ (Faulted disk old new) (WasFull disk was.gate old new (length word)) (λ part offset. ⊥) e
      → IsRefusal (Faulted disk old new) (disk.kind old).limit (refusal fold.FAMILY e)
      × IsFullOf (DiskTells disk old) fold.FAMILY (disk.content new).reading (length (open_regions words)) (length word) (refusal fold.FAMILY e)
      × IsHeavy (disk.kind old).limit (length (open_regions words) + length word) (refusal fold.FAMILY e)
  why word gate.OutOfMemory h = absurd h
  why word gate.StorageIoError h = (h, tt, tt)
  why word (gate.Full needed limit) h =
      let end = length (open_regions words) in
      let room : needed ≡ room_for end (length word) = h.0 ∙ ap (λ (n : ℕ). room_for n (length word)) drafting.end in (
        (h.2, h.1),
        (
          room,
          λ tells. let g = drafting.gives tells in
              let full = h.4 tells in
              subst (λ (c : Content). IsTooShort (other_slot (slot_of fold.FAMILY c.reading)) (λ n. n ≡ length word) needed c.reading) (sym full.1.content_same)
              (short_in_other fold.FAMILY was.gate.slot (disk.content old) words (draft_end was.gate) needed (length word) (λ n. n ≡ length word) g.family_is g.current (drafting.draft tells).holds refl h.0 full.0),
        ),
        omega (arith, full_of (end + length word) needed limit (end + length word) (omega arith) h.2 h.3 (omega arith), h.1),
      )
  why word (gate.DataCorruption part offset) h = absurd h

  pub push_refused : {T E : Type 0} (result : Result T E) (word : List ℕ) (e : GateError) → now.gate.failed ≡ true → WritesOwn disk was.gate now.gate old new result → KeepsList disk was.gate now.gate old new
      → Because ⊥ (Faulted disk old new) (WasFull disk was.gate old new (length word)) (λ part offset. ⊥) e → Pushes fold disk was now old new {T = T} stands words word (Err (refusal fold.FAMILY e))
  push_refused result word e failed writes keeps h =
      let w = why word e h in
      record {
        drafts = record {
          goes_on = writes.goes_on;
          moves = λ tells. moves_beside disk fold.FAMILY (fold.from fold.empty) was.gate now.gate stands old new tells (drafting.gives tells) result writes keeps;
          cause = w.0;
          failed = λ ready. absurd (cc (failed, ready.1));
          same_value = ap fold.value held;
        };
        pushed = tt;
        full = w.1;
        heavy = w.2;
      }

  pub push_made : {T E : Type 0} (result : Result T E) (x : T) (word : List ℕ) → now.gate.failed ≡ false → now.failed ≡ was.failed → now.gate.draft ≡ Some (draft_end was.gate + (9 + length word))
      → WritesOwn disk was.gate now.gate old new result → KeepsList disk was.gate now.gate old new
      → (DiskTells disk old → (list : List (List ℕ)) → IsDraft was.gate list (disk.content old) → IsDraft now.gate (list ++ word ∷ []) (disk.content new))
      → Pushes fold disk was now old new stands words word (Ok x)
  push_made result x word going same is writes keeps pushed =
      let on : DiskTells disk new → DiskTells disk old = λ tells. subst (λ (k : Kind). IsTrue k.tells) writes.goes_on.same tells in
      record {
        drafts = record {
          goes_on = writes.goes_on;
          moves = λ tells. moves_beside disk fold.FAMILY (fold.from fold.empty) was.gate now.gate stands old new tells (drafting.gives tells) result writes keeps;
          cause = tt;
          failed = tt;
          same_value = tt;
        };
        pushed = record {
          begun = subst IsSome (sym is) refl;
          end = omega (arith, ap (λ (o : Option ℕ). unwrap_or o 0) is, drafting.end, pushed_size words word);
          going = going;
          unready = same ∙ drafting.unready;
          gives = λ tells. gives_beside disk fold.FAMILY (fold.from fold.empty) was.gate now.gate stands old new (on tells) (drafting.gives (on tells)) keeps;
          draft = λ tells. pushed (on tells) words (drafting.draft (on tells));
        };
        full = tt;
        heavy = tt;
      }

-- memory was wanting for a word
pub push_wanting : {F R D T : Type 0} (fold : Ghosts F R) (disk : DiskGhosts D) (law : Law disk) (stands : fold.Value) (was now : Journal F) (d : D) (words : List (List ℕ)) (word : List ℕ) → IsDrafting fold disk stands was words d
    → now.held ≡ was.held → now.failed ≡ was.failed → (result : Result T Error) → IsErrAnd result (λ e. e ≡ OutOfMemory) → Pushes fold disk was now d d stands words word result
push_wanting fold disk law stands was now d words word drafting held same (Ok x) is = absurd is
push_wanting fold disk law stands was now d words word drafting held same (Err e) is = record {
  drafts = record {
    goes_on = goes_nowhere disk d;
    moves = λ tells. moves_nothing disk fold.FAMILY (held_in fold.FAMILY (fold.from fold.empty)) stands [] d
        (λ told files i. gives_hold fold.FAMILY (fold.from fold.empty) was.gate stands (disk.content d) files (drafting.gives tells) ((law d files tells).0 i));
    cause = subst (IsRefusal (Faulted disk d d) (disk.kind d).limit) (sym is) tt;
    failed = λ ready. absurd (cc (same ∙ drafting.unready, ready.0));
    same_value = ap fold.value held;
  };
  pushed = tt;
  full = subst (IsFullOf (DiskTells disk d) fold.FAMILY (disk.content d).reading (length (open_regions words)) (length word)) (sym is) tt;
  heavy = subst (IsHeavy (disk.kind d).limit (length (open_regions words) + length word)) (sym is) tt;
}

-- ---- a commit

module _ {F R D : Type 0} (fold : Ghosts F R) (disk : DiskGhosts D) (stands : fold.Value) (was now : Journal F) (old new : D) (words : List (List ℕ)) (drafting : IsDrafting fold disk stands was words old)
    (is : fold.from fold.empty (placed 0 words) ≡ Ok (fold.renewed (fold.value was.held)))
    {S E : Type 0} (result : Result S E) (writes : WritesOwn disk was.gate now.gate old new result)
    (rewrites : DiskTells disk old → (list : List (List ℕ)) → IsDraft was.gate list (disk.content old) → IsAtRest was.gate (disk.content old) → IsCurrent was.gate.slot (disk.content old)
    → Rewrites disk was.gate now.gate old new list) where
  moves : DiskTells disk old → Moves disk fold.FAMILY (held_in fold.FAMILY (fold.from fold.empty)) (stands ∷ fold.renewed (fold.value was.held) ∷ []) old new
  moves tells = let g = drafting.gives tells in
      moves_over disk fold.FAMILY (fold.from fold.empty) was.gate now.gate stands old new tells g result words (fold.renewed (fold.value was.held)) writes is
      (rewrites tells words (drafting.draft tells) g.at_rest g.current)

  pub commit_made : {T : Type 0} (x : T) → ((v : fold.Value) → fold.size (fold.renewed v) ≡ fold.size v) → fold.value now.held ≡ fold.renewed (fold.value was.held) → now.failed ≡ false → now.gate.failed ≡ false
      → Rewritten disk was.gate now.gate old new (draft_end was.gate)
      → (DiskTells disk old → (list : List (List ℕ)) → IsDraft was.gate list (disk.content old) → IsCurrent was.gate.slot (disk.content old) → RestsWith now.gate list (disk.content new))
      → Commits fold disk was now old new stands words (Ok x)
  commit_made x anew value ready going rewritten rests =
      let at_rest : (tells : DiskTells disk old) → RestsWith now.gate words (disk.content new) = λ tells. rests tells words (drafting.draft tells) (drafting.gives tells).current in
      record {
        drafts = record { goes_on = writes.goes_on; moves = moves; cause = tt; failed = tt; same_value = tt };
        done = record {
          value = value;
          weight = ap (λ (n : ℕ). max n (rewrite_size (fold.size (fold.value now.held)))) (rewritten.end ∙ drafting.end)
              ∙ ap (λ (n : ℕ). max (length (open_regions words)) (rewrite_size n)) (ap fold.size value ∙ anew (fold.value was.held));
          ready = (ready, going);
          rests = λ tells. rests_give fold.FAMILY (fold.from fold.empty) now.gate words (fold.value now.held) (disk.content new)
              (ap (λ (p : Place). p.family) rewritten.slot ∙ (drafting.gives tells).family_is) (at_rest tells) (is ∙ ap (λ v. Ok v) (sym value));
          list = λ tells. (at_rest tells).list_is;
          slot = rewritten.slot;
        };
      }

  pub commit_refused : {T : Type 0} (e : GateError) → fold.value now.held ≡ fold.value was.held → now.gate.failed ≡ true → Because ⊥ (Faulted disk old new) (λ needed limit. ⊥) (λ part offset. ⊥) e
      → Commits fold disk was now old new {T = T} stands words (Err (refusal fold.FAMILY e))
  commit_refused e value failed h =
      let s = sync_refused (Faulted disk old new) fold.FAMILY e h in
      record {
        drafts = record {
          goes_on = writes.goes_on;
          moves = moves;
          cause = subst (IsRefusal (Faulted disk old new) (disk.kind old).limit) (sym s.0) s.1;
          failed = λ ready. absurd (cc (failed, ready.1));
          same_value = value;
        };
        done = tt;
      }

-- ---- for the callers

-- a draft stays one where its journal takes on another value
pub drafting_turned : {F R D : Type 0} (fold : Ghosts F R) (disk : DiskGhosts D) (stands : fold.Value) (was now : Journal F) (words : List (List ℕ)) (at : D) → IsDrafting fold disk stands was words at → now.gate ≡ was.gate
    → now.failed ≡ true → IsDrafting fold disk stands now words at
drafting_turned fold disk stands was now words at drafting same unready = record {
  begun = subst (λ (g : GateFile). IsSome g.draft) (sym same) drafting.begun;
  end = ap draft_end same ∙ drafting.end;
  going = ap (λ (g : GateFile). g.failed) same ∙ drafting.going;
  unready = unready;
  gives = λ tells. subst (λ (g : GateFile). RestsAs fold.FAMILY (fold.from fold.empty) g stands (disk.content at)) (sym same) (drafting.gives tells);
  draft = λ tells. subst (λ (g : GateFile). IsDraft g words (disk.content at)) (sym same) (drafting.draft tells);
}

-- calls on a draft one behind the other
pub later_cause : (rose more : Type 0) (most same : ℕ) (e : Error) → (rose → more) → same ≡ most → IsRefusal rose same e → IsRefusal more most e
later_cause rose more most same error.StorageIoError rises is h = rises h
later_cause rose more most same (error.DiskFull needed limit) rises is h = (h.0, h.1 ∙ is)
later_cause rose more most same error.OutOfMemory rises is h = h
later_cause rose more most same error.LinkFault rises is h = h
later_cause rose more most same (error.DataCorruption place offset) rises is h = h
later_cause rose more most same error.FeatureNotEnabled rises is h = h
later_cause rose more most same error.ProposeFailed rises is h = h
later_cause rose more most same (error.UnorderedChunk index) rises is h = h
later_cause rose more most same (error.Config place) rises is h = h
later_cause rose more most same error.ConfigFault rises is h = h
later_cause rose more most same error.StateMachineError rises is h = h

pub drafts_then : {F R D S T : Type 0} (fold : Ghosts F R) (disk : DiskGhosts D) (stands : fold.Value) (was between now : Journal F) (old mid new : D) (more : List fold.Value) (x : S) (result : Result T Error)
    → fold.value between.held ≡ fold.value was.held → Drafts fold disk was between old mid (stands ∷ []) (Ok x) → Drafts fold disk between now mid new (stands ∷ more) result
    → Drafts fold disk was now old new (stands ∷ more) result
drafts_then fold disk stands was between now old mid new more x result same one two =
    let on : DiskTells disk old → DiskTells disk mid = λ tells. subst (λ (k : Kind). IsTrue k.tells) (sym one.goes_on.same) tells in
    record {
      goes_on = record {
        same = two.goes_on.same ∙ one.goes_on.same;
        counts = omega (arith, one.goes_on.counts, two.goes_on.counts);
        told = λ tells.
            let first = one.goes_on.told tells in
            let then = two.goes_on.told (on tells) in
            record {
              later = omega (arith, first.later, then.later);
              past = λ t files le i. first.past t files le (then.past t files (omega (arith, le, first.later)) i);
              keeps = λ t files le i. then.keeps t files (omega (arith, le, first.later)) (first.keeps t files le i);
            };
      };
      moves = λ tells. moves_joined one.goes_on two.goes_on tells (stands ∷ []) (stands ∷ more) (stands ∷ more) (λ found h. first_of stands more found h) (λ found h. h) (one.moves tells) (two.moves (on tells));
      cause = IfErr-weaker result (IsRefusal (Faulted disk mid new) (disk.kind mid).limit) (IsRefusal (Faulted disk old new) (disk.kind old).limit)
          (λ e h. later_cause (Faulted disk mid new) (Faulted disk old new) (disk.kind old).limit (disk.kind mid).limit e (later_rose (disk.faults old) (disk.faults mid) (disk.faults new) one.goes_on.counts)
          (ap (λ (k : Kind). k.limit) one.goes_on.same) h) two.cause;
      failed = two.failed;
      same_value = IfErr-weaker result (λ e. fold.value now.held ≡ fold.value between.held) (λ e. fold.value now.held ≡ fold.value was.held) (λ e h. h ∙ same) two.same_value;
    }
  where
    later_rose : (first second third : ℕ) → first ≤ second → Rose second third → Rose first third
    later_rose first second third le rose = omega arith

-- what is told of a full draft, among what a change may be told
pub full_for : (told more : Type 0) (family : Family) (files : Files) (end size most : ℕ) (adds drafts : ℕ → Type 0) (e : Error) → (more → told) → end + size ≤ most → drafts size → IsFullOf told family files end size e
    → IsFullFor more family files most adds drafts e
full_for told more family files end size most adds drafts (error.DiskFull needed limit) tells small meant h = (
  record { size = end + size; within = omega arith; room = omega (arith, h.0) },
  λ t. let s = h.1 (tells t) in inr (record { size = s.size; meant = subst drafts (sym s.meant) meant; room = s.room; short = s.short }),
)
full_for told more family files end size most adds drafts error.StorageIoError tells small meant h = tt
full_for told more family files end size most adds drafts error.OutOfMemory tells small meant h = tt
full_for told more family files end size most adds drafts error.LinkFault tells small meant h = tt
full_for told more family files end size most adds drafts (error.DataCorruption place offset) tells small meant h = tt
full_for told more family files end size most adds drafts error.FeatureNotEnabled tells small meant h = tt
full_for told more family files end size most adds drafts error.ProposeFailed tells small meant h = tt
full_for told more family files end size most adds drafts (error.UnorderedChunk index) tells small meant h = tt
full_for told more family files end size most adds drafts (error.Config place) tells small meant h = tt
full_for told more family files end size most adds drafts error.ConfigFault tells small meant h = tt
full_for told more family files end size most adds drafts error.StateMachineError tells small meant h = tt

-- ---- a rewrite

-- a payload of a list, with those before it
front_size : (list : List (List ℕ)) (at : ℕ) → at < length list → length (open_regions (take at list)) + (9 + length (get_or list at [])) ≤ length (open_regions list)
front_size [] at within = absurd (omega arith)
front_size (p ∷ ps) zero within = omega (arith, length-append (open_region p) (open_regions ps), length-append (u64_word (length p)) p, length_u64_word (length p))
front_size (p ∷ ps) (suc at) within =
    omega (arith, front_size ps at (omega arith), length-append (open_region p) (open_regions ps), length-append (open_region p) (open_regions (take at ps)))

one_size : (list : List (List ℕ)) (at : ℕ) → at < length list → IsSizeOf list (length (get_or list at []))
one_size [] at within = absurd (omega arith)
one_size (p ∷ ps) zero within = inl refl
one_size (p ∷ ps) (suc at) within = inr (one_size ps at (omega arith))

-- where the other slot had no room for one of the payloads
pub full_at : (told : Type 0) (family : Family) (slot : Place) (c : Content) (list : List (List ℕ)) (at needed limit most : ℕ) → at < length list → needed ≡ room_for (length (open_regions (take at list))) (length (get_or list at []))
    → length (open_regions list) ≤ most
    → (told → (slot.family ≡ family) × IsCurrent slot c × Holds (take at list) (length (open_regions (take at list))) (c.reading (other_slot slot))
    × IsShort (c.reading (other_slot slot)) (length (open_regions (take at list))) (length (get_or list at [])))
    → IsFullFor told family c.reading most (λ n. ⊥) (IsSizeOf list) (DiskFull needed limit)
full_at told family slot c list at needed limit most within room small tells =
    let end = length (open_regions (take at list)) in
    let size = length (get_or list at []) in (
      record { size = end + size; within = omega (arith, front_size list at within); room = omega arith },
      λ t. let h = tells t in inr (short_in_other family slot c (take at list) end needed size (IsSizeOf list) h.0 h.1 h.2 (one_size list at within) room h.3),
    )

-- regions that were written anew, and a value that grew by no more than a word
pub anew_weight : (end now size more word rise words : ℕ) → now ≡ words → words ≤ rewrite_size more → more ≤ size + word → 9 + 2 * word ≤ rise → max now (rewrite_size more) ≤ max end (rewrite_size size) + rise
anew_weight end now size more word rise words is small le rises = omega arith

pub anew_small : (end size more word rise words : ℕ) → words ≤ rewrite_size more → more ≤ size + word → 9 + 2 * word ≤ rise → words ≤ max end (rewrite_size size) + rise
anew_small end size more word rise words small le rises = omega arith
