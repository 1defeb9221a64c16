-- What a family of one word keeps while it is written.
use Rattle.std.proofs.Common.{◌≡◌, ◌⊎◌, inl, inr, ⊎_elim, ℕ, ◌≤◌, IsTrue, List, [], ◌∷◌, length, take, get_or, Option, None, Result, Ok, Err, refl, sym, ap, ◌∙◌, subst, arith}
use Rattle.std.specs.Prelude.{IsErr, IfOk}
use Rattle.std.proofs.Math.Nat.{le_refl}
use Rattle.std.proofs.lemmas.Bool.{cases_lt}
use Rattle.den_disk.specs.declared.disk.Disk.{Ghosts}
use Rattle.den_disk.specs.declared.place.Family.{Family}
use Rattle.den_disk.specs.declared.place.Part.{Part}
use Rattle.den_disk.specs.declared.place.Place.{Place}
use Rattle.den_disk.specs.declared.place.Part.TheVariants.{A}
use Rattle.den_disk.specs.Files.{Files, Content, Kind}
use Rattle.den_disk.specs.Crash.{Leaves}
use Rattle.den_disk.specs.Goes.{ImagesGoOn, Rose}
use Rattle.den_disk.specs.Families.{SparesAll, SparesOthers, SparesImages, NoNewImages}
use Rattle.den_disk.proofs.Images.{itself}
use Rattle.den_disk.proofs.Moments.{and_then, weaker}
use Rattle.den_model.specs.Regions.{Region, open_regions, placed}
use Rattle.den_model.specs.Image.{named, head_of, slot_of}
use Rattle.den_codec.specs.declared.error.Error.{Error}
use Rattle.den_gate.specs.declared.error.GateError.{GateError}
use Rattle.den_gate.specs.declared.error.GateError.TheVariants as cause
use Rattle.den_gate.specs.declared.gate.GateFile.{GateFile}
use Rattle.den_gate.specs.Causes.{Because}
use Rattle.den_gate.specs.Slot.{StopsAt, room_for}
use Rattle.den_gate.specs.Steps.{IsSettled}
use Rattle.den_gate.specs.Gate.{payloads, IsAtRest, IsCurrent}
use Rattle.den_gate.specs.Draft.{other_slot, Flips, KeepsList, PassesLimit, RestsWith, Rewrites, WritesOwn}
use Rattle.den_gate.proofs.Alone.{Law}
use Rattle.den_gate.proofs.Families.{rest_list, rest_image}
use Rattle.den_journal.specs.OneWord.{family_regions, one_of, slot_at_start, start_of, GivesAsBefore, HasOne, HasWords, IsKept, IsOne, IsRefusalOfOne, KeepsOrEmpties, WritesOne}
use Rattle.den_journal.specs.Refused.{refusal}
use Rattle.den_journal.specs.Writes.{GoesOn, DiskTells, Faulted}
use Rattle.den_journal.proofs.Emptying.{regions_same, read_leaves}
use Rattle.den_journal.proofs.Full.{short_in_other}

-- ---- files that cannot be read are emptied

-- the regions of files that a load found corrupt
pub unread : (rose told : Type 0) (family : Family) (files : Files) (e : GateError) (part : Part) (offset : ℕ) → e ≡ cause.DataCorruption part offset
    → Because ⊥ rose (λ needed limit. ⊥) (λ at from. told → (at ≡ (slot_of family files).part) × (family_regions family files ≡ Err from)) e → told → IsErr (family_regions family files)
unread rose told family files e part offset is why tells =
    let here = subst (λ (x : GateError). Because ⊥ rose (λ needed limit. ⊥) (λ at from. told → (at ≡ (slot_of family files).part) × (family_regions family files ≡ Err from)) x) is why in
    subst IsErr (sym (here tells).1) refl

module _ {D : Type 0} (disk : Ghosts D) (law : Law disk) (family : Family) (first one two : D) (tells : DiskTells disk first) (goes : GoesOn disk first one)
    (images : NoNewImages (disk.images first) (disk.images one) (disk.moment first) (disk.moment one)) (spares : SparesAll (disk.content first) (disk.content one))
    (bad : IsErr (family_regions family (disk.content first).reading)) (run : Leaves disk.content disk.moment disk.images (λ t files. KeepsOrEmpties family (disk.content one).reading files) one two) where
  abbrev entry : Files
  entry = (disk.content first).reading

  abbrev Kept : ℕ → Files → Type 0
  Kept t files = IsKept family (disk.images first (disk.moment first)) entry files

  loaded : Leaves disk.content disk.moment disk.images Kept first one
  loaded = read_leaves disk (IsKept family (disk.images first (disk.moment first)) entry) first one (goes.told tells) images (λ files i. inl (record { origin = files; was = i; same = refl }))

  pub kept_emptied : Leaves disk.content disk.moment disk.images Kept first two
  kept_emptied = and_then disk.content disk.moment disk.images Kept first one two loaded
      (weaker disk.content disk.moment disk.images (λ t files. KeepsOrEmpties family (disk.content one).reading files) Kept one two
      (λ t files h. ⊎_elim
      (λ same. inl (record {
        origin = entry;
        was = (law first entry tells).1 (λ q. itself (disk.content first).pending q (entry q));
        same = same ∙ regions_same family entry (disk.content one).reading (λ q is. spares.reading q);
      }))
      (λ none. inr (bad, none)) h) run)

  pub kept_loaded : (last : D) → ImagesGoOn disk.moment disk.images two last → NoNewImages (disk.images two) (disk.images last) (disk.moment two) (disk.moment last)
      → Leaves disk.content disk.moment disk.images Kept first last
  kept_loaded last goes_on none = and_then disk.content disk.moment disk.images Kept first two last kept_emptied
      (read_leaves disk (IsKept family (disk.images first (disk.moment first)) entry) two last goes_on none
      (λ files i. kept_emptied.each (disk.moment two) files kept_emptied.later (le_refl (disk.moment two)) i))

-- ---- what a crash leaves of some words

readable : (rs : List Region) (found : Result (List Region) ℕ) → IsErr found → found ≡ Ok rs → ⊥
readable rs found bad is = absurd (cc (bad, is))

module _ {D : Type 0} (disk : Ghosts D) (law : Law disk) (family : Family) (word : List ℕ) (old new : D) (tells : DiskTells disk old)
    (run : Leaves disk.content disk.moment disk.images (λ t files. HasOne family word files ⊎ IsKept family (disk.images old (disk.moment old)) (disk.content old).reading files) old new) where
  pub kept_words : (was : List (List ℕ)) → ((files : Files) → disk.images old (disk.moment old) files → HasWords family was files)
      → (t : ℕ) (files : Files) → disk.moment old ≤ t → t ≤ disk.moment new → disk.images new t files → HasWords family was files ⊎ HasOne family word files
  kept_words was all t files low high i =
      let reading = (disk.content old).reading in
      let read : HasWords family was reading = all reading ((law old reading tells).1 (λ q. itself (disk.content old).pending q (reading q))) in
      ⊎_elim (λ one. inr one) (λ kept. ⊎_elim (λ before. inl (before.same ∙ all before.origin before.was)) (λ none. absurd (readable (placed 0 was) (family_regions family reading) none.0 read)) kept)
      (run.each t files low high i)

-- what gives no regions gives no value
none_of : {A : Type 0} (read : List ℕ → Option A) (found : Result (List Region) ℕ) → IsErr found → one_of read found ≡ None
none_of read (Ok rs) bad = absurd (cc bad)
none_of read (Err offset) bad = refl

-- A crash in a writing of one word leaves files that give what files gave before it, or that word.
pub value_kept : {D A T : Type 0} (disk : Ghosts D) (law : Law disk) (family : Family) (word : List ℕ) (read : List ℕ → Option A) (old new : D) (result : Result T Error) → WritesOne disk family word old new result
    → DiskTells disk old → (t : ℕ) (files : Files) → disk.moment old ≤ t → t ≤ disk.moment new → disk.images new t files
    → HasOne family word files ⊎ GivesAsBefore family read (disk.images old (disk.moment old)) files
value_kept disk law family word read old new result w tells t files low high i =
    let reading = (disk.content old).reading in
    ⊎_elim (λ one. inl one)
    (λ kept. inr (⊎_elim
    (λ before. record { origin = before.origin; was = before.was; same = ap (one_of read) before.same })
    (λ none. record {
      origin = reading;
      was = (law old reading tells).1 (λ q. itself (disk.content old).pending q (reading q));
      same = ap (one_of read) none.1 ∙ sym (none_of read (family_regions family reading) none.0);
    }) kept))
    ((w.any_moment tells).each t files low high i)

-- ---- the slot in use

unread_start : (found : Result (List Region) ℕ) (slot : Place) → IsErr found → start_of found slot ≡ record { family = slot.family; part = A }
unread_start (Ok rs) slot bad = absurd (cc bad)
unread_start (Err offset) slot bad = refl

-- where the regions could be read it is the one that the head names
pub start_named : (gate : GateFile) (family : Family) (c d : Content) → gate.slot.family ≡ family → SparesAll c d → IsAtRest gate d → IsCurrent gate.slot d → gate.slot ≡ slot_of family c.reading
    → gate.slot ≡ slot_at_start family c.reading
start_named gate family c d own spares rest current is =
    let list = payloads gate d.reading in
    let read : family_regions family d.reading ≡ Ok (placed 0 list) = subst (λ (f : Family). family_regions f d.reading ≡ Ok (placed 0 list)) own (rest_list gate d rest current).list_is in
    let before : family_regions family c.reading ≡ Ok (placed 0 list) = sym (regions_same family c.reading d.reading (λ q is. spares.reading q)) ∙ read in
    is ∙ sym (ap (λ (found : Result (List Region) ℕ). start_of found (slot_of family c.reading)) before)

-- and A where they could not
start_emptied : (slot : Place) (family : Family) (was files : Files) → IsErr (family_regions family was) → files (head_of family) ≡ [] → slot ≡ slot_of family files → slot ≡ slot_at_start family was
start_emptied slot family was files bad head is =
    is ∙ ap (λ (bytes : List ℕ). record { family = family; part = named bytes }) head ∙ sym (unread_start (family_regions family was) (slot_of family was) bad)

pub if_loaded : {E : Type 0} (family : Family) (was files : Files) → IsErr (family_regions family was) → files (head_of family) ≡ [] → (result : Result GateFile E)
    → IfOk result (λ gate. gate.slot ≡ slot_of family files) → IfOk result (λ gate. gate.slot ≡ slot_at_start family was)
if_loaded family was files bad head (Ok gate) is = start_emptied gate.slot family was files bad head is
if_loaded family was files bad head (Err e) is = tt

-- ---- a family that was not loaded

unloaded_why : (rose told : Type 0) (family own : Family) (files : Files) (size most : ℕ) (e : GateError) → Because ⊥ rose (λ needed limit. ⊥) (λ part offset. told → ⊥) e
    → IsRefusalOfOne rose told family files size most (refusal own e)
unloaded_why rose told family own files size most cause.OutOfMemory h = absurd h
unloaded_why rose told family own files size most cause.StorageIoError h = h
unloaded_why rose told family own files size most (cause.Full needed limit) h = absurd h
unloaded_why rose told family own files size most (cause.DataCorruption part offset) h = h

pub unloaded : {D T : Type 0} (disk : Ghosts D) (law : Law disk) (family : Family) (word : List ℕ) (old new : D) (e : GateError) → GoesOn disk old new
    → (DiskTells disk old → SparesImages family (disk.images old) (disk.images new) (disk.moment old) (disk.moment new)) → (DiskTells disk old → SparesOthers family (disk.content old) (disk.content new))
    → (DiskTells disk old → Leaves disk.content disk.moment disk.images (λ t files. IsKept family (disk.images old (disk.moment old)) (disk.content old).reading files) old new)
    → Because ⊥ (Faulted disk old new) (λ needed limit. ⊥) (λ part offset. DiskTells disk old → ⊥) e → WritesOne disk family {T = T} word old new (Err (refusal family e))
unloaded disk law family word old new e goes images spares kept why =
    let run : DiskTells disk old → Leaves disk.content disk.moment disk.images (λ t files. HasOne family word files ⊎ IsKept family (disk.images old (disk.moment old)) (disk.content old).reading files) old new =
    λ tells. weaker disk.content disk.moment disk.images (λ t files. IsKept family (disk.images old (disk.moment old)) (disk.content old).reading files)
    (λ t files. HasOne family word files ⊎ IsKept family (disk.images old (disk.moment old)) (disk.content old).reading files) old new (λ t files h. inr h) (kept tells) in
    record {
      goes_on = goes;
      images = images;
      spares = spares;
      written = λ tells. tt;
      slot = λ tells. tt;
      cleared = λ tells. tt;
      any_moment = run;
      kept = λ tells. kept_words disk law family word old new tells (run tells);
      refused = unloaded_why (Faulted disk old new) (DiskTells disk old) family family (disk.content new).reading (length word) (disk.kind old).limit e why;
    }

-- ---- one that was loaded, and written

-- how a family was loaded
pub record Began {D : Type 0} (disk : Ghosts D) (family : Family) (gate : GateFile) (old mid : D) : Type 0 where
  pub goes_on : GoesOn disk old mid
  pub images : DiskTells disk old → SparesImages family (disk.images old) (disk.images mid) (disk.moment old) (disk.moment mid)
  pub spares : DiskTells disk old → SparesOthers family (disk.content old) (disk.content mid)
  pub any_moment : DiskTells disk old → Leaves disk.content disk.moment disk.images (λ t files. IsKept family (disk.images old (disk.moment old)) (disk.content old).reading files) old mid
  pub at_rest : DiskTells disk old → IsAtRest gate (disk.content mid)
  pub current : DiskTells disk old → IsCurrent gate.slot (disk.content mid)
  pub slot : DiskTells disk old → gate.slot ≡ slot_at_start family (disk.content old).reading

words_of : (one two : List (List ℕ)) → one ≡ two → ◌≡◌ {A = Result (List Region) ℕ} (Ok (placed 0 one)) (Ok (placed 0 two))
words_of one two is = ap (λ (ps : List (List ℕ)). Ok (placed 0 ps)) is

is_one : {D : Type 0} (disk : Ghosts D) (law : Law disk) (gate : GateFile) (word : List ℕ) (at : D) → DiskTells disk at → RestsWith gate (word ∷ []) (disk.content at) → IsOne disk gate.slot.family word at
is_one disk law gate word at tells rests =
    let c = disk.content at in
    let read = rest_list gate c rests.at_rest rests.current in
    let same = words_of (payloads gate c.reading) (word ∷ []) rests.list_is in
    record {
      reading = read.list_is ∙ same;
      images = λ files i. (rest_image gate c files rests.at_rest rests.current ((law at files tells).0 i)).list_is ∙ same;
      slot = subst (λ (p : Place). IsSettled p c) (sym read.slot_same) rests.at_rest.settled;
      head = rests.current.settled;
    }

-- the same regions are kept as well
kept_same : (family : Family) (before : Files → Type 0) (was one other : Files) → family_regions family other ≡ family_regions family one → IsKept family before was one → IsKept family before was other
kept_same family before was one other same kept =
    ⊎_elim (λ h. inl (record { origin = h.origin; was = h.was; same = same ∙ h.same })) (λ none. inr (none.0, same ∙ none.1)) kept

rose_later : (first second third : ℕ) → first ≤ second → Rose second third → Rose first third
rose_later first second third le rose = omega arith

module _ {D : Type 0} (disk : Ghosts D) (law : Law disk) (gate now : GateFile) (word : List ℕ) (old mid new : D) (began : Began disk gate.slot.family gate old mid) where
  on : DiskTells disk old → DiskTells disk mid
  on tells = subst (λ (k : Kind). IsTrue k.tells) (sym began.goes_on.same) tells

  abbrev Written : ℕ → Files → Type 0
  Written t files = HasOne gate.slot.family word files ⊎ IsKept gate.slot.family (disk.images old (disk.moment old)) (disk.content old).reading files

  module _ {S E : Type 0} (result : Result S E) (writes : WritesOwn disk gate now mid new result) (rewrites : DiskTells disk mid → Rewrites disk gate now mid new (word ∷ [])) where
    goes : GoesOn disk old new
    goes = record {
      same = writes.goes_on.same ∙ began.goes_on.same;
      counts = omega (arith, began.goes_on.counts, writes.goes_on.counts);
      told = λ tells.
          let first = began.goes_on.told tells in
          let then = writes.goes_on.told (on tells) in
          record {
            later = omega (arith, first.later, then.later);
            past = λ t files le i. first.past t files le (then.past t files (omega (arith, le, first.later)) i);
            keeps = λ t files le i. then.keeps t files (omega (arith, le, first.later)) (first.keeps t files le i);
          };
    }

    images : DiskTells disk old → SparesImages gate.slot.family (disk.images old) (disk.images new) (disk.moment old) (disk.moment new)
    images tells = record {
      each = λ t files low high i. ⊎_elim (λ early. (began.images tells).each t files low (omega arith) ((writes.goes_on.told (on tells)).past t files (omega arith) i))
          (λ late. let b = (writes.images (on tells)).each t files late high i in
          let a = (began.images tells).each (disk.moment mid) b.0 (began.goes_on.told tells).later (le_refl (disk.moment mid)) b.1 in (a.0, a.1, λ q ne. b.2 q ne ∙ a.2 q ne))
          (cases_lt t (disk.moment mid));
    }

    spares : DiskTells disk old → SparesOthers gate.slot.family (disk.content old) (disk.content new)
    spares tells = record {
      reading = λ q ne. (writes.others (on tells)).reading q ne ∙ (began.spares tells).reading q ne;
      pending = λ q ne k h. (began.spares tells).pending q ne k ((writes.others (on tells)).pending q ne k h);
    }

    run : DiskTells disk old → Leaves disk.content disk.moment disk.images Written old new
    run tells =
        let c = disk.content mid in
        let list = payloads gate c.reading in
        let first = began.any_moment tells in
        let read = rest_list gate c (began.at_rest tells) (began.current tells) in
        let here : IsKept gate.slot.family (disk.images old (disk.moment old)) (disk.content old).reading c.reading =
        first.each (disk.moment mid) c.reading first.later (le_refl (disk.moment mid)) ((law mid c.reading (on tells)).1 (λ q. itself c.pending q (c.reading q))) in
        and_then disk.content disk.moment disk.images Written old mid new
        (weaker disk.content disk.moment disk.images (λ t files. IsKept gate.slot.family (disk.images old (disk.moment old)) (disk.content old).reading files) Written old mid (λ t files h. inr h) first)
        (weaker disk.content disk.moment disk.images (λ t files. Flips gate.slot (other_slot gate.slot) list (word ∷ []) (disk.images mid (disk.moment mid)) files) Written mid new
        (λ t files f. ⊎_elim
        (λ h. inr (kept_same gate.slot.family (disk.images old (disk.moment old)) (disk.content old).reading c.reading files (h.list_is ∙ sym read.list_is) here))
        (λ h. inl h.list_is) f.stands)
        (rewrites (on tells)).any_moment)

    pub word_written : {T : Type 0} (x : T) → (DiskTells disk mid → RestsWith now (word ∷ []) (disk.content new)) → now.slot ≡ other_slot gate.slot
        → (DiskTells disk mid → (disk.content new).reading gate.slot ≡ []) → WritesOne disk gate.slot.family word old new (Ok x)
    word_written x rests moved gone = record {
      goes_on = goes;
      images = images;
      spares = spares;
      written = λ tells. subst (λ (f : Family). IsOne disk f word new) writes.own
          (is_one disk law now word new (subst (λ (k : Kind). IsTrue k.tells) (sym writes.goes_on.same) (on tells)) (rests (on tells)));
      slot = λ tells.
          let r = rests (on tells) in
          subst (λ (f : Family). slot_of f (disk.content new).reading ≡ now.slot) writes.own (rest_list now (disk.content new) r.at_rest r.current).slot_same ∙ moved ∙ ap other_slot (began.slot tells);
      cleared = λ tells. subst (λ (p : Place). (disk.content new).reading p ≡ []) (began.slot tells) (gone (on tells));
      any_moment = run;
      kept = λ tells. kept_words disk law gate.slot.family word old new tells (run tells);
      refused = tt;
    }

    unwritten_why : (own : Family) (e : GateError)
        → Because ⊥ (Faulted disk mid new) (λ needed limit. PassesLimit disk (other_slot gate.slot) (word ∷ []) mid new needed limit × KeepsList disk gate now mid new) (λ part offset. ⊥) e
        → IsRefusalOfOne (Faulted disk old new) (DiskTells disk old) gate.slot.family (disk.content new).reading (length word) (disk.kind old).limit (refusal own e)
    unwritten_why own cause.OutOfMemory h = absurd h
    unwritten_why own cause.StorageIoError h = rose_later (disk.faults old) (disk.faults mid) (disk.faults new) began.goes_on.counts h
    unwritten_why own (cause.DataCorruption part offset) h = absurd h
    unwritten_why own (cause.Full needed limit) h =
        let first : h.0.at ≡ 0 = omega (arith, h.0.within) in
        let room : needed ≡ room_for 0 (length word) =
        h.0.needed_is ∙ ap (λ (at : ℕ). room_for (length (open_regions (take at (word ∷ [])))) (length (get_or (word ∷ []) at []))) first in
        record {
          room = room;
          limit_is = h.0.limit_is ∙ ap (λ (k : Kind). k.limit) began.goes_on.same;
          passes = h.0.passes;
          least = h.0.least;
          short = λ tells.
              let stops = subst (λ (at : ℕ). StopsAt (word ∷ []) at ((disk.content new).reading (other_slot gate.slot))) first (h.0.stops (on tells)) in
              short_in_other gate.slot.family gate.slot (disk.content new) [] 0 needed (length word) (λ n. n ≡ length word) refl
              (subst (λ (q : Place). IsCurrent q (disk.content new)) h.1.slot (h.1.current (on tells) (began.current tells))) stops.holds refl room stops.short;
        }

    pub word_refused : {T : Type 0} (own : Family) (e : GateError)
        → Because ⊥ (Faulted disk mid new) (λ needed limit. PassesLimit disk (other_slot gate.slot) (word ∷ []) mid new needed limit × KeepsList disk gate now mid new) (λ part offset. ⊥) e
        → WritesOne disk gate.slot.family {T = T} word old new (Err (refusal own e))
    word_refused own e why = record {
      goes_on = goes;
      images = images;
      spares = spares;
      written = λ tells. tt;
      slot = λ tells. tt;
      cleared = λ tells. tt;
      any_moment = run;
      kept = λ tells. kept_words disk law gate.slot.family word old new tells (run tells);
      refused = unwritten_why own e why;
    }
