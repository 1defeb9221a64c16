use Rattle.std.proofs.Common.{◌≡◌, ◌≤◌, ◌+◌, ℕ, List, [], ◌∷◌, ◌++◌, length, IsTrue, Some, Ok, inl, max, ◌*◌, refl, ◌∙◌, sym, ap, subst, arith}
use Rattle.den_disk.specs.declared.place.Place.{Place}
use Rattle.den_disk.specs.Files.{Kind}
use Rattle.den_codec.specs.declared.error.Error.{Error}
use Rattle.den_model.specs.Regions.{placed}
use Rattle.den_model.specs.Image.{slot_of}
use Rattle.den_gate.specs.Gate.{payloads}
use Rattle.den_journal.specs.Lies.{gives_hold}
use Rattle.den_gate.specs.Slot.{room_for}
use Rattle.den_journal.specs.Journals.{region_change}
use Rattle.den_journal.specs.Refused.{refusal}
use Rattle.den_journal.specs.Causes.{IsRoomOf, IsTooShort}
use Rattle.den_journal.specs.Shown.{shown_of, held_in, rewrite_size}
use Rattle.den_journal.specs.Writes.{IsRefused}
use Rattle.den_journal.proofs.Full.{refused_by, short_in_use}
use Rattle.den_journal.proofs.Joins.{grows}
use Rattle.den_journal.proofs.Moving.{moves_by, writes_lost, writes_refused}
use Rattle.den_journal.proofs.journal.Journal.change.Goals as goal

-- a region more, and the value that grew by no more than its word
changed_weight : (end now size more word rise : ℕ) → now ≡ end + (9 + word) → more ≤ size + word → 9 + 2 * word ≤ rise → max now (rewrite_size more) ≤ max end (rewrite_size size) + rise
changed_weight end now size more word rise is le rises = omega arith

room_in : (needed end word size rise : ℕ) → needed ≡ room_for end word → word ≤ rise → IsRoomOf (max end (rewrite_size size) + rise) needed
room_in needed end word size rise is le = record { size = end + word; within = omega arith; room = omega arith }

pub returns-in_err-write-clause-writes : goal.returns-in_err-write-clause-writes
returns-in_err-write-clause-writes g c =
    let F = g.F.Folded in
    let D = g.D.Disk in
    let d = c.args.disk.now in
    let j = c.args.self.now in
    let v = F.value j.held in
    writes_refused D F.FAMILY (held_in F.FAMILY (F.from F.empty)) _ _ _ d c.requires.stands.ready c.requires.stands.rests
    (λ tells told files i. gives_hold F.FAMILY (F.from F.empty) j.gate v (D.content d) files (c.requires.stands.rests tells) ((g.met.D.Disk.images_now d files tells).0 i))
    c.from_residual.result c.from_residual.ensures.1 refl refl

pub returns-in_err-make_room-clause-writes : goal.returns-in_err-make_room-clause-writes
returns-in_err-make_room-clause-writes g c =
    let F = g.F.Folded in
    let D = g.D.Disk in
    let d = c.args.disk.now in
    let j = c.args.self.now in
    let v = F.value j.held in
    writes_refused D F.FAMILY (held_in F.FAMILY (F.from F.empty)) _ _ _ d c.requires.stands.ready
    (λ tells. let r = c.requires.stands.rests tells in
    record { family_is = r.family_is; at_rest = r.at_rest; current = r.current; means = r.means ∙ ap (λ x. Ok x) (sym c.make_room.ensures.same) })
    (λ tells told files i. gives_hold F.FAMILY (F.from F.empty) j.gate v (D.content d) files (c.requires.stands.rests tells) ((g.met.D.Disk.images_now d files tells).0 i))
    c.from_residual-in_err-make_room.result c.from_residual-in_err-make_room.ensures.1 c.make_room.ensures.same (ap (λ x. max j.gate.end (rewrite_size (F.size x))) c.make_room.ensures.same)

pub returns-in_ok-settle-in-Ok-clause-writes : goal.returns-in_ok-settle-in-Ok-clause-writes
returns-in_ok-settle-in-Ok-clause-writes g c =
    let F = g.F.Folded in
    let D = g.D.Disk in
    let d = c.args.disk.now in
    let new = c.append.new.disk in
    let j = c.args.self.now in
    let v = F.value j.held in
    let w = F.changed v c.args.region in
    let p = c.as_slice.result.now in
    let list = payloads j.gate (D.content d).reading in
    let word : p ≡ g.F.Region.Word.word c.args.region = c.as_slice.ensures.value ∙ c.in_ok-write.ensures.ok ∙ ap (λ (x : List ℕ). x ++ g.F.Region.Word.word c.args.region) c.clear.ensures.items in
    let next : F.after v p ≡ Some w = ap (F.after v) word ∙ g.met.F.Folded.again v c.args.region c.requires.lawful c.in_ok-write.ensures.fits in
    let value : F.value c.settle.new.self ≡ w = c.in_ok-settle-in-Ok.ensures.settled ∙ ap (λ x. F.changed x c.args.region) c.make_room.ensures.same in
    record {
      goes_on = c.append.ensures.disk;
      moves = λ tells. let r = c.requires.stands.rests tells in
          moves_by D F.FAMILY (F.from F.empty) j.gate.slot list p v w d new r.family_is r.means (grows F.after F.from g.met.F.Folded.folds F.empty list p v w r.means next)
          (c.append.ensures.family tells r.current) (c.append.ensures.images tells) (c.append.ensures.others tells);
      done = record {
        value = value;
        weight = changed_weight j.gate.end c.append.new.self.end (F.size v) (F.size (F.value c.settle.new.self)) (length p) (F.rise c.args.region) c.in-Ok.ensures.end
            (omega (arith, ap F.size value, ap length word, g.met.F.Folded.sized v c.args.region c.requires.lawful c.in_ok-write.ensures.fits)) (subst (λ x. 9 + 2 * length x ≤ F.rise c.args.region) (sym word) (g.met.F.Folded.rises c.args.region));
        ready = (refl, c.in-Ok.ensures.ready);
        rests = λ tells. let r = c.requires.stands.rests tells in
            record {
              family_is = ap (λ (q : Place). q.family) c.append.ensures.slot ∙ r.family_is;
              at_rest = c.in-Ok.ensures.at_rest tells;
              current = c.append.ensures.current tells r.current;
              means = ap (λ ps. F.from F.empty (placed 0 ps)) (c.in-Ok.ensures.appended tells) ∙ grows F.after F.from g.met.F.Folded.folds F.empty list p v w r.means next ∙ ap (λ x. Ok x) (sym value);
            };
      };
      refused = tt;
    }

pub returns-in_err-settle-in-Ok-clause-writes : goal.returns-in_err-settle-in-Ok-clause-writes
returns-in_err-settle-in-Ok-clause-writes g c =
    let F = g.F.Folded in
    let D = g.D.Disk in
    let d = c.args.disk.now in
    let new = c.append.new.disk in
    let j = c.args.self.now in
    let v = F.value j.held in
    let w = F.changed v c.args.region in
    let p = c.as_slice.result.now in
    let list = payloads j.gate (D.content d).reading in
    let word : p ≡ g.F.Region.Word.word c.args.region = c.as_slice.ensures.value ∙ c.in_ok-write.ensures.ok ∙ ap (λ (x : List ℕ). x ++ g.F.Region.Word.word c.args.region) c.clear.ensures.items in
    let next : F.after v p ≡ Some w = ap (F.after v) word ∙ g.met.F.Folded.again v c.args.region c.requires.lawful c.in_ok-write.ensures.fits in
    writes_lost D F.FAMILY (held_in F.FAMILY (F.from F.empty)) _ _ _ d new c.from_residual-in_err-settle-in-Ok.result c.from_residual-in_err-settle-in-Ok.ensures.1 c.append.ensures.disk
    (λ tells. let r = c.requires.stands.rests tells in
    moves_by D F.FAMILY (F.from F.empty) j.gate.slot list p v w d new r.family_is r.means (grows F.after F.from g.met.F.Folded.folds F.empty list p v w r.means next)
    (c.append.ensures.family tells r.current) (c.append.ensures.images tells) (c.append.ensures.others tells))
    (record {
      may_be = c.in_err-settle-in-Ok.ensures.lost refl;
      failed = λ ready. absurd (cc (ready.0));
      held = λ tells told files i. let r = c.requires.stands.rests tells in
          let still = subst (λ (k : Kind). IsTrue k.tells) (sym c.append.ensures.disk.same) tells in
          gives_hold F.FAMILY (F.from F.empty) c.append.new.self w (D.content new) files
          (record {
            family_is = ap (λ (q : Place). q.family) c.append.ensures.slot ∙ r.family_is;
            at_rest = c.in-Ok.ensures.at_rest tells;
            current = c.append.ensures.current tells r.current;
            means = ap (λ ps. F.from F.empty (placed 0 ps)) (c.in-Ok.ensures.appended tells) ∙ grows F.after F.from g.met.F.Folded.folds F.empty list p v w r.means next;
          })
          ((g.met.D.Disk.images_now new files still).0 i);
    })

pub returns-in-Err-clause-writes : goal.returns-in-Err-clause-writes
returns-in-Err-clause-writes g c =
    let F = g.F.Folded in
    let D = g.D.Disk in
    let d = c.args.disk.now in
    let new = c.append.new.disk in
    let j = c.args.self.now in
    let v = F.value j.held in
    let w = F.changed v c.args.region in
    let p = c.as_slice.result.now in
    let list = payloads j.gate (D.content d).reading in
    let was = shown_of F.FAMILY (F.from F.empty) F.size j.failed j.gate v in
    let now = shown_of F.FAMILY (F.from F.empty) F.size j.failed c.append.new.self (F.value c.make_room.new.self) in
    let word : p ≡ g.F.Region.Word.word c.args.region = c.as_slice.ensures.value ∙ c.in_ok-write.ensures.ok ∙ ap (λ (x : List ℕ). x ++ g.F.Region.Word.word c.args.region) c.clear.ensures.items in
    let next : F.after v p ≡ Some w = ap (F.after v) word ∙ g.met.F.Folded.again v c.args.region c.requires.lawful c.in_ok-write.ensures.fits in
    let change = region_change F v c.args.region (g.F.Region.Word.word c.args.region) in
    let held = held_in F.FAMILY (F.from F.empty) in
    let size : length p ≡ length (g.F.Region.Word.word c.args.region) = ap length word in
    let rises = g.met.F.Folded.rises c.args.region in
    record {
      goes_on = c.append.ensures.disk;
      moves = λ tells. let r = c.requires.stands.rests tells in
          moves_by D F.FAMILY (F.from F.empty) j.gate.slot list p v w d new r.family_is r.means (grows F.after F.from g.met.F.Folded.folds F.empty list p v w r.means next)
          (c.append.ensures.family tells r.current) (c.append.ensures.images tells) (c.append.ensures.others tells);
      done = tt;
      refused = subst (λ (e : Error). IsRefused D was now d new F.FAMILY held change e) (sym (c.refusal.ensures ∙ ap (λ f. refusal f c.in-Err.error) c.FAMILY.ensures))
          (refused_by D was now d new F.FAMILY held change _ c.in-Err.error (λ ready. absurd (cc (c.in-Err.ensures.failed refl, ready.1))) (inl c.make_room.ensures.same)
          (λ needed limit h. (h.1, h.2, h.3))
          (λ needed limit h. (
            room_in needed j.gate.end (length p) (F.size v) (F.rise c.args.region) h.0 (omega (arith, size, rises)),
            λ t. let r = c.requires.stands.rests t.0 in
                inl (subst (λ k. IsTooShort (slot_of F.FAMILY k.reading) change.adds needed k.reading) (sym (h.5 t.0).1.content_same)
                (short_in_use F.FAMILY j.gate (D.content d) needed (length p) change.adds r.family_is r.at_rest r.current size h.0 (h.5 t.0).0)),
          )) c.in-Err.ensures.refused);
    }

pub returns-in_ok-settle-in-Ok-clause-appended : goal.returns-in_ok-settle-in-Ok-clause-appended
returns-in_ok-settle-in-Ok-clause-appended g c = λ tells.
    let list = payloads c.args.self.now.gate (g.D.Disk.content c.args.disk.now).reading in
    let p = c.as_slice.result.now in
    let word : p ≡ g.F.Region.Word.word c.args.region = c.as_slice.ensures.value ∙ c.in_ok-write.ensures.ok ∙ ap (λ (x : List ℕ). x ++ g.F.Region.Word.word c.args.region) c.clear.ensures.items in
    c.in-Ok.ensures.appended tells ∙ ap (λ (x : List ℕ). list ++ x ∷ []) word
