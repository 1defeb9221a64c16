use Rattle.std.proofs.Common.{◌≡◌, ◌∙◌, ◌++◌, ◌+◌, ℕ, List, [], ◌∷◌, length, map, option_copied, sym, ap, subst, length-append, arith}
use Rattle.std.specs.Global.{Vec}
use Rattle.den_model.specs.declared.held.Held.{Held}
use Rattle.den_model.specs.declared.region.StoredPair.{StoredPair}
use Rattle.den_table.specs.Keyed.{keyed, behind}
use Rattle.den_map.specs.Pages.{IsPage, stored}
use Rattle.den_map.proofs.Paging.{behind_front, page_full, page_last, page_pushed, size_more}
use Rattle.den_map.proofs.map.Map.page.Goals as goal
use Rattle.den_map.proofs.map.Map.page.Goals.{in-None-2, in-Some-2+then-not-is_empty+then-size-gt-LIMIT, else-not-is_empty-via-then-not-is_empty+else-size-gt-LIMIT, else-not-is_empty-via-else-not-is_empty}

pub loop-key-preserved : goal.loop-key-preserved
loop-key-preserved c =
    let x = c.args.self.now.expiries in
    let before = c.loop-key.pairs.items in
    let rest = c.next.new.self in
    let e : Vec ℕ × Held = (c.in-Some-2.key.now, c.in-Some-2.held.now) in
    let p : StoredPair = stored x (e.0.items, e.1) in
    let pushed : c.push.new.self.items ≡ before ++ c.in_ok-stored.field-0 ∷ [] = c.in_ok-push.ensures.items in
    let pair : c.in_ok-stored.field-0 ≡ p = c.in_ok-stored.ensures ∙ ap (λ (k : List ℕ). stored x (k, e.1)) c.as_slice-in-loop-key-3.ensures.value in
    record {
      pairs = rw pushed
          (page_pushed before (map (stored x) (keyed rest)) _ c.in_ok-stored.field-0 p pair
          (ap (λ (l : List (Vec ℕ × Held)). before ++ map (stored x) (keyed l)) (sym c.in-Some-2.ensures.steps) ∙ c.loop-key.invariant.pairs));
      size = rw (pushed, pair) (size_more c.loop-key.size c.pair_size.result c.saturating_add-size.result before p c.as_slice-in-loop-key.result.now c.as_slice-in-loop-key-2.result.now
          c.as_slice-in-loop-key.ensures.value c.as_slice-in-loop-key-2.ensures c.loop-key.invariant.size c.pair_size.ensures c.saturating_add-size.ensures);
      small = λ two. elim c.else-not-is_empty.branch [
        | else-not-is_empty-via-then-not-is_empty+else-size-gt-LIMIT w ↦ omega (arith, w.if-size-gt-LIMIT.false)
        | else-not-is_empty-via-else-not-is_empty w ↦
            let one : length c.push.new.self.items ≡ length before + 1 = ap length pushed ∙ length-append before (c.in_ok-stored.field-0 ∷ []) in
            absurd (grind (arith, two, one, w.if-not-is_empty.false, c.is_empty.ensures))
      ];
    }

pub returns-clause-any_key : goal.returns-clause-any_key
returns-clause-any_key c =
    let t = c.args.self.now.pairs in
    let x = c.args.self.now.expiries in
    let page = c.loop-key.pairs.items in
    let it = c.loop-key.key-iterator in
    let left = map (stored x) (behind (option_copied c.args.behind) t) in
    let parts : page ++ map (stored x) (keyed it) ≡ left = c.loop-key.invariant.pairs in
    subst (IsPage left) (sym c.of.ensures) (elim c.match-next.branch [
      | in-None-2 w ↦ page_last left page c.loop-key.size (ap (λ (l : List (Vec ℕ × Held)). page ++ map (stored x) (keyed l)) (sym w.in-None-2.ensures.steps.0) ∙ parts) c.loop-key.invariant.size c.loop-key.invariant.small
      | in-Some-2+then-not-is_empty+then-size-gt-LIMIT w ↦
          let e : Vec ℕ × Held = (w.in-Some-2.key.now, w.in-Some-2.held.now) in
          let p : StoredPair = stored x (e.0.items, e.1) in
          page_full left page (map (stored x) (keyed c.next.new.self)) p c.loop-key.size w.saturating_add-size.result
          (ap (λ (l : List (Vec ℕ × Held)). page ++ map (stored x) (keyed l)) (sym w.in-Some-2.ensures.steps) ∙ parts) c.loop-key.invariant.size c.loop-key.invariant.small
          (grind (arith, w.if-not-is_empty.true, w.is_empty.ensures))
          (size_more c.loop-key.size w.pair_size.result w.saturating_add-size.result page p w.as_slice-in-loop-key.result.now w.as_slice-in-loop-key-2.result.now
          w.as_slice-in-loop-key.ensures.value w.as_slice-in-loop-key-2.ensures c.loop-key.invariant.size w.pair_size.ensures w.saturating_add-size.ensures)
          w.if-size-gt-LIMIT.true
    ])

pub returns-clause-page : goal.returns-clause-page
returns-clause-page c = λ front left is_all is_last.
    let t = c.args.self.now.pairs in
    let x = c.args.self.now.expiries in
    let behind_it : map (stored x) (behind (option_copied c.args.behind) t) ≡ left = ap (λ k. map (stored x) (behind k t)) is_last ∙ behind_front x left front t c.pairs_behind-key-items.ensures.sound.sorted is_all in
    subst (λ (l : List StoredPair). IsPage l c.of.result) behind_it (returns-clause-any_key c)
