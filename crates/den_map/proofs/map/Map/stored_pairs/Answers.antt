use Rattle.std.proofs.Common.{◌≡◌, ◌∙◌, ◌++◌, ℕ, List, map, sym, ap}
use Rattle.std.specs.Global.{Vec}
use Rattle.std.proofs.lemmas.List.{append-nil}
use Rattle.den_model.specs.declared.held.Held.{Held}
use Rattle.den_model.specs.declared.region.StoredPair.{StoredPair}
use Rattle.den_table.specs.Keyed.{keyed}
use Rattle.den_map.specs.Pages.{stored}
use Rattle.den_map.proofs.Paging.{page_pushed}
use Rattle.den_map.proofs.map.Map.stored_pairs.Goals as goal

pub loop-key-preserved : goal.loop-key-preserved
loop-key-preserved c =
    let x = c.args.self.now.expiries in
    let before = c.loop-key.pairs.items in
    let rest = c.next.new.self in
    let e : Vec ℕ × Held = (c.in-Some.key.now, c.in-Some.held.now) in
    let p : StoredPair = stored x (e.0.items, e.1) in
    let pair : c.in_ok-stored.field-0 ≡ p = c.in_ok-stored.ensures ∙ ap (λ (k : List ℕ). stored x (k, e.1)) c.as_slice.ensures.value in
    rw c.in_ok-push.ensures.items
    (page_pushed before (map (stored x) (keyed rest)) _ c.in_ok-stored.field-0 p pair
    (ap (λ (l : List (Vec ℕ × Held)). before ++ map (stored x) (keyed l)) (sym c.in-Some.ensures.steps) ∙ c.loop-key.invariant))

pub returns-clause-pairs : goal.returns-clause-pairs
returns-clause-pairs c =
    let x = c.args.self.now.expiries in
    let pairs = c.loop-key.pairs.items in
    c.of.ensures ∙ sym (append-nil pairs) ∙ ap (λ (l : List (Vec ℕ × Held)). pairs ++ map (stored x) (keyed l)) (sym c.in-None.ensures.steps.0) ∙ c.loop-key.invariant
