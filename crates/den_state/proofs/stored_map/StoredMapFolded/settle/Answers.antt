use Rattle.std.proofs.Common.{◌≡◌, Some, sym, ap, subst, ◌∙◌}
use Rattle.den_model.specs.declared.region.StateRegion.{StateRegion}
use Rattle.den_model.specs.MapState.{map_after}
use Rattle.den_state.specs.Stored.{cleanup_of, map_by}
use Rattle.den_state.proofs.Marks.{begin_after, cleaned_by, mark_by}
use Rattle.den_state.proofs.stored_map.StoredMapFolded.settle.Goals as goal

pub returns-in-Begin-clause-settled : goal.returns-in-Begin-clause-settled
returns-in-Begin-clause-settled c =
    let m = c.args.self.now.map in
    let map : c.at.result ≡ map_by m (map_after m c.args.region) =
    c.at.ensures ∙ sym (ap (map_by m) (ap (map_after m) c.in-Begin.is ∙ begin_after m c.in-Begin.index c.in-Begin.term)) in
    λ i. record { map = map i; tail = c.tail_after-self.ensures i }

pub returns-in-Mark-clause-settled : goal.returns-in-Mark-clause-settled
returns-in-Mark-clause-settled c =
    let m = c.args.self.now.map in
    let next = map_by m (map_after m c.args.region) in
    let lawful = subst (λ (r : StateRegion). map_after m r ≡ Some next) c.in-Mark.is c.requires.lawful in
    let map : c.set_mark.new.self ≡ next = c.set_mark.ensures ∙ mark_by m next c.in-Mark.index c.in-Mark.term lawful in
    λ i. record { map = map i; tail = c.tail_after-self.ensures i }

pub returns-in-Some-clause-settled : goal.returns-in-Some-clause-settled
returns-in-Some-clause-settled c =
    let m = c.args.self.now.map in
    let cleaned = c.clean.ensures ∙ cleaned_by m c.in-Records.records c.in-Some.moment (sym (c.cleanup_of.ensures ∙ ap cleanup_of c.as_slice.ensures) ∙ c.in-Some.is) in
    let map : c.clean.new.self ≡ map_by m (map_after m c.args.region) = cleaned ∙ sym (ap (λ (r : StateRegion). map_by m (map_after m r)) c.in-Records.is) in
    λ i. record { map = map i; tail = c.tail_after-self.ensures i }
