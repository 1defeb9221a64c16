use Rattle.std.proofs.Common.{◌≡◌, ℕ, true, false, sym, ap, subst, ◌∙◌}
use Rattle.den_model.specs.Apply.{is_expired}
use Rattle.den_model.specs.MapState.{MapState}
use Rattle.den_model.specs.Table.{unset}
use Rattle.den_lease.specs.Due.{has_due}
use Rattle.den_map.specs.Cleanup.{cleaned_map}
use Rattle.den_map.specs.Held.{AreExpiriesOf}
use Rattle.den_map.proofs.Cleaning.{clean_one, clean_none, held_less}
use Rattle.den_map.proofs.map.Map.clean.Goals as goal

pub loop-expired-init : goal.loop-expired-init
loop-expired-init c = record {
  cleaned = ap (cleaned_map c.args.moment) c.self.view_is;
  held = c.self.invariant;
}

pub loop-expired-preserved : goal.loop-expired-preserved
loop-expired-preserved c =
    let x = c.loop-expired.self-inside.expiries in
    let p = c.loop-expired.self-inside.pairs in
    let m = c.args.moment in
    let s : MapState = record { pairs = p; expiries = x; mark = c.loop-expired.self-inside.mark } in
    let k = c.in-Some.expired.items in
    let expired : is_expired x m k ≡ true = ap (λ (n : ℕ). is_expired x n k) (sym c.get.ensures.is) ∙ c.in-Some.ensures.due in
    let gone : c.take_due.new.self ≡ unset x k = c.in-Some.ensures.taken in
    let less : c.remove.new.self ≡ unset p k = c.remove.ensures.rest ∙ ap (unset p) c.as_slice.ensures.value in
    let now : ◌≡◌ {A = MapState} (record { pairs = c.remove.new.self; expiries = c.take_due.new.self; mark = s.mark }) (record { pairs = unset p k; expiries = unset x k; mark = s.mark }) =
    λ i. record { pairs = less i; expiries = gone i; mark = s.mark } in
    record {
      cleaned = ap (cleaned_map m) now ∙ clean_one s m k c.in-Some.ensures.sorted c.remove.ensures.sorted expired ∙ c.loop-expired.invariant.cleaned;
      held = subst (λ (n : MapState). AreExpiriesOf n.pairs n.expiries) (sym now) (held_less x p k c.remove.ensures.sorted c.loop-expired.invariant.held);
    }

pub loop-expired-smaller : goal.loop-expired-smaller
loop-expired-smaller c = c.in-Some.ensures.fewer

pub returns : goal.returns
returns c =
    let x = c.loop-expired.self-inside.expiries in
    let p = c.loop-expired.self-inside.pairs in
    let m = c.args.moment in
    let s : MapState = record { pairs = p; expiries = x; mark = c.loop-expired.self-inside.mark } in
    let same : c.take_due.new.self ≡ x = c.in_default.ensures.none.0 in
    let none : has_due m x ≡ false = ap (λ (n : ℕ). has_due n x) (sym c.get.ensures.is) ∙ c.in_default.ensures.none.1 in
    let now : ◌≡◌ {A = MapState} (record { pairs = p; expiries = c.take_due.new.self; mark = s.mark }) s = λ i. record { pairs = p; expiries = same i; mark = s.mark } in
    now ∙ sym (clean_none s m none) ∙ c.loop-expired.invariant.cleaned
