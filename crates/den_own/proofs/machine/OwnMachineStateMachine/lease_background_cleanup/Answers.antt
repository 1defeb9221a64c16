use Rattle.std.proofs.Common.{◌≡◌, max, false, true, refl, ap, sym, subst, ◌∙◌}
use Rattle.std.specs.Prelude.{◌&&◌}
use Rattle.std.specs.List.Sorted.{IsStrictlySortedBy}
use Rattle.den_disk.specs.declared.place.Family.TheVariants.{State}
use Rattle.den_lease.specs.Due.{has_due}
use Rattle.den_model.specs.Table.{by_bytes}
use Rattle.den_state.proofs.Cleaning.{due_cleaned, nothing_cleaned, nothing_removed}
use Rattle.den_own.specs.Machines.{map_weight, stored_of}
use Rattle.den_own.proofs.Maps.{cleanup_lighter}
use Rattle.den_own.proofs.Unwritten.{makes, refuses}
use Rattle.den_own.proofs.machine.OwnMachineStateMachine.lease_background_cleanup.Goals as goal

pub returns-then-not-is_due-clause-writes : goal.returns-then-not-is_due-clause-writes
returns-then-not-is_due-clause-writes g c =
    let s = c.args.self.now in
    let moment : c.get.result ≡ max c.args.now 1 = c.get.ensures.is ∙ c.of-moment.ensures ∙ c.max.ensures in
    let none : (s.leased && has_due (max c.args.now 1) s.map.expiries) ≡ false = ap (λ n. s.leased && has_due n s.map.expiries) (sym moment) ∙ sym c.is_due.ensures ∙ c.if-not-is_due.true in
    makes g.D.Disk State _ s.failed map_weight (stored_of s) c.args._disk.now _ _ _ c.requires.stands.ready (sym (nothing_cleaned s.leased (max c.args.now 1) (stored_of s) none)) (cleanup_lighter s.leased (max c.args.now 1) (stored_of s))

pub returns-then-not-is_due-clause-cleaned : goal.returns-then-not-is_due-clause-cleaned
returns-then-not-is_due-clause-cleaned g c =
    let s = c.args.self.now in
    let moment : c.get.result ≡ max c.args.now 1 = c.get.ensures.is ∙ c.of-moment.ensures ∙ c.max.ensures in
    let none : (s.leased && has_due (max c.args.now 1) s.map.expiries) ≡ false = ap (λ n. s.leased && has_due n s.map.expiries) (sym moment) ∙ sym c.is_due.ensures ∙ c.if-not-is_due.true in
    sym (nothing_cleaned s.leased (max c.args.now 1) s.map none)

pub returns-then-not-is_due-clause-keys : goal.returns-then-not-is_due-clause-keys
returns-then-not-is_due-clause-keys g c =
    let s = c.args.self.now in
    let moment : c.get.result ≡ max c.args.now 1 = c.get.ensures.is ∙ c.of-moment.ensures ∙ c.max.ensures in
    let none : (s.leased && has_due (max c.args.now 1) s.map.expiries) ≡ false = ap (λ n. s.leased && has_due n s.map.expiries) (sym moment) ∙ sym c.is_due.ensures ∙ c.if-not-is_due.true in
    c.of.ensures ∙ c.new.ensures.items ∙ sym (nothing_removed s.leased (max c.args.now 1) s.map none)

pub returns-then-not-is_due-clause-sorted : goal.returns-then-not-is_due-clause-sorted
unfolding IsStrictlySortedBy
returns-then-not-is_due-clause-sorted g c = subst (IsStrictlySortedBy by_bytes) (sym (c.of.ensures ∙ c.new.ensures.items)) tt

pub returns-in_err-keys-clause-writes : goal.returns-in_err-keys-clause-writes
returns-in_err-keys-clause-writes g c = refuses g.D.Disk State _ c.args.self.now.failed map_weight (stored_of c.args.self.now) c.args._disk.now c.from_residual.result _ _ c.from_residual.ensures.1 c.requires.stands.ready refl

pub returns-clause-writes : goal.returns-clause-writes
returns-clause-writes g c =
    let s = c.args.self.now in
    let moment : c.get.result ≡ max c.args.now 1 = c.get.ensures.is ∙ c.of-moment.ensures ∙ c.max.ensures in
    let due : (s.leased && has_due (max c.args.now 1) s.map.expiries) ≡ true = ap (λ n. s.leased && has_due n s.map.expiries) (sym moment) ∙ sym c.is_due.ensures ∙ c.if-not-is_due.false in
    makes g.D.Disk State _ s.failed map_weight (stored_of s) c.args._disk.now _ _ _ c.requires.stands.ready
    ((λ i. record (c.clean.ensures i) { mark = s.stored }) ∙ due_cleaned s.leased (has_due (max c.args.now 1) s.map.expiries) _ (max c.args.now 1) (stored_of s) due (c.of-moment.ensures ∙ c.max.ensures))
    (cleanup_lighter s.leased (max c.args.now 1) (stored_of s))
