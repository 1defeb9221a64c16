use Rattle.std.specs.Option.{option_eq}
use Rattle.std.proofs.Common.{◌≡◌, nat_eq, ℕ, List, Option, Some, None, true, false, sym, ap, subst, ◌∙◌}
use Rattle.std.specs.Ordering.{is_eq, nat_cmp}
use Rattle.den_model.specs.Table.{Table, at}
use Rattle.den_table.proofs.Entries.{set_same}
use Rattle.den_table.proofs.Sorted.{IsSorted}
use Rattle.den_lease.specs.Scheduled.{IsScheduleOf, expires_at}
use Rattle.den_lease.proofs.Schedules.{Changes, changed, added, undone, moved, same_expiry, other_moment, other_expiry}
use Rattle.den_lease.proofs.expiries.Expiries.insert.Goals as goal

pub returns-then-eq-clause-ok : goal.returns-then-eq-clause-ok
returns-then-eq-clause-ok c =
    let had : c.get-old.result ≡ Some c.get.result = same_expiry c.get-old.result c.get.result (sym c.eq.ensures ∙ c.if-eq.true) in
    let held : at c.args.self.now c.args.key.now ≡ Some c.args.expiry = sym c.get-old.ensures ∙ had ∙ ap (λ n. Some n) c.get.ensures.is in
    sym (set_same c.args.self.now c.args.key.now c.args.expiry (subst (λ t. IsSorted t) c.self.view_is c.len-count.ensures.sorted) held)

pub invariant_of-self-in-Err : goal.invariant_of-self-in-Err
invariant_of-self-in-Err c =
    let t = c.self.inside.by_key in
    let s = c.self.inside.by_moment.keys in
    let k = c.args.key.now in
    let m = c.args.expiry in
    let n = c.insert.new.self.keys in
    let r = c.remove.new.self.keys in
    let put : Changes m k true s n = subst (λ (p : ℕ × List ℕ). Changes p.0 p.1 true s n) (λ i. (c.get-3.ensures.is i, c.in_ok-named.ensures.items i))
    (changed c.get-3.result c.in_ok-named.named.items true s n c.in_ok-insert.ensures.updates.3 c.in_ok-insert.ensures.updates.1) in
    let took : Changes m k false n r = subst (λ (p : ℕ × List ℕ). Changes p.0 p.1 false n r) (λ i. (c.get-2.ensures.is i, c.in_ok-from_slice.ensures.items i))
    (changed c.get-2.result c.in_ok-from_slice.field-0.items false n r c.remove.ensures.updates.3 c.remove.ensures.updates.1) in
    let had : c.get-old.result ≡ at t k = c.get-old.ensures ∙ ap (λ (u : Table ℕ). at u k) (sym c.self.view_is) in
    let other : expires_at t m k ≡ false = ap (λ (x : ℕ). expires_at t x k) (sym c.get.ensures.is) ∙ other_expiry t k c.get-old.result c.get.result had (sym c.eq.ensures ∙ c.if-eq.false) in
    subst (λ (u : Table ℕ). IsScheduleOf u r) (sym c.in-Err.ensures.err) (undone t s c.self.invariant k m n r other put took)

pub invariant_of-self-in-Some : goal.invariant_of-self-in-Some
invariant_of-self-in-Some c =
    let t = c.self.inside.by_key in
    let s = c.self.inside.by_moment.keys in
    let k = c.args.key.now in
    let m = c.args.expiry in
    let old = c.in-Some.old in
    let n = c.insert.new.self.keys in
    let r = c.remove-in-Some.new.self.keys in
    let put : Changes m k true s n = subst (λ (p : ℕ × List ℕ). Changes p.0 p.1 true s n) (λ i. (c.get-3.ensures.is i, c.in_ok-named.ensures.items i))
    (changed c.get-3.result c.in_ok-named.named.items true s n c.in_ok-insert.ensures.updates.3 c.in_ok-insert.ensures.updates.1) in
    let took : Changes old k false n r = subst (λ (l : List ℕ). Changes old l false n r) c.in_ok-from_slice.ensures.items
    (changed old c.in_ok-from_slice.field-0.items false n r c.remove-in-Some.ensures.updates.3 c.remove-in-Some.ensures.updates.1) in
    let had : c.get-old.result ≡ at t k = c.get-old.ensures ∙ ap (λ (u : Table ℕ). at u k) (sym c.self.view_is) in
    let held : at t k ≡ Some old = sym had ∙ c.in-Some.is in
    let other : is_eq (nat_cmp m old) ≡ false = ap (λ (x : ℕ). is_eq (nat_cmp x old)) (sym c.get.ensures.is)
    ∙ other_moment old c.get.result (subst (λ (o : Option ℕ). option_eq nat_eq o (Some c.get.result) ≡ false) c.in-Some.is (sym c.eq.ensures ∙ c.if-eq.false)) in
    subst (λ (u : Table ℕ). IsScheduleOf u r) (sym c.in_default.ensures.ok) (moved t s c.self.invariant k old m n r held other put took)

pub invariant_of-self-in-None-1 : goal.invariant_of-self-in-None-1
invariant_of-self-in-None-1 c =
    let t = c.self.inside.by_key in
    let s = c.self.inside.by_moment.keys in
    let k = c.args.key.now in
    let m = c.args.expiry in
    let n = c.insert.new.self.keys in
    let put : Changes m k true s n = subst (λ (p : ℕ × List ℕ). Changes p.0 p.1 true s n) (λ i. (c.get-3.ensures.is i, c.in_ok-named.ensures.items i))
    (changed c.get-3.result c.in_ok-named.named.items true s n c.in_ok-insert.ensures.updates.3 c.in_ok-insert.ensures.updates.1) in
    let had : c.get-old.result ≡ at t k = c.get-old.ensures ∙ ap (λ (u : Table ℕ). at u k) (sym c.self.view_is) in
    let none : at t k ≡ None = sym had ∙ c.in_default-old.is in
    subst (λ (u : Table ℕ). IsScheduleOf u n) (sym c.in_default.ensures.ok) (added t s c.self.invariant k m n none put)
