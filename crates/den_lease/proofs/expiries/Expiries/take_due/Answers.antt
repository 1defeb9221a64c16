use Rattle.std.proofs.Common.{◌≡◌, ℕ, List, [], Some, false, true, length, true≢false, sym, ap, subst, ◌∙◌, ◌<◌}
use Rattle.std.specs.Global.{Vec}
use Rattle.std.specs.List.{All}
use Rattle.std.specs.Ordering.{is_gt}
use Rattle.den_model.specs.Apply.{is_expired}
use Rattle.den_model.specs.Table.{Table, at, unset}
use Rattle.den_table.proofs.Sorted.{IsSorted}
use Rattle.den_lease.specs.Due.{has_due}
use Rattle.den_lease.specs.Scheduled.{IsScheduleOf}
use Rattle.den_lease.proofs.Kept.{fewer_without}
use Rattle.den_lease.proofs.Schedules.{Changes, by_entry, changed, entry_held, first_is_due, least_of, none_scheduled, nothing, removed}
use Rattle.den_lease.proofs.expiries.Expiries.take_due.Goals as goal

pub returns-in_err-key-clause-none : goal.returns-in_err-key-clause-none
returns-in_err-key-clause-none c =
    let t = c.self.inside.by_key in
    let s = c.self.inside.by_moment.keys in
    let empty : s ≡ [] = nothing s c.in_err-key.ensures.variant.1 in
    let no : has_due c.args.moment t ≡ false = none_scheduled t s c.args.moment c.self.invariant c.len-count.ensures.sorted empty in
    let due : has_due c.args.moment t ≡ true = ap (has_due c.args.moment) c.self.view_is ∙ sym c.has_due.ensures ∙ c.if-not-has_due.false in
    absurd (true≢false (sym due ∙ no))

pub invariant_of-self-2 : goal.invariant_of-self-2
invariant_of-self-2 c =
    let t = c.self.inside.by_key in
    let s = c.self.inside.by_moment.keys in
    let first : ℕ × Vec ℕ = (c.in_ok-key.field-0-0, c.in_ok-key.key) in
    let n = c.pop_first.new.self.keys in
    let k = c.in_ok-key.key.items in
    let held : at t k ≡ Some first.0 = entry_held t s first c.self.invariant c.in_ok-key.ensures.member in
    let took : Changes first.0 k false s n = changed first.0 k false s n c.in_ok-key.ensures.updates.3 c.in_ok-key.ensures.updates.1 in
    let rest : c.remove.new.self ≡ unset t k = c.remove.ensures.rest ∙ ap (unset t) c.as_slice.ensures.value in
    subst (λ (u : Table ℕ). IsScheduleOf u n) (sym rest) (removed t s c.self.invariant k first.0 n c.len-count.ensures.sorted held took)

pub returns-clause-due : goal.returns-clause-due
returns-clause-due c =
    let t = c.self.inside.by_key in
    let s = c.self.inside.by_moment.keys in
    let first : ℕ × Vec ℕ = (c.in_ok-key.field-0-0, c.in_ok-key.key) in
    let n = c.pop_first.new.self.keys in
    let least : All (λ e. is_gt (by_entry first e) ≡ false) s = subst (λ (xs : List (ℕ × Vec ℕ)). All (λ e. is_gt (by_entry first e) ≡ false) xs) (sym c.in_ok-key.ensures.removal) (least_of first n c.in_ok-key.ensures.all_above) in
    let due : has_due c.args.moment t ≡ true = ap (has_due c.args.moment) c.self.view_is ∙ sym c.has_due.ensures ∙ c.if-not-has_due.false in
    ap (λ (u : Table ℕ). is_expired u c.args.moment c.in_ok-key.key.items) (sym c.self.view_is)
    ∙ first_is_due t s first c.args.moment c.self.invariant c.len-count.ensures.sorted least c.in_ok-key.ensures.member due

pub returns-clause-fewer : goal.returns-clause-fewer
returns-clause-fewer c =
    let t = c.self.inside.by_key in
    let s = c.self.inside.by_moment.keys in
    let first : ℕ × Vec ℕ = (c.in_ok-key.field-0-0, c.in_ok-key.key) in
    let n = c.pop_first.new.self.keys in
    let k = c.in_ok-key.key.items in
    let least : All (λ e. is_gt (by_entry first e) ≡ false) s = subst (λ (xs : List (ℕ × Vec ℕ)). All (λ e. is_gt (by_entry first e) ≡ false) xs) (sym c.in_ok-key.ensures.removal) (least_of first n c.in_ok-key.ensures.all_above) in
    let due : has_due c.args.moment t ≡ true = ap (has_due c.args.moment) c.self.view_is ∙ sym c.has_due.ensures ∙ c.if-not-has_due.false in
    let expired : is_expired t c.args.moment k ≡ true = first_is_due t s first c.args.moment c.self.invariant c.len-count.ensures.sorted least c.in_ok-key.ensures.member due in
    let rest : c.remove.new.self ≡ unset t k = c.remove.ensures.rest ∙ ap (unset t) c.as_slice.ensures.value in
    let fewer : length (unset t k) < length t = fewer_without t c.args.moment k expired in
    subst (λ (n : ℕ). n < length c.args.self.now) (ap (λ (u : Table ℕ). length u) (sym rest)) (subst (λ (u : Table ℕ). length (unset t k) < length u) c.self.view_is fewer)

pub returns-clause-sorted : goal.returns-clause-sorted
returns-clause-sorted c = subst (λ t. IsSorted t) c.self.view_is c.len-count.ensures.sorted
