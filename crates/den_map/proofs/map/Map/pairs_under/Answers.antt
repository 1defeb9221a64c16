use Rattle.std.proofs.Common.{◌≡◌, ◌++◌, [], true, ℕ, List, filter, sym, ap, subst, ◌∙◌}
use Rattle.std.specs.Global.{Vec}
use Rattle.std.specs.List.Sorted.{IsStrictlySortedBy}
use Rattle.std.specs.Ordering.{is_le}
use Rattle.std.proofs.lemmas.List.{append-nil}
use Rattle.den_model.specs.declared.held.Held.{Held}
use Rattle.den_model.specs.declared.reply.KvEntry.{KvEntry}
use Rattle.den_model.specs.MapState.{MapState}
use Rattle.den_model.specs.Step.{begins_with, pairs_under}
use Rattle.den_model.specs.Table.{Table, by_bytes}
use Rattle.den_table.specs.Keyed.{keyed}
use Rattle.den_table.proofs.Sorted.{IsSorted, sorted_filter}
use Rattle.den_map.specs.Scan.{keys_in}
use Rattle.den_map.proofs.Scanning.{AllFrom, all_from, keys_of_pairs, next_under, over, pushed, rest_from, rest_sorted, under_from}
use Rattle.den_map.proofs.map.Map.pairs_under.Goals as goal
use Rattle.den_map.proofs.map.Map.pairs_under.Goals.{in-None, in-Some+then-not-begins_with}

pub loop-key-init : goal.loop-key-init
loop-key-init c =
    let t = c.self.inside.pairs in
    let prefix = c.args.prefix.now in
    let it = c.into_iter-key-iterator.result in
    let shown : keyed it ≡ filter (λ (e : List ℕ × Held). is_le (by_bytes prefix e.0)) t =
    ap keyed c.into_iter-key-iterator.ensures.into_iter_gives ∙ c.iter_from-key-items.ensures.entries ∙ λ i. filter (λ (e : List ℕ × Held). is_le (by_bytes (c.in_ok-start.ensures.items i) e.0)) t in
    record {
      pairs = rw c.new-pairs.ensures.items (ap (λ (u : Table Held). pairs_under u prefix) shown ∙ under_from t prefix ∙ ap (λ (m : MapState). pairs_under m.pairs prefix) c.self.view_is);
      sorted = subst (λ (u : Table Held). IsSorted u) (sym shown) (sorted_filter (λ (e : List ℕ × Held). is_le (by_bytes prefix e.0)) t c.iter_from-key-items.ensures.sorted);
      from = subst (AllFrom prefix) (sym shown) (all_from prefix t);
    }

pub loop-key-preserved : goal.loop-key-preserved
loop-key-preserved c =
    let prefix = c.args.prefix.now in
    let es = c.loop-key.key-iterator in
    let rest = c.next.new.self in
    let e : Vec ℕ × Held = (c.in-Some.key.now, c.in-Some.held.now) in
    let begins : begins_with e.0.items prefix ≡ true = ap (λ (k : List ℕ). begins_with k prefix) (sym c.as_slice.ensures.value) ∙ sym c.begins_with.ensures ∙ c.if-not-begins_with.false in
    let next = next_under es rest e prefix c.in-Some.ensures.steps begins in
    record {
      pairs = rw c.in_ok-push.ensures.items
          (pushed c.loop-key.pairs.items _ (record { key = e.0.items; value = e.1.value }) (pairs_under (keyed rest) prefix) _ (c.in_ok-of.ensures ∙ c.as_slice-in-loop-key.ensures.value) c.in_ok-copy.ensures
          (ap (λ (l : List KvEntry). c.loop-key.pairs.items ++ l) (sym next) ∙ c.loop-key.invariant.pairs));
      sorted = rest_sorted es rest e c.in-Some.ensures.steps prefix c.loop-key.invariant.sorted;
      from = rest_from es rest e c.in-Some.ensures.steps prefix c.loop-key.invariant.from;
    }

pub returns-clause-pairs : goal.returns-clause-pairs
returns-clause-pairs c =
    let prefix = c.args.prefix.now in
    let es = c.loop-key.key-iterator in
    let none : pairs_under (keyed es) prefix ≡ [] = elim c.match-next.branch [
      | in-None w ↦ ap (λ (l : List (Vec ℕ × Held)). pairs_under (keyed l) prefix) w.in-None.ensures.steps.0
      | in-Some+then-not-begins_with w ↦ over es c.next.new.self (w.in-Some.key.now, w.in-Some.held.now) w.in-Some.ensures.steps prefix c.loop-key.invariant.sorted c.loop-key.invariant.from
          (ap (λ (k : List ℕ). begins_with k prefix) (sym w.as_slice.ensures.value) ∙ sym w.begins_with.ensures ∙ w.if-not-begins_with.true)
    ] in
    c.of-2.ensures ∙ sym (append-nil c.loop-key.pairs.items) ∙ ap (λ (l : List KvEntry). c.loop-key.pairs.items ++ l) (sym none) ∙ c.loop-key.invariant.pairs

pub returns-clause-sorted : goal.returns-clause-sorted
returns-clause-sorted c =
    let t = c.args.self.now.pairs in
    let prefix = c.args.prefix.now in
    let is : c.of-2.result ≡ pairs_under t prefix = returns-clause-pairs c in
    let kept = sorted_filter (λ (p : List ℕ × Held). begins_with p.0 prefix) t (subst (λ (m : MapState). IsSorted m.pairs) c.self.view_is c.iter_from-key-items.ensures.sorted) in
    subst (IsStrictlySortedBy by_bytes) (sym (ap keys_in is ∙ keys_of_pairs (filter (λ (p : List ℕ × Held). begins_with p.0 prefix) t))) kept
