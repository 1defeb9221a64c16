use Rattle.std.proofs.Common.{◌≡◌, true, false, rules}
use Rattle.std.specs.Prelude.{nat_lt, nat_le}
use Rattle.std.specs.List.Sorted.{IsPartitionPoint}
use Rattle.std.proofs.lemmas.Bool.{le-ltb, lt-ltb, leb-true, leb-false}
use Rattle.std.proofs.lemmas.List.Sorted.{IsPartitionPoint-from_clause, IsPartitionedBy-leb}
use Rattle.den_model.specs.Entries.{LogEntry}
use Rattle.den_store.proofs.Rising.{non_decreasing, front, rest}
use Rattle.den_store.proofs.held_log.count_to.Goals as goal

pub returns-clause-front : goal.returns-clause-front
returns-clause-front c =
    let i = c.args.index in
    let es = c.args.entries.now in
    let at : IsPartitionPoint (λ (e : LogEntry). nat_le e.index i ≡ true) (λ (e : LogEntry). nat_le e.index i ≡ false) es c.partition_point.result =
    IsPartitionPoint-from_clause (λ (e : LogEntry). nat_le e.index i) es c.partition_point.result c.partition_point.ensures.partitioned
    (IsPartitionedBy-leb (λ (e : LogEntry). e.index) es i (non_decreasing 0 es c.requires)) (λ a r f called. search rules) in
    front (λ (e : LogEntry). nat_le e.index i) es c.partition_point.result c.partition_point.ensures.bound at.0 at.1

pub returns-clause-rest : goal.returns-clause-rest
returns-clause-rest c =
    let i = c.args.index in
    let es = c.args.entries.now in
    let at : IsPartitionPoint (λ (e : LogEntry). nat_le e.index i ≡ true) (λ (e : LogEntry). nat_le e.index i ≡ false) es c.partition_point.result =
    IsPartitionPoint-from_clause (λ (e : LogEntry). nat_le e.index i) es c.partition_point.result c.partition_point.ensures.partitioned
    (IsPartitionedBy-leb (λ (e : LogEntry). e.index) es i (non_decreasing 0 es c.requires)) (λ a r f called. search rules) in
    rest (λ (e : LogEntry). nat_lt i e.index) es c.partition_point.result c.partition_point.ensures.bound
    (λ k d low high. le-ltb i _ (leb-true _ i (at.0 k d low high))) (λ k d low high. lt-ltb i _ (leb-false _ i (at.1 k d low high)))
