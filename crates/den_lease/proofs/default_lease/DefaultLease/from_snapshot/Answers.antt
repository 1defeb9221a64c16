use Rattle.std.proofs.Common.{◌∙◌, sym, ap, Option, [], ℕ}
use Rattle.std.specs.Option.{unwrap_or}
use Rattle.den_model.specs.Table.{Table}
use Rattle.den_lease.specs.Words.{leases_in}
use Rattle.den_lease.proofs.default_lease.DefaultLease.from_snapshot.Goals as goal
use Rattle.den_lease.proofs.default_lease.DefaultLease.from_snapshot.Goals.{in-None, in-Some+in_ok-map-in-Some}

pub returns-clause-table : goal.returns-clause-table
unfolding leases_in
returns-clause-table c = elim c.match-branch-2.branch [
  | in-None w ↦ w.map-is ∙ w.new-map.ensures ∙ ap (λ (o : Option (Table ℕ)). unwrap_or o []) (sym w.in-None.is ∙ c.in_ok-read.ensures.is)
  | in-Some+in_ok-map-in-Some w ↦ w.map-is ∙ w.in_ok-map-in-Some.ensures ∙ ap (λ (o : Option (Table ℕ)). unwrap_or o []) (sym w.in-Some.is ∙ c.in_ok-read.ensures.is)
]
