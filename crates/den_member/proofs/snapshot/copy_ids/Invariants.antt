use Rattle.std.proofs.Common.{◌≡◌, ◌++◌}
use Rattle.den_member.proofs.snapshot.copy_ids.Given as goal

-- the ids so far, and the rest
abbrev pub invariant-loop-id : goal.invariant-loop-id
invariant-loop-id l = l.copy.keys ++ l.id-iterator ≡ l.ids.keys
