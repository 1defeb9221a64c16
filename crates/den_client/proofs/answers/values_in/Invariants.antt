use Rattle.std.proofs.Common.{◌≡◌, take}
use Rattle.den_client.specs.Mapped.{values_in}
use Rattle.den_client.proofs.answers.values_in.Given as goal

abbrev pub invariant-loop-key : goal.invariant-loop-key
invariant-loop-key l = l.values.items ≡ values_in (take l.key-index l.keys) l.fn.entries
