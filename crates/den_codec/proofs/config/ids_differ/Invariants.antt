use Rattle.std.proofs.Common.{◌≡◌, length}
use Rattle.den_codec.specs.Nodes.{ids_differ}
use Rattle.den_codec.proofs.config.ids_differ.Given as goal

abbrev pub invariant-loop-first : goal.invariant-loop-first
invariant-loop-first l = ids_differ l.rest ≡ ids_differ l.nodes

abbrev pub decreases-loop-first : goal.decreases-loop-first
decreases-loop-first l = length l.rest
