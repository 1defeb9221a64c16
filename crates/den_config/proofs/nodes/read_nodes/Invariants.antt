use Rattle.std.proofs.Common.{◌≡◌, drop}
use Rattle.toml.specs.View.{items_view}
use Rattle.den_config.specs.Nodes.{nodes}
use Rattle.den_config.proofs.Listed.{in_front}
use Rattle.den_config.proofs.nodes.read_nodes.Given as goal

abbrev pub invariant-loop-value : goal.invariant-loop-value
invariant-loop-value l = in_front l.nodes.items (drop l.value-index l.values) ≡ nodes (items_view l.values)
