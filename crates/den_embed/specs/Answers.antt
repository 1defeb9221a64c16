-- What an engine answers of its leader.
use Rattle.std.specs.Prelude.{ℕ, zero, suc, Bool, false, ◌==◌, Option, Some, None, Result, Ok, Err}
use Rattle.den_model.specs.declared.reply.LeaderInfo.{LeaderInfo}
use Rattle.den_node.specs.declared.error.NodeError.{NodeError}
use Rattle.den_node.specs.declared.error.NodeError.TheVariants.{Fatal}

-- who leads, looked for so many times
abbrev pub ready_by : (tries : ℕ) → Option LeaderInfo → Result LeaderInfo NodeError
ready_by zero leader = Err Fatal
ready_by (suc tries) None = Err Fatal
ready_by (suc tries) (Some leader) = Ok leader

-- this node is known to lead
abbrev pub leads_itself : Option LeaderInfo → (node_id : ℕ) → Bool
leads_itself (Some leader) node_id = leader.leader_id == node_id
leads_itself None node_id = false
