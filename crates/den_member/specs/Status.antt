-- What a node may do, by numbers.
use Rattle.std.specs.Prelude.{ℤ, pos, Option, Some, None, if◌then◌else◌}
use Rattle.std.specs.Ordering.{int_eq}
use Rattle.den_member.specs.declared.node_status.NodeStatus.{NodeStatus}
use Rattle.den_member.specs.declared.node_status.NodeStatus.TheVariants.{Active, Promotable, ReadOnly}

abbrev pub status_number : NodeStatus → ℤ
status_number Promotable = pos 0
status_number ReadOnly = pos 1
status_number Active = pos 2

-- the status of a number, where it has one
abbrev pub status_of : ℤ → Option NodeStatus
status_of n =
    if int_eq n (pos 0) then Some Promotable
    else if int_eq n (pos 1) then Some ReadOnly
    else if int_eq n (pos 2) then Some Active
    else None
