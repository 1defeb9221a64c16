-- What is asked of the members.
use Rattle.std.specs.Prelude.{◌≡◌, ℕ, ℤ, pos, ◌==◌, ◌&&◌, not, Bool, true, List, map, filter, is_some, Option, Some, None, Result, Ok, Err, MatchOption, IsSomeAnd, if◌then◌else◌}
use Rattle.std.specs.Ordering.{int_eq}
use Rattle.den_model.specs.declared.reply.ClusterMembership.{ClusterMembership}
use Rattle.den_model.specs.declared.reply.NodeMeta.{NodeMeta}
use Rattle.den_member.specs.Addresses.{IsAddressOf}
use Rattle.den_member.specs.Members.{Members}
use Rattle.den_member.specs.Numbered.{at, is_held}
use Rattle.den_member.specs.Status.{status_number, status_of}
use Rattle.den_member.specs.declared.error.MemberError.{MemberError}
use Rattle.den_member.specs.declared.error.MemberError.TheVariants.{Membership}
use Rattle.den_member.specs.declared.error.MembershipError.TheVariants.{NodeAlreadyExists, NotLearner}
use Rattle.den_member.specs.declared.node_filter.NodeFilter.{NodeFilter}
use Rattle.den_member.specs.declared.node_filter.NodeFilter.TheVariants.{All, Peers, Status, Voters}
use Rattle.den_member.specs.declared.node_status.NodeStatus.{NodeStatus}
use Rattle.den_member.specs.declared.node_status.NodeStatus.TheVariants.{Active}

-- the nodes that pass, in the order of their ids
abbrev pub nodes_that : (ℕ × NodeMeta → Bool) → Members → List NodeMeta
nodes_that passes m = map (λ e. e.1) (filter passes m.nodes)

-- the ids of those that pass, in their order
abbrev pub ids_that : (ℕ × NodeMeta → Bool) → Members → List ℕ
ids_that passes m = map (λ e. e.0) (filter passes m.nodes)

-- whether it is another node
abbrev pub is_other : (own : ℕ) → ℕ × NodeMeta → Bool
is_other own e = not (e.0 == own)

abbrev pub has_status : NodeStatus → ℕ × NodeMeta → Bool
has_status status e = int_eq e.1.status (status_number status)

-- whether its status is known
abbrev pub is_known : ℕ × NodeMeta → Bool
is_known e = is_some (status_of e.1.status)

abbrev pub passes : NodeFilter → ℕ × NodeMeta → Bool
passes All = λ e. true
passes (Peers own) = λ e. is_other own e && is_known e
passes (Voters own) = λ e. is_other own e && has_status Active e
passes (Status status) = has_status status

-- all nodes
abbrev pub all_nodes : Members → List NodeMeta
all_nodes m = map (λ e. e.1) m.nodes

-- the others whose status is known
abbrev pub peers_of : (own : ℕ) → Members → List NodeMeta
peers_of own m = nodes_that (λ e. is_other own e && is_known e) m

-- the others that are active
abbrev pub voters_of : (own : ℕ) → Members → List NodeMeta
voters_of own m = nodes_that (λ e. is_other own e && has_status Active e) m

abbrev pub nodes_of_status : NodeStatus → Members → List NodeMeta
nodes_of_status status m = nodes_that (has_status status) m

-- the status of a node, where it is held and has one
abbrev pub status_at : (id : ℕ) → Members → Option NodeStatus
status_at id m = elim (at m.nodes id) [ None ↦ None | Some n ↦ status_of n.status ]

-- the address at which a node is reached, where it is held
abbrev pub IsAddressAt : (id : ℕ) → Members → Option (List ℕ) → Type 0
IsAddressAt id m address = MatchOption (at m.nodes id) (address ≡ None) (λ n. IsSomeAnd address (IsAddressOf n.address))

-- all nodes under this leader
abbrev pub membership_under : Option ℕ → Members → ClusterMembership
membership_under leader m = record { version = m.version; nodes = all_nodes m; current_leader_id = leader }

-- A node of this role may join: it is a learner, whose role is 3, and is not held.
abbrev pub rejoins : (id : ℕ) → (role : ℤ) → Members → Result (Unit {0}) MemberError
rejoins id role m =
    if not (int_eq role (pos 3)) then Err (Membership NotLearner)
    else if is_held m.nodes id then Err (Membership (NodeAlreadyExists id))
    else Ok tt
