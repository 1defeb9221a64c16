-- Changes of the members, as the log has them.
use Rattle.std.specs.Prelude.{ℕ, ℤ, pos, Bool, not, List, filter, Option, Some, None, option_map, unwrap_or, if◌then◌else◌}
use Rattle.std.specs.List.{find, take_while}
use Rattle.std.specs.Ordering.{int_eq}
use Rattle.den_model.specs.declared.reply.NodeMeta.{NodeMeta}
use Rattle.den_member.specs.Answers.{ChangeOutcome, done, refused}
use Rattle.den_member.specs.Members.{Members, changed, is_id, is_listed, next_version}
use Rattle.den_member.specs.Numbered.{at, is_held, set, unset}
use Rattle.den_member.specs.Status.{status_number, status_of}
use Rattle.den_member.specs.declared.change.NodeChange.{NodeChange}
use Rattle.den_member.specs.declared.change.NodeChange.TheVariants.{AddNode, BatchPromote, BatchRemove, Promote, RemoveNode}
use Rattle.den_member.specs.declared.error.MembershipError.TheVariants.{NoMetadataFoundForNode, NodeAlreadyExists}
use Rattle.den_member.specs.declared.node_status.NodeStatus.{NodeStatus}
use Rattle.den_member.specs.declared.node_status.NodeStatus.TheVariants.{Active, Promotable}

-- whether a node does not vote: its role is 3
abbrev pub is_learner : NodeMeta → Bool
is_learner n = int_eq n.role (pos 3)

abbrev pub with_status : ℤ → NodeMeta → NodeMeta
with_status status n = record n { status = status }

-- a node that follows, whose role is 0
abbrev pub following : NodeMeta → NodeMeta
following n = record n { role = pos 0 }

-- a node that follows, and has this status
abbrev pub promoted : ℤ → NodeMeta → NodeMeta
promoted status n = record n { role = pos 0; status = status }

-- the status of a number, and another where it has none
abbrev pub status_or : ℤ → NodeStatus → NodeStatus
status_or number other = unwrap_or (status_of number) other

-- ---- one node

-- A learner joins. One that is held stays as it is, and another node under the id is in its way.
abbrev pub added : (id : ℕ) → (address : List ℕ) → (status : ℤ) → Members → ChangeOutcome
added id address status m = elim (at m.nodes id) [
  | None ↦ done (record m { nodes = set m.nodes id (record { id = id; address = address; role = pos 3; status = status }) })
  | Some n ↦ if is_learner n then done m else refused (NodeAlreadyExists id) m
]

-- a node is changed where it is held, and else that is refused
abbrev pub changed_one : (id : ℕ) → (NodeMeta → NodeMeta) → Members → ChangeOutcome
changed_one id f m = if is_held m.nodes id then done (changed (is_id id) f m) else refused (NoMetadataFoundForNode id) m

abbrev pub stated : (id : ℕ) → (status : ℤ) → Members → ChangeOutcome
stated id status m = changed_one id (with_status status) m

abbrev pub promoted_one : (id : ℕ) → (status : ℤ) → Members → ChangeOutcome
promoted_one id status m = changed_one id (promoted status) m

-- a node is active where it is held
abbrev pub activated : (id : ℕ) → Members → Members
activated id m = (stated id (pos 2) m).members

abbrev pub removed : (id : ℕ) → Members → Members
removed id m = record m { nodes = unset m.nodes id; version = next_version m }

-- ---- several nodes

-- Those before the first that is not held are promoted, and that one is the refusal.
abbrev pub promoted_all : (ids : List ℕ) → (status : ℤ) → Members → ChangeOutcome
promoted_all ids status m = record {
  refusal = option_map NoMetadataFoundForNode (find (λ id. not (is_held m.nodes id)) ids);
  members = changed (is_listed (take_while (λ id. is_held m.nodes id) ids)) (promoted status) m;
}

abbrev pub removed_all : (ids : List ℕ) → Members → Members
removed_all ids m = record m { nodes = filter (λ e. not (is_listed ids e.0)) m.nodes; version = next_version m }

-- ---- a change of the log. An unknown status makes a learner promotable, and a promoted node active.

abbrev pub applied_change : NodeChange → Members → ChangeOutcome
applied_change (AddNode id address status) m = added id address (status_number (status_or status Promotable)) m
applied_change (RemoveNode id) m = done (removed id m)
applied_change (Promote id) m = promoted_one id (pos 2) m
applied_change (BatchPromote ids status) m = promoted_all ids (status_number (status_or status Active)) m
applied_change (BatchRemove ids) m = done (removed_all ids m)

abbrev pub change_applied : Option NodeChange → Members → ChangeOutcome
change_applied None m = done m
change_applied (Some change) m = applied_change change m
