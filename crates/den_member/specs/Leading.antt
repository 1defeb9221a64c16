-- Changes of the members that a leader asks for.
use Rattle.std.specs.Prelude.{ℕ, ℤ, pos, ◌==◌, not, nat_lt, List, Option, Some, None, Result, Ok, Err, if◌then◌else◌}
use Rattle.std.specs.Ordering.{int_eq}
use Rattle.den_model.specs.declared.reply.NodeMeta.{NodeMeta}
use Rattle.den_member.specs.Answers.{ChangeOutcome, done, refused}
use Rattle.den_member.specs.Changes.{added, changed_one, following, is_learner, promoted, removed, removed_all, status_or}
use Rattle.den_member.specs.Members.{Members, changed, is_id, is_listed}
use Rattle.den_member.specs.Numbered.{at}
use Rattle.den_member.specs.Status.{status_number}
use Rattle.den_member.specs.declared.change.ClusterConfChangeRequest.{ClusterConfChangeRequest}
use Rattle.den_member.specs.declared.change.ClusterConfUpdateResponse.{ClusterConfUpdateResponse}
use Rattle.den_member.specs.declared.change.ConfOutcome.{ConfOutcome}
use Rattle.den_member.specs.declared.change.ConfOutcome.TheVariants.{HigherTerm, NotLeader, Success, VersionConflict}
use Rattle.den_member.specs.declared.change.NodeChange.{NodeChange}
use Rattle.den_member.specs.declared.change.NodeChange.TheVariants.{AddNode, BatchPromote, BatchRemove, Promote, RemoveNode}
use Rattle.den_member.specs.declared.error.MemberError.{MemberError}
use Rattle.den_member.specs.declared.error.MemberError.TheVariants.{Membership}
use Rattle.den_member.specs.declared.error.MembershipError.TheVariants.{InvalidChangeRequest, InvalidPromotion, NoLeaderFound, NoMetadataFoundForNode, RemoveNodeIsLeader}
use Rattle.den_member.specs.declared.node_status.NodeStatus.TheVariants.{Promotable}

-- a learner comes to follow, and keeps its status
abbrev pub promoted_learner : (id : ℕ) → Members → ChangeOutcome
promoted_learner id m = elim (at m.nodes id) [
  | None ↦ refused (NoMetadataFoundForNode id) m
  | Some n ↦ if is_learner n then done (changed (is_id id) following m) else refused (InvalidPromotion id n.role) m
]

-- a node that may be promoted, whose status is 0, follows and gets this status
abbrev pub ready : ℤ → NodeMeta → NodeMeta
ready status n = if int_eq n.status (pos 0) then promoted status n else n

abbrev pub readied_one : (id : ℕ) → (status : ℤ) → Members → Members
readied_one id status m = (changed_one id (ready status) m).members

abbrev pub readied : (ids : List ℕ) → (status : ℤ) → Members → Members
readied ids status m = changed (is_listed ids) (ready status) m

-- what a leader's change comes to
abbrev pub led : (leader : ℕ) → NodeChange → Members → ChangeOutcome
led leader (AddNode id address status) m = added id address (status_number (status_or status Promotable)) m
led leader (RemoveNode id) m = done (removed id m)
led leader (Promote id) m = promoted_learner id m
led leader (BatchPromote ids status) m = done (readied ids status m)
led leader (BatchRemove ids) m = if is_listed ids leader then refused (RemoveNodeIsLeader leader) m else done (removed_all ids m)

-- the change that a request asks for, if it asks for one
abbrev pub asked_change : ClusterConfChangeRequest → Option NodeChange
asked_change req = elim req.change [ None ↦ None | Some c ↦ c.change ]

-- why a request changes nothing: it is not from the leader, of a lower term, or at a lower version
abbrev pub turned_away : (term leader : ℕ) → ClusterConfChangeRequest → Members → Option ConfOutcome
turned_away term leader req m =
    if not (req.id == leader) then Some NotLeader
    else if nat_lt req.term term then Some HigherTerm
    else if nat_lt req.version m.version then Some VersionConflict
    else None

abbrev pub response : (id term version : ℕ) → ConfOutcome → ClusterConfUpdateResponse
response id term version outcome = record { id = id; term = term; version = version; outcome = outcome }

-- the answer to a request, told as its change's outcome
abbrev pub told_response : (id term version : ℕ) → ClusterConfChangeRequest → ChangeOutcome → Result ClusterConfUpdateResponse MemberError
told_response id term version req o = elim o.refusal [ None ↦ Ok (response id term req.version Success) | Some cause ↦ Err (Membership cause) ]

-- The answer of a node of this id, term and version, by the leader that it knows.
abbrev pub leader_answer : (id term version : ℕ) → Option ℕ → ClusterConfChangeRequest → Members → Result ClusterConfUpdateResponse MemberError
leader_answer id term version None req m = Err (Membership NoLeaderFound)
leader_answer id term version (Some leader) req m = elim (turned_away term leader req m) [
  | Some outcome ↦ Ok (response id term version outcome)
  | None ↦ elim (asked_change req) [
    | None ↦ Err (Membership InvalidChangeRequest)
    | Some change ↦ told_response id term version req (led leader change m)
  ]
]

-- The members behind it: a change that is made gives them the request's version.
abbrev pub members_after : (term : ℕ) → Option ℕ → ClusterConfChangeRequest → Members → Members
members_after term None req m = m
members_after term (Some leader) req m = elim (turned_away term leader req m) [
  | Some outcome ↦ m
  | None ↦ elim (asked_change req) [
    | None ↦ m
    | Some change ↦ elim (led leader change m).refusal [ None ↦ record (led leader change m).members { version = req.version } | Some cause ↦ m ]
  ]
]
