-- What receivers are told of the members.
use Rattle.std.specs.Prelude.{ℕ, Bool, true, false, not, if◌then◌else◌}
use Rattle.den_model.specs.declared.reply.NodeMeta.{NodeMeta}
use Rattle.den_member.specs.Changes.{is_learner}
use Rattle.den_member.specs.Members.{Members}
use Rattle.den_member.specs.Queries.{ids_that}
use Rattle.den_member.specs.declared.snapshot.MembershipSnapshot.{MembershipSnapshot}

-- whether a node is a learner, or whether it is none
abbrev pub learns : Bool → ℕ × NodeMeta → Bool
learns learner e = if learner then is_learner e.1 else not (is_learner e.1)

-- the learners, and the nodes that are none, behind the change of this index
abbrev pub snapshot_of : Members → (index : ℕ) → MembershipSnapshot
snapshot_of m index = record {
  members = record { keys = ids_that (learns false) m };
  learners = record { keys = ids_that (learns true) m };
  committed_index = index;
}
