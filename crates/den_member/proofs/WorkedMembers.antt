-- Worked rows of majorities, failures, pauses and members, by computing.
use Rattle.std.specs.Prelude.{◌≡◌, ℕ, ◌+◌, ◌-◌, ◌/◌, pos, true, false, nat_lt, List, [], ◌∷◌, map, Option, Some, None, Ok, Err, codes, refl}
use Rattle.den_codec.specs.declared.config.BackoffPolicy.{BackoffPolicy}
use Rattle.den_model.specs.declared.reply.NodeMeta.{NodeMeta}
use Rattle.den_member.specs.Answers.{told_as}
use Rattle.den_member.specs.Backoff.{pauses_of}
use Rattle.den_member.specs.Changes.{added, change_applied, promoted_all, removed}
use Rattle.den_member.specs.Health.{Health, failed, signal_of, succeeded}
use Rattle.den_member.specs.Leading.{leader_answer, members_after}
use Rattle.den_member.specs.Members.{Members, of_nodes}
use Rattle.den_member.specs.Numbered.{at, is_held}
use Rattle.den_member.specs.Numbers.{nearest}
use Rattle.den_member.specs.Queries.{all_nodes, rejoins, voters_of}
use Rattle.den_member.specs.Snapshots.{snapshot_of}
use Rattle.den_member.specs.declared.change.ClusterConfChangeRequest.{ClusterConfChangeRequest}
use Rattle.den_member.specs.declared.change.ConfOutcome.TheVariants.{Success}
use Rattle.den_member.specs.declared.change.NodeChange.TheVariants.{AddNode, BatchRemove, Promote}
use Rattle.den_member.specs.declared.error.MemberError.TheVariants.{Membership}
use Rattle.den_member.specs.declared.error.MembershipError.TheVariants.{InvalidChangeRequest, InvalidPromotion, NoLeaderFound, NoMetadataFoundForNode, NodeAlreadyExists, NotLearner, RemoveNodeIsLeader}

-- ---- numbers

pub nearest_below_1701 : nearest 1701 (1 ∷ 1000 ∷ 1382 ∷ 1483 ∷ 1637 ∷ 1902 ∷ 2678 ∷ 3210 ∷ []) ≡ Some 1637
nearest_below_1701 = refl

pub majorities_of_3 : map (nat_lt (3 / 2)) (0 ∷ 1 ∷ 2 ∷ 3 ∷ []) ≡ false ∷ false ∷ true ∷ true ∷ []
majorities_of_3 = refl

pub majority_of_4 : 4 / 2 + 1 ≡ 3
majority_of_4 = refl

-- ---- failures

-- the signals that failures of these peers give, one after the other
abbrev signals : Health → List ℕ → List (Option ℕ)
signals h [] = []
signals h (id ∷ ids) = signal_of h id ∷ signals (failed h id) ids

-- what they leave
abbrev after : Health → List ℕ → Health
after h [] = h
after h (id ∷ ids) = after (failed h id) ids

abbrev watched : ℕ → Health
watched threshold = record { threshold = threshold; failures = [] }

pub third_failure_signals : signals (watched 2) (1 ∷ 2 ∷ 1 ∷ 1 ∷ []) ≡ None ∷ None ∷ Some 1 ∷ None ∷ []
third_failure_signals = refl

pub second_and_fourth_signal : signals (watched 2) (1 ∷ 1 ∷ 1 ∷ 1 ∷ []) ≡ None ∷ Some 1 ∷ None ∷ Some 1 ∷ []
second_and_fourth_signal = refl

pub success_forgets : is_held (succeeded (after (watched 2) (1 ∷ 1 ∷ [])) 1).failures 1 ≡ false
success_forgets = refl

pub two_failures_count : at (after (watched 3) (42 ∷ 42 ∷ [])).failures 42 ≡ Some 2
two_failures_count = refl

-- no failure comes to a threshold of 0
pub none_signals : signals (watched 0) (1 ∷ 1 ∷ 1 ∷ 1 ∷ 1 ∷ []) ≡ None ∷ None ∷ None ∷ None ∷ None ∷ []
none_signals = refl

pub five_failures_count : at (after (watched 0) (1 ∷ 1 ∷ 1 ∷ 1 ∷ 1 ∷ [])).failures 1 ≡ Some 5
five_failures_count = refl

-- ---- pauses between tries

-- so many tries, a base and a greatest pause
abbrev policy : (tries base greatest : ℕ) → BackoffPolicy
policy tries base greatest = record { max_retries = tries; base_delay_ms = base; max_delay_ms = greatest }

pub pauses_double : pauses_of (policy 3 1000 3000) (3 - 1) ≡ 1000 ∷ 2000 ∷ []
pauses_double = refl

pub base_is_not_capped : pauses_of (policy 3 5000 3000) (3 - 1) ≡ 5000 ∷ 3000 ∷ []
base_is_not_capped = refl

pub pauses_stay_at_the_greatest : pauses_of (policy 6 1000 3000) (6 - 1) ≡ 1000 ∷ 2000 ∷ 3000 ∷ 3000 ∷ 3000 ∷ []
pauses_stay_at_the_greatest = refl

-- ---- members, one step after the other

-- node 1, which follows and is active
abbrev first : NodeMeta
first = record { id = 1; address = codes "h:0"; role = pos 0; status = pos 2 }

abbrev alone : Members
alone = of_nodes (first ∷ []) 0

-- learner 2 joins, and then does so again
abbrev with_second : Members
with_second = (added 2 (codes "h:1") (pos 0) alone).members

pub second_joins : told_as (added 2 (codes "h:1") (pos 0) alone) ≡ Ok tt
second_joins = refl

pub second_joins_again : told_as (added 2 (codes "h:2") (pos 0) with_second) ≡ Ok tt
second_joins_again = refl

pub second_keeps_its_address : all_nodes (added 2 (codes "h:2") (pos 0) with_second).members ≡ first ∷ record { id = 2; address = codes "h:1"; role = pos 3; status = pos 0 } ∷ []
second_keeps_its_address = refl

-- a batch promotes 2, and ends at 9
abbrev with_voter : Members
with_voter = (promoted_all (2 ∷ 9 ∷ []) (pos 2) with_second).members

pub batch_ends_at_9 : told_as (promoted_all (2 ∷ 9 ∷ []) (pos 2) with_second) ≡ Err (Membership (NoMetadataFoundForNode 9))
batch_ends_at_9 = refl

pub second_votes : voters_of 1 with_voter ≡ record { id = 2; address = codes "h:1"; role = pos 0; status = pos 2 } ∷ []
second_votes = refl

-- what receivers are told before and behind that
pub second_learns : snapshot_of with_second 5 ≡ record { members = record { keys = 1 ∷ [] }; learners = record { keys = 2 ∷ [] }; committed_index = 5 }
second_learns = refl

pub second_is_a_member : snapshot_of with_voter 6 ≡ record { members = record { keys = 1 ∷ 2 ∷ [] }; learners = record { keys = [] }; committed_index = 6 }
second_is_a_member = refl

-- 2 is removed
abbrev without_second : Members
without_second = removed 2 with_voter

pub removal_is_version_1 : without_second ≡ of_nodes (first ∷ []) 1
removal_is_version_1 = refl

pub first_cannot_rejoin : rejoins 1 (pos 3) without_second ≡ Err (Membership (NodeAlreadyExists 1))
first_cannot_rejoin = refl

pub follower_cannot_rejoin : rejoins 7 (pos 0) without_second ≡ Err (Membership NotLearner)
follower_cannot_rejoin = refl

pub first_is_in_the_way : told_as (change_applied (Some (AddNode 1 (codes "h:9") (pos 0))) without_second) ≡ Err (Membership (NodeAlreadyExists 1))
first_is_in_the_way = refl

-- ---- a leader's requests

pub leader_is_not_removed : leader_answer 1 1 1 (Some 1) (record { id = 1; term = 1; version = 1; change = Some (record { change = Some (BatchRemove (1 ∷ [])) }) }) without_second ≡ Err (Membership (RemoveNodeIsLeader 1))
leader_is_not_removed = refl

-- node 1 leads, node 2 is a learner
abbrev pair : Members
pair = of_nodes (first ∷ record { id = 2; address = codes "h:1"; role = pos 3; status = pos 0 } ∷ []) 0

-- the promotion of 2 is asked for
abbrev promotion : ClusterConfChangeRequest
promotion = record { id = 1; term = 1; version = 4; change = Some (record { change = Some (Promote 2) }) }

pub promoted_once : leader_answer 2 1 0 (Some 1) promotion pair ≡ Ok (record { id = 2; term = 1; version = 4; outcome = Success })
promoted_once = refl

pub promoted_follows : members_after 1 (Some 1) promotion pair ≡ of_nodes (first ∷ record { id = 2; address = codes "h:1"; role = pos 0; status = pos 0 } ∷ []) 4
promoted_follows = refl

pub promoted_twice : leader_answer 2 1 4 (Some 1) promotion (members_after 1 (Some 1) promotion pair) ≡ Err (Membership (InvalidPromotion 2 (pos 0)))
promoted_twice = refl

pub promoted_stays : members_after 1 (Some 1) promotion (members_after 1 (Some 1) promotion pair) ≡ members_after 1 (Some 1) promotion pair
promoted_stays = refl

pub no_leader : leader_answer 2 1 0 None promotion pair ≡ Err (Membership NoLeaderFound)
no_leader = refl

pub no_change : leader_answer 2 1 0 (Some 1) (record promotion { change = Some (record { change = None }) }) pair ≡ Err (Membership InvalidChangeRequest)
no_change = refl
