-- A node's view of its cluster.
use Rattle.std.specs.Prelude.{◌≡◌, ℕ, Bool, true, false, List, [], length, Option, Some, None, Result, Ok, IfOk, IfErr, IfSome, IfNone, MatchOption}
use Rattle.std.specs.Borrow.{Bor}
use Rattle.den_disk.specs.Goes.{Rose}
use Rattle.den_model.specs.declared.reply.NodeMeta.{NodeMeta}
use Rattle.den_member.specs.Queries.{IsAddressAt}
use Rattle.den_member.specs.Cache.{Readies, ServesChannel, without_node}
use Rattle.den_member.specs.Health.{failed, signal_of}
use Rattle.den_member.specs.Members.{of_nodes}
use Rattle.den_member.specs.Numbered.{at}
use Rattle.den_member.specs.declared.change.ConfOutcome.{ConfOutcome}
use Rattle.den_member.specs.declared.change.ConfOutcome.TheVariants.{HigherTerm, NotLeader, Success, VersionConflict}
use Rattle.den_member.specs.declared.change.NodeChange.{NodeChange}
use Rattle.den_member.specs.declared.change.NodeChange.TheVariants.{AddNode, BatchPromote, BatchRemove, Promote, RemoveNode}
use Rattle.den_member.specs.declared.connection_cache.Cached.{Cached}
use Rattle.den_member.specs.declared.connector.ConnectFault as fault
use Rattle.den_member.specs.declared.connector.ConnectionType.{ConnectionType}
use Rattle.den_member.specs.declared.error.MemberError.{MemberError}
use Rattle.den_member.specs.declared.error.MemberError.TheVariants.{OutOfMemory}
use Rattle.den_member.specs.declared.membership.RaftMembership.{RaftMembership}

-- whether a change was made
abbrev pub is_success : ConfOutcome → Bool
is_success Success = true
is_success NotLeader = false
is_success HigherTerm = false
is_success VersionConflict = false

-- the node whose channels a change drops: that which alone is removed
abbrev pub dropped_by : NodeChange → Option ℕ
dropped_by (AddNode id address status) = None
dropped_by (RemoveNode id) = Some id
dropped_by (Promote id) = None
dropped_by (BatchPromote ids status) = None
dropped_by (BatchRemove ids) = None

abbrev pub dropped_if : Option NodeChange → Option ℕ
dropped_if None = None
dropped_if (Some change) = dropped_by change

module _ {X : Type 0} where
  -- the channels that are left where those to a node are dropped, if to one
  abbrev pub without_option : Option ℕ → List (Cached X) → List (Cached X)
  without_option None held = held
  without_option (Some id) held = without_node id held

  -- what a node begins with: the nodes at version 0, no failure, no channel
  pub record IsFresh (id : ℕ) (nodes : List NodeMeta) (threshold : ℕ) (r : RaftMembership X) : Type 0 where
    pub own : r.node_id ≡ id
    pub size : r.initial_size ≡ length nodes
    pub members : r.membership ≡ of_nodes nodes 0
    pub monitor : r.monitor ≡ record { threshold = threshold; failures = [] }
    pub channels : r.cache.held.items ≡ []

  -- the members alone may have changed
  abbrev pub KeepsRest : (old new : RaftMembership X) → Type 0
  KeepsRest old new = new ≡ record old { membership = new.membership }

  -- the members and the channels alone may have
  abbrev pub KeepsOwn : (old new : RaftMembership X) → Type 0
  KeepsOwn old new = new ≡ record old { membership = new.membership; cache = new.cache }

  -- A failure of a peer is counted, and its channels are dropped.
  pub record Fails (id : ℕ) (old new : RaftMembership X) (signal : Option ℕ) : Type 0 where
    pub told_as : signal ≡ signal_of old.monitor id
    pub monitor : new.monitor ≡ failed old.monitor id
    pub channels : new.cache.held.items ≡ without_node id old.cache.held.items
    pub rest : new ≡ record old { monitor = new.monitor; cache = new.cache }

  -- A failure of a peer without an address is counted.
  pub record Misses (id : ℕ) (old new : RaftMembership X) (signal : Option ℕ) : Type 0 where
    pub told_as : signal ≡ signal_of old.monitor id
    pub counted : new ≡ record old { monitor = failed old.monitor id }

  -- Where no channel is answered, the peer has no address, or the connector's count rose.
  abbrev pub Unreached : (rose : Type 0) → (id : ℕ) → (old new : RaftMembership X) → (signal : Option ℕ) → Type 0
  Unreached rose id old new signal = MatchOption (at old.membership.nodes id) (Misses id old new signal) (λ n. rose × Fails id old new signal)

  -- the channels alone may have changed
  abbrev pub KeepsAll : (old new : RaftMembership X) → Type 0
  KeepsAll old new = new ≡ record old { cache = new.cache }

  -- A peer is reached: at the place of its channel, which is readied, or not at all, which is counted as a failure.
  pub record Reaches {C : Type 0} (connects : C → List ℕ → ConnectionType → Result X fault.ConnectFault → C → Type 0) (faults : C → ℕ) (old_connector new_connector : C)
      (id : ℕ) (kind : ConnectionType) (now : ℕ) (old new : RaftMembership X) (result : Result (Option ℕ × Option ℕ) MemberError) : Type 0 where
    pub reached : IfOk result (λ r. IfSome r.0 (λ p. (r.1 ≡ None) × KeepsAll old new × ((address : List ℕ) × IsAddressAt id old.membership (Some address)
        × Readies connects faults old_connector new_connector id kind address now old.cache.held.items new.cache.held.items (Ok p))))
    pub unreached : IfOk result (λ r. IfNone r.0 (Unreached (Rose (faults old_connector) (faults new_connector)) id old new r.1))
    pub refused : IfErr result (λ e. (e ≡ OutOfMemory) × KeepsAll old new × (new.cache.held.items ≡ old.cache.held.items))

  -- A peer's channel is answered, or its failure is counted, with the signal that this gives.
  pub record Channels {C : Type 0} (connects : C → List ℕ → ConnectionType → Result X fault.ConnectFault → C → Type 0) (faults : C → ℕ) (old_connector new_connector : C)
      (id : ℕ) (kind : ConnectionType) (now : ℕ) (old new : RaftMembership X) (result : Result (Option (Bor X) × Option ℕ) MemberError) : Type 0 where
    pub reached : IfOk result (λ r. IfSome r.0 (λ channel. (r.1 ≡ None) × KeepsAll old new × ((address : List ℕ) × IsAddressAt id old.membership (Some address)
        × ServesChannel connects faults old_connector new_connector id kind address now old.cache.held.items new.cache.held.items (Ok channel))))
    pub unreached : IfOk result (λ r. IfNone r.0 (Unreached (Rose (faults old_connector) (faults new_connector)) id old new r.1))
    pub refused : IfErr result (λ e. (e ≡ OutOfMemory) × KeepsAll old new × (new.cache.held.items ≡ old.cache.held.items))
