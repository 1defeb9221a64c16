-- Channels that are kept.
use Rattle.std.specs.Prelude.{◌≡◌, ◌⊎◌, ℕ, ◌<◌, ◌==◌, ◌&&◌, ◌++◌, Bool, true, false, List, [], ◌∷◌, length, filter, not, nat_eq, position, slice_set, Option, Some, None, option_map, Result, Ok, IfOk, IfErr, IfSome, IsOkAnd}
use Rattle.std.specs.Borrow.{Bor}
use Rattle.std.specs.Cmp.Lexicographic.{pointwise}
use Rattle.std.specs.List.{find, slice_get}
use Rattle.den_disk.specs.Goes.{Rose}
use Rattle.den_member.specs.declared.connection_cache.Cached.{Cached}
use Rattle.den_member.specs.declared.connector.ConnectFault as fault
use Rattle.den_member.specs.declared.connector.ConnectionType.{ConnectionType}
use Rattle.den_member.specs.declared.connector.ConnectionType.TheVariants.{Bulk, Control, Data}
use Rattle.den_member.specs.declared.error.MemberError.{MemberError}
use Rattle.den_member.specs.declared.error.MemberError.TheVariants.{ConnectFault, OutOfMemory}

abbrev pub is_same_kind : ConnectionType → ConnectionType → Bool
is_same_kind Control Control = true
is_same_kind Control Data = false
is_same_kind Control Bulk = false
is_same_kind Data Control = false
is_same_kind Data Data = true
is_same_kind Data Bulk = false
is_same_kind Bulk Control = false
is_same_kind Bulk Data = false
is_same_kind Bulk Bulk = true

module _ {X : Type 0} where
  -- whether a channel is to the node, of the kind
  abbrev pub is_for : (id : ℕ) → ConnectionType → Cached X → Bool
  is_for id kind c = (c.node_id == id) && is_same_kind kind c.kind

  -- and was made at the address
  abbrev pub is_for_address : (id : ℕ) → ConnectionType → (address : List ℕ) → Cached X → Bool
  is_for_address id kind address c = is_for id kind c && pointwise nat_eq c.address address

  -- the moment of the last use of a channel to the node of the kind
  abbrev pub last_use : (id : ℕ) → ConnectionType → List (Cached X) → Option ℕ
  last_use id kind held = option_map (λ c. c.last_used) (find (is_for id kind) held)

  -- the place of the channel to the same node of the same kind, and the one behind all where there is none
  abbrev pub place_for : Cached X → List (Cached X) → ℕ
  place_for c held = elim (position (is_for c.node_id c.kind) held) [ None ↦ length held | Some p ↦ p ]

  -- a channel in that place
  abbrev pub placed : Cached X → List (Cached X) → List (Cached X)
  placed c held = elim (position (is_for c.node_id c.kind) held) [ None ↦ held ++ c ∷ [] | Some p ↦ slice_set held p c ]

  -- the place of a channel to the node of the kind at the address
  abbrev pub reusable : (id : ℕ) → ConnectionType → (address : List ℕ) → List (Cached X) → Option ℕ
  reusable id kind address held = position (is_for_address id kind address) held

  -- the channel at a place is used at this moment
  abbrev pub used : (now p : ℕ) → List (Cached X) → List (Cached X)
  used now p held = elim (slice_get held p) [ None ↦ held | Some c ↦ slice_set held p (record c { last_used = now }) ]

  -- A channel is readied, in whose place the connector's new one stands where none is kept.
  pub record Readies {C : Type 0} (connects : C → List ℕ → ConnectionType → Result X fault.ConnectFault → C → Type 0) (faults : C → ℕ) (old_connector new_connector : C)
      (id : ℕ) (kind : ConnectionType) (address : List ℕ) (now : ℕ) (old new : List (Cached X)) (result : Result ℕ MemberError) : Type 0 where
    pub inside : IfOk result (λ p. p < length new)
    pub reused : IfSome (reusable id kind address old) (λ p. (result ≡ Ok p) × (new_connector ≡ old_connector) × (new ≡ used now p old))
    pub made : reusable id kind address old ≡ None → IfOk result (λ p. (x : X) × connects old_connector address kind (Ok x) new_connector
        × (let c : Cached X = record { node_id = id; kind = kind; address = address; channel = x; last_used = now } in (p ≡ place_for c old) × (new ≡ placed c old)))
    pub refused : IfErr result (λ e. new ≡ old)
    pub cause : IfErr result (λ e. (e ≡ OutOfMemory) ⊎ ((e ≡ ConnectFault) × Rose (faults old_connector) (faults new_connector)))

  -- those of other nodes
  abbrev pub without_node : (id : ℕ) → List (Cached X) → List (Cached X)
  without_node id held = filter (λ c. not (nat_eq c.node_id id)) held

  -- A call that answers a channel: the one that is kept, or the connector's new one, which is kept then. On a refusal nothing
  -- changes, and a fault comes only where the connector's count rose.
  pub record ServesChannel {C : Type 0} (connects : C → List ℕ → ConnectionType → Result X fault.ConnectFault → C → Type 0) (faults : C → ℕ) (old_connector new_connector : C)
      (id : ℕ) (kind : ConnectionType) (address : List ℕ) (now : ℕ) (old new : List (Cached X)) (result : Result (Bor X) MemberError) : Type 0 where
    pub reused : IfSome (reusable id kind address old) (λ p. IsOkAnd result (λ b. (option_map (λ c. c.channel) (slice_get old p) ≡ Some b.now) × (new_connector ≡ old_connector) × (new ≡ used now p old)))
    pub made : reusable id kind address old ≡ None → IfOk result (λ b. connects old_connector address kind (Ok b.now) new_connector
        × (new ≡ placed (record { node_id = id; kind = kind; address = address; channel = b.now; last_used = now }) old))
    pub refused : IfErr result (λ e. new ≡ old)
    pub cause : IfErr result (λ e. (e ≡ OutOfMemory) ⊎ ((e ≡ ConnectFault) × Rose (faults old_connector) (faults new_connector)))
