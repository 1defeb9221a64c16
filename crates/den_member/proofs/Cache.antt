-- Channels in their places.
use Rattle.std.proofs.Common.{◌≡◌, ◌<◌, ℕ, [], ◌∷◌, ◌++◌, length, position, ap, sym, slice_set, List, Option, Some, None, length-set}
use Rattle.den_member.specs.Cache.{is_for, place_for, placed}
use Rattle.den_member.specs.declared.connection_cache.Cached.{Cached}

module _ {X : Type 0} where
  -- where a channel to the same node of the same kind is kept
  pub put_held : (c : Cached X) (held : List (Cached X)) (p : ℕ) → position (is_for c.node_id c.kind) held ≡ Some p → p < length held
      → (p ≡ place_for c held) × (slice_set held p c ≡ placed c held) × (p < length (slice_set held p c))
  put_held c held p at inside = (
    sym (ap (λ (o : Option ℕ). elim o [ None ↦ length held | Some q ↦ q ]) at),
    sym (ap (λ (o : Option ℕ). elim o [ None ↦ held ++ c ∷ [] | Some q ↦ slice_set held q c ]) at),
    rw length-set inside,
  )
