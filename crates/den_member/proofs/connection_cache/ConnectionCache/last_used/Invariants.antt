use Rattle.std.proofs.Common.{◌≡◌, drop}
use Rattle.std.specs.List.{find}
use Rattle.den_member.specs.Cache.{is_for}
use Rattle.den_member.proofs.connection_cache.ConnectionCache.last_used.Given as goal

-- none so far
abbrev pub invariant-loop-cached : goal.invariant-loop-cached
invariant-loop-cached g l = find (is_for l.node_id l.kind) (drop l.cached-index l.cached-items) ≡ find (is_for l.node_id l.kind) l.self.held.items
