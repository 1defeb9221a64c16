use Rattle.std.proofs.Common.{◌∙◌, sym}
use Rattle.den_member.proofs.Cache.{put_held}
use Rattle.den_member.proofs.connection_cache.ConnectionCache.put.Goals as goal

pub returns-in-Some-clause-put : goal.returns-in-Some-clause-put
returns-in-Some-clause-put g c = put_held c.args.cached c.args.self.now.held.items c.in-Some.place (sym c.place.ensures.is ∙ c.in-Some.is) c.in-Some.ensures.inside
