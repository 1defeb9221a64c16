use Rattle.den_table.proofs.KeyedBy.{keyed_at}
use Rattle.den_table.proofs.byte_map.ByteMap.get.Goals as goal

pub returns : goal.returns
returns g c = rw (c.get.ensures.value, ← c.self.view_is) (keyed_at c.self.inside.map.entries c.args.key.now)
