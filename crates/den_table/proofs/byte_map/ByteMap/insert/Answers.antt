use Rattle.den_table.proofs.KeyedBy.{keyed_set}
use Rattle.den_table.proofs.byte_map.ByteMap.insert.Goals as goal

pub returns-clause-ok : goal.returns-clause-ok
returns-clause-ok g c = rw (c.in_ok-insert.ensures.entries, ← c.self.view_is, ← c.in_ok-key.ensures.items) (keyed_set c.self.inside.map.entries c.in_ok-key.key c.args.value)
