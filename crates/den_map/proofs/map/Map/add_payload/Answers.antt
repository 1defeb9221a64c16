use Rattle.den_map.proofs.Sizing.{payload_sized}
use Rattle.den_map.proofs.map.Map.add_payload.Goals as goal

pub returns-in-Some-clause-size : goal.returns-in-Some-clause-size
returns-in-Some-clause-size c =
    payload_sized c.args.self.now c.add_region.new.self c.in-Some.region c.args.payload.now c.add_region.result c.add_region.ensures (rw c.in-Some.is at c.in_ok-read.ensures.some)
