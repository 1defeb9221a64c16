use Rattle.den_state.specs.Folds.{payload_taken}
use Rattle.den_state.proofs.stored_map.StoredMapFolded.take.Goals as goal

pub returns-clause-taken : goal.returns-clause-taken
returns-clause-taken c =
    let s = c.args.self.now in
    payload_taken (record { map = s.map; tail = s.tail }) c.args.payload.now c.add.new.self c.add.new.tail c.add.result c.add.ensures.map c.add.ensures.tail
