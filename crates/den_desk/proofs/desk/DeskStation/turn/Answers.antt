use Rattle.den_desk.proofs.Replays.{turned_is}
use Rattle.den_desk.proofs.desk.DeskStation.turn.Goals as goal

pub returns-clause-turned : goal.returns-clause-turned
returns-clause-turned g c = turned_is g.D.Disk _ _ _ _ _ _ _ _ _ _ _ _ c.requires.lawful (λ none. (c.turn.ensures.untouched none).3) c.turn.ensures.added
