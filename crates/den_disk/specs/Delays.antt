-- What a pause in memory tells.
use Rattle.std.specs.Prelude.{ℕ, Bool, not, List, take, length}
use Rattle.den_disk.specs.declared.list_pause.ListPause.{ListPause}

-- how many delays it has room for
abbrev pub room_of : ListPause → ℕ
room_of p = length p.room.items

-- no delay was left out
abbrev pub has_room : ListPause → Bool
has_room p = not p.over

-- the delays that it kept, in order
abbrev pub kept_delays : ListPause → List ℕ
kept_delays p = take p.kept p.room.items
