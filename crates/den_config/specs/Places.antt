-- Where a key leads in a table.
use Rattle.std.specs.Prelude.{ℕ, Bool, true, false, List, [], ◌∷◌, Option, Some, None, is_some}
use Rattle.toml.specs.Data.{Data, get, as_table}
use Rattle.toml.specs.View.{view}
use Rattle.den_codec.specs.declared.config_place.ConfigPlace.{ConfigPlace}
use Rattle.den_config.specs.declared.place.Place.{Place}
use Rattle.den_config.specs.declared.place.Place.TheVariants.{Missing, Holds, Blocked}
use Rattle.den_codec.specs.ConfigPlaces.{path}

-- what stands where a key leads: nothing, a value, or no table where one is to hold the key
pub data Standing : Type 0 where
  missing : Standing
  holds : Data → Standing
  blocked : Standing

-- the same of the program's place
abbrev pub standing : Place → Standing
standing Missing = missing
standing (Holds value) = holds (view value.now)
standing Blocked = blocked

-- what a look-up leads to, by whether it was in a table
abbrev pub led : Option Data → Bool → Standing
led (Some d) in_table = holds d
led None true = missing
led None false = blocked

-- the place of a key in the table that stands at a place
abbrev pub below : List ℕ → Standing → Standing
below key missing = missing
below key (holds d) = led (get key d) (is_some (as_table d))
below key blocked = blocked

-- the place where keys lead, one behind the other
abbrev pub along : List (List ℕ) → Standing → Standing
along [] at = at
along (key ∷ keys) at = along keys (below key at)

-- the place of a key of the configuration, below the root's table
unfoldable pub place : ConfigPlace → Data → Standing
place key root = along (path key) (holds root)
