-- Entries that fit their words.
use Rattle.std.proofs.Common.{List}
use Rattle.std.proofs.Props.{props}
use Rattle.std.specs.List.{AllByRecursion, AllByRecursion-prop}
use Rattle.den_model.specs.declared.command.Command.{Command}
use Rattle.den_model.specs.declared.command.Command.TheVariants as command
use Rattle.den_model.specs.Entries.{LogEntry}
use Rattle.den_model.specs.Words.{FitsCommand, FitsEntry}

command_prop : (c : Command) → IsProp (FitsCommand c)
command_prop command.Noop = Prim.hlevel props
command_prop (command.Insert key value ttl_secs) = Prim.hlevel props
command_prop (command.Delete key) = Prim.hlevel props
command_prop (command.CompareAndSwap key expected value) = Prim.hlevel props

entry_prop : (e : LogEntry) → IsProp (FitsEntry e)
entry_prop e = let command = command_prop e.command in Prim.hlevel (command, props)

-- that they fit is a fact
pub fits_prop : (es : List LogEntry) → IsProp (AllByRecursion FitsEntry es)
fits_prop es = AllByRecursion-prop FitsEntry entry_prop es
