-- The configuration that the bytes of a source give, and how a source is refused.
use Rattle.std.specs.Prelude.{◌≡◌, ℕ, List, Result, Ok, Err, if◌then◌else◌}
use Rattle.std.specs.Str.{is_utf8}
use Rattle.den_codec.specs.Nodes.{is_solo}
use Rattle.den_codec.specs.declared.config_place.ConfigPlace.{ConfigPlace}
use Rattle.den_codec.specs.declared.config_place.ConfigPlace.TheVariants.{Text, InitialCluster}
use Rattle.den_codec.specs.declared.error.Error.{Error}
use Rattle.den_codec.specs.declared.error.Error.TheVariants.{OutOfMemory, StorageIoError, DiskFull, LinkFault, DataCorruption, FeatureNotEnabled, ProposeFailed, UnorderedChunk, Config, ConfigFault, StateMachineError}
use Rattle.den_config.specs.Refusals.{and_then}
use Rattle.den_config.specs.Rows.{ConfigValues, configuration}

-- the configuration of a text that is given as bytes, or the first key whose test fails: no UTF-8 is no text
unfoldable pub configuration_in : List ℕ → Result ConfigValues ConfigPlace
configuration_in bytes = if is_utf8 bytes then configuration bytes else Err Text

-- a configuration of one voter: this node alone is no learner
abbrev pub with_one_voter : ConfigValues → Result ConfigValues ConfigPlace
with_one_voter c = if is_solo c.cluster.node_id c.cluster.initial_cluster then Ok c else Err InitialCluster

-- the configuration of one voter that bytes give, or the first key whose test fails, that of the voters last
unfoldable pub solo_configuration_in : List ℕ → Result ConfigValues ConfigPlace
solo_configuration_in bytes = and_then (configuration_in bytes) with_one_voter

-- A refusal of a source whose bytes have this outcome: the key that it has, where the source tells them; a fault, where its
-- count rose; or want of memory, which says nothing of either.
abbrev pub IsSourceRefusal : {A : Type 0} → Type 0 → Type 0 → Result A ConfigPlace → Error → Type 0
IsSourceRefusal rose told outcome OutOfMemory = Unit {0}
IsSourceRefusal rose told outcome ConfigFault = rose
IsSourceRefusal rose told outcome (Config key) = told → outcome ≡ Err key
IsSourceRefusal rose told outcome StorageIoError = ⊥
IsSourceRefusal rose told outcome (DiskFull needed limit) = ⊥
IsSourceRefusal rose told outcome LinkFault = ⊥
IsSourceRefusal rose told outcome (DataCorruption place offset) = ⊥
IsSourceRefusal rose told outcome FeatureNotEnabled = ⊥
IsSourceRefusal rose told outcome ProposeFailed = ⊥
IsSourceRefusal rose told outcome (UnorderedChunk index) = ⊥
IsSourceRefusal rose told outcome StateMachineError = ⊥
