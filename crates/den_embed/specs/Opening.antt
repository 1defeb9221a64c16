-- What an opening of a folder's files leaves, and why it is refused.
use Rattle.std.specs.Prelude.{◌≡◌, ◌⊎◌, ℕ, List, [], Some, IsTrue}
use Rattle.den_disk.specs.declared.clock.Clock.{Ghosts as Clocks}
use Rattle.den_disk.specs.declared.disk.Disk.{Ghosts as Disks}
use Rattle.den_disk.specs.Goes.{added}
use Rattle.den_codec.specs.Standard.{entered, running_of}
use Rattle.den_codec.specs.declared.config.RaftNodeConfig.{RaftNodeConfig}
use Rattle.den_codec.specs.declared.error.Error.{Error}
use Rattle.den_model.specs.Image.{durable_in}
use Rattle.den_model.specs.Kv.{Durable}
use Rattle.den_model.specs.Plan.{after as state_after}
use Rattle.den_model.specs.Step.{Step}
use Rattle.den_journal.specs.Writes.{DiskTells, Faulted}
use Rattle.den_core.specs.Beginning.{beginning}
use Rattle.den_core.specs.Making.{Seen}
use Rattle.den_server.specs.Causes.{IsUnreadFolder}
use Rattle.den_server.specs.Folder.{Gives, Reads, core_of, stores_of}
use Rattle.den_server.specs.Opening.{SurvivesOpening, refusal_in}
use Rattle.den_server.specs.declared.folder.FolderParts.{FolderParts}
use Rattle.den_node.specs.Starting.{Begun, FailsToOpen, Opens}

-- the node of the configuration, of which a client is told so, with the milliseconds that the configuration has
pub record IsNamed (c : RaftNodeConfig) (node_id client_id timeout : ℕ) : Type 0 where
  pub node : node_id ≡ c.cluster.node_id
  pub client : client_id ≡ c.cluster.node_id
  pub waits : timeout ≡ c.raft.timeout_ms

module _ {D C : Type 0} (disk : Disks D) (clock : Clocks C) (c : RaftNodeConfig) (old new : D) (before after : C) where
  -- The folder's files were read, and over what they gave the opening was made, of an engine that can go on.
  pub record OpensFolder (now : Seen) : Type 0 where
    pub parts : FolderParts
    pub read : D
    pub reads : Reads disk old read (Unit {0})
    pub gives : Gives disk old read c parts
    pub begun : Begun disk clock (stores_of parts) (core_of parts) c read new before after
    pub opens : Opens disk clock (stores_of parts) (core_of parts) c read new before after now

  -- The files were not read: nothing was written, and no reading taken.
  pub record IsUnread (e : Error) : Type 0 where
    pub reads : Reads disk old new ⊥
    pub clock_is : after ≡ before
    pub cause : IsUnreadFolder (Faulted disk old new) (DiskTells disk old) (refusal_in c.raft.lease.enabled (disk.content old).reading) e

  -- They were read, and the opening over what they gave was refused.
  pub record IsUnopened (e : Error) : Type 0 where
    pub parts : FolderParts
    pub read : D
    pub reads : Reads disk old read (Unit {0})
    pub gives : Gives disk old read c parts
    pub begun : Begun disk clock (stores_of parts) (core_of parts) c read new before after
    pub fails : FailsToOpen disk clock (stores_of parts) (core_of parts) c read new before after e

  -- why a folder is not opened
  abbrev pub FailsFolder : Error → Type 0
  FailsFolder e = IsUnread e ⊎ IsUnopened e

  -- ---- what the files stood for

  -- the steps of the opening, of files that stand for a durable part
  abbrev pub opening_steps : Durable → List Step
  opening_steps kept = beginning kept (running_of c) (added (clock.readings before) (clock.readings after))

  -- the engine is in the state that the opening's steps make of what was read
  abbrev pub HoldsOpening : Seen → Type 0
  HoldsOpening now = (kept : Durable) → DiskTells disk old → IsTrue (clock.tells after) → durable_in (disk.content old).reading ≡ Some kept
      → now.kv ≡ state_after (entered c kept) (opening_steps kept)

  -- Until the first sync that succeeds a crash leaves what it could leave at entry; from then on what some of the opening's steps
  -- make of what was read.
  abbrev pub SurvivesStart : (ended_well : Type 0) → Type 0
  SurvivesStart ended_well = (kept : Durable) → DiskTells disk old → IsTrue (clock.tells after) → durable_in (disk.content old).reading ≡ Some kept
      → SurvivesOpening durable_in (disk.images old) (disk.images new) (disk.moment old) (disk.moment new) ended_well (disk.content new ≡ disk.content old) [] (entered c kept) (opening_steps kept)

  -- ---- what a start promises

  -- An engine was started, of the node that the configuration names: the opening was made over what the files gave, the state is
  -- the one that its steps make of what was read, and a crash at any moment leaves what some of them make.
  pub record Starts (now : Seen) (node_id client_id timeout : ℕ) : Type 0 where
    pub opens : OpensFolder now
    pub stands : HoldsOpening now
    pub survives : SurvivesStart (Unit {0})
    pub named : IsNamed c node_id client_id timeout

  -- none was started: why, and what a crash leaves
  pub record FailsToStart (e : Error) : Type 0 where
    pub cause : FailsFolder e
    pub survives : SurvivesStart ⊥
