-- The stores of a folder, opened for an engine of one's own: what that leaves of the disk, and what they hold.
use Rattle.std.specs.Prelude.{◌≡◌, ◌≤◌, ◌+◌, ◌*◌, ℕ}
use Rattle.den_disk.specs.declared.disk.Disk.{Ghosts as Disks}
use Rattle.den_disk.specs.declared.place.Family.TheVariants.{Log as log_family}
use Rattle.den_disk.specs.Families.{NoNewImages, SparesAll}
use Rattle.den_disk.specs.Goes.{DiskGoesOn}
use Rattle.den_disk.specs.Place.{place_number}
use Rattle.den_codec.specs.declared.config.RaftNodeConfig.{RaftNodeConfig}
use Rattle.den_model.specs.Image.{slot_of}
use Rattle.den_model.specs.Sizes.{entries_size, files_size}
use Rattle.den_journal.specs.Writes.{DiskTells}
use Rattle.den_store.specs.FileLog.{log_held, log_shown, file_place}
use Rattle.den_store.specs.FileMeta.{meta_shown, state_held}
use Rattle.den_state.specs.FileState.{map_held, state_map, state_settings, state_shown}
use Rattle.den_state.specs.Machine.{AtRest}
use Rattle.den_core.specs.Cores.{CoreView, solo_view}
use Rattle.den_core.specs.Parts.{AllRest}
use Rattle.den_server.specs.Custom.{Stores, says_of}
use Rattle.den_server.specs.Opening.{AllReady, IsRead, Settles, held_weight}
use Rattle.den_server.specs.declared.folder.FolderParts.{FolderParts}

-- the three stores as a server over stores of somebody's own sees them
abbrev pub stores_of : FolderParts → Stores
stores_of p = record {
  log = log_shown p.log;
  meta = meta_shown p.meta;
  state = state_shown p.state;
  map = state_map p.state;
  place = file_place p.log;
  leased = (state_settings p.state).leased;
  says = says_of log_held state_held map_held;
}

-- the core as its callers see it
abbrev pub core_of : FolderParts → CoreView
core_of p = solo_view p.core.node.id p.core.term

module _ {D : Type 0} (disk : Disks D) (old new : D) where
  -- A folder's files were read, after a sync of all: nothing was written, and from the first sync that succeeds on, which
  -- there is where it ended well, a crash leaves what was read.
  pub record Reads (ended_well : Type 0) : Type 0 where
    pub goes_on : DiskGoesOn disk.kind disk.moment disk.images disk.faults old new
    pub images : DiskTells disk old → NoNewImages (disk.images old) (disk.images new) (disk.moment old) (disk.moment new)
    pub spares : DiskTells disk old → SparesAll (disk.content old) (disk.content new)
    pub settles : DiskTells disk old → Settles (disk.images new) (disk.moment old) (disk.moment new) ended_well (disk.content new ≡ disk.content old) (disk.content old).reading

  -- What the folder gave under a configuration: what the files stand for, each store ready and at rest, with a lease where one
  -- is configured; and a core that leads alone, before its first term.
  pub record Gives (c : RaftNodeConfig) (p : FolderParts) : Type 0 where
    pub read : DiskTells disk old → IsRead (disk.content old).reading (log_shown p.log).value (meta_shown p.meta).value (state_map p.state)
    pub place : DiskTells disk old → file_place p.log ≡ place_number (slot_of log_family (disk.content old).reading)
    pub weight : DiskTells disk old → held_weight p.log p.meta p.state ≤ 768 + 4 * files_size (disk.content old).reading
    pub entries : DiskTells disk old → entries_size (log_shown p.log).value.entries ≤ files_size (disk.content old).reading
    pub leased : (state_settings p.state).leased ≡ c.raft.lease.enabled
    pub core : core_of p ≡ solo_view c.cluster.node_id 0
    pub ready : AllReady (log_shown p.log).ready (meta_shown p.meta).ready (state_shown p.state).ready
    pub rests : DiskTells disk old → AllRest ((log_shown p.log).rests (disk.content new)) ((meta_shown p.meta).rests (disk.content new)) (AtRest (state_shown p.state) (state_map p.state) (disk.content new))
