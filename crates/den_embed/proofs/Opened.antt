-- What an opening of a folder makes of what its files stood for.
use Rattle.std.proofs.Common.{◌≡◌, ◌⊎◌, inl, inr, ⊎_elim, ℕ, List, [], Some, IsTrue, refl, sym, ap, ◌∙◌, subst}
use Rattle.den_disk.specs.declared.clock.Clock.{Ghosts as Clocks}
use Rattle.den_disk.specs.declared.disk.Disk.{Ghosts as Disks}
use Rattle.den_disk.specs.Files.{Kind}
use Rattle.den_disk.specs.Goes.{added}
use Rattle.den_codec.specs.Standard.{entered, running_of}
use Rattle.den_codec.specs.declared.config.RaftNodeConfig.{RaftNodeConfig}
use Rattle.den_codec.specs.declared.error.Error.{Error}
use Rattle.den_model.specs.Image.{durable_in}
use Rattle.den_model.specs.Kv.{Durable, Kv, Running}
use Rattle.den_model.specs.Plan.{after as state_after, plan}
use Rattle.den_model.specs.Step.{Step}
use Rattle.den_journal.specs.Writes.{DiskTells}
use Rattle.den_state.specs.FileState.{state_settings}
use Rattle.den_core.specs.Beginning.{beginning, start}
use Rattle.den_core.specs.Making.{Seen}
use Rattle.den_core.proofs.Lists.{added_none}
use Rattle.den_server.specs.Custom.{Keep}
use Rattle.den_server.specs.Folder.{Gives, Reads, core_of, stores_of}
use Rattle.den_server.specs.Opening.{SurvivesOpening}
use Rattle.den_server.specs.declared.folder.FolderParts.{FolderParts}
use Rattle.den_server.proofs.Ended.{some_same}
use Rattle.den_server.proofs.Entered.{running_is}
use Rattle.den_server.proofs.Refused.{read_durable}
use Rattle.den_server.proofs.Settled.{settled_survives}
use Rattle.den_server.proofs.Surviving.{opening_then}
use Rattle.den_node.specs.declared.error.NodeError.{NodeError}
use Rattle.den_node.specs.Building.{FailsAs}
use Rattle.den_node.specs.Starting.{Begun, FailsToOpen, Opens, run_of}
use Rattle.den_embed.specs.Opening.{FailsFolder, FailsToStart, HoldsOpening, IsNamed, IsUnread, OpensFolder, Starts, SurvivesStart}
use Rattle.den_embed.proofs.Results.{fails_so}

-- files that were read so were read, however that ended
pub reads_so : {D : Type 0} (disk : Disks D) (old new : D) (P Q : Type 0) → (Q → P) → Reads disk old new P → Reads disk old new Q
reads_so disk old new P Q f reads = record {
  goes_on = reads.goes_on;
  images = reads.images;
  spares = reads.spares;
  settles = λ told. let s = reads.settles told in record {
    synced = s.synced;
    low = s.low;
    high = s.high;
    reached = λ q. s.reached (f q);
    none = s.none;
    each = s.each;
  };
}

module _ {D C : Type 0} (disk : Disks D) (clock : Clocks C) (c : RaftNodeConfig) (old new : D) (before after : C) where
  -- the run's part is the configuration's
  runs_so : (parts : FolderParts) (read : D) → Gives disk old read c parts → run_of (stores_of parts) (core_of parts) c ≡ running_of c
  runs_so parts read gives = running_is c (core_of parts) (state_settings parts.state).leased gives.core gives.leased

  -- the stores stand for what was read
  keeps_so : (parts : FolderParts) (read : D) (kept : Durable) → Gives disk old read c parts → DiskTells disk old → durable_in (disk.content old).reading ≡ Some kept → Keep (stores_of parts) kept
  keeps_so parts read kept gives told stands = sym (read_durable (disk.content old).reading _ _ _ (gives.read told)) ∙ stands

  pub holds_opening : (now : Seen) → OpensFolder disk clock c old new before after now → HoldsOpening disk clock c old new before after now
  holds_opening now o kept told clock_told stands =
      let same : o.opens.kept ≡ kept = some_same _ o.opens.kept kept o.opens.is_kept (keeps_so o.parts o.read kept o.gives told stands) in
      let runs = runs_so o.parts o.read o.gives in
      o.opens.state clock_told ∙ (λ i. state_after (start (same i) (runs i)) (beginning (same i) (runs i) (added (clock.readings before) (clock.readings after))))

  -- the files were read, and the opening was begun over what they gave
  survives_begun : (ended_well : Type 0) (parts : FolderParts) (read : D) → Reads disk old read (Unit {0}) → Gives disk old read c parts
      → Begun disk clock (stores_of parts) (core_of parts) c read new before after → SurvivesStart disk clock c old new before after ended_well
  survives_begun ended_well parts read reads gives begun kept told clock_told stands =
      let told1 : DiskTells disk read = subst (λ (k : Kind). IsTrue k.tells) (sym reads.goes_on.same) told in
      let goes = begun.goes_on.told told1 in
      let runs = runs_so parts read gives in
      opening_then durable_in (disk.images old) (disk.images read) (disk.images new) (disk.moment old) (disk.moment read) (disk.moment new) _ _ _ _ [] (entered c kept)
      (start kept (run_of (stores_of parts) (core_of parts) c)) (λ (k : Kv). plan k [] (added (clock.readings before) (clock.readings after))) tt goes.later goes.past
      (settled_survives durable_in (disk.images old) (disk.images read) (disk.moment old) (disk.moment read) _ _ (disk.content old).reading (entered c kept) stands (reads.images told) (reads.settles told))
      (λ i. start kept (runs i))
      (begun.survives kept told1 clock_told (tt, tt, tt) (keeps_so parts read kept gives told stands))

  pub survives_opened : (now : Seen) → OpensFolder disk clock c old new before after now → SurvivesStart disk clock c old new before after (Unit {0})
  survives_opened now o = survives_begun (Unit {0}) o.parts o.read o.reads o.gives o.begun

  -- the files were not read, and no reading was taken
  survives_unread : (e : Error) → IsUnread disk clock c old new before after e → SurvivesStart disk clock c old new before after ⊥
  survives_unread e u kept told clock_told stands =
      let none : added (clock.readings before) (clock.readings after) ≡ [] = ap (λ (x : C). added (clock.readings before) (clock.readings x)) u.clock_is ∙ added_none (clock.readings before) in
      subst (λ (r : List ℕ). SurvivesOpening durable_in (disk.images old) (disk.images new) (disk.moment old) (disk.moment new) ⊥ (disk.content new ≡ disk.content old) [] (entered c kept) (beginning kept (running_of c) r))
      (sym none)
      (settled_survives durable_in (disk.images old) (disk.images new) (disk.moment old) (disk.moment new) _ _ (disk.content old).reading (entered c kept) stands (u.reads.images told) (u.reads.settles told))

  pub survives_failed : (e : Error) → FailsFolder disk clock c old new before after e → SurvivesStart disk clock c old new before after ⊥
  survives_failed e fails = ⊎_elim (survives_unread e) (λ u. survives_begun ⊥ u.parts u.read u.reads u.gives u.begun) fails

  -- ---- what a start promises

  pub starts : (now : Seen) (parts : FolderParts) (read : D) (node_id client_id timeout : ℕ) → Reads disk old read (Unit {0}) → Gives disk old read c parts
      → Begun disk clock (stores_of parts) (core_of parts) c read new before after → Opens disk clock (stores_of parts) (core_of parts) c read new before after now
      → IsNamed c node_id client_id timeout → Starts disk clock c old new before after now node_id client_id timeout
  starts now parts read node_id client_id timeout reads gives begun opens named =
      let o : OpensFolder disk clock c old new before after now = record { parts = parts; read = read; reads = reads; gives = gives; begun = begun; opens = opens } in
      record { opens = o; stands = holds_opening now o; survives = survives_opened now o; named = named }

  fails : (e : Error) → FailsFolder disk clock c old new before after e → FailsToStart disk clock c old new before after e
  fails e f = record { cause = f; survives = survives_failed e f }

  pub fails_unread : (e : Error) → IsUnread disk clock c old new before after e → FailsToStart disk clock c old new before after e
  fails_unread e u = fails e (inl u)

  pub fails_unopened : (e : NodeError) (parts : FolderParts) (read : D) → Reads disk old read (Unit {0}) → Gives disk old read c parts
      → Begun disk clock (stores_of parts) (core_of parts) c read new before after
      → FailsAs (FailsToOpen disk clock (stores_of parts) (core_of parts) c read new before after) e → FailsAs (FailsToStart disk clock c old new before after) e
  fails_unopened e parts read reads gives begun = fails_so _ _ e
      (λ x f. fails x (inr (record { parts = parts; read = read; reads = reads; gives = gives; begun = begun; fails = f })))
