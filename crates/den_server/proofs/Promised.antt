-- What a run promises, where less is known of its end, and where it was lent nothing but the disk.
use Rattle.std.proofs.Common.{◌≡◌, ◌↔◌, ℕ, IsTrue, IsOk, Result, Err, inl, inr, refl, sym, subst, arith}
use Rattle.den_disk.specs.declared.clock.Clock.{Ghosts as Clocks}
use Rattle.den_disk.specs.declared.disk.Disk.{Ghosts as Disks}
use Rattle.den_disk.specs.declared.link.Link.{Ghosts as Links}
use Rattle.den_disk.specs.declared.place.Family.TheVariants.{Snapshot}
use Rattle.den_disk.specs.Files.{Content, Files, Kind, IsImage}
use Rattle.den_disk.specs.Families.{NoNewImages}
use Rattle.den_disk.specs.Goes.{DiskGoesOn}
use Rattle.den_codec.specs.declared.error.Error.{Error}
use Rattle.den_codec.specs.declared.error.Error.TheVariants.{OutOfMemory}
use Rattle.den_model.specs.Image.{durable_in}
use Rattle.den_journal.specs.Writes.{DiskTells}
use Rattle.den_core.specs.Spared.{SparesFamily}
use Rattle.den_core.proofs.GoesOn.{disk_same, link_same, clock_same}
use Rattle.den_core.proofs.Spared.{spares_still}
use Rattle.den_server.specs.Opening.{IsUnwritten}
use Rattle.den_server.specs.Promises.{RunConfig, Runs, SendsPrefix, SurvivesCrash, SurvivesPending, AllGoOn, start}
use Rattle.den_server.proofs.Settled.{no_call, never_settles, settled_survives}
use Rattle.den_server.proofs.Surviving.{all_along, no_reading, opening_front, reading_image}

module _ {D L C : Type 0} (disk : Disks D) (link : Links L) (clock : Clocks C) where
  -- no call but of the disk was made
  pub disk_alone : (old new : D) (l : L) (c : C) → DiskGoesOn disk.kind disk.moment disk.images disk.faults old new
      → (DiskTells disk old → SparesFamily Snapshot disk.content disk.moment disk.images old new) → AllGoOn disk link clock old new l l c c
  disk_alone old new l c goes spares = record {
    disk_goes_on = goes;
    link_goes_on = link_same link.tells link.sent link.budget link.taken link.faults l;
    clock_goes_on = clock_same clock.tells clock.readings c;
    snapshot = spares;
  }

  -- no call was made
  pub no_call_goes_on : (d : D) (l : L) (c : C) → AllGoOn disk link clock d d l l c c
  no_call_goes_on d l c = disk_alone d d l c (disk_same disk.kind disk.moment disk.images disk.faults d) (λ told. spares_still Snapshot disk.content disk.moment disk.images d)

  module _ (config : RunConfig) (old new : D) (from to : L) (before after : C) where
    -- where each image at entry stands for one durable part, the crash clause holds from entry on
    pub survives_all_along : (ended_well : Type 0) → ((files : Files) → DiskTells disk old → disk.images old (disk.moment old) files ↔ IsImage (disk.content old) files)
        → SurvivesPending disk link clock config old new from to before after ended_well → SurvivesCrash disk link clock config old new from to before after
    survives_all_along ended_well now pending = λ kept told stands.
        all_along durable_in (disk.images old) (disk.images new) (disk.moment old) (disk.moment new) _ _ _ (start config kept) _ stands
        (pending kept told (stands.each (disk.content old).reading ((now (disk.content old).reading told.disk_tells).1 (reading_image (disk.content old)))))

    -- at every exit what was sent is a front of the plan's output
    pub sends_prefix : (ended_well : Type 0) → disk.kind new ≡ disk.kind old → ((files : Files) → DiskTells disk new → disk.images new (disk.moment new) files ↔ IsImage (disk.content new) files)
        → SurvivesPending disk link clock config old new from to before after ended_well → SendsPrefix disk link clock config old new from to before after
    sends_prefix ended_well same now pending = λ kept told reads.
        opening_front durable_in (disk.images old) (disk.images new) (disk.moment old) (disk.moment new) _ _ _ _ _ (disk.content new).reading
        ((now (disk.content new).reading (subst (λ (k : Kind). IsTrue k.tells) (sym same) told.disk_tells)).1 (reading_image (disk.content new))) (pending kept told reads)

    -- less is known of the end
    pub less_known : (ended_well less : Type 0) → (less → ended_well) → SurvivesPending disk link clock config old new from to before after ended_well
        → SurvivesPending disk link clock config old new from to before after less
    less_known ended_well less is pending = λ kept told reads.
        let s = pending kept told reads in
        record { synced = s.synced; low = s.low; high = s.high; reached = λ l. s.reached (is l); none = s.none; before = s.before; behind = s.behind }

  -- no call was made, and the run did not end well
  pub no_call_survives : (config : RunConfig) (d : D) (l : L) (c : C) (ended_well : Type 0) → (ended_well → ⊥) → SurvivesPending disk link clock config d d l l c c ended_well
  no_call_survives config d l c ended_well never = λ kept told reads.
      no_reading durable_in (disk.images d) (disk.images d) (disk.moment d) (disk.moment d) ended_well _ (link.sent l) (start config kept) config.frame_limit (link.left l) (clock.readings c)
      (settled_survives durable_in (disk.images d) (disk.images d) (disk.moment d) (disk.moment d) ended_well _ (disk.content d).reading (start config kept) reads (no_call (disk.images d) (disk.moment d))
      (never_settles (disk.images d) (disk.moment d) (disk.moment d) ended_well _ (disk.content d).reading (omega arith) never refl))

  -- where nothing is done nothing is written
  still_unwritten : (content : Content) (images : ℕ → Files → Type 0) (moment : ℕ) → IsUnwritten content content (NoNewImages images images moment moment)
  still_unwritten content images moment = record { content = record { reading = λ q. refl; pending = λ q k at. at }; images = no_call images moment }

  -- memory was wanting before any call was made
  pub not_run : (config : RunConfig) (d : D) (l : L) (c : C) → ((files : Files) → DiskTells disk d → disk.images d (disk.moment d) files ↔ IsImage (disk.content d) files)
      → Runs disk link clock config d d l l c c (Err OutOfMemory)
  not_run config d l c now =
      let answer : Result (Unit {0}) Error = Err OutOfMemory in
      let pending : SurvivesPending disk link clock config d d l l c c (IsOk answer) = no_call_survives config d l c (IsOk answer) (λ ok. cc ok) in
      record {
        served = record {};
        short = record {};
        state_short = record {};
        prefix = sends_prefix config d d l l c c (IsOk answer) refl now pending;
        any_moment = survives_all_along config d d l l c c (IsOk answer) now pending;
        opening = pending;
        refused = record {};
        turned_away = λ e told is. ((record {}, inr (inl refl)), still_unwritten (disk.content d) (disk.images d) (disk.moment d), refl, refl);
        complete = λ told link_tells none disk_calm link_calm small. inr refl;
      }
