use Rattle.std.proofs.Common.{Bool, IsTrue, le_trans, ◌≤◌, ◌+◌, ◌*◌, ℕ, [], Ok, refl, sym, subst, ap, ◌∙◌, arith}
use Rattle.den_disk.specs.Files.{Kind}
use Rattle.den_disk.specs.Goes.{Rose}
use Rattle.den_model.specs.Image.{durable_in}
use Rattle.den_model.specs.Kv.{Kv, Running}
use Rattle.den_codec.specs.Standard.{entered}
use Rattle.den_core.specs.Cores.{running_under, solo_view}
use Rattle.den_core.specs.Opening.{opening_refusal, IsOpeningFailure}
use Rattle.den_store.specs.FileLog.{log_shown, file_place}
use Rattle.den_store.specs.FileMeta.{meta_shown}
use Rattle.den_disk.specs.Families.{NoNewImages}
use Rattle.den_core.specs.Full.{IsFullBy, IsSlotTooShort}
use Rattle.den_core.specs.PayloadSizes.{chunk_sizes, opened_sizes}
use Rattle.den_core.specs.Weights.{trim_rise}
use Rattle.den_core.proofs.Weighing.{led_among, short_slot}
use Rattle.den_server.specs.Causes.{IsCatchUpTooShort, IsUnreadFolder, most_run}
use Rattle.den_model.specs.Log.{above}
use Rattle.den_model.specs.Sizes.{entries_size, files_size, store_rise}
use Rattle.den_server.specs.Opening.{refusal_in, held_weight, opened_weight, IsUnwritten}
use Rattle.den_server.proofs.Ended.{rose_then, some_same, kv_is}
use Rattle.den_server.proofs.Entered.{running_is, leads_of}
use Rattle.den_server.proofs.Refused.{read_refusal, read_durable, folder_refused, failure_refused, some_refused, if_err_two, if_ok_weaker, if_ok_two, if_ok_on, above_size}
use Rattle.den_server.proofs.Settled.{spares_read, no_call, never_settles, settled_survives}
use Rattle.den_server.proofs.Surviving.{opening_then}
use Rattle.den_disk.specs.declared.place.Family.TheVariants.{Snapshot as snapshot_family}
use Rattle.den_core.proofs.Spared.{spares_still, spares_twice}
use Rattle.den_server.proofs.folder.open_folder.Goals as goal
use Rattle.den_state.specs.FileState.{state_map, state_settings}

-- ---- what a crash leaves

pub returns-in-Err-clause-opening : goal.returns-in-Err-clause-opening
returns-in-Err-clause-opening g c = λ kept told stands.
    let D = g.D.Disk in
    let disk = c.args.disk.now in
    let mid = c.open_parts.new.disk in
    settled_survives durable_in (D.images disk) (D.images mid) (D.moment disk) (D.moment mid) _ _ (D.content disk).reading (entered c.args.config.now kept) stands (c.in-Err.ensures.reads.images told)
    (c.in-Err.ensures.reads.settles told)

pub returns-clause-opening : goal.returns-clause-opening
returns-clause-opening g c = λ kept told stands.
    let D = g.D.Disk in
    let disk = c.args.disk.now in
    let mid = c.open_parts.new.disk in
    let told1 : IsTrue (D.kind mid).tells = subst (λ (k : Kind). IsTrue k.tells) (sym c.in-Ok.ensures.reads.goes_on.same) told in
    let goes = c.recover.ensures.disk.told told1 in
    let start = entered c.args.config.now kept in
    let core = c.in-Ok.parts.core in
    let joint = read_durable (D.content disk).reading _ _ _ (c.in-Ok.ensures.gives.read told) in
    opening_then durable_in (D.images disk) (D.images mid) (D.images c.recover.new.disk) (D.moment disk) (D.moment mid) (D.moment c.recover.new.disk) _ _ _ _ [] start
    (record { durable = kept; running = running_under c.args.config.now (solo_view core.node.id core.term) (state_settings c.in-Ok.parts.state).leased }) (λ (k : Kv). []) refl goes.later goes.past
    (settled_survives durable_in (D.images disk) (D.images mid) (D.moment disk) (D.moment mid) _ _ (D.content disk).reading start stands (c.in-Ok.ensures.reads.images told)
    (c.in-Ok.ensures.reads.settles told))
    (ap (λ (r : Running). record { durable = kept; running = r })
    (running_is c.args.config.now (solo_view core.node.id core.term) _ c.in-Ok.ensures.gives.core (c.in-Ok.ensures.gives.leased)))
    (c.recover.ensures.survives kept told1 (tt, tt, tt) (sym joint ∙ stands))

-- ---- what the engine holds

pub returns-clause-kv : goal.returns-clause-kv
returns-clause-kv g c = if_ok_two c.recover.result _ _ _
    (λ engine opened running kept told stands. let core = c.in-Ok.parts.core in kv_is _ kept _
    (some_same _ _ kept opened (sym (read_durable (g.D.Disk.content c.args.disk.now).reading _ _ _ (c.in-Ok.ensures.gives.read told)) ∙ stands))
    (running ∙ running_is c.args.config.now (solo_view core.node.id core.term) _ c.in-Ok.ensures.gives.core (c.in-Ok.ensures.gives.leased)))
    c.recover.ensures.opened c.recover.ensures.running

pub returns-clause-leads : goal.returns-clause-leads
returns-clause-leads g c = if_ok_weaker c.recover.result _ _
    (λ engine running. let core = c.in-Ok.parts.core in leads_of _ c.args.config.now
    (running ∙ running_is c.args.config.now (solo_view core.node.id core.term) _ c.in-Ok.ensures.gives.core (c.in-Ok.ensures.gives.leased)))
    c.recover.ensures.running

pub returns-clause-log : goal.returns-clause-log
returns-clause-log g c = if_ok_weaker c.recover.result _ _ (λ engine is told. (c.in-Ok.ensures.gives.read told).log ∙ ap Ok (sym is)) c.recover.ensures.log

-- what the stores weighed, and the entries that were applied
lighter : (held entries more bytes : ℕ) → held ≤ 768 + 4 * bytes → entries ≤ bytes → more ≤ entries → held + store_rise more + trim_rise ≤ opened_weight bytes
lighter held entries more bytes stores all some = omega (arith, stores, all, some)

pub returns-clause-weight : goal.returns-clause-weight
returns-clause-weight g c = if_ok_weaker c.recover.result _ _
    (λ engine weight told.
    let stores = c.in-Ok.parts in
    let more = entries_size (above (state_map stores.state).mark.index (log_shown stores.log).value.entries) in
    let got : held_weight engine.log engine.meta engine.state ≤ held_weight stores.log stores.meta stores.state + store_rise more + trim_rise = weight in
    let most = lighter (held_weight stores.log stores.meta stores.state) (entries_size (log_shown stores.log).value.entries) more (files_size (g.D.Disk.content c.args.disk.now).reading)
    (c.in-Ok.ensures.gives.weight told) (c.in-Ok.ensures.gives.entries told) (above_size (state_map stores.state).mark.index (log_shown stores.log).value.entries) in
    le_trans got most)
    c.recover.ensures.weight

-- ---- why files are refused

pub returns-clause-accepted : goal.returns-clause-accepted
returns-clause-accepted g c = if_ok_on c.recover.result _ _
    (λ engine none told. read_refusal c.args.config.now.raft.lease.enabled (state_settings c.in-Ok.parts.state).leased (g.D.Disk.content c.args.disk.now).reading _ _ _ _
    (c.in-Ok.ensures.gives.leased) (c.in-Ok.ensures.gives.read told) (c.in-Ok.ensures.gives.place told) ∙ none)
    c.recover.ensures.unrefused

pub returns-in-Err-clause-refused : goal.returns-in-Err-clause-refused
returns-in-Err-clause-refused g c =
    let D = g.D.Disk in
    let disk = c.args.disk.now in
    folder_refused (Rose (D.faults disk) (D.faults c.open_parts.new.disk)) (IsTrue (D.kind disk).tells) (refusal_in c.args.config.now.raft.lease.enabled (D.content disk).reading)
    (λ most needed. IsCatchUpTooShort (D.content disk).reading most needed (D.content c.open_parts.new.disk).reading) (D.kind disk).limit (files_size (D.content disk).reading)
    c.in-Err.error
    c.in-Err.ensures.refused

pub returns-clause-refused : goal.returns-clause-refused
returns-clause-refused g c = if_err_two c.recover.result _ _ _
    (λ e failure full.
    let D = g.D.Disk in
    let disk = c.args.disk.now in
    let stores = c.in-Ok.parts in
    let rose = Rose (D.faults c.open_parts.new.disk) (D.faults c.recover.new.disk) in
    let enabled = c.args.config.now.raft.lease.enabled in
    let leased = (state_settings stores.state).leased in
    let refusal = opening_refusal leased (file_place stores.log) (log_shown stores.log).value (meta_shown stores.meta).value (state_map stores.state) in
    let entries = (log_shown stores.log).value.entries in
    let more = entries_size (above (state_map stores.state).mark.index entries) in
    let weight = held_weight stores.log stores.meta stores.state + store_rise more + trim_rise in
    let role = (solo_view c.in-Ok.parts.core.node.id c.in-Ok.parts.core.term).role in
    let most_kept = c.args.config.now.raft.max_log_entries in
    let chunk = above (state_map stores.state).mark.index entries in
    let sizes = opened_sizes role most_kept (log_shown stores.log).value (state_map stores.state) chunk in
    failure_refused rose _ (IsTrue (D.kind disk).tells) _ (refusal_in enabled (D.content disk).reading)
    (λ needed. IsSlotTooShort sizes weight needed (D.content c.recover.new.disk).reading) (λ most needed. IsCatchUpTooShort (D.content disk).reading most needed (D.content c.recover.new.disk).reading) (D.kind disk).limit weight (files_size (D.content disk).reading) leased (file_place stores.log)
    (log_shown stores.log).value (meta_shown stores.meta).value (state_map stores.state) e
    (λ r. rose_then _ _ _ c.in-Ok.ensures.reads.goes_on.counts r) (λ told. (told, (tt, tt, tt)))
    (λ needed told le short. record {
      log = (log_shown stores.log).value;
      map = state_map stores.state;
      log_read = (c.in-Ok.ensures.gives.read told).log;
      map_read = (c.in-Ok.ensures.gives.read told).map;
      short = short_slot sizes (chunk_sizes (state_map stores.state) chunk) weight (most_run (files_size (D.content disk).reading) 0) needed (D.content c.recover.new.disk).reading
          (led_among role most_kept (log_shown stores.log).value refl (state_map stores.state) chunk) le short;
    })
    (λ told. read_refusal enabled leased (D.content disk).reading _ _ _ _ (c.in-Ok.ensures.gives.leased) (c.in-Ok.ensures.gives.read told) (c.in-Ok.ensures.gives.place told))
    (λ told. lighter (held_weight stores.log stores.meta stores.state) (entries_size entries) more (files_size (D.content disk).reading)
    (c.in-Ok.ensures.gives.weight told) (c.in-Ok.ensures.gives.entries told) (above_size (state_map stores.state).mark.index entries))
    (subst (λ (k : Kind). IsOpeningFailure rose k.limit refusal e) c.in-Ok.ensures.reads.goes_on.same failure)
    (subst (λ (k : Kind). IsFullBy (IsTrue k.tells × (Unit {0} × Unit {0} × Unit {0})) (λ needed. IsSlotTooShort sizes weight needed (D.content c.recover.new.disk).reading) k.limit weight e) c.in-Ok.ensures.reads.goes_on.same full))
    c.recover.ensures.refused c.recover.ensures.full

pub returns-clause-untouched : goal.returns-clause-untouched
returns-clause-untouched g c = λ e told is.
    let D = g.D.Disk in
    let first = c.args.disk.now in
    let mid = c.open_parts.new.disk in
    let stores = c.in-Ok.parts in
    let enabled = c.args.config.now.raft.lease.enabled in
    let leased = (state_settings stores.state).leased in
    let some = some_refused (refusal_in enabled (D.content first).reading)
    (opening_refusal leased (file_place stores.log) (log_shown stores.log).value (meta_shown stores.meta).value (state_map stores.state)) e
    (read_refusal enabled leased (D.content first).reading _ _ _ _ (c.in-Ok.ensures.gives.leased) (c.in-Ok.ensures.gives.read told) (c.in-Ok.ensures.gives.place told)) is in
    subst (λ d. IsUnwritten (D.content first) (D.content d) (NoNewImages (D.images first) (D.images d) (D.moment first) (D.moment d))) (sym (c.recover.ensures.untouched some))
    (record { content = c.in-Ok.ensures.reads.spares told; images = c.in-Ok.ensures.reads.images told })

-- ---- the files of the snapshot

pub returns-in-Err-clause-snapshot : goal.returns-in-Err-clause-snapshot
returns-in-Err-clause-snapshot g c = λ told.
    spares_read snapshot_family g.D.Disk.content g.D.Disk.moment g.D.Disk.images c.args.disk.now c.open_parts.new.disk (c.in-Err.ensures.reads.spares told) (c.in-Err.ensures.reads.images told)

pub returns-clause-snapshot : goal.returns-clause-snapshot
returns-clause-snapshot g c =
    spares_twice g.D.Disk.kind g.D.Disk.content g.D.Disk.moment g.D.Disk.images g.D.Disk.faults snapshot_family c.args.disk.now c.open_parts.new.disk c.recover.new.disk
    c.in-Ok.ensures.reads.goes_on c.recover.ensures.disk
    (λ told. spares_read snapshot_family g.D.Disk.content g.D.Disk.moment g.D.Disk.images c.args.disk.now c.open_parts.new.disk (c.in-Ok.ensures.reads.spares told) (c.in-Ok.ensures.reads.images told))
    c.recover.ensures.snapshot
