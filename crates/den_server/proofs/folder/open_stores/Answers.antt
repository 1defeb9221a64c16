use Rattle.std.proofs.Common.{IsTrue, is_some, ◌≡◌, ◌≤◌, ◌+◌, ◌*◌, ⊎_elim, Ok, sym, subst, ap, ◌∙◌, arith}
use Rattle.den_disk.specs.declared.place.Family.TheVariants as family
use Rattle.den_disk.specs.Place.{place_number}
use Rattle.den_disk.specs.Files.{Files, Kind}
use Rattle.den_model.specs.Image.{map_in, slot_of}
use Rattle.den_model.specs.Sizes.{family_size, files_size}
use Rattle.den_store.specs.FileLog.{log_shown}
use Rattle.den_store.specs.FileMeta.{meta_shown}
use Rattle.den_server.specs.declared.folder.Stores.{Stores}
use Rattle.den_state.specs.Machine.{Settings}
use Rattle.den_server.specs.Opening.{IsRead, held_weight}
use Rattle.den_server.proofs.Ended.{rose_then}
use Rattle.den_server.proofs.Refused.{storage_unread, state_unread, unread_refused}
use Rattle.den_server.proofs.Settled.{same_reading, settled_or_same, never_settles, settles_now, settles_on}
use Rattle.den_server.proofs.folder.open_stores.Goals as goal
use Rattle.den_state.specs.FileState.{state_map, state_settings}

-- ---- why the files are refused

pub returns-in-Err-clause-refused : goal.returns-in-Err-clause-refused
returns-in-Err-clause-refused g c =
    let reading = (g.D.Disk.content c.args.disk.now).reading in
    unread_refused _ _ _ _ _ c.in-Err.error (λ r. r) (λ place offset h told. storage_unread (is_some c.args.lease) reading place offset (h told)) c.in-Err.ensures.refused

pub returns-in-Err-new-clause-refused : goal.returns-in-Err-new-clause-refused
returns-in-Err-new-clause-refused g c =
    let D = g.D.Disk in
    let d0 = c.args.disk.now in
    let d1 = c.new.new.disk in
    let storage = c.in-Ok.storage in
    let goes = λ (tells : IsTrue (D.kind d0).tells). subst (λ (k : Kind). IsTrue k.tells) (sym c.new.ensures.goes_on.same) tells in
    unread_refused _ _ _ _ _ c.in-Err-new.error
    (λ r. rose_then _ _ _ c.new.ensures.goes_on.counts r)
    (λ place offset h told.
    let same = same_reading (D.content d0) (D.content d1) (c.new.ensures.spares told) in
    let found = h (goes told) in
    state_unread (is_some c.args.lease) (D.content d0).reading (log_shown storage.log).value (meta_shown storage.meta).value place offset (c.in-Ok.ensures.log.value told) (c.in-Ok.ensures.meta.value told)
    (found.0 ∙ ap (λ (f : Files). place_number (slot_of family.State f)) same) (sym (ap map_in same) ∙ found.1))
    c.in-Err-new.ensures.opens.refused

-- ---- what was read

pub returns-in-Ok-new-clause-read : goal.returns-in-Ok-new-clause-read
returns-in-Ok-new-clause-read g c = λ told.
    let D = g.D.Disk in
    let c0 = D.content c.args.disk.now in
    let c1 = D.content c.new.new.disk in
    let told1 : IsTrue (D.kind c.new.new.disk).tells = subst (λ (k : Kind). IsTrue k.tells) (sym c.new.ensures.goes_on.same) told in
    let one : c1.reading ≡ c0.reading = same_reading c0 c1 (c.new.ensures.spares told) in
    subst (λ (s : Stores). IsRead c0.reading (log_shown s.log).value (meta_shown s.meta).value (state_map s.state)) (sym c.stores_of.ensures)
    (record {
      log = c.in-Ok.ensures.log.value told;
      hard_state = c.in-Ok.ensures.meta.value told;
      map = sym (ap map_in one) ∙ c.in-Ok-new.ensures.opens.opened.value told1 ∙ ap (λ m. Ok m) c.in-Ok-new.ensures.stored;
    })

pub returns-in-Ok-new-clause-weight : goal.returns-in-Ok-new-clause-weight
returns-in-Ok-new-clause-weight g c = λ told.
    let D = g.D.Disk in
    let c0 = D.content c.args.disk.now in
    let c1 = D.content c.new.new.disk in
    let told1 : IsTrue (D.kind c.new.new.disk).tells = subst (λ (k : Kind). IsTrue k.tells) (sym c.new.ensures.goes_on.same) told in
    let one : c1.reading ≡ c0.reading = same_reading c0 c1 (c.new.ensures.spares told) in
    let state : family_size family.State c1.reading ≡ family_size family.State c0.reading = ap (family_size family.State) one in
    subst (λ (s : Stores). held_weight s.log s.meta s.state ≤ 768 + 4 * files_size c0.reading) (sym c.stores_of.ensures)
    (omega (arith, c.in-Ok.ensures.log.weight told, c.in-Ok.ensures.meta.weight told, c.in-Ok-new.ensures.opens.opened.weight told1, state))

-- ---- from which moment on a crash leaves what was read

pub returns-in-Err-clause-settles : goal.returns-in-Err-clause-settles
returns-in-Err-clause-settles g c = λ told.
    let D = g.D.Disk in
    let d0 = c.args.disk.now in
    let d1 = c.new.new.disk in
    let told1 : IsTrue (D.kind d1).tells = subst (λ (k : Kind). IsTrue k.tells) (sym c.new.ensures.goes_on.same) told in
    let later : D.moment d0 ≤ D.moment d1 = (c.new.ensures.goes_on.told told).later in
    ⊎_elim
    (λ same. never_settles (D.images d1) (D.moment d0) (D.moment d1) _ _ (D.content d0).reading later (λ ok. cc ok) same)
    (λ none. settles_now (D.images d1) (D.moment d0) (D.moment d1) _ _ (D.content d0).reading (D.content d1) later (λ files. g.met.D.Disk.images_now d1 files told1)
    (same_reading (D.content d0) (D.content d1) (c.new.ensures.spares told)) none)
    (settled_or_same (Unit {0}) c.in-Err.error (D.content d0) (D.content d1) (c.in-Err.ensures.settled told))

pub returns-in-Err-new-clause-settles : goal.returns-in-Err-new-clause-settles
returns-in-Err-new-clause-settles g c = λ told.
    let D = g.D.Disk in
    let d0 = c.args.disk.now in
    let d1 = c.new.new.disk in
    let d2 = c.new-2.new.disk in
    let told1 : IsTrue (D.kind d1).tells = subst (λ (k : Kind). IsTrue k.tells) (sym c.new.ensures.goes_on.same) told in
    let goes = c.new-2.ensures.opens.goes_on.told told1 in
    settles_on (D.images d1) (D.images d2) (D.moment d0) (D.moment d1) (D.moment d2) (Unit {0}) _ (D.content d1 ≡ D.content d0) _ (D.content d0).reading goes.later (record {}) goes.past
    (c.new-2.ensures.opens.images told1)
    (settles_now (D.images d1) (D.moment d0) (D.moment d1) _ (D.content d1 ≡ D.content d0) (D.content d0).reading (D.content d1) (c.new.ensures.goes_on.told told).later
    (λ files. g.met.D.Disk.images_now d1 files told1)
    (same_reading (D.content d0) (D.content d1) (c.new.ensures.spares told)) (c.in-Ok.ensures.settled told))

pub returns-in-Ok-new-clause-settles : goal.returns-in-Ok-new-clause-settles
returns-in-Ok-new-clause-settles g c = λ told.
    let D = g.D.Disk in
    let d0 = c.args.disk.now in
    let d1 = c.new.new.disk in
    let d2 = c.new-2.new.disk in
    let told1 : IsTrue (D.kind d1).tells = subst (λ (k : Kind). IsTrue k.tells) (sym c.new.ensures.goes_on.same) told in
    let goes = c.new-2.ensures.opens.goes_on.told told1 in
    settles_on (D.images d1) (D.images d2) (D.moment d0) (D.moment d1) (D.moment d2) (Unit {0}) _ (D.content d1 ≡ D.content d0) _ (D.content d0).reading goes.later (record {}) goes.past
    (c.new-2.ensures.opens.images told1)
    (settles_now (D.images d1) (D.moment d0) (D.moment d1) _ (D.content d1 ≡ D.content d0) (D.content d0).reading (D.content d1) (c.new.ensures.goes_on.told told).later
    (λ files. g.met.D.Disk.images_now d1 files told1)
    (same_reading (D.content d0) (D.content d1) (c.new.ensures.spares told)) (c.in-Ok.ensures.settled told))

-- ---- leases

pub returns-in-Ok-new-clause-leased : goal.returns-in-Ok-new-clause-leased
returns-in-Ok-new-clause-leased g c = ap (λ (s : Stores). (state_settings s.state).leased) c.stores_of.ensures ∙ ap (λ (s : Settings). s.leased) c.in-Ok-new.ensures.settings
