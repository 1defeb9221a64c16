use Rattle.std.proofs.Common.{◌≡◌, ◌∷◌, [], sym, ap, subst}
use Rattle.den_disk.specs.declared.disk.Disk.{Ghosts}
use Rattle.den_disk.specs.declared.place.Family.TheVariants.{Log as log_family, Meta as meta_family, Snapshot as snapshot_family, State as state_family}
use Rattle.den_journal.specs.Writes.{DiskTells, Moves}
use Rattle.den_journal.specs.Shown.{Held}
use Rattle.den_model.specs.Log.{Log}
use Rattle.den_model.specs.MapState.{MapState}
use Rattle.den_state.specs.Machine.{AtRest, rest_hold}
use Rattle.den_core.specs.Joined.{durable_is}
use Rattle.den_core.specs.Parts.{kv_of}
use Rattle.den_core.proofs.Quiet.{stays}
use Rattle.den_core.proofs.Spared.{all_give, gives_now, meta_log, snapshot_log, snapshot_state, spared, spares_by, spares_twice, state_log}
use Rattle.den_core.proofs.engine.Engine.close.Goals as goal

-- the files of the map and of the log are no snapshot
pub returns-clause-snapshot : goal.returns-clause-snapshot
returns-clause-snapshot g c =
    let D = g.D.Disk in
    let old = c.args.disk.now in
    let mid = c.close.new.disk in
    let new = c.close-2.new.disk in
    spares_twice D.kind D.content D.moment D.images D.faults snapshot_family old mid new c.close.ensures.closes.goes_on c.close-2.ensures.ends.goes_on
    (λ told. let moves = c.close.ensures.closes.moves told in
    spares_by state_family snapshot_family D.content D.moment D.images old mid snapshot_state moves.spares moves.others)
    (λ told. let moves = c.close-2.ensures.ends.moves told in
    spares_by log_family snapshot_family D.content D.moment D.images mid new snapshot_log moves.spares moves.others)

-- the log's last call, on a disk that is as it was
ends_behind : {D : Type 0} (disk : Ghosts D) (holds : Held Log) (l : Log) (old mid new : D) → mid ≡ old → DiskTells disk old → (DiskTells disk mid → Moves disk log_family holds (l ∷ []) mid new)
    → Moves disk log_family holds (l ∷ []) old new
ends_behind disk holds l old mid new same told ends = subst (λ d. Moves disk log_family holds (l ∷ []) d new) same (ends (subst (λ d. DiskTells disk d) (sym same) told))

-- the map's close left the disk as it was, and the log's leaves the log
pub returns-clause-keeps : goal.returns-clause-keeps
returns-clause-keeps g c = λ told.
    let D = g.D.Disk in
    let disk = c.args.disk.now in
    let new = c.close-2.new.disk in
    let engine = c.args.self in
    let l = (g.G.LogStore.shown engine.log).value in
    let h = (g.T.MetaStore.shown engine.meta).value in
    let s = g.M.StateMachine.map engine.state in
    let ready = c.requires.stands.ready.1 in
    let rests = c.requires.stands.rests told in
    let from = D.moment disk in
    let to = D.moment new in
    let still = (c.close.ensures.nothing (ap (λ (m : MapState). m.mark) rests.state.stored)).0 in
    let moves = ends_behind D g.G.LogStore.holds l disk c.close.new.disk new still told c.close-2.ensures.ends.moves in
    record {
      log = λ held. moves.own held;
      hard_state = λ held.
          (spared g.T.MetaStore.holds.of log_family meta_family (D.images disk) (D.images new) from to h meta_log g.met.T.MetaStore.lies.holds_own
          (gives_now g.T.MetaStore.holds.of (g.T.MetaStore.shown engine.meta).rests (D.images disk) from (D.content disk) h (λ files. g.met.D.Disk.images_now disk files told)
          (λ files rest at. g.met.T.MetaStore.lies.rests_hold held engine.meta (D.content disk) files ready.meta rest at) rests.meta) moves.others).each;
      map = λ held.
          (spared g.M.StateMachine.holds.of log_family state_family (D.images disk) (D.images new) from to s state_log g.met.M.StateMachine.lies.holds_own
          (gives_now g.M.StateMachine.holds.of (AtRest (g.M.StateMachine.shown engine.state) s) (D.images disk) from (D.content disk) s (λ files. g.met.D.Disk.images_now disk files told)
          (λ files rest at. rest_hold g.met.M.StateMachine.lies held engine.state s (D.content disk) files ready.state rest at) rests.state) moves.others).each;
    }

-- the three together give the durable part
pub returns-clause-stays : goal.returns-clause-stays
returns-clause-stays g c = λ told held.
    let D = g.D.Disk in
    let disk = c.args.disk.now in
    let new = c.close-2.new.disk in
    let engine = c.args.self in
    let l = (g.G.LogStore.shown engine.log).value in
    let h = (g.T.MetaStore.shown engine.meta).value in
    let s = g.M.StateMachine.map engine.state in
    let from = D.moment disk in
    let to = D.moment new in
    let keeps = returns-clause-keeps g c told in
    stays _ (D.images new) from to (kv_of h s engine.running)
    (all_give g.G.LogStore.holds.of g.T.MetaStore.holds.of g.M.StateMachine.holds.of (D.images new) from to l h s _
    (durable_is l h s c.requires.stands.ready.1.caught_up)
    (record { each = keeps.log held.0 })
    (record { each = keeps.hard_state held.1 })
    (record { each = keeps.map held.2 }))
