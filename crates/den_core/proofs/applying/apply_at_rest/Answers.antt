use Rattle.std.proofs.Common.{[], ◌∷◌, subst}
use Rattle.den_disk.specs.declared.place.Family.TheVariants.{State}
use Rattle.den_model.specs.MapState.{MapState, map_applied_all}
use Rattle.den_journal.specs.Writes.{Moves}
use Rattle.den_journal.proofs.Moving.{old_or_new}
use Rattle.den_core.proofs.Applied.{chunk_goes_on, chunk_moves, chunk_weight, chunk_ready, chunk_rests, chunk_refused, chunk_full, at_rest_ok}
use Rattle.den_core.proofs.applying.apply_at_rest.Goals as goal

pub returns-clause-disk : goal.returns-clause-disk
returns-clause-disk g c =
    let D = g.D.Disk in
    let M = g.M.StateMachine in
    let s = c.args.state.now in
    let t = c.apply_chunk.new.self in
    let d = c.args.disk.now in
    let e = c.apply_chunk.ensures in
    chunk_goes_on D M.holds (M.shown s) (M.shown t) d c.apply_chunk.new.disk (M.settings s).leased (M.map s).mark.index c.args.chunk.now _ c.apply_chunk.result e.turned_away e.writes

pub returns-clause-own : goal.returns-clause-own
returns-clause-own g c = λ told held.
    let D = g.D.Disk in
    let M = g.M.StateMachine in
    let s = c.args.state.now in
    let t = c.apply_chunk.new.self in
    let d = c.args.disk.now in
    let e = c.apply_chunk.ensures in
    let r = c.requires.rests told in
    let moves = chunk_moves D M.holds (M.shown s) (M.shown t) d c.apply_chunk.new.disk (M.settings s).leased (M.map s).mark.index c.args.chunk.now _ c.apply_chunk.result e.turned_away e.writes told (λ held files i. g.met.M.StateMachine.lies.rests_hold held s (D.content d) files c.requires.ready r.rests ((g.met.D.Disk.images_now d files told).0 i)) in
    old_or_new held (subst (λ (m : MapState). Moves D State M.holds (m ∷ map_applied_all m c.args.chunk.now ∷ []) d c.apply_chunk.new.disk) r.stored moves)

pub returns-clause-others : goal.returns-clause-others
returns-clause-others g c = λ told.
    let D = g.D.Disk in
    let M = g.M.StateMachine in
    let s = c.args.state.now in
    let t = c.apply_chunk.new.self in
    let d = c.args.disk.now in
    let e = c.apply_chunk.ensures in
    let r = c.requires.rests told in
    let moves = chunk_moves D M.holds (M.shown s) (M.shown t) d c.apply_chunk.new.disk (M.settings s).leased (M.map s).mark.index c.args.chunk.now _ c.apply_chunk.result e.turned_away e.writes told (λ held files i. g.met.M.StateMachine.lies.rests_hold held s (D.content d) files c.requires.ready r.rests ((g.met.D.Disk.images_now d files told).0 i)) in
    moves.others

pub returns-clause-spares : goal.returns-clause-spares
returns-clause-spares g c = λ told.
    let D = g.D.Disk in
    let M = g.M.StateMachine in
    let s = c.args.state.now in
    let t = c.apply_chunk.new.self in
    let d = c.args.disk.now in
    let e = c.apply_chunk.ensures in
    let r = c.requires.rests told in
    let moves = chunk_moves D M.holds (M.shown s) (M.shown t) d c.apply_chunk.new.disk (M.settings s).leased (M.map s).mark.index c.args.chunk.now _ c.apply_chunk.result e.turned_away e.writes told (λ held files i. g.met.M.StateMachine.lies.rests_hold held s (D.content d) files c.requires.ready r.rests ((g.met.D.Disk.images_now d files told).0 i)) in
    moves.spares

pub returns-clause-ready : goal.returns-clause-ready
returns-clause-ready g c =
    let D = g.D.Disk in
    let M = g.M.StateMachine in
    let s = c.args.state.now in
    let t = c.apply_chunk.new.self in
    let d = c.args.disk.now in
    let e = c.apply_chunk.ensures in
    chunk_ready D M.holds (M.shown s) (M.shown t) d c.apply_chunk.new.disk (M.settings s).leased (M.map s).mark.index c.args.chunk.now _ c.apply_chunk.result e.turned_away e.writes

pub returns-clause-rests : goal.returns-clause-rests
returns-clause-rests g c =
    let D = g.D.Disk in
    let M = g.M.StateMachine in
    let s = c.args.state.now in
    let t = c.apply_chunk.new.self in
    let d = c.args.disk.now in
    let e = c.apply_chunk.ensures in
    at_rest_ok _ (M.shown t) (M.map t) (D.content c.apply_chunk.new.disk) c.apply_chunk.result (chunk_rests D M.holds (M.shown s) (M.shown t) d c.apply_chunk.new.disk (M.settings s).leased (M.map s).mark.index c.args.chunk.now _ c.apply_chunk.result e.turned_away e.writes) e.stored c.requires.some

pub returns-clause-weight : goal.returns-clause-weight
returns-clause-weight g c =
    let D = g.D.Disk in
    let M = g.M.StateMachine in
    let s = c.args.state.now in
    let t = c.apply_chunk.new.self in
    let d = c.args.disk.now in
    let e = c.apply_chunk.ensures in
    chunk_weight D M.holds (M.shown s) (M.shown t) d c.apply_chunk.new.disk (M.settings s).leased (M.map s).mark.index c.args.chunk.now _ c.apply_chunk.result e.turned_away e.writes

pub returns-clause-refused : goal.returns-clause-refused
returns-clause-refused g c =
    let D = g.D.Disk in
    let M = g.M.StateMachine in
    let s = c.args.state.now in
    let t = c.apply_chunk.new.self in
    let d = c.args.disk.now in
    let e = c.apply_chunk.ensures in
    chunk_refused D M.holds (M.shown s) (M.shown t) d c.apply_chunk.new.disk (M.settings s).leased (M.map s).mark.index c.args.chunk.now _ c.apply_chunk.result e.turned_away e.writes

pub returns-clause-full : goal.returns-clause-full
returns-clause-full g c =
    let D = g.D.Disk in
    let M = g.M.StateMachine in
    let s = c.args.state.now in
    let t = c.apply_chunk.new.self in
    let d = c.args.disk.now in
    let e = c.apply_chunk.ensures in
    chunk_full D M.holds (M.shown s) (M.shown t) d c.apply_chunk.new.disk (M.settings s).leased (M.map s).mark.index c.args.chunk.now _ c.apply_chunk.result e.turned_away e.writes (M.map s) (λ told. (c.requires.rests told).stored) (λ n is. g.met.M.StateMachine.light s c.args.chunk.now n is)
