use Rattle.den_gate.proofs.Turning.{sync_others, sync_turns, sync_kept, flip_others, flip_turns, flip_kept, clear_others, clear_turns, clear_done, clear_kept}
use Rattle.den_gate.proofs.turn.commit.Goals as goal

pub returns-in_err-sync-clause-run : goal.returns-in_err-sync-clause-run
returns-in_err-sync-clause-run g c = λ tells. sync_others g.D.Disk g.met.D.Disk.images_now c.args.slot c.sync.ensures.kind c.sync.ensures.syncs tells

pub returns-in_err-sync-clause-flips : goal.returns-in_err-sync-clause-flips
returns-in_err-sync-clause-flips g c = λ tells. sync_turns g.D.Disk g.met.D.Disk.images_now c.args.slot c.sync.ensures.kind c.sync.ensures.syncs tells

pub returns-in_err-flip-clause-run : goal.returns-in_err-flip-clause-run
returns-in_err-flip-clause-run g c = λ tells. flip_others g.D.Disk g.met.D.Disk.images_now c.args.slot c.sync.ensures.kind c.sync.ensures.syncs tells c.flip.ensures.run

pub returns-in_err-flip-clause-flips : goal.returns-in_err-flip-clause-flips
returns-in_err-flip-clause-flips g c = λ tells.
    flip_turns g.D.Disk g.met.D.Disk.images_now c.args.slot c.sync.ensures.kind c.sync.ensures.syncs tells c.flip.ensures.run ((c.in_ok-sync.ensures.syncs tells).ok).0

pub returns-in_err-clear-clause-run : goal.returns-in_err-clear-clause-run
returns-in_err-clear-clause-run g c = λ tells.
    clear_others g.D.Disk g.met.D.Disk.images_now c.args.slot c.sync.ensures.kind c.sync.ensures.syncs tells c.flip.ensures.run ((c.in_ok-sync.ensures.syncs tells).ok).0
    c.flip.ensures.kind c.in_ok-flip.ensures.current c.clear.ensures.run

pub returns-in_err-clear-clause-flips : goal.returns-in_err-clear-clause-flips
returns-in_err-clear-clause-flips g c = λ tells.
    clear_turns g.D.Disk g.met.D.Disk.images_now c.args.slot c.sync.ensures.kind c.sync.ensures.syncs tells c.flip.ensures.run ((c.in_ok-sync.ensures.syncs tells).ok).0
    c.flip.ensures.kind c.in_ok-flip.ensures.current c.clear.ensures.run

pub returns-clause-run : goal.returns-clause-run
returns-clause-run g c = λ tells.
    clear_others g.D.Disk g.met.D.Disk.images_now c.args.slot c.sync.ensures.kind c.sync.ensures.syncs tells c.flip.ensures.run ((c.in_ok-sync.ensures.syncs tells).ok).0
    c.flip.ensures.kind c.in_ok-flip.ensures.current c.clear.ensures.run

pub returns-clause-flips : goal.returns-clause-flips
returns-clause-flips g c = λ tells.
    clear_turns g.D.Disk g.met.D.Disk.images_now c.args.slot c.sync.ensures.kind c.sync.ensures.syncs tells c.flip.ensures.run ((c.in_ok-sync.ensures.syncs tells).ok).0
    c.flip.ensures.kind c.in_ok-flip.ensures.current c.clear.ensures.run

pub returns-clause-done : goal.returns-clause-done
returns-clause-done g c = λ tells.
    clear_done g.D.Disk g.met.D.Disk.images_now c.args.slot c.sync.ensures.kind c.sync.ensures.syncs tells c.flip.ensures.run ((c.in_ok-sync.ensures.syncs tells).ok).0
    c.flip.ensures.kind c.in_ok-flip.ensures.current c.clear.ensures.run

pub returns-in_err-sync-clause-kept : goal.returns-in_err-sync-clause-kept
returns-in_err-sync-clause-kept g c = λ tells. sync_kept g.D.Disk g.met.D.Disk.images_now c.args.slot c.sync.ensures.kind c.sync.ensures.syncs tells

pub returns-in_err-flip-clause-kept : goal.returns-in_err-flip-clause-kept
returns-in_err-flip-clause-kept g c = λ tells. flip_kept g.D.Disk g.met.D.Disk.images_now c.args.slot c.sync.ensures.kind c.sync.ensures.syncs tells c.flip.ensures.run

pub returns-in_err-clear-clause-kept : goal.returns-in_err-clear-clause-kept
returns-in_err-clear-clause-kept g c = λ tells. clear_kept g.D.Disk g.met.D.Disk.images_now c.args.slot c.sync.ensures.kind c.sync.ensures.syncs tells c.flip.ensures.run c.flip.ensures.kind c.clear.ensures.run

pub returns-clause-kept : goal.returns-clause-kept
returns-clause-kept g c = λ tells. clear_kept g.D.Disk g.met.D.Disk.images_now c.args.slot c.sync.ensures.kind c.sync.ensures.syncs tells c.flip.ensures.run c.flip.ensures.kind c.clear.ensures.run
