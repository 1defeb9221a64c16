use Rattle.std.proofs.Common.{◌≡◌, ℕ, max, [], refl, sym, ap, subst}
use Rattle.den_codec.specs.declared.error.Error.{Error}
use Rattle.den_codec.specs.declared.error.Error.TheVariants.{StorageIoError}
use Rattle.den_disk.specs.Goes.{Rose}
use Rattle.den_gate.proofs.Families.{all_own}
use Rattle.den_journal.specs.Lies.{gives_as, gives_hold, gives_own}
use Rattle.den_journal.specs.Shown.{held_in, rewrite_size}
use Rattle.den_journal.proofs.Full.{sync_refused}
use Rattle.den_journal.proofs.Moving.{moves_not}
use Rattle.den_journal.proofs.journal.Journal.flush.Goals as goal

pub returns-in-Ok : goal.returns-in-Ok
returns-in-Ok g c =
    let F = g.F.Folded in
    let D = g.D.Disk in
    let d = c.args.disk.now in
    let new = c.flush.new.disk in
    let gate = c.args.self.now.gate in
    let v = F.value c.args.self.now.held in
    record {
      syncs = record {
        ends = record {
          goes_on = c.flush.ensures.disk;
          moves = λ tells.
              moves_not D F.FAMILY (held_in F.FAMILY (F.from F.empty)) v [] d new
              (λ told files i. gives_hold F.FAMILY (F.from F.empty) gate v (D.content d) files (c.requires.stands.rests tells) ((g.met.D.Disk.images_now d files tells).0 i))
              (c.flush.ensures.images tells) (c.flush.ensures.spares tells);
          flushed = c.in-Ok.ensures.flushed;
          refused = tt;
        };
        same_value = refl;
        same_weight = ap (λ (n : ℕ). max n (rewrite_size (F.size v))) c.flush.ensures.end;
        ready = (c.requires.stands.ready.0, c.in-Ok.ensures.ready);
        rests = λ tells.
            gives_as F.FAMILY (F.from F.empty) gate c.flush.new.self v (D.content new) c.flush.ensures.slot c.flush.ensures.end
            (gives_own F.FAMILY (F.from F.empty) gate v (D.content d) (D.content new) (all_own F.FAMILY (D.content d) (D.content new) (c.flush.ensures.spares tells)) (c.requires.stands.rests tells));
        failed = tt;
      };
    }

pub returns-in-Err : goal.returns-in-Err
returns-in-Err g c =
    let F = g.F.Folded in
    let D = g.D.Disk in
    let d = c.args.disk.now in
    let new = c.flush.new.disk in
    let gate = c.args.self.now.gate in
    let v = F.value c.args.self.now.held in
    let rose = Rose (D.faults d) (D.faults new) in
    record {
      syncs = record {
        ends = record {
          goes_on = c.flush.ensures.disk;
          moves = λ tells.
              moves_not D F.FAMILY (held_in F.FAMILY (F.from F.empty)) v [] d new
              (λ told files i. gives_hold F.FAMILY (F.from F.empty) gate v (D.content d) files (c.requires.stands.rests tells) ((g.met.D.Disk.images_now d files tells).0 i))
              (c.flush.ensures.images tells) (c.flush.ensures.spares tells);
          flushed = λ tells. tt;
          refused = subst (λ (e : Error). (e ≡ StorageIoError) × rose) (sym c.refusal.ensures) (sync_refused rose _ c.in-Err.error c.in-Err.ensures.refused);
        };
        same_value = refl;
        same_weight = ap (λ (n : ℕ). max n (rewrite_size (F.size v))) c.flush.ensures.end;
        ready = tt;
        rests = tt;
        failed = λ ready. absurd (cc (c.in-Err.ensures.failed refl, ready.1));
      };
    }
