use Rattle.std.proofs.Common.{Err, Ok, sym, subst}
use Rattle.den_disk.specs.declared.place.Family.{Family}
use Rattle.den_codec.specs.declared.error.Error.{Error}
use Rattle.den_journal.specs.OneWord.{WritesOne}
use Rattle.den_journal.specs.Refused.{refusal}
use Rattle.den_journal.proofs.OneWord.{Began, unloaded, word_written, word_refused}
use Rattle.den_journal.proofs.one_word.write_one.Goals as goal

pub returns-in-Err : goal.returns-in-Err
returns-in-Err g c =
    let D = g.D.Disk in
    let d0 = c.args.disk.now in
    let d1 = c.load_or_empty.new.disk in
    let lo = c.load_or_empty.ensures in
    record {
      writes = subst (λ (e : Error). WritesOne D c.args.family {T = Unit {0}} c.args.word d0 d1 (Err e)) (sym c.refusal.ensures)
          (unloaded D g.met.D.Disk.images_now c.args.family c.args.word d0 d1 c.in-Err.error lo.disk lo.images lo.others lo.any_moment c.in-Err.ensures.refused);
    }

pub returns-in-Ok-rewrite : goal.returns-in-Ok-rewrite
returns-in-Ok-rewrite g c =
    let D = g.D.Disk in
    let d0 = c.args.disk.now in
    let d1 = c.load_or_empty.new.disk in
    let d2 = c.rewrite.new.disk in
    let gate = c.in-Ok.gate in
    let lo = c.in-Ok.ensures in
    let own = lo.family in
    let began : Began D c.args.family gate d0 d1 =
    record { goes_on = lo.disk; images = lo.images; spares = lo.others; any_moment = lo.any_moment; at_rest = lo.at_rest; current = lo.current; slot = lo.slot } in
    record {
      writes = subst (λ (f : Family). WritesOne D f {T = Unit {0}} c.args.word d0 d2 (Ok (tt {0}))) own
          (word_written D g.met.D.Disk.images_now gate c.rewrite.new.self c.args.word d0 d1 d2 (subst (λ (f : Family). Began D f gate d0 d1) (sym own) began) _
          c.in-Ok-rewrite.ensures.writes c.in-Ok-rewrite.ensures.rewrites (tt {0}) c.in-Ok-rewrite.ensures.rests c.in-Ok-rewrite.ensures.rewritten.slot c.in-Ok-rewrite.ensures.rewritten.cleared);
    }

pub returns : goal.returns
returns g c =
    let D = g.D.Disk in
    let d0 = c.args.disk.now in
    let d1 = c.load_or_empty.new.disk in
    let d2 = c.rewrite.new.disk in
    let gate = c.in-Ok.gate in
    let lo = c.in-Ok.ensures in
    let own = lo.family in
    let began : Began D c.args.family gate d0 d1 =
    record { goes_on = lo.disk; images = lo.images; spares = lo.others; any_moment = lo.any_moment; at_rest = lo.at_rest; current = lo.current; slot = lo.slot } in
    record {
      writes = subst (λ (e : Error). WritesOne D c.args.family {T = Unit {0}} c.args.word d0 d2 (Err e)) (sym c.refusal-in-Err-rewrite.ensures)
          (subst (λ (f : Family). WritesOne D f {T = Unit {0}} c.args.word d0 d2 (Err (refusal c.args.family c.in-Err-rewrite.error))) own
          (word_refused D g.met.D.Disk.images_now gate c.rewrite.new.self c.args.word d0 d1 d2 (subst (λ (f : Family). Began D f gate d0 d1) (sym own) began) _
          c.in-Err-rewrite.ensures.writes c.in-Err-rewrite.ensures.rewrites c.args.family c.in-Err-rewrite.error c.in-Err-rewrite.ensures.refused));
    }
