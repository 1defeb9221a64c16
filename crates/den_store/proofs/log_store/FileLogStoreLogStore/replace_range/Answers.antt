use Rattle.std.proofs.Common.{◌<◌, ℕ, refl, sym, ap, subst}
use Rattle.std.specs.Prelude.{IfSome}
use Rattle.den_disk.specs.declared.place.Family.TheVariants.{Log as log_family}
use Rattle.den_model.specs.Entries.{EntriesFrom}
use Rattle.den_journal.proofs.Moving.{writes_refused}
use Rattle.den_store.specs.Held.{log_of}
use Rattle.den_store.specs.FileLog.{log_held, log_lies}
use Rattle.den_store.proofs.HeldLogs.{above_lawful, made_of}
use Rattle.den_store.proofs.log_store.FileLogStoreLogStore.replace_range.Goals as goal

pub returns-in_err-copies-clause-writes : goal.returns-in_err-copies-clause-writes
returns-in_err-copies-clause-writes g c =
    let s = c.requires.stands in
    let d = c.args.disk.now in
    writes_refused g.D.Disk log_family log_held _ _ _ d s.ready s.rests
    (λ tells told files i. log_lies.rests_hold told c.args.self.now (g.D.Disk.content d) files s.ready (s.rests tells) ((g.met.D.Disk.images_now d files tells).0 i))
    c.from_residual.result c.from_residual.ensures.1 refl refl

pub change-requires-clause-lawful : goal.change-requires-clause-lawful
change-requires-clause-lawful g c =
    let l = log_of c.args.self.now.journal.held in
    above_lawful l.boundary l.entries c.in-Some.replacement.from
    (subst (λ (i : ℕ). IfSome l.boundary (λ b. b.index < i)) (sym (ap (λ (r : EntriesFrom). r.from) (made_of _ c.in-Some.replacement _ c.in-Some.ensures))) c.requires.above)
