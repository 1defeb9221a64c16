use Rattle.std.proofs.Common.{◌≡◌, ℕ, true, List, ◌∙◌, sym, ap, subst}
use Rattle.den_model.specs.declared.region.LogRegion.{LogRegion}
use Rattle.den_model.specs.declared.region.LogRegion.TheVariants.{Purge}
use Rattle.den_model.specs.Entries.{LogEntry, rise_above}
use Rattle.den_model.specs.Words.{FitsLogRegion}
use Rattle.den_model.specs.Log.{floor, changed, is_lawful}
use Rattle.den_store.specs.Held.{log_of}
use Rattle.den_store.proofs.Fitting.{same_fit}
use Rattle.den_store.proofs.HeldLogs.{append_rises, replace_rises}
use Rattle.den_store.proofs.held_log.HeldLogFolded.settle.Goals as goal

pub replace-requires-clause-rise : goal.replace-requires-clause-rise
replace-requires-clause-rise c =
    let l = log_of c.args.self.now in
    let lawful = subst (λ (r : LogRegion). is_lawful l r ≡ true) c.in-Append.is c.requires.lawful in
    let fits = subst (λ (r : LogRegion). FitsLogRegion r) c.in-Append.is c.requires.fits in
    subst (λ (es : List LogEntry). rise_above (floor l) es ≡ true) (sym c.into_items.ensures) (append_rises l c.in-Append.entries lawful fits)

pub replace-requires-clause-fits : goal.replace-requires-clause-fits
replace-requires-clause-fits c =
    let fits = subst (λ (r : LogRegion). FitsLogRegion r) c.in-Append.is c.requires.fits in
    same_fit c.in-Append.entries _ c.into_items.ensures fits.0.1

pub replace-requires-in-Replace-clause-fits : goal.replace-requires-in-Replace-clause-fits
replace-requires-in-Replace-clause-fits c =
    let fits = subst (λ (r : LogRegion). FitsLogRegion r) c.in-Replace.is c.requires.fits in
    same_fit c.in-Replace.replacement.entries _ c.into_items-in-Replace.ensures fits.1.1

pub replace-requires-in-Replace-clause-rise : goal.replace-requires-in-Replace-clause-rise
replace-requires-in-Replace-clause-rise c =
    let l = log_of c.args.self.now in
    let lawful = subst (λ (r : LogRegion). is_lawful l r ≡ true) c.in-Replace.is c.requires.lawful in
    let fits = subst (λ (r : LogRegion). FitsLogRegion r) c.in-Replace.is c.requires.fits in
    subst (λ (es : List LogEntry). rise_above (floor l) es ≡ true) (sym c.into_items-in-Replace.ensures) (replace_rises l c.in-Replace.replacement lawful fits)

pub returns-in-Purge-clause-settled : goal.returns-in-Purge-clause-settled
returns-in-Purge-clause-settled c =
    let l = log_of c.args.self.now in
    c.purge.ensures ∙ ap (λ (i : ℕ). changed l (Purge i c.in-Purge.term)) c.get.ensures.is ∙ sym (ap (λ (r : LogRegion). changed l r) c.in-Purge.is)
