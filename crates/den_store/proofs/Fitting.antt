-- Entries that fit their words.
use Rattle.std.proofs.Common.{◌≡◌, ℕ, inl, inr, Bool, List, [], ◌∷◌, ◌++◌, sym, subst}
use Rattle.std.specs.List.{AllByRecursion, filter}
use Rattle.std.specs.Prelude.{nat_lt}
use Rattle.std.proofs.lemmas.Bool.{cond-true, cond-false, cases_Bool}
use Rattle.den_model.specs.Entries.{LogEntry}
use Rattle.den_model.specs.Log.{above, below}
use Rattle.den_model.specs.Words.{FitsEntry}

pub kept_fit : (p : LogEntry → Bool) (es : List LogEntry) → AllByRecursion FitsEntry es → AllByRecursion FitsEntry (filter p es)
kept_fit p [] fit = tt
kept_fit p (e ∷ es) fit = elim (cases_Bool (p e)) [
  | inl pass ↦ subst (λ (xs : List LogEntry). AllByRecursion FitsEntry xs) (sym (cond-true (p e) (e ∷ filter p es) (filter p es) pass)) (fit.0, kept_fit p es fit.1)
  | inr fail ↦ subst (λ (xs : List LogEntry). AllByRecursion FitsEntry xs) (sym (cond-false (p e) (e ∷ filter p es) (filter p es) fail)) (kept_fit p es fit.1)
]

both_fit : (es fs : List LogEntry) → AllByRecursion FitsEntry es → AllByRecursion FitsEntry fs → AllByRecursion FitsEntry (es ++ fs)
both_fit [] fs one other = other
both_fit (e ∷ es) fs one other = (one.0, both_fit es fs one.1 other)

-- entries that are equal
pub same_fit : (es now : List LogEntry) → now ≡ es → AllByRecursion FitsEntry es → AllByRecursion FitsEntry now
same_fit es now is fit = subst (λ (xs : List LogEntry). AllByRecursion FitsEntry xs) (sym is) fit

pub truncated_fit : (from : ℕ) (es now : List LogEntry) → now ≡ below from es → AllByRecursion FitsEntry es → AllByRecursion FitsEntry now
truncated_fit from es now is fit = same_fit (below from es) now is (kept_fit (λ e. nat_lt e.index from) es fit)

pub purged_fit : (index : ℕ) (es now : List LogEntry) → now ≡ above index es → AllByRecursion FitsEntry es → AllByRecursion FitsEntry now
purged_fit index es now is fit = same_fit (above index es) now is (kept_fit (λ e. nat_lt index e.index) es fit)

pub replaced_fit : (from : ℕ) (es new now : List LogEntry) → now ≡ below from es ++ new → AllByRecursion FitsEntry es → AllByRecursion FitsEntry new → AllByRecursion FitsEntry now
replaced_fit from es new now is fit new_fit = same_fit (below from es ++ new) now is (both_fit (below from es) new (kept_fit (λ e. nat_lt e.index from) es fit) new_fit)
