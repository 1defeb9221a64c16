-- Indices that rise, said in two ways.
use Rattle.std.proofs.Common.{◌≡◌, ℕ, suc, ◌+◌, ◌-◌, ◌≤◌, Bool, true, List, [], ◌∷◌, length, get_or, take, drop, refl, ap, ◌∙◌, arith}
use Rattle.std.proofs.Math.Seq.{take-length}
use Rattle.std.specs.Prelude.{nat_lt, nat_le}
use Rattle.std.proofs.lemmas.Bool.{le-leb}
use Rattle.den_model.specs.Entries.{LogEntry, rise_above, rise_from}

above_from : (i n : ℕ) → nat_lt i n ≡ nat_le (i + 1) n
above_from i n = let e : i + 1 ≡ suc i = omega arith in rw e refl

-- above an index is from the next one on
pub above_is_from : (i : ℕ) (es : List LogEntry) → rise_above i es ≡ rise_from (i + 1) es
above_is_from i [] = refl
above_is_from i (e ∷ es) = rw (above_from i e.index, above_is_from e.index es) refl

-- the first index, and the rest above it
pub from_first : (index : ℕ) (es : List LogEntry) (first : LogEntry) (at at' : ℕ) (b : Bool) → 1 ≤ length es → first ≡ get_or es 0 first → at ≡ first.index → index ≤ at → at' ≡ first.index
    → b ≡ rise_above at' (take (length es - 1) (drop 1 es)) → b ≡ rise_from index es
from_first index [] first at at' b some is here le there so = absurd (omega arith)
from_first index (e ∷ es) first at at' b some is here le there so =
    let same : first.index ≡ e.index = ap (λ (x : LogEntry). x.index) is in
    let whole : take (length (e ∷ es) - 1) es ≡ es =
    let n : length (e ∷ es) - 1 ≡ length es = omega arith in rw n (take-length es) in
    let fine : nat_le index e.index ≡ true = le-leb index e.index (omega arith) in
    so ∙ ap (rise_above at') whole ∙ rw (fine, ← above_is_from e.index es, ← same, there) refl
