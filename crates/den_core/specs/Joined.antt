-- What log, hard state and map stand for together, where the map has each entry of the log, and that none of them failed then.
use Rattle.std.proofs.Common.{◌≡◌, ℕ, ◌≤◌, ◌+◌, ◌&&◌, Bool, List, [], Option, Some, None, nat_le, if◌then◌else◌, true, false, inl, inr, ◌∙◌, ap, sym, subst}
use Rattle.std.proofs.lemmas.Bool.{le-leb}
use Rattle.den_model.specs.declared.log_id.HardState.{HardState}
use Rattle.den_model.specs.Entries.{LogEntry}
use Rattle.den_model.specs.Image.{durable, joined, gapless_from, applied_all}
use Rattle.den_model.specs.Kv.{Durable}
use Rattle.den_model.specs.Log.{Log, floor, above}
use Rattle.den_model.specs.MapState.{MapState}
use Rattle.den_core.specs.Parts.{durable_of, HasFailed, IsCaughtUp}

-- what the test and the entries above the mark give
found : Bool → List LogEntry → Durable → ℕ → Option Durable
found within entries d index = if within && gapless_from index entries then Some (applied_all d entries) else None

-- the entries above the mark
pub found_is : (l : Log) (h : Option HardState) (s : MapState) (entries : List LogEntry) → floor l ≤ s.mark.index → above s.mark.index l.entries ≡ entries
    → durable l h s ≡ (if gapless_from (s.mark.index + 1) entries then Some (applied_all (durable_of h s) entries) else None)
unfolding durable found
found_is l h s entries purged are =
    ap (λ es. found (nat_le (floor l) s.mark.index) es (durable_of h s) (s.mark.index + 1)) are
    ∙ ap (λ b. found b entries (durable_of h s) (s.mark.index + 1)) (le-leb (floor l) s.mark.index purged)

-- where none is left to apply
pub durable_is : (l : Log) (h : Option HardState) (s : MapState) → IsCaughtUp l s → durable l h s ≡ Some (durable_of h s)
durable_is l h s caught = found_is l h s [] caught.purged caught.applied

-- where each of the three gives its part, together they give the durable part
pub joined_here : (a : Option Log) (b : Option (Option HardState)) (c : Option MapState) (l : Log) (h : Option HardState) (s : MapState) → IsCaughtUp l s
    → a ≡ Some l → b ≡ Some h → c ≡ Some s → joined a b c ≡ Some (durable_of h s)
joined_here a b c l h s caught p q r = ap (λ x. joined x b c) p ∙ ap (λ y. joined (Some l) y c) q ∙ ap (λ z. joined (Some l) (Some h) z) r ∙ durable_is l h s caught

-- a flag that is not set
abbrev IsUnset : Bool → Type 0
IsUnset false = Unit {0}
IsUnset true = ⊥

-- what has failed cannot go on
pub failed_not_ready : (failed : Bool) (a b c : Type 0) → failed ≡ false → a → b → c → HasFailed failed a b c → ⊥
failed_not_ready failed a b c whole x y z (inl flag) = subst IsUnset (sym whole ∙ flag) tt
failed_not_ready failed a b c whole x y z (inr (inl log)) = log x
failed_not_ready failed a b c whole x y z (inr (inr (inl meta))) = meta y
failed_not_ready failed a b c whole x y z (inr (inr (inr state))) = state z
