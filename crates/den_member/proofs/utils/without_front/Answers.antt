use Rattle.std.proofs.Common.{◌≡◌, ◌≢◌, ℕ, ◌<◌, length, List, [], ◌∷◌, ◌++◌, Some, None, IfSome, refl, sym, append_assoc, arith}
use Rattle.std.specs.Str.Pattern.{CutsPrefixes, FindsTextPrefix, IsFullyTrimmed}
use Rattle.den_member.specs.Addresses.{times}
use Rattle.den_member.proofs.utils.without_front.Goals as goal

-- what was cut off is the front, so many times
cut : (front text ns rest : List ℕ) → CutsPrefixes (FindsTextPrefix front) text ns rest → text ≡ times (length ns) front ++ rest
cut front text [] rest h = sym h
cut front text (n ∷ ns) rest h =
    let before = cut front text ns h.0 h.1 in
    let whole = h.2.1 in
    rw append_assoc (rw (before, whole, h.3) refl)

-- what is fully trimmed begins with the front no more
bare : (front rest : List ℕ) → 0 < length front → IsFullyTrimmed (FindsTextPrefix front) rest → (behind : List ℕ) → rest ≢ front ++ behind
bare front rest some h = elim h.0 as (λ o. FindsTextPrefix front rest o → IfSome o (λ n. n ≡ 0) → (behind : List ℕ) → rest ≢ front ++ behind)
    [ None ↦ (λ lacks none. lacks) | Some n ↦ (λ finds none. absurd (omega (arith, finds.0, none))) ] h.1 h.2

pub returns : goal.returns
returns c = record {
  count = length c.trim_start_matches.ensures.matches.0.0;
  is = cut c.args.front.now c.args.text.now c.trim_start_matches.ensures.matches.0.0 c.trim_start_matches.result.now c.trim_start_matches.ensures.matches.0.1;
  all = bare c.args.front.now c.trim_start_matches.result.now c.requires c.trim_start_matches.ensures.matches.1;
}
