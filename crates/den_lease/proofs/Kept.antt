-- Expiries that are to come.
use Rattle.std.proofs.Common.{◌≡◌, ◌<◌, ℕ, true, false, cond, List, [], ◌∷◌, length, Option, Some, None, nat_le, nat_lt, Bool, refl, sym, ap, ◌∙◌, true≢false, arith}
use Rattle.std.specs.Prelude.{◌||◌}
use Rattle.den_model.specs.Apply.{is_expired, kept_expiries}
use Rattle.den_model.specs.Table.{Table, at, unset}
use Rattle.den_table.proofs.Entries.{filter_unset, length_unset, fails_at}
use Rattle.den_lease.specs.Due.{has_due}

-- a key that has expired is none of them
expired_is : (moment : ℕ) (o : Option ℕ) (m : ℕ) → elim o [ None ↦ false | Some expiry ↦ nat_le expiry moment ] ≡ true → o ≡ Some m → nat_lt moment m ≡ false
expired_is moment None m h is = cc
expired_is moment (Some expiry) m h is = let same : expiry ≡ m = cc in let le : nat_le expiry moment ≡ true = h in ap (nat_lt moment) (sym same) ∙ grind (arith, le)

pub expiries_without : (t : Table ℕ) (moment : ℕ) (k : List ℕ) → is_expired t moment k ≡ true → kept_expiries moment (unset t k) ≡ kept_expiries moment t
expiries_without t moment k expired = filter_unset (λ e. nat_lt moment e.1) t k (λ e same is. expired_is moment (at t k) e.1 expired is)

pub fewer_without : (t : Table ℕ) (moment : ℕ) (k : List ℕ) → is_expired t moment k ≡ true → length (unset t k) < length t
fewer_without t moment k expired =
    elim (at t k) as (λ o. at t k ≡ o → elim o [ None ↦ false | Some expiry ↦ nat_le expiry moment ] ≡ true → length (unset t k) < length t) [
      | None ↦ λ is h. absurd (true≢false (sym h))
      | Some expiry ↦ λ is h. length_unset t k expiry is
    ] refl expired

-- where nothing is due, all are
not_due : (moment m : ℕ) (b : Bool) → (nat_le m moment || b) ≡ false → (nat_lt moment m ≡ true) × (b ≡ false)
not_due moment m b h =
    elim (nat_le m moment) as (λ c. nat_le m moment ≡ c → (c || b) ≡ false → (nat_lt moment m ≡ true) × (b ≡ false)) [
      | true ↦ λ is h. absurd (true≢false h)
      | false ↦ λ is h. (grind (arith, is), h)
    ] refl h

pub expiries_kept : (t : Table ℕ) (moment : ℕ) → has_due moment t ≡ false → kept_expiries moment t ≡ t
expiries_kept [] moment none = refl
expiries_kept (e ∷ es) moment none =
    let first = not_due moment e.1 (has_due moment es) none in
    ap (λ b. cond b (e ∷ kept_expiries moment es) (kept_expiries moment es)) first.0 ∙ ap (λ (t : Table ℕ). e ∷ t) (expiries_kept es moment first.1)

pub not_expired : (t : Table ℕ) (moment : ℕ) (q : List ℕ) → has_due moment t ≡ false → is_expired t moment q ≡ false
not_expired t moment q none =
    elim (at t q) as (λ o. at t q ≡ o → elim o [ None ↦ false | Some expiry ↦ nat_le expiry moment ] ≡ false) [
      | None ↦ λ is. refl
      | Some expiry ↦ λ is. fails_at (λ m. nat_le m moment) t q expiry none is
    ] refl
