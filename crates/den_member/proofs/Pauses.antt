-- Pauses between tries.
use Rattle.std.proofs.Common.{◌≡◌, ◌∙◌, ℕ, zero, suc, ◌+◌, ◌-◌, [], ◌∷◌, ◌++◌, List, sym, ap, subst, arith, append_assoc, append-nil}
use Rattle.std.specs.Prelude.{Result, Err}
use Rattle.den_codec.specs.declared.config.BackoffPolicy.{BackoffPolicy}
use Rattle.den_member.specs.Backoff.{FailsTimes, pause_behind, pauses_before, pauses_of}
use Rattle.den_member.specs.declared.error.MemberError.{MemberError}

one_off : (n : ℕ) → n + 1 - 1 ≡ n
one_off n = omega arith

before : (n : ℕ) → suc n - 1 ≡ n
before n = omega arith

-- those before the last try, and the one in front of it
pub pauses_next : (policy : BackoffPolicy) (n : ℕ) (so_far now old : List ℕ) → now ≡ so_far ++ pauses_before policy n → so_far ≡ old ++ pauses_of policy (n - 1) → now ≡ old ++ pauses_of policy n
pauses_next policy zero so_far now old put met = put ∙ append-nil so_far ∙ met
pauses_next policy (suc n) so_far now old put met =
    let so : so_far ≡ old ++ pauses_of policy n = met ∙ ap (λ k. old ++ pauses_of policy k) (before n) in
    put ∙ ap (λ (u : List ℕ). u ++ pause_behind policy n ∷ []) so ∙ append_assoc old (pauses_of policy n) (pause_behind policy n ∷ [])

-- the same, of the tries that this one makes
pub pauses_then : (policy : BackoffPolicy) (n : ℕ) (so_far now old : List ℕ) → now ≡ so_far ++ pauses_before policy n → so_far ≡ old ++ pauses_of policy (n - 1) → now ≡ old ++ pauses_of policy (n + 1 - 1)
pauses_then policy n so_far now old put met = pauses_next policy n so_far now old put met ∙ ap (λ k. old ++ pauses_of policy k) (sym (one_off n))

pub pause_then : (policy : BackoffPolicy) (n pause : ℕ) → pause ≡ pause_behind policy n → pause ≡ pause_behind policy (n + 1 - 1)
pause_then policy n pause is = is ∙ ap (pause_behind policy) (sym (one_off n))

-- one more try fails
pub fails_more : {C R : Type 0} (step : C → Result R MemberError → C → Type 0) (n : ℕ) (before last after : C) (e : MemberError) → FailsTimes step n before last → step last (Err e) after → FailsTimes step (n + 1) before after
fails_more step n before last after e so_far fails =
    let next : suc n ≡ n + 1 = omega arith in
    subst (λ k. FailsTimes step k before after) next (last, so_far, (e, fails))
