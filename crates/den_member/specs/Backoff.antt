-- Tries of a task, with pauses between them.
use Rattle.std.specs.Prelude.{◌≡◌, ℕ, zero, suc, ◌*◌, ◌-◌, ◌^◌, ◌<◌, min, List, [], ◌∷◌, ◌++◌, Result, Ok, Err, MatchResult}
use Rattle.den_codec.specs.declared.config.BackoffPolicy.{BackoffPolicy}
use Rattle.den_member.specs.declared.error.MemberError.{MemberError}
use Rattle.den_member.specs.declared.error.MemberError.TheVariants.{TaskBackoffFailed}

-- the double of a pause, up to the last number and to the greatest pause
abbrev pub next_pause : (greatest pause : ℕ) → ℕ
next_pause greatest pause = min (min (2 * pause) (2 ^ 64 - 1)) greatest

-- the pause behind so many others: the base first, however long, and then each time the next of the last
abbrev pub pause_behind : BackoffPolicy → ℕ → ℕ
pause_behind policy zero = policy.base_delay_ms
pause_behind policy (suc n) = next_pause policy.max_delay_ms (pause_behind policy n)

-- the first pauses, so many
abbrev pub pauses_of : BackoffPolicy → ℕ → List ℕ
pauses_of policy zero = []
pauses_of policy (suc n) = pauses_of policy n ++ pause_behind policy n ∷ []

-- the pause before the try behind so many others, which the first try has none of
abbrev pub pauses_before : BackoffPolicy → ℕ → List ℕ
pauses_before policy zero = []
pauses_before policy (suc n) = pause_behind policy n ∷ []

-- so many tries of a task failed one after the other, and took it from one state to another
abbrev pub FailsTimes : {C R : Type 0} → (step : C → Result R MemberError → C → Type 0) → ℕ → (before after : C) → Type 0
FailsTimes step zero before after = after ≡ before
FailsTimes {C} step (suc n) before after = (last : C) × FailsTimes step n before last × ((e : MemberError) × step last (Err e) after)

-- So many tries of a task were made, of which each but the last failed: the last one gave the answer; or it failed too, as the last
-- that the policy allows, and their number is the answer. Where the policy allows none, none was made.
pub record Tries {C R : Type 0} (step : C → Result R MemberError → C → Type 0) (policy : BackoffPolicy) (task : C) (result : Result R MemberError) : Type 0 where
  pub failed : ℕ
  pub last : C
  pub first : FailsTimes step failed task last
  pub answer : MatchResult result (λ r. (failed < policy.max_retries) × ((after : C) × step last (Ok r) after)) (λ e. (failed ≡ policy.max_retries) × (e ≡ TaskBackoffFailed failed))

-- how many pauses stand between the tries: one behind each that failed, but behind the last that the policy allows
abbrev pub pauses_between : {R : Type 0} → Result R MemberError → (failed : ℕ) → ℕ
pauses_between (Ok r) failed = failed
pauses_between (Err e) failed = failed - 1
