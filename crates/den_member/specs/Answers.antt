-- What calls that change the members are answered.
use Rattle.std.specs.Prelude.{◌≡◌, Option, Some, None, Result, Ok, Err}
use Rattle.den_member.specs.Members.{Members}
use Rattle.den_member.specs.declared.error.MemberError.{MemberError}
use Rattle.den_member.specs.declared.error.MemberError.TheVariants.{Membership, OutOfMemory}
use Rattle.den_member.specs.declared.error.MembershipError.{MembershipError}

-- what a change comes to: why it is refused, if it is, and the members behind it
pub record ChangeOutcome : Type 0 where
  pub refusal : Option MembershipError
  pub members : Members

abbrev pub done : Members → ChangeOutcome
done m = record { refusal = None; members = m }

abbrev pub refused : MembershipError → Members → ChangeOutcome
refused cause m = record { refusal = Some cause; members = m }

-- how it is told
abbrev pub told_as : ChangeOutcome → Result (Unit {0}) MemberError
told_as o = elim o.refusal [ None ↦ Ok tt | Some cause ↦ Err (Membership cause) ]

-- A call that takes no memory comes to this outcome.
pub record Comes (result : Result (Unit {0}) MemberError) (outcome : ChangeOutcome) (new : Members) : Type 0 where
  pub answer : result ≡ told_as outcome
  pub members : new ≡ outcome.members

-- A call is answered as wanted, and leaves these members; or for want of memory it changes nothing.
pub record Answers {X : Type 0} (result : Result X MemberError) (old : Members) (wanted : Result X MemberError) (after new : Members) : Type 0 where
  pub answered : (result ≡ Err OutOfMemory → ⊥) → (result ≡ wanted) × (new ≡ after)
  pub kept : result ≡ Err OutOfMemory → new ≡ old

-- A call makes a change, or for want of memory none.
abbrev pub MakesChange : (result : Result (Unit {0}) MemberError) → (old : Members) → ChangeOutcome → (new : Members) → Type 0
MakesChange result old o new = Answers result old (told_as o) o.members new
