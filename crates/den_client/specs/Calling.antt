-- What a call of one of several callers adds to the history that it has seen.
use Rattle.std.specs.Prelude.{◌≡◌, ℕ, Bool, IsTrue, true, false, List, [], ◌∷◌, ◌++◌, filter, ◌==◌, Option, Result}
use Rattle.den_desk.specs.declared.history.Answer.{Answer}
use Rattle.den_desk.specs.declared.history.Answered.{Answered}
use Rattle.den_desk.specs.declared.history.Call.{Call}
use Rattle.den_desk.specs.declared.history.CallError.{CallError}
use Rattle.den_desk.specs.declared.history.End.{End}
use Rattle.den_desk.specs.declared.history.FailKind.{FailKind}
use Rattle.den_desk.specs.declared.history.Finished.{Finished}
use Rattle.den_desk.specs.History.{Standing, Tells, finished, has_no_entry, standing_of}

-- A caller's number, the standing at which its history begins, and the finished calls that it has seen, its own and those of others.
pub record View : Type 0 where
  pub number : ℕ
  pub start : Standing
  pub seen : List Finished

-- A clock: whether it tells its readings, and those that it gave.
pub record Readings : Type 0 where
  pub tells : Bool
  pub given : List ℕ

abbrev pub readings_of : {C : Type 0} → (C → Bool) → (C → List ℕ) → C → Readings
readings_of tells readings clock = record { tells = tells clock; given = readings clock }

-- one reading more, which is this moment
pub record IsRead (old new : Readings) (moment : ℕ) : Type 0 where
  pub told : IsTrue new.tells → IsTrue old.tells
  pub reading : IsTrue new.tells → new.given ≡ old.given ++ moment ∷ []

-- the calls that the caller of this number made
abbrev pub calls_by : ℕ → List Finished → List Finished
calls_by number calls = filter (λ f. f.caller == number) calls

-- where the history ended before or in these calls, if it did
abbrev pub end_in : Standing → List Finished → Option End
end_in start calls = (standing_of 0 start calls).ended

-- One entry of the caller's own, behind calls of others, and what is told of it.
pub record HasEntry (old new : View) (moment : ℕ) (call : Call) (told : Result Answered CallError) : Type 0 where
  pub between : List Finished
  pub outcome : Result Answer FailKind
  pub entry : new.seen ≡ (old.seen ++ between) ++ finished old.number moment call outcome ∷ []
  pub others : calls_by old.number between ≡ []
  pub tells : Tells (old.seen ++ between) (end_in old.start (old.seen ++ between)) call outcome told

-- A call at the clock's one reading: it has one entry, or none for want of memory, which leaves what was seen.
pub record Called (old new : View) (before after : Readings) (call : Call) (told : Result Answered CallError) : Type 0 where
  pub moment : ℕ
  pub read : IsRead before after moment
  pub number : new.number ≡ old.number
  pub start : new.start ≡ old.start
  pub untouched : has_no_entry told ≡ true → new.seen ≡ old.seen
  pub added : has_no_entry told ≡ false → HasEntry old new moment call told

-- what the only caller of a history has seen: all of it; its number is 0
abbrev pub local_view : {S : Type 0} → (S → Standing) → (S → List Finished) → S → View
local_view start history station = record { number = 0; start = start station; seen = history station }
