-- A call of a client, from what its caller is told.
use Rattle.std.proofs.Common.{◌≡◌, ◌⊎◌, Result, Ok, Err, inl, inr, refl, sym, ap, ◌∙◌, subst}
use Rattle.std.specs.Result.{IsErrAnd}
use Rattle.den_proto.specs.declared.client_error.ClientApiError.{ClientApiError}
use Rattle.den_proto.specs.declared.client_error.ClientApiError.TheVariants.{OutOfMemory}
use Rattle.den_desk.specs.declared.history.Answer.{Answer}
use Rattle.den_desk.specs.declared.history.Answered.{Answered}
use Rattle.den_desk.specs.declared.history.Call.{Call}
use Rattle.den_desk.specs.declared.history.CallError.{CallError}
use Rattle.den_desk.specs.declared.history.CallError.TheVariants.{Failed, OutOfMemory as no_memory}
use Rattle.den_desk.specs.History.{Replays}
use Rattle.den_client.specs.Asking.{Asks, Client, IsMapped, Makes}
use Rattle.den_client.specs.Calling.{Called}
use Rattle.den_client.specs.Mapped.{closed, result_of}
use Rattle.den_client.proofs.Fitting.{called_fits}

-- the same error of another result
same_error : {X Y : Type 0} → (e wanted : ClientApiError) → (let r : Result X ClientApiError = Err e in r) ≡ Err wanted → (let r : Result Y ClientApiError = Err e in r) ≡ Err wanted
same_error e wanted same = let is : e ≡ wanted = cc in ap (λ (x : ClientApiError). Err x) is

-- the call was answered
pub answered : (old new : Client) (call : Call) (a : Answered) → new.id ≡ old.id → new.timeout ≡ old.timeout
    → Replays new.caller.start new.caller.seen → Called old.caller new.caller old.clock new.clock call (Ok a) → Asks old new call (λ x. Ok x) (Ok a.answer)
answered old new call a id timeout replays called = record {
  id = id;
  timeout = timeout;
  made = inr (record { told = Ok a; called = called; fit = called_fits old.caller new.caller old.clock new.clock call a replays called; mapped = λ _. refl });
}

mapped_refusal : {X : Type 0} → (make : Answer → Result X ClientApiError) (e : ClientApiError) (told : Result Answered CallError)
    → IsMapped {X = Answer} (result_of (λ x. Ok x) told) (Err e) → IsMapped (result_of make told) (Err e)
mapped_refusal make e (Ok a) mapped other = let bad : (let r : Result Answer ClientApiError = Err e in r) ≡ Ok a.answer = mapped (λ is. other (same_error e OutOfMemory is)) in cc
mapped_refusal make e (Err (Failed place kind)) mapped other = same_error e closed (mapped (λ is. other (same_error e OutOfMemory is)))
mapped_refusal make e (Err (no_memory place)) mapped other = same_error e OutOfMemory (mapped (λ is. other (same_error e OutOfMemory is)))

made_refusal : {X : Type 0} → (old new : Client) (call : Call) (make : Answer → Result X ClientApiError) (e : ClientApiError)
    → (((let r : Result Answer ClientApiError = Err e in r) ≡ Err OutOfMemory) × (new ≡ old)) ⊎ Makes {X = Answer} old new call (λ x. Ok x) (Err e)
    → (((let r : Result X ClientApiError = Err e in r) ≡ Err OutOfMemory) × (new ≡ old)) ⊎ Makes old new call make (Err e)
made_refusal old new call make e (inl none) = inl (same_error e OutOfMemory none.0, none.1)
made_refusal old new call make e (inr m) = inr (record { told = m.told; called = m.called; fit = m.fit; mapped = mapped_refusal make e m.told m.mapped })

-- there was no answer, and the call is refused so
refused : {X : Type 0} → (old new : Client) (call : Call) (make : Answer → Result X ClientApiError) (e : ClientApiError)
    → Asks {X = Answer} old new call (λ x. Ok x) (Err e) → Asks old new call make (Err e)
refused old new call make e asks = record { id = asks.id; timeout = asks.timeout; made = made_refusal old new call make e asks.made }

-- and a result that hands the error on
pub handed_on : {X : Type 0} → (old new : Client) (asked call : Call) (make : Answer → Result X ClientApiError) (e : ClientApiError) (result : Result X ClientApiError)
    → asked ≡ call → IsErrAnd result (λ y. y ≡ e) → Asks {X = Answer} old new asked (λ x. Ok x) (Err e) → Asks old new call make result
handed_on old new asked call make e (Ok x) same is asks = absurd is
handed_on old new asked call make e (Err y) same is asks =
    subst (λ (x : ClientApiError). Asks old new call make (Err x)) (sym is) (subst (λ (c : Call). Asks old new c make (Err e)) same (refused old new asked make e asks))

mapped_answer : {X : Type 0} → (make : Answer → Result X ClientApiError) (a : Answer) (result : Result X ClientApiError) (told : Result Answered CallError)
    → IsMapped {X = Answer} (result_of (λ x. Ok x) told) (Ok a) → IsMapped (make a) result → IsMapped (result_of make told) result
mapped_answer make a result (Ok told) mapped made other =
    let is : (let r : Result Answer ClientApiError = Ok a in r) ≡ Ok told.answer = mapped (λ bad. cc) in
    let same : a ≡ told.answer = cc in
    made other ∙ ap make same
mapped_answer make a result (Err (Failed place kind)) mapped made other = let bad : (let r : Result Answer ClientApiError = Ok a in r) ≡ Err closed = mapped (λ bad. cc) in cc
mapped_answer make a result (Err (no_memory place)) mapped made other = let bad : (let r : Result Answer ClientApiError = Ok a in r) ≡ Err OutOfMemory = mapped (λ bad. cc) in cc

made_answer : {X : Type 0} → (old new : Client) (call : Call) (make : Answer → Result X ClientApiError) (a : Answer) (result : Result X ClientApiError)
    → (((let r : Result Answer ClientApiError = Ok a in r) ≡ Err OutOfMemory) × (new ≡ old)) ⊎ Makes {X = Answer} old new call (λ x. Ok x) (Ok a)
    → IsMapped (make a) result → Makes old new call make result
made_answer old new call make a result (inl none) made = let bad : (let r : Result Answer ClientApiError = Ok a in r) ≡ Err OutOfMemory = none.0 in cc
made_answer old new call make a result (inr m) made = record { told = m.told; called = m.called; fit = m.fit; mapped = mapped_answer make a result m.told m.mapped made }

-- there was an answer, of which the result is made
pub made : {X : Type 0} → (old new : Client) (call : Call) (make : Answer → Result X ClientApiError) (a : Answer) (result : Result X ClientApiError)
    → Asks {X = Answer} old new call (λ x. Ok x) (Ok a) → IsMapped (make a) result → Asks old new call make result
made old new call make a result asks is = record { id = asks.id; timeout = asks.timeout; made = inr (made_answer old new call make a result asks.made is) }
