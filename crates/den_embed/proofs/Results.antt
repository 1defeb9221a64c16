-- What holds of an answer, made of what else holds of it.
use Rattle.std.proofs.Common.{Result, Ok, Err, IfOk, IfErr}
use Rattle.den_codec.specs.declared.error.Error.{Error}
use Rattle.den_node.specs.declared.error.NodeError.{NodeError}
use Rattle.den_node.specs.declared.error.NodeError.TheVariants.{Engine, Fatal, NodeStartFailed}
use Rattle.den_node.specs.Building.{FailsAs}

pub if_ok_one : {T E : Type 0} (r : Result T E) (P S : T → Type 0) → ((x : T) → P x → S x) → IfOk r P → IfOk r S
if_ok_one (Ok x) P S f p = f x p
if_ok_one (Err e) P S f p = record {}

pub if_ok_three : {T E : Type 0} (r : Result T E) (P Q R S : T → Type 0) → ((x : T) → P x → Q x → R x → S x) → IfOk r P → IfOk r Q → IfOk r R → IfOk r S
if_ok_three (Ok x) P Q R S f p q h = f x p q h
if_ok_three (Err e) P Q R S f p q h = record {}

pub if_err_one : {T E : Type 0} (r : Result T E) (P S : E → Type 0) → ((e : E) → P e → S e) → IfErr r P → IfErr r S
if_err_one (Ok x) P S f p = record {}
if_err_one (Err e) P S f p = f e p

-- a refusal from below, for a cause that has another one
pub fails_so : (P Q : Error → Type 0) (e : NodeError) → ((x : Error) → P x → Q x) → FailsAs P e → FailsAs Q e
fails_so P Q (Engine x) f p = f x p
fails_so P Q (NodeStartFailed part) f p = absurd p
fails_so P Q Fatal f p = absurd p
