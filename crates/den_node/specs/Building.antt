-- What a builder lacks, and how a call of one is refused.
use Rattle.std.specs.Prelude.{Option, Some, None, Result, Ok, Err}
use Rattle.den_codec.specs.declared.error.Error.{Error}
use Rattle.den_node.specs.declared.error.MissingPart.{MissingPart}
use Rattle.den_node.specs.declared.error.MissingPart.TheVariants.{StateMachine, StorageEngine}
use Rattle.den_node.specs.declared.error.NodeError.{NodeError}
use Rattle.den_node.specs.declared.error.NodeError.TheVariants.{Engine, Fatal, NodeStartFailed}

-- the part that is not set, the state machine first
abbrev pub missing_part : {E M : Type 0} → Option E → Option M → Option MissingPart
missing_part storage None = Some StateMachine
missing_part None (Some machine) = Some StorageEngine
missing_part (Some storage) (Some machine) = None

-- a builder, unless a part is missing
abbrev pub built : {B : Type 0} → Option MissingPart → B → Result B NodeError
built None builder = Ok builder
built (Some part) builder = Err (NodeStartFailed part)

-- refused by what is below the builder, and for this
abbrev pub FailsAs : (Error → Type 0) → NodeError → Type 0
FailsAs cause (Engine e) = cause e
FailsAs cause (NodeStartFailed part) = ⊥
FailsAs cause Fatal = ⊥
