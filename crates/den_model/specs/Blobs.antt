-- What a blob's form stands for.
use Rattle.std.specs.Prelude.{ℕ, List, take}
use Rattle.den_model.specs.declared.blob.Form.{Form}
use Rattle.den_model.specs.declared.blob.Form.TheVariants.{Short, Shared}

-- the bytes, wherever they lie
abbrev pub bytes_of : Form → List ℕ
bytes_of (Short room len) = take len room
bytes_of (Shared b) = b
