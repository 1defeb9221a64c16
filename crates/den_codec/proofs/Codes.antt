-- The code of a number.
use Rattle.std.proofs.Common.{◌≡◌, ℕ, ◌<◌, ◌≤◌, get_or, length, Some, None, refl, sym, arith}
use Rattle.std.specs.List.{slice_get}
use Rattle.std.proofs.lemmas.Option.{slice_get_read, slice_get_past}
use Rattle.den_model.specs.declared.reply.ErrorCode.{ErrorCode}
use Rattle.den_model.specs.ReplyReading.{all_codes}

pub code_within : (n : ℕ) (c : ErrorCode) → n < 23 → c ≡ get_or all_codes n c → Some c ≡ slice_get all_codes n
code_within n c lt is = sym (slice_get_read all_codes 23 n c refl lt is)

pub code_past : (n : ℕ) → 23 ≤ n → None ≡ slice_get all_codes n
code_past n le = sym (slice_get_past all_codes n le)
