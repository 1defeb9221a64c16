-- The code of a number.
use Rattle.std.proofs.Common.{◌≡◌, ℕ, ◌<◌, ◌≤◌, get_or, Some, None, refl, sym}
use Rattle.std.specs.List.{slice_get}
use Rattle.std.proofs.lemmas.Option.{slice_get_read, slice_get_past}
use Rattle.den_model.specs.declared.reply.ErrorCode.{ErrorCode}
use Rattle.den_model.specs.ReplyReading.{all_codes}

pub code_within : (n : ℕ) (e : ErrorCode) → n < 23 → e ≡ get_or all_codes n e → Some e ≡ slice_get all_codes n
code_within n e lt is = sym (slice_get_read all_codes 23 n e refl lt is)

pub code_past : (n : ℕ) → 23 ≤ n → None ≡ slice_get all_codes n
code_past n le = sym (slice_get_past all_codes n le)
