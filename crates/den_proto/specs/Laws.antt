-- Laws of the definitions.
use Rattle.std.specs.Prelude.{◌≡◌, ◌↔◌, ℕ, ℤ, pos, ◌^◌, ◌<◌, ◌≤◌, List, Option, Some, IfSome, IsSome}
use Rattle.std.specs.Fmt.{decimal}
use Rattle.std.specs.Str.Parse.{IsNumeral, digits_value, without_leading_plus}
use Rattle.den_model.specs.Spelling.{code_number}
use Rattle.den_model.specs.declared.reply.ClientResponse.{ClientResponse}
use Rattle.den_model.specs.declared.reply.ErrorCode.{ErrorCode}
use Rattle.den_model.specs.declared.reply.LeaderHint.{LeaderHint}
use Rattle.den_proto.specs.Codes.{core_code, error_of, proto_code}
use Rattle.den_proto.specs.Hints.{address_text, hint_in, id_of, id_text}
use Rattle.den_proto.specs.Responses.{core_response, proto_response}
use Rattle.den_proto.specs.declared.proto.ErrorCode.{ErrorCode as ProtoCode}

-- each code of either kind has one of the same name, and no two have the same
abbrev pub CodesAreOneToOne : Type 0
CodesAreOneToOne = ((e : ErrorCode) → core_code (proto_code e) ≡ e) × ((e : ProtoCode) → proto_code (core_code e) ≡ e)

-- a number has a code exactly from 0 to 22, and each code's number has that code
abbrev pub NumbersHaveCodes : Type 0
NumbersHaveCodes = ((n : ℤ) → IsSome (error_of n) ↔ ((m : ℕ) × (m ≤ 22) × (n ≡ pos m)))
    × ((e : ErrorCode) → error_of (pos (code_number e)) ≡ Some e)

-- a text is an id exactly where, after one plus at most, it is one or more digits whose number is below 2^32:
-- that number
abbrev pub IdsAreNumerals : Type 0
IdsAreNumerals = (text : List ℕ) (id : ℕ) → (id_of text ≡ Some id)
    ↔ (IsNumeral 10 (without_leading_plus text) × (digits_value 10 (without_leading_plus text) ≡ id) × (id < 2 ^ 32))

-- an id that is written is read
abbrev pub IdsAreRead : Type 0
IdsAreRead = (id : ℕ) → id < 2 ^ 32 → id_of (decimal id) ≡ Some id

-- the id of a hint is one
abbrev pub FitsHint : Option LeaderHint → Type 0
FitsHint hint = IfSome hint (λ h. h.leader_id < 2 ^ 32)

-- a hint that is told as texts is read
abbrev pub HintsAreRead : Type 0
HintsAreRead = (hint : Option LeaderHint) → FitsHint hint → hint_in (id_text hint) (address_text hint) ≡ hint

-- an answer that was made a message is the answer again
abbrev pub ResponsesComeBack : Type 0
ResponsesComeBack = (r : ClientResponse) → FitsHint r.leader_hint → core_response (proto_response r) ≡ r
