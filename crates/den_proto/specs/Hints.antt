-- Who leads, as texts.
use Rattle.std.specs.Prelude.{ℕ, ◌^◌, Bool, ◌&&◌, List, length, nat_lt, Option, Some, None, if◌then◌else◌}
use Rattle.std.specs.Fmt.{decimal}
use Rattle.std.specs.Str.{all_ascii_digits}
use Rattle.std.specs.Str.Parse.{digits_value, without_leading_plus}
use Rattle.den_model.specs.declared.reply.LeaderHint.{LeaderHint}
use Rattle.den_proto.specs.declared.proto.ErrorMetadata.{ErrorMetadata}

-- one digit or more, whose number is below 2^32
abbrev pub is_number : List ℕ → Bool
is_number digits = nat_lt 0 (length digits) && all_ascii_digits digits && nat_lt (digits_value 10 digits) (2 ^ 32)

abbrev pub number_in : List ℕ → Option ℕ
number_in digits = if is_number digits then Some (digits_value 10 digits) else None

-- the id that a text is, after one plus at most
unfoldable pub id_of : List ℕ → Option ℕ
id_of text = number_in (without_leading_plus text)

abbrev pub hint_with : Option ℕ → List ℕ → Option LeaderHint
hint_with None address = None
hint_with (Some leader_id) address = Some (record { leader_id = leader_id; address = address })

-- the leader that texts name: both are there, and the first is an id
abbrev pub hint_in : Option (List ℕ) → Option (List ℕ) → Option LeaderHint
hint_in (Some id) (Some address) = hint_with (id_of id) address
hint_in _ _ = None

abbrev pub hint_of : ErrorMetadata → Option LeaderHint
hint_of meta = hint_in meta.leader_id meta.leader_address

-- the texts of a leader: its id in decimal, and its address
abbrev pub id_text : Option LeaderHint → Option (List ℕ)
id_text None = None
id_text (Some hint) = Some (decimal hint.leader_id)

abbrev pub address_text : Option LeaderHint → Option (List ℕ)
address_text None = None
address_text (Some hint) = Some hint.address

abbrev pub told : Option LeaderHint → Option ℕ → ErrorMetadata
told leader_hint retry_after_ms = record {
  retry_after_ms = retry_after_ms;
  leader_id = id_text leader_hint;
  leader_address = address_text leader_hint;
  debug_message = None;
}

-- what is told beside a code, where there is something to tell
abbrev pub metadata_of : Option LeaderHint → Option ℕ → Option ErrorMetadata
metadata_of None None = None
metadata_of None (Some retry_after_ms) = Some (told None (Some retry_after_ms))
metadata_of (Some hint) retry_after_ms = Some (told (Some hint) retry_after_ms)
