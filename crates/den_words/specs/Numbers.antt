-- Numbers of the command line.
use Rattle.std.specs.Prelude.{◌==◌, ◌&&◌, ℕ, Bool, false, not, List, [], ◌∷◌, Option, Some, None, nat_le, option_map, if◌then◌else◌}
use Rattle.std.specs.Char.{is_ascii_digit}
use Rattle.std.specs.List.{list_all}
use Rattle.std.specs.Str.Parse.{digits_value}

-- decimal digits, at least one, of which the first is no zero where another follows
abbrev pub is_numeral : List ℕ → Bool
is_numeral [] = false
is_numeral (digit ∷ []) = list_all is_ascii_digit (digit ∷ [])
is_numeral (first ∷ next ∷ rest) = not (first == 48) && list_all is_ascii_digit (first ∷ next ∷ rest)

-- the number that a text writes, where it is from `least` to `most`
abbrev pub number_in : (least most : ℕ) → List ℕ → Option ℕ
number_in least most text =
    if is_numeral text && (nat_le least (digits_value 10 text) && nat_le (digits_value 10 text) most)
    then Some (digits_value 10 text) else None

-- the number of an option: none where it was not given, and nothing where what was given is no such number
abbrev pub given_number : (least most : ℕ) → Option (List ℕ) → Option (Option ℕ)
given_number least most None = Some None
given_number least most (Some text) = option_map Some (number_in least most text)
