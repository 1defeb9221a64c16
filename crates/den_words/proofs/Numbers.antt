-- A numeral that does not parse writes a number above every bound.
use Rattle.std.proofs.Common.{◌≡◌, ◌≢◌, ◌<◌, ◌≤◌, ◌^◌, ◌&&◌, ◌∙◌, ℕ, Bool, true, false, List, [], ◌∷◌, length, arith, rules, refl, sym}
use Rattle.std.specs.Prelude.{get_or, None, Some, Err, nat_le, if◌then◌else◌}
use Rattle.std.specs.Char.{is_ascii_digit}
use Rattle.std.specs.List.{list_all}
use Rattle.std.specs.Str.{all_ascii_digits}
use Rattle.std.specs.Str.Parse.{ParsesUnsigned, digits_value}
use Rattle.std.proofs.lemmas.Str.Parse.{numerals_by_value, parse_plain, tells_all_ascii_digits}
use Rattle.den_words.specs.Numbers.{is_numeral, number_in}

and_right : (a b : Bool) → (a && b) ≡ true → b ≡ true
and_right true b h = h
and_right false b h = cc

and_left : (a b : Bool) → (a && b) ≡ true → a ≡ true
and_left true b h = refl
and_left false b h = cc

same_digits : (ds : List ℕ) → list_all is_ascii_digit ds ≡ all_ascii_digits ds
same_digits [] = refl
same_digits (d ∷ ds) = rw (same_digits ds) refl

all_digits : (text : List ℕ) → is_numeral text ≡ true → list_all is_ascii_digit text ≡ true
all_digits [] h = cc
all_digits (d ∷ []) h = h
all_digits (d ∷ next ∷ rest) h = and_right _ _ h

some_digit : (text : List ℕ) → is_numeral text ≡ true → 0 < length text
some_digit [] h = cc
some_digit (d ∷ rest) h = omega arith

no_plus : (text : List ℕ) → list_all is_ascii_digit text ≡ true → get_or text 0 0 ≢ 43
no_plus [] h = λ e. cc
no_plus (d ∷ rest) h = λ e.
    let digit : is_ascii_digit d ≡ true = and_left _ _ h in
    let bad : is_ascii_digit 43 ≡ true = rw e at digit in
    cc

pub no_number : (least most : ℕ) (text : List ℕ) → {E : Type 0} → (e : E) → most < 2 ^ 32 → ParsesUnsigned 32 10 text (Err e) → is_numeral text ≡ true
    → None ≡ number_in least most text
no_number least most text e bound parses numeral = go (nat_le (digits_value 10 text) most) refl
  where
    go : (t : Bool) → nat_le (digits_value 10 text) most ≡ t → None ≡ number_in least most text
    go true t =
        let digits = all_digits text numeral in
        let fits : digits_value 10 text ≤ most = search rules in
        let refused = parse_plain (numerals_by_value _ tells_all_ascii_digits) 32 text (Err e) parses (no_plus text digits) in
        absurd (refused (sym (same_digits text) ∙ digits, some_digit text numeral, omega arith))
    go false t = rw (numeral, t) (cases (nat_le least (digits_value 10 text)))
      where
        cases : (b : Bool) → None ≡ (if b && false then Some (digits_value 10 text) else None)
        cases true = refl
        cases false = refl
