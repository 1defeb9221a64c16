-- Texts that are ids.
use Rattle.std.proofs.Common.{◌≡◌, ◌∙◌, ℕ, ◌^◌, ◌<◌, Bool, true, false, ltb, List, length, Some, None, Result, Ok, Err, refl, ap, sym, subst, arith}
use Rattle.std.specs.Prelude.{◌&&◌, ◌↔◌, if◌then◌else◌}
use Rattle.std.specs.Fmt.{decimal}
use Rattle.std.specs.Result.{result_ok}
use Rattle.std.specs.Str.{all_ascii_digits}
use Rattle.std.specs.Str.Parse.{IsNumeral, ParsesUnsigned, digits_value, without_leading_plus}
use Rattle.std.proofs.lemmas.Bool.{ltb-true}
use Rattle.std.proofs.lemmas.Bool.Decides.{nat_tests}
use Rattle.std.proofs.lemmas.Fmt.{decimal_is_IsNumeral}
use Rattle.std.proofs.lemmas.Str.Parse.{IsNumeralModel, not_in_digits, numerals_by_value, tells_all_ascii_digits, without_leading_plus_none}
use Rattle.den_proto.specs.Hints.{id_of, is_number, number_in}

own : IsNumeralModel (λ ds. all_ascii_digits ds ≡ true) (digits_value 10)
own = numerals_by_value _ tells_all_ascii_digits

-- a numeral whose number is below 2^32
abbrev IsSmall : List ℕ → Type 0
IsSmall ds = IsNumeral 10 ds × (digits_value 10 ds < 2 ^ 32)

all_true : (a b c : Bool) → a ≡ true → b ≡ true → c ≡ true → (a && b && c) ≡ true
all_true a b c x y z = rw (x, y, z) refl

each_true : (a b c : Bool) → (a && b && c) ≡ true → (a ≡ true) × (b ≡ true) × (c ≡ true)
each_true true true true h = (refl, refl, refl)
each_true true true false h = cc
each_true true false c h = cc
each_true false b c h = cc

below : (m n : ℕ) → m < n → ltb m n ≡ true
below m n h = grind (arith, nat_tests)

pub passes : (ds : List ℕ) → IsSmall ds → is_number ds ≡ true
passes ds h = all_true _ _ _ (below _ _ h.0.0) (own.from ds h.0.1) (below _ _ h.1)

pub tells : (ds : List ℕ) → is_number ds ≡ true → IsSmall ds
tells ds h =
    let each : (ltb 0 (length ds) ≡ true) × (all_ascii_digits ds ≡ true) × (ltb (digits_value 10 ds) (2 ^ 32) ≡ true)
    = each_true _ _ _ h in
    ((ltb-true _ _ each.0, own.to ds each.1), ltb-true _ _ each.2)

pub number_read : (ds : List ℕ) → IsSmall ds → number_in ds ≡ Some (digits_value 10 ds)
number_read ds h = rw (passes ds h) refl

number_told : (b : Bool) (n id : ℕ) → (if b then Some n else None) ≡ Some id → (b ≡ true) × (n ≡ id)
number_told true n id h = (refl, cc)
number_told false n id h = cc

unread : (b : Bool) (n : ℕ) → (b ≡ true → ⊥) → None ≡ (if b then Some n else None)
unread true n h = absurd (h refl)
unread false n h = refl

pub parsed : {E : Type 0} (text : List ℕ) (r : Result ℕ E) → ParsesUnsigned 32 10 text r → result_ok r ≡ id_of text
unfolding id_of
parsed text (Ok x) h = ap Some h.1 ∙ sym (number_read (without_leading_plus text) h.0)
parsed text (Err e) h =
    unread (is_number (without_leading_plus text)) _ (λ is. h (tells (without_leading_plus text) is))

pub is_numeral : (text : List ℕ) (id : ℕ) → (id_of text ≡ Some id)
    ↔ (IsNumeral 10 (without_leading_plus text) × (digits_value 10 (without_leading_plus text) ≡ id) × (id < 2 ^ 32))
unfolding id_of
is_numeral text id =
    let ds = without_leading_plus text in (
      (λ h.
          let told : (is_number ds ≡ true) × (digits_value 10 ds ≡ id) =
          number_told (is_number ds) (digits_value 10 ds) id h in
          let small : IsSmall ds = tells ds told.0 in
          (small.0, told.1, subst (λ (n : ℕ). n < 2 ^ 32) told.1 small.1)),
      (λ h. number_read ds (h.0, subst (λ (n : ℕ). n < 2 ^ 32) (sym h.1) h.2) ∙ ap Some h.1),
    )

-- an id that is written has no plus in front
no_plus : (id : ℕ) → id < 2 ^ 64 → without_leading_plus (decimal id) ≡ decimal id
no_plus id lt =
    let ds = decimal id in
    let n : IsNumeral 10 ds = (decimal_is_IsNumeral id lt).0 in
    without_leading_plus_none ds (not_in_digits own ds 43 (own.from ds n.1) (λ h. omega arith) 0 n.0)

pub id_read : (id : ℕ) → id < 2 ^ 32 → id_of (decimal id) ≡ Some id
unfolding id_of
id_read id lt =
    let wide : id < 2 ^ 64 = omega arith in
    let n : IsNumeral 10 (decimal id) × (digits_value 10 (decimal id) ≡ id) = decimal_is_IsNumeral id wide in
    let small : digits_value 10 (decimal id) < 2 ^ 32 = subst (λ (m : ℕ). m < 2 ^ 32) (sym n.1) lt in
    ap number_in (no_plus id wide) ∙ number_read (decimal id) (n.0, small) ∙ ap Some n.1
