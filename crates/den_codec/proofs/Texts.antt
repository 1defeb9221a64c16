-- The test for UTF-8 and what it tests.
use Rattle.std.proofs.Common.{◌≡◌, ℕ, Bool, true, false, List, refl, sym, ◌∙◌}
use Rattle.std.specs.Prelude.{IsUtf8}
use Rattle.std.specs.Str.{is_utf8}
use Rattle.std.proofs.lemmas.Str.{IsUtf8-from_is_utf8, is_utf8-from_IsUtf8}

pub text_passes : (bytes : List ℕ) → IsUtf8 bytes → is_utf8 bytes ≡ true
text_passes bytes h = is_utf8-from_IsUtf8 bytes h

not_true : (b : Bool) → (b ≡ true → ⊥) → b ≡ false
not_true false h = refl
not_true true h = absurd (h refl)

pub text_fails : (bytes : List ℕ) → ¬ (IsUtf8 bytes) → is_utf8 bytes ≡ false
text_fails bytes h = not_true (is_utf8 bytes) (λ e. h (IsUtf8-from_is_utf8 bytes e))
