-- The byte as it stood before the first pending write, over a record that was made call by call.
use Rattle.std.proofs.Common.{◌≡◌, inl, inr, ℕ, ◌+◌, ◌-◌, ◌<◌, ◌≤◌, ◌&&◌, Bool, true, false, if◌then◌else◌, nat_lt, nat_le, List, [], ◌∷◌, ◌++◌, length, get_or, take, drop, replicate, refl, sym, ◌∙◌, ap, arith, length-take, length-append}
use Rattle.std.proofs.lemmas.Bool.{cases_lt, false≢true, true≢false, ltb-true, ltb-false, leb-true, leb-false, lt-ltb, le-ltb}
use Rattle.std.proofs.lemmas.List.{ext_get_or, get_or-take, get_or_append_left, get_or-append_right, get_or_past, get_or-replicate}
use Rattle.den_disk.specs.declared.place.Place.{Place}
use Rattle.den_disk.specs.declared.memory.Step.{Step}
use Rattle.den_disk.specs.declared.memory.Step.TheVariants.{Write, Resize, Sync}
use Rattle.den_disk.specs.Place.{is_place}
use Rattle.den_disk.specs.Files.{put_at, fit}
use Rattle.den_disk.specs.Memory.{undone}
use Rattle.den_disk.specs.Unwritten.{has_sync, since_sync, resized_by, unwritten, AreMade}
use Rattle.den_disk.specs.Spoil.{writes_byte, stays_pending, byte_unwritten}
use Rattle.den_disk.proofs.Images.{length-put_at, length-fit, put_one}

-- a byte of a file that is cut or filled
fit_at : (len : ℕ) (file : List ℕ) (k : ℕ) → get_or (fit len file) k 0 ≡ (if nat_lt k len then get_or file k 0 else 0)
fit_at len file k = elim (cases_lt k len) [
  | inl less ↦
      elim (cases_lt k (length file)) [
        | inl lt ↦ get_or_append_left (take len file) (replicate (len - length file) 0) 0 k (omega (arith, length-take len file)) ∙ get_or-take len file k 0 less
        | inr ge ↦ get_or-append_right (take len file) (replicate (len - length file) 0) (length file) k 0 (omega (arith, length-take len file)) ge
            ∙ get_or-replicate (len - length file) (k - length file) 0 0 (omega arith) ∙ sym (get_or_past file k 0 ge)
      ] ∙ ap (λ (b : Bool). if b then get_or file k 0 else 0) (sym (lt-ltb k len less))
  | inr past ↦ get_or_past (fit len file) k 0 (omega (arith, length-fit len file)) ∙ ap (λ (b : Bool). if b then get_or file k 0 else 0) (sym (le-ltb k len past))
]

-- a byte of the bytes put
put_within : (at : ℕ) (bytes file : List ℕ) → at + length bytes ≤ length file → (k : ℕ) → at ≤ k → k < at + length bytes → get_or (put_at at bytes file) k 0 ≡ get_or bytes (k - at) 0
put_within at bytes file room k low high =
    get_or_append_left (take at file ++ bytes) (drop (at + length bytes) file) 0 k (omega (arith, length-append (take at file) bytes, length-take at file))
    ∙ get_or-append_right (take at file) bytes at k 0 (omega (arith, length-take at file)) low

-- a byte of what the resizes make of a file
both_or : (a s : Bool) (x : ℕ) → (if s then (if a then x else 0) else 0) ≡ (if a && s then x else 0)
both_or true s x = refl
both_or false true x = refl
both_or false false x = refl

resize_at : (b : Bool) (len : ℕ) (steps : List Step) (q : Place) (file : List ℕ) (k : ℕ) → ((base : List ℕ) → get_or (resized_by steps q base) k 0 ≡ (if stays_pending steps q k then get_or base k 0 else 0))
    → get_or (resized_by steps q (if b then fit len file else file)) k 0 ≡ (if (if b then nat_lt k len && stays_pending steps q k else stays_pending steps q k) then get_or file k 0 else 0)
resize_at true len steps q file k rest = rest (fit len file) ∙ ap (λ (n : ℕ). if stays_pending steps q k then n else 0) (fit_at len file k) ∙ both_or (nat_lt k len) (stays_pending steps q k) (get_or file k 0)
resize_at false len steps q file k rest = rest file

resized_at : (steps : List Step) → has_sync steps ≡ false → (q : Place) (file : List ℕ) (k : ℕ) → get_or (resized_by steps q file) k 0 ≡ (if stays_pending steps q k then get_or file k 0 else 0)
resized_at [] none q file k = refl
resized_at (Write place at was ∷ steps) none q file k = resized_at steps none q file k
resized_at (Resize place len from was ∷ steps) none q file k = resize_at (is_place q place) len steps q file k (λ base. resized_at steps none q base k)
resized_at (Sync ∷ steps) none q file k = absurd (true≢false none)

-- which depends on the file's length alone in length
fit_long : (b : Bool) (len : ℕ) (a c : List ℕ) → length a ≡ length c → length (if b then fit len a else a) ≡ length (if b then fit len c else c)
fit_long true len a c e = length-fit len a ∙ sym (length-fit len c)
fit_long false len a c e = e

resized_long : (steps : List Step) (q : Place) (a c : List ℕ) → length a ≡ length c → length (resized_by steps q a) ≡ length (resized_by steps q c)
resized_long [] q a c e = e
resized_long (Write place at was ∷ steps) q a c e = resized_long steps q a c e
resized_long (Resize place len from was ∷ steps) q a c e = resized_long steps q _ _ (fit_long (is_place q place) len a c e)
resized_long (Sync ∷ steps) q a c e = resized_long steps q a c e

-- the length
undo_long : (b : Bool) (at : ℕ) (was file : List ℕ) → (b ≡ true → at + length was ≤ length file) → length (if b then put_at at was file else file) ≡ length file
undo_long true at was file room = length-put_at at was file (room refl)
undo_long false at was file room = refl

redo : (b : Bool) (len from : ℕ) (was file : List ℕ) → (b ≡ true → fit len (take from (file ++ was)) ≡ file) → (if b then fit len (if b then take from (file ++ was) else file) else (if b then take from (file ++ was) else file)) ≡ file
redo true len from was file made = made refl
redo false len from was file made = refl

long_made : (steps : List Step) (q : Place) (file : List ℕ) → AreMade steps q file → length (resized_by steps q (undone steps q file)) ≡ length file
long_made [] q file made = refl
long_made (Write place at was ∷ steps) q file made = resized_long steps q _ _ (undo_long (is_place q place) at was.items (undone steps q file) made.0) ∙ long_made steps q file made.1
long_made (Resize place len from was ∷ steps) q file made = ap (λ (f : List ℕ). length (resized_by steps q f)) (redo (is_place q place) len from was.items (undone steps q file) made.0) ∙ long_made steps q file made.1
long_made (Sync ∷ steps) q file made = long_made steps q file made.1

-- a byte over one write
write_at_byte : (b low high stays : Bool) (at : ℕ) (was file : List ℕ) (k rest : ℕ) → (b ≡ true → at + length was ≤ length file) → nat_le at k ≡ low → nat_lt k (at + length was) ≡ high
    → (if stays then get_or file k 0 else 0) ≡ rest
    → (if stays then get_or (if b then put_at at was file else file) k 0 else 0) ≡ (if (b && (low && high)) && stays then get_or was (k - at) 0 else rest)
write_at_byte false low high stays at was file k rest made l h is = is
write_at_byte true low high false at was file k rest made l h is = is ∙ ap (λ (b : Bool). if b then get_or was (k - at) 0 else rest) (none (low && high)) where
  none : (b : Bool) → false ≡ (b && false)
  none true = refl
  none false = refl
write_at_byte true true true true at was file k rest made l h is = put_within at was file (made refl) k (leb-true at k l) (ltb-true k _ h)
write_at_byte true true false true at was file k rest made l h is = put_one at was file (made refl) k (inr (ltb-false k _ h)) ∙ is
write_at_byte true false high true at was file k rest made l h is = put_one at was file (made refl) k (inl (leb-false at k l)) ∙ is

byte_made : (steps : List Step) → has_sync steps ≡ false → (q : Place) (file : List ℕ) (k : ℕ) → AreMade steps q file → get_or (resized_by steps q (undone steps q file)) k 0 ≡ byte_unwritten steps q k (get_or file k 0)
byte_made [] none q file k made = refl
byte_made (Write place at was ∷ steps) none q file k made =
    resized_at steps none q _ k
    ∙ write_at_byte (is_place q place) (nat_le at k) (nat_lt k (at + length was.items)) (stays_pending steps q k) at was.items (undone steps q file) k _ made.0 refl refl
    (sym (resized_at steps none q (undone steps q file) k) ∙ byte_made steps none q file k made.1)
byte_made (Resize place len from was ∷ steps) none q file k made =
    ap (λ (f : List ℕ). get_or (resized_by steps q f) k 0) (redo (is_place q place) len from was.items (undone steps q file) made.0) ∙ byte_made steps none q file k made.1
byte_made (Sync ∷ steps) none q file k made = absurd (true≢false none)

-- of a record with syncs the calls since the last one
none_since : (steps : List Step) → has_sync (since_sync steps) ≡ false
none_since [] = refl
none_since (step ∷ steps) = by_cases (has_sync (step ∷ steps)) refl (none_since steps) where
  by_cases : (b : Bool) → has_sync (step ∷ steps) ≡ b → has_sync (since_sync steps) ≡ false → has_sync (if b then since_sync steps else step ∷ steps) ≡ false
  by_cases true e rest = rest
  by_cases false e rest = e

made_since : (steps : List Step) (q : Place) (file : List ℕ) → AreMade steps q file → AreMade (since_sync steps) q file
made_since [] q file made = made
made_since (step ∷ steps) q file made = by_cases (has_sync (step ∷ steps)) (made_since steps q file made.1) where
  by_cases : (b : Bool) → AreMade (since_sync steps) q file → AreMade (if b then since_sync steps else step ∷ steps) q file
  by_cases true rest = rest
  by_cases false rest = made

settled : (steps : List Step) (q : Place) (k : ℕ) → has_sync steps ≡ true → stays_pending steps q k ≡ false
settled [] q k some = absurd (false≢true some)
settled (Write place at was ∷ steps) q k some = settled steps q k some
settled (Resize place len from was ∷ steps) q k some = by_cases (is_place q place) (nat_lt k len) (settled steps q k some) where
  by_cases : (b a : Bool) → stays_pending steps q k ≡ false → (if b then a && stays_pending steps q k else stays_pending steps q k) ≡ false
  by_cases true true e = e
  by_cases true false e = refl
  by_cases false a e = e
settled (Sync ∷ steps) q k some = refl

skipped : (step : Step) (steps : List Step) (q : Place) (k byte : ℕ) → has_sync (step ∷ steps) ≡ true → byte_unwritten (step ∷ steps) q k byte ≡ byte_unwritten steps q k byte
skipped (Write place at was) steps q k byte some = ap (λ (s : Bool). if writes_byte (Write place at was) q k && s then get_or was.items (k - at) 0 else byte_unwritten steps q k byte) (settled steps q k some)
    ∙ never (writes_byte (Write place at was) q k) where
      never : (b : Bool) → (if b && false then get_or was.items (k - at) 0 else byte_unwritten steps q k byte) ≡ byte_unwritten steps q k byte
      never true = refl
      never false = refl
skipped (Resize place len from was) steps q k byte some = refl
skipped Sync steps q k byte some = refl

byte_since : (steps : List Step) (q : Place) (k byte : ℕ) → byte_unwritten (since_sync steps) q k byte ≡ byte_unwritten steps q k byte
byte_since [] q k byte = refl
byte_since (step ∷ steps) q k byte = by_cases (has_sync (step ∷ steps)) refl (byte_since steps q k byte) where
  by_cases : (b : Bool) → has_sync (step ∷ steps) ≡ b → byte_unwritten (since_sync steps) q k byte ≡ byte_unwritten steps q k byte → byte_unwritten (if b then since_sync steps else step ∷ steps) q k byte ≡ byte_unwritten (step ∷ steps) q k byte
  by_cases true e rest = rest ∙ sym (skipped step steps q k byte e)
  by_cases false e rest = refl

-- a file whose bytes are so is the file at the last sync with the resizes since
pub is_unwritten : (steps : List Step) (q : Place) (file found : List ℕ) → AreMade steps q file → length found ≡ length file → ((k : ℕ) → k < length file → get_or found k 0 ≡ byte_unwritten steps q k (get_or file k 0))
    → found ≡ unwritten steps q file
is_unwritten steps q file found made long bytes =
    let since = since_sync steps in
    let since_made : AreMade since q file = made_since steps q file made in
    let as_long : length (unwritten steps q file) ≡ length file = long_made since q file since_made in
    ext_get_or 0 _ _ (long ∙ sym as_long)
    (λ k lt. bytes k (omega (arith, long)) ∙ sym (byte_since steps q k (get_or file k 0)) ∙ sym (byte_made since (none_since steps) q file k since_made))
