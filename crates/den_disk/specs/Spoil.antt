-- What a crash may make of a record of calls, from the last one back.
use Rattle.std.specs.Prelude.{◌≡◌, ◌<◌, ℕ, ◌+◌, ◌-◌, ◌&&◌, min, Bool, true, false, if◌then◌else◌, nat_lt, nat_le, List, [], ◌∷◌, length, slice_index, slice_set, replicate, Vec}
use Rattle.std.specs.declared.alloc.Global.{Global}
use Rattle.den_disk.specs.declared.place.Place.{Place}
use Rattle.den_disk.specs.declared.memory.Step.{Step}
use Rattle.den_disk.specs.declared.memory.Step.TheVariants.{Write, Resize, Sync}
use Rattle.den_disk.specs.Place.{place_number, is_place}
use Rattle.den_disk.specs.Files.{InRange}
use Rattle.den_disk.specs.Memory.{file_of}

-- a byte that a call wrote
abbrev pub Wrote : Step → Place → ℕ → Type 0
Wrote (Write place at was) q k = InRange (record { place = place; from = at; to = at + length was.items }) q k
Wrote (Resize place len from was) q k = ⊥
Wrote Sync q k = ⊥

-- below which offset of each file what was written before a call may still be pending after those that follow
abbrev pub caps_before : Step → List ℕ → List ℕ
caps_before (Write place at was) caps = caps
caps_before (Resize place len from was) caps = slice_set caps (place_number place) (min (slice_index caps (place_number place)) len)
caps_before Sync caps = replicate 12 0

-- no byte changed but those that a call wrote below the caps
pub record Spoils (step : Step) (caps : List ℕ) (old new : List (Vec ℕ Global)) : Type 0 where
  pub as_long : (q : Place) → length (file_of new q) ≡ length (file_of old q)
  pub same : (q : Place) (k : ℕ) → (Wrote step q k → k < slice_index caps (place_number q) → ⊥) → slice_index (file_of new q) k ≡ slice_index (file_of old q) k

-- whether a call wrote this byte of this file
abbrev pub writes_byte : Step → Place → ℕ → Bool
writes_byte (Write place at was) q k = is_place q place && (nat_le at k && nat_lt k (at + length was.items))
writes_byte (Resize place len from was) q k = false
writes_byte Sync q k = false

-- the byte that stood at an offset that a call wrote
abbrev pub byte_before : Step → ℕ → ℕ
byte_before (Write place at was) k = slice_index was.items (k - at)
byte_before (Resize place len from was) k = 0
byte_before Sync k = 0

-- whether a byte that is pending stays so over these calls: no sync follows, and no resize cuts it off
abbrev pub stays_pending : List Step → Place → ℕ → Bool
stays_pending [] q k = true
stays_pending (Write place at was ∷ steps) q k = stays_pending steps q k
stays_pending (Resize place len from was ∷ steps) q k = if is_place q place then nat_lt k len && stays_pending steps q k else stays_pending steps q k
stays_pending (Sync ∷ steps) q k = false

-- a byte as it stood before the first of the writes that are pending there, and as it reads where none is
abbrev pub byte_unwritten : List Step → Place → ℕ → ℕ → ℕ
byte_unwritten [] q k byte = byte
byte_unwritten (step ∷ steps) q k byte = if writes_byte step q k && stays_pending steps q k then byte_before step k else byte_unwritten steps q k byte

-- each byte that a call wrote below the caps is as it was before it, and each other as it was
pub record TakesBack (step : Step) (caps : List ℕ) (old new : List (Vec ℕ Global)) : Type 0 where
  pub each : (q : Place) (k : ℕ) → k < length (file_of old q)
      → slice_index (file_of new q) k ≡ (if writes_byte step q k && nat_lt k (slice_index caps (place_number q)) then byte_before step k else slice_index (file_of old q) k)
