-- What stands behind a region's gate, put together in a row of zeros.
use Rattle.std.proofs.Common.{◌≡◌, ℕ, ◌+◌, ◌-◌, ◌≤◌, List, [], ◌∷◌, ◌++◌, length, take, drop, replicate, sym, ap, ◌∙◌, arith, take-add, length-append}
use Rattle.std.proofs.lemmas.List.{take_at, drop_at, drop-drop, drop-replicate, take-replicate}
use Rattle.std.proofs.lemmas.Slice.{take-put_mid, drop-put_mid}
use borrow.Rule.Slice.PartMut.{put_mid}

-- a field of eight bytes, a payload, and one zero
pub row_is : (field p copy : List ℕ) → length field ≡ 8 → length p ≤ 247 → copy ≡ p
    → take (9 + length p) (put_mid 8 (8 + length p - 8) (field ++ drop 8 (replicate 256 0)) copy) ≡ field ++ p ++ 0 ∷ []
row_is field p copy eight short same =
    let n = length p in
    let zeros : List ℕ = replicate 256 0 in
    let xs = field ++ drop 8 zeros in
    let row = put_mid 8 (8 + n - 8) xs copy in
    let size : length copy ≡ n = ap length same in
    let whole : 8 ≤ length xs = omega (arith, length-append field (drop 8 zeros), eight) in
    let split : 9 + n ≡ 8 + n + 1 = omega arith in
    let front : take (8 + n) row ≡ take 8 xs ++ copy = take-put_mid 8 (8 + n - 8) xs copy (8 + n) (omega (arith, size)) whole in
    let rest : drop (8 + n) row ≡ drop (8 + n) xs = drop-put_mid 8 (8 + n - 8) xs copy (8 + n) (omega arith) whole (omega (arith, size)) in
    let behind : drop (8 + n) xs ≡ drop (8 + n) zeros =
    sym (drop-drop n 8 xs) ∙ ap (drop n) (drop_at field (drop 8 zeros) 8 eight) ∙ drop-drop n 8 zeros in
    let zero : take 1 (drop (8 + n) row) ≡ 0 ∷ [] =
    ap (take 1) (rest ∙ behind ∙ drop-replicate (8 + n) 256 0) ∙ take-replicate 1 (256 - (8 + n)) 0 (omega arith) in
    let both : take 8 xs ++ copy ≡ field ++ p = λ i. take_at field (drop 8 zeros) 8 eight i ++ same i in
    ap (λ (k : ℕ). take k row) split ∙ take-add (8 + n) 1 row ∙ (λ i. (front ∙ both) i ++ zero i)
