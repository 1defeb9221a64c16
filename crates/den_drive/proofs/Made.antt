-- The input that is made: how long it is, and which frames it has.
use Rattle.std.proofs.Common.{◌≡◌, ℕ, zero, suc, ◌+◌, ◌*◌, ◌%◌, ◌==◌, ◌^◌, ◌<◌, ◌≤◌, Bool, true, false, List, [], ◌∷◌, ◌++◌, length, refl, sym, ap, ◌∙◌, add-one, append_assoc, arith}
use Rattle.std.specs.Prelude.{if◌then◌else◌}
use Rattle.std.proofs.lemmas.List.{length-append}
use Rattle.den_model.specs.declared.request.Frame.{Frame}
use Rattle.den_model.specs.declared.request.Frame.TheVariants.{Good}
use Rattle.den_model.specs.Spelling.{u32_word, u64_word, request_word}
use Rattle.den_model.specs.Reading.{size_at, blob_at, scan_at, request_at, request_in}
use Rattle.den_model.specs.Frames.{framed, frame_of, frames, frames_behind}
use Rattle.den_model.proofs.Cut.{frames_front, length_word}
use Rattle.den_drive.specs.Generator.{next_number, number_at, put_of, read_of, swap_of, delete_of, request_of, requests_input, scan_request, drive_input}
use Rattle.den_drive.specs.Generator.{request_at as asked_at}

pub number_more : (n : ℕ) → number_at (n + 1) ≡ next_number (number_at n)
unfolding number_at
number_more n = rw add-one refl

pub requests_more : (n : ℕ) → requests_input (n + 1) ≡ requests_input n ++ framed (request_word (request_of ((n + 1) % 4) (number_at (n + 1))))
unfolding requests_input
requests_more n = rw add-one refl

-- ---- how long it is

put_size : (x : ℕ) → length (request_word (put_of x)) ≡ 42
unfolding u32_word u64_word
put_size x = refl

read_size : (x : ℕ) → length (request_word (read_of x)) ≡ 26
unfolding u32_word u64_word
read_size x = refl

swap_size : (x : ℕ) → length (request_word (swap_of x)) ≡ 35
unfolding u32_word u64_word
swap_size x = refl

delete_size : (x : ℕ) → length (request_word (delete_of x)) ≡ 18
unfolding u32_word u64_word
delete_size x = refl

-- the word of each request is short
short : (kind x : ℕ) → length (request_word (request_of kind x)) ≤ 42
unfolding request_of
short kind x = go (kind == 1) (kind == 2) (kind == 3)
  where
    go : (a b c : Bool) → length (request_word (if a then put_of x else if b then read_of x else if c then swap_of x else delete_of x)) ≤ 42
    go true b c = omega (arith, put_size x)
    go false true c = omega (arith, read_size x)
    go false false true = omega (arith, swap_size x)
    go false false false = omega (arith, delete_size x)

requests_size : (count : ℕ) → length (requests_input count) ≤ 50 * count
unfolding requests_input
requests_size zero = omega arith
requests_size (suc n) =
    let body = request_word (asked_at (suc n)) in
    let more = length-append (requests_input n) (framed body) in
    omega (arith, requests_size n, more, length_word (length body) body, short (suc n % 4) (number_at (suc n)))

scan_size : length (framed (request_word scan_request)) ≡ 21
unfolding u32_word u64_word
scan_size = refl

pub input_size : (count : ℕ) → count ≤ 1000000 → length (drive_input count) ≤ 2 ^ 27
input_size count few = omega (arith, length-append (requests_input count) (framed (request_word scan_request)), requests_size count, scan_size)

-- ---- its frames

made : (limit count : ℕ) (rest : List ℕ) → (fs : List Frame) × (length fs ≡ count) × (frames limit (requests_input count ++ rest) ≡ fs ++ frames limit rest)
unfolding requests_input
made limit zero rest = ([], refl, refl)
made limit (suc n) rest =
    let body = request_word (asked_at (suc n)) in
    let small : length body < 2 ^ 64 = omega (arith, short (suc n % 4) (number_at (suc n))) in
    let before = made limit n (framed body ++ rest) in
    let more = before.0 ++ frame_of limit body ∷ [] in
    let count : length more ≡ suc n = omega (arith, before.1, length-append before.0 (frame_of limit body ∷ [])) in (
      more,
      count,
      ap (frames limit) (append_assoc (requests_input n) (framed body) rest) ∙ before.2
          ∙ ap (λ fs. before.0 ++ fs) (frames_front limit body rest small) ∙ sym (append_assoc before.0 (frame_of limit body ∷ []) (frames limit rest)),
    )

scan_frame : frames 16777216 (framed (request_word scan_request)) ≡ Good scan_request ∷ []
unfolding u32_word u64_word size_at frames_behind frame_of request_in request_at scan_at blob_at
scan_frame = refl

-- those of the requests, and the scan's
pub input_frames : (count : ℕ) → (fs : List Frame) × (length fs ≡ count) × (frames 16777216 (drive_input count) ≡ fs ++ Good scan_request ∷ [])
input_frames count =
    let m = made 16777216 count (framed (request_word scan_request)) in
    (m.0, m.1, m.2 ∙ ap (λ fs. m.0 ++ fs) scan_frame)
