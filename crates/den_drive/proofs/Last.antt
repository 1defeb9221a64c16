-- The last of some frames.
use Rattle.std.proofs.Common.{◌≡◌, ℕ, ◌+◌, ◌^◌, ◌<◌, ◌≤◌, List, [], ◌∷◌, ◌++◌, length, drop, refl, sym, ap, ◌∙◌, append_assoc, arith}
use Rattle.std.specs.List.{flat_map}
use Rattle.std.proofs.lemmas.List.{append-nil, drop_at, length-append}
use Rattle.den_model.specs.declared.reply.Reply.TheVariants.{Scan}
use Rattle.den_model.specs.declared.reply.ScanResult.{ScanResult}
use Rattle.den_model.specs.declared.reply.KvEntry.{KvEntry}
use Rattle.den_model.specs.Spelling.{u64_word, blob_word, kv_word, reply_word}
use Rattle.den_model.specs.Reading.{size_at}
use Rattle.den_model.specs.Frames.{framed}
use Rattle.den_model.proofs.Cut.{size_again, drop_word, length_word}
use Rattle.den_drive.specs.Report.{EndsWith}

-- a frame in front: its size, what is behind that, and how long all is
record IsFront (bytes body rest : List ℕ) : Type 0 where
  size : length body < 2 ^ 64 → size_at bytes ≡ length body
  behind : drop 8 bytes ≡ body ++ rest
  long : length bytes ≡ 8 + (length body + length rest)

front : (bytes body rest : List ℕ) → bytes ≡ framed body ++ rest → IsFront bytes body rest
front bytes body rest is =
    let whole : bytes ≡ u64_word (length body) ++ (body ++ rest) = is ∙ append_assoc (u64_word (length body)) body rest in
    record {
      size = λ small. ap size_at whole ∙ size_again (length body) (body ++ rest) small;
      behind = ap (drop 8) whole ∙ drop_word (length body) (body ++ rest);
      long = ap length whole ∙ length_word (length body) (body ++ rest) ∙ ap (λ n. 8 + n) (length-append body rest);
    }

-- the last frame, or one more in front
front_last : (bytes body : List ℕ) → bytes ≡ flat_map framed [] ++ framed body → IsFront bytes body []
front_last bytes body is = front bytes body [] (is ∙ sym (append-nil (framed body)))

front_more : (bytes first : List ℕ) (others : List (List ℕ)) (body : List ℕ) → bytes ≡ flat_map framed (first ∷ others) ++ framed body
    → IsFront bytes first (flat_map framed others ++ framed body)
front_more bytes first others body is = front bytes first (flat_map framed others ++ framed body) (is ∙ append_assoc (framed first) (flat_map framed others) (framed body))

length_framed : (body : List ℕ) → length (framed body) ≡ 8 + length body
length_framed body = length_word (length body) body

-- a frame has eight bytes at least
pub long_enough : (bytes body : List ℕ) → EndsWith bytes body → 8 ≤ length bytes
long_enough bytes body ends = omega (arith, ap length ends.is, length-append (flat_map framed ends.earlier) (framed body), length_framed body)

-- where the frame in front reaches the end, it is the last
pub last_here : (bytes body : List ℕ) → length bytes < 2 ^ 64 → EndsWith bytes body → length (drop 8 bytes) ≤ size_at bytes → drop 8 bytes ≡ body
last_here bytes body small ends reaches = go ends.earlier ends.is
  where
    go : (earlier : List (List ℕ)) → bytes ≡ flat_map framed earlier ++ framed body → drop 8 bytes ≡ body
    go [] is = (front_last bytes body is).behind ∙ append-nil body
    go (first ∷ others) is =
        let f = front_more bytes first others body is in
        let rest = flat_map framed others ++ framed body in
        absurd (omega (arith, f.size, f.long, ap length f.behind, length-append first rest, length-append (flat_map framed others) (framed body), length_framed body))

-- else what is behind it ends so
pub last_behind : (bytes body : List ℕ) → length bytes < 2 ^ 64 → EndsWith bytes body → size_at bytes < length (drop 8 bytes) → EndsWith (drop (size_at bytes) (drop 8 bytes)) body
last_behind bytes body small ends more = go ends.earlier ends.is
  where
    go : (earlier : List (List ℕ)) → bytes ≡ flat_map framed earlier ++ framed body → EndsWith (drop (size_at bytes) (drop 8 bytes)) body
    go [] is =
        let f = front_last bytes body is in
        absurd (omega (arith, f.size, f.long, ap length f.behind, length-append body []))
    go (first ∷ others) is =
        let f = front_more bytes first others body is in
        let rest = flat_map framed others ++ framed body in
        let size : size_at bytes ≡ length first = f.size (omega (arith, f.long)) in
        record { earlier = others; is = ap (λ n. drop n (drop 8 bytes)) size ∙ ap (drop (length first)) f.behind ∙ drop_at first rest (length first) refl }

-- ---- a scan's reply

words_long : (entries : List KvEntry) → length entries ≤ length (flat_map kv_word entries)
words_long [] = omega arith
words_long (e ∷ es) = omega (arith, length-append (kv_word e) (flat_map kv_word es), words_long es, length-append (blob_word e.key) (blob_word e.value), length_word (length e.key) e.key)

-- its revision and its count, as they are read
pub scan_read : (body : List ℕ) (r : ScanResult) → length body < 2 ^ 64 → r.revision < 2 ^ 64 → body ≡ reply_word (Scan r)
    → (17 ≤ length body) × (size_at (drop 1 body) ≡ r.revision) × (size_at (drop 8 (drop 1 body)) ≡ length r.entries)
scan_read body r small low is =
    let words = flat_map kv_word r.entries in
    let counted = u64_word (length r.entries) ++ words in
    let long : length body ≡ 1 + (8 + (8 + length words)) = omega (arith, ap length is, length_word r.revision counted, length_word (length r.entries) words) in
    let few : length r.entries < 2 ^ 64 = omega (arith, long, words_long r.entries) in (
      omega (arith, long),
      ap (λ b. size_at (drop 1 b)) is ∙ size_again r.revision counted low,
      ap (λ b. size_at (drop 8 (drop 1 b))) is ∙ ap size_at (drop_word r.revision counted) ∙ size_again (length r.entries) words few,
    )
