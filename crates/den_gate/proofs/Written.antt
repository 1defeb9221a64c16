-- What the bytes of a slot are read as, from what is known of them at one offset.
use Rattle.std.proofs.Common.{◌≡◌, ◌≢◌, ◌⊎◌, inl, inr, ⊎_elim, ℕ, suc, ◌+◌, ◌-◌, ◌<◌, ◌≤◌, ◌^◌, Ok, Err, List, [], ◌∷◌, ◌++◌, length, get_or, take, drop, refl, sym, ◌∙◌, ap, subst, arith, append_assoc, length-append, length-take, length-drop, take-append-drop, zero-add}
use Rattle.std.specs.List.{AllByRecursion}
use Rattle.std.specs.Int.{w64, to_be_bytes}
use Rattle.std.proofs.Math.Seq.{take-add}
use Rattle.std.proofs.lemmas.List.{take_at, drop_at, drop_more, append-nil, drop-take, take-take, take-append-le, get_or-drop, get_or-take, get_or_at, get_or_past, drop-drop}
use Rattle.std.proofs.lemmas.Bool.{cases_lt, le-ltb, lt-ltb}
use Rattle.den_disk.specs.declared.place.Place.{Place}
use Rattle.den_disk.specs.Files.{Content, put_at}
use Rattle.den_disk.proofs.Images.{length-put_at, take-put_at}
use Rattle.den_model.specs.Spelling.{u64_word}
use Rattle.den_model.specs.Reading.{size_at}
use Rattle.den_model.specs.Regions.{Region, with_region, regions_behind, regions, open_region, open_regions, placed}
use Rattle.den_model.proofs.Cut.{size_again, with_regions, regions_written, regions_closed}
use Rattle.den_gate.specs.Slot.{payloads_in, payloads_or_none, payloads_of, Holds, Staged, Begins, IsRegion, IsCutShort}
use Rattle.den_gate.specs.Steps.{IsOpen}
use Rattle.den_gate.specs.Loading.{payload_between}

pub length-word : (n : ℕ) → length (u64_word n) ≡ 8
unfolding u64_word
length-word n = refl

pub word-is : (n : ℕ) (bytes : List ℕ) → bytes ≡ to_be_bytes w64 n → bytes ≡ u64_word n
unfolding u64_word
word-is n bytes e = e

-- how long that is which stands behind a region's gate
pub size_behind : (p bytes : List ℕ) → bytes ≡ u64_word (length p) ++ p ++ 0 ∷ [] → length bytes ≡ 9 + length p
size_behind p bytes is =
    omega (arith, ap length is, length-append (u64_word (length p) ++ p) (0 ∷ []), length-append (u64_word (length p)) p, length-word (length p))

-- an open region in front of regions
pub regions_size : (p : List ℕ) (ps : List (List ℕ)) → length (open_regions (p ∷ ps)) ≡ 9 + length p + length (open_regions ps)
regions_size p ps = omega (arith, length-append (open_region p) (open_regions ps), length-append (u64_word (length p)) p, length-word (length p))

pub all_small : (ps : List (List ℕ)) → length (open_regions ps) < 2 ^ 64 → AllByRecursion (λ p. length p < 2 ^ 64) ps
all_small [] small = tt
all_small (p ∷ ps) small = let size = regions_size p ps in (omega (arith, size), all_small ps (omega (arith, size)))

-- nothing, or a gate that is not open
none_behind : (offset : ℕ) (bytes : List ℕ) → get_or bytes 0 0 ≢ 1 → regions_behind offset 0 bytes ≡ Ok []
unfolding regions_behind
none_behind offset [] shut = refl
none_behind offset (gate ∷ bytes) shut = regions_closed offset gate bytes shut

with_regions_ok : (rs : List Region) → with_regions rs (Ok []) ≡ Ok rs
with_regions_ok [] = refl
with_regions_ok (r ∷ rs) = ap (with_region r) (with_regions_ok rs)

pub with_regions_err : (rs : List Region) (at : ℕ) → with_regions rs (Err at) ≡ Err at
with_regions_err [] at = refl
with_regions_err (r ∷ rs) at = ap (with_region r) (with_regions_err rs at)

pub holds_regions : (list : List (List ℕ)) (end : ℕ) (file : List ℕ) → Holds list end file → regions file ≡ Ok (placed 0 list)
holds_regions list end file h =
    let split : file ≡ open_regions list ++ drop end file = sym (take-append-drop end file) ∙ ap (λ (l : List ℕ). l ++ drop end file) h.front in
    let zero_on : end + 0 ≡ end = omega arith in
    let first : get_or (drop end file) 0 0 ≡ get_or file end 0 = get_or-drop end file 0 0 ∙ ap (λ (k : ℕ). get_or file k 0) zero_on in
    ap regions split
    ∙ regions_written 0 list (drop end file) (all_small list (omega (arith, h.size, h.small)))
    ∙ ap (with_regions (placed 0 list)) (none_behind (0 + length (open_regions list)) (drop end file) (λ e. h.closed (sym first ∙ e)))
    ∙ with_regions_ok (placed 0 list)

pub payloads_placed : (offset : ℕ) (list : List (List ℕ)) → payloads_in (placed offset list) ≡ list
payloads_placed offset [] = refl
payloads_placed offset (p ∷ ps) = ap (λ (l : List (List ℕ)). p ∷ l) (payloads_placed (offset + (9 + length p)) ps)

pub holds_payloads : (list : List (List ℕ)) (end : ℕ) (file : List ℕ) → Holds list end file → payloads_of file ≡ list
holds_payloads list end file h = ap payloads_or_none (holds_regions list end file h) ∙ payloads_placed 0 list

pub regions-push : (ps : List (List ℕ)) (p : List ℕ) → open_regions (ps ++ p ∷ []) ≡ open_regions ps ++ open_region p
regions-push [] p = append-nil (open_region p)
regions-push (q ∷ ps) p = ap (λ (l : List ℕ). open_region q ++ l) (regions-push ps p) ∙ sym (append_assoc (open_region q) (open_regions ps) (open_region p))

module _ (ps : List (List ℕ)) (p : List ℕ) (end : ℕ) (file : List ℕ) (s : Staged ps p end file) where
  abbrev n : ℕ
  n = length p

  tail_long : length (u64_word n ++ p) ≡ 8 + n
  tail_long = omega (arith, length-append (u64_word n) p, length-word n)

  pub staged_long : end + 10 + n ≤ length file
  staged_long = omega (arith, ap length s.behind, length-take (9 + n) (drop (end + 1) file), length-drop (end + 1) file, length-append (u64_word n ++ p) (0 ∷ []), tail_long)

  -- with the gate open
  pub staged_open : get_or file end 0 ≡ 1 → Holds (ps ++ p ∷ []) (end + (9 + n)) file
  staged_open is_open =
      let more : drop end file ≡ 1 ∷ drop (end + 1) file = drop_more file end 0 (omega (arith, staged_long)) ∙ ap (λ (b : ℕ). b ∷ drop (end + 1) file) is_open in
      let as_suc : 9 + n ≡ suc (8 + n) = omega arith in
      let inner : take (8 + n) (drop (end + 1) file) ≡ u64_word n ++ p =
      sym (take-take (8 + n) (9 + n) (drop (end + 1) file) (omega arith)) ∙ ap (take (8 + n)) s.behind ∙ take_at (u64_word n ++ p) (0 ∷ []) (8 + n) tail_long in
      let block : take (9 + n) (drop end file) ≡ open_region p =
      (λ i. take (as_suc i) (more i)) ∙ ap (λ (l : List ℕ). 1 ∷ l) inner in
      let at_byte : end + (9 + n) ≡ end + 1 + (8 + n) = omega arith in
      let byte : get_or file (end + (9 + n)) 0 ≡ 0 =
      ap (λ (k : ℕ). get_or file k 0) at_byte ∙ sym (get_or-drop (end + 1) file (8 + n) 0)
      ∙ sym (get_or-take (9 + n) (drop (end + 1) file) (8 + n) 0 (omega arith)) ∙ ap (λ (l : List ℕ). get_or l (8 + n) 0) s.behind
      ∙ get_or_at (u64_word n ++ p) 0 [] 0 (8 + n) tail_long in
      record {
        front = take-add end (9 + n) file ∙ (λ i. s.front i ++ block i) ∙ sym (regions-push ps p);
        size = omega (arith, ap length (regions-push ps p), length-append (open_regions ps) (open_region p), tail_long, s.size);
        small = omega (arith, s.small);
        closed = λ e. absurd (cc (byte, e));
      }

  -- with any other byte for the gate
  pub staged_shut : get_or file end 0 ≢ 1 → Holds ps end file
  staged_shut shut = record { front = s.front; size = s.size; small = omega (arith, s.small); closed = shut }

-- the three writes behind a closed gate
pub staged_written : (ps : List (List ℕ)) (p : List ℕ) (end : ℕ) (file : List ℕ) → Holds ps end file → end + 10 + length p ≤ length file → end + 9 + length p < 2 ^ 64
    → Staged ps p end (put_at (end + 9 + length p) (0 ∷ []) (put_at (end + 9) p (put_at (end + 1) (u64_word (length p)) file)))
staged_written ps p end file h room small =
    let n = length p in
    let field = u64_word n in
    let one = put_at (end + 1) field file in
    let two = put_at (end + 9) p one in
    let three = put_at (end + 9 + n) (0 ∷ []) two in
    let room1 : end + 1 + length field ≤ length file = omega (arith, length-word n) in
    let long1 : length one ≡ length file = length-put_at (end + 1) field file room1 in
    let room2 : end + 9 + n ≤ length one = omega (arith, long1) in
    let long2 : length two ≡ length one = length-put_at (end + 9) p one room2 in
    let room3 : end + 9 + n + 1 ≤ length two = omega (arith, long1, long2) in
    let at1 : end + 9 ≡ end + 1 + length field = omega (arith, length-word n) in
    let take1 : take (end + 9) one ≡ take (end + 1) file ++ field = ap (λ (k : ℕ). take k one) at1 ∙ take-put_at (end + 1) field file room1 in
    let take2 : take (end + 9 + n) two ≡ (take (end + 1) file ++ field) ++ p = take-put_at (end + 9) p one room2 ∙ ap (λ (l : List ℕ). l ++ p) take1 in
    let take3 : take (end + 9 + n + 1) three ≡ ((take (end + 1) file ++ field) ++ p) ++ 0 ∷ [] = take-put_at (end + 9 + n) (0 ∷ []) two room3 ∙ ap (λ (l : List ℕ). l ++ 0 ∷ []) take2 in
    let apart : ((take (end + 1) file ++ field) ++ p) ++ 0 ∷ [] ≡ take (end + 1) file ++ ((field ++ p) ++ 0 ∷ []) =
    ap (λ (l : List ℕ). l ++ 0 ∷ []) (append_assoc (take (end + 1) file) field p) ∙ append_assoc (take (end + 1) file) (field ++ p) (0 ∷ []) in
    let long : length (take (end + 1) file) ≡ end + 1 = omega (arith, length-take (end + 1) file) in
    let along : end + 1 + (9 + n) ≡ end + 9 + n + 1 = omega arith in
    record {
      front = sym (take-take end (end + 9 + n + 1) three (omega arith)) ∙ ap (take end) (take3 ∙ apart) ∙ take-append-le end (take (end + 1) file) ((field ++ p) ++ 0 ∷ []) (omega (arith, long))
          ∙ take-take end (end + 1) file (omega arith) ∙ h.front;
      size = h.size;
      small = small;
      behind = sym (drop-take (end + 1) (9 + n) three) ∙ ap (λ (k : ℕ). drop (end + 1) (take k three)) along ∙ ap (drop (end + 1)) (take3 ∙ apart)
          ∙ drop_at (take (end + 1) file) ((field ++ p) ++ 0 ∷ []) (end + 1) long;
    }

-- one write of what stands behind a closed gate
pub staged_once : (ps : List (List ℕ)) (p bytes : List ℕ) (end : ℕ) (file : List ℕ) → Holds ps end file → end + 10 + length p ≤ length file → end + 9 + length p < 2 ^ 64
    → bytes ≡ u64_word (length p) ++ p ++ 0 ∷ [] → length bytes ≡ 9 + length p → Staged ps p end (put_at (end + 1) bytes file)
staged_once ps p bytes end file h room small is size =
    let n = length p in
    let put = put_at (end + 1) bytes file in
    let room1 : end + 1 + length bytes ≤ length file = omega (arith, size) in
    let all : take (end + 1 + length bytes) put ≡ take (end + 1) file ++ bytes = take-put_at (end + 1) bytes file room1 in
    let long : length (take (end + 1) file) ≡ end + 1 = omega (arith, length-take (end + 1) file) in
    let along : end + 1 + (9 + n) ≡ end + 1 + length bytes = omega (arith, size) in
    record {
      front = sym (take-take end (end + 1 + length bytes) put (omega arith)) ∙ ap (take end) all ∙ take-append-le end (take (end + 1) file) bytes (omega (arith, long))
          ∙ take-take end (end + 1) file (omega arith) ∙ h.front;
      size = h.size;
      small = small;
      behind = sym (drop-take (end + 1) (9 + n) put) ∙ ap (λ (k : ℕ). drop (end + 1) (take k put)) along ∙ ap (drop (end + 1)) all
          ∙ drop_at (take (end + 1) file) bytes (end + 1) long ∙ is;
    }

-- at the end of what begins the file
pub begins_holds : (ps : List (List ℕ)) (at : ℕ) (file : List ℕ) → Begins ps at file → at < 2 ^ 64 → get_or file at 0 ≢ 1 → Holds ps at file
begins_holds ps at file b small shut = record { front = b.front; size = b.size; small = small; closed = shut }

pub begins_closed : (ps : List (List ℕ)) (at : ℕ) (file : List ℕ) → Begins ps at file → at < 2 ^ 64 → get_or file at 0 ≢ 1 → Holds (payloads_of file) at file
begins_closed ps at file b small shut =
    let h = begins_holds ps at file b small shut in
    subst (λ l. Holds l at file) (sym (holds_payloads ps at file h)) h

pub begins_more : (ps : List (List ℕ)) (at next : ℕ) (payload file : List ℕ) → Begins ps at file → IsRegion at next payload file → Begins (ps ++ payload ∷ []) next file
begins_more ps at next payload file b r =
    let n = length payload in
    let along : next ≡ at + (9 + n) = omega (arith, r.next_is) in
    record {
      front = ap (λ (k : ℕ). take k file) along ∙ take-add at (9 + n) file ∙ (λ i. b.front i ++ r.region i) ∙ sym (regions-push ps payload);
      size = omega (arith, ap length (regions-push ps payload), length-append (open_regions ps) (open_region payload), length-append (u64_word n) payload, length-word n, b.size, r.next_is);
    }

-- the same, where the payload joined the list
pub begins_pushed : (ps qs : List (List ℕ)) (at next : ℕ) (taken payload file : List ℕ) → Begins ps at file → IsRegion at next payload file → taken ≡ payload → qs ≡ ps ++ taken ∷ [] → Begins qs next file
begins_pushed ps qs at next taken payload file b r is pushed =
    subst (λ (l : List (List ℕ)). Begins l next file) (sym (pushed ∙ ap (λ (p : List ℕ). ps ++ p ∷ []) is)) (begins_more ps at next payload file b r)

-- the field behind an open gate, and the payload that it tells
pub region_at : (at : ℕ) (file field : List ℕ) (n : ℕ) → at + 9 + n ≤ length file → get_or file at 0 ≡ 1 → field ≡ take 8 (drop (at + 1) file) → u64_word n ≡ field → IsRegion at (at + 9 + n) (payload_between at (at + 9 + n) file) file
region_at at file field n fits is_open read back =
    let rest = drop (at + 1) file in
    let left : at + 9 + n - (at + 9) ≡ n = omega arith in
    let nine : drop 8 rest ≡ drop (at + 9) file = drop-drop 8 (at + 1) file ∙ ap (λ (k : ℕ). drop k file) (omega arith) in
    let payload = payload_between at (at + 9 + n) file in
    let is : payload ≡ take n (drop 8 rest) = λ i. take (left i) (sym nine i) in
    let long : length payload ≡ n = omega (arith, length-take (at + 9 + n - (at + 9)) (drop (at + 9) file), length-drop (at + 9) file) in
    let as_suc : 9 + length payload ≡ suc (8 + n) = omega (arith, long) in
    let more : drop at file ≡ 1 ∷ rest = drop_more file at 0 (omega arith) ∙ ap (λ (b : ℕ). b ∷ rest) is_open in
    record {
      next_is = omega (arith, long);
      region = (λ i. take (as_suc i) (more i)) ∙ ap (λ (l : List ℕ). 1 ∷ l) (take-add 8 n rest) ∙ (λ i. 1 ∷ (sym read ∙ sym back) i ++ sym is i)
          ∙ ap (λ (k : ℕ). 1 ∷ u64_word k ++ payload) (sym long);
    }

-- the size that the field tells
pub size_is : (at : ℕ) (file field : List ℕ) (n : ℕ) → n < 2 ^ 64 → field ≡ take 8 (drop (at + 1) file) → u64_word n ≡ field → size_at (drop (at + 1) file) ≡ n
size_is at file field n small read back =
    let rest = drop (at + 1) file in
    let split : rest ≡ u64_word n ++ drop 8 rest = sym (take-append-drop 8 rest) ∙ ap (λ (l : List ℕ). l ++ drop 8 rest) (sym read ∙ sym back) in
    ap size_at split ∙ size_again n (drop 8 rest) small

no_field : (offset : ℕ) (bytes : List ℕ) → length bytes < 8 → regions_behind offset 0 (1 ∷ bytes) ≡ Err offset
unfolding regions_behind
no_field offset bytes lt = rw (lt-ltb (length bytes) 8 lt) refl

no_payload : (offset : ℕ) (bytes : List ℕ) → 8 ≤ length bytes → length bytes < 8 + size_at bytes → regions_behind offset 0 (1 ∷ bytes) ≡ Err offset
unfolding regions_behind
no_payload offset bytes enough lt = rw (le-ltb (length bytes) 8 enough, lt-ltb (length bytes) (8 + size_at bytes) lt) refl

region_cut : (offset : ℕ) (bytes : List ℕ) → (length bytes < 8) ⊎ (length bytes < 8 + size_at bytes) → regions_behind offset 0 (1 ∷ bytes) ≡ Err offset
region_cut offset bytes (inl lt) = no_field offset bytes lt
region_cut offset bytes (inr lt) = ⊎_elim (λ short. no_field offset bytes short) (λ enough. no_payload offset bytes enough lt) (cases_lt (length bytes) 8)

pub begins_short : (ps : List (List ℕ)) (at : ℕ) (file : List ℕ) → Begins ps at file → at < 2 ^ 64 → IsCutShort at file → regions file ≡ Err at
begins_short ps at file b small s =
    let rest = drop (at + 1) file in
    let lt : at < length file = within (cases_lt at (length file)) in
    let more : drop at file ≡ 1 ∷ rest = drop_more file at 0 lt ∙ ap (λ (g : ℕ). g ∷ rest) s.opened in
    let split : file ≡ open_regions ps ++ 1 ∷ rest = sym (take-append-drop at file) ∙ (λ i. b.front i ++ more i) in
    let short : (length rest < 8) ⊎ (length rest < 8 + size_at rest) =
    ⊎_elim (λ (l : length file < at + 9). inl (omega (arith, length-drop (at + 1) file))) (λ (l : length file < at + 9 + size_at rest). inr (omega (arith, length-drop (at + 1) file))) s.short in
    let here : 0 + length (open_regions ps) ≡ at = zero-add (length (open_regions ps)) ∙ b.size in
    ap regions split
    ∙ regions_written 0 ps (1 ∷ rest) (all_small ps (omega (arith, b.size)))
    ∙ ap (with_regions (placed 0 ps)) (region_cut (0 + length (open_regions ps)) rest short)
    ∙ with_regions_err (placed 0 ps) (0 + length (open_regions ps))
    ∙ ap (λ (k : ℕ). Err k) here
  where
    within : (at < length file) ⊎ (length file ≤ at) → at < length file
    within (inl lt) = lt
    within (inr ge) = absurd (cc (get_or_past file at 0 ge, s.opened))

-- one byte that was read
pub byte_at : (at : ℕ) (file read : List ℕ) → read ≡ take 1 (drop at file) → get_or read 0 0 ≡ 1 → get_or file at 0 ≡ 1
byte_at at file read is one =
    let zero_on : at + 0 ≡ at = omega arith in
    sym (ap (λ (k : ℕ). get_or file k 0) zero_on) ∙ sym (get_or-drop at file 0 0) ∙ sym (get_or-take 1 (drop at file) 0 0 (omega arith)) ∙ sym (ap (λ (l : List ℕ). get_or l 0 0) is) ∙ one

-- at rest, from what the list is known to be
pub at_rest : (slot : Place) (list : List (List ℕ)) (end : ℕ) (c : Content) → IsOpen slot list end c → IsOpen slot (payloads_of (c.reading slot)) end c × (payloads_of (c.reading slot) ≡ list)
at_rest slot list end c o =
    let is = holds_payloads list end (c.reading slot) o.holds in
    (subst (λ l. IsOpen slot l end c) (sym is) o, is)
