-- What a window shows of a file, and what a header tells.
use Rattle.std.proofs.Common.{◌≡◌, ℕ, ◌+◌, ◌-◌, ◌<◌, ◌≤◌, List, length, get_or, take, drop, sym, ◌∙◌, ap, arith, length-take, length-drop}
use Rattle.std.proofs.lemmas.List.{drop-take, drop-drop, take-take, get_or-drop, get_or-take}
use Rattle.den_gate.specs.declared.window.Window.{Window}
use Rattle.den_gate.specs.Window.{Shows}

-- from an offset on
pub seen : (w : Window) (file : List ℕ) (at : ℕ) → Shows w file → w.from ≤ at → at ≤ w.from + w.filled → take (w.from + w.filled - at) (drop (at - w.from) w.bytes) ≡ take (w.from + w.filled - at) (drop at file)
seen w file at s low high =
    let k = at - w.from in
    let m = w.from + w.filled - at in
    let all : k + m ≡ w.filled = omega arith in
    let there : w.from + k ≡ at = omega arith in
    sym (drop-take k m w.bytes)
    ∙ ap (λ (n : ℕ). drop k (take n w.bytes)) all
    ∙ ap (drop k) s.bytes
    ∙ ap (λ (n : ℕ). drop k (take n (drop w.from file))) (sym all)
    ∙ drop-take k m (drop w.from file)
    ∙ ap (take m) (drop-drop k w.from file ∙ ap (λ (n : ℕ). drop n file) there)

pub seen_all : (w : Window) (file : List ℕ) (at : ℕ) (header : List ℕ) → Shows w file → w.from ≤ at → at ≤ w.from + w.filled → header ≡ take (w.from + w.filled - at) (drop (at - w.from) w.bytes)
    → header ≡ take (length header) (drop at file)
seen_all w file at header s low high is =
    let m = w.from + w.filled - at in
    let e : header ≡ take m (drop at file) = is ∙ seen w file at s low high in
    let long : length header ≡ m = omega (arith, ap length e, length-take m (drop at file), length-drop at file, s.within) in
    e ∙ ap (λ (n : ℕ). take n (drop at file)) (sym long)

-- up to another offset
pub seen_part : (w : Window) (file : List ℕ) (from to : ℕ) (piece : List ℕ) → Shows w file → w.from ≤ from → from ≤ to → to ≤ w.from + w.filled → piece ≡ take (w.from + w.filled - from) (drop (from - w.from) w.bytes)
    → take (to - from) piece ≡ take (to - from) (drop from file)
seen_part w file from to piece s low on high is =
    ap (take (to - from)) (is ∙ seen w file from s low (omega arith)) ∙ take-take (to - from) (w.from + w.filled - from) (drop from file) (omega arith)

module _ (at m : ℕ) (file header : List ℕ) (is : header ≡ take m (drop at file)) where
  pub first_byte : 0 < m → get_or header 0 0 ≡ get_or file at 0
  first_byte some =
      let zero_on : at + 0 ≡ at = omega arith in
      ap (λ (l : List ℕ). get_or l 0 0) is ∙ get_or-take m (drop at file) 0 0 some ∙ get_or-drop at file 0 0 ∙ ap (λ (k : ℕ). get_or file k 0) zero_on

  -- the bytes from one on
  pub bytes_in : (skip n : ℕ) → skip + n ≤ m → take n (drop skip header) ≡ take n (drop (at + skip) file)
  bytes_in skip n fits =
      let all : skip + (m - skip) ≡ m = omega arith in
      ap (λ (l : List ℕ). take n (drop skip l)) is
      ∙ ap (λ (k : ℕ). take n (drop skip (take k (drop at file)))) (sym all)
      ∙ ap (take n) (drop-take skip (m - skip) (drop at file))
      ∙ take-take n (m - skip) (drop skip (drop at file)) (omega arith)
      ∙ ap (take n) (drop-drop skip at file)
