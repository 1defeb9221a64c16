-- Addresses of nodes.
use Rattle.std.specs.Prelude.{◌≡◌, ◌≢◌, ℕ, zero, suc, List, [], ◌++◌, codes}

-- a text, so many times
abbrev pub times : ℕ → List ℕ → List ℕ
times zero text = []
times (suc n) text = times n text ++ text

-- what is left of a text without a front, which stood there so many times and does no more
pub record IsWithoutFront (front text rest : List ℕ) : Type 0 where
  pub count : ℕ
  pub is : text ≡ times count front ++ rest
  pub all : (behind : List ℕ) → rest ≢ front ++ behind

-- a text without each leading `http://` and then each leading `https://`, with one `http://` in front
pub record IsAddressOf (text address : List ℕ) : Type 0 where
  pub unnamed : List ℕ
  pub bare : List ℕ
  pub first : IsWithoutFront (codes "http://") text unnamed
  pub then : IsWithoutFront (codes "https://") unnamed bare
  pub is : address ≡ codes "http://" ++ bare
