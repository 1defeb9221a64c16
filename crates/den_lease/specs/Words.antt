-- The word of a snapshot of leases: how it is spelled, how it is read, and which tables have one.
use Rattle.std.specs.Prelude.{◌≡◌, ◌≤◌, ◌++◌, ℕ, true, List, Option, nat_le}
use Rattle.std.specs.Int.{w64}
use Rattle.den_model.specs.Table.{Table}
use Rattle.den_model.specs.Spelling.{u64_word, blob_word, list_word}
use Rattle.den_model.specs.Reading.{Reader, ◌>>=◌, done_if, whole, number_at, blob_at, list_at}
use Rattle.den_model.specs.Words.{FitsU64, FitsBlob, FitsList}
use Rattle.den_lease.specs.Rising.{rises}

-- a key, and the moment at which it expires
abbrev pub Lease : Type 0
Lease = List ℕ × ℕ

abbrev pub lease_word : Lease → List ℕ
lease_word l = blob_word l.0 ++ u64_word l.1

abbrev pub leases_word : Table ℕ → List ℕ
leases_word t = list_word lease_word t

unfoldable pub lease_at : Reader Lease
lease_at = do
  key ← blob_at
  expiry ← number_at w64
  done_if (nat_le 1 expiry) (key, expiry)

unfoldable pub leases_at : Reader (Table ℕ)
leases_at = do
  t ← list_at lease_at
  done_if (rises t) t

-- the table whose word the bytes are, all of them
unfoldable pub leases_in : List ℕ → Option (Table ℕ)
leases_in = whole leases_at

abbrev pub FitsLease : Lease → Type 0
FitsLease l = (1 ≤ l.1) × FitsBlob l.0 × FitsU64 l.1

-- its keys rise, and no expiry is 0
abbrev pub FitsLeases : Table ℕ → Type 0
FitsLeases t = FitsList FitsLease t × (rises t ≡ true)
