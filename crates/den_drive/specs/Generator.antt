-- The requests that a drive asks.
use Rattle.std.specs.Prelude.{ℕ, zero, suc, ◌+◌, ◌*◌, ◌/◌, ◌%◌, ◌^◌, ◌==◌, List, [], ◌∷◌, ◌++◌, Some, None, if◌then◌else◌}
use Rattle.std.specs.Int.{w64, to_be_bytes}
use Rattle.den_model.specs.declared.command.WriteOperation.{WriteOperation}
use Rattle.den_model.specs.declared.command.WriteOperation.TheVariants.{Insert, Delete, CompareAndSwap}
use Rattle.den_model.specs.declared.request.Request.{Request}
use Rattle.den_model.specs.declared.request.Request.TheVariants.{Write, Read, Scan}
use Rattle.den_model.specs.Frames.{framed}
use Rattle.den_model.specs.Spelling.{request_word}

-- the number behind this one
abbrev pub next_number : ℕ → ℕ
next_number x = (6364136223846793005 * x + 1442695040888963407) % 2 ^ 64

-- the number of a request; behind 1 comes that of the first
unfoldable pub number_at : ℕ → ℕ
number_at zero = 1
number_at (suc j) = next_number (number_at j)

-- the digits of a number below 1,000
abbrev pub three_digits : ℕ → List ℕ
three_digits n = (48 + n / 100) ∷ (48 + n / 10 % 10) ∷ (48 + n % 10) ∷ []

-- `k` and three digits
abbrev pub key_of : ℕ → List ℕ
key_of x = 107 ∷ three_digits (x / 2 ^ 32 % 1000)

-- the number itself
abbrev pub value_of : ℕ → List ℕ
value_of x = to_be_bytes w64 x

-- a write of client 1
abbrev pub write_of : WriteOperation → Request
write_of operation = Write (record { client_id = 1; command = Some operation })

abbrev pub put_of : ℕ → Request
put_of x = write_of (Insert (key_of x) (value_of x) None)

-- a read of client 1, without a policy
abbrev pub read_of : ℕ → Request
read_of x = Read (record { client_id = 1; keys = key_of x ∷ []; consistency_policy = None })

-- a swap from absent
abbrev pub swap_of : ℕ → Request
swap_of x = write_of (CompareAndSwap (key_of x) None (value_of x))

abbrev pub delete_of : ℕ → Request
delete_of x = write_of (Delete (key_of x))

-- the request of this kind: 1 puts, 2 reads, 3 swaps, another deletes
unfoldable pub request_of : (kind x : ℕ) → Request
request_of kind x =
    if kind == 1 then put_of x
    else if kind == 2 then read_of x
    else if kind == 3 then swap_of x
    else delete_of x

-- the request of this number, from 1 on
abbrev pub request_at : ℕ → Request
request_at j = request_of (j % 4) (number_at j)

-- the frames of so many requests
unfoldable pub requests_input : ℕ → List ℕ
requests_input zero = []
requests_input (suc j) = requests_input j ++ framed (request_word (request_at (suc j)))

-- the scan of all keys, by client 1
abbrev pub scan_request : Request
scan_request = Scan 1 []

-- and of the scan behind them
abbrev pub drive_input : ℕ → List ℕ
drive_input count = requests_input count ++ framed (request_word scan_request)
