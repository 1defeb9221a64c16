-- No payload of a checkpoint is larger than the weight: the one of a map, and of what a chunk or a cleanup makes of it.
use Rattle.std.specs.Prelude.{◌≡◌, ◌≤◌, ◌+◌, ℕ, max, Bool, true, false, not, List, [], ◌∷◌, ◌++◌, length, Option, if◌then◌else◌}
use Rattle.std.proofs.Common.{inl, inr, ap, arith, length-append}
use Rattle.den_model.specs.declared.command.Command.{Command}
use Rattle.den_model.specs.declared.command.Command.TheVariants.{Noop, Insert, Delete, CompareAndSwap}
use Rattle.den_model.specs.Apply.{carried_out, is_expired, succeeds, with_pair}
use Rattle.den_model.specs.Entries.{LogEntry}
use Rattle.den_model.specs.Kv.{Durable}
use Rattle.den_model.specs.MapState.{MapState, map_applied, map_applied_all, part_of}
use Rattle.den_model.specs.Sizes.{entries_size, store_rise}
use Rattle.den_model.specs.Spelling.{u64_word, blob_word, option_word, command_word, entry_word}
use Rattle.den_model.proofs.Numbers.{length_u64_word}
use Rattle.den_map.specs.Pages.{stored_pairs}
use Rattle.den_map.specs.Sizes.{pairs_size, stored_size}
use Rattle.den_map.proofs.Checkpoints.{begin_long, stored_long}
use Rattle.den_map.proofs.Paging.{page_long, stored_more}
use Rattle.den_map.proofs.Sizing.{size_kept, size_set, size_unset}
use Rattle.den_journal.specs.Shown.{rewrite_size}
use Rattle.den_state.specs.Checkpoint.{IsCheckpointSize, IsPageSize}
use Rattle.den_state.specs.Cleanup.{cleaned_where}

-- ---- entries

-- the bytes of a key or a value
blob_long : (bytes : List ℕ) → length (blob_word bytes) ≡ 8 + length bytes
blob_long bytes = omega (arith, length-append (u64_word (length bytes)) bytes, length_u64_word (length bytes))

-- the bytes of an entry
entry_long : (e : LogEntry) → length (entry_word e) ≡ 24 + length (command_word e.command)
entry_long e =
    let all = length-append (u64_word e.index ++ u64_word e.term ++ u64_word e.moment) (command_word e.command) in
    let three = length-append (u64_word e.index ++ u64_word e.term) (u64_word e.moment) in
    let two = length-append (u64_word e.index) (u64_word e.term) in
    omega (arith, all, three, two, length_u64_word e.index, length_u64_word e.term, length_u64_word e.moment)

-- the bytes of an insertion
insert_long : (key value : List ℕ) (ttl_secs : Option ℕ) → length (command_word (Insert key value ttl_secs)) ≡ 17 + length key + length value + length (option_word u64_word ttl_secs)
insert_long key value ttl_secs =
    let both = length-append (blob_word key) (blob_word value) in
    omega (arith, length-append (blob_word key ++ blob_word value) (option_word u64_word ttl_secs), both, blob_long key, blob_long value)

-- the bytes of a swap
swap_long : (key : List ℕ) (expected : Option (List ℕ)) (value : List ℕ) → length (command_word (CompareAndSwap key expected value)) ≡ 17 + length key + length value + length (option_word blob_word expected)
swap_long key expected value =
    let both = length-append (blob_word key) (option_word blob_word expected) in
    omega (arith, length-append (blob_word key ++ option_word blob_word expected) (blob_word value), both, blob_long key, blob_long value)

-- a command's pair is no longer than its entry
carried_size : (d : Durable) (term moment : ℕ) (c : Command) → pairs_size (carried_out d term moment c).pairs ≤ pairs_size d.pairs + (24 + length (command_word c))
carried_size d term moment Noop = omega arith
carried_size d term moment (Insert key value ttl_secs) = omega (arith, size_set d.pairs key (record { value = value; term = term }), insert_long key value ttl_secs)
carried_size d term moment (Delete key) = omega (arith, size_unset d.pairs key)
carried_size d term moment (CompareAndSwap key expected value) =
    let most = pairs_size d.pairs + (24 + length (command_word (CompareAndSwap key expected value))) in
    let more = size_set d.pairs key (record { value = value; term = term }) in
    let long = swap_long key expected value in
    elim (succeeds d (CompareAndSwap key expected value)) as (λ b. pairs_size (if b then with_pair d key value term else d).pairs ≤ most) [ true ↦ omega (arith, more, long) | false ↦ omega arith ]

-- entries add no more to a map's pairs than they take themselves
pub applied_pairs : (m : MapState) (chunk : List LogEntry) → pairs_size (map_applied_all m chunk).pairs ≤ pairs_size m.pairs + entries_size chunk
applied_pairs m [] = omega arith
applied_pairs m (e ∷ es) =
    let first : pairs_size (map_applied m e).pairs ≤ pairs_size m.pairs + (24 + length (command_word e.command)) = carried_size (part_of m 0) e.term e.moment e.command in
    let rest = applied_pairs (map_applied m e) es in
    let long = entry_long e in
    omega (arith, first, rest, long)

-- a cleanup adds none
pub cleaned_pairs : (leased : Bool) (moment : ℕ) (m : MapState) → pairs_size (cleaned_where leased moment m).pairs ≤ pairs_size m.pairs
cleaned_pairs false moment m = omega arith
cleaned_pairs true moment m = size_kept (λ p. not (is_expired m.expiries moment p.0)) m.pairs

-- ---- payloads

-- pairs that stand together take no more than all
page_within : (m : MapState) (n : ℕ) → IsPageSize m n → n ≤ 9 + pairs_size m.pairs
page_within m n p =
    let size = page_long p.page in
    let outer = stored_more p.before (p.page ++ p.behind) in
    let inner = stored_more p.page p.behind in
    let same : stored_size (p.before ++ (p.page ++ p.behind)) ≡ stored_size (stored_pairs m) = ap stored_size p.parts in
    let all : stored_size (stored_pairs m) ≡ pairs_size m.pairs = stored_long m.expiries m.pairs in
    omega (arith, p.is, size, outer, inner, same, all)

-- no payload of a checkpoint is larger than what the map takes when it is written anew
pub page_light : (m : MapState) (n : ℕ) → IsCheckpointSize m n → n ≤ rewrite_size (pairs_size m.pairs)
page_light m n (inl is) = let long = begin_long m.mark.index m.mark.term in omega (arith, is, long)
page_light m n (inr page) = let within = page_within m n page in omega (arith, within)

-- none of a checkpoint behind a chunk is larger than the weight with the chunk's rise
pub chunk_light : (weight : ℕ) (m : MapState) (chunk : List LogEntry) (n : ℕ) → rewrite_size (pairs_size m.pairs) ≤ weight → IsCheckpointSize (map_applied_all m chunk) n → n ≤ weight + store_rise (entries_size chunk)
chunk_light weight m chunk n within is =
    let more = applied_pairs m chunk in
    let size = page_light (map_applied_all m chunk) n is in
    omega (arith, within, more, size)

-- the same where the weight is at least what the regions take
pub weight_light : (end : ℕ) (m : MapState) (chunk : List LogEntry) (n : ℕ) → IsCheckpointSize (map_applied_all m chunk) n → n ≤ max end (rewrite_size (pairs_size m.pairs)) + store_rise (entries_size chunk)
weight_light end m chunk n is =
    let within : rewrite_size (pairs_size m.pairs) ≤ max end (rewrite_size (pairs_size m.pairs)) = omega arith in
    chunk_light (max end (rewrite_size (pairs_size m.pairs))) m chunk n within is

-- none of a checkpoint behind a cleanup is larger than the weight
pub cleanup_light : (weight : ℕ) (leased : Bool) (moment : ℕ) (m : MapState) (n : ℕ) → rewrite_size (pairs_size m.pairs) ≤ weight → IsCheckpointSize (cleaned_where leased moment m) n → n ≤ weight
cleanup_light weight leased moment m n within is =
    let less = cleaned_pairs leased moment m in
    let size = page_light (cleaned_where leased moment m) n is in
    omega (arith, within, less, size)
