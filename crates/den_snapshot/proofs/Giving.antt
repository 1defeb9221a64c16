-- What a snapshot's word takes, and what its map is.
use Rattle.std.proofs.Common.{◌≡◌, ◌+◌, ◌≤◌, [], ◌++◌, length, Some, refl, length-append, arith}
use Rattle.den_model.specs.declared.log_id.LogId.{LogId}
use Rattle.den_model.specs.MapState.{MapState}
use Rattle.den_model.specs.Spelling.{u64_word, list_word, pair_word}
use Rattle.den_model.proofs.Numbers.{length_u64_word}
use Rattle.den_model.proofs.Spells.{word_again}
use Rattle.den_map.specs.Held.{IsSound}
use Rattle.den_map.specs.Pages.{page_size}
use Rattle.den_map.specs.Sizes.{pairs_size, stored_size}
use Rattle.den_map.proofs.Paging.{page_long}
use Rattle.den_map.proofs.Rebuilding.{mark_kept}
use Rattle.den_map.proofs.Sizing.{size_with}
use Rattle.den_map.proofs.Soundness.{sound_empty, sound_with}
use Rattle.den_snapshot.specs.Snapshots.{Taken, map_of}
use Rattle.den_snapshot.specs.Spelled.{spells_snapshot}
use Rattle.den_snapshot.specs.Words.{snapshot_in, snapshot_word, FitsSnapshot}

-- ---- the word

pub snapshot_long : (t : Taken) → length (snapshot_word t) ≡ 24 + stored_size t.pairs
snapshot_long t =
    let mark = u64_word t.mark.index ++ u64_word t.mark.term in
    let index = length_u64_word t.mark.index in
    let term = length_u64_word t.mark.term in
    let both = length-append (u64_word t.mark.index) (u64_word t.mark.term) in
    let all : length (snapshot_word t) ≡ length mark + length (list_word pair_word t.pairs) = length-append mark (list_word pair_word t.pairs) in
    let page : page_size t.pairs ≡ 1 + length (list_word pair_word t.pairs) = omega arith in
    let pairs = page_long t.pairs in
    omega arith

-- the word of a snapshot that fits is read as it
pub snapshot_again : (t : Taken) → FitsSnapshot t → snapshot_in (snapshot_word t) ≡ Some t
unfolding snapshot_in
snapshot_again t fits = word_again spells_snapshot (snapshot_word t) t (refl, fits)

-- ---- the map

abbrev empty_at : LogId → MapState
empty_at mark = record { pairs = []; expiries = []; mark = mark }

-- its pairs take no more than those of the snapshot
pub map_light : (mark : LogId) (t : Taken) → pairs_size (map_of mark t).pairs ≤ stored_size t.pairs
map_light mark t = let size : pairs_size (map_of mark t).pairs ≤ 0 + stored_size t.pairs = size_with (empty_at mark) t.pairs in omega arith

pub map_marked : (mark : LogId) (t : Taken) → (map_of mark t).mark ≡ mark
map_marked mark t = mark_kept (empty_at mark) t.pairs
