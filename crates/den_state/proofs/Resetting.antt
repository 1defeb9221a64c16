-- What a journal that is written anew without an entry gives, and how many bytes that takes.
use Rattle.std.proofs.Common.{◌≡◌, ℕ, ◌≤◌, [], length, None, Ok, sym, ap, ◌∙◌, arith, length-append}
use Rattle.den_model.specs.declared.region.StateRegion.TheVariants.{Begin}
use Rattle.den_model.specs.MapState.{MapState, empty_map, map_after}
use Rattle.den_model.specs.Regions.{open_region, open_regions, placed}
use Rattle.den_model.specs.Spelling.{u64_word, state_region_word}
use Rattle.den_model.specs.Words.{FitsStateRegion}
use Rattle.den_model.proofs.Numbers.{length_u64_word}
use Rattle.den_map.proofs.Checkpoints.{begin_long, begin_map, word_tail}
use Rattle.den_journal.specs.Drafts.{anew_words}
use Rattle.den_journal.specs.Shown.{rewrite_size}
use Rattle.den_state.specs.Folds.{after_lawful, stored_fold}
use Rattle.den_state.specs.Stored.{Stored, IsLawful, map_by, nothing_stored, stored_by, stored_from}
use Rattle.den_state.proofs.Marks.{begin_after, lawful_by}

begin_fits : FitsStateRegion (Begin 0 0)
begin_fits = (omega arith, omega arith)

-- nothing is left
pub reset_by : (s : MapState) → map_by s (map_after s (Begin 0 0)) ≡ empty_map
reset_by s = ap (map_by s) (begin_after s 0 0)

pub reset_lawful : (s : Stored) → IsLawful s (Begin 0 0)
reset_lawful s = lawful_by s (Begin 0 0) empty_map (begin_after s.map 0 0)

pub reset_gives : (s : Stored) → stored_from nothing_stored (placed 0 (anew_words state_region_word (Begin 0 0) None)) ≡ Ok (stored_by s (Begin 0 0))
reset_gives s =
    let word = state_region_word (Begin 0 0) in
    stored_fold.goes_on nothing_stored nothing_stored (record { offset = 0; payload = word }) []
    (after_lawful nothing_stored word empty_map 0 (begin_map empty_map 0 0 begin_fits) (sym (word_tail 0 (Begin 0 0) begin_fits)))
    ∙ stored_fold.stays nothing_stored
    ∙ ap (λ (m : MapState). Ok (record { map = m; tail = 0 })) (sym (reset_by s.map))

pub reset_small : (size : ℕ) → length (open_regions (anew_words state_region_word (Begin 0 0) None)) ≤ rewrite_size size
reset_small size =
    let word = state_region_word (Begin 0 0) in
    omega (arith, length-append (open_region word) [], length-append (u64_word (length word)) word, length_u64_word (length word), begin_long 0 0)
