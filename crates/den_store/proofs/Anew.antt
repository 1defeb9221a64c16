-- What a log and a hard state give once they are written anew, and how many bytes that takes.
use Rattle.std.proofs.Common.{◌≡◌, ℕ, ◌+◌, ◌<◌, ◌≤◌, true, List, [], ◌∷◌, length, Option, Some, None, Ok, refl, ap, ◌∙◌, subst, arith, length-append}
use Rattle.std.specs.Prelude.{nat_lt, IfSome}
use Rattle.std.proofs.lemmas.Bool.{and_parts, ltb-true, lt-ltb, le-leb, cond-true}
use Rattle.den_model.specs.declared.log_id.HardState.{HardState}
use Rattle.den_model.specs.declared.log_id.VotedFor.{VotedFor}
use Rattle.den_model.specs.declared.region.LogRegion.{LogRegion}
use Rattle.den_model.specs.declared.region.LogRegion.TheVariants.{Append, Purge}
use Rattle.den_model.specs.Entries.{LogEntry, rise_above}
use Rattle.den_model.specs.Image.{hard_state_from}
use Rattle.den_model.specs.Log.{Log, above, changed, empty_log, floor, is_lawful, log_from}
use Rattle.den_model.specs.Regions.{open_region, open_regions, placed}
use Rattle.den_model.specs.Sizes.{entries_size}
use Rattle.den_model.specs.Spelling.{u32_word, u64_word, option_word, vote_word, hard_state_word, log_region_word}
use Rattle.den_model.specs.Words.{FitsHardState, FitsLogRegion}
use Rattle.den_model.proofs.Numbers.{length_u64_word}
use Rattle.den_journal.specs.Drafts.{anew_words}
use Rattle.den_journal.specs.Shown.{rewrite_size}
use Rattle.den_store.specs.Folds.{append_size, log_again, logs_fold, purge_size, state_again, states_fold}
use Rattle.den_store.specs.Lookup.{rest_region}
use Rattle.den_store.specs.Order.{IsInOrder}
use Rattle.den_store.proofs.HeldLogs.{purged}
use Rattle.den_store.proofs.Rising.{above_rise}

-- a log of this boundary and these entries
abbrev bounded : ℕ → ℕ → List LogEntry → Log
bounded index term es = record { boundary = Some (record { index = index; term = term }); entries = es }

-- ---- what they give

-- a boundary alone
boundary_from : (index term : ℕ) (rest : List (List ℕ)) → 0 < index → FitsLogRegion (Purge index term)
    → log_from empty_log (placed 0 (log_region_word (Purge index term) ∷ rest)) ≡ log_from (bounded index term []) (placed (0 + (9 + length (log_region_word (Purge index term)))) rest)
boundary_from index term rest some fits =
    let word = log_region_word (Purge index term) in
    logs_fold.goes_on empty_log (bounded index term []) (record { offset = 0; payload = word }) (placed (0 + (9 + length word)) rest)
    (log_again empty_log (Purge index term) refl fits ∙ ap (λ l. Some l) (cond-true (nat_lt 0 index) (bounded index term []) empty_log (lt-ltb 0 index some)))

-- a boundary, and the entries above it
anew_from : (index term : ℕ) (es : List LogEntry) → 0 < index → rise_above index es ≡ true → FitsLogRegion (Purge index term) → IfSome (rest_region es) FitsLogRegion
    → log_from empty_log (placed 0 (anew_words log_region_word (Purge index term) (rest_region es))) ≡ Ok (bounded index term es)
anew_from index term [] some rise fits rest = boundary_from index term [] some fits ∙ logs_fold.stays (bounded index term [])
anew_from index term (e ∷ es) some rise fits rest =
    let b = bounded index term [] in
    let word = log_region_word (Append (e ∷ es)) in
    let at : ℕ = 0 + (9 + length (log_region_word (Purge index term))) in
    let p = and_parts (nat_lt index e.index) (rise_above e.index es) rise in
    let lawful : is_lawful b (Append (e ∷ es)) ≡ true = le-leb (index + 1) e.index (omega (arith, ltb-true index e.index p.0)) in
    boundary_from index term (word ∷ []) some fits
    ∙ logs_fold.goes_on b (bounded index term (e ∷ es)) (record { offset = at; payload = word }) [] (log_again b (Append (e ∷ es)) lawful rest)
    ∙ logs_fold.stays (bounded index term (e ∷ es))

-- a log that is purged, written anew, gives itself
pub purge_gives : (l : Log) (index term : ℕ) (rest : Option LogRegion) → IsInOrder l → floor l < index → rest ≡ rest_region (above index l.entries) → FitsLogRegion (Purge index term) → IfSome rest FitsLogRegion
    → log_from empty_log (placed 0 (anew_words log_region_word (Purge index term) rest)) ≡ Ok (changed l (Purge index term))
purge_gives l index term rest order over is fits rest_fits =
    ap (λ (o : Option LogRegion). log_from empty_log (placed 0 (anew_words log_region_word (Purge index term) o))) is
    ∙ anew_from index term (above index l.entries) (omega arith) (above_rise (floor l) index l.entries order.rises) fits (subst (λ (o : Option LogRegion). IfSome o FitsLogRegion) is rest_fits)
    ∙ ap (λ (m : Log). Ok m) (purged l index term (above index l.entries) over refl)

-- a hard state, written anew, gives itself
pub state_gives : (h : HardState) → FitsHardState h → hard_state_from None (placed 0 (anew_words hard_state_word h None)) ≡ Ok (Some h)
state_gives h fits = states_fold.goes_on None (Some h) (record { offset = 0; payload = hard_state_word h }) [] (state_again None h fits) ∙ states_fold.stays (Some h)

-- ---- how many bytes they take

open_size : (p : List ℕ) (ps : List (List ℕ)) → length (open_regions (p ∷ ps)) ≡ 9 + length p + length (open_regions ps)
open_size p ps = omega (arith, length-append (open_region p) (open_regions ps), length-append (u64_word (length p)) p, length_u64_word (length p))

anew_size : (index term : ℕ) (es : List LogEntry) → length (open_regions (anew_words log_region_word (Purge index term) (rest_region es))) ≤ rewrite_size (entries_size es)
anew_size index term [] = omega (arith, open_size (log_region_word (Purge index term)) [], purge_size index term)
anew_size index term (e ∷ es) =
    omega (arith, open_size (log_region_word (Purge index term)) (log_region_word (Append (e ∷ es)) ∷ []), open_size (log_region_word (Append (e ∷ es))) [], purge_size index term, append_size (e ∷ es))

-- a log that is purged takes no more than its entries say
pub purge_small : (l : Log) (index term : ℕ) (rest : Option LogRegion) → floor l < index → rest ≡ rest_region (above index l.entries)
    → length (open_regions (anew_words log_region_word (Purge index term) rest)) ≤ rewrite_size (entries_size (changed l (Purge index term)).entries)
purge_small l index term rest over is =
    omega (
      arith,
      ap (λ (o : Option LogRegion). length (open_regions (anew_words log_region_word (Purge index term) o))) is,
      anew_size index term (above index l.entries),
      ap (λ (m : Log). entries_size m.entries) (purged l index term (above index l.entries) over refl),
    )

length_u32_word : (n : ℕ) → length (u32_word n) ≡ 4
unfolding u32_word
length_u32_word n = refl

vote_size : (o : Option VotedFor) → length (option_word vote_word o) ≤ 13
vote_size None = omega arith
vote_size (Some v) = omega (arith, length-append (u32_word v.id) (u64_word v.term), length_u32_word v.id, length_u64_word v.term)

-- a hard state takes no more than 64 bytes
pub state_small : (h : HardState) → length (open_regions (anew_words hard_state_word h None)) ≤ rewrite_size 0
state_small h = omega (arith, open_size (hard_state_word h) [], length-append (u64_word h.current_term) (option_word vote_word h.voted_for), length_u64_word h.current_term, vote_size h.voted_for)
