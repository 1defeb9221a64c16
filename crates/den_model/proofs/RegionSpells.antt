-- The words of the log's regions: what is written is read again, and what is read was written so.
use Rattle.std.proofs.Common.{◌≡◌, ℕ, suc, List, [], ◌∷◌, ◌++◌, length, Some, refl, sym}
use Rattle.std.specs.Prelude.{◌&&◌, nat_le}
use Rattle.std.proofs.lemmas.Bool.{le-leb, leb-true, and_from, and_parts}
use Rattle.std.proofs.lemmas.List.{append-nil}
use Rattle.den_model.specs.declared.region.LogRegion.{LogRegion}
use Rattle.den_model.specs.declared.region.LogRegion.TheVariants as log
use Rattle.den_model.specs.Entries.{LogEntry, EntriesFrom, rise_from}
use Rattle.den_model.specs.Spelling.{u64_word, list_word, entry_word, log_region_word}
use Rattle.den_model.specs.Words.{IsBytes, FitsU64, FitsLogRegion}
use Rattle.den_model.specs.Reading.{append_at, truncate_at, purge_at, replace_at, log_region_at}
use Rattle.den_model.proofs.Spells.{Spells, itself, no_none, spells_done, spells_done_if, spells_then, spells_as, spells_u64, spells_list}
use Rattle.den_model.proofs.LogSpells.{Known, spells_entry}
use Rattle.den_model.proofs.Tagged.{behind_none, behind_done, behind_spelled, behind_or}

spells_append : Spells log.Append (λ es. FitsLogRegion (log.Append es)) (list_word entry_word) append_at
unfolding append_at
spells_append =
    spells_as (spells_then (spells_list spells_entry) {known = Known} (λ (es : List LogEntry). es) (λ es _.
    spells_done_if (λ es. nat_le 1 (length es) && rise_from 1 es) es (λ x h. h.1) (tt, refl)))
    (λ es h. ((h.0, and_from _ _ (le-leb 1 (length es) h.1) h.2), tt))
    (λ es h. let t = and_parts (nat_le 1 (length es)) (rise_from 1 es) h.0.1 in (h.0.0, leb-true 1 (length es) t.0, t.1))
    (λ es. sym (append-nil (list_word entry_word es)))

spells_truncate : Spells log.Truncate FitsU64 u64_word truncate_at
unfolding truncate_at
spells_truncate =
    spells_as (spells_then spells_u64 {known = Known} (λ from. from) (λ from _. spells_done from (λ x h. h.1) (tt, refl)))
    (λ n h. ((h, tt), tt)) (λ n h. h.0.0) (λ n. sym (append-nil (u64_word n)))

abbrev purged : ℕ × ℕ → LogRegion
purged p = log.Purge p.0 p.1

spells_purge : Spells purged (λ p. FitsLogRegion (purged p)) (λ p. u64_word p.0 ++ u64_word p.1) purge_at
unfolding purge_at
spells_purge =
    spells_as (spells_then spells_u64 {known = Known} (λ (p : ℕ × ℕ). p.0) (λ index _. spells_then spells_u64 (λ p. p.1) (λ term _.
    spells_done_if (λ p. nat_le 1 p.0) (index, term) (λ x h i. (h.0.1 i, h.1 i)) ((tt, refl), refl))))
    (λ p h. ((h.1, (h.2, le-leb 1 p.0 h.0)), tt)) (λ p h. (leb-true 1 p.0 h.0.1.1, h.0.0, h.0.1.0)) (λ p. simp append-nil refl)

spells_replace : Spells log.Replace (λ r. FitsLogRegion (log.Replace r)) (λ r. u64_word r.from ++ list_word entry_word r.entries) replace_at
unfolding replace_at
spells_replace =
    spells_as (spells_then spells_u64 {known = Known} (λ (r : EntriesFrom). r.from) (λ from _. spells_then (spells_list spells_entry) (λ r. r.entries) (λ entries _.
    spells_done_if (λ r. rise_from r.from r.entries) (record { from = from; entries = entries }) (λ x h i. record { from = h.0.1 i; entries = h.1 i }) ((tt, refl), refl))))
    (λ r h. ((h.0, (h.1, h.2)), tt)) (λ r h. (h.0.0, h.0.1.0, h.0.1.1)) (λ r. simp append-nil refl)

region_again : (r : LogRegion) (rest : List ℕ) → FitsLogRegion r → log_region_at (log_region_word r ++ rest) ≡ Some (r, rest)
unfolding log_region_at
region_again (log.Append entries) rest h = spells_append.again entries rest h
region_again (log.Truncate from) rest h = spells_truncate.again from rest h
region_again (log.Purge index term) rest h = spells_purge.again (index, term) rest h
region_again (log.Replace r) rest h = spells_replace.again r rest h
region_again log.Reset rest h = refl

region_found : (bytes : List ℕ) (y : LogRegion) (rest : List ℕ) → IsBytes bytes → log_region_at bytes ≡ Some (y, rest) → (r : LogRegion) × (y ≡ r) × (bytes ≡ log_region_word r ++ rest) × FitsLogRegion r
unfolding log_region_at
region_found [] y rest h e = absurd (no_none (y, rest) e)
region_found (tag ∷ bytes) y rest h e =
    let b = behind_or {fits = FitsLogRegion} {word = log_region_word} tag 1 (behind_spelled 1 spells_append (λ x f. f) (λ x. refl))
    (behind_or tag 2 (behind_spelled 2 spells_truncate (λ x f. f) (λ x. refl))
    (behind_or tag 3 (behind_spelled 3 spells_purge (λ x f. f) (λ x. refl))
    (behind_or tag 4 (behind_spelled 4 spells_replace (λ x f. f) (λ x. refl))
    (behind_or tag 5 (behind_done 5 log.Reset tt (λ rest. refl)) (behind_none tag))))) in
    let t = b.found bytes y rest (λ i. h (suc i)) e in
    (y, refl, t.0, t.1)

pub spells_log_region : Spells itself FitsLogRegion log_region_word log_region_at
spells_log_region = record { again = region_again; found = region_found }
