-- The log's regions and those of the hard state, as folds.
use Rattle.std.proofs.Common.{◌≡◌, ℕ, ◌+◌, ◌*◌, ◌≤◌, inl, inr, Bool, true, false, List, [], ◌∷◌, ◌++◌, length, Option, Some, None, Result, Err, refl, ap, ◌∙◌, arith, length-append}
use Rattle.std.specs.Prelude.{nat_lt}
use Rattle.std.specs.List.{filter, flat_map}
use Rattle.den_model.proofs.Numbers.{length_u64_word}
use Rattle.std.proofs.lemmas.Bool.{cond-true, cond-false, cases_Bool}
use Rattle.den_model.specs.declared.region.LogRegion.{LogRegion}
use Rattle.den_model.specs.declared.region.LogRegion.TheVariants.{Append, Truncate, Purge, Replace, Reset}
use Rattle.den_model.specs.declared.log_id.HardState.{HardState}
use Rattle.den_model.specs.declared.log_id.LogId.{LogId}
use Rattle.den_model.specs.Entries.{LogEntry}
use Rattle.den_model.specs.Regions.{Region}
use Rattle.den_model.specs.Log.{Log, floor, above, below, is_lawful, changed, replaced, log_from, log_after, log_after_payload}
use Rattle.den_model.specs.Spelling.{u64_word, entry_word, log_region_word, hard_state_word}
use Rattle.den_model.specs.Words.{FitsLogRegion, FitsHardState}
use Rattle.den_model.proofs.RoundTrips.{log_region_again, hard_state_again}
use Rattle.den_model.specs.Image.{hard_state_from}
use Rattle.den_model.specs.Sizes.{entries_size, store_rise}
use Rattle.den_model.specs.Reading.{log_region_in, hard_state_in}
use Rattle.den_journal.specs.Drafts.{anew_words, IsSizeOf}
use Rattle.den_journal.specs.Folding.{IsFold}
use Rattle.den_journal.specs.Shown.{rewrite_size}
use Rattle.den_store.specs.Changes.{purge_words}
use Rattle.den_store.specs.LastState.{state_after}
use Rattle.den_store.specs.Lookup.{entries_of, rest_region}

-- ---- the log

pub logs_fold : IsFold log_after_payload log_from
unfolding log_from
logs_fold = record {
  stays = λ l. refl;
  goes_on = λ l m r rs is. ap (λ (o : Option Log). elim o [ None ↦ Err r.offset | Some n ↦ log_from n rs ]) is;
  stops = λ l r rs is. ap (λ (o : Option Log). elim o [ None ↦ Err r.offset | Some n ↦ log_from n rs ]) is;
}

pub after_region : (l : Log) (p : List ℕ) (r : LogRegion) → log_region_in p ≡ Some r → is_lawful l r ≡ true → log_after_payload l p ≡ Some (changed l r)
unfolding log_after_payload log_after
after_region l p r is lawful =
    ap (λ (o : Option LogRegion). elim o [ None ↦ None | Some x ↦ log_after l x ]) is ∙ cond-true (is_lawful l r) (Some (changed l r)) None lawful

pub after_unlawful : (l : Log) (p : List ℕ) (r : LogRegion) → log_region_in p ≡ Some r → is_lawful l r ≡ false → log_after_payload l p ≡ None
unfolding log_after_payload log_after
after_unlawful l p r is lawful =
    ap (λ (o : Option LogRegion). elim o [ None ↦ None | Some x ↦ log_after l x ]) is ∙ cond-false (is_lawful l r) (Some (changed l r)) None lawful

pub after_no_word : (l : Log) (p : List ℕ) → log_region_in p ≡ None → log_after_payload l p ≡ None
unfolding log_after_payload log_after
after_no_word l p is = ap (λ (o : Option LogRegion). elim o [ None ↦ None | Some x ↦ log_after l x ]) is

pub log_again : (l : Log) (r : LogRegion) → is_lawful l r ≡ true → FitsLogRegion r → log_after_payload l (log_region_word r) ≡ Some (changed l r)
log_again l r lawful fits = after_region l (log_region_word r) r (log_region_again r fits) lawful

pub words_size : (es : List LogEntry) → length (flat_map entry_word es) ≡ entries_size es
words_size [] = refl
words_size (e ∷ es) = omega (arith, length-append (entry_word e) (flat_map entry_word es), words_size es)

pub append_size : (es : List LogEntry) → length (log_region_word (Append es)) ≡ 9 + entries_size es
append_size es = omega (arith, length-append (u64_word (length es)) (flat_map entry_word es), length_u64_word (length es), words_size es)

size_append : (es fs : List LogEntry) → entries_size (es ++ fs) ≡ entries_size es + entries_size fs
size_append [] fs = omega arith
size_append (e ∷ es) fs = omega (arith, size_append es fs)

size_filter : (p : LogEntry → Bool) (es : List LogEntry) → entries_size (filter p es) ≤ entries_size es
size_filter p [] = omega arith
size_filter p (e ∷ es) = elim (cases_Bool (p e)) [
  | inl pass ↦ rw (cond-true (p e) (e ∷ filter p es) (filter p es) pass) (omega (arith, size_filter p es))
  | inr fail ↦ rw (cond-false (p e) (e ∷ filter p es) (filter p es) fail) (omega (arith, size_filter p es))
]

replaced_size : (l : Log) (from : ℕ) (es : List LogEntry) → entries_size (replaced l from es).entries ≤ entries_size l.entries + entries_size es
replaced_size l from es = omega (arith, size_append (below from l.entries) es, size_filter (λ e. nat_lt e.index from) l.entries)

-- a region makes no entries greater by more than its word
pub changed_size : (l : Log) (r : LogRegion) → entries_size (changed l r).entries ≤ entries_size l.entries + length (log_region_word r)
changed_size l (Append []) = omega arith
changed_size l (Append (e ∷ es)) = omega (arith, replaced_size l e.index (e ∷ es), append_size (e ∷ es))
changed_size l (Truncate from) = omega (arith, size_filter (λ e. nat_lt e.index from) l.entries)
changed_size l (Purge index term) = elim (cases_Bool (nat_lt (floor l) index)) [
  | inl more ↦ rw more (omega (arith, size_filter (λ e. nat_lt index e.index) l.entries))
  | inr same ↦ rw same (omega arith)
]
changed_size l (Replace r) =
    omega (arith, replaced_size l r.from r.entries, length-append (u64_word r.from) (u64_word (length r.entries) ++ flat_map entry_word r.entries), length-append (u64_word (length r.entries)) (flat_map entry_word r.entries), words_size r.entries)
changed_size l Reset = omega arith

pub purge_size : (index term : ℕ) → length (log_region_word (Purge index term)) ≡ 17
purge_size index term = omega (arith, length-append (u64_word index) (u64_word term), length_u64_word index, length_u64_word term)

anew_light : (index term : ℕ) (es : List LogEntry) (n : ℕ) → IsSizeOf (anew_words log_region_word (Purge index term) (rest_region es)) n → n ≤ rewrite_size (entries_size es)
anew_light index term [] n (inl is) = omega (arith, is, purge_size index term)
anew_light index term [] n (inr none) = absurd none
anew_light index term (e ∷ es) n (inl is) = omega (arith, is, purge_size index term)
anew_light index term (e ∷ es) n (inr (inl is)) = omega (arith, is, append_size (e ∷ es))
anew_light index term (e ∷ es) n (inr (inr none)) = absurd none

-- no payload of a purge is larger than what the log takes when it is written anew
pub purge_light : (l : Log) (cutoff : LogId) (n : ℕ) → IsSizeOf (purge_words l cutoff) n → n ≤ rewrite_size (entries_size l.entries)
purge_light l cutoff n is = omega (arith, anew_light cutoff.index cutoff.term (above cutoff.index l.entries) n is, size_filter (λ e. nat_lt cutoff.index e.index) l.entries)

-- twice a region is no larger than what a store that is handed its entries may write
pub log_rises : (r : LogRegion) → 9 + 2 * length (log_region_word r) ≤ store_rise (entries_size (entries_of r))
log_rises (Append es) = omega (arith, append_size es)
log_rises (Truncate from) = omega (arith, length_u64_word from)
log_rises (Purge index term) = omega (arith, purge_size index term)
log_rises (Replace r) =
    omega (arith, length-append (u64_word r.from) (u64_word (length r.entries) ++ flat_map entry_word r.entries), length-append (u64_word (length r.entries)) (flat_map entry_word r.entries), words_size r.entries, length_u64_word r.from, length_u64_word (length r.entries))
log_rises Reset = omega arith

-- ---- the hard state

-- what is read of one payload, and what is made of the rest
state_next : (r : Region) (rs : List Region) → Option (Option HardState) → Result (Option HardState) ℕ
state_next r rs None = Err r.offset
state_next r rs (Some g) = hard_state_from g rs

state_step : (h : Option HardState) (r : Region) (rs : List Region) → hard_state_from h (r ∷ rs) ≡ state_next r rs (state_after h r.payload)
unfolding hard_state_from state_after state_next
state_step h r rs =
    elim (hard_state_in r.payload) as (λ (o : Option HardState).
    ◌≡◌ {A = Result (Option HardState) ℕ} (elim o [ None ↦ Err r.offset | Some g ↦ hard_state_from (Some g) rs ]) (state_next r rs (elim o [ None ↦ None | Some x ↦ Some (Some x) ]))) [
      | None ↦ refl
      | Some g ↦ refl
    ]

pub states_fold : IsFold state_after hard_state_from
unfolding hard_state_from state_next
states_fold = record {
  stays = λ h. refl;
  goes_on = λ h g r rs is. state_step h r rs ∙ ap (state_next r rs) is;
  stops = λ h r rs is. state_step h r rs ∙ ap (state_next r rs) is;
}

pub state_read : (h : Option HardState) (p : List ℕ) (g : HardState) → hard_state_in p ≡ Some g → state_after h p ≡ Some (Some g)
unfolding state_after
state_read h p g is = ap (λ (o : Option HardState). elim o [ None ↦ None | Some x ↦ Some (Some x) ]) is

pub state_unread : (h : Option HardState) (p : List ℕ) → hard_state_in p ≡ None → state_after h p ≡ None
unfolding state_after
state_unread h p is = ap (λ (o : Option HardState). elim o [ None ↦ None | Some x ↦ Some (Some x) ]) is

pub state_again : (h : Option HardState) (g : HardState) → FitsHardState g → state_after h (hard_state_word g) ≡ Some (Some g)
state_again h g fits = state_read h (hard_state_word g) g (hard_state_again g fits)

pub state_rises : (g : HardState) → 9 + 2 * length (hard_state_word g) ≤ store_rise (length (hard_state_word g))
state_rises g = omega arith

pub state_sized : (g : HardState) → 0 ≤ 0 + length (hard_state_word g)
state_sized g = omega arith
