-- The log after steps, one stretch of them after the other.
use Rattle.std.proofs.Common.{◌≡◌, ℕ, ◌≤◌, ◌<◌, nat_lt, cond, if◌then◌else◌, List, [], ◌∷◌, ◌++◌, Some, inl, inr, refl, sym, ◌∙◌, ap, subst, arith}
use Rattle.std.specs.List.{All}
use Rattle.std.proofs.lemmas.Bool.{cases_lt, lt-ltb, le-ltb}
use Rattle.std.proofs.lemmas.List.Elements.{All-nil, All-cons, All-head, All-tail}
use Rattle.den_model.specs.declared.log_id.LogId.{LogId}
use Rattle.den_model.specs.declared.region.LogRegion.TheVariants.{Append, Purge}
use Rattle.den_model.specs.Entries.{LogEntry}
use Rattle.den_model.specs.Grown.{appended, HasTermOf, IsPurgedUpTo, IsLogAfter}
use Rattle.den_model.specs.Kv.{Kv}
use Rattle.den_model.specs.Log.{Log, floor, above, changed}
use Rattle.den_model.specs.Plan.{after, logged}
use Rattle.den_model.specs.Step.{Step, step}

-- ---- entries above an index

-- those above a lower index leave those above a higher one
above_above : (low high : ℕ) (es : List LogEntry) → low ≤ high → above high (above low es) ≡ above high es
above_above low high [] le = refl
above_above low high (e ∷ es) le = elim (cases_lt low e.index) [
  | inl over ↦
      ap (λ b. above high (cond b (e ∷ above low es) (above low es))) (lt-ltb low e.index over)
      ∙ ap (λ l. cond (nat_lt high e.index) (e ∷ l) l) (above_above low high es le)
  | inr under ↦
      ap (λ b. above high (cond b (e ∷ above low es) (above low es))) (le-ltb low e.index under)
      ∙ above_above low high es le
      ∙ sym (ap (λ b. cond b (e ∷ above high es) (above high es)) (le-ltb high e.index (omega arith)))
]

-- what holds of those above an index, and of those up to it
all_above : (P : LogEntry → Type 0) (low : ℕ) (es : List LogEntry) → ((e : LogEntry) → e.index ≤ low → P e) → All P (above low es) → All P es
all_above P low [] under over = All-nil P
all_above P low (e ∷ es) under over = elim (cases_lt low e.index) [
  | inl lt ↦
      let both = subst (λ b. All P (cond b (e ∷ above low es) (above low es))) (lt-ltb low e.index lt) over in
      All-cons P e es (All-head P e (above low es) both) (all_above P low es under (All-tail P e (above low es) both))
  | inr le ↦ All-cons P e es (under e le) (all_above P low es under (subst (λ b. All P (cond b (e ∷ above low es) (above low es))) (le-ltb low e.index le) over))
]

-- ---- a purge

-- the log above an id
gone : Log → LogId → Log
gone l id = record { boundary = Some id; entries = above id.index l.entries }

purged_is : (l : Log) (id : LogId) → floor l < id.index → changed l (Purge id.index id.term) ≡ gone l id
unfolding gone
purged_is l id over = ap (λ b. if b then gone l id else l) (lt-ltb (floor l) id.index over)

-- and above a later one
gone_twice : (l : Log) (id later : LogId) → id.index ≤ later.index → gone (gone l id) later ≡ gone l later
unfolding gone
gone_twice l id later le = ap (λ (es : List LogEntry). let x : Log = record { boundary = Some later; entries = es } in x) (above_above id.index later.index l.entries le)

purged_on : (old new : Log) (id later : LogId) (most : ℕ) → floor old < id.index → later.index ≤ most
    → (floor (gone old id) < later.index) × HasTermOf (gone old id) later × (new ≡ changed (gone old id) (Purge later.index later.term)) → IsPurgedUpTo most old new
unfolding gone
purged_on old new id later most over within two =
    let further : id.index < later.index = two.0 in
    let low : floor old < later.index = omega (arith, over, further) in
    inr (
      later,
      low,
      within,
      all_above (λ (e : LogEntry). e.index ≡ later.index → e.term ≡ later.term) id.index old.entries (λ e le same. absurd (omega (arith, le, same, further))) two.1,
      two.2 ∙ purged_is (gone old id) later further ∙ gone_twice old id later (omega (arith, further)) ∙ sym (purged_is old later low),
    )

purged_twice : (old mid new : Log) (most : ℕ) → IsPurgedUpTo most old mid → IsPurgedUpTo most mid new → IsPurgedUpTo most old new
purged_twice old mid new most (inl same) two = subst (λ l. IsPurgedUpTo most l new) same two
purged_twice old mid new most (inr one) (inl same) = subst (IsPurgedUpTo most old) (sym same) (inr one)
purged_twice old mid new most (inr one) (inr two) =
    purged_on old new one.0 two.0 most one.1 two.2
    (subst (λ l. (floor l < two.0.index) × HasTermOf l two.0 × (new ≡ changed l (Purge two.0.index two.0.term))) (one.4 ∙ purged_is old one.0 one.1) (two.1, two.3, two.4))

-- ---- the log of a run

appended_twice : (l : Log) (es fs : List LogEntry) → appended l (es ++ fs) ≡ appended (appended l es) fs
appended_twice l [] fs = refl
appended_twice l (e ∷ es) fs = appended_twice (changed l (Append (e ∷ []))) es fs

purged_first : (old mid new : Log) (s : Kv) (xs : List Step) → IsPurgedUpTo s.durable.last_index old mid → IsLogAfter mid s xs new → IsLogAfter old s xs new
purged_first old mid new s [] one two = purged_twice old mid new s.durable.last_index one two
purged_first old mid new s (x ∷ xs) one two = (two.0, purged_twice old mid two.0 s.durable.last_index one two.1, two.2)

-- one part after the other
pub log_twice : (old mid_log new : Log) (s mid : Kv) (xs ys : List Step) → mid ≡ after s xs → IsLogAfter old s xs mid_log → IsLogAfter mid_log mid ys new → IsLogAfter old s (xs ++ ys) new
log_twice old mid_log new s mid [] ys is one two = purged_first old mid_log new s ys one (subst (λ k. IsLogAfter mid_log k ys new) is two)
log_twice old mid_log new s mid (x ∷ xs) ys is one two = (one.0, one.1, log_twice (appended one.0 (step s x).logged) mid_log new (step s x).after mid xs ys is one.2 two)

-- nothing was purged
pub log_after : (old new : Log) (s : Kv) (steps : List Step) → new ≡ appended old (logged s steps) → IsLogAfter old s steps new
log_after old new s [] is = inl is
log_after old new s (x ∷ xs) is = (old, inl refl, log_after (appended old (step s x).logged) new (step s x).after xs (is ∙ appended_twice old (step s x).logged (logged (step s x).after xs)))
