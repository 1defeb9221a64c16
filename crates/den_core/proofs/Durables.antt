-- What log, hard state and map stand for, after an entry and after a raise.
use Rattle.std.proofs.Common.{◌≡◌, ℕ, ◌≤◌, ◌+◌, ◌&&◌, Bool, true, false, List, [], ◌∷◌, ◌++◌, Option, Some, None, nat_lt, if◌then◌else◌, cond, inl, inr, refl, sym, ◌∙◌, ap, subst, arith}
use Rattle.std.proofs.lemmas.Bool.{cases_lt, eq-eqb, le-ltb, lt-ltb}
use Rattle.std.proofs.lemmas.List.Elements.{filter-append}
use Rattle.den_model.specs.declared.command.Command.{Command}
use Rattle.den_model.specs.declared.command.Command.TheVariants.{Noop, Insert, Delete, CompareAndSwap}
use Rattle.den_model.specs.declared.log_id.HardState.{HardState}
use Rattle.den_model.specs.declared.region.LogRegion.TheVariants.{Append}
use Rattle.den_model.specs.Apply.{applied, carried_out, succeeds, with_pair}
use Rattle.den_model.specs.Entries.{LogEntry}
use Rattle.den_model.specs.Image.{durable, term_of}
use Rattle.den_model.specs.Kv.{Durable}
use Rattle.den_core.specs.declared.run.Run.{Run}
use Rattle.den_model.specs.Log.{Log, above, below, changed}
use Rattle.den_model.specs.MapState.{MapState, part_of, map_applied}
use Rattle.den_model.specs.Step.{next_entry}
use Rattle.den_core.specs.Joined.{found_is, durable_is}
use Rattle.den_core.specs.Parts.{durable_of, kv_of, IsCaughtUp}

-- each entry has at most this index
unfoldable pub AllUpTo : ℕ → List LogEntry → Type 0
AllUpTo most [] = Unit {0}
AllUpTo most (e ∷ es) = (e.index ≤ most) × AllUpTo most es

up_to_cases : (most : ℕ) (e : LogEntry) (es : List LogEntry) → cond (nat_lt most e.index) (e ∷ above most es) (above most es) ≡ [] → (e.index ≤ most) × (above most es ≡ [])
up_to_cases most e es none = elim (cases_lt most e.index) [
  | inl over ↦ let bad : e ∷ above most es ≡ [] = sym (ap (λ b. cond b (e ∷ above most es) (above most es)) (lt-ltb most e.index over)) ∙ none in cc
  | inr within ↦ (within, sym (ap (λ b. cond b (e ∷ above most es) (above most es)) (le-ltb most e.index within)) ∙ none)
]

-- where none is above it
pub up_to : (most : ℕ) (es : List LogEntry) → above most es ≡ [] → AllUpTo most es
unfolding AllUpTo
up_to most [] none = tt
up_to most (e ∷ es) none = let both = up_to_cases most e es none in (both.0, up_to most es both.1)

pub none_above : (most : ℕ) (es : List LogEntry) → AllUpTo most es → above most es ≡ []
unfolding AllUpTo
none_above most [] within = refl
none_above most (e ∷ es) within = ap (λ b. cond b (e ∷ above most es) (above most es)) (le-ltb most e.index within.0) ∙ none_above most es within.1

pub up_to_more : (most more : ℕ) (es : List LogEntry) → most ≤ more → AllUpTo most es → AllUpTo more es
unfolding AllUpTo
up_to_more most more [] le within = tt
up_to_more most more (e ∷ es) le within = (omega (arith, within.0), up_to_more most more es le within.1)

kept_up_to : (most : ℕ) (b : Bool) (e : LogEntry) (es : List LogEntry) → e.index ≤ most → AllUpTo most es → AllUpTo most (cond b (e ∷ es) es)
unfolding AllUpTo
kept_up_to most true e es le within = (le, within)
kept_up_to most false e es le within = within

below_up_to : (most index : ℕ) (es : List LogEntry) → AllUpTo most es → AllUpTo most (below index es)
unfolding AllUpTo
below_up_to most index [] within = tt
below_up_to most index (e ∷ es) within = kept_up_to most (nat_lt e.index index) e (below index es) within.0 (below_up_to most index es within.1)

-- one more entry, behind the mark
module _ (l : Log) (s : MapState) (e : LogEntry) (caught : IsCaughtUp l s) (next : e.index ≡ s.mark.index + 1) where
  -- it alone is left to apply
  one_above : above s.mark.index (below e.index l.entries ++ e ∷ []) ≡ e ∷ []
  one_above = filter-append (λ (x : LogEntry). nat_lt s.mark.index x.index) (below e.index l.entries) (e ∷ [])
      ∙ ap (λ es. es ++ above s.mark.index (e ∷ [])) (none_above s.mark.index (below e.index l.entries) (below_up_to s.mark.index e.index l.entries (up_to s.mark.index l.entries caught.applied)))
      ∙ ap (λ b. cond b (e ∷ []) []) (lt-ltb s.mark.index e.index (omega arith))

  pub logged_is : (h : Option HardState) → durable (changed l (Append (e ∷ []))) h s ≡ Some (applied (durable_of h s) e)
  logged_is h = found_is (changed l (Append (e ∷ []))) h s (e ∷ []) caught.purged one_above
      ∙ ap (λ b. if b && true then Some (applied (durable_of h s) e) else None) (eq-eqb e.index (s.mark.index + 1) next)

  -- and then none
  pub caught_up_again : IsCaughtUp (changed l (Append (e ∷ []))) (map_applied s e)
  caught_up_again = record {
    purged = let within = caught.purged in omega arith;
    applied = filter-append (λ (x : LogEntry). nat_lt e.index x.index) (below e.index l.entries) (e ∷ [])
        ∙ ap (λ es. es ++ above e.index (e ∷ [])) (none_above e.index (below e.index l.entries) (up_to_more s.mark.index e.index (below e.index l.entries) (omega arith)
        (below_up_to s.mark.index e.index l.entries (up_to s.mark.index l.entries caught.applied))))
        ∙ ap (λ b. cond b (e ∷ []) []) (le-ltb e.index e.index (omega arith));
  }

kept_same : (s : MapState) (term t moment : ℕ) (key value : List ℕ) (b : Bool)
    → (let d = (if b then with_pair (part_of s 0) key value t else part_of s 0) in part_of (record { pairs = d.pairs; expiries = d.expiries; mark = s.mark }) term)
    ≡ (if b then with_pair (part_of s term) key value t else part_of s term)
kept_same s term t moment key value true = refl
kept_same s term t moment key value false = refl

-- what a command does to the pairs does not hang on the term
pub carried_same : (s : MapState) (term t moment : ℕ) (command : Command)
    → (let d = carried_out (part_of s 0) t moment command in part_of (record { pairs = d.pairs; expiries = d.expiries; mark = s.mark }) term) ≡ carried_out (part_of s term) t moment command
carried_same s term t moment Noop = refl
carried_same s term t moment (Insert key value ttl_secs) = refl
carried_same s term t moment (Delete key) = refl
carried_same s term t moment (CompareAndSwap key expected value) = kept_same s term t moment key value (succeeds (part_of s 0) (CompareAndSwap key expected value))

-- an entry applied to the map
pub applied_is : (h : Option HardState) (s : MapState) (e : LogEntry) → durable_of h (map_applied s e) ≡ applied (durable_of h s) e
applied_is h s e = ap (λ (d : Durable). let k : Durable = record d { last_index = e.index; last_term = e.term } in k) (carried_same s (term_of h) e.term e.moment e.command)

-- applying moves nothing that the files stand for
pub applied_again : (l : Log) (h : Option HardState) (s : MapState) (e : LogEntry) → IsCaughtUp l s → e.index ≡ s.mark.index + 1
    → durable (changed l (Append (e ∷ []))) h (map_applied s e) ≡ Some (applied (durable_of h s) e)
applied_again l h s e caught next = durable_is (changed l (Append (e ∷ []))) h (map_applied s e) (caught_up_again l s e caught next) ∙ ap (λ d. Some d) (applied_is h s e)

-- the next entry, as the engine makes it
pub next_is : (h : Option HardState) (s : MapState) (running : Run) (index term moment : ℕ) (command : Command) (e : LogEntry)
    → e ≡ record { index = index + 1; term = term; moment = moment; command = command } → index ≡ s.mark.index → term ≡ term_of h
    → e ≡ next_entry (kv_of h s running) moment command
next_is h s running index term moment command e is same_index same_term = is
    ∙ ap (λ n. let x : LogEntry = record { index = n + 1; term = term; moment = moment; command = command } in x) same_index
    ∙ ap (λ n. let x : LogEntry = record { index = s.mark.index + 1; term = n; moment = moment; command = command } in x) same_term

pub next_index : (s : MapState) (index term moment : ℕ) (command : Command) (e : LogEntry) → e ≡ record { index = index + 1; term = term; moment = moment; command = command } → index ≡ s.mark.index → e.index ≡ s.mark.index + 1
next_index s index term moment command e is same_index = ap (λ (x : LogEntry). x.index) is ∙ ap (λ n. n + 1) same_index

-- its entry leaves what that one does
pub applied_next : (h : Option HardState) (s : MapState) (running : Run) (index term moment : ℕ) (command : Command) (e : LogEntry)
    → e ≡ record { index = index + 1; term = term; moment = moment; command = command } → index ≡ s.mark.index → term ≡ term_of h
    → applied (durable_of h s) e ≡ applied (durable_of h s) (next_entry (kv_of h s running) moment command)
applied_next h s running index term moment command e is same_index same_term =
    ap (applied (durable_of h s)) (next_is h s running index term moment command e is same_index same_term)

pub caught_up_now : (l : Log) (s : MapState) (e : LogEntry) (l2 : Log) (s2 : MapState) → IsCaughtUp l s → e.index ≡ s.mark.index + 1
    → l2 ≡ changed l (Append (e ∷ [])) → s2 ≡ map_applied s e → IsCaughtUp l2 s2
caught_up_now l s e l2 s2 caught next logged applied =
    subst (λ x. IsCaughtUp x s2) (sym logged) (subst (λ x. IsCaughtUp (changed l (Append (e ∷ []))) x) (sym applied) (caught_up_again l s e caught next))
