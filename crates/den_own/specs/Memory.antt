-- What is seen of a store that is kept in memory alone, and says nothing of files.
use Rattle.std.specs.Prelude.{◌≡◌, ℕ, Bool, false, None, refl}
use Rattle.den_disk.specs.declared.place.Family.{Family}
use Rattle.den_journal.specs.Lies.{Lies}
use Rattle.den_journal.specs.Shown.{Held, Shown}

-- nothing is told of what files give
abbrev pub nothing_told : {V : Type 0} → Held V
nothing_told = record { told = ⊥; of = λ files. None }

-- a store that holds this value, and goes on unless it failed
abbrev pub in_memory : {V : Type 0} → (failed : Bool) (weight : V → ℕ) → V → Shown V
in_memory failed weight value = record {
  value = value;
  weight = weight value;
  ready = failed ≡ false;
  rests = λ content. Unit {0};
}

-- what it says of files is nothing, so it holds
pub memory_lies : {S V : Type 0} (family : Family) (weight : V → ℕ) (failed : S → Bool) (value : S → V) → Lies family nothing_told (λ s. in_memory (failed s) weight (value s))
memory_lies family weight failed value = record {
  rests_own = λ s old new spares rests. tt;
  holds_own = λ one other same. refl;
  rests_hold = λ told. absurd told;
}
