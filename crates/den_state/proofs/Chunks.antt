-- Why a chunk is turned away, and what a call answers then.
use Rattle.std.proofs.Common.{◌≡◌, ℕ, Bool, true, false, List, Option, Some, None, Result, Ok, Err, OnOk, IfErr, sym, ap, subst, ◌∙◌}
use Rattle.std.specs.Prelude.{IfSome, if◌then◌else◌}
use Rattle.den_codec.specs.declared.error.Error.{Error}
use Rattle.den_codec.specs.declared.error.Error.TheVariants.{FeatureNotEnabled, UnorderedChunk}
use Rattle.den_model.specs.Entries.{LogEntry}
use Rattle.den_map.specs.Leases.{lacks_lease}
use Rattle.den_map.specs.Order.{out_of_order}
use Rattle.den_state.specs.Chunk.{refusal_of_chunk}

module _ (leased : Bool) (mark : ℕ) (chunk : List LogEntry) where
  abbrev by_order : Option ℕ → Option Error
  by_order o = elim o [ Some index ↦ Some (UnorderedChunk index) | None ↦ if lacks_lease leased chunk then Some FeatureNotEnabled else None ]

  pub unordered : (index : ℕ) → out_of_order mark chunk ≡ Some index → refusal_of_chunk leased mark chunk ≡ Some (UnorderedChunk index)
  unordered index is = ap by_order is

  pub unleased : out_of_order mark chunk ≡ None → lacks_lease leased chunk ≡ true → refusal_of_chunk leased mark chunk ≡ Some FeatureNotEnabled
  unleased is lacks = ap by_order is ∙ ap (λ b. if b then Some FeatureNotEnabled else None) lacks

  pub admitted : out_of_order mark chunk ≡ None → lacks_lease leased chunk ≡ false → refusal_of_chunk leased mark chunk ≡ None
  admitted is lacks = ap by_order is ∙ ap (λ b. if b then Some FeatureNotEnabled else None) lacks

-- what holds at each answer
pub both_ways : {A B P : Type 0} (r : Result A B) → OnOk r P → IfErr r (λ e. P) → P
both_ways (Ok x) p q = p
both_ways (Err e) p q = q

-- what follows of two facts of one error
pub at_both : {A E : Type 0} {P Q R : E → Type 0} (r : Result A E) → ((e : E) → P e → Q e → R e) → IfErr r P → IfErr r Q → IfErr r R
at_both (Ok x) f p q = tt
at_both (Err e) f p q = f e p q
