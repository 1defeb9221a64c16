-- What a source that was lent is left as.
use Rattle.std.proofs.Common.{◌≡◌, ◌⊎◌, inl, inr, subst}

-- what holds of the one reference that an option holds, holds of it under another name
pub held_so : {A B C : Type 0} (P : B → Type 0) (x y : B) → ◌≡◌ {A = A ⊎ (B ⊎ C)} (inr (inl x)) (inr (inl y)) → P x → P y
held_so P x y is p = let same : x ≡ y = cc is in subst P same p
