-- What a cleanup removes, and that it removes nothing where nothing has expired.
use Rattle.std.proofs.Common.{◌≡◌, ℕ, Bool, true, false, not, cond, List, [], ◌∷◌, filter, map, Some, None, refl, ap, ◌∙◌, nat_le}
use Rattle.std.specs.Prelude.{◌||◌, ◌&&◌}
use Rattle.std.proofs.lemmas.Bool.{leb-false, lt-ltb}
use Rattle.den_model.specs.declared.held.Held.{Held}
use Rattle.den_model.specs.Apply.{is_expired, kept_pairs, kept_expiries}
use Rattle.den_model.specs.MapState.{MapState}
use Rattle.den_model.specs.Table.{Table, is_same, at}
use Rattle.den_lease.specs.Due.{due_keys, has_due}
use Rattle.den_map.specs.Cleanup.{cleaned_map}
use Rattle.den_state.specs.Cleanup.{cleaned_where, removed_where}

neither : (a b : Bool) → (a || b) ≡ false → (a ≡ false) × (b ≡ false)
neither false b e = (refl, e)
neither true b e = absurd cc

not_expired : (t : Table ℕ) (moment : ℕ) (key : List ℕ) → has_due moment t ≡ false → is_expired t moment key ≡ false
not_expired [] moment key none = refl
not_expired (e ∷ es) moment key none =
    let p = neither (nat_le e.1 moment) (has_due moment es) none in
    elim (is_same key e.0) as (λ b. elim (cond b (Some e.1) (at es key)) [ None ↦ false | Some expiry ↦ nat_le expiry moment ] ≡ false) [ true ↦ p.0 | false ↦ not_expired es moment key p.1 ]

all_pairs : (t : Table ℕ) (moment : ℕ) (ps : Table Held) → has_due moment t ≡ false → kept_pairs t moment ps ≡ ps
all_pairs t moment [] none = refl
all_pairs t moment (p ∷ ps) none =
    ap (λ b. cond (not b) (p ∷ kept_pairs t moment ps) (kept_pairs t moment ps)) (not_expired t moment p.0 none) ∙ ap (λ (qs : Table Held). p ∷ qs) (all_pairs t moment ps none)

all_expiries : (t : Table ℕ) (moment : ℕ) → has_due moment t ≡ false → kept_expiries moment t ≡ t
all_expiries [] moment none = refl
all_expiries (e ∷ es) moment none =
    let p = neither (nat_le e.1 moment) (has_due moment es) none in
    ap (λ b. cond b (e ∷ kept_expiries moment es) (kept_expiries moment es)) (lt-ltb moment e.1 (leb-false e.1 moment p.0)) ∙ ap (λ (qs : Table ℕ). e ∷ qs) (all_expiries es moment p.1)

no_keys : (t : Table ℕ) (moment : ℕ) → has_due moment t ≡ false → due_keys moment t ≡ []
no_keys [] moment none = refl
no_keys (e ∷ es) moment none =
    let p = neither (nat_le e.1 moment) (has_due moment es) none in
    ap (λ b. map (λ (d : List ℕ × ℕ). d.0) (cond b (e ∷ filter (λ (d : List ℕ × ℕ). nat_le d.1 moment) es) (filter (λ (d : List ℕ × ℕ). nat_le d.1 moment) es))) p.0 ∙ no_keys es moment p.1

-- where nothing is due
pub nothing_cleaned : (leased : Bool) (moment : ℕ) (s : MapState) → (leased && has_due moment s.expiries) ≡ false → cleaned_where leased moment s ≡ s
nothing_cleaned false moment s none = refl
nothing_cleaned true moment s none = λ i. record s { pairs = all_pairs s.expiries moment s.pairs none i; expiries = all_expiries s.expiries moment none i }

pub nothing_removed : (leased : Bool) (moment : ℕ) (s : MapState) → (leased && has_due moment s.expiries) ≡ false → removed_where leased moment s ≡ []
nothing_removed false moment s none = refl
nothing_removed true moment s none = no_keys s.expiries moment none

-- where something is
pub due_cleaned : (leased due : Bool) (moment at : ℕ) (s : MapState) → (leased && due) ≡ true → moment ≡ at → cleaned_map moment s ≡ cleaned_where leased at s
due_cleaned true due moment at s is same = ap (λ n. cleaned_map n s) same
due_cleaned false due moment at s is same = absurd cc
