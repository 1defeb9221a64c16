-- Nodes that join one after the other, in the order of their ids.
use Rattle.std.proofs.Common.{◌≡◌, ℕ, Bool, true, false, not, cond, map, List, [], ◌∷◌, Some, None, nat_le, refl, sym, ap, ◌∙◌, true≢false, arith}
use Rattle.std.specs.Prelude.{if◌then◌else◌, ◌==◌, ◌||◌}
use Rattle.std.specs.BTreeMap.{is_at}
use Rattle.std.specs.Ordering.{is_eq, match_ordering, nat_cmp}
use Rattle.std.specs.declared.cmp.Ordering.TheVariants.{Less, Equal, Greater}
use Rattle.std.proofs.lemmas.Bool.{and_parts}
use Rattle.den_codec.specs.Nodes.{has_id, ids_differ}
use Rattle.den_model.specs.Step.{by_id, with_node}
use Rattle.den_model.specs.declared.reply.NodeMeta.{NodeMeta}
use Rattle.den_member.specs.Members.{joined}
use Rattle.den_member.specs.Numbered.{Numbered, at, set}

-- each node stands under its id
AllNamed : Numbered NodeMeta → Type 0
AllNamed [] = Unit {0}
AllNamed (e ∷ es) = (e.1.id ≡ e.0) × AllNamed es

-- ---- a node set under its id

named_set : (n : NodeMeta) (t : Numbered NodeMeta) → AllNamed t → AllNamed (set t n.id n)
unfolding AllNamed
named_set n [] named = (refl, tt)
named_set n (e ∷ es) named =
    elim (nat_cmp n.id e.0) as (λ o. nat_cmp n.id e.0 ≡ o → AllNamed (match_ordering o ((n.id, n) ∷ e ∷ es) ((e.0, n) ∷ es) (e ∷ set es n.id n))) [
      | Less ↦ λ is. (refl, named)
      | Equal ↦ λ is. (grind (arith, is), named.1)
      | Greater ↦ λ is. (named.0, named_set n es named.1)
    ] refl

nodes_set : (n : NodeMeta) (t : Numbered NodeMeta) → AllNamed t → at t n.id ≡ None → map (λ e. e.1) (set t n.id n) ≡ with_node n (map (λ e. e.1) t)
unfolding AllNamed
nodes_set n [] named absent = refl
nodes_set n (e ∷ es) named absent =
    let rest : List NodeMeta = map (λ (e : ℕ × NodeMeta). e.1) es in
    elim (nat_cmp n.id e.0) as (λ o. nat_cmp n.id e.0 ≡ o → cond (is_eq o) (Some e.1) (at es n.id) ≡ None
    → map (λ e. e.1) (match_ordering o ((n.id, n) ∷ e ∷ es) ((e.0, n) ∷ es) (e ∷ set es n.id n)) ≡ (if nat_le n.id e.1.id then n ∷ e.1 ∷ rest else e.1 ∷ with_node n rest)) [
      | Less ↦ λ is h. let first : nat_le n.id e.1.id ≡ true = rw named.0 (grind (arith, is)) in sym (ap (λ b. if b then n ∷ e.1 ∷ rest else e.1 ∷ with_node n rest) first)
      | Equal ↦ λ is h. cc
      | Greater ↦ λ is h.
          let behind : nat_le n.id e.1.id ≡ false = rw named.0 (grind (arith, is)) in
          ap (λ (t : List NodeMeta). e.1 ∷ t) (nodes_set n es named.1 h) ∙ sym (ap (λ b. if b then n ∷ e.1 ∷ rest else e.1 ∷ with_node n rest) behind)
    ] refl absent

at_other : (q : ℕ) (n : NodeMeta) (t : Numbered NodeMeta) → (n.id == q) ≡ false → at t q ≡ None → at (set t n.id n) q ≡ None
at_other q n [] other absent = let apart : is_at (nat_cmp q) n.id ≡ false = grind (arith, other) in ap (λ b. cond b (Some n) None) apart
at_other q n (e ∷ es) other absent =
    let apart : is_at (nat_cmp q) n.id ≡ false = grind (arith, other) in
    elim (nat_cmp n.id e.0) as (λ o. nat_cmp n.id e.0 ≡ o → at (match_ordering o ((n.id, n) ∷ e ∷ es) ((e.0, n) ∷ es) (e ∷ set es n.id n)) q ≡ None) [
      | Less ↦ λ is. ap (λ b. cond b (Some n) (at (e ∷ es) q)) apart ∙ absent
      | Equal ↦ λ is.
          let other_key : is_at (nat_cmp q) e.0 ≡ false = grind (arith, is, other) in
          ap (λ b. cond b (Some n) (at es q)) other_key ∙ sym (ap (λ b. cond b (Some e.1) (at es q)) other_key) ∙ absent
      | Greater ↦ λ is. elim (is_at (nat_cmp q) e.0) as (λ b. cond b (Some e.1) (at es q) ≡ None → cond b (Some e.1) (at (set es n.id n) q) ≡ None) [
        | true ↦ λ h. cc
        | false ↦ λ h. at_other q n es other h
      ] absent
    ] refl

-- ---- nodes put in the order of their ids

put_all : List NodeMeta → List NodeMeta → List NodeMeta
put_all xs [] = xs
put_all xs (n ∷ ns) = with_node n (put_all xs ns)

by_id_puts : (ns : List NodeMeta) → put_all [] ns ≡ by_id ns
unfolding put_all
by_id_puts [] = refl
by_id_puts (n ∷ ns) = ap (with_node n) (by_id_puts ns)

-- two nodes of different ids may change their turns
swap_first : (a b x : NodeMeta) (xs : List NodeMeta) → (a.id == b.id) ≡ false → with_node a (with_node b xs) ≡ with_node b (with_node a xs) → with_node a (with_node b (x ∷ xs)) ≡ with_node b (with_node a (x ∷ xs))
swap_first a b x xs apart rest = grind arith

swap : (a b : NodeMeta) (xs : List NodeMeta) → (a.id == b.id) ≡ false → with_node a (with_node b xs) ≡ with_node b (with_node a xs)
swap a b [] apart = grind arith
swap a b (x ∷ xs) apart = swap_first a b x xs apart (swap a b xs apart)

or_parts : (b c : Bool) → (b || c) ≡ false → (b ≡ false) × (c ≡ false)
or_parts true c h = absurd cc
or_parts false c h = (refl, h)

put_first : (n : NodeMeta) (xs ns : List NodeMeta) → has_id n.id ns ≡ false → put_all (with_node n xs) ns ≡ with_node n (put_all xs ns)
unfolding put_all
put_first n xs [] absent = refl
put_first n xs (m ∷ ns) absent =
    let parts = or_parts (m.id == n.id) (has_id n.id ns) absent in
    ap (with_node m) (put_first n xs ns parts.1) ∙ swap m n (put_all xs ns) parts.0

not_true : (b : Bool) → not b ≡ true → b ≡ false
not_true true h = cc
not_true false h = refl

joined_puts : (t : Numbered NodeMeta) (ns : List NodeMeta) → AllNamed t → ((q : ℕ) → has_id q ns ≡ true → at t q ≡ None) → ids_differ ns ≡ true → map (λ e. e.1) (joined t ns) ≡ put_all (map (λ e. e.1) t) ns
unfolding AllNamed put_all
joined_puts t [] named absent differ = refl
joined_puts t (n ∷ ns) named absent differ =
    let parts = and_parts (not (has_id n.id ns)) (ids_differ ns) differ in
    let alone : has_id n.id ns ≡ false = not_true (has_id n.id ns) parts.0 in
    let here : (n.id == n.id) ≡ true = grind arith in
    let none : at t n.id ≡ None = absent n.id (ap (λ b. b || has_id n.id ns) here) in
    let later : (q : ℕ) → has_id q ns ≡ true → at (set t n.id n) q ≡ None = λ q held.
    elim (n.id == q) as (λ b. (n.id == q) ≡ b → at (set t n.id n) q ≡ None) [
      | true ↦ λ same. let is : n.id ≡ q = grind (arith, same) in absurd (true≢false (sym held ∙ ap (λ q. has_id q ns) (sym is) ∙ alone))
      | false ↦ λ other. at_other q n t other (absent q (ap (λ b. b || has_id q ns) other ∙ held))
    ] refl in
    joined_puts (set t n.id n) ns (named_set n t named) later parts.1
    ∙ ap (λ (xs : List NodeMeta). put_all xs ns) (nodes_set n t named none)
    ∙ put_first n (map (λ e. e.1) t) ns alone

-- nodes whose ids differ, held under them, are the nodes in the order of their ids
pub joined_by_id : (ns : List NodeMeta) → ids_differ ns ≡ true → map (λ e. e.1) (joined [] ns) ≡ by_id ns
unfolding AllNamed
joined_by_id ns differ = joined_puts [] ns tt (λ q held. refl) differ ∙ by_id_puts ns
