-- Nodes that are changed.
use Rattle.std.proofs.Common.{◌≡◌, ℕ, ℤ, pos, Bool, true, false, not, cond, filter, map, List, [], ◌∷◌, Option, Some, None, is_some, refl, sym, ap, ◌∙◌, ◌++◌, append_assoc, subst}
use Rattle.std.specs.Prelude.{if◌then◌else◌, ◌||◌, Result, Ok, Err, option_map}
use Rattle.std.specs.List.{find, take_while}
use Rattle.std.specs.BTreeMap.{BTreeMap, IsOrdered, get, is_at}
use Rattle.std.specs.Map.{set_value}
use Rattle.std.specs.Ordering.{int_eq, nat_cmp}
use Rattle.den_model.specs.declared.reply.NodeMeta.{NodeMeta}
use Rattle.den_member.specs.Answers.{ChangeOutcome, Comes, MakesChange, done, refused}
use Rattle.den_member.specs.Changes.{promoted, promoted_all, promoted_one}
use Rattle.den_member.specs.Leading.{ready, readied, readied_one}
use Rattle.den_member.specs.Members.{Members, changed, is_id, is_listed}
use Rattle.den_member.specs.Numbered.{Numbered, at, is_held}
use Rattle.std.proofs.lemmas.List.Sums.{take_while-cons}
use Rattle.den_member.specs.declared.error.MemberError.{MemberError}
use Rattle.den_member.specs.declared.error.MemberError.TheVariants.{Membership, OutOfMemory}
use Rattle.den_member.specs.declared.error.MembershipError.{MembershipError}
use Rattle.den_member.specs.declared.error.MembershipError.TheVariants.{NoMetadataFoundForNode}
use Rattle.den_member.proofs.Nodes.{changed_held, changed_missing}

-- a node written in its place
pub written : (m : Members) (id : ℕ) (f : NodeMeta → NodeMeta) (node : NodeMeta) (old new : BTreeMap ℕ NodeMeta) (version : ℕ)
    → record { nodes = old.entries; version = version } ≡ m → IsOrdered nat_cmp old → get nat_cmp old id ≡ Some node
    → new.entries ≡ set_value (is_at (nat_cmp id)) old.entries (f node)
    → record { nodes = new.entries; version = version } ≡ changed (is_id id) f m
written m id f node old new version seen sorted held put =
    let is = put ∙ changed_held id f node old.entries sorted held in
    (λ i. record { nodes = is i; version = version }) ∙ ap (changed (is_id id) f) seen

-- ---- one after the other

-- the same nodes are held
pub held_changed : (passes : ℕ → Bool) (f : NodeMeta → NodeMeta) (t : Numbered NodeMeta) (id : ℕ) → is_held (map (λ e. if passes e.0 then (e.0, f e.1) else e) t) id ≡ is_held t id
held_changed passes f [] id = refl
held_changed passes f (e ∷ es) id =
    let rest = held_changed passes f es id in
    elim (passes e.0) as (λ b. is_some (cond (is_at (nat_cmp id) (if b then (e.0, f e.1) else e).0) (Some (if b then (e.0, f e.1) else e).1) (at (map (λ e. if passes e.0 then (e.0, f e.1) else e) es) id)) ≡ is_some (cond (is_at (nat_cmp id) e.0) (Some e.1) (at es id))) [
      | true ↦ elim (is_at (nat_cmp id) e.0) as (λ b. is_some (cond b (Some (f e.1)) (at (map (λ e. if passes e.0 then (e.0, f e.1) else e) es) id)) ≡ is_some (cond b (Some e.1) (at es id))) [ true ↦ refl | false ↦ rest ]
      | false ↦ elim (is_at (nat_cmp id) e.0) as (λ b. is_some (cond b (Some e.1) (at (map (λ e. if passes e.0 then (e.0, f e.1) else e) es) id)) ≡ is_some (cond b (Some e.1) (at es id))) [ true ↦ refl | false ↦ rest ]
    ]

-- an entry whose node is changed where the id passes
abbrev entry : (ℕ → Bool) → (NodeMeta → NodeMeta) → ℕ × NodeMeta → ℕ × NodeMeta
entry passes f e = if passes e.0 then (e.0, f e.1) else e

-- a change that is made once and again is made once
first_twice : (f : NodeMeta → NodeMeta) → ((n : NodeMeta) → f (f n) ≡ f n) → (b c : Bool) (e : ℕ × NodeMeta) → (ids : List ℕ) → is_listed ids e.0 ≡ c
    → entry (is_listed ids) f (if b then (e.0, f e.1) else e) ≡ (if b || is_listed ids e.0 then (e.0, f e.1) else e)
first_twice f once true true e ids is = ap (λ c. if c then (e.0, f (f e.1)) else (e.0, f e.1)) is ∙ (λ i. (e.0, once e.1 i))
first_twice f once true false e ids is = ap (λ c. if c then (e.0, f (f e.1)) else (e.0, f e.1)) is
first_twice f once false c e ids is = refl

twice : (f : NodeMeta → NodeMeta) → ((n : NodeMeta) → f (f n) ≡ f n) → (id : ℕ) (ids : List ℕ) (t : Numbered NodeMeta)
    → map (entry (is_listed ids) f) (map (entry (is_id id) f) t) ≡ map (entry (is_listed (id ∷ ids)) f) t
twice f once id ids [] = refl
twice f once id ids (e ∷ es) =
    let rest = twice f once id ids es in
    let first = first_twice f once (is_id id e.0) (is_listed ids e.0) e ids refl in
    λ i. first i ∷ rest i

pub changed_twice : (f : NodeMeta → NodeMeta) → ((n : NodeMeta) → f (f n) ≡ f n) → (id : ℕ) (ids : List ℕ) (m : Members)
    → changed (is_listed ids) f (changed (is_id id) f m) ≡ changed (is_listed (id ∷ ids)) f m
changed_twice f once id ids m = let is = twice f once id ids m.nodes in λ i. record m { nodes = is i }

-- no node is listed
none_listed : (f : NodeMeta → NodeMeta) (t : Numbered NodeMeta) → map (λ e. if is_listed [] e.0 then (e.0, f e.1) else e) t ≡ t
none_listed f [] = refl
none_listed f (e ∷ es) = ap (λ (t : Numbered NodeMeta). e ∷ t) (none_listed f es)

pub none_changed : (f : NodeMeta → NodeMeta) (m : Members) → changed (is_listed []) f m ≡ m
none_changed f m = let is = none_listed f m.nodes in λ i. record m { nodes = is i }

-- a node that is not held has nothing that changes
pub changed_absent : (m : Members) (id : ℕ) (f : NodeMeta → NodeMeta) → is_held m.nodes id ≡ false → changed (is_id id) f m ≡ m
changed_absent m id f absent =
    let none : at m.nodes id ≡ None = elim (at m.nodes id) as (λ o. is_some o ≡ false → o ≡ None) [ None ↦ (λ h. refl) | Some n ↦ (λ h. absurd cc) ] absent in
    let is = changed_missing id f m.nodes none in
    λ i. record m { nodes = is i }

-- ---- a batch of promotions

promote_first : (id : ℕ) (ids : List ℕ) (status : ℤ) (m : Members) → is_held m.nodes id ≡ true → promoted_all ids status (changed (is_id id) (promoted status) m) ≡ promoted_all (id ∷ ids) status m
promote_first id ids status m held =
    let f : NodeMeta → NodeMeta = promoted status in
    let p : ℕ → Bool = λ q. is_held m.nodes q in
    let next : Members = changed (is_id id) f m in
    let same : (q : ℕ) → is_held next.nodes q ≡ p q = held_changed (is_id id) f m.nodes in
    let front : take_while (λ q. is_held next.nodes q) ids ≡ take_while p ids = λ i. take_while (λ q. same q i) ids in
    let whole : take_while p (id ∷ ids) ≡ id ∷ take_while p ids = take_while-cons p id ids ∙ ap (λ b. cond b (id ∷ take_while p ids) []) held in
    let refusal : find (λ q. not (is_held next.nodes q)) ids ≡ find (λ q. not (p q)) (id ∷ ids) = (λ i. find (λ q. not (same q i)) ids) ∙ sym (ap (λ b. cond (not b) (Some id) (find (λ q. not (p q)) ids)) held) in
    let members : changed (is_listed (take_while (λ q. is_held next.nodes q) ids)) f next ≡ changed (is_listed (take_while p (id ∷ ids))) f m =
    ap (λ (listed : List ℕ). changed (is_listed listed) f next) front ∙ changed_twice f (λ n. refl) id (take_while p ids) m ∙ sym (ap (λ (listed : List ℕ). changed (is_listed listed) f m) whole) in
    λ i. record { refusal = option_map NoMetadataFoundForNode (refusal i); members = members i }

promote_stop : (id : ℕ) (ids : List ℕ) (status : ℤ) (m : Members) → is_held m.nodes id ≡ false → promoted_all (id ∷ ids) status m ≡ refused (NoMetadataFoundForNode id) m
promote_stop id ids status m absent =
    let f : NodeMeta → NodeMeta = promoted status in
    let p : ℕ → Bool = λ q. is_held m.nodes q in
    let whole : take_while p (id ∷ ids) ≡ [] = take_while-cons p id ids ∙ ap (λ b. cond b (id ∷ take_while p ids) []) absent in
    let refusal : find (λ q. not (p q)) (id ∷ ids) ≡ Some id = ap (λ b. cond (not b) (Some id) (find (λ q. not (p q)) ids)) absent in
    let members : changed (is_listed (take_while p (id ∷ ids))) f m ≡ m = ap (λ (listed : List ℕ). changed (is_listed listed) f m) whole ∙ none_changed f m in
    λ i. record { refusal = option_map NoMetadataFoundForNode (refusal i); members = members i }

-- one more is promoted
pub one_more : (id : ℕ) (ids : List ℕ) (status : ℤ) (m new : Members) (result : Result (Unit {0}) MemberError) → Comes result (promoted_one id status m) new → result ≡ Ok tt → promoted_all ids status new ≡ promoted_all (id ∷ ids) status m
one_more id ids status m new result comes ok =
    elim (is_held m.nodes id) as (λ b. is_held m.nodes id ≡ b → Comes result (if b then done (changed (is_id id) (promoted status) m) else refused (NoMetadataFoundForNode id) m) new → promoted_all ids status new ≡ promoted_all (id ∷ ids) status m) [
      | true ↦ λ held h. ap (promoted_all ids status) h.members ∙ promote_first id ids status m held
      | false ↦ λ absent h. let told_as : result ≡ Err (Membership (NoMetadataFoundForNode id)) = h.answer in absurd cc
    ] refl comes

-- or the batch stops
pub stopped : (id : ℕ) (ids : List ℕ) (status : ℤ) (m new : Members) (result : Result (Unit {0}) MemberError) (e : MemberError) → Comes result (promoted_one id status m) new → result ≡ Err e → Comes (Err e) (promoted_all (id ∷ ids) status m) new
stopped id ids status m new result e comes err =
    elim (is_held m.nodes id) as (λ b. is_held m.nodes id ≡ b → Comes result (if b then done (changed (is_id id) (promoted status) m) else refused (NoMetadataFoundForNode id) m) new → Comes (Err e) (promoted_all (id ∷ ids) status m) new) [
      | true ↦ λ held h. let told_as : result ≡ Ok tt = h.answer in absurd cc
      | false ↦ λ absent h. subst (λ o. Comes (Err e) o new) (sym (promote_stop id ids status m absent)) (record { answer = sym err ∙ h.answer; members = h.members })
    ] refl comes

pub all_promoted : (status : ℤ) (m : Members) (whole : ChangeOutcome) → promoted_all [] status m ≡ whole → Comes (Ok tt) whole m
all_promoted status m whole is = subst (λ o. Comes (Ok tt) o m) is (record { answer = refl; members = sym (none_changed (promoted status) m) })

-- ---- those that may be promoted

ready_once : (status : ℤ) (n : NodeMeta) → ready status (ready status n) ≡ ready status n
ready_once status n =
    elim (int_eq n.status (pos 0)) as (λ b. int_eq n.status (pos 0) ≡ b → ready status (if b then promoted status n else n) ≡ (if b then promoted status n else n)) [
      | true ↦ λ is. elim (int_eq status (pos 0)) as (λ b. (if b then promoted status n else promoted status n) ≡ promoted status n) [ true ↦ refl | false ↦ refl ]
      | false ↦ λ is. ap (λ b. if b then promoted status n else n) is
    ] refl

pub ready_first : (id : ℕ) (ids : List ℕ) (status : ℤ) (m : Members) → readied ids status (readied_one id status m) ≡ readied (id ∷ ids) status m
ready_first id ids status m =
    let whole = changed_twice (ready status) (ready_once status) id ids m in
    elim (is_held m.nodes id) as (λ b. is_held m.nodes id ≡ b → readied ids status (if b then done (changed (is_id id) (ready status) m) else refused (NoMetadataFoundForNode id) m).members ≡ readied (id ∷ ids) status m) [
      | true ↦ λ held. whole
      | false ↦ λ absent. sym (ap (readied ids status) (changed_absent m id (ready status) absent)) ∙ whole
    ] refl

-- ---- calls that take no memory

never : (o : Option MembershipError) → ◌≡◌ {A = Result (Unit {0}) MemberError} (elim o [ None ↦ Ok tt | Some cause ↦ Err (Membership cause) ]) (Err OutOfMemory) → ⊥
never None h = cc
never (Some cause) h = cc

pub makes_from : (result : Result (Unit {0}) MemberError) (old : Members) (o : ChangeOutcome) (new : Members) → Comes result o new → MakesChange result old o new
makes_from result old o new h = record {
  answered = λ memory. (h.answer, h.members);
  kept = λ refused. absurd (never o.refusal (sym h.answer ∙ refused));
}

-- ---- filters

pub all_pass : (t : Numbered NodeMeta) → filter (λ e. true) t ≡ t
all_pass [] = refl
all_pass (e ∷ es) = ap (λ (t : Numbered NodeMeta). e ∷ t) (all_pass es)

-- one more that passes
pub kept_next : (passes : ℕ × NodeMeta → Bool) (ids new : List ℕ) (e : ℕ × NodeMeta) (rest : Numbered NodeMeta) (all : List ℕ) → passes e ≡ true → new ≡ ids ++ e.0 ∷ []
    → ids ++ map (λ e. e.0) (filter passes (e ∷ rest)) ≡ all → new ++ map (λ e. e.0) (filter passes rest) ≡ all
kept_next passes ids new e rest all is put met =
    let left : List ℕ = map (λ e. e.0) (filter passes rest) in
    ap (λ (u : List ℕ). u ++ left) put ∙ append_assoc ids (e.0 ∷ []) left ∙ sym (ap (λ b. ids ++ map (λ (e : ℕ × NodeMeta). e.0) (cond b (e ∷ filter passes rest) (filter passes rest))) is) ∙ met
