-- What a read of keys finds at each of them.
use Rattle.std.proofs.Common.{◌≡◌, ℕ, Bool, true, false, List, [], ◌∷◌, ◌++◌, filter_map, map, nat_eq, Option, Some, None, option_map, if◌then◌else◌, ◌||◌, append_assoc, refl, ap, ◌∙◌, subst}
use Rattle.std.specs.Cmp.Lexicographic.{pointwise, bytes_decides}
use Rattle.std.specs.List.{cons_option, list_any}
use Rattle.den_model.specs.declared.reply.KvEntry.{KvEntry}
use Rattle.den_model.specs.Apply.{value_at}
use Rattle.den_model.specs.Kv.{Durable}
use Rattle.den_model.specs.Step.{held_pair}
use Rattle.den_client.specs.Mapped.{pair_at, value_in}
use Rattle.den_client.specs.Laws.{ReadsGiveValues}

-- whether a key is among those
abbrev is_asked : List ℕ → List (List ℕ) → Bool
is_asked key keys = list_any (λ k. pointwise nat_eq k key) keys

-- a value with its key
abbrev pair_of : List ℕ → Option (List ℕ) → Option KvEntry
pair_of key value = option_map (λ (v : List ℕ). record { key = key; value = v }) value

-- what is found of one pair and others
first_pair : (k key : List ℕ) (value : Option (List ℕ)) (entries : List KvEntry) (same : Bool) (held : Option KvEntry) (among : Bool)
    → pointwise nat_eq k key ≡ same → (same ≡ true → pair_of k value ≡ held)
    → pair_at entries key ≡ (if among then held else None)
    → pair_at (cons_option (pair_of k value) entries) key ≡ (if same || among then held else None)
first_pair k key None entries true None true is equal rest = rest
first_pair k key None entries true None false is equal rest = rest
first_pair k key None entries true (Some h) among is equal rest = let bad : (let r : Option KvEntry = None in r) ≡ Some h = equal refl in cc
first_pair k key None entries false held among is equal rest = rest
first_pair k key (Some v) entries true held among is equal rest = rw is (equal refl)
first_pair k key (Some v) entries false held among is equal rest = rw is rest

found : (d : Durable) (key : List ℕ) (keys : List (List ℕ)) → pair_at (filter_map (held_pair d) keys) key ≡ (if is_asked key keys then held_pair d key else None)
found d key [] = refl
found d key (k ∷ ks) = first_pair k key (value_at d k) (filter_map (held_pair d) ks) (pointwise nat_eq k key) (held_pair d key) (is_asked key ks) refl
    (λ same. ap (λ (x : List ℕ). held_pair d x) ((bytes_decides k key).0 same)) (found d key ks)

-- a key's value, of its pair
value_of_pair : (key : List ℕ) (value : Option (List ℕ)) → option_map (λ (e : KvEntry). e.value) (pair_of key value) ≡ value
value_of_pair key None = refl
value_of_pair key (Some v) = refl

value_found : (d : Durable) (key : List ℕ) (keys : List (List ℕ)) → is_asked key keys ≡ true → value_in (filter_map (held_pair d) keys) key ≡ value_at d key
value_found d key keys is =
    ap (λ (p : Option KvEntry). option_map (λ (e : KvEntry). e.value) p) (found d key keys ∙ ap (λ (b : Bool). if b then held_pair d key else None) is)
    ∙ value_of_pair key (value_at d key)

-- a key is among those that it stands behind some of
asked_behind : (before : List (List ℕ)) (key : List ℕ) (rest : List (List ℕ)) → is_asked key (before ++ key ∷ rest) ≡ true
asked_behind [] key rest = rw ((bytes_decides key key).1 refl) refl
asked_behind (x ∷ xs) key rest = either (pointwise nat_eq x key) _ (asked_behind xs key rest)
  where
    either : (a b : Bool) → b ≡ true → (a || b) ≡ true
    either true b is = refl
    either false b is = is

values_behind : (d : Durable) (before keys : List (List ℕ)) → map (value_in (filter_map (held_pair d) (before ++ keys))) keys ≡ map (value_at d) keys
values_behind d before [] = refl
values_behind d before (key ∷ rest) =
    let head = value_found d key (before ++ key ∷ rest) (asked_behind before key rest) in
    let moved : (before ++ key ∷ []) ++ rest ≡ before ++ key ∷ rest = append_assoc before (key ∷ []) rest in
    let tail = subst (λ (l : List (List ℕ)). map (value_in (filter_map (held_pair d) l)) rest ≡ map (value_at d) rest) moved (values_behind d (before ++ key ∷ []) rest) in
    ap (λ (v : Option (List ℕ)). v ∷ map (value_in (filter_map (held_pair d) (before ++ key ∷ rest))) rest) head ∙ ap (λ (vs : List (Option (List ℕ))). value_at d key ∷ vs) tail

pub reads_give_values : ReadsGiveValues
reads_give_values d keys = values_behind d [] keys
