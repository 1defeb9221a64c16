-- The words of whole requests: what is read is a word, and each word is read, a time to live of 0 seconds as none.
use Rattle.std.proofs.Common.{◌≡◌, ℕ, suc, ◌<◌, Bool, true, false, cond, eqb, List, [], ◌∷◌, ◌++◌, Option, Some, None, refl, sym, ap, subst, ◌∙◌, append_assoc, inl, inr, arith}
use Rattle.std.specs.Prelude.{◌↔◌, IfSome, IsSome, unwrap_or}
use Rattle.std.specs.Int.{w32}
use Rattle.std.proofs.lemmas.Bool.{eqb-true}
use Rattle.std.proofs.lemmas.List.{append-nil}
use Rattle.den_model.specs.declared.command.WriteOperation.{WriteOperation}
use Rattle.den_model.specs.declared.command.WriteOperation.TheVariants as operation
use Rattle.den_model.specs.declared.request.Request.{Request}
use Rattle.den_model.specs.declared.request.Request.TheVariants as request
use Rattle.den_model.specs.declared.request.ReadConsistencyPolicy.{ReadConsistencyPolicy}
use Rattle.den_model.specs.declared.request.ReadConsistencyPolicy.TheVariants.{LinearizableRead, LeaseRead, EventualConsistency}
use Rattle.den_model.specs.Spelling.{u32_word, u64_word, blob_word, option_word, truth_word, list_word, policy_number, operation_word, request_word}
use Rattle.den_model.specs.Words.{IsBytes, FitsU32, FitsU64, FitsBlob, FitsSwap, FitsOperation, FitsRequest, IsRequestWord, operation_as_read, as_read}
use Rattle.den_model.specs.Reading.{Reader, then_read, done, no_word, ended, whole, number_at, policy_named, ttl_of, delete_asked_at, swap_asked_at, operation_at, write_at, read_at, scan_at, watch_at, request_at}
use Rattle.den_model.proofs.Spells.{Spells, itself, some_is, no_none, then_some, chosen, ended_some, IsBytes-behind, spells_done, spells_then, spells_as, spells_u32, spells_blob, spells_truth, spells_option}
use Rattle.den_model.proofs.LogSpells.{Known}
use Rattle.den_model.proofs.RequestSpells.{read_meant, spells_read, spells_insert_asked}
use Rattle.den_model.proofs.Tagged.{behind_none, behind_done, behind_spelled, behind_or}

-- ---- times to live

ttl_cases : (n : ℕ) (b : Bool) → eqb n 0 ≡ b → unwrap_or (cond b None (Some n)) 0 ≡ n
ttl_cases n true e = sym (eqb-true n 0 e)
ttl_cases n false e = refl

ttl_again : (n : ℕ) → unwrap_or (ttl_of n) 0 ≡ n
ttl_again n = ttl_cases n (eqb n 0) refl

fits_cases : (n : ℕ) (b : Bool) → FitsU64 n → IfSome (cond b None (Some n)) FitsU64
fits_cases n true h = tt
fits_cases n false h = h

ttl_fits : (n : ℕ) → FitsU64 n → IfSome (ttl_of n) FitsU64
ttl_fits n h = fits_cases n (eqb n 0) h

ttl_small : (ttl : Option ℕ) → IfSome ttl FitsU64 → FitsU64 (unwrap_or ttl 0)
ttl_small None h = omega arith
ttl_small (Some n) h = h

-- ---- operations

spells_delete_asked : Spells (λ key. Some (operation.Delete key)) FitsBlob blob_word delete_asked_at
unfolding delete_asked_at
spells_delete_asked =
    spells_as (spells_then spells_blob {known = Known} (λ key. key) (λ key _. spells_done key (λ x h. h.1) (tt, refl)))
    (λ p h. ((h, tt), tt)) (λ p h. h.0.0) (λ p. sym (append-nil (blob_word p)))

abbrev swap_meant : List ℕ × Option (List ℕ) × List ℕ → Option WriteOperation
swap_meant p = Some (operation.CompareAndSwap p.0 p.1 p.2)

spells_swap_asked : Spells swap_meant FitsSwap (λ p. blob_word p.0 ++ option_word blob_word p.1 ++ blob_word p.2) swap_asked_at
unfolding swap_asked_at
spells_swap_asked =
    spells_as (spells_then spells_blob {known = Known} (λ (p : List ℕ × Option (List ℕ) × List ℕ). p.0) (λ key _. spells_then (spells_option spells_blob) (λ p. p.1) (λ expected _. spells_then spells_blob (λ p. p.2) (λ value _.
    spells_done (key, expected, value) (λ x h i. (h.0.0.1 i, h.0.1 i, h.1 i)) (((tt, refl), refl), refl)))))
    (λ p h. ((h.0, (h.1, (h.2, tt))), tt)) (λ p h. (h.0.0, h.0.1.0, h.0.1.1.0)) (λ p. simp (append_assoc, append-nil) refl)

operation_again : (o : Option WriteOperation) (rest : List ℕ) → FitsOperation o → operation_at (operation_word o ++ rest) ≡ Some (operation_as_read o, rest)
unfolding operation_at
operation_again None rest h = refl
operation_again (Some (operation.Insert key value ttl_secs)) rest h = spells_insert_asked.again (key, value, unwrap_or ttl_secs 0) rest (h.0, h.1, ttl_small ttl_secs h.2)
operation_again (Some (operation.Delete key)) rest h = spells_delete_asked.again key rest h
operation_again (Some (operation.CompareAndSwap key expected new_value)) rest h = spells_swap_asked.again (key, expected, new_value) rest h

-- it fits, and is read as it is
abbrev IsPlain : Option WriteOperation → Type 0
IsPlain o = FitsOperation o × (operation_as_read o ≡ o)

operation_found : (bytes : List ℕ) (y : Option WriteOperation) (rest : List ℕ) → IsBytes bytes → operation_at bytes ≡ Some (y, rest) → (o : Option WriteOperation) × (y ≡ o) × (bytes ≡ operation_word o ++ rest) × IsPlain o
unfolding operation_at
operation_found [] y rest h e = absurd (no_none (y, rest) e)
operation_found (tag ∷ bytes) y rest h e =
    let b = behind_or {fits = IsPlain} {word = operation_word} tag 0 (behind_done 0 None (tt, refl) (λ rest. refl))
    (behind_or tag 1 (behind_spelled 1 spells_insert_asked
    (λ x f. ((f.0, f.1, ttl_fits x.2 f.2), ap (λ (n : ℕ). Some (operation.Insert x.0 x.1 (ttl_of n))) (ttl_again x.2)))
    (λ x. ap (λ (n : ℕ). 1 ∷ (blob_word x.0 ++ blob_word x.1 ++ u64_word n)) (ttl_again x.2)))
    (behind_or tag 2 (behind_spelled 2 spells_delete_asked (λ x f. (f, refl)) (λ x. refl))
    (behind_or tag 3 (behind_spelled 3 spells_swap_asked (λ x f. (f, refl)) (λ x. refl)) (behind_none tag)))) in
    let t = b.found bytes y rest (λ i. h (suc i)) e in
    (y, refl, t.0, t.1)

spells_operation : Spells itself IsPlain operation_word operation_at
spells_operation = record {
  again = λ o rest h. operation_again o rest h.0 ∙ ap (λ (v : Option WriteOperation). Some (v, rest)) h.1;
  found = operation_found;
}

-- ---- requests of a client

abbrev written_by : ℕ → Option WriteOperation → Request
written_by client o = request.Write (record { client_id = client; command = o })

spells_write : (client : ℕ) → Spells (written_by client) IsPlain operation_word (write_at client)
unfolding write_at
spells_write client =
    spells_as (spells_then spells_operation {known = Known} (λ o. o) (λ o _. spells_done o (λ x h. h.1) (tt, refl)))
    (λ o h. ((h, tt), tt)) (λ o h. h.0.0) (λ o. sym (append-nil (operation_word o)))

spells_scan : (client : ℕ) → Spells (request.Scan client) FitsBlob blob_word (scan_at client)
unfolding scan_at
spells_scan client =
    spells_as (spells_then spells_blob {known = Known} (λ p. p) (λ p _. spells_done p (λ x h. h.1) (tt, refl)))
    (λ p h. ((h, tt), tt)) (λ p h. h.0.0) (λ p. sym (append-nil (blob_word p)))

abbrev watched_by : ℕ → Bool × Bool × List ℕ → Request
watched_by client p = request.Watch client p.0 p.1 p.2

spells_watch : (client : ℕ) → Spells (watched_by client) (λ p. FitsBlob p.2) (λ p. truth_word p.0 ++ truth_word p.1 ++ blob_word p.2) (watch_at client)
unfolding watch_at
spells_watch client =
    spells_as (spells_then spells_truth {known = Known} (λ (p : Bool × Bool × List ℕ). p.0) (λ prefix _. spells_then spells_truth (λ p. p.1) (λ prev _. spells_then spells_blob (λ p. p.2) (λ key _.
    spells_done (prefix, prev, key) (λ x h i. (h.0.0.1 i, h.0.1 i, h.1 i)) (((tt, refl), refl), refl)))))
    (λ p h. ((tt, (tt, (h, tt))), tt)) (λ p h. h.0.1.1.0) (λ p. simp (append_assoc, append-nil) refl)

-- what stands behind the tag and the client
abbrev dispatch : ℕ → ℕ → Reader Request
dispatch tag client =
    cond (eqb tag 1) (write_at client) (cond (eqb tag 2) (read_at client) (cond (eqb tag 3) (scan_at client) (cond (eqb tag 4) (watch_at client) (cond (eqb tag 5) (done (request.Members client)) no_word))))

-- what is read behind the tag and the client is a request, of which these are a word
record Asks (client tag : ℕ) (at : Reader Request) : Type 0 where
  found : (bytes : List ℕ) (y : Request) (rest : List ℕ) → IsBytes bytes → at bytes ≡ Some (y, rest)
      → (front : List ℕ) × (bytes ≡ front ++ rest) × IsRequestWord (tag ∷ u32_word client ++ front) y × (as_read y ≡ y)

asks_none : (client tag : ℕ) → Asks client tag no_word
asks_none client tag = record { found = λ bytes y rest h e. absurd (no_none (y, rest) e) }

asks_members : (client tag : ℕ) → FitsU32 client → Asks client 5 (done (request.Members client))
asks_members client tag small = record {
  found = λ bytes y rest h e.
      let q = some_is (request.Members client, bytes) (y, rest) e in
      let same : request.Members client ≡ y = ap (λ (p : Request × List ℕ). p.0) q in
      let is : IsRequestWord (5 ∷ u32_word client ++ []) (request.Members client) = (append-nil (5 ∷ u32_word client), small) in
      ([], ap (λ (p : Request × List ℕ). p.1) q, subst (IsRequestWord (5 ∷ u32_word client ++ [])) same is, ap as_read (sym same) ∙ same);
}

asks_spelled : {A : Type 0} {con : A → Request} {fits : A → Type 0} {word : A → List ℕ} {at : Reader Request} (client tag : ℕ) → Spells con fits word at
    → ((x : A) → fits x → IsRequestWord (tag ∷ u32_word client ++ word x) (con x)) → ((x : A) → fits x → as_read (con x) ≡ con x) → Asks client tag at
asks_spelled {A} {con} {fits} {word} client tag s is back = record {
  found = λ bytes y rest h e.
      let t = s.found bytes y rest h e in
      (word t.0, t.2, subst (IsRequestWord (tag ∷ u32_word client ++ word t.0)) (sym t.1) (is t.0 t.3), ap as_read t.1 ∙ back t.0 t.3 ∙ sym t.1);
}

asks_or : {one other : Reader Request} (client tag n : ℕ) → Asks client n one → Asks client tag other → Asks client tag (cond (eqb tag n) one other)
asks_or {one} {other} client tag n first second = record {
  found = λ bytes y rest h e.
      elim (chosen (eqb tag n) one other bytes (Some (y, rest)) e) [
        | inl p ↦
            let t = first.found bytes y rest h p.1 in
            (t.0, t.1, subst (λ (k : ℕ). IsRequestWord (k ∷ u32_word client ++ t.0) y) (sym (eqb-true tag n p.0)) t.2, t.3)
        | inr p ↦ second.found bytes y rest h p.1
      ];
}

asks : (client tag : ℕ) → FitsU32 client → Asks client tag (dispatch tag client)
asks client tag small =
    asks_or client tag 1 (asks_spelled client 1 (spells_write client) (λ o h. (refl, (small, h.0))) (λ o h. ap (written_by client) h.1))
    (asks_or client tag 2 (asks_spelled client 2 (spells_read client) (λ p h. (p.0, h.0, refl, sym (append_assoc (2 ∷ u32_word client) (p.0 ∷ []) (list_word blob_word p.1)), (small, h.1))) (λ p h. refl))
    (asks_or client tag 3 (asks_spelled client 3 (spells_scan client) (λ p h. (refl, (small, h))) (λ p h. refl))
    (asks_or client tag 4 (asks_spelled client 4 (spells_watch client) (λ p h. (simp append_assoc refl, (small, h))) (λ p h. refl))
    (asks_or client tag 5 (asks_members client 5 small) (asks_none client tag)))))

-- ---- whole requests

pub request_found : (bytes : List ℕ) (x : Request) → IsBytes bytes → whole request_at bytes ≡ Some x → IsRequestWord bytes x × (as_read x ≡ x)
unfolding request_at
request_found [] x h e = absurd (no_none x e)
request_found (tag ∷ bytes) x h e =
    let s = then_some (number_at w32 bytes) (dispatch tag) (x, []) (ended_some (request_at (tag ∷ bytes)) x e) in
    let client = s.0.0 in
    let behind = s.0.1 in
    let all : IsBytes bytes = λ i. h (suc i) in
    let t = spells_u32.found bytes client behind all s.1 in
    let small : FitsU32 client = subst FitsU32 (sym t.1) t.3 in
    let front : bytes ≡ u32_word client ++ behind = t.2 ∙ ap (λ (n : ℕ). u32_word n ++ behind) (sym t.1) in
    let a = (asks client tag small).found behind x [] (IsBytes-behind (u32_word client) behind (subst IsBytes front all)) s.2 in
    let is : tag ∷ bytes ≡ tag ∷ u32_word client ++ a.0 = ap (λ (bs : List ℕ). tag ∷ bs) (front ∙ ap (λ (bs : List ℕ). u32_word client ++ bs) (a.1 ∙ append-nil a.0)) in
    (subst (λ (bs : List ℕ). IsRequestWord bs x) (sym is) a.2, a.3)

front_again : (tag client : ℕ) (behind : List ℕ) → FitsU32 client → request_at (tag ∷ u32_word client ++ behind) ≡ dispatch tag client behind
unfolding request_at
front_again tag client behind small = ap (then_read (dispatch tag)) (spells_u32.again client behind small)

spelled_again : {A : Type 0} {con : A → Request} {fits : A → Type 0} {word : A → List ℕ} {at : Reader Request} → Spells con fits word at → (x : A) → fits x → at (word x) ≡ Some (con x, [])
spelled_again {A} {con} {fits} {word} {at} s x h = ap at (sym (append-nil (word x))) ∙ s.again x [] h

write_again : (client : ℕ) (o : Option WriteOperation) → FitsOperation o → write_at client (operation_word o) ≡ Some (written_by client (operation_as_read o), [])
unfolding write_at
write_again client o h =
    ap (then_read (λ v. done (written_by client v))) (ap operation_at (sym (append-nil (operation_word o))) ∙ operation_again o [] h)

-- a word behind its tag and its client
at_front : (tag client : ℕ) (bytes behind : List ℕ) (y : Request) → FitsU32 client → bytes ≡ tag ∷ u32_word client ++ behind → dispatch tag client behind ≡ Some (y, []) → whole request_at bytes ≡ Some y
at_front tag client bytes behind y small is read =
    ap ended (ap request_at is ∙ front_again tag client behind small ∙ read)

pub request_again : (bytes : List ℕ) (y : Request) → IsRequestWord bytes y → whole request_at bytes ≡ Some (as_read y)
request_again bytes (request.Write w) h = at_front 1 w.client_id bytes (operation_word w.command) _ h.1.0 h.0 (write_again w.client_id w.command h.1.1)
request_again bytes (request.Read r) h =
    let policy = h.0 in
    let behind = policy ∷ [] ++ list_word blob_word r.keys in
    let is : bytes ≡ 2 ∷ u32_word r.client_id ++ behind = h.3 ∙ append_assoc (2 ∷ u32_word r.client_id) (policy ∷ []) (list_word blob_word r.keys) in
    let read : read_at r.client_id behind ≡ Some (read_meant r.client_id (policy, r.keys), []) = spelled_again (spells_read r.client_id) (policy, r.keys) (h.1, h.4.1) in
    at_front 2 r.client_id bytes behind (request.Read r) h.4.0 is (read ∙ ap (λ (p : Option ReadConsistencyPolicy). Some (request.Read (record { client_id = r.client_id; keys = r.keys; consistency_policy = p }), [])) h.2)
request_again bytes (request.Scan client_id prefix) h = at_front 3 client_id bytes (blob_word prefix) _ h.1.0 h.0 (spelled_again (spells_scan client_id) prefix h.1.1)
request_again bytes (request.Watch client_id prefix prev_kv key) h =
    let behind = truth_word prefix ++ truth_word prev_kv ++ blob_word key in
    let is : bytes ≡ 4 ∷ u32_word client_id ++ behind = h.0 ∙ simp append_assoc refl in
    at_front 4 client_id bytes behind _ h.1.0 is (spelled_again (spells_watch client_id) (prefix, prev_kv, key) h.1.1)
request_again bytes (request.Members client_id) h = at_front 5 client_id bytes [] _ h.1 (h.0 ∙ sym (append-nil (5 ∷ u32_word client_id))) refl

pub request_read : (bytes : List ℕ) (y : Request) → IsRequestWord bytes y → IsSome (whole request_at bytes)
request_read bytes y h = rw (request_again bytes y h) refl

policy_again : (p : Option ReadConsistencyPolicy) → (policy_number p < 256) × (policy_named (policy_number p) ≡ p)
policy_again None = (omega arith, refl)
policy_again (Some LinearizableRead) = (omega arith, refl)
policy_again (Some LeaseRead) = (omega arith, refl)
policy_again (Some EventualConsistency) = (omega arith, refl)

pub request_iff : (bytes : List ℕ) (x : Request) → IsBytes bytes → (whole request_at bytes ≡ Some x) ↔ ((y : Request) × IsRequestWord bytes y × (as_read y ≡ x))
request_iff bytes x h =
    (λ e. let t = request_found bytes x h e in (x, t.0, t.1), λ t. request_again bytes t.0 t.1 ∙ ap (λ (y : Request). Some y) t.2)

-- what is written is a word
pub request_written : (x : Request) → FitsRequest x → IsRequestWord (request_word x) x
request_written (request.Write w) h = (refl, h)
request_written (request.Read r) h = let p = policy_again r.consistency_policy in (policy_number r.consistency_policy, p.0, p.1, refl, h)
request_written (request.Scan client_id prefix) h = (refl, h)
request_written (request.Watch client_id prefix prev_kv key) h = (refl, h)
request_written (request.Members client_id) h = (refl, h)
