-- The words of replies and events: what is written is read again, and what is read was written so.
use Rattle.std.proofs.Common.{◌≡◌, ℕ, zero, suc, ◌+◌, ◌<◌, ◌^◌, Bool, ℤ, List, [], ◌∷◌, ◌++◌, Option, Some, None, refl, sym, ap, subst, ◌∙◌, append_assoc, arith}
use Rattle.std.specs.Prelude.{IfSome}
use Rattle.std.specs.Int.{w32, cast_unsigned, cast_signed}
use Rattle.std.specs.List.{slice_get}
use Rattle.std.specs.Str.{is_utf8}
use Rattle.std.proofs.lemmas.Int.{to_z-of_z, of_z-to_z}
use Rattle.std.proofs.lemmas.Str.{IsUtf8-from_is_utf8, is_utf8-from_IsUtf8}
use Rattle.std.proofs.lemmas.List.{append-nil}
use Rattle.std.proofs.Math.Facts.{sfits_to_z}
use mir.ValLaws as laws
use Rattle.den_model.specs.declared.reply.Reply.{Reply}
use Rattle.den_model.specs.declared.reply.Reply.TheVariants as reply
use Rattle.den_model.specs.declared.reply.ErrorCode.{ErrorCode}
use Rattle.den_model.specs.declared.reply.ErrorCode.TheVariants as code
use Rattle.den_model.specs.declared.reply.Refusal.{Refusal}
use Rattle.den_model.specs.declared.reply.Refusal.TheVariants as refusal
use Rattle.den_model.specs.declared.reply.LeaderHint.{LeaderHint}
use Rattle.den_model.specs.declared.reply.NodeMeta.{NodeMeta}
use Rattle.den_model.specs.declared.reply.KvEntry.{KvEntry}
use Rattle.den_model.specs.declared.reply.ClientResponse.{ClientResponse}
use Rattle.den_model.specs.declared.reply.ClientResponsePayload.{ClientResponsePayload}
use Rattle.den_model.specs.declared.reply.ClientResponsePayload.TheVariants as payload
use Rattle.den_model.specs.declared.reply.ScanResult.{ScanResult}
use Rattle.den_model.specs.declared.reply.ClusterMembership.{ClusterMembership}
use Rattle.den_model.specs.declared.reply.WatchEvent.{WatchEvent}
use Rattle.den_model.specs.declared.reply.WatchEventType.{WatchEventType}
use Rattle.den_model.specs.declared.reply.WatchEventType.TheVariants as event
use Rattle.den_model.specs.Spelling.{u32_word, u64_word, i32_word, blob_word, option_word, truth_word, list_word, code_number, refusal_number, event_number, kv_word, hint_word, node_word, payload_word, reply_word, event_word}
use Rattle.den_model.specs.Words.{IsBytes, FitsU64, FitsI32, FitsText, FitsList, FitsKv, FitsHint, FitsNode, FitsPayload, FitsReply, FitsEvent}
use Rattle.den_model.specs.Reading.{then_read, done, number_at}
use Rattle.den_model.specs.ReplyReading.{text_at, i32_at, all_codes, done_some, code_at, refusal_at, kv_at, hint_at, node_at, written_at, found_at, payload_at, response_at, scanned_at, watching_at, members_at, refused_at, reply_at, kind_at, event_behind, event_at}
use Rattle.den_model.proofs.Spells.{Spells, itself, some_is, no_none, then_some, spells_done, spells_done_if, spells_then, spells_as, spells_u32, spells_u64, spells_blob, spells_truth, spells_option, spells_list}
use Rattle.den_model.proofs.LogSpells.{Known}
use Rattle.den_model.proofs.Tagged.{behind_none, behind_done, behind_spelled, behind_or}

-- ---- texts, signed numbers, codes

pub spells_text : Spells itself FitsText blob_word text_at
unfolding text_at
spells_text =
    spells_as (spells_then spells_blob {known = Known} (λ (t : List ℕ). t) (λ t _. spells_done_if is_utf8 t (λ x h. h.1) (tt, refl)))
    (λ t h. ((h.0, is_utf8-from_IsUtf8 t h.1), tt)) (λ t h. (h.0.0, IsUtf8-from_is_utf8 t h.0.1)) (λ t. sym (append-nil (blob_word t)))

pub spells_i32 : Spells itself FitsI32 i32_word i32_at
unfolding i32_at i32_word
spells_i32 = record {
  again = λ z rest h.
      ap (then_read (λ n. done (cast_signed w32 n))) (spells_u32.again (cast_unsigned w32 z) rest (laws.of_z_fits w32 z h).fits)
      ∙ ap (λ (v : ℤ). Some (v, rest)) (to_z-of_z w32 z h);
  found = λ bytes y rest h e.
      let s = then_some (number_at w32 bytes) (λ n. done (cast_signed w32 n)) (y, rest) e in
      let n = s.0.0 in
      let t = spells_u32.found bytes n s.0.1 h s.1 in
      let small : n < 2 ^ 32 = subst (λ (k : ℕ). k < 2 ^ 32) (sym t.1) t.3 in
      let q = some_is (cast_signed w32 n, s.0.1) (y, rest) s.2 in
      let z : cast_signed w32 n ≡ y = ap (λ (p : ℤ × List ℕ). p.0) q in
      let back : u32_word n ≡ i32_word y = ap u32_word (sym (of_z-to_z w32 n small) ∙ ap (cast_unsigned w32) z) in
      let whole : bytes ≡ i32_word y ++ rest =
      t.2 ∙ ap (λ (k : ℕ). u32_word k ++ s.0.1) (sym t.1) ∙ ap (λ (w : List ℕ). w ++ s.0.1) back ∙ ap (λ (p : ℤ × List ℕ). i32_word y ++ p.1) q in
      (y, refl, whole, subst FitsI32 z (sfits_to_z (record { fits = small })));
}

-- each code has the number of its place
abbrev Numbered : ℕ → List ErrorCode → Type 0
Numbered i [] = Unit {0}
Numbered i (c ∷ cs) = (code_number c ≡ i) × Numbered (suc i) cs

numbered_at : (i : ℕ) (cs : List ErrorCode) (n : ℕ) (c : ErrorCode) → Numbered i cs → slice_get cs n ≡ Some c → code_number c ≡ i + n
numbered_at i [] n c h e = absurd (no_none c e)
numbered_at i (x ∷ cs) zero c h e = ap code_number (sym (some_is x c e)) ∙ h.0 ∙ omega arith
numbered_at i (x ∷ cs) (suc n) c h e = numbered_at (suc i) cs n c h.1 e ∙ omega arith

codes_numbered : Numbered 0 all_codes
codes_numbered =
    (refl, (refl, (refl, (refl, (refl, (refl, (refl, (refl, (refl, (refl, (refl, (refl, (refl, (refl, (refl, (refl, (refl, (refl, (refl, (refl, (refl, (refl, (refl, tt)))))))))))))))))))))))

code_again : (c : ErrorCode) → slice_get all_codes (code_number c) ≡ Some c
code_again code.Success = refl
code_again code.ConnectionTimeout = refl
code_again code.InvalidAddress = refl
code_again code.LeaderChanged = refl
code_again code.JoinError = refl
code_again code.InvalidResponse = refl
code_again code.VersionMismatch = refl
code_again code.DiskFull = refl
code_again code.DataCorruption = refl
code_again code.StorageIoError = refl
code_again code.StoragePermissionDenied = refl
code_again code.KeyNotExist = refl
code_again code.NotLeader = refl
code_again code.StaleOperation = refl
code_again code.InvalidRequest = refl
code_again code.RateLimited = refl
code_again code.ClusterUnavailable = refl
code_again code.ProposeFailed = refl
code_again code.TermOutdated = refl
code_again code.RetryRequired = refl
code_again code.WatchBufferOverflow = refl
code_again code.General = refl
code_again code.Uncategorized = refl

done_some_is : {A : Type 0} (o : Option A) (bytes : List ℕ) (y : A) (rest : List ℕ) → done_some o bytes ≡ Some (y, rest) → (o ≡ Some y) × (bytes ≡ rest)
done_some_is None bytes y rest e = absurd (no_none (y, rest) e)
done_some_is {A} (Some x) bytes y rest e =
    let q = some_is (x, bytes) (y, rest) e in
    (ap (λ (p : A × List ℕ). Some p.0) q, ap (λ (p : A × List ℕ). p.1) q)

abbrev code_word : ErrorCode → List ℕ
code_word c = code_number c ∷ []

spells_code : Spells itself Known code_word code_at
unfolding code_at
spells_code = record { again = λ c rest h. ap (λ (o : Option ErrorCode). done_some o rest) (code_again c); found = code_found }
  where
    code_found : (bytes : List ℕ) (y : ErrorCode) (rest : List ℕ) → IsBytes bytes → code_at bytes ≡ Some (y, rest) → (c : ErrorCode) × (y ≡ c) × (bytes ≡ code_word c ++ rest) × Unit {0}
    code_found [] y rest h e = absurd (no_none (y, rest) e)
    code_found (b ∷ bytes) y rest h e =
        let t = done_some_is (slice_get all_codes b) bytes y rest e in
        let same : b ≡ code_number y = omega (arith, numbered_at 0 all_codes b y codes_numbered t.0) in
        (y, refl, (λ i. same i ∷ t.1 i), tt)

abbrev refusal_word : Refusal → List ℕ
refusal_word r = refusal_number r ∷ []

spells_refusal : Spells itself Known refusal_word refusal_at
unfolding refusal_at
spells_refusal = record { again = refusal_again; found = refusal_found }
  where
    refusal_again : (r : Refusal) (rest : List ℕ) → Known r → refusal_at (refusal_word r ++ rest) ≡ Some (r, rest)
    refusal_again refusal.InvalidPrefix rest h = refl
    refusal_again refusal.LimitExceeded rest h = refl
    refusal_again refusal.FeatureNotEnabled rest h = refl

    refusal_found : (bytes : List ℕ) (y : Refusal) (rest : List ℕ) → IsBytes bytes → refusal_at bytes ≡ Some (y, rest) → (r : Refusal) × (y ≡ r) × (bytes ≡ refusal_word r ++ rest) × Known r
    refusal_found [] y rest h e = absurd (no_none (y, rest) e)
    refusal_found (tag ∷ bytes) y rest h e =
        let b = behind_or {fits = Known} {word = refusal_word} tag 1 (behind_done 1 refusal.InvalidPrefix tt (λ rest. refl))
        (behind_or tag 2 (behind_done 2 refusal.LimitExceeded tt (λ rest. refl))
        (behind_or tag 3 (behind_done 3 refusal.FeatureNotEnabled tt (λ rest. refl)) (behind_none tag))) in
        let t = b.found bytes y rest (λ i. h (suc i)) e in
        (y, refl, t.0, t.1)

-- ---- pairs, hints, nodes

pub spells_kv : Spells itself FitsKv kv_word kv_at
unfolding kv_at
spells_kv =
    spells_as (spells_then spells_blob {known = Known} (λ (p : KvEntry). p.key) (λ key _. spells_then spells_blob (λ p. p.value) (λ value _.
    spells_done (record { key = key; value = value }) (λ x h i. record { key = h.0.1 i; value = h.1 i }) ((tt, refl), refl))))
    (λ p h. ((h.0, (h.1, tt)), tt)) (λ p h. (h.0.0, h.0.1.0)) (λ p. simp append-nil refl)

pub spells_hint : Spells itself FitsHint hint_word hint_at
unfolding hint_at
spells_hint =
    spells_as (spells_then spells_u32 {known = Known} (λ (h : LeaderHint). h.leader_id) (λ id _. spells_then spells_text (λ h. h.address) (λ address _.
    spells_done (record { leader_id = id; address = address }) (λ x h i. record { leader_id = h.0.1 i; address = h.1 i }) ((tt, refl), refl))))
    (λ p h. ((h.0, (h.1, tt)), tt)) (λ p h. (h.0.0, h.0.1.0)) (λ p. simp append-nil refl)

pub spells_node : Spells itself FitsNode node_word node_at
unfolding node_at
spells_node =
    spells_as (spells_then spells_u32 {known = Known} (λ (n : NodeMeta). n.id) (λ id _. spells_then spells_text (λ n. n.address) (λ address _. spells_then spells_i32 (λ n. n.role) (λ role _. spells_then spells_i32 (λ n. n.status) (λ status _.
    spells_done (record { id = id; address = address; role = role; status = status }) (λ x h i. record { id = h.0.0.0.1 i; address = h.0.0.1 i; role = h.0.1 i; status = h.1 i }) ((((tt, refl), refl), refl), refl))))))
    (λ p h. ((h.0, (h.1, (h.2, (h.3, tt)))), tt)) (λ p h. (h.0.0, h.0.1.0, h.0.1.1.0, h.0.1.1.1.0)) (λ p. simp (append_assoc, append-nil) refl)

-- ---- what a response answers

abbrev FitsResult : Option ClientResponsePayload → Type 0
FitsResult result = IfSome result FitsPayload

abbrev written : Bool → Option ClientResponsePayload
written succeeded = Some (payload.Write succeeded)

abbrev found_entries : List KvEntry → Option ClientResponsePayload
found_entries entries = Some (payload.Read entries)

spells_written : Spells written Known truth_word written_at
unfolding written_at
spells_written =
    spells_as (spells_then spells_truth {known = Known} (λ b. b) (λ b _. spells_done b (λ x h. h.1) (tt, refl)))
    (λ b h. ((tt, tt), tt)) (λ b h. tt) (λ b. sym (append-nil (truth_word b)))

spells_found : Spells found_entries (FitsList FitsKv) (list_word kv_word) found_at
unfolding found_at
spells_found =
    spells_as (spells_then (spells_list spells_kv) {known = Known} (λ es. es) (λ es _. spells_done es (λ x h. h.1) (tt, refl)))
    (λ es h. ((h, tt), tt)) (λ es h. h.0.0) (λ es. sym (append-nil (list_word kv_word es)))

spells_payload : Spells itself FitsResult payload_word payload_at
unfolding payload_at
spells_payload = record { again = payload_again; found = payload_found }
  where
    payload_again : (p : Option ClientResponsePayload) (rest : List ℕ) → FitsResult p → payload_at (payload_word p ++ rest) ≡ Some (p, rest)
    payload_again None rest h = refl
    payload_again (Some (payload.Write succeeded)) rest h = spells_written.again succeeded rest tt
    payload_again (Some (payload.Read entries)) rest h = spells_found.again entries rest h

    payload_found : (bytes : List ℕ) (y : Option ClientResponsePayload) (rest : List ℕ) → IsBytes bytes → payload_at bytes ≡ Some (y, rest) → (p : Option ClientResponsePayload) × (y ≡ p) × (bytes ≡ payload_word p ++ rest) × FitsResult p
    payload_found [] y rest h e = absurd (no_none (y, rest) e)
    payload_found (tag ∷ bytes) y rest h e =
        let b = behind_or {fits = FitsResult} {word = payload_word} tag 0 (behind_done 0 None tt (λ rest. refl))
        (behind_or tag 1 (behind_spelled 1 spells_written (λ x f. tt) (λ x. refl))
        (behind_or tag 2 (behind_spelled 2 spells_found (λ x f. f) (λ x. refl)) (behind_none tag))) in
        let t = b.found bytes y rest (λ i. h (suc i)) e in
        (y, refl, t.0, t.1)

-- ---- replies

abbrev response_word : ClientResponse → List ℕ
response_word r = code_number r.error ∷ option_word hint_word r.leader_hint ++ option_word u64_word r.retry_after_ms ++ payload_word r.result

spells_response : Spells reply.Response (λ r. FitsReply (reply.Response r)) response_word response_at
unfolding response_at
spells_response =
    spells_as (spells_then spells_code {known = Known} (λ (r : ClientResponse). r.error) (λ error _. spells_then (spells_option spells_hint) (λ r. r.leader_hint) (λ hint _. spells_then (spells_option spells_u64) (λ r. r.retry_after_ms) (λ retry _. spells_then spells_payload (λ r. r.result) (λ result _.
    spells_done (record { error = error; leader_hint = hint; retry_after_ms = retry; result = result }) (λ x h i. record { error = h.0.0.0.1 i; leader_hint = h.0.0.1 i; retry_after_ms = h.0.1 i; result = h.1 i }) ((((tt, refl), refl), refl), refl))))))
    (λ r h. ((tt, (h.0, (h.1, (h.2, tt)))), tt)) (λ r h. (h.0.1.0, h.0.1.1.0, h.0.1.1.1.0)) (λ r. simp (append_assoc, append-nil) refl)

spells_scanned : Spells reply.Scan (λ r. FitsReply (reply.Scan r)) (λ r. u64_word r.revision ++ list_word kv_word r.entries) scanned_at
unfolding scanned_at
spells_scanned =
    spells_as (spells_then spells_u64 {known = Known} (λ (r : ScanResult). r.revision) (λ revision _. spells_then (spells_list spells_kv) (λ r. r.entries) (λ entries _.
    spells_done (record { entries = entries; revision = revision }) (λ x h i. record { entries = h.1 i; revision = h.0.1 i }) ((tt, refl), refl))))
    (λ r h. ((h.0, (h.1, tt)), tt)) (λ r h. (h.0.0, h.0.1.0)) (λ r. simp append-nil refl)

spells_watching : Spells reply.Watching FitsU64 u64_word watching_at
unfolding watching_at
spells_watching =
    spells_as (spells_then spells_u64 {known = Known} (λ n. n) (λ n _. spells_done n (λ x h. h.1) (tt, refl)))
    (λ n h. ((h, tt), tt)) (λ n h. h.0.0) (λ n. sym (append-nil (u64_word n)))

spells_members : Spells reply.Members (λ m. FitsReply (reply.Members m)) (λ m. u64_word m.version ++ option_word u32_word m.current_leader_id ++ list_word node_word m.nodes) members_at
unfolding members_at
spells_members =
    spells_as (spells_then spells_u64 {known = Known} (λ (m : ClusterMembership). m.version) (λ version _. spells_then (spells_option spells_u32) (λ m. m.current_leader_id) (λ leader _. spells_then (spells_list spells_node) (λ m. m.nodes) (λ nodes _.
    spells_done (record { version = version; nodes = nodes; current_leader_id = leader }) (λ x h i. record { version = h.0.0.1 i; nodes = h.1 i; current_leader_id = h.0.1 i }) (((tt, refl), refl), refl)))))
    (λ m h. ((h.0, (h.1, (h.2, tt))), tt)) (λ m h. (h.0.0, h.0.1.0, h.0.1.1.0)) (λ m. simp (append_assoc, append-nil) refl)

spells_refused : Spells reply.Refused Known refusal_word refused_at
unfolding refused_at
spells_refused =
    spells_as (spells_then spells_refusal {known = Known} (λ r. r) (λ r _. spells_done r (λ x h. h.1) (tt, refl)))
    (λ r h. ((tt, tt), tt)) (λ r h. tt) (λ r. refl)

reply_again : (r : Reply) (rest : List ℕ) → FitsReply r → reply_at (reply_word r ++ rest) ≡ Some (r, rest)
unfolding reply_at
reply_again (reply.Response r) rest h = spells_response.again r rest h
reply_again (reply.Scan r) rest h = spells_scanned.again r rest h
reply_again (reply.Watching number) rest h = spells_watching.again number rest h
reply_again (reply.Members m) rest h = spells_members.again m rest h
reply_again (reply.Refused r) rest h = spells_refused.again r rest tt

reply_found : (bytes : List ℕ) (y : Reply) (rest : List ℕ) → IsBytes bytes → reply_at bytes ≡ Some (y, rest) → (r : Reply) × (y ≡ r) × (bytes ≡ reply_word r ++ rest) × FitsReply r
unfolding reply_at
reply_found [] y rest h e = absurd (no_none (y, rest) e)
reply_found (tag ∷ bytes) y rest h e =
    let b = behind_or {fits = FitsReply} {word = reply_word} tag 1 (behind_spelled 1 spells_response (λ x f. f) (λ x. refl))
    (behind_or tag 2 (behind_spelled 2 spells_scanned (λ x f. f) (λ x. refl))
    (behind_or tag 3 (behind_spelled 3 spells_watching (λ x f. f) (λ x. refl))
    (behind_or tag 5 (behind_spelled 5 spells_members (λ x f. f) (λ x. refl))
    (behind_or tag 6 (behind_spelled 6 spells_refused (λ x f. tt) (λ x. refl)) (behind_none tag))))) in
    let t = b.found bytes y rest (λ i. h (suc i)) e in
    (y, refl, t.0, t.1)

pub spells_reply : Spells itself FitsReply reply_word reply_at
spells_reply = record { again = reply_again; found = reply_found }

-- no reply's word is empty
pub reply_some : (r : Reply) → reply_word r ≡ [] → ⊥
reply_some (reply.Response r) e = cc
reply_some (reply.Scan r) e = cc
reply_some (reply.Watching number) e = cc
reply_some (reply.Members m) e = cc
reply_some (reply.Refused r) e = cc

-- ---- events

abbrev kind_word : WatchEventType → List ℕ
kind_word k = event_number k ∷ []

spells_kind : Spells itself Known kind_word kind_at
unfolding kind_at
spells_kind = record { again = kind_again; found = kind_found }
  where
    kind_again : (k : WatchEventType) (rest : List ℕ) → Known k → kind_at (kind_word k ++ rest) ≡ Some (k, rest)
    kind_again event.Put rest h = refl
    kind_again event.Delete rest h = refl

    kind_found : (bytes : List ℕ) (y : WatchEventType) (rest : List ℕ) → IsBytes bytes → kind_at bytes ≡ Some (y, rest) → (k : WatchEventType) × (y ≡ k) × (bytes ≡ kind_word k ++ rest) × Known k
    kind_found [] y rest h e = absurd (no_none (y, rest) e)
    kind_found (tag ∷ bytes) y rest h e =
        let b = behind_or {fits = Known} {word = kind_word} tag 1 (behind_done 1 event.Put tt (λ rest. refl))
        (behind_or tag 2 (behind_done 2 event.Delete tt (λ rest. refl)) (behind_none tag)) in
        let t = b.found bytes y rest (λ i. h (suc i)) e in
        (y, refl, t.0, t.1)

abbrev behind_word : WatchEvent → List ℕ
behind_word e = u64_word e.watcher ++ event_number e.kind ∷ u64_word e.revision ++ blob_word e.key ++ blob_word e.value ++ blob_word e.prev_value

spells_behind : Spells itself FitsEvent behind_word event_behind
unfolding event_behind u64_word
spells_behind =
    spells_as (spells_then spells_u64 {known = Known} (λ (e : WatchEvent). e.watcher) (λ watcher _. spells_then spells_kind (λ e. e.kind) (λ kind _. spells_then spells_u64 (λ e. e.revision) (λ revision _. spells_then spells_blob (λ e. e.key) (λ key _. spells_then spells_blob (λ e. e.value) (λ value _. spells_then spells_blob (λ e. e.prev_value) (λ earlier _.
    spells_done (record { watcher = watcher; revision = revision; kind = kind; key = key; value = value; prev_value = earlier })
    (λ x h i. record { watcher = h.0.0.0.0.0.1 i; revision = h.0.0.0.1 i; kind = h.0.0.0.0.1 i; key = h.0.0.1 i; value = h.0.1 i; prev_value = h.1 i }) ((((((tt, refl), refl), refl), refl), refl), refl))))))))
    (λ e h. ((h.0, (tt, (h.1, (h.2, (h.3, (h.4, tt)))))), tt)) (λ e h. (h.0.0, h.0.1.1.0, h.0.1.1.1.0, h.0.1.1.1.1.0, h.0.1.1.1.1.1.0)) (λ e. simp (append_assoc, append-nil) refl)

pub spells_event : Spells itself FitsEvent event_word event_at
unfolding event_at
spells_event = record { again = spells_behind.again; found = event_found }
  where
    event_found : (bytes : List ℕ) (y : WatchEvent) (rest : List ℕ) → IsBytes bytes → event_at bytes ≡ Some (y, rest) → (e : WatchEvent) × (y ≡ e) × (bytes ≡ event_word e ++ rest) × FitsEvent e
    event_found [] y rest h e = absurd (no_none (y, rest) e)
    event_found (tag ∷ bytes) y rest h e =
        let b = behind_or {fits = FitsEvent} {word = event_word} tag 4 (behind_spelled 4 spells_behind (λ x f. f) (λ x. refl)) (behind_none tag) in
        let t = b.found bytes y rest (λ i. h (suc i)) e in
        (y, refl, t.0, t.1)
