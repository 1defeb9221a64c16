-- How long the words are that an engine hands its stores, and when a disk may be told to be full of them.
use Rattle.std.proofs.Common.{◌≡◌, ◌⊎◌, inl, inr, ℕ, ℤ, ◌≤◌, ◌+◌, ◌-◌, ◌*◌, true, false, List, [], ◌∷◌, ◌++◌, length, Option, Some, None, Result, Ok, Err, IfErr, sym, ◌∙◌, ap, subst, arith, length-append}
use Rattle.std.specs.Prelude.{IfSome}
use Rattle.std.specs.Result.{IsErrAnd}
use Rattle.den_codec.specs.Full.{IsHeavy}
use Rattle.den_disk.specs.declared.place.Family.{Family}
use Rattle.den_disk.specs.declared.place.Family.TheVariants.{Log as log_family, Meta as meta_family, State as state_family, Snapshot as snapshot_family}
use Rattle.den_disk.specs.declared.place.Place.{Place}
use Rattle.den_disk.specs.Files.{Files}
use Rattle.den_gate.specs.Draft.{other_slot}
use Rattle.den_model.specs.Image.{slot_of}
use Rattle.den_journal.specs.Causes.{IsFullFor, IsTooShort}
use Rattle.den_journal.specs.Drafts.{IsSizeOf}
use Rattle.den_core.specs.Full.{IsFullBy, IsSlotTooShort, IsStepTooShort}
use Rattle.den_core.specs.Weights.{ask_rise}
use Rattle.den_core.specs.PayloadSizes.{PayloadSizes, chunk_sizes, entry_sizes, opened_sizes, opened_trim_sizes, step_sizes, trim_sizes}
use Rattle.den_core.specs.Trimmed.{last_id}
use Rattle.den_model.specs.declared.log_id.LogId.{LogId}
use Rattle.den_model.specs.declared.region.LogRegion.TheVariants.{Append}
use Rattle.den_model.specs.Kv.{Kv}
use Rattle.den_model.specs.Log.{Log, changed}
use Rattle.den_model.specs.MapState.{MapState, map_applied}
use Rattle.den_codec.specs.declared.error.Error.{Error}
use Rattle.den_codec.specs.declared.error.Error.TheVariants.{OutOfMemory, StorageIoError, DiskFull, LinkFault, DataCorruption, FeatureNotEnabled, ProposeFailed, UnorderedChunk, Config, ConfigFault, StateMachineError}
use Rattle.den_model.specs.declared.command.Command.{Command}
use Rattle.den_model.specs.declared.command.WriteOperation.{WriteOperation}
use Rattle.den_model.specs.declared.command.WriteOperation.TheVariants as operation
use Rattle.den_model.specs.declared.log_id.HardState.{HardState}
use Rattle.den_model.specs.declared.log_id.VotedFor.{VotedFor}
use Rattle.den_model.specs.declared.request.ClientWriteRequest.{ClientWriteRequest}
use Rattle.den_model.specs.declared.request.Request.{Request}
use Rattle.den_model.specs.declared.request.Request.TheVariants as request
use Rattle.den_model.specs.declared.request.Frame.{Frame}
use Rattle.den_model.specs.declared.request.Frame.TheVariants.{Good, Bad}
use Rattle.den_model.specs.Entries.{LogEntry}
use Rattle.den_model.specs.Sizes.{entries_size, frame_size}
use Rattle.den_model.specs.Spelling.{u32_word, u64_word, blob_word, option_word, vote_word, hard_state_word, command_word, entry_word, ttl_word, operation_word, request_word}
use Rattle.den_model.specs.Step.{Step, command_of, is_leader}
use Rattle.den_model.specs.Reading.{request_in}
use Rattle.den_model.specs.Words.{IsBytes, IsRequestWord}
use Rattle.den_model.proofs.RequestWords.{request_found}
use Rattle.den_core.specs.Input.{HasCome}
use Rattle.den_core.specs.Weights.{ask_rise, frame_rise, served_weight, write_rise}

-- ---- what is told

-- payloads are among others
pub record AreAmong (few all : PayloadSizes) : Type 0 where
  pub adds : (family : Family) (n : ℕ) → few.adds family n → all.adds family n
  pub drafts : (family : Family) (n : ℕ) → few.drafts family n → all.drafts family n

pub all_among : (sizes : PayloadSizes) → AreAmong sizes sizes
all_among sizes = record { adds = λ family n is. is; drafts = λ family n is. is }

-- a slot that is too short for some is so for those
too_short : (slot : Place) (some others : ℕ → Type 0) (needed : ℕ) (files : Files) → ((n : ℕ) → some n → others n) → IsTooShort slot some needed files → IsTooShort slot others needed files
too_short slot some others needed files so short = record { size = short.size; meant = so short.size short.meant; room = short.room; short = short.short }

-- one of two slots, for some each
slot_by : (family : Family) (files : Files) (needed : ℕ) (adds drafts more_adds more_drafts : ℕ → Type 0) → ((n : ℕ) → adds n → more_adds n) → ((n : ℕ) → drafts n → more_drafts n)
    → IsTooShort (slot_of family files) adds needed files ⊎ IsTooShort (other_slot (slot_of family files)) drafts needed files
    → IsTooShort (slot_of family files) more_adds needed files ⊎ IsTooShort (other_slot (slot_of family files)) more_drafts needed files
slot_by family files needed adds drafts more_adds more_drafts added drafted (inl short) = inl (too_short (slot_of family files) adds more_adds needed files added short)
slot_by family files needed adds drafts more_adds more_drafts added drafted (inr short) = inr (too_short (other_slot (slot_of family files)) drafts more_drafts needed files drafted short)

-- of what is heavier, the more so
pub short_slot : (few all : PayloadSizes) (weight above needed : ℕ) (files : Files) → AreAmong few all → weight ≤ above → IsSlotTooShort few weight needed files → IsSlotTooShort all above needed files
short_slot few all weight above needed files among le slot = record {
  family = slot.family;
  short = slot_by slot.family files needed _ _ _ _
      (λ n is. (among.adds slot.family n is.0, omega (arith, is.1))) (λ n is. (among.drafts slot.family n is.0, omega (arith, is.1))) slot.short;
}

pub same_short : (sizes : PayloadSizes) (weight above needed : ℕ) (files : Files) → weight ≤ above → IsSlotTooShort sizes weight needed files → IsSlotTooShort sizes above needed files
same_short sizes weight above needed files le slot = short_slot sizes sizes weight above needed files (all_among sizes) le slot

-- and of a step that was begun so
pub short_step : (begun more : Kv → Log → Step → Type 0) (entries same weight above needed : ℕ) (files : Files) → ((kv : Kv) (log : Log) (next : Step) → begun kv log next → more kv log next) → same ≡ entries → weight ≤ above
    → IsStepTooShort begun same weight needed files → IsStepTooShort more entries above needed files
short_step begun more entries same weight above needed files so is le step = record {
  kv = step.kv;
  log = step.log;
  next = step.next;
  is_begun = so step.kv step.log step.next step.is_begun;
  short = subst (λ n. IsSlotTooShort (step_sizes n step.log step.kv step.next) above needed files) is
      (short_slot (step_sizes same step.log step.kv step.next) (step_sizes same step.log step.kv step.next) weight above needed files (all_among (step_sizes same step.log step.kv step.next)) le step.short);
}

-- where no more is told
pub heavier : (told more : Type 0) (short then : ℕ → Type 0) (most same : ℕ) (weight above : ℕ) (e : Error) → (told → more) → ((needed : ℕ) → told → short needed → then needed) → same ≡ most → weight ≤ above
    → IsFullBy more short same weight e → IsFullBy told then most above e
heavier told more short then most same weight above (DiskFull needed limit) so means is le full = (
  omega (arith, full.0),
  record { size = full.1.size; within = omega (arith, full.1.within); room = full.1.room },
  λ t. means needed t (full.2 (so t)),
)
heavier told more short then most same weight above OutOfMemory so means is le full = tt
heavier told more short then most same weight above StorageIoError so means is le full = tt
heavier told more short then most same weight above LinkFault so means is le full = tt
heavier told more short then most same weight above (DataCorruption place offset) so means is le full = tt
heavier told more short then most same weight above FeatureNotEnabled so means is le full = tt
heavier told more short then most same weight above ProposeFailed so means is le full = tt
heavier told more short then most same weight above (UnorderedChunk index) so means is le full = tt
heavier told more short then most same weight above (Config place) so means is le full = tt
heavier told more short then most same weight above ConfigFault so means is le full = tt
heavier told more short then most same weight above StateMachineError so means is le full = tt

-- at the exit of a call that answers its callee's refusal
pub heavier_out : {T : Type 0} (r : Result T Error) (e : Error) (told more : Type 0) (short then : ℕ → Type 0) (most same : ℕ) (weight above : ℕ) → IsErrAnd r (λ y. y ≡ e) → (told → more)
    → ((needed : ℕ) → told → short needed → then needed) → same ≡ most → weight ≤ above → IsFullBy more short same weight e → IfErr r (IsFullBy told then most above)
heavier_out (Ok x) e told more short then most same weight above at so means is le full = tt
heavier_out (Err y) e told more short then most same weight above at so means is le full = heavier told more short then most same weight above y so means is le (subst (IsFullBy more short same weight) (sym at) full)

-- of any refusal
pub heavier_all : {T : Type 0} (r : Result T Error) (told more : Type 0) (short then : ℕ → Type 0) (most same : ℕ) (weight above : ℕ) → (told → more) → ((needed : ℕ) → told → short needed → then needed) → same ≡ most → weight ≤ above
    → IfErr r (IsFullBy more short same weight) → IfErr r (IsFullBy told then most above)
heavier_all (Ok x) told more short then most same weight above so means is le full = tt
heavier_all (Err e) told more short then most same weight above so means is le full = heavier told more short then most same weight above e so means is le full

-- what a store was refused
pub full_by : (told : Type 0) (family : Family) (files : Files) (most weight : ℕ) (adds drafts : ℕ → Type 0) (sizes : PayloadSizes) (e : Error)
    → (told → (n : ℕ) → adds n → sizes.adds family n × (n ≤ weight)) → (told → (n : ℕ) → drafts n → sizes.drafts family n × (n ≤ weight))
    → IsFullFor told family files weight adds drafts e → IsHeavy most weight e → IsFullBy told (λ needed. IsSlotTooShort sizes weight needed files) most weight e
full_by told family files most weight adds drafts sizes (DiskFull needed limit) added drafted full heavy =
    (heavy, full.0, λ t. record { family = family; short = slot_by family files needed adds drafts _ _ (added t) (drafted t) (full.1 t) })
full_by told family files most weight adds drafts sizes OutOfMemory added drafted full heavy = tt
full_by told family files most weight adds drafts sizes StorageIoError added drafted full heavy = tt
full_by told family files most weight adds drafts sizes LinkFault added drafted full heavy = tt
full_by told family files most weight adds drafts sizes (DataCorruption place offset) added drafted full heavy = tt
full_by told family files most weight adds drafts sizes FeatureNotEnabled added drafted full heavy = tt
full_by told family files most weight adds drafts sizes ProposeFailed added drafted full heavy = tt
full_by told family files most weight adds drafts sizes (UnorderedChunk index) added drafted full heavy = tt
full_by told family files most weight adds drafts sizes (Config place) added drafted full heavy = tt
full_by told family files most weight adds drafts sizes ConfigFault added drafted full heavy = tt
full_by told family files most weight adds drafts sizes StateMachineError added drafted full heavy = tt

-- ---- what an entry writes

-- of the map alone
chunk_adds : (most : ℕ) (l : Log) (m : MapState) (e : LogEntry) (family : Family) (n : ℕ) → (chunk_sizes m (e ∷ [])).adds family n → (entry_sizes most l m (e ∷ [])).adds family n
chunk_adds most l m e log_family n is = absurd is
chunk_adds most l m e meta_family n is = absurd is
chunk_adds most l m e state_family n is = is
chunk_adds most l m e snapshot_family n is = absurd is

chunk_drafts : (most : ℕ) (l : Log) (m : MapState) (e : LogEntry) (family : Family) (n : ℕ) → (chunk_sizes m (e ∷ [])).drafts family n → (entry_sizes most l m (e ∷ [])).drafts family n
chunk_drafts most l m e log_family n is = absurd is
chunk_drafts most l m e meta_family n is = absurd is
chunk_drafts most l m e state_family n is = is
chunk_drafts most l m e snapshot_family n is = absurd is

pub chunk_among : (most : ℕ) (l : Log) (m : MapState) (e next : LogEntry) → e ≡ next → AreAmong (chunk_sizes m (e ∷ [])) (entry_sizes most l m (next ∷ []))
chunk_among most l m e next is = subst (λ x. AreAmong (chunk_sizes m (e ∷ [])) (entry_sizes most l m (x ∷ []))) is (record { adds = chunk_adds most l m e; drafts = chunk_drafts most l m e })

-- by another name
pub entries_among : (most : ℕ) (l : Log) (m : MapState) (es same : List LogEntry) → es ≡ same → AreAmong (entry_sizes most l m es) (entry_sizes most l m same)
entries_among most l m es same is = subst (λ x. AreAmong (entry_sizes most l m es) (entry_sizes most l m x)) is (all_among (entry_sizes most l m es))

-- of the purge behind it
trim_adds : (most : ℕ) (l : Log) (m : MapState) (e : LogEntry) (family : Family) (n : ℕ) → (trim_sizes most (changed l (Append (e ∷ []))) (map_applied m e).mark).adds family n → (entry_sizes most l m (e ∷ [])).adds family n
trim_adds most l m e log_family n is = absurd is
trim_adds most l m e meta_family n is = absurd is
trim_adds most l m e state_family n is = absurd is
trim_adds most l m e snapshot_family n is = absurd is

trim_drafts : (most : ℕ) (l : Log) (m : MapState) (e : LogEntry) (family : Family) (n : ℕ) → (trim_sizes most (changed l (Append (e ∷ []))) (map_applied m e).mark).drafts family n → (entry_sizes most l m (e ∷ [])).drafts family n
trim_drafts most l m e log_family n is = is
trim_drafts most l m e meta_family n is = absurd is
trim_drafts most l m e state_family n is = absurd is
trim_drafts most l m e snapshot_family n is = absurd is

pub trim_among : (most same : ℕ) (l mid : Log) (m : MapState) (mark : LogId) (e : LogEntry) → same ≡ most → mid ≡ changed l (Append (e ∷ [])) → mark ≡ (map_applied m e).mark
    → AreAmong (trim_sizes same mid mark) (entry_sizes most l m (e ∷ []))
trim_among most same l mid m mark e same_most joined same_mark =
    subst (λ n. AreAmong (trim_sizes n mid mark) (entry_sizes most l m (e ∷ []))) (sym same_most)
    (subst (λ x. AreAmong (trim_sizes most x mark) (entry_sizes most l m (e ∷ []))) (sym joined)
    (subst (λ i. AreAmong (trim_sizes most (changed l (Append (e ∷ []))) i) (entry_sizes most l m (e ∷ []))) (sym same_mark)
    (record { adds = trim_adds most l m e; drafts = trim_drafts most l m e })))

-- ---- what an opening writes before its steps

module _ (role : ℤ) (most : ℕ) (l : Log) where
  -- the entries that the map takes on
  brought_adds : (m : MapState) (chunk : List LogEntry) (family : Family) (n : ℕ) → (chunk_sizes m chunk).adds family n → (opened_sizes role most l m chunk).adds family n
  brought_adds m chunk log_family n is = absurd is
  brought_adds m chunk meta_family n is = absurd is
  brought_adds m chunk state_family n is = is
  brought_adds m chunk snapshot_family n is = absurd is

  brought_drafts : (m : MapState) (chunk : List LogEntry) (family : Family) (n : ℕ) → (chunk_sizes m chunk).drafts family n → (opened_sizes role most l m chunk).drafts family n
  brought_drafts m chunk log_family n is = absurd is
  brought_drafts m chunk meta_family n is = absurd is
  brought_drafts m chunk state_family n is = is
  brought_drafts m chunk snapshot_family n is = absurd is

  pub brought_among : (m : MapState) (chunk : List LogEntry) → AreAmong (chunk_sizes m chunk) (opened_sizes role most l m chunk)
  brought_among m chunk = record { adds = brought_adds m chunk; drafts = brought_drafts m chunk }

  -- the purge of one that does not lead
  purge_adds : (m : MapState) (chunk : List LogEntry) (family : Family) (n : ℕ) → (opened_trim_sizes role most l).adds family n → (opened_sizes role most l m chunk).adds family n
  purge_adds m chunk log_family n is = absurd is
  purge_adds m chunk meta_family n is = absurd is
  purge_adds m chunk state_family n is = absurd is
  purge_adds m chunk snapshot_family n is = absurd is

  purge_drafts : (m : MapState) (chunk : List LogEntry) (family : Family) (n : ℕ) → (opened_trim_sizes role most l).drafts family n → (opened_sizes role most l m chunk).drafts family n
  purge_drafts m chunk log_family n is = is
  purge_drafts m chunk meta_family n is = absurd is
  purge_drafts m chunk state_family n is = absurd is
  purge_drafts m chunk snapshot_family n is = absurd is

  purge_among : (m : MapState) (chunk : List LogEntry) → AreAmong (opened_trim_sizes role most l) (opened_sizes role most l m chunk)
  purge_among m chunk = record { adds = purge_adds m chunk; drafts = purge_drafts m chunk }

  last_adds : (family : Family) (n : ℕ) → (trim_sizes most l (last_id l)).adds family n → (opened_trim_sizes role most l).adds family n
  last_adds log_family n is = absurd is
  last_adds meta_family n is = absurd is
  last_adds state_family n is = absurd is
  last_adds snapshot_family n is = absurd is

  last_drafts : is_leader role ≡ false → (family : Family) (n : ℕ) → (trim_sizes most l (last_id l)).drafts family n → (opened_trim_sizes role most l).drafts family n
  last_drafts follows log_family n is = (follows, is)
  last_drafts follows meta_family n is = absurd is
  last_drafts follows state_family n is = absurd is
  last_drafts follows snapshot_family n is = absurd is

  pub last_among : is_leader role ≡ false → (id : LogId) → id ≡ last_id l → AreAmong (trim_sizes most l id) (opened_trim_sizes role most l)
  last_among follows id is = subst (λ i. AreAmong (trim_sizes most l i) (opened_trim_sizes role most l)) (sym is) (record { adds = last_adds; drafts = last_drafts follows })

  -- under a core that leads nothing is purged
  led_drafts : is_leader role ≡ true → (m : MapState) (chunk : List LogEntry) (family : Family) (n : ℕ) → (opened_sizes role most l m chunk).drafts family n → (chunk_sizes m chunk).drafts family n
  led_drafts leads m chunk log_family n is = let never : true ≡ false = sym leads ∙ is.0 in cc
  led_drafts leads m chunk meta_family n is = absurd is
  led_drafts leads m chunk state_family n is = is
  led_drafts leads m chunk snapshot_family n is = absurd is

  led_adds : (m : MapState) (chunk : List LogEntry) (family : Family) (n : ℕ) → (opened_sizes role most l m chunk).adds family n → (chunk_sizes m chunk).adds family n
  led_adds m chunk log_family n is = absurd is
  led_adds m chunk meta_family n is = absurd is
  led_adds m chunk state_family n is = is
  led_adds m chunk snapshot_family n is = absurd is

  pub led_among : is_leader role ≡ true → (m : MapState) (chunk : List LogEntry) → AreAmong (opened_sizes role most l m chunk) (chunk_sizes m chunk)
  led_among leads m chunk = record { adds = led_adds m chunk; drafts = led_drafts leads m chunk }

-- the purge, told of the engine
pub purged_among : (role same_role : ℤ) (most same_most : ℕ) (l same : Log) (m : MapState) (chunk : List LogEntry) → same_role ≡ role → same_most ≡ most → same ≡ l
    → AreAmong (opened_trim_sizes same_role same_most same) (opened_sizes role most l m chunk)
purged_among role same_role most same_most l same m chunk is_role is_most is_log =
    let all = opened_sizes role most l m chunk in
    subst (λ r. AreAmong (opened_trim_sizes r same_most same) all) (sym is_role)
    (subst (λ n. AreAmong (opened_trim_sizes role n same) all) (sym is_most)
    (subst (λ x. AreAmong (opened_trim_sizes role most x) all) (sym is_log) (purge_among role most l m chunk)))

-- ---- words

-- of one payload
pub one_size : (p : List ℕ) (n : ℕ) → IsSizeOf (p ∷ []) n → n ≡ length p
one_size p n (inl is) = is
one_size p n (inr never) = absurd never

-- index, term and moment, and the command
entry_length : (e : LogEntry) → length (entry_word e) ≡ 24 + length (command_word e.command)
unfolding u64_word
entry_length e = omega arith

pub entry_is : (e : LogEntry) (index term moment : ℕ) (command : Command) → e ≡ record { index = index; term = term; moment = moment; command = command } → entries_size (e ∷ []) ≡ 24 + length (command_word command)
entry_is e index term moment command is = omega (arith, entry_length e, ap (λ (x : LogEntry). length (command_word x.command)) is)

vote_length : (v : Option VotedFor) → length (option_word vote_word v) ≤ 13
unfolding u32_word u64_word
vote_length None = omega arith
vote_length (Some v) = omega arith

pub hard_state_length : (h : HardState) → length (hard_state_word h) ≤ 21
unfolding u64_word
hard_state_length h = omega (arith, vote_length h.voted_for)

-- a time to live: as a command's it may lack its number
ttl_length : (ttl_secs : Option ℕ) → length (option_word u64_word ttl_secs) ≤ 1 + length (ttl_word ttl_secs)
unfolding u64_word
ttl_length None = omega arith
ttl_length (Some n) = omega arith

-- a command's word is hardly longer than its operation's
operation_length : (o : WriteOperation) → length (command_word (command_of o)) ≤ 1 + length (operation_word (Some o))
operation_length (operation.Insert key value ttl_secs) = omega (arith, ttl_length ttl_secs, length-append (blob_word key ++ blob_word value) (option_word u64_word ttl_secs), length-append (blob_word key ++ blob_word value) (ttl_word ttl_secs))
operation_length (operation.Delete key) = omega arith
operation_length (operation.CompareAndSwap key expected new_value) = omega arith

-- nor than the request's
asked_length : (w : ClientWriteRequest) (o : WriteOperation) → w.command ≡ Some o → length (command_word (command_of o)) ≤ frame_size (Good (request.Write w))
unfolding u32_word
asked_length w o is = omega (arith, operation_length o, ap (λ x. length (operation_word x)) is)

pub asked_rises : (w : ClientWriteRequest) (o : WriteOperation) → w.command ≡ Some o → write_rise (command_of o) ≤ ask_rise (Good (request.Write w))
asked_rises w o is = omega (arith, asked_length w o is)

-- ---- requests that were read

-- a body that is a request's word is as long as the one that is written
word_length : (body : List ℕ) (r : Request) → IsRequestWord body r → length (request_word r) ≡ length body
unfolding u32_word
word_length body (request.Write w) h = ap length (sym h.0)
word_length body (request.Read r) h = omega (arith, ap length h.3)
word_length body (request.Scan client_id prefix) h = ap length (sym h.0)
word_length body (request.Watch client_id prefix prev_kv key) h = ap length (sym h.0)
word_length body (request.Members client_id) h = ap length (sym h.0)

pub read_length : (body : List ℕ) (r : Request) → IsBytes body → request_in body ≡ Some r → length (request_word r) ≤ length body
unfolding request_in
read_length body r bytes is = omega (arith, word_length body r (request_found body r bytes is).0)

-- ---- frames that were served

-- a call that takes nothing of what is left
pub counted_on : (before now then : ℕ) (whole left rest : List ℕ) → then ≡ now → rest ≡ left → now + length left ≡ before + length whole → then + length rest ≡ before + length whole
counted_on before now then whole left rest same kept counted = omega (arith, ap length kept)

-- so many bytes were taken for a frame
come_rise : (taken : ℕ) (frame : Frame) → HasCome taken frame → frame_rise frame ≤ 256 * taken
come_rise taken Bad come = omega arith
come_rise taken (Good request) come = omega arith

module _ (start now taken_first taken_now taken_behind taken_then : ℕ) (found : Option Frame) (frame : Frame) (is : found ≡ Some frame)
    (so_far : now ≤ served_weight start (taken_now - taken_first)) (more : taken_first ≤ taken_now) (come : IfSome found (HasCome (taken_behind - taken_now))) (same : taken_then ≡ taken_behind) where
  here : frame_rise frame ≤ 256 * (taken_behind - taken_now)
  here = come_rise (taken_behind - taken_now) frame (subst (λ f. IfSome f (HasCome (taken_behind - taken_now))) is come)

  -- it was served, or its step was begun
  pub served_on : taken_now ≤ taken_behind → now + frame_rise frame ≤ served_weight start (taken_then - taken_first)
  served_on later = omega (arith, here)
