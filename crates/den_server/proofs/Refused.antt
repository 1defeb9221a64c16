-- What a folder's files are refused for, by what was read of them.
use Rattle.std.proofs.Common.{cond, not, ◌&&◌, nat_lt, List, [], ◌∷◌, length, ◌≡◌, ⊎_elim, ◌<◌, ◌≤◌, ◌+◌, ◌*◌, IsSome, ℕ, Bool, true, false, Option, Some, None, Result, Ok, Err, OnOk, IfOk, IfErr, IsOk, if◌then◌else◌, refl, sym, ◌∙◌, ap, subst, arith}
use Rattle.den_disk.specs.declared.place.Family.TheVariants as family
use Rattle.den_disk.specs.Place.{place_number}
use Rattle.den_disk.specs.Files.{Files}
use Rattle.den_codec.specs.declared.error.Error.{Error}
use Rattle.den_codec.specs.declared.error.Error.TheVariants as error
use Rattle.den_core.specs.Full.{IsFullBy}
use Rattle.den_model.specs.declared.log_id.HardState.{HardState}
use Rattle.den_model.specs.Entries.{LogEntry}
use Rattle.den_model.specs.Sizes.{entries_size}
use Rattle.den_model.specs.Spelling.{entry_word}
use Rattle.den_model.specs.Kv.{Durable}
use Rattle.den_model.specs.Log.{Log, above}
use Rattle.den_model.specs.MapState.{MapState}
use Rattle.den_model.specs.Image.{Corruption, recovered, of_family, or_corrupt, ◌>>=◌, slot_of, log_in, hard_state_held, map_in, durable, durable_in, joined, ok}
use Rattle.den_journal.specs.Causes.{IsRefusal}
use Rattle.den_store.specs.Engine.{IsFirstCorrupt}
use Rattle.den_journal.specs.Folding.{IsUnread}
use Rattle.den_core.specs.Opening.{refusal_for, opening_refusal, is_exhausted, IsOpeningFailure}
use Rattle.den_server.specs.Causes.{IsUnreadFolder, IsMuch, IsRunRefusal, most_run}
use Rattle.den_server.specs.Opening.{lease_asked, refusal_in, opened_weight, IsRead}

-- ---- the definition, by what each family gives

abbrev joint : Files → Result Log ℕ → Result (Option HardState) ℕ → Result MapState ℕ → Result Durable Corruption
joint files a b c = do
  l ← of_family family.Log files a
  h ← of_family family.Meta files b
  s ← of_family family.State files c
  or_corrupt (record { place = place_number (slot_of family.Log files); offset = 0 }) (durable l h s)

recovered_is : (files : Files) → recovered files ≡ joint files (log_in files) (hard_state_held files) (map_in files)
unfolding recovered
recovered_is files = refl

abbrev by_parts : Bool → Files → Result Log ℕ → Result (Option HardState) ℕ → Result MapState ℕ → Option Error
by_parts leased files a b c = refusal_for (not leased && lease_asked a c) (joint files a b c)

refusal_is : (leased : Bool) (files : Files) → refusal_in leased files ≡ by_parts leased files (log_in files) (hard_state_held files) (map_in files)
refusal_is leased files = ap (refusal_for (not leased && lease_asked (log_in files) (map_in files))) (recovered_is files)

log_unread : (leased : Bool) (files : Files) (place offset : ℕ) → place ≡ place_number (slot_of family.Log files) → log_in files ≡ Err offset
    → refusal_in leased files ≡ Some (error.DataCorruption place offset)
log_unread leased files place offset at bad =
    refusal_is leased files ∙ (λ i. by_parts leased files (bad i) (hard_state_held files) (map_in files)) ∙ ap (λ p. Some (error.DataCorruption p offset)) (sym at)

meta_unread : (leased : Bool) (files : Files) (l : Log) (place offset : ℕ) → log_in files ≡ Ok l → place ≡ place_number (slot_of family.Meta files) → hard_state_held files ≡ Err offset
    → refusal_in leased files ≡ Some (error.DataCorruption place offset)
meta_unread leased files l place offset log at bad =
    refusal_is leased files ∙ (λ i. by_parts leased files (log i) (bad i) (map_in files)) ∙ ap (λ p. Some (error.DataCorruption p offset)) (sym at)

some_log : (r : Result Log ℕ) → IsOk r → (l : Log) × (r ≡ Ok l)
some_log (Ok l) is = (l, refl)
some_log (Err offset) is = absurd (cc is)

pub storage_unread : (leased : Bool) (files : Files) (place offset : ℕ) → IsFirstCorrupt files place offset → refusal_in leased files ≡ Some (error.DataCorruption place offset)
storage_unread leased files place offset h = ⊎_elim
    (λ log. log_unread leased files place offset log.0 log.1)
    (λ meta. let some = some_log (log_in files) meta.0 in meta_unread leased files some.0 place offset some.1 meta.1 meta.2)
    h

pub state_unread : (leased : Bool) (files : Files) (l : Log) (h : Option HardState) (place offset : ℕ) → log_in files ≡ Ok l → hard_state_held files ≡ Ok h
    → place ≡ place_number (slot_of family.State files) → map_in files ≡ Err offset → refusal_in leased files ≡ Some (error.DataCorruption place offset)
state_unread leased files l h place offset log meta at bad =
    refusal_is leased files ∙ (λ i. by_parts leased files (log i) (meta i) (bad i)) ∙ ap (λ p. Some (error.DataCorruption p offset)) (sym at)

-- with leases where the map has them
pub read_refusal : (leased has : Bool) (files : Files) (l : Log) (h : Option HardState) (s : MapState) (place : ℕ) → has ≡ leased → IsRead files l h s → place ≡ place_number (slot_of family.Log files)
    → refusal_in leased files ≡ opening_refusal has place l h s
read_refusal leased has files l h s place same read at =
    refusal_is leased files ∙ (λ i. by_parts leased files (read.log i) (read.hard_state i) (read.map i))
    ∙ (λ i. opening_refusal (sym same i) (sym at i) l h s)

pub read_durable : (files : Files) (l : Log) (h : Option HardState) (s : MapState) → IsRead files l h s → durable_in files ≡ durable l h s
read_durable files l h s read = λ i. joined (ok (read.log i)) (ok (read.hard_state i)) (ok (read.map i))

-- ---- the answers

pub unread_refused : (rose rose' told : Type 0) (refusal : Option Error) (corrupt : ℕ → ℕ → Type 0) (e : Error) → (rose → rose')
    → ((place offset : ℕ) → corrupt place offset → told → refusal ≡ Some (error.DataCorruption place offset)) → IsUnread rose corrupt e → IsUnreadFolder rose' told refusal e
unread_refused rose rose' told refusal corrupt error.OutOfMemory grow sound h = h
unread_refused rose rose' told refusal corrupt error.StorageIoError grow sound h = grow h
unread_refused rose rose' told refusal corrupt (error.DataCorruption place offset) grow sound h = sound place offset h
unread_refused rose rose' told refusal corrupt (error.DiskFull needed limit) grow sound h = absurd h
unread_refused rose rose' told refusal corrupt error.LinkFault grow sound h = absurd h
unread_refused rose rose' told refusal corrupt error.FeatureNotEnabled grow sound h = absurd h
unread_refused rose rose' told refusal corrupt error.ProposeFailed grow sound h = absurd h
unread_refused rose rose' told refusal corrupt (error.UnorderedChunk index) grow sound h = absurd h
unread_refused rose rose' told refusal corrupt (error.Config place) grow sound h = absurd h
unread_refused rose rose' told refusal corrupt error.ConfigFault grow sound h = absurd h
unread_refused rose rose' told refusal corrupt error.StateMachineError grow sound h = absurd h

pub folder_refused : (rose told : Type 0) (refusal : Option Error) (short : (most needed : ℕ) → Type 0) (most held : ℕ) (e : Error) → IsUnreadFolder rose told refusal e → IsRunRefusal rose ⊥ told refusal short most held 0 e
folder_refused rose told refusal short most held error.OutOfMemory h = h
folder_refused rose told refusal short most held error.StorageIoError h = h
folder_refused rose told refusal short most held (error.DataCorruption place offset) h = h
folder_refused rose told refusal short most held (error.DiskFull needed limit) h = absurd h
folder_refused rose told refusal short most held error.LinkFault h = absurd h
folder_refused rose told refusal short most held error.FeatureNotEnabled h = absurd h
folder_refused rose told refusal short most held error.ProposeFailed h = absurd h
folder_refused rose told refusal short most held (error.UnorderedChunk index) h = absurd h
folder_refused rose told refusal short most held (error.Config place) h = absurd h
folder_refused rose told refusal short most held error.ConfigFault h = absurd h
folder_refused rose told refusal short most held error.StateMachineError h = absurd h

much_opened : (most weight held : ℕ) → weight ≤ opened_weight held → most < 4 * weight → IsMuch most (held + 0)
much_opened most weight held le h = omega (arith, h, le)

-- the disk refuses what opening writes
disk_refused : (rose rose' told more : Type 0) (refusal : Option Error) (slot : ℕ → Type 0) (short : (most needed : ℕ) → Type 0) (most weight held : ℕ) (e : Error) → (rose → rose') → (told → more) → ((needed : ℕ) → told → weight ≤ most_run held 0 → slot needed → short (most_run held 0) needed) → (told → refusal ≡ None) → (told → weight ≤ opened_weight held)
    → IsRefusal rose most e → IsFullBy more slot most weight e → IsRunRefusal rose' ⊥ told refusal short most held 0 e
disk_refused rose rose' told more refusal slot short most weight held error.OutOfMemory grow so means none light h full = h
disk_refused rose rose' told more refusal slot short most weight held error.StorageIoError grow so means none light h full = grow h
disk_refused rose rose' told more refusal slot short most weight held (error.DataCorruption place offset) grow so means none light h full = absurd h
disk_refused rose rose' told more refusal slot short most weight held (error.DiskFull needed limit) grow so means none light h full = (
  h.1,
  record {
    size = full.1.size;
    room = full.1.room;
    above = subst (λ n. n < needed) h.1 h.0;
    accepted = none;
    bounded = λ t. omega (arith, full.1.within, light t);
    slot = λ t. means needed t (omega (arith, light t)) (full.2 (so t));
    much = λ t. much_opened most weight held (light t) full.0;
  },
)
disk_refused rose rose' told more refusal slot short most weight held error.LinkFault grow so means none light h full = absurd h
disk_refused rose rose' told more refusal slot short most weight held error.FeatureNotEnabled grow so means none light h full = absurd h
disk_refused rose rose' told more refusal slot short most weight held error.ProposeFailed grow so means none light h full = absurd h
disk_refused rose rose' told more refusal slot short most weight held (error.UnorderedChunk index) grow so means none light h full = absurd h
disk_refused rose rose' told more refusal slot short most weight held (error.Config place) grow so means none light h full = absurd h
disk_refused rose rose' told more refusal slot short most weight held error.ConfigFault grow so means none light h full = absurd h
disk_refused rose rose' told more refusal slot short most weight held error.StateMachineError grow so means none light h full = absurd h

some_is : (e d : Error) → Some d ≡ Some e → d ≡ e
some_is e d p = cc p

-- a refusal is one of three
refusal_kind : (P : Error → Type 0) (place : ℕ) (lease : Bool) (d : Option Durable) (e : Error) → P (error.DataCorruption place 0) → P error.FeatureNotEnabled → P error.ProposeFailed
    → refusal_for lease (or_corrupt (record { place = place; offset = 0 }) d) ≡ Some e → P e
refusal_kind P place lease None e corrupt feature propose p = subst P (some_is e (error.DataCorruption place 0) p) corrupt
refusal_kind P place true (Some d) e corrupt feature propose p = subst P (some_is e error.FeatureNotEnabled p) feature
refusal_kind P place false (Some d) e corrupt feature propose p = exhausted (is_exhausted d) p where
  exhausted : (b : Bool) → (if b then Some error.ProposeFailed else None) ≡ Some e → P e
  exhausted true q = subst P (some_is e error.ProposeFailed q) propose
  exhausted false q = absurd (cc q)

pub failure_refused : (rose rose' told more : Type 0) (refusal : Option Error) (slot : ℕ → Type 0) (short : (most needed : ℕ) → Type 0) (most weight held : ℕ) (leased : Bool) (place : ℕ) (l : Log) (h : Option HardState) (s : MapState) (e : Error) → (rose → rose') → (told → more)
    → ((needed : ℕ) → told → weight ≤ most_run held 0 → slot needed → short (most_run held 0) needed) → (told → refusal ≡ opening_refusal leased place l h s) → (told → weight ≤ opened_weight held) → IsOpeningFailure rose most (opening_refusal leased place l h s) e → IsFullBy more slot most weight e
    → IsRunRefusal rose' ⊥ told refusal short most held 0 e
failure_refused rose rose' told more refusal slot short most weight held leased place l h s e grow so means same light failure full = ⊎_elim
    (λ is. refusal_kind (λ f. (told → refusal ≡ Some f) → IsRunRefusal rose' ⊥ told refusal short most held 0 f) place _ (durable l h s) e (λ r. r) (λ r. r) (λ r. r) is (λ t. same t ∙ is))
    (λ other. ⊎_elim (λ memory. subst (IsRunRefusal rose' ⊥ told refusal short most held 0) (sym memory) (record {}))
    (λ disk. disk_refused rose rose' told more refusal slot short most weight held e grow so means (λ t. same t ∙ disk.0) light disk.1 full) other)
    failure

-- an error that refuses is some
pub some_refused : (refusal other : Option Error) (e : Error) → refusal ≡ other → refusal ≡ Some e → IsSome other
some_refused refusal other e same is = subst IsSome (sym is ∙ same) refl

-- ---- results

pub if_err_weaker : {T E : Type 0} (r : Result T E) (P Q : E → Type 0) → ((e : E) → P e → Q e) → IfErr r P → IfErr r Q
if_err_weaker (Ok x) P Q f p = record {}
if_err_weaker (Err e) P Q f p = f e p

pub if_err_two : {T E : Type 0} (r : Result T E) (P Q R : E → Type 0) → ((e : E) → P e → Q e → R e) → IfErr r P → IfErr r Q → IfErr r R
if_err_two (Ok x) P Q R f p q = record {}
if_err_two (Err e) P Q R f p q = f e p q

pub if_ok_weaker : {T E : Type 0} (r : Result T E) (P Q : T → Type 0) → ((x : T) → P x → Q x) → IfOk r P → IfOk r Q
if_ok_weaker (Ok x) P Q f p = f x p
if_ok_weaker (Err e) P Q f p = record {}

pub if_ok_two : {T E : Type 0} (r : Result T E) (P Q R : T → Type 0) → ((x : T) → P x → Q x → R x) → IfOk r P → IfOk r Q → IfOk r R
if_ok_two (Ok x) P Q R f p q = f x p q
if_ok_two (Err e) P Q R f p q = record {}

pub if_ok_on : {T E : Type 0} (r : Result T E) (P : Type 0) (Q : T → Type 0) → ((x : T) → P → Q x) → OnOk r P → IfOk r Q
if_ok_on (Ok x) P Q f p = f x p
if_ok_on (Err e) P Q f p = record {}

-- the entries above an index are no more than all
pub above_size : (index : ℕ) (entries : List LogEntry) → entries_size (above index entries) ≤ entries_size entries
above_size index [] = omega arith
above_size index (e ∷ es) = kept (nat_lt index e.index) (above_size index es) where
  kept : (b : Bool) → entries_size (above index es) ≤ entries_size es → entries_size (cond b (e ∷ above index es) (above index es)) ≤ length (entry_word e) + entries_size es
  kept true le = omega (arith, le)
  kept false le = omega (arith, le)
