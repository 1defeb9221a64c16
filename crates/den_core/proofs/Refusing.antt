-- What a refused call of an engine leaves.
use Rattle.std.proofs.Common.{◌≡◌, ◌⊎◌, ◌↔◌, inl, inr, ℕ, Bool, true, false, ◌||◌, IsTrue, Result, Ok, Err, OnOk, IfErr, refl, sym, ◌∙◌, subst}
use Rattle.std.specs.Result.{IsErrAnd}
use Rattle.den_codec.specs.declared.error.Error.{Error}
use Rattle.den_codec.specs.declared.error.Error.TheVariants.{OutOfMemory, StorageIoError, DiskFull, LinkFault, DataCorruption, FeatureNotEnabled, ProposeFailed, UnorderedChunk, Config, ConfigFault, StateMachineError}
use Rattle.den_journal.specs.Causes.{IsRefusal, IsOfDisk}
use Rattle.den_core.specs.Parts.{HasFailed}
use Rattle.den_core.specs.Refusals.{FailsOrStays}

-- memory was wanted, or the disk refused
pub fails_or_stays : (rose : Type 0) (most : ℕ) (e : Error) (failed untouched written : Type 0) → IsRefusal rose most e → (e ≡ OutOfMemory → untouched ⊎ (failed × written)) → (IsOfDisk e → failed)
    → FailsOrStays failed untouched written e
fails_or_stays rose most OutOfMemory failed untouched written cause memory disk = memory refl
fails_or_stays rose most StorageIoError failed untouched written cause memory disk = disk (record {})
fails_or_stays rose most (DiskFull needed limit) failed untouched written cause memory disk = disk (record {})
fails_or_stays rose most LinkFault failed untouched written cause memory disk = absurd cause
fails_or_stays rose most (DataCorruption place offset) failed untouched written cause memory disk = absurd cause
fails_or_stays rose most FeatureNotEnabled failed untouched written cause memory disk = absurd cause
fails_or_stays rose most ProposeFailed failed untouched written cause memory disk = absurd cause
fails_or_stays rose most (UnorderedChunk index) failed untouched written cause memory disk = absurd cause
fails_or_stays rose most (Config place) failed untouched written cause memory disk = absurd cause
fails_or_stays rose most ConfigFault failed untouched written cause memory disk = absurd cause
fails_or_stays rose most StateMachineError failed untouched written cause memory disk = absurd cause

-- behind a write
pub fails_behind : (e : Error) (failed untouched written : Type 0) → failed → written → FailsOrStays failed untouched written e
fails_behind OutOfMemory failed untouched written fails wrote = inr (fails, wrote)
fails_behind StorageIoError failed untouched written fails wrote = fails
fails_behind (DiskFull needed limit) failed untouched written fails wrote = fails
fails_behind LinkFault failed untouched written fails wrote = fails
fails_behind (DataCorruption place offset) failed untouched written fails wrote = fails
fails_behind FeatureNotEnabled failed untouched written fails wrote = fails
fails_behind ProposeFailed failed untouched written fails wrote = fails
fails_behind (UnorderedChunk index) failed untouched written fails wrote = fails
fails_behind (Config place) failed untouched written fails wrote = fails
fails_behind ConfigFault failed untouched written fails wrote = fails
fails_behind StateMachineError failed untouched written fails wrote = fails

-- of a call that a longer one ends with
pub left_weaker : (e : Error) (failed untouched written more : Type 0) → (written → more) → FailsOrStays failed untouched written e → FailsOrStays failed untouched more e
left_weaker OutOfMemory failed untouched written more so (inl stays) = inl stays
left_weaker OutOfMemory failed untouched written more so (inr fails) = inr (fails.0, so fails.1)
left_weaker StorageIoError failed untouched written more so left = left
left_weaker (DiskFull needed limit) failed untouched written more so left = left
left_weaker LinkFault failed untouched written more so left = left
left_weaker (DataCorruption place offset) failed untouched written more so left = left
left_weaker FeatureNotEnabled failed untouched written more so left = left
left_weaker ProposeFailed failed untouched written more so left = left
left_weaker (UnorderedChunk index) failed untouched written more so left = left
left_weaker (Config place) failed untouched written more so left = left
left_weaker ConfigFault failed untouched written more so left = left
left_weaker StateMachineError failed untouched written more so left = left

-- want of memory before a write
pub memory_stays : (e : Error) (failed untouched written : Type 0) → e ≡ OutOfMemory → untouched → FailsOrStays failed untouched written e
memory_stays e failed untouched written is stays = subst (FailsOrStays failed untouched written) (sym is) (inl stays)

-- a store that does not end for want of memory
pub untouched_only : {A B : Type 0} → (B → ⊥) → A ⊎ B → A
untouched_only never (inl a) = a
untouched_only never (inr lost) = absurd (never lost)

-- at the exit of a call that answers its callee's refusal
pub at_exit : {T : Type 0} (r : Result T Error) (e : Error) (P : Error → Type 0) → IsErrAnd r (λ y. y ≡ e) → P e → IfErr r P
at_exit (Ok x) e P is h = record {}
at_exit (Err y) e P is h = subst P (sym is) h

-- nothing is promised at Ok there
pub not_done : {T : Type 0} (r : Result T Error) (e : Error) (done : Type 0) → IsErrAnd r (λ y. y ≡ e) → OnOk r done
not_done (Ok x) e done is = absurd is
not_done (Err y) e done is = tt

-- of a call behind another one, of the same kind of disk
pub refusal_behind : (rose more : Type 0) (most same : ℕ) (e : Error) → (rose → more) → same ≡ most → IsRefusal rose same e → IsRefusal more most e
refusal_behind rose more most same OutOfMemory so is cause = tt
refusal_behind rose more most same StorageIoError so is cause = so cause
refusal_behind rose more most same (DiskFull needed limit) so is cause = (cause.0, cause.1 ∙ is)
refusal_behind rose more most same LinkFault so is cause = cause
refusal_behind rose more most same (DataCorruption place offset) so is cause = cause
refusal_behind rose more most same FeatureNotEnabled so is cause = cause
refusal_behind rose more most same ProposeFailed so is cause = cause
refusal_behind rose more most same (UnorderedChunk index) so is cause = cause
refusal_behind rose more most same (Config place) so is cause = cause
refusal_behind rose more most same ConfigFault so is cause = cause
refusal_behind rose more most same StateMachineError so is cause = cause

-- three facts of a refusal as one
pub if_err_three : {T : Type 0} (r : Result T Error) (P Q R S : Error → Type 0) → ((e : Error) → P e → Q e → R e → S e) → IfErr r P → IfErr r Q → IfErr r R → IfErr r S
if_err_three (Ok x) P Q R S f p q s = tt
if_err_three (Err e) P Q R S f p q s = f e p q s

pub if_err_weaker : {T : Type 0} (r : Result T Error) (P Q : Error → Type 0) → ((e : Error) → P e → Q e) → IfErr r P → IfErr r Q
if_err_weaker (Ok x) P Q f h = record {}
if_err_weaker (Err e) P Q f h = f e h

-- ---- the flags of an engine and of its stores

-- a flag that tells whether a store has failed
tells_failed : (flag : Bool) (ready : Type 0) → (flag ≡ false) ↔ ready → IsTrue flag → ready → ⊥
tells_failed true ready is set now = let bad : true ≡ false = is.1 now in cc
tells_failed false ready is set now = cc set

pub flags_tell : (failed log meta state : Bool) (a b c : Type 0) → (log ≡ false) ↔ a → (meta ≡ false) ↔ b → (state ≡ false) ↔ c
    → IsTrue (failed || log || meta || state) → HasFailed failed a b c
flags_tell true log meta state a b c x y z set = inl refl
flags_tell false true meta state a b c x y z set = inr (inl (tells_failed true a x set))
flags_tell false false true state a b c x y z set = inr (inr (inl (tells_failed true b y set)))
flags_tell false false false state a b c x y z set = inr (inr (inr (tells_failed state c z set)))

-- a store that cannot go on is told to have failed
told_failed : (flag : Bool) (ready : Type 0) → (flag ≡ false) ↔ ready → (ready → ⊥) → flag ≡ true
told_failed true ready is never = refl
told_failed false ready is never = absurd (never (is.0 refl))

first : (failed log meta state : Bool) → failed ≡ true → IsTrue (failed || log || meta || state)
first failed log meta state set = subst (λ b. IsTrue (b || log || meta || state)) (sym set) refl

second : (failed log meta state : Bool) → log ≡ true → IsTrue (failed || log || meta || state)
second true log meta state set = refl
second false log meta state set = subst (λ b. IsTrue (b || meta || state)) (sym set) refl

third : (failed log meta state : Bool) → meta ≡ true → IsTrue (failed || log || meta || state)
third true log meta state set = refl
third false true meta state set = refl
third false false meta state set = subst (λ b. IsTrue (b || state)) (sym set) refl

fourth : (failed log meta state : Bool) → state ≡ true → IsTrue (failed || log || meta || state)
fourth true log meta state set = refl
fourth false true meta state set = refl
fourth false false true state set = refl
fourth false false false state set = subst (λ b. IsTrue b) (sym set) refl

pub flags_told : (failed log meta state : Bool) (a b c : Type 0) → (log ≡ false) ↔ a → (meta ≡ false) ↔ b → (state ≡ false) ↔ c
    → HasFailed failed a b c → IsTrue (failed || log || meta || state)
flags_told failed log meta state a b c x y z (inl flag) = first failed log meta state flag
flags_told failed log meta state a b c x y z (inr (inl lost)) = second failed log meta state (told_failed log a x lost)
flags_told failed log meta state a b c x y z (inr (inr (inl lost))) = third failed log meta state (told_failed meta b y lost)
flags_told failed log meta state a b c x y z (inr (inr (inr lost))) = fourth failed log meta state (told_failed state c z lost)
