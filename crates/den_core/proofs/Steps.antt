-- The steps that begin a term.
use Rattle.std.proofs.Common.{◌≡◌, ℕ, ◌≤◌, List, [], ◌∷◌, Option, Some, inl, refl, ◌∙◌, ap, subst}
use Rattle.std.proofs.lemmas.List.{append-nil}
use Rattle.den_disk.specs.declared.place.Family.{Family}
use Rattle.den_disk.specs.declared.place.Family.TheVariants.{Log as log_family, Meta as meta_family, State as state_family, Snapshot as snapshot_family}
use Rattle.den_disk.specs.Families.{OldOrNew}
use Rattle.den_disk.specs.Files.{Files}
use Rattle.den_model.specs.declared.command.Command.TheVariants as command
use Rattle.den_model.specs.Apply.{applied}
use Rattle.den_model.specs.Crash.{Survives}
use Rattle.den_model.specs.Kv.{Durable, Kv, Running}
use Rattle.den_core.specs.declared.run.Run.{Run}
use Rattle.den_model.specs.Grown.{appended, IsLogAfter, IsPurgedUpTo}
use Rattle.den_model.specs.Log.{Log, changed}
use Rattle.den_model.specs.Plan.{after, logged}
use Rattle.den_model.specs.declared.region.LogRegion.TheVariants.{Append}
use Rattle.den_model.proofs.Grown.{log_after, log_twice}
use Rattle.den_model.specs.Step.{Step, Raise, Noop, next_entry}
use Rattle.den_model.specs.declared.log_id.HardState.{HardState}
use Rattle.den_model.specs.declared.log_id.LogId.{LogId}
use Rattle.den_model.specs.MapState.{MapState}
use Rattle.den_core.specs.Full.{IsBegun}
use Rattle.den_core.specs.Parts.{kv_of, raised_by}
use Rattle.den_core.specs.PayloadSizes.{hard_state_sizes, next_term_sizes}
use Rattle.den_core.specs.Trimmed.{logged_after}
use Rattle.den_core.proofs.Quiet.{moves, longer, quiet_on}
use Rattle.den_core.proofs.Weighing.{AreAmong}

-- ---- a term that is begun

-- its steps, as they were begun
pub raise_begun : (kv : Kv) (log : Log) (moment : ℕ) → IsBegun kv log (Raise ∷ Noop moment ∷ []) kv log Raise
raise_begun kv log moment = record { made = []; rest = Noop moment ∷ []; parts = refl; state = refl; left_is = (inl refl, refl) }

pub noop_begun : (kv between : Kv) (log mid : Log) (moment : ℕ) → between ≡ after kv (Raise ∷ []) → mid ≡ log → IsBegun kv log (Raise ∷ Noop moment ∷ []) between mid (Noop moment)
noop_begun kv between log mid moment is same = record { made = Raise ∷ []; rest = []; parts = refl; state = is; left_is = (log_after log mid kv (Raise ∷ []) same, refl) }

-- this node is one that may be voted for
raise_adds : (id : ℕ) (h : Option HardState) (s : MapState) (running : Run) (family : Family) (n : ℕ) → (hard_state_sizes (raised_by id h)).adds family n → (next_term_sizes (kv_of h s running)).adds family n
raise_adds id h s running log_family n is = absurd is
raise_adds id h s running meta_family n is = absurd is
raise_adds id h s running state_family n is = absurd is
raise_adds id h s running snapshot_family n is = absurd is

raise_drafts : (id : ℕ) (h : Option HardState) (s : MapState) (running : Run) (family : Family) (n : ℕ) → (hard_state_sizes (raised_by id h)).drafts family n → (next_term_sizes (kv_of h s running)).drafts family n
raise_drafts id h s running log_family n is = absurd is
raise_drafts id h s running meta_family n is = (id, is)
raise_drafts id h s running state_family n is = absurd is
raise_drafts id h s running snapshot_family n is = absurd is

pub raise_among : (id : ℕ) (h : Option HardState) (s : MapState) (running : Run) → AreAmong (hard_state_sizes (raised_by id h)) (next_term_sizes (kv_of h s running))
raise_among id h s running = record { adds = raise_adds id h s running; drafts = raise_drafts id h s running }

-- the term was raised, or was not
pub term_begun : (holds : Files → Option Durable) (images : ℕ → Files → Type 0) (from to : ℕ) (kv : Kv) (moment : ℕ)
    → OldOrNew holds images from to kv.durable (after kv (Raise ∷ [])).durable → Survives holds images from to [] kv (Raise ∷ Noop moment ∷ [])
term_begun holds images from to kv moment one = longer holds images from to kv (Raise ∷ []) (Noop moment ∷ []) (moves holds images from to kv Raise one)

-- it was, and its first entry was made, or was not
pub term_made : (holds : Files → Option Durable) (old_at new_at : ℕ → Files → Type 0) (from mid to : ℕ) (kv between : Kv) (moment : ℕ)
    → between ≡ after kv (Raise ∷ []) → ((t : ℕ) (files : Files) → t ≤ mid → new_at t files → old_at t files)
    → OldOrNew holds old_at from mid kv.durable (after kv (Raise ∷ [])).durable
    → OldOrNew holds new_at mid to between.durable (applied between.durable (next_entry between moment command.Noop))
    → Survives holds new_at from to [] kv (Raise ∷ Noop moment ∷ [])
term_made holds old_at new_at from mid to kv between moment is past one two =
    quiet_on holds old_at new_at from mid to kv between (Raise ∷ []) (Noop moment ∷ []) past (moves holds old_at from mid kv Raise one) is
    (moves holds new_at mid to between (Noop moment) two)

-- what a raise leaves
pub raised_is : (id : ℕ) (h h2 : Option HardState) (s s2 : MapState) (running running2 : Run) → h2 ≡ Some (raised_by id h) → s2 ≡ s → running2 ≡ running
    → kv_of h2 s2 running2 ≡ after (kv_of h s running) (Raise ∷ [])
raised_is id h h2 s s2 running running2 saved same_map same_running =
    ap (λ x. kv_of x s2 running2) saved ∙ ap (λ x. kv_of (Some (raised_by id h)) x running2) same_map ∙ ap (λ x. kv_of (Some (raised_by id h)) s x) same_running

-- and its first entry
pub term_state : (kv between : Kv) (d : Durable) (running : Running) (moment : ℕ) → between ≡ after kv (Raise ∷ [])
    → d ≡ applied between.durable (next_entry between moment command.Noop) → running ≡ between.running → record { durable = d; running = running } ≡ after kv (Raise ∷ Noop moment ∷ [])
term_state kv between d running moment is made same =
    let one : record { durable = d; running = running } ≡ after between (Noop moment ∷ []) = ap (λ x. record { durable = x; running = running }) made ∙ ap (λ x. record { durable = applied between.durable (next_entry between moment command.Noop); running = x }) same in
    one ∙ ap (λ k. after k (Noop moment ∷ [])) is

-- entries joined it, and some were purged behind the last step
pub purged_after : (old new : Log) (kv : Kv) (steps : List Step) → IsPurgedUpTo (after kv steps).durable.last_index (appended old (logged kv steps)) new → IsLogAfter old kv steps new
purged_after old new kv steps purged =
    subst (λ xs. IsLogAfter old kv xs new) (append-nil steps)
    (log_twice old (appended old (logged kv steps)) new kv (after kv steps) steps [] refl (log_after old (appended old (logged kv steps)) kv steps refl) purged)

-- the term's first entry joined it
pub term_log : (old mid new : Log) (kv between : Kv) (moment : ℕ) → between ≡ after kv (Raise ∷ []) → mid ≡ old
    → IsPurgedUpTo (applied between.durable (next_entry between moment command.Noop)).last_index (changed mid (Append (next_entry between moment command.Noop ∷ []))) new → IsLogAfter old kv (Raise ∷ Noop moment ∷ []) new
term_log old mid new kv between moment is same joined =
    purged_after old new kv (Raise ∷ Noop moment ∷ [])
    (subst (λ (k : Kv). IsPurgedUpTo (applied k.durable (next_entry k moment command.Noop)).last_index (changed old (Append (next_entry k moment command.Noop ∷ []))) new) is
    (subst (λ (l : Log). IsPurgedUpTo (applied between.durable (next_entry between moment command.Noop)).last_index (changed l (Append (next_entry between moment command.Noop ∷ []))) new) same joined))

-- and it is as long as that makes it
pub term_trimmed : (old mid new : Log) (most same : ℕ) (mark : LogId) (kv between : Kv) (moment : ℕ) → between ≡ after kv (Raise ∷ []) → mid ≡ old → same ≡ most
    → new ≡ logged_after same mark mid (next_entry between moment command.Noop ∷ []) → new ≡ logged_after most mark old (logged kv (Raise ∷ Noop moment ∷ []))
term_trimmed old mid new most same mark kv between moment state same_log same_most is =
    is ∙ ap (λ n. logged_after n mark mid (next_entry between moment command.Noop ∷ [])) same_most
    ∙ ap (λ l. logged_after most mark l (next_entry between moment command.Noop ∷ [])) same_log
    ∙ ap (λ k. logged_after most mark old (next_entry k moment command.Noop ∷ [])) state
