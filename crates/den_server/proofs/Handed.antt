-- A run over stores as they are handed in: how its opening and its loop go together.
use Rattle.std.proofs.Common.{◌≡◌, ◌⊎◌, inl, inr, ℕ, ◌≤◌, Bool, true, false, List, [], Option, Some, None, Result, Ok, Err, OnOk, refl, sym, subst, arith}
use Rattle.den_disk.specs.Files.{Files}
use Rattle.den_disk.specs.Goes.{IsPrefix, added}
use Rattle.den_codec.specs.declared.error.Error.{Error}
use Rattle.den_codec.specs.declared.error.Error.TheVariants as error
use Rattle.den_model.specs.Crash.{IsServed, Survives, bytes_of}
use Rattle.den_model.specs.Grown.{IsPurgedUpTo}
use Rattle.den_model.specs.Kv.{Durable, Kv, Running}
use Rattle.den_model.specs.Log.{Log}
use Rattle.den_model.specs.Plan.{plan_over}
use Rattle.den_model.specs.Step.{Step}
use Rattle.den_journal.specs.Causes.{IsRefusal}
use Rattle.den_core.specs.Full.{IsReached}
use Rattle.den_core.specs.Opening.{IsOpeningFailure}
use Rattle.den_core.specs.Refusals.{IsServeRefusal}
use Rattle.den_core.specs.Weights.{run_weight}
use Rattle.den_model.proofs.Grown.{log_twice}
use Rattle.den_core.proofs.Lists.{added_none}
use Rattle.den_core.proofs.Stretch.{goes_on}
use Rattle.den_server.specs.Custom.{IsCustomRefusal}
use Rattle.den_server.proofs.Ended.{kv_is, some_same}

-- the state from which an opened engine runs
pub runs_from : (o : Option Durable) (kv : Kv) (kept : Durable) (running : Running) → o ≡ Some kv.durable → kv.running ≡ running → o ≡ Some kept → kv ≡ record { durable = kept; running = running }
runs_from o kv kept running opened is keep = kv_is kv kept running (some_same o kv.durable kept opened keep) is

pub on_ok_two : {T E P Q X : Type 0} (r : Result T E) → (P → Q → X) → OnOk r P → OnOk r Q → OnOk r X
on_ok_two (Ok x) f p q = f p q
on_ok_two (Err e) f p q = record {}

-- ---- what was sent, and what a crash leaves

-- a run that ended with its opening sent nothing
pub nothing_sent : (sent : List (ℕ × ℕ)) (all : List ℕ) → IsPrefix (bytes_of (added sent sent)) all
nothing_sent sent all = subst (λ (l : List (ℕ × ℕ)). IsPrefix (bytes_of l) all) (sym (added_none sent)) (record { rest = all; is = refl })

module _ (holds : Files → Option Durable) where
  -- nor did it take a reading
  pub ends_with_opening : (images : ℕ → Files → Type 0) (from to : ℕ) (sent : List (ℕ × ℕ)) (kv : Kv) (limit : ℕ) (input readings : List ℕ)
      → Survives holds images from to [] kv [] → Survives holds images from to (added sent sent) kv (plan_over kv limit input (added readings readings))
  ends_with_opening images from to sent kv limit input readings s =
      subst (λ (r : List ℕ). Survives holds images from to (added sent sent) kv (plan_over kv limit input r)) (sym (added_none readings))
      (subst (λ (l : List (ℕ × ℕ)). Survives holds images from to l kv []) (sym (added_none sent)) s)

  -- a run goes on from where the opening ended
  pub goes_on_from : (old_images images : ℕ → Files → Type 0) (from mid to : ℕ) (sent : List (ℕ × ℕ)) (kv other : Kv) (steps : Kv → List Step)
      → from ≤ mid → mid ≤ to → ((t : ℕ) (files : Files) → t ≤ mid → images t files → old_images t files) → other ≡ kv
      → Survives holds old_images from mid [] kv [] → Survives holds images mid to sent other (steps other) → Survives holds images from to sent kv (steps kv)
  goes_on_from old_images images from mid to sent kv other steps low high past same one two =
      goes_on holds old_images images from mid to [] sent kv kv [] (steps kv) low high past one refl refl
      (subst (λ (k : Kv). Survives holds images mid to sent k (steps k)) same two)

  -- a run from an equal state, over a log of which entries were purged
  pub served_over : (logs : Files → Option Log) (images : ℕ → Files → Type 0) (to : ℕ) (left : List ℕ) (readings cut : ℕ) (sent : List (ℕ × ℕ)) (kv other : Kv) (log other_log : Log) (steps : Kv → List Step)
      → other ≡ kv → IsPurgedUpTo other.durable.last_index log other_log → IsServed holds logs images to left readings cut sent other other_log (steps other)
      → IsServed holds logs images to left readings cut sent kv log (steps kv)
  served_over logs images to left readings cut sent kv other log other_log steps same purged s =
      subst (λ (k : Kv). IsServed holds logs images to left readings cut sent k log (steps k)) same
      (record {
        answered = s.answered;
        end_stands = s.end_stands;
        log_stands = record {
          each = λ files at.
              let given = s.log_stands.each files at in
              (given.0, given.1, log_twice log other_log given.0 other other [] (steps other) refl purged given.2);
        };
      })

-- the step of such a run that was refused
pub reached_over : (steps : Kv → List Step) (sent : List ℕ) (other first : Kv) (other_log old : Log) (kv : Kv) (log : Log) (next : Step) → other ≡ first → IsPurgedUpTo other.durable.last_index old other_log
    → IsReached other other_log (steps other) sent kv log next → IsReached first old (steps first) sent kv log next
reached_over steps sent other first other_log old kv log next same purged reached =
    subst (λ (k : Kv). IsReached k old (steps k) sent kv log next) same
    (record {
      made = reached.made;
      rest = reached.rest;
      parts = reached.parts;
      state = reached.state;
      left_is = (log_twice old other_log log other other [] reached.made refl purged reached.left_is.0, reached.left_is.1);
    })

-- a core leads, or what holds where it does not
pub led_or : (led : Bool) (P : Type 0) → (led ≡ false → P) → (led ≡ true) ⊎ P
led_or true P following = inl refl
led_or false P following = inr (following refl)

-- ---- why it ended

-- what the disk refuses an opening
disk_refuses : (rose link_rose : Type 0) (most : ℕ) (e : Error) → IsRefusal rose most e → IsServeRefusal rose link_rose most e
disk_refuses rose link_rose most error.OutOfMemory h = h
disk_refuses rose link_rose most error.StorageIoError h = h
disk_refuses rose link_rose most (error.DiskFull needed limit) h = h
disk_refuses rose link_rose most error.LinkFault h = absurd h
disk_refuses rose link_rose most (error.DataCorruption place offset) h = absurd h
disk_refuses rose link_rose most error.FeatureNotEnabled h = absurd h
disk_refuses rose link_rose most error.ProposeFailed h = absurd h
disk_refuses rose link_rose most (error.UnorderedChunk index) h = absurd h
disk_refuses rose link_rose most (error.Config place) h = absurd h
disk_refuses rose link_rose most error.ConfigFault h = absurd h
disk_refuses rose link_rose most error.StateMachineError h = absurd h

-- the disk's count rose since an earlier moment
rose_before : (rose more link_rose : Type 0) (most : ℕ) (e : Error) → (rose → more) → IsServeRefusal rose link_rose most e → IsServeRefusal more link_rose most e
rose_before rose more link_rose most error.OutOfMemory grow h = h
rose_before rose more link_rose most error.StorageIoError grow h = grow h
rose_before rose more link_rose most (error.DiskFull needed limit) grow h = h
rose_before rose more link_rose most error.LinkFault grow h = h
rose_before rose more link_rose most (error.DataCorruption place offset) grow h = absurd h
rose_before rose more link_rose most error.FeatureNotEnabled grow h = absurd h
rose_before rose more link_rose most error.ProposeFailed grow h = absurd h
rose_before rose more link_rose most (error.UnorderedChunk index) grow h = absurd h
rose_before rose more link_rose most (error.Config place) grow h = absurd h
rose_before rose more link_rose most error.ConfigFault grow h = absurd h
rose_before rose more link_rose most error.StateMachineError grow h = absurd h

pub opening_cause : (rose link_rose : Type 0) (most : ℕ) (refusal : Option Error) (full : Type 0) (e : Error) → IsOpeningFailure rose most refusal e → full → IsCustomRefusal rose link_rose most refusal full e
opening_cause rose link_rose most refusal full e (inl is) f = inl is
opening_cause rose link_rose most refusal full e (inr (inl memory)) f = inr (inl memory)
opening_cause rose link_rose most refusal full e (inr (inr disk)) f = inr (inr (disk.0, disk_refuses rose link_rose most e disk.1, f))

pub serving_cause : (rose more link_rose : Type 0) (most same : ℕ) (refusal : Option Error) (full : Type 0) (e : Error) → (rose → more) → same ≡ most → refusal ≡ None
    → IsServeRefusal rose link_rose same e → full → IsCustomRefusal more link_rose most refusal full e
serving_cause rose more link_rose most same refusal full e grow is none h f =
    inr (inr (none, rose_before rose more link_rose most e grow (subst (λ n. IsServeRefusal rose link_rose n e) is h), f))

same_error : (o : Option Error) (d e : Error) → o ≡ Some d → o ≡ Some e → e ≡ d
same_error o d e p q = cc (p, q)

pub never_both : (o : Option Error) (e : Error) → o ≡ None → o ≡ Some e → ⊥
never_both o e p q = cc (p, q)

-- where opening refuses, that is answered, or want of memory
pub named_so : (rose : Type 0) (most : ℕ) (refusal : Option Error) (d e : Error) → refusal ≡ Some d → IsOpeningFailure rose most refusal e → (e ≡ d) ⊎ (e ≡ error.OutOfMemory)
named_so rose most refusal d e is (inl p) = inl (same_error refusal d e is p)
named_so rose most refusal d e is (inr (inl memory)) = inr memory
named_so rose most refusal d e is (inr (inr disk)) = absurd (never_both refusal d disk.0 is)

-- ---- what it weighs

pub opening_lighter : (brought taken : ℕ) → brought ≤ run_weight brought taken
opening_lighter brought taken = omega arith

pub run_lighter : (weight brought taken : ℕ) → weight ≤ brought → run_weight weight taken ≤ run_weight brought taken
run_lighter weight brought taken le = omega (arith, le)
