-- An opening, and the run behind it.
use Rattle.std.proofs.Common.{◌≡◌, ⊎_elim, ℕ, ◌≤◌, ◌<◌, List, [], ◌∷◌, ◌++◌, take, drop, Option, Result, Ok, refl, sym, ◌∙◌, ap, subst, append_assoc, arith}
use Rattle.std.proofs.lemmas.Bool.{cases_lt}
use Rattle.den_disk.specs.Files.{Files, Content, IsImage}
use Rattle.den_disk.specs.Goes.{IsPrefix, added}
use Rattle.den_disk.proofs.Images.{itself}
use Rattle.den_model.specs.Kv.{Durable, Kv}
use Rattle.den_model.specs.Log.{Log}
use Rattle.den_model.specs.Step.{Step}
use Rattle.den_model.specs.Plan.{after, output, plan_over}
use Rattle.den_model.specs.Image.{durable_in}
use Rattle.den_model.specs.Crash.{IsAfterSome, Survives, Stands, SentWithin, IsServed, sent_by, bytes_of}
use Rattle.den_model.proofs.Runs.{output_front}
use Rattle.den_core.specs.Full.{IsReached}
use Rattle.den_core.proofs.Lists.{added_none, sent_by_all, sent_by_none}
use Rattle.den_core.proofs.Stretch.{goes_on}
use Rattle.den_codec.specs.declared.config.RaftNodeConfig.{RaftNodeConfig}
use Rattle.den_codec.specs.Standard.{entered}
use Rattle.den_server.specs.Opening.{SurvivesOpening}

-- what is read is an image
pub reading_image : (c : Content) → IsImage c c.reading
reading_image c place = itself c.pending place (c.reading place)

within_from : (from later to : ℕ) (sent : List (ℕ × ℕ)) → from ≤ later → SentWithin later to sent → SentWithin from to sent
within_from from later to [] le within = record {}
within_from from later to (s ∷ sent) le within = (omega (arith, within.0), within.1, within_from from later to sent le within.2)

-- nothing is sent within no time
none_within : (from to : ℕ) (sent : List (ℕ × ℕ)) → to < from → SentWithin from to sent → sent ≡ []
none_within from to [] lt within = refl
none_within from to (s ∷ sent) lt within = absurd (omega (arith, within.0, within.1))

module _ (holds : Files → Option Durable) where
  -- a run goes on from where the opening ended
  pub opening_then : (old_images mid_images images : ℕ → Files → Type 0) (from mid to : ℕ) (done ok before same : Type 0) (sent : List (ℕ × ℕ)) (kv other : Kv) (steps : Kv → List Step)
      → done → mid ≤ to → ((t : ℕ) (files : Files) → t ≤ mid → images t files → mid_images t files)
      → SurvivesOpening holds old_images mid_images from mid done before [] kv [] → other ≡ kv → Survives holds images mid to sent other (steps other)
      → SurvivesOpening holds old_images images from to ok same sent kv (steps kv)
  opening_then old_images mid_images images from mid to done ok before same sent kv other steps is high past s equal run = let early = s.reached is in record {
    synced = s.synced;
    low = s.low;
    high = omega (arith, early);
    reached = λ o. omega (arith, early);
    none = λ lt. absurd (omega (arith, early));
    before = λ t files begun less ended at. s.before t files begun less (omega (arith, early)) (past t files (omega (arith, early)) at);
    behind = goes_on holds mid_images images s.synced mid to [] sent kv kv [] (steps kv) early high past s.behind refl refl
        (subst (λ (k : Kv). Survives holds images mid to sent k (steps k)) equal run);
  }

  -- an opening under an equal configuration
  pub of_node : (old_images images : ℕ → Files → Type 0) (from to : ℕ) (ok same : Type 0) (n m : RaftNodeConfig) (kept : Durable) → n ≡ m
      → SurvivesOpening holds old_images images from to ok same [] (entered n kept) [] → SurvivesOpening holds old_images images from to ok same [] (entered m kept) []
  of_node old_images images from to ok same n m kept equal s = subst (λ (k : RaftNodeConfig). SurvivesOpening holds old_images images from to ok same [] (entered k kept) []) equal s

  -- a run that ended with its opening took no reading and sent nothing
  pub no_reading : (old_images images : ℕ → Files → Type 0) (from to : ℕ) (ok same : Type 0) (sent : List (ℕ × ℕ)) (kv : Kv) (limit : ℕ) (left readings : List ℕ)
      → SurvivesOpening holds old_images images from to ok same [] kv []
      → SurvivesOpening holds old_images images from to ok same (added sent sent) kv (plan_over kv limit left (added readings readings))
  no_reading old_images images from to ok same sent kv limit left readings s =
      subst (λ r. SurvivesOpening holds old_images images from to ok same (added sent sent) kv (plan_over kv limit left r)) (sym (added_none readings))
      (subst (λ l. SurvivesOpening holds old_images images from to ok same l kv []) (sym (added_none sent)) s)

  -- where each image at entry stands for the state, the crash clause holds all along
  pub all_along : (old_images images : ℕ → Files → Type 0) (from to : ℕ) (ok same : Type 0) (sent : List (ℕ × ℕ)) (kv : Kv) (steps : List Step) → Stands holds old_images from kv.durable
      → SurvivesOpening holds old_images images from to ok same sent kv steps → Survives holds images from to sent kv steps
  all_along old_images images from to ok same sent kv steps stands s = record {
    each = λ t files begun ended at. ⊎_elim
        (λ early. record {
          count = 0;
          within = omega arith;
          stands = stands.each files (s.before t files begun early ended at);
          sent = record { rest = []; is = ap (λ bytes. bytes ++ []) (sent_by_none s.synced to sent t early s.behind.moments) };
        })
        (λ late. s.behind.each t files late ended at)
        (cases_lt t s.synced);
    moments = within_from from s.synced to sent s.low s.behind.moments;
  }

  -- what was sent is a front of what all steps write
  front_sent : (images : ℕ → Files → Type 0) (from to : ℕ) (sent : List (ℕ × ℕ)) (kv : Kv) (steps : List Step) (files : Files) → from ≤ to → images to files → Survives holds images from to sent kv steps
      → IsPrefix (bytes_of sent) (output kv steps)
  front_sent images from to sent kv steps files le at s =
      let some : IsAfterSome holds kv steps (sent_by sent to) files = s.each to files le (omega arith) at in
      let all : sent_by sent to ≡ bytes_of sent = sent_by_all from to sent to (omega arith) s.moments in
      let rest = output (after kv (take some.count steps)) (drop some.count steps) in
      record {
        rest = some.sent.rest ++ rest;
        is = sym (append_assoc (bytes_of sent) some.sent.rest rest) ∙ ap (λ l. l ++ some.sent.rest ++ rest) (sym all) ∙ ap (λ l. l ++ rest) some.sent.is ∙ sym (output_front kv some.count steps);
      }

  pub opening_front : (old_images images : ℕ → Files → Type 0) (from to : ℕ) (ok same : Type 0) (sent : List (ℕ × ℕ)) (kv : Kv) (steps : List Step) (files : Files) → images to files
      → SurvivesOpening holds old_images images from to ok same sent kv steps → IsPrefix (bytes_of sent) (output kv steps)
  opening_front old_images images from to ok same sent kv steps files at s = ⊎_elim
      (λ late. subst (λ (l : List (ℕ × ℕ)). IsPrefix (bytes_of l) (output kv steps)) (sym (none_within s.synced to sent late s.behind.moments)) (record { rest = output kv steps; is = refl }))
      (λ early. front_sent images s.synced to sent kv steps files early at s.behind)
      (cases_lt to s.synced)

-- a run from an equal state and an equal log
pub served_from : (logs : Files → Option Log) (images : ℕ → Files → Type 0) (to : ℕ) (left : List ℕ) (readings cut : ℕ) (sent : List (ℕ × ℕ)) (kv other : Kv) (log other_log : Log) (steps : Kv → List Step)
    → other ≡ kv → other_log ≡ log → IsServed durable_in logs images to left readings cut sent other other_log (steps other)
    → IsServed durable_in logs images to left readings cut sent kv log (steps kv)
served_from logs images to left readings cut sent kv other log other_log steps same same_log s =
    subst (λ (l : Log). IsServed durable_in logs images to left readings cut sent kv l (steps kv)) same_log
    (subst (λ (k : Kv). IsServed durable_in logs images to left readings cut sent k other_log (steps k)) same s)

-- the step of such a run that was refused
pub reached_from : (steps : Kv → List Step) (sent : List ℕ) (other first : Kv) (other_log old : Log) (kv : Kv) (log : Log) (next : Step) → other ≡ first → other_log ≡ old
    → IsReached other other_log (steps other) sent kv log next → IsReached first old (steps first) sent kv log next
reached_from steps sent other first other_log old kv log next same same_log reached =
    subst (λ (l : Log). IsReached first l (steps first) sent kv log next) same_log
    (subst (λ (k : Kv). IsReached k other_log (steps k) sent kv log next) same reached)

pub log_same : (r : Result Log ℕ) (x y : Log) → r ≡ Ok x → r ≡ Ok y → x ≡ y
log_same r x y p q = cc (p, q)
