-- How a run ended.
use Rattle.std.proofs.Common.{◌≡◌, ◌⊎◌, inl, inr, ◌<◌, ◌≤◌, ◌+◌, ◌*◌, ℕ, Option, Some, None, Result, Ok, Err, IfErr, refl, ap, subst, arith}
use Rattle.den_disk.specs.Goes.{Rose}
use Rattle.den_codec.specs.declared.error.Error.{Error}
use Rattle.den_codec.specs.declared.error.Error.TheVariants as error
use Rattle.den_core.specs.Full.{IsFullBy}
use Rattle.den_model.specs.Kv.{Durable, Kv, Running}
use Rattle.den_core.specs.Refusals.{IsServeRefusal}
use Rattle.den_core.specs.Weights.{run_weight}
use Rattle.den_server.specs.Causes.{IsRunRefusal, IsMuch, most_run}
use Rattle.den_server.specs.Opening.{opened_weight}

pub rose_then : (first before now : ℕ) → first ≤ before → Rose before now → Rose first now
rose_then first before now le rose = omega (arith, rose)

pub some_same : (o : Option Durable) (x y : Durable) → o ≡ Some x → o ≡ Some y → x ≡ y
some_same o x y p q = cc (p, q)

pub kv_is : (k : Kv) (d : Durable) (running : Running) → k.durable ≡ d → k.running ≡ running → k ≡ record { durable = d; running = running }
kv_is k d running p q = λ i. record { durable = p i; running = q i }

much_served : (most weight held taken : ℕ) → weight ≤ opened_weight held → most < 4 * run_weight weight taken → IsMuch most (held + taken)
much_served most weight held taken le h = omega (arith, h, le)

-- a run that ended with its opening
pub opening_ended : (disk_rose link_rose told : Type 0) (refusal : Option Error) (short then : (most needed : ℕ) → Type 0) (most held taken : ℕ) (e : Error)
    → ((needed : ℕ) → most_run held 0 ≤ most_run held taken → short (most_run held 0) needed → then (most_run held taken) needed) → IsRunRefusal disk_rose ⊥ told refusal short most held 0 e
    → IsRunRefusal disk_rose link_rose told refusal then most held taken e
opening_ended disk_rose link_rose told refusal short then most held taken error.OutOfMemory means h = h
opening_ended disk_rose link_rose told refusal short then most held taken error.StorageIoError means h = h
opening_ended disk_rose link_rose told refusal short then most held taken (error.DataCorruption place offset) means h = h
opening_ended disk_rose link_rose told refusal short then most held taken (error.DiskFull needed limit) means h = (
  h.0,
  record {
    size = h.1.size;
    room = h.1.room;
    above = h.1.above;
    accepted = h.1.accepted;
    bounded = λ t. omega (arith, h.1.bounded t);
    slot = λ t. means needed (omega arith) (h.1.slot t);
    much = λ t. omega (arith, h.1.much t);
  },
)
opening_ended disk_rose link_rose told refusal short then most held taken error.LinkFault means h = absurd h
opening_ended disk_rose link_rose told refusal short then most held taken error.FeatureNotEnabled means h = h
opening_ended disk_rose link_rose told refusal short then most held taken error.ProposeFailed means h = h
opening_ended disk_rose link_rose told refusal short then most held taken (error.UnorderedChunk index) means h = absurd h
opening_ended disk_rose link_rose told refusal short then most held taken (error.Config place) means h = absurd h
opening_ended disk_rose link_rose told refusal short then most held taken error.ConfigFault means h = absurd h
opening_ended disk_rose link_rose told refusal short then most held taken error.StateMachineError means h = absurd h

pub serving_ended : (disk_rose disk_rose' link_rose told more : Type 0) (refusal : Option Error) (slot : ℕ → Type 0) (short : (most needed : ℕ) → Type 0) (most weight held taken : ℕ) (e : Error) → (disk_rose → disk_rose') → (told → more)
    → ((needed : ℕ) → told → run_weight weight taken ≤ most_run held taken → slot needed → short (most_run held taken) needed) → (told → refusal ≡ None)
    → (told → weight ≤ opened_weight held) → IsServeRefusal disk_rose link_rose most e → IsFullBy more slot most (run_weight weight taken) e
    → IsRunRefusal disk_rose' link_rose told refusal short most held taken e
serving_ended disk_rose disk_rose' link_rose told more refusal slot short most weight held taken error.OutOfMemory grow so means none light h full = h
serving_ended disk_rose disk_rose' link_rose told more refusal slot short most weight held taken error.StorageIoError grow so means none light h full = grow h
serving_ended disk_rose disk_rose' link_rose told more refusal slot short most weight held taken (error.DataCorruption place offset) grow so means none light h full = absurd h
serving_ended disk_rose disk_rose' link_rose told more refusal slot short most weight held taken (error.DiskFull needed limit) grow so means none light h full = (
  h.1,
  record {
    size = full.1.size;
    room = full.1.room;
    above = subst (λ n. n < needed) h.1 h.0;
    accepted = none;
    bounded = λ t. omega (arith, full.1.within, light t);
    slot = λ t. means needed t (omega (arith, light t)) (full.2 (so t));
    much = λ t. much_served most weight held taken (light t) full.0;
  },
)
serving_ended disk_rose disk_rose' link_rose told more refusal slot short most weight held taken error.LinkFault grow so means none light h full = h
serving_ended disk_rose disk_rose' link_rose told more refusal slot short most weight held taken error.FeatureNotEnabled grow so means none light h full = absurd h
serving_ended disk_rose disk_rose' link_rose told more refusal slot short most weight held taken error.ProposeFailed grow so means none light h full = absurd h
serving_ended disk_rose disk_rose' link_rose told more refusal slot short most weight held taken (error.UnorderedChunk index) grow so means none light h full = absurd h
serving_ended disk_rose disk_rose' link_rose told more refusal slot short most weight held taken (error.Config place) grow so means none light h full = absurd h
serving_ended disk_rose disk_rose' link_rose told more refusal slot short most weight held taken error.ConfigFault grow so means none light h full = absurd h
serving_ended disk_rose disk_rose' link_rose told more refusal slot short most weight held taken error.StateMachineError grow so means none light h full = absurd h

some_is : (o : Option Error) (d e : Error) → o ≡ Some d → o ≡ Some e → d ≡ e
some_is o d e p q = cc (p, q)

none_is : (o : Option Error) (e : Error) → o ≡ None → o ≡ Some e → ⊥
none_is o e p q = cc (p, q)

-- files that are refused
pub away : (disk_rose told : Type 0) (refusal : Option Error) (short : (most needed : ℕ) → Type 0) (most held : ℕ) (e f : Error) → told → refusal ≡ Some e → IsRunRefusal disk_rose ⊥ told refusal short most held 0 f
    → (f ≡ e) ⊎ (f ≡ error.OutOfMemory) ⊎ (f ≡ error.StorageIoError)
away disk_rose told refusal short most held e error.OutOfMemory t is h = inr (inl refl)
away disk_rose told refusal short most held e error.StorageIoError t is h = inr (inr refl)
away disk_rose told refusal short most held e (error.DataCorruption place offset) t is h = inl (some_is refusal _ e (h t) is)
away disk_rose told refusal short most held e error.FeatureNotEnabled t is h = inl (some_is refusal _ e (h t) is)
away disk_rose told refusal short most held e error.ProposeFailed t is h = inl (some_is refusal _ e (h t) is)
away disk_rose told refusal short most held e (error.DiskFull needed limit) t is h = absurd (none_is refusal e (h.1.accepted t) is)
away disk_rose told refusal short most held e error.LinkFault t is h = absurd h
away disk_rose told refusal short most held e (error.UnorderedChunk index) t is h = absurd h
away disk_rose told refusal short most held e (error.Config place) t is h = absurd h
away disk_rose told refusal short most held e error.ConfigFault t is h = absurd h
away disk_rose told refusal short most held e error.StateMachineError t is h = absurd h

pub refused_not_read : (refusal : Option Error) (e : Error) → refusal ≡ None → refusal ≡ Some e → ⊥
refused_not_read = none_is

-- ---- nothing stood in the way

not_much : (most held taken left : ℕ) → taken ≤ left → IsMuch most (held + taken) → (IsMuch most (held + left) → ⊥) → ⊥
not_much most held taken left le much small = small (omega (arith, much))

completed_err : (disk_rose link_rose told : Type 0) (refusal : Option Error) (short : (most needed : ℕ) → Type 0) (most held taken left : ℕ) (e : Error) → told → refusal ≡ None → (disk_rose → ⊥) → (link_rose → ⊥)
    → taken ≤ left → (IsMuch most (held + left) → ⊥) → IsRunRefusal disk_rose link_rose told refusal short most held taken e → e ≡ error.OutOfMemory
completed_err disk_rose link_rose told refusal short most held taken left error.OutOfMemory t none disk link le small h = refl
completed_err disk_rose link_rose told refusal short most held taken left error.StorageIoError t none disk link le small h = absurd (disk h)
completed_err disk_rose link_rose told refusal short most held taken left (error.DataCorruption place offset) t none disk link le small h = absurd (none_is refusal _ none (h t))
completed_err disk_rose link_rose told refusal short most held taken left error.FeatureNotEnabled t none disk link le small h = absurd (none_is refusal _ none (h t))
completed_err disk_rose link_rose told refusal short most held taken left error.ProposeFailed t none disk link le small h = absurd (none_is refusal _ none (h t))
completed_err disk_rose link_rose told refusal short most held taken left (error.DiskFull needed limit) t none disk link le small h = absurd (not_much most held taken left le (h.1.much t) small)
completed_err disk_rose link_rose told refusal short most held taken left error.LinkFault t none disk link le small h = absurd (link h)
completed_err disk_rose link_rose told refusal short most held taken left (error.UnorderedChunk index) t none disk link le small h = absurd h
completed_err disk_rose link_rose told refusal short most held taken left (error.Config place) t none disk link le small h = absurd h
completed_err disk_rose link_rose told refusal short most held taken left error.ConfigFault t none disk link le small h = absurd h
completed_err disk_rose link_rose told refusal short most held taken left error.StateMachineError t none disk link le small h = absurd h

pub completed : (disk_rose link_rose told : Type 0) (refusal : Option Error) (short : (most needed : ℕ) → Type 0) (most held taken left : ℕ) (r : Result (Unit {0}) Error) → told → refusal ≡ None → (disk_rose → ⊥) → (link_rose → ⊥)
    → taken ≤ left → (IsMuch most (held + left) → ⊥) → IfErr r (IsRunRefusal disk_rose link_rose told refusal short most held taken) → (r ≡ Ok (record {})) ⊎ (r ≡ Err error.OutOfMemory)
completed disk_rose link_rose told refusal short most held taken left (Ok x) t none disk link le small h = inl refl
completed disk_rose link_rose told refusal short most held taken left (Err e) t none disk link le small h =
    inr (ap Err (completed_err disk_rose link_rose told refusal short most held taken left e t none disk link le small h))
