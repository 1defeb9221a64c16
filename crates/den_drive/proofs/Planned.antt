-- A plan whose last frame is a scan: what it leaves, and how what it says ends.
use Rattle.std.proofs.Common.{◌≡◌, ℕ, suc, ◌+◌, ◌-◌, ◌==◌, ◌&&◌, ◌||◌, ◌^◌, ◌≤◌, not, Bool, true, false, List, [], ◌∷◌, ◌++◌, length, map, refl, sym, ap, subst, ◌∙◌, append_assoc, arith}
use Rattle.std.specs.Prelude.{Option, None, Some, if◌then◌else◌}
use Rattle.std.specs.List.{flat_map}
use Rattle.std.proofs.lemmas.Grind.{flat_map-append}
use Rattle.std.proofs.lemmas.List.{append-nil, length-append}
use Rattle.den_model.specs.declared.command.Command.{Command}
use Rattle.den_model.specs.declared.command.WriteOperation.{WriteOperation}
use Rattle.den_model.specs.declared.held.Held.{Held}
use Rattle.den_model.specs.declared.reply.Reply.{Reply}
use Rattle.den_model.specs.declared.reply.Reply.TheVariants.{Scan as Scanned}
use Rattle.den_model.specs.declared.reply.WatchEvent.{WatchEvent}
use Rattle.den_model.specs.declared.request.Frame.{Frame}
use Rattle.den_model.specs.declared.request.Frame.TheVariants.{Good, Bad}
use Rattle.den_model.specs.declared.request.Request.{Request}
use Rattle.den_model.specs.declared.request.Request.TheVariants.{Write, Read, Scan, Watch, Members}
use Rattle.den_model.specs.Frames.{framed}
use Rattle.den_model.specs.Kv.{Kv, Setting}
use Rattle.den_model.specs.Plan.{after, first_cleanup, new_term, opening, output, plan, said, turn, turns}
use Rattle.den_model.specs.Spelling.{event_word, reply_word}
use Rattle.den_model.specs.Step.{Step, Raise, Noop, Cleanup, Ask, Outcome, answer_to, are_full, command_of, has_ttl, is_leader, is_prefix, leads, may_be_old, moment_of, not_leader, pairs_under, says, scan, step, write}
use Rattle.den_model.specs.Table.{Table}
use Rattle.den_model.proofs.Runs.{after_append, output_append}
use Rattle.den_drive.specs.Report.{EndsWith}

-- ---- what no step changes, and how far the index goes

-- the setting stays, and the index rises by 1 at most
record Follows (s new : Kv) : Type 0 where
  setting : new.running.setting ≡ s.running.setting
  index : new.durable.last_index ≤ s.durable.last_index + 1

same : (s : Kv) → Follows s s
same s = record { setting = refl; index = omega arith }

-- of what is chosen both
either : (s : Kv) (b : Bool) (x y : Outcome) → Follows s x.after → Follows s y.after → Follows s (if b then x else y).after
either s true x y this that = this
either s false x y this that = that

follows_write : (s : Kv) (moment : ℕ) (c : Command) → Follows s (write s moment c).after
follows_write s moment c =
    either s (not (leads s)) _ _ (same s) (either s (has_ttl c && not s.running.setting.lease) _ _ (same s)
    (either s (s.durable.last_index == 2 ^ 64 - 1) _ _ (same s) (record { setting = refl; index = omega arith })))

follows_operation : (s : Kv) (moment client_id : ℕ) (o : Option WriteOperation) → Follows s (answer_to s moment (Write (record { client_id = client_id; command = o }))).after
follows_operation s moment client_id None = same s
follows_operation s moment client_id (Some o) = follows_write s moment (command_of o)

follows_request : (s : Kv) (moment : ℕ) (r : Request) → Follows s (answer_to s moment r).after
follows_request s moment (Write w) = follows_operation s moment w.client_id w.command
follows_request s moment (Read r) = either s (leads s || may_be_old r.consistency_policy) _ _ (same s) (same s)
follows_request s moment (Scan client_id prefix) = either s (leads s) _ _ (same s) (same s)
follows_request s moment (Watch client_id prefix prev_kv key) =
    either s (prefix && not (is_prefix key)) _ _ (same s) (either s (are_full s.running.setting.maximum s.running.registered s.running.watchers) _ _ (same s) (record { setting = refl; index = omega arith }))
follows_request s moment (Members client_id) = same s

follows : (s : Kv) (x : Step) → Follows s (step s x).after
follows s Raise = record { setting = refl; index = omega arith }
follows s (Noop moment) = record { setting = refl; index = omega arith }
follows s (Cleanup moment) = record { setting = refl; index = omega arith }
follows s (Ask Bad moment) = same s
follows s (Ask (Good r) moment) = follows_request s moment r

setting_after : (s : Kv) (xs : List Step) → (after s xs).running.setting ≡ s.running.setting
setting_after s [] = refl
setting_after s (x ∷ xs) = setting_after (step s x).after xs ∙ (follows s x).setting

index_after : (s : Kv) (xs : List Step) → (after s xs).durable.last_index ≤ s.durable.last_index + length xs
index_after s [] = omega arith
index_after s (x ∷ xs) = omega (arith, index_after (step s x).after xs, (follows s x).index)

-- ---- the last frame's step is the last

turn_is : (s : Kv) (f : Frame) (moment : ℕ) → s.running.setting.lease ≡ false → turn s f moment ≡ Ask f moment ∷ []
turn_is s f moment none = rw none refl

-- the steps before the last, and the moment of that
pub record HasLast (most : ℕ) (f : Frame) (steps : List Step) : Type 0 where
  pub before : List Step
  pub moment : ℕ
  pub few : length before ≤ most
  pub is : steps ≡ before ++ Ask f moment ∷ []

turns_end : (s : Kv) (fs : List Frame) (f : Frame) (readings : List ℕ) → s.running.setting.lease ≡ false → length readings ≡ length fs + 1 → HasLast (length fs) f (turns s (fs ++ f ∷ []) readings)
turns_end s fs f [] none long = absurd (omega arith)
turns_end s [] f (r ∷ []) none long = record {
  before = [];
  moment = moment_of r;
  few = omega arith;
  is = ap (λ t. t ++ []) (turn_is s f (moment_of r) none);
}
turns_end s [] f (r ∷ q ∷ rs) none long = absurd (omega arith)
turns_end s (g ∷ fs) f (r ∷ rs) none long =
    let steps = turn s g (moment_of r) in
    let rest = turns_end (after s steps) fs f rs (ap (λ (x : Setting). x.lease) (setting_after s steps) ∙ none) (omega arith) in
    record {
      before = steps ++ rest.before;
      moment = rest.moment;
      few = omega (arith, rest.few, length-append steps rest.before, ap length (turn_is s g (moment_of r) none));
      is = ap (λ t. steps ++ t) rest.is ∙ sym (append_assoc steps rest.before (Ask f rest.moment ∷ []));
    }

new_term_few : (s : Kv) (moment : ℕ) → length (new_term s moment) ≤ 2
new_term_few s moment = go (leads s)
  where
    go : (b : Bool) → length (if b then Raise ∷ Noop moment ∷ [] else []) ≤ 2
    go true = omega arith
    go false = omega arith

no_first : (s : Kv) (moment : ℕ) → s.running.setting.lease ≡ false → first_cleanup s moment ≡ []
no_first s moment none = rw none refl

pub plan_end : (s : Kv) (fs : List Frame) (f : Frame) (readings : List ℕ) → s.running.setting.lease ≡ false → length readings ≡ length fs + 2 → HasLast (length fs + 2) f (plan s (fs ++ f ∷ []) readings)
plan_end s fs f [] none long = absurd (omega arith)
plan_end s fs f (r ∷ rs) none long =
    let steps = opening s (moment_of r) in
    let rest = turns_end (after s steps) fs f rs (ap (λ (x : Setting). x.lease) (setting_after s steps) ∙ none) (omega arith) in
    record {
      before = steps ++ rest.before;
      moment = rest.moment;
      few = omega (arith, rest.few, length-append steps rest.before, length-append (new_term s (moment_of r)) (first_cleanup s (moment_of r)), new_term_few s (moment_of r), ap length (no_first s (moment_of r) none));
      is = ap (λ t. steps ++ t) rest.is ∙ sym (append_assoc steps rest.before (Ask f rest.moment ∷ []));
    }

-- ---- what steps say is frames

reply_bodies : Option Reply → List (List ℕ)
reply_bodies None = []
reply_bodies (Some r) = reply_word r ∷ []

bodies : Kv → List Step → List (List ℕ)
bodies s [] = []
bodies s (x ∷ xs) = (reply_bodies (step s x).reply ++ map event_word (step s x).events) ++ bodies (step s x).after xs

reply_framed : (r : Option Reply) → elim r [ None ↦ [] | Some r ↦ framed (reply_word r) ] ≡ flat_map framed (reply_bodies r)
unfolding reply_bodies
reply_framed None = refl
reply_framed (Some r) = sym (append-nil (framed (reply_word r)))

events_framed : (es : List WatchEvent) → flat_map (λ e. framed (event_word e)) es ≡ flat_map framed (map event_word es)
events_framed [] = refl
events_framed (e ∷ es) = ap (λ (l : List ℕ). framed (event_word e) ++ l) (events_framed es)

said_framed : (o : Outcome) → said o ≡ flat_map framed (reply_bodies o.reply ++ map event_word o.events)
said_framed o =
    ap (λ (l : List ℕ). l ++ flat_map (λ e. framed (event_word e)) o.events) (reply_framed o.reply)
    ∙ ap (λ (l : List ℕ). flat_map framed (reply_bodies o.reply) ++ l) (events_framed o.events)
    ∙ sym (flat_map-append framed (reply_bodies o.reply) (map event_word o.events))

output_framed : (s : Kv) (xs : List Step) → output s xs ≡ flat_map framed (bodies s xs)
unfolding bodies
output_framed s [] = refl
output_framed s (x ∷ xs) =
    let here = reply_bodies (step s x).reply ++ map event_word (step s x).events in
    ap (λ (l : List ℕ). l ++ output (step s x).after xs) (said_framed (step s x))
    ∙ ap (λ (l : List ℕ). flat_map framed here ++ l) (output_framed (step s x).after xs)
    ∙ sym (flat_map-append framed here (bodies (step s x).after xs))

-- ---- the scan

scan_said : (s : Kv) (prefix : List ℕ) → leads s ≡ true → said (scan s prefix) ≡ framed (reply_word (Scanned (record { entries = pairs_under s.durable.pairs prefix; revision = s.durable.last_index })))
scan_said s prefix leading = rw leading (append-nil _)

scan_stays : (s : Kv) (prefix : List ℕ) → (scan s prefix).after ≡ s
scan_stays s prefix = go (leads s) (Scanned (record { entries = pairs_under s.durable.pairs prefix; revision = s.durable.last_index }))
  where
    go : (b : Bool) (r : Reply) → (if b then says s r else not_leader s).after ≡ s
    go true r = refl
    go false r = refl

pub all_pairs : (pairs : Table Held) → length (pairs_under pairs []) ≡ length pairs
all_pairs [] = refl
all_pairs (p ∷ ps) = ap suc (all_pairs ps)

-- ---- all of it

-- where the last frame is a scan of all: how what the plan says ends, and that the index is small
pub record EndsScanned (s : Kv) (steps : List Step) : Type 0 where
  pub ends : EndsWith (output s steps) (reply_word (Scanned (record { entries = pairs_under (after s steps).durable.pairs []; revision = (after s steps).durable.last_index })))
  pub low : (after s steps).durable.last_index ≤ s.durable.last_index + length steps

ends_scanned : (s : Kv) (before : List Step) (moment client_id : ℕ) → leads s ≡ true → EndsScanned s (before ++ Ask (Good (Scan client_id [])) moment ∷ [])
ends_scanned s before moment client_id leading =
    let last = Ask (Good (Scan client_id [])) moment in
    let held = after s before in
    let leads_then : leads held ≡ true = ap (λ (x : Setting). is_leader x.role) (setting_after s before) ∙ leading in
    let end : after s (before ++ last ∷ []) ≡ held = after_append s before (last ∷ []) ∙ scan_stays held [] in
    let word = λ (k : Kv). reply_word (Scanned (record { entries = pairs_under k.durable.pairs []; revision = k.durable.last_index })) in
    let says_last : output s (before ++ last ∷ []) ≡ flat_map framed (bodies s before) ++ framed (word held) =
    output_append s before (last ∷ []) ∙ ap (λ (l : List ℕ). l ++ output held (last ∷ [])) (output_framed s before)
    ∙ ap (λ (l : List ℕ). flat_map framed (bodies s before) ++ l) (append-nil (said (scan held [])) ∙ scan_said held [] leads_then) in
    record {
      ends = record { earlier = bodies s before; is = says_last ∙ ap (λ (k : Kv). flat_map framed (bodies s before) ++ framed (word k)) (sym end) };
      low = index_after s (before ++ last ∷ []);
    }

pub scanned_end : (s : Kv) (fs : List Frame) (client_id : ℕ) (readings : List ℕ) → s.running.setting.lease ≡ false → leads s ≡ true → length readings ≡ length fs + 2
    → EndsScanned s (plan s (fs ++ Good (Scan client_id []) ∷ []) readings) × (length (plan s (fs ++ Good (Scan client_id []) ∷ []) readings) ≤ length fs + 3)
scanned_end s fs client_id readings none leading long =
    let last = Ask (Good (Scan client_id [])) in
    let e = plan_end s fs (Good (Scan client_id [])) readings none long in
    let count : length (plan s (fs ++ Good (Scan client_id []) ∷ []) readings) ≤ length fs + 3 = omega (arith, ap length e.is, length-append e.before (last e.moment ∷ []), e.few) in
    (subst (EndsScanned s) (sym e.is) (ends_scanned s e.before e.moment client_id leading), count)
