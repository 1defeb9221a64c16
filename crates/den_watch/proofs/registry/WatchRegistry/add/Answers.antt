use Rattle.std.proofs.Common.{◌≡◌, ℕ, ◌+◌, List, [], ◌∷◌, ◌++◌, refl, ap, subst, sym, ◌∙◌, arith}
use Rattle.std.proofs.lemmas.Grind.{common_steps}
use Rattle.std.proofs.lemmas.List.{map-append}
use Rattle.den_watch.specs.Queues.{Queued, RiseUpTo, RisesAndFits, waiting_in}
use Rattle.den_watch.specs.Registry.{Registry, Waiting, registering, waiting_at}
use Rattle.den_watch.proofs.Fitting.{keeps_added}
use Rattle.den_watch.proofs.Found.{newest_stands}
use Rattle.den_watch.proofs.registry.WatchRegistry.add.Goals as goal
use Rattle.den_watch.proofs.registry.WatchRegistry.add.Goals.{In_ok-push}

-- what waits then
added : (c : In_ok-push) → waiting_in c.push.new.self.items ≡ waiting_in c.self.inside.queues.items ++ c.of.result.waiting ∷ []
added c = ap waiting_in c.in_ok-push.ensures.items ∙ map-append (λ (p : Queued). p.waiting) c.self.inside.queues.items (c.of.result ∷ [])

pub invariant_of-self-2 : goal.invariant_of-self-2
invariant_of-self-2 c =
    let top = c.self.inside.registered in
    let buffer = c.self.inside.buffer in
    let qs = c.self.inside.queues.items in
    subst (RisesAndFits (top + 1) buffer) (sym (added (goal.at.invariant_of-self-2 c).In_ok-push)) (keeps_added top buffer (waiting_in qs) c.of.result.waiting _ c.of.ensures refl c.self.invariant)

pub returns : goal.returns
returns c =
    let old = c.args.self.now in
    let top = c.self.inside.registered in
    let qs = c.self.inside.queues.items in
    let rises = subst (λ (r : Registry). RiseUpTo r.registered 0 r.waiting) c.self.view_is c.self.invariant.rises in
    let with : List Waiting → Registry = λ ws. record { waiting = ws; registered = top + 1; maximum = c.self.inside.maximum; buffer = c.self.inside.buffer } in
    let more : Registry → Registry = λ r. registering r c.args.key c.args.prefix c.args.prev_kv in
    let made = ap with (added (goal.at.returns c).In_ok-push ∙ ap (λ (w : Waiting). waiting_in qs ++ w ∷ []) c.of.ensures) ∙ ap more c.self.view_is in
    let number : top + 1 ≡ old.registered + 1 = ap (λ (r : Registry). r.registered + 1) c.self.view_is in
    record {
      turned_away = grind (arith, common_steps);
      done = (number, made);
      stands = ap (λ (r : Registry). waiting_at r (top + 1)) made ∙ ap (λ (n : ℕ). waiting_at (more old) n) number ∙ newest_stands old c.args.key c.args.prefix c.args.prev_kv rises;
      refused = tt;
    }
