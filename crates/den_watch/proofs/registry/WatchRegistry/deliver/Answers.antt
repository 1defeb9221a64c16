use Rattle.std.proofs.Common.{◌≡◌, List, ap, subst, sym, map, ◌∙◌}
use Rattle.std.proofs.lemmas.List.{with_items_is}
use Rattle.std.specs.Vec.{with_items}
use Rattle.den_watch.specs.Queues.{Queued, RiseUpTo, RisesAndFits, waiting_in}
use Rattle.den_watch.specs.Registry.{Registry, Waiting, told, told_all}
use Rattle.den_watch.proofs.Fitting.{keeps_told}
use Rattle.den_watch.proofs.Telling.{kept_as_told}
use Rattle.den_watch.proofs.registry.WatchRegistry.deliver.Goals as goal

-- what waits then
after : (c : goal.In_ok-tell_all) → waiting_in (with_items c.self.inside.queues c.tell_all.new.queues).items ≡ map (told c.self.inside.buffer c.args.change.now) (waiting_in c.self.inside.queues.items)
after c =
    ap waiting_in (with_items_is c.self.inside.queues c.tell_all.new.queues (c.tell_all.auto.queues ∙ c.as_mut_slice.ensures.len)) ∙ c.in_ok-tell_all.ensures.told
    ∙ ap (λ (qs : List Queued). map (told c.self.inside.buffer c.args.change.now) (waiting_in qs)) c.as_mut_slice.ensures.value

pub invariant_of-self-2 : goal.invariant_of-self-2
invariant_of-self-2 c =
    let top = c.self.inside.registered in
    let change = c.args.change.now in
    let buffer = c.self.inside.buffer in
    subst (RisesAndFits top buffer) (sym (after c)) (keeps_told top buffer change (waiting_in c.self.inside.queues.items) c.self.invariant)

pub returns-clause-told : goal.returns-clause-told
returns-clause-told c =
    let with : List Waiting → Registry = λ ws. record { waiting = ws; registered = c.self.inside.registered; maximum = c.self.inside.maximum; buffer = c.self.inside.buffer } in
    ap with (after c) ∙ ap (told_all c.args.change.now) c.self.view_is

pub returns-clause-delivered : goal.returns-clause-delivered
returns-clause-delivered c =
    let rises = subst (λ (r : Registry). RiseUpTo r.registered 0 r.waiting) c.self.view_is c.self.invariant.rises in
    returns-clause-told c ∙ sym (kept_as_told c.args.change.now c.args.self.now rises)
