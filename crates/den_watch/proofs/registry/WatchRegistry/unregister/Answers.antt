use Rattle.std.proofs.Common.{◌≡◌, List, true, ap, subst, sym, ◌∙◌}
use Rattle.std.specs.List.{list_any}
use Rattle.den_watch.specs.Queues.{Queued, RisesAndFits, waiting_in}
use Rattle.den_watch.specs.Registry.{Registry, Waiting, is_numbered, is_registered, without}
use Rattle.den_watch.proofs.Fitting.{keeps_removed}
use Rattle.den_watch.proofs.Found.{found_in, found_left_out, found_there, none_without, waiting_removed}
use Rattle.den_watch.proofs.registry.WatchRegistry.unregister.Goals as goal

pub returns-in-None-clause-gone : goal.returns-in-None-clause-gone
returns-in-None-clause-gone c =
    let test = is_numbered c.args.watcher.id in
    let none = sym (ap (λ (qs : List Queued). list_any test (waiting_in qs)) c.as_slice.ensures.value ∙ ap (λ (r : Registry). list_any test r.waiting) c.self.view_is) ∙ c.in-None.ensures in
    sym (none_without c.args.self.now c.args.watcher.id none)

pub invariant_of-self : goal.invariant_of-self
invariant_of-self c =
    let top = c.self.inside.registered in
    let buffer = c.self.inside.buffer in
    let qs = c.self.inside.queues.items in
    let i = c.in-Some.place in
    subst (RisesAndFits top buffer) (sym (ap waiting_in c.remove.ensures.items ∙ waiting_removed qs i)) (keeps_removed top buffer (waiting_in qs) i c.self.invariant)

pub returns-in-Some-clause-stood : goal.returns-in-Some-clause-stood
returns-in-Some-clause-stood c =
    let top = c.self.inside.registered in
    let number = c.args.watcher.id in
    let qs = c.self.inside.queues.items in
    let i = c.in-Some.place in
    let q = c.remove.result in
    let found = found_in top number qs c.as_slice.result.now i q c.as_slice.ensures.value c.in-Some.ensures c.remove.ensures.value c.self.invariant.rises in
    sym (subst (λ (r : Registry). is_registered r number ≡ true) c.self.view_is (found_there top number qs i q found))

pub returns-in-Some-clause-gone : goal.returns-in-Some-clause-gone
returns-in-Some-clause-gone c =
    let top = c.self.inside.registered in
    let number = c.args.watcher.id in
    let qs = c.self.inside.queues.items in
    let i = c.in-Some.place in
    let q = c.remove.result in
    let found = found_in top number qs c.as_slice.result.now i q c.as_slice.ensures.value c.in-Some.ensures c.remove.ensures.value c.self.invariant.rises in
    let with : List Waiting → Registry = λ ws. record { waiting = ws; registered = top; maximum = c.self.inside.maximum; buffer = c.self.inside.buffer } in
    ap with (ap waiting_in c.remove.ensures.items ∙ sym (found_left_out top number qs i q found)) ∙ ap (λ (r : Registry). without r number) c.self.view_is
