use Rattle.std.proofs.Common.{◌≡◌, ◌≤◌, List, length, Some, false, ap, subst, sym, ◌∙◌}
use Rattle.std.specs.List.{list_any}
use Rattle.std.specs.Prelude.{IfOk, Result}
use Rattle.den_model.specs.declared.reply.WatchEvent.{WatchEvent}
use Rattle.den_watch.specs.declared.error.WatchError.{WatchError}
use Rattle.den_watch.specs.Queues.{Queued, RisesAndFits, waiting_in}
use Rattle.den_watch.specs.Registry.{Registry, Waiting, emptied, is_numbered, newcomer, waiting_at}
use Rattle.den_watch.specs.Takes.{TakesAll, behind_all}
use Rattle.den_watch.proofs.Fitting.{keeps_emptied, takes_fit}
use Rattle.den_watch.proofs.Found.{found_at, found_emptied, found_fits, found_in, none_emptied, none_taken, taken_where}
use Rattle.den_watch.proofs.Taking.{successive}
use Rattle.den_watch.proofs.registry.WatchRegistry.take.Goals as goal

-- ---- none has the number

none : (c : goal.In-None) → list_any (is_numbered c.args.watcher.now.id) c.args.self.now.waiting ≡ false
none c =
    let test = is_numbered c.args.watcher.now.id in
    sym (ap (λ (qs : List Queued). list_any test (waiting_in qs)) c.as_slice.ensures.value ∙ ap (λ (r : Registry). list_any test r.waiting) c.self.view_is) ∙ c.in-None.ensures

pub returns-in-None-clause-taken : goal.returns-in-None-clause-taken
returns-in-None-clause-taken c = sym (none_taken c.args.self.now c.args.watcher.now.id (none c))

pub returns-in-None-clause-emptied : goal.returns-in-None-clause-emptied
returns-in-None-clause-emptied c = sym (none_emptied c.args.self.now c.args.watcher.now.id (none c))

-- ---- one has it

pub invariant_of-self : goal.invariant_of-self
invariant_of-self c =
    let top = c.self.inside.registered in
    let number = c.args.watcher.now.id in
    let qs = c.self.inside.queues.items in
    let i = c.in-Some.place in
    let q = c.index_mut-queue.result.now in
    let found = found_in top number qs c.as_slice.result.now i q c.as_slice.ensures.value c.in-Some.ensures c.index_mut-queue.ensures.value c.self.invariant.rises in
    let buffer = c.self.inside.buffer in
    subst (RisesAndFits top buffer) (sym (found_emptied top number qs i q found c.take.new.self c.take.ensures.emptied)) (keeps_emptied top buffer number (waiting_in qs) c.self.invariant)

pub returns-in-Some-clause-taken : goal.returns-in-Some-clause-taken
returns-in-Some-clause-taken c =
    let top = c.self.inside.registered in
    let number = c.args.watcher.now.id in
    let qs = c.self.inside.queues.items in
    let i = c.in-Some.place in
    let q = c.index_mut-queue.result.now in
    let found = found_in top number qs c.as_slice.result.now i q c.as_slice.ensures.value c.in-Some.ensures c.index_mut-queue.ensures.value c.self.invariant.rises in
    let at = subst (λ (r : Registry). waiting_at r number ≡ Some q.waiting) c.self.view_is (found_at top number qs i q found) in
    c.take.ensures.taken ∙ sym (taken_where c.args.self.now number q.waiting at)

pub returns-in-Some-clause-emptied : goal.returns-in-Some-clause-emptied
returns-in-Some-clause-emptied c =
    let top = c.self.inside.registered in
    let number = c.args.watcher.now.id in
    let qs = c.self.inside.queues.items in
    let i = c.in-Some.place in
    let q = c.index_mut-queue.result.now in
    let found = found_in top number qs c.as_slice.result.now i q c.as_slice.ensures.value c.in-Some.ensures c.index_mut-queue.ensures.value c.self.invariant.rises in
    let with : List Waiting → Registry = λ ws. record { waiting = ws; registered = top; maximum = c.self.inside.maximum; buffer = c.self.inside.buffer } in
    ap with (found_emptied top number qs i q found c.take.new.self c.take.ensures.emptied) ∙ ap (λ (r : Registry). emptied r number) c.self.view_is

pub returns-in-Some-clause-bounded : goal.returns-in-Some-clause-bounded
returns-in-Some-clause-bounded c =
    let top = c.self.inside.registered in
    let number = c.args.watcher.now.id in
    let qs = c.self.inside.queues.items in
    let i = c.in-Some.place in
    let q = c.index_mut-queue.result.now in
    let found = found_in top number qs c.as_slice.result.now i q c.as_slice.ensures.value c.in-Some.ensures c.index_mut-queue.ensures.value c.self.invariant.rises in
    let fits = subst (λ (r : Registry). length q.waiting.events ≤ r.buffer) c.self.view_is (found_fits top number qs i q found c.self.inside.buffer c.self.invariant.fits) in
    let buffer = c.args.self.now.buffer in
    let fit = λ (r : Result (List WatchEvent) WatchError). IfOk r (λ events. length events ≤ buffer) in
    subst fit (sym c.take.ensures.taken) (takes_fit buffer q.waiting fits)

pub returns-in-Some-clause-successive : goal.returns-in-Some-clause-successive
returns-in-Some-clause-successive c = λ w hs at.
    let buffer = c.args.self.now.buffer in
    let gives = λ (r : Result (List WatchEvent) WatchError). IfOk r (λ events. TakesAll buffer w hs events) in
    subst gives (sym (returns-in-Some-clause-taken c ∙ taken_where c.args.self.now c.args.watcher.now.id (behind_all buffer (newcomer w) hs) at)) (successive buffer w hs)
