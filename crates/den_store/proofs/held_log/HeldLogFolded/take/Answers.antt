use Rattle.std.proofs.Common.{Some, ◌∙◌, sym, ap, rules, arith}
use Rattle.den_model.specs.Log.{Log, changed}
use Rattle.den_model.specs.Reading.{log_region_in}
use Rattle.den_model.specs.Words.{IsBytes}
use Rattle.den_model.specs.Sizes.{entries_size}
use Rattle.den_store.specs.Held.{log_of}
use Rattle.den_store.specs.Folds.{after_region, after_unlawful, after_no_word}
use Rattle.den_store.proofs.Sizes.{region_size}
use Rattle.den_store.proofs.held_log.HeldLogFolded.take.Goals as goal

pub returns-in_default-clause-taken : goal.returns-in_default-clause-taken
unfolding log_region_in
returns-in_default-clause-taken c = after_no_word (log_of c.args.self.now) c.args.payload.now (sym c.in_ok-region.ensures.is ∙ c.in_default.is)

pub returns-then-not-admits-clause-taken : goal.returns-then-not-admits-clause-taken
unfolding log_region_in
returns-then-not-admits-clause-taken c =
    after_unlawful (log_of c.args.self.now) c.args.payload.now c.in-Some.region (sym c.in_ok-region.ensures.is ∙ c.in-Some.is) (sym c.admits.ensures ∙ c.if-not-admits.true)

pub returns-clause-taken : goal.returns-clause-taken
unfolding log_region_in
returns-clause-taken c =
    after_region (log_of c.args.self.now) c.args.payload.now c.in-Some.region (sym c.in_ok-region.ensures.is ∙ c.in-Some.is) (sym c.admits.ensures ∙ c.if-not-admits.false)
    ∙ ap (λ (l : Log). Some l) (sym (c.in_ok-settle.ensures.settled ∙ ap (λ (l : Log). changed l c.in-Some.region) c.make_room.ensures.same))

pub returns-clause-size : goal.returns-clause-size
unfolding log_region_in
returns-clause-size c = λ taken.
    let l = log_of c.args.self.now in
    let bytes : IsBytes c.args.payload.now = search rules in
    omega (arith, region_size l c.args.payload.now c.in-Some.region bytes (sym c.in_ok-region.ensures.is ∙ c.in-Some.is), ap (λ (m : Log). entries_size m.entries) (c.in_ok-settle.ensures.settled ∙ ap (λ (m : Log). changed m c.in-Some.region) c.make_room.ensures.same))
