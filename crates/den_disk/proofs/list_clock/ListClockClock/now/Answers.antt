use Rattle.std.proofs.Common.{◌≡◌, ◌+◌, ◌++◌, ◌∷◌, [], ◌∙◌, arith, ap, sym, map}
use Rattle.std.specs.List.{range_with_len}
use Rattle.std.proofs.lemmas.List.FromFn.{map-range_with_len_more}
use Rattle.den_disk.specs.Readings.{reading_at, readings_given}
use Rattle.den_disk.proofs.list_clock.ListClockClock.now.Goals as goal

pub returns-clause-told : goal.returns-clause-told
returns-clause-told c = λ told.
    let now = c.args.self.now in
    let more : c.saturating_add-self.result ≡ now.given + 1 = grind arith in
    ap (λ n. map (reading_at now) (range_with_len 0 n)) more ∙ map-range_with_len_more (reading_at now) 0 now.given now.given (omega arith)
    ∙ ap (λ r. readings_given now ++ r ∷ []) (sym c.at-reading.ensures)
