use Rattle.std.proofs.Common.{◌∙◌, sym, ap, refl, arith}
use Rattle.den_model.specs.declared.log_id.LogId.{LogId}
use Rattle.den_map.proofs.Folding.{after_cleanup, after_unlawful, after_lawful}
use Rattle.den_map.proofs.map.Map.add_record.Goals as goal

pub returns-then-place-mark : goal.returns-then-place-mark
returns-then-place-mark c =
    let at = ap (λ (m : LogId). m.index) c.mark.ensures in
    after_unlawful c.args.self.now c.args.journaled.now c.in-Some.place (sym c.in-Some.ensures) (omega (arith, at))

pub returns-in_ok-carry_out-in-None : goal.returns-in_ok-carry_out-in-None
returns-in_ok-carry_out-in-None c = let e = after_cleanup c.args.self.now c.args.journaled.now (sym c.in-None.ensures) in
    cc (c.in_ok-carry_out-in-None.ensures)

pub returns-in_ok-carry_out-in-Some : goal.returns-in_ok-carry_out-in-Some
returns-in_ok-carry_out-in-Some c =
    let at = ap (λ (m : LogId). m.index) c.mark.ensures in
    after_lawful c.args.self.now c.args.journaled.now c.in-Some.place (sym c.in-Some.ensures) (omega (arith, at)) ∙ rw (c.set_mark.ensures, c.in_ok-carry_out-in-Some.ensures) refl
