use Rattle.std.proofs.lemmas.Result.{err_from_is_err_and}
use Rattle.den_map.proofs.Folding.{records_go_on, records_end, records_done}
use Rattle.den_map.proofs.map.Map.add_records.Goals as goal

pub returns-in_err-add_record : goal.returns-in_err-add_record
returns-in_err-add_record c =
    let p = err_from_is_err_and c.from_residual.result c.from_residual.ensures.1 in
    records_end c.loop-journaled.self c.add_record.new.self c.args.records.now c.loop-journaled.journaled-index c.journaled-item.result _ c.from_residual.result c.in_err-add_record.field-0.0 (cc (p.1, p.2))
    c.loop-journaled-test.true c.journaled-item.is c.in_err-add_record.ensures c.loop-journaled.invariant

pub loop-journaled-preserved : goal.loop-journaled-preserved
loop-journaled-preserved c =
    records_go_on c.loop-journaled.self c.add_record.new.self c.args.records.now c.loop-journaled.journaled-index c.journaled-item.result _ c.loop-journaled-test.true c.journaled-item.is
    c.in_ok-add_record.ensures c.loop-journaled.invariant

pub returns : goal.returns
returns c = records_done c.loop-journaled.self c.args.records.now c.loop-journaled.journaled-index _ c.loop-journaled-test.false c.loop-journaled.invariant
