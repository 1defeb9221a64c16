use Rattle.std.proofs.Common.{◌+◌, length, take}
use Rattle.std.proofs.lemmas.Bool.{lt-ltb}
use Rattle.den_model.specs.MapState.{map_applied, map_applied_all}
use Rattle.den_map.proofs.Applying.{no_records, order_on, map_more, records_more, results_more, records_push, result_as}
use Rattle.den_map.proofs.map.Map.journal.Goals as goal

pub loop-i-init : goal.loop-i-init
loop-i-init c = record {
  order = c.requires;
  over = λ lt. c.unwritten-writes.ensures;
  records = c.in_ok-records.ensures.items;
  lawful = rw c.in_ok-records.ensures.items (no_records c.args.self.now);
  results = c.in_ok-results.ensures.items;
}

pub loop-i-preserved : goal.loop-i-preserved
loop-i-preserved c =
    let base = c.args.self.now in
    let chunk = c.args.chunk.now in
    let i = c.loop-i.i in
    let e = c.index-chunk-i.result in
    let r = c.in_ok-journaled.journaled in
    let s = map_applied_all base (take i chunk) in
    let so_far = c.loop-i.invariant in
    let lt = c.loop-i-test.true in
    let order = order_on s.mark.index chunk i e lt c.index-chunk-i.is so_far.order in
    let made = map_more base chunk i e lt c.index-chunk-i.is in
    let same = c.in_ok-journaled.ensures.is s (so_far.over lt) in
    record {
      order = rw made order.1;
      over = λ next. rw made (c.in_ok-journaled.ensures.over (lt-ltb (i + 1) (length chunk) next) s (so_far.over lt));
      records = rw c.in_ok-push-2.ensures.items (records_more base chunk i e lt c.index-chunk-i.is _ r so_far.records same);
      lawful = rw (c.in_ok-push-2.ensures.items, made) (records_push base s (map_applied s e) _ r so_far.lawful (c.in_ok-journaled.ensures.lawful s order.0 same));
      results = rw c.in_ok-push.ensures.items (results_more base chunk i e lt c.index-chunk-i.is _ _ so_far.results (result_as s e r _ _ c.index.ensures.is c.tells_success.ensures same));
    }
