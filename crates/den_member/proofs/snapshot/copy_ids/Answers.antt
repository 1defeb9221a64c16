use Rattle.std.proofs.Common.{◌≡◌, ◌∷◌, ◌++◌, rules}
use Rattle.std.specs.BTreeSet.{insert_key}
use Rattle.std.specs.Ordering.{nat_cmp}
use Rattle.den_member.proofs.Keys.{walk_keys}
use Rattle.den_member.proofs.snapshot.copy_ids.Goals as goal

pub loop-id-preserved : goal.loop-id-preserved
loop-id-preserved c =
    let met : c.loop-id.copy.keys ++ c.in-Some.id.now ∷ c.next.new.self ≡ c.args.ids.now.keys = search rules in
    let put : c.insert.new.self.keys ≡ insert_key nat_cmp c.loop-id.copy.keys c.in-Some.id.now = search rules in
    walk_keys c.loop-id.copy.keys c.insert.new.self.keys c.in-Some.id.now c.next.new.self c.args.ids.now.keys met c.iter-id-items.ensures.ordered put
