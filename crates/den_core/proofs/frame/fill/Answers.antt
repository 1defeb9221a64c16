use Rattle.std.proofs.Common.{◌+◌, ◌-◌, length, take, drop, arith, ap, subst, sym, ◌∙◌, IsTrue, length-take, length-drop}
use Rattle.den_core.proofs.Cutting.{piece_put, took_more, got_sized, got_gives, got_taken, counted_more, below_budget, put_size}
use Rattle.den_core.proofs.GoesOn.{link_twice}
use Rattle.den_core.proofs.frame.fill.Goals as goal

pub loop-n-preserved : goal.loop-n-preserved
loop-n-preserved g c =
    let L = g.L.Link in
    let inv = c.loop-n.invariant in
    let read = c.in_ok-more.ensures in
    let sized = got_sized _ _ _ c.in-Got.is read.sized in
    let gave = λ (t : IsTrue (L.tells c.loop-n.link)). got_gives _ _ _ _ _ c.in-Got.is (read.gives t) in
    let took = took_more L.tells L.left L.sent L.budget L.taken L.faults _ _ _ _ c.in-Got.more inv.on inv.took (λ t. ((gave t).0, (gave t).2)) read.sent (read.taken ∙ ap (λ k. L.taken c.loop-n.link + k) (got_taken _ _ c.in-Got.is)) (below_budget _ _ read.spent) in
    record {
      on = link_twice _ _ _ _ _ _ _ _ inv.on read.on;
      counted = λ t. counted_more (L.taken c.args.link.now) (L.taken c.read.new.self) (L.left c.args.link.now) (L.left c.read.new.self) _ (took.fits t) (took.rest t) took.counted;
      took = took;
      bytes = λ t. piece_put _ _ _ _ _ (inv.took.fits t) inv.size (omega (arith, sized, c.read.auto.buf, length-take (length c.loop-n.buf - c.loop-n.n) (drop c.loop-n.n c.loop-n.buf), length-drop c.loop-n.n c.loop-n.buf)) (inv.bytes t)
          (let told : IsTrue (L.tells c.loop-n.link) = subst (λ b. IsTrue b) (sym inv.on.same) t in (gave told).1 ∙ ap (take c.in-Got.more) (inv.took.rest t));
      size = put_size _ _ _ _ inv.size (omega (arith, sized, c.read.auto.buf));
    }
