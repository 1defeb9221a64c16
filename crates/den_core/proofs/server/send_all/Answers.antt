use Rattle.std.proofs.Common.{IsTrue, sym, subst, ◌∙◌}
use Rattle.den_model.specs.Spelling.{event_word}
use Rattle.den_core.proofs.GoesOn.{link_twice}
use Rattle.den_core.proofs.Sending.{event_put, first_front, framed_more, front_so_far, last_front, sends_front}
use Rattle.den_core.proofs.server.send_all.Goals as goal

-- some of what the buffer held was sent
pub returns-in_err-send_enough-clause-front : goal.returns-in_err-send_enough-clause-front
returns-in_err-send_enough-clause-front g c = λ told.
    let inv = c.loop-event.invariant in
    let then : IsTrue (g.L.Link.tells c.loop-event.link) = subst (λ b. IsTrue b) (sym inv.on.same) told in
    front_so_far _ c.args.out.now.events c.loop-event.event-index _ _ _ (sends_front _ _ _ _ _ _ (inv.sent told) (c.in_err-send_enough.ensures.front then))

-- and one event more found no room
pub returns-in_err-put_frame-2-clause-front : goal.returns-in_err-put_frame-2-clause-front
returns-in_err-put_frame-2-clause-front g c = λ told.
    let inv = c.loop-event.invariant in
    let then : IsTrue (g.L.Link.tells c.loop-event.link) = subst (λ b. IsTrue b) (sym inv.on.same) told in
    front_so_far _ c.args.out.now.events c.loop-event.event-index _ _ _ (sends_front _ _ _ _ _ _ (inv.sent told) (first_front _ _ _ _ _ (c.in_ok-send_enough.ensures.moved then)))

pub loop-event-preserved : goal.loop-event-preserved
loop-event-preserved g c =
    let inv = c.loop-event.invariant in
    let send = c.in_ok-send_enough.ensures in
    record {
      on = link_twice _ _ _ _ _ _ _ _ inv.on send.on;
      taken = send.taken ∙ inv.taken;
      left = λ told. send.left (subst (λ b. IsTrue b) (sym inv.on.same) told) ∙ inv.left told;
      some = framed_more c.put_frame-in-loop-event.new.buffer.items c.send_enough.new.buffer.items (event_word c.event-item.result) c.in_ok-put_frame-2.ensures;
      sent = λ told. event_put _ c.args.out.now.events _ _ c.event-item.result _ _ _ _ _ _ _ c.as_slice-event-items.ensures c.loop-event-test.true c.event-item.is
          (inv.sent told) (send.moved (subst (λ b. IsTrue b) (sym inv.on.same) told)) c.in_ok-put_frame-2.ensures;
    }

-- the last piece was refused
pub returns-in_err-send-clause-front : goal.returns-in_err-send-clause-front
returns-in_err-send-clause-front g c = λ told.
    let inv = c.loop-event.invariant in
    last_front _ c.args.out.now.events _ _ _ _ _ _ _ _ c.as_slice-event-items.ensures c.loop-event-test.false (inv.sent told) c.deref.ensures.value
    (c.in_err-send.ensures.front (subst (λ b. IsTrue b) (sym inv.on.same) told))

-- all of it was sent
pub returns-clause-front : goal.returns-clause-front
returns-clause-front g c = λ told.
    let inv = c.loop-event.invariant in
    last_front _ c.args.out.now.events _ _ _ _ _ _ _ _ c.as_slice-event-items.ensures c.loop-event-test.false (inv.sent told) c.deref.ensures.value
    (c.in_ok-send.ensures.front (subst (λ b. IsTrue b) (sym inv.on.same) told))
