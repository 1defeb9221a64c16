use Rattle.std.proofs.Common.{◌≡◌, ◌≤◌, ◌<◌, ◌^◌, ◌+◌, ℕ, List, IsTrue, get_or, length, take, sym, ◌∙◌, ap, subst, arith, rules}
use Rattle.den_gate.specs.Slot.{IsShort, room_for}
use Rattle.den_disk.specs.Files.{Kind}
use Rattle.den_disk.specs.Crash.{Stays}
use Rattle.den_disk.specs.Goes.{Rose}
use Rattle.den_disk.specs.declared.place.Part.{Part}
use Rattle.den_gate.specs.Causes.{Because}
use Rattle.den_gate.specs.Draft.{PassesLimit}
use Rattle.den_gate.proofs.Refusals.{because_wider, passes_limit, rose_later}
use Rattle.den_gate.proofs.Alone.{runs_then}
use Rattle.den_gate.proofs.Filling.{size_more, holds_more, filled_more, filled_fits}
use Rattle.den_gate.proofs.draft.fill.Goals as goal

pub returns-in_err-push-clause-run : goal.returns-in_err-push-clause-run
returns-in_err-push-clause-run g c = λ tells.
    let inv = c.loop-payload.invariant in
    let tells1 = subst (λ k. IsTrue k.tells) (sym inv.kind) tells in
    runs_then g.D.Disk c.args.slot c.args.disk.now c.loop-payload.disk c.push.new.disk (inv.run tells) (c.push.ensures.run tells1)

pub loop-payload-preserved : goal.loop-payload-preserved
loop-payload-preserved g c =
    let inv = c.loop-payload.invariant in
    let list = c.args.list.now in
    let i = c.loop-payload.payload-index in
    let bytes : List ℕ = c.as_slice-bytes.result.now in
    let lt = c.loop-payload-test.true in
    let is : bytes ≡ get_or list i bytes = subst (λ (p : List ℕ). p ≡ get_or list i p) (sym c.as_slice-bytes.ensures) c.payload-item.is in
    record {
      kind = c.push.ensures.kind ∙ inv.kind;
      later = omega (arith, inv.later, c.push.ensures.later);
      low = omega (arith, c.in_ok-push.ensures.end);
      size = omega (arith, inv.size, size_more list i bytes lt is);
      holds = λ tells.
          let tells1 = subst (λ k. IsTrue k.tells) (sym inv.kind) tells in
          holds_more list i (c.loop-payload.end + (9 + length bytes)) bytes ((g.D.Disk.content c.push.new.disk).reading c.args.slot) lt is (c.in_ok-push.ensures.holds tells1 (take i list) (inv.holds tells));
      run = λ tells.
          let tells1 = subst (λ k. IsTrue k.tells) (sym inv.kind) tells in
          runs_then g.D.Disk c.args.slot c.args.disk.now c.loop-payload.disk c.push.new.disk (inv.run tells) (c.push.ensures.run tells1);
      room = λ tells.
          let tells1 = subst (λ k. IsTrue k.tells) (sym inv.kind) tells in
          let limit_same : (g.D.Disk.kind c.loop-payload.disk).limit ≡ (g.D.Disk.kind c.args.disk.now).limit = ap (λ (k : Kind). k.limit) inv.kind in
          let push = c.in_ok-push.ensures in
          filled_more c.loop-payload.end (length bytes) ((g.D.Disk.content c.loop-payload.disk).reading c.args.slot) ((g.D.Disk.content c.push.new.disk).reading c.args.slot)
          (g.D.Disk.kind c.args.disk.now).limit (inv.room tells) push.end (push.grows tells1)
          (subst (λ (n : ℕ). IsShort ((g.D.Disk.content c.loop-payload.disk).reading c.args.slot) c.loop-payload.end (length bytes) → room_for c.loop-payload.end (length bytes) ≤ n) limit_same (push.not_full tells1));
    }

pub returns-in_err-push-clause-refused : goal.returns-in_err-push-clause-refused
returns-in_err-push-clause-refused g c =
    let inv = c.loop-payload.invariant in
    let list = c.args.list.now in
    let i = c.loop-payload.payload-index in
    let slot = c.args.slot in
    let bytes : List ℕ = c.as_slice-bytes.result.now in
    let lt = c.loop-payload-test.true in
    let is : bytes ≡ get_or list i bytes = subst (λ (p : List ℕ). p ≡ get_or list i p) (sym c.as_slice-bytes.ensures) c.payload-item.is in
    let first = c.args.disk.now in
    let d = c.loop-payload.disk in
    let last = c.push.new.disk in
    let e = c.in_err-push.field-0.0 in
    let faults = g.D.Disk.faults in
    let fine = λ (part : Part) (offset : ℕ). ⊥ in
    let full = λ (needed limit : ℕ). (needed ≡ room_for c.loop-payload.end (length bytes)) × (limit ≡ (g.D.Disk.kind d).limit) × (limit < needed) × (2 ^ 43 ≤ limit)
    × (IsTrue (g.D.Disk.kind d).tells → IsShort ((g.D.Disk.content d).reading slot) c.loop-payload.end (length bytes) × Stays g.D.Disk.content g.D.Disk.moment g.D.Disk.images d last) in
    let widen = λ (needed limit : ℕ) (h : full needed limit). passes_limit g.D.Disk slot list i c.loop-payload.end bytes first d last needed limit lt is inv.size inv.kind h.0 h.1 h.2 h.3 h.4 inv.holds inv.room in
    let better : Because ⊥ (Rose (faults first) (faults last)) (PassesLimit g.D.Disk slot list first last) fine e =
    because_wider ⊥ (Rose (faults d) (faults last)) (Rose (faults first) (faults last)) full (PassesLimit g.D.Disk slot list first last) fine (rose_later (faults first) (faults d) (faults last) inv.later) widen e c.in_err-push.ensures.refused in
    search (rules, better)

pub returns-clause-not_full : goal.returns-clause-not_full
returns-clause-not_full g c = λ tells.
    filled_fits c.loop-payload.end (g.D.Disk.kind c.args.disk.now).limit ((g.D.Disk.content c.loop-payload.disk).reading c.args.slot) (c.loop-payload.invariant.room tells)
