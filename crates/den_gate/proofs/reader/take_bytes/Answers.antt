use Rattle.std.proofs.Common.{◌≡◌, ℕ, ◌-◌, List, [], ◌++◌, take, drop, ap, ◌∙◌}
use Rattle.den_gate.proofs.Seen.{seen_part}
use Rattle.den_gate.proofs.reader.take_bytes.Goals as goal

alone : (whole front piece part : List ℕ) → whole ≡ front ++ piece → front ≡ [] → piece ≡ part → whole ≡ part
alone whole front piece part is none same = is ∙ ap (λ (l : List ℕ). l ++ piece) none ∙ same

pub returns-then-shows-clause-payload : goal.returns-then-shows-clause-payload
returns-then-shows-clause-payload g c = λ tells.
    let file = (g.D.Disk.content c.args.disk.now).reading c.args.slot in
    let size = c.args.to - c.args.from in
    let within = c.shows.ensures.0 c.if-shows.true in
    alone c.extend_from_slice.new.self.items c.clear.new.self.items (take size c.behind.result.now) (take size (drop c.args.from file)) c.in_ok-extend_from_slice.ensures.items c.clear.ensures.items
    (seen_part c.args.window.now file c.args.from c.args.to c.behind.result.now (c.requires.shows tells) within.0 c.requires.sized within.1 c.behind.ensures.is)
