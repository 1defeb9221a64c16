use Rattle.std.proofs.Common.{◌++◌, ◌∙◌, arith, refl, ap, take}
use Rattle.std.specs.List.{zip}
use Rattle.std.proofs.lemmas.List.{take_all}
use Rattle.den_disk.specs.Goes.{stamped}
use Rattle.den_disk.proofs.Stamps.{stamps_more, extends, first_of}
use Rattle.den_disk.proofs.mem_link.MemLinkLink.send.Goals as goal

pub returns-then-kept-piece-clause-on : goal.returns-then-kept-piece-clause-on
returns-then-kept-piece-clause-on g c =
    let more = stamps_more _ _ _ _ c.args.piece.now c.keep-kept.result _ _ c.args.self.now.paired c.keep-kept.ensures.most c.moment-moment.ensures c.keep-kept.ensures.sent c.keep-kept.ensures.moments in
    record { same = refl; grows = λ told. extends _ _ _ more; limit = refl; more = omega arith; counts = c.count_fault.ensures.later }

pub returns-then-kept-piece-clause-front : goal.returns-then-kept-piece-clause-front
returns-then-kept-piece-clause-front g c =
    let more = stamps_more _ _ _ _ c.args.piece.now c.keep-kept.result _ _ c.args.self.now.paired c.keep-kept.ensures.most c.moment-moment.ensures c.keep-kept.ensures.sent c.keep-kept.ensures.moments in
    λ told. (take c.keep-kept.result c.args.piece.now, first_of c.keep-kept.result c.args.piece.now, more)

pub returns-clause-front : goal.returns-clause-front
returns-clause-front g c =
    let more = stamps_more _ _ _ _ c.args.piece.now c.keep-kept.result _ _ c.args.self.now.paired c.keep-kept.ensures.most c.moment-moment.ensures c.keep-kept.ensures.sent c.keep-kept.ensures.moments in
    λ told. (take c.keep-kept.result c.args.piece.now, first_of c.keep-kept.result c.args.piece.now, more)

pub returns-clause-all : goal.returns-clause-all
returns-clause-all g c =
    let more = stamps_more _ _ _ _ c.args.piece.now c.keep-kept.result _ _ c.args.self.now.paired c.keep-kept.ensures.most c.moment-moment.ensures c.keep-kept.ensures.sent c.keep-kept.ensures.moments in
    λ told. more ∙ ap (λ l. zip c.args.self.now.sent.items c.args.self.now.moments.items ++ stamped l (g.D.Disk.moment c.args.disk.now)) (take_all c.keep-kept.result c.args.piece.now c.if-kept-piece.false)

pub returns-clause-on : goal.returns-clause-on
returns-clause-on g c =
    let more = stamps_more _ _ _ _ c.args.piece.now c.keep-kept.result _ _ c.args.self.now.paired c.keep-kept.ensures.most c.moment-moment.ensures c.keep-kept.ensures.sent c.keep-kept.ensures.moments in
    record { same = refl; grows = λ told. extends _ _ _ more; limit = refl; more = omega arith; counts = omega arith }
