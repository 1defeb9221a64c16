use Rattle.std.proofs.Common.{take}
use Rattle.den_disk.proofs.Stamps.{first_of}
use Rattle.den_disk.proofs.mem_sink.MemSinkSink.write.Goals as goal

pub returns-then-kept-piece-clause-front : goal.returns-then-kept-piece-clause-front
returns-then-kept-piece-clause-front c = λ told. (take c.keep-kept.result c.args.piece.now, first_of c.keep-kept.result c.args.piece.now, c.keep-kept.ensures.written)
