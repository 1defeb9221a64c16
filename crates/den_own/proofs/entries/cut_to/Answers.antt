use Rattle.std.proofs.Common.{nat_lt, rules, tests}
use Rattle.std.proofs.lemmas.Fn.{filter_same}
use Rattle.den_model.specs.Entries.{LogEntry}
use Rattle.den_own.proofs.entries.cut_to.Goals as goal

pub returns : goal.returns
returns c = filter_same _ (λ (e : LogEntry). nat_lt c.args.index e.index) _ (λ x b f h. search (rules, tests)) _ _ c.retain.ensures.filtered
