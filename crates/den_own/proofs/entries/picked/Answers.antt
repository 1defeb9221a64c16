use Rattle.std.proofs.Common.{nat_le, rules, tests, ap, ◌∙◌}
use Rattle.std.specs.Prelude.{◌&&◌}
use Rattle.std.proofs.lemmas.Fn.{filter_same}
use Rattle.den_model.specs.Entries.{LogEntry}
use Rattle.den_model.specs.Log.{between}
use Rattle.den_own.proofs.entries.picked.Goals as goal

pub returns : goal.returns
returns c = filter_same _ (λ (e : LogEntry). nat_le c.args.first e.index && nat_le e.index c.args.last) _ (λ x b f h. search (rules, tests)) _ _ c.retain.ensures.filtered ∙ ap (between c.args.first c.args.last) c.in_ok-all.ensures
