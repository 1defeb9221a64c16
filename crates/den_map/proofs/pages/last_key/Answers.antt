use Rattle.std.proofs.Common.{◌∙◌, ap, option_map}
use Rattle.den_model.specs.declared.region.StoredPair.{StoredPair}
use Rattle.den_map.proofs.Paging.{last_is}
use Rattle.den_map.proofs.pages.last_key.Goals as goal

pub returns-in-Some : goal.returns-in-Some
returns-in-Some c = ap (option_map (λ (p : StoredPair). p.key)) c.in-Some.ensures.value ∙ last_is c.args.pairs.now
