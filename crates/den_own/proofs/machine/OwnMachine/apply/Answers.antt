use Rattle.den_own.proofs.Maps.{records_lawful, records_made}
use Rattle.den_own.proofs.machine.OwnMachine.apply.Goals as goal

pub follow-requires : goal.follow-requires
follow-requires c = record { lawful = records_lawful c.args.self.now.map _ c.of-records.result c.in_ok-journaled.journaled.records.items c.of-records.ensures c.in_ok-journaled.ensures.lawful }

pub returns-in-Ok-clause-applied : goal.returns-in-Ok-clause-applied
returns-in-Ok-clause-applied c = records_made c.args.self.now.map _ c.follow.new.self c.of-records.result c.in_ok-journaled.journaled.records.items c.of-records.ensures c.in_ok-journaled.ensures.lawful c.in-Ok.ensures
