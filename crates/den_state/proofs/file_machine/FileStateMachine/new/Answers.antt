use Rattle.den_disk.specs.declared.place.Family.TheVariants.{State}
use Rattle.den_model.specs.Image.{in_regions, map_in}
use Rattle.den_journal.proofs.Seen.{unread_part}
use Rattle.den_state.specs.Folds.{given_map, given_place}
use Rattle.den_state.specs.Stored.{nothing_stored, stored_from}
use Rattle.den_state.proofs.file_machine.FileStateMachine.new.Goals as goal

pub returns-in-Ok-clause-opens : goal.returns-in-Ok-clause-opens
returns-in-Ok-clause-opens g c =
    let o = c.in-Ok.ensures.opens in
    let j = c.in-Ok.journal in
    record {
      goes_on = o.goes_on;
      images = o.images;
      spares = o.spares;
      settled = o.settled;
      opened = record {
        ready = o.opened.ready;
        value = λ tells. given_map (g.D.Disk.content c.args.disk.now).reading (record { map = j.held.map; tail = j.held.tail }) (o.opened.value tells);
        weight = o.opened.weight;
        rests = o.opened.rests;
      };
      refused = tt;
    }

pub returns-clause-opens : goal.returns-clause-opens
returns-clause-opens g c =
    let o = c.in-Err.ensures.opens in
    let reading = (g.D.Disk.content c.args.disk.now).reading in
    record {
      goes_on = o.goes_on;
      images = o.images;
      spares = o.spares;
      settled = o.settled;
      opened = tt;
      refused = unread_part _ _ _ (in_regions State (stored_from nothing_stored) reading) (map_in reading) c.in-Err.error (given_place reading) o.refused;
    }
