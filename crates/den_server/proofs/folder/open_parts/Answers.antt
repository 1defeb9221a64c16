use Rattle.std.proofs.Common.{Bool, ◌≡◌, IsTrue, refl, sym, subst, ap, ◌∙◌, arith}
use Rattle.den_disk.specs.Goes.{Rose}
use Rattle.den_core.proofs.GoesOn.{disk_same}
use Rattle.den_server.specs.Causes.{IsUnreadFolder}
use Rattle.den_server.specs.Opening.{refusal_in}
use Rattle.den_server.proofs.Settled.{no_call, never_settles}
use Rattle.den_server.proofs.folder.open_parts.Goals as goal

-- ---- what was done to the disk

-- nothing, where memory was wanting first
pub returns-in-Err-clause-reads : goal.returns-in-Err-clause-reads
returns-in-Err-clause-reads g c =
    let D = g.D.Disk in
    let disk = c.args.disk.now in
    record {
      goes_on = disk_same D.kind D.moment D.images D.faults disk;
      images = λ told. no_call (D.images disk) (D.moment disk);
      spares = λ told. record { reading = λ q. refl; pending = λ q k at. at };
      settles = λ told. never_settles (D.images disk) (D.moment disk) (D.moment disk) _ _ (D.content disk).reading (omega arith) (λ ok. cc ok) refl;
    }

pub returns-in-Err-open_stores-clause-reads : goal.returns-in-Err-open_stores-clause-reads
returns-in-Err-open_stores-clause-reads g c = record {
  goes_on = c.open_stores.ensures.disk;
  images = c.open_stores.ensures.images;
  spares = c.open_stores.ensures.spares;
  settles = c.in-Err-open_stores.ensures.settles;
}

pub returns-clause-reads : goal.returns-clause-reads
returns-clause-reads g c = record {
  goes_on = c.open_stores.ensures.disk;
  images = c.open_stores.ensures.images;
  spares = c.open_stores.ensures.spares;
  settles = c.in-Ok-open_stores.ensures.settles;
}

-- ---- what the folder gave

pub returns-clause-gives : goal.returns-clause-gives
returns-clause-gives g c = record {
  read = c.in-Ok-open_stores.ensures.read;
  place = c.in-Ok-open_stores.ensures.place;
  weight = c.in-Ok-open_stores.ensures.weight;
  entries = c.in-Ok-open_stores.ensures.entries;
  leased = c.in-Ok-open_stores.ensures.leased ∙ c.in-Ok.ensures.leased;
  core = c.in-Ok.ensures.core;
  ready = c.in-Ok-open_stores.ensures.ready;
  rests = c.in-Ok-open_stores.ensures.rests;
}

-- ---- why the files are not read

pub returns-in-Err-open_stores-clause-refused : goal.returns-in-Err-open_stores-clause-refused
returns-in-Err-open_stores-clause-refused g c =
    let D = g.D.Disk in
    let disk = c.args.disk.now in
    subst (λ (leased : Bool). IsUnreadFolder (Rose (D.faults disk) (D.faults c.open_stores.new.disk)) (IsTrue (D.kind disk).tells) (refusal_in leased (D.content disk).reading) c.in-Err-open_stores.error)
    c.in-Ok.ensures.leased c.in-Err-open_stores.ensures.refused
