-- A call that only reads a disk.
use Rattle.std.specs.Prelude.{IsTrue}
use Rattle.den_disk.specs.declared.disk.Disk.{Ghosts}
use Rattle.den_disk.specs.Crash.{Stays}
use Rattle.den_disk.specs.Goes.{DiskGoesOn}
use Rattle.den_disk.specs.Families.{SparesAll, NoNewImages}

-- it changes nothing, of what is read, of what is pending and of what a crash may leave
pub record OnlyReads {D : Type 0} (disk : Ghosts D) (old new : D) : Type 0 where
  pub goes_on : DiskGoesOn disk.kind disk.moment disk.images disk.faults old new
  pub stays : IsTrue (disk.kind old).tells → Stays disk.content disk.moment disk.images old new
  pub spares : IsTrue (disk.kind old).tells → SparesAll (disk.content old) (disk.content new)
  pub images : IsTrue (disk.kind old).tells → NoNewImages (disk.images old) (disk.images new) (disk.moment old) (disk.moment new)
