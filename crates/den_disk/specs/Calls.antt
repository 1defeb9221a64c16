-- The calls of a disk in memory.
use Rattle.std.specs.Prelude.{ℕ}
use Rattle.den_disk.specs.declared.memory.MemDisk.{MemDisk}

-- how many calls were made, as far as the disk counts them
abbrev pub calls_made : MemDisk → ℕ
calls_made disk = disk.plan.calls
