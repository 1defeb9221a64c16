-- What a drive comes to, and its line.
use Rattle.std.specs.Prelude.{◌≡◌, ℕ, ◌+◌, List, ◌++◌, codes, decimal, length, map}
use Rattle.std.specs.List.{flat_map, range_with_len}
use Rattle.den_disk.specs.Readings.{step_at}
use Rattle.den_model.specs.Frames.{framed}
use Rattle.den_model.specs.Kv.{Kv, Durable, nothing}
use Rattle.den_model.specs.Step.{Step}
use Rattle.den_model.specs.Plan.{after, output, plan_over}
use Rattle.den_server.specs.Default.{standard_run}
use Rattle.den_server.specs.Promises.{start}
use Rattle.den_drive.specs.Generator.{drive_input}

-- so many readings of the clock, which reads 1,000, and one more each time
abbrev pub moments : ℕ → List ℕ
moments count = map (step_at 1000 1) (range_with_len 0 count)

-- what it begins with: nothing is held, under the default configuration
abbrev pub drive_start : Kv
drive_start = start standard_run nothing

-- the steps of the plan over the generated input: one reading is taken at the opening, one for each request, and one
-- for the scan
abbrev pub drive_plan : ℕ → List Step
drive_plan count = plan_over drive_start standard_run.frame_limit (drive_input count) (moments (count + 2))

-- what they leave
abbrev pub driven : ℕ → Durable
driven count = (after drive_start (drive_plan count)).durable

-- The numbers of a drive of so many requests: the keys that are held at its end, the last index, and how many bytes its
-- plan says.
pub record IsReport (count requests keys index bytes : ℕ) : Type 0 where
  pub all_asked : requests ≡ count
  pub keys_held : keys ≡ length (driven count).pairs
  pub index_last : index ≡ (driven count).last_index
  pub bytes_sent : bytes ≡ length (output drive_start (drive_plan count))

-- bytes that end with the frame of a body, behind those of others
pub record EndsWith (bytes body : List ℕ) : Type 0 where
  pub earlier : List (List ℕ)
  pub is : bytes ≡ flat_map framed earlier ++ framed body

-- the line of these numbers
abbrev pub report_line : (requests keys index bytes : ℕ) → List ℕ
report_line requests keys index bytes =
    codes "requests=" ++ decimal requests ++ codes " keys=" ++ decimal keys ++ codes " index=" ++ decimal index ++ codes " bytes=" ++ decimal bytes ++ codes "\n"
