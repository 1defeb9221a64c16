-- What the plan of a drive says, and what it leaves.
use Rattle.std.proofs.Common.{◌≡◌, ℕ, ◌+◌, ◌^◌, ◌<◌, ◌≤◌, List, [], ◌∷◌, ◌++◌, length, refl, sym, ap, subst, arith}
use Rattle.std.proofs.lemmas.List.{length-append}
use Rattle.std.proofs.lemmas.List.FromFn.{length-map-range_with_len}
use Rattle.den_disk.specs.Readings.{step_at}
use Rattle.den_model.specs.declared.reply.Reply.TheVariants.{Scan}
use Rattle.den_model.specs.declared.reply.ScanResult.{ScanResult}
use Rattle.den_model.specs.declared.request.Frame.{Frame}
use Rattle.den_model.specs.declared.request.Frame.TheVariants.{Good}
use Rattle.den_model.specs.Frames.{frames}
use Rattle.den_model.specs.Plan.{output, plan, plan_over}
use Rattle.den_model.specs.Spelling.{reply_word}
use Rattle.den_model.specs.Step.{pairs_under}
use Rattle.den_server.specs.Default.{standard_run}
use Rattle.den_drive.specs.Generator.{drive_input, scan_request}
use Rattle.den_drive.specs.Report.{EndsWith, drive_plan, drive_start, driven, moments}
use Rattle.den_drive.specs.Serving.{answered}
use Rattle.den_drive.proofs.Made.{input_frames}
use Rattle.den_drive.proofs.Planned.{EndsScanned, scanned_end}

-- a reading is taken at the opening, for each request, and for the scan
pub answered_drive : (count : ℕ) → answered (drive_input count) ≡ output drive_start (drive_plan count)
answered_drive count =
    let f = input_frames count in
    let many : length (frames 16777216 (drive_input count)) + 1 ≡ count + 2 = omega (arith, ap length f.2, f.1, length-append f.0 (Good scan_request ∷ [])) in
    ap (λ n. output drive_start (plan_over drive_start standard_run.frame_limit (drive_input count) (moments n))) many

-- the reply to the scan
abbrev pub scan_of : ℕ → ScanResult
scan_of count = record { entries = pairs_under (driven count).pairs []; revision = (driven count).last_index }

-- what the plan says ends with it, and the index is small
pub drive_end : (count : ℕ) → count ≤ 1000000 → EndsWith (output drive_start (drive_plan count)) (reply_word (Scan (scan_of count))) × ((driven count).last_index < 2 ^ 64)
drive_end count few =
    let f = input_frames count in
    let long : length (moments (count + 2)) ≡ length f.0 + 2 = omega (arith, length-map-range_with_len (step_at 1000 1) 0 (count + 2), f.1) in
    let steps = λ (fs : List Frame). plan drive_start fs (moments (count + 2)) in
    let end = scanned_end drive_start f.0 1 (moments (count + 2)) refl refl long in
    let same : steps (f.0 ++ Good scan_request ∷ []) ≡ drive_plan count = ap steps (sym f.2) in
    let scanned : EndsScanned drive_start (drive_plan count) = subst (EndsScanned drive_start) same end.0 in
    let most : length (drive_plan count) ≤ count + 3 = omega (arith, end.1, ap length same, f.1) in
    (scanned.ends, omega (arith, scanned.low, most, few))
