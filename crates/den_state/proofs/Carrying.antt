-- A snapshot's files that are carried to another disk.
use Rattle.std.proofs.Common.{◌≡◌, ◌∙◌, ℕ, Bool, List, Option, Some, None, Ok, refl, sym, ap}
use Rattle.den_disk.specs.declared.disk.Disk.{Ghosts}
use Rattle.den_disk.specs.declared.place.Family.TheVariants.{Snapshot}
use Rattle.den_disk.specs.declared.place.Place.{Place}
use Rattle.den_disk.specs.Files.{Files}
use Rattle.den_disk.specs.Families.{SameOf}
use Rattle.den_model.specs.Image.{head_of, named, slot_of}
use Rattle.den_model.specs.MapState.{MapState}
use Rattle.den_model.specs.Regions.{regions}
use Rattle.den_map.specs.Held.{IsSound}
use Rattle.den_map.proofs.Rebuilding.{rebuilt}
use Rattle.den_snapshot.specs.Snapshots.{Taken, map_of, taken_of}
use Rattle.den_snapshot.specs.Words.{snapshot_in}
use Rattle.den_journal.specs.OneWord.{one_of}
use Rattle.den_state.specs.Cleanup.{cleaned_where}
use Rattle.den_state.specs.FileState.{state_map}
use Rattle.den_state.specs.Laws.{SnapshotsAreCarried}
use Rattle.den_state.specs.Snapshots.{installed, snapshot_of}

-- only the family's own files count
same_snapshot : (one other : Files) → SameOf Snapshot one other → snapshot_of other ≡ snapshot_of one
same_snapshot one other same =
    let head : named (other (head_of Snapshot)) ≡ named (one (head_of Snapshot)) = ap named (same (head_of Snapshot) refl) in
    let slot : slot_of Snapshot other ≡ slot_of Snapshot one = λ i. record { family = Snapshot; part = head i } in
    ap (λ (l : List ℕ). one_of snapshot_in (regions l)) (ap (λ (p : Place). other p) slot ∙ same (slot_of Snapshot one) refl)

is_taken : (t other : Taken) → ◌≡◌ {A = Option Taken} (Some t) (Some other) → t ≡ other
is_taken t other is = cc is

again : (leased : Bool) (moment : ℕ) (m : MapState) (t : Taken) → IsSound m → t ≡ taken_of m.mark m → installed leased moment m.mark t ≡ cleaned_where leased moment m
again leased moment m t sound is = ap (λ (x : Taken). installed leased moment m.mark x) is ∙ ap (λ (x : MapState). cleaned_where leased moment x) (rebuilt m sound)

pub carried : {D E : Type 0} (disk : Ghosts D) (other : Ghosts E) → SnapshotsAreCarried disk other
carried disk other s stored old new sound tells g leased moment before after from to reads same i =
    let m = state_map s in
    let put = i.done.put in
    let is : put.taken ≡ taken_of m.mark m = is_taken put.taken (taken_of m.mark m) (sym (put.found.there reads) ∙ same_snapshot (disk.content new).reading (other.content from).reading same ∙ (g.done.reading tells).is) in
    let map = again leased moment m put.taken sound is in
    (put.map ∙ map, put.value ∙ map)
