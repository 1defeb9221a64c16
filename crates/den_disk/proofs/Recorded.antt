-- A call that is done or that fails leaves the record that of the calls that made the files.
use Rattle.std.proofs.Common.{◌≡◌, ℕ, ◌+◌, ◌<◌, ◌≤◌, true, List, [], ◌∷◌, ◌++◌, length, set, take, drop, Vec, refl, sym, ◌∙◌, ap, subst, arith, length-take, length-drop}
use Rattle.std.proofs.Math.Logic.{∥∥₁_map}
use Rattle.std.proofs.lemmas.Bool.{eqb-true}
use Rattle.std.specs.declared.alloc.Global.{Global}
use Rattle.den_disk.specs.declared.place.Place.{Place}
use Rattle.den_disk.specs.declared.memory.Step.{Step}
use Rattle.den_disk.specs.declared.memory.Step.TheVariants.{Write, Resize, Sync}
use Rattle.den_disk.specs.Place.{place_number, is_place}
use Rattle.den_disk.specs.Files.{put_at, fit}
use Rattle.den_disk.specs.Memory.{file_of, undo}
use Rattle.den_disk.specs.Unwritten.{IsMade, AreMade, IsRecord}
use Rattle.den_disk.proofs.Images.{length-put_at}
use Rattle.den_disk.proofs.Places.{same_place}
use Rattle.den_disk.proofs.Puts.{put_here}
use Rattle.den_disk.proofs.Record.{fit-back, undone-push, write_undo, resize_undo}

made_push : (steps : List Step) (step : Step) (q : Place) (file : List ℕ) → AreMade steps q (undo step q file) → IsMade step q file → AreMade (steps ++ step ∷ []) q file
made_push [] step q file made call = (call, made)
made_push (s ∷ ss) step q file made call = (subst (IsMade s q) (sym (undone-push ss step q file)) made.0, made_push ss step q file made.1 call)

-- one call more
record_push : (files files' : List (Vec ℕ Global)) (steps steps' : List Step) (step : Step) → ((q : Place) → undo step q (file_of files' q) ≡ file_of files q) → ((q : Place) → IsMade step q (file_of files' q)) → steps' ≡ steps ++ step ∷ []
    → ∥ IsRecord files steps ∥₁ → ∥ IsRecord files' steps' ∥₁
record_push files files' steps steps' step back call is recorded =
    ∥∥₁_map recorded (λ made q. subst (λ (s : List Step). AreMade s q (file_of files' q)) (sym is) (made_push steps step q (file_of files' q) (subst (AreMade steps q) (sym (back q)) (made q)) (call q)))

-- a call that failed
pub record_stays : (files files' : List (Vec ℕ Global)) (steps steps' : List Step) → ((q : Place) → file_of files' q ≡ file_of files q) → steps' ≡ steps → ∥ IsRecord files steps ∥₁ → ∥ IsRecord files' steps' ∥₁
record_stays files files' steps steps' same is recorded = ∥∥₁_map recorded (λ made q. subst (λ (s : List Step). AreMade s q (file_of files' q)) (sym is) (subst (AreMade steps q) (sym (same q)) (made q)))

pub sync_record : (files : List (Vec ℕ Global)) (steps steps' : List Step) → steps' ≡ steps ++ Sync ∷ [] → ∥ IsRecord files steps ∥₁ → ∥ IsRecord files steps' ∥₁
sync_record files steps steps' is = record_push files files steps steps' Sync (λ q. refl) (λ q. tt) is

module _ (files : List (Vec ℕ Global)) (place : Place) (n : ℕ) (v : Vec ℕ Global) (has : n < length files) (number : n ≡ place_number place) (steps steps' : List Step) where
  own : (q : Place) → is_place q place ≡ true → q ≡ place
  own q e = same_place q place (eqb-true (place_number q) (place_number place) e)

  pub write_record : (at : ℕ) (bytes : List ℕ) (was : Vec ℕ Global) → at + length bytes ≤ length (file_of files place) → v.items ≡ put_at at bytes (file_of files place) → was.items ≡ take (length bytes) (drop at (file_of files place)) → steps' ≡ steps ++ Write place at was ∷ []
      → ∥ IsRecord files steps ∥₁ → ∥ IsRecord (set files n v) steps' ∥₁
  write_record at bytes was room new old is =
      let here : length (file_of (set files n v) place) ≡ length (file_of files place) = ap length (put_here files place n v has number _ new) ∙ length-put_at at bytes (file_of files place) room in
      let short : length was.items ≡ length bytes = omega (arith, ap length old, length-take (length bytes) (drop at (file_of files place)), length-drop at (file_of files place)) in
      let inside : at + length was.items ≤ length (file_of (set files n v) place) = omega arith in
      record_push files (set files n v) steps steps' (Write place at was) (write_undo files place n v has number at bytes was room new old)
      (λ q e. subst (λ p. at + length was.items ≤ length (file_of (set files n v) p)) (sym (own q e)) inside) is

  pub resize_record : (len from : ℕ) (was : Vec ℕ Global) → from ≡ length (file_of files place) → v.items ≡ fit len (file_of files place) → was.items ≡ drop len (file_of files place) → steps' ≡ steps ++ Resize place len from was ∷ []
      → ∥ IsRecord files steps ∥₁ → ∥ IsRecord (set files n v) steps' ∥₁
  resize_record len from was first new old is =
      let here : file_of (set files n v) place ≡ fit len (file_of files place) = put_here files place n v has number _ new in
      let again : fit len (take from (file_of (set files n v) place ++ was.items)) ≡ file_of (set files n v) place =
      (λ i. fit len (take (first i) (here i ++ old i))) ∙ ap (fit len) (fit-back len (file_of files place)) ∙ sym here in
      record_push files (set files n v) steps steps' (Resize place len from was) (resize_undo files place n v has number len from was first new old)
      (λ q e. subst (λ p. fit len (take from (file_of (set files n v) p ++ was.items)) ≡ file_of (set files n v) p) (sym (own q e)) again) is
