-- What a registry keeps of its watchers: their numbers rise, and no more events wait for each than may.
use Rattle.std.proofs.Common.{◌≡◌, ℕ, zero, suc, ◌+◌, ◌<◌, ◌≤◌, Bool, true, false, cond, List, [], ◌∷◌, ◌++◌, length, get_or, map, refl, ap, ◌∙◌, arith}
use Rattle.std.specs.Prelude.{nat_lt, IfOk, Ok, Err, ◌&&◌, ◌==◌}
use Rattle.std.specs.List.{remove}
use Rattle.std.proofs.lemmas.Bool.{ltb-true}
use Rattle.std.proofs.lemmas.List.{length_push}
use Rattle.den_model.specs.declared.reply.WatchEvent.{WatchEvent}
use Rattle.den_model.specs.declared.watcher.Change.{Change}
use Rattle.den_model.specs.declared.watcher.Watcher.{Watcher}
use Rattle.den_model.specs.Step.{event_of, sees}
use Rattle.den_watch.specs.declared.error.WatchError.TheVariants.{WatchBufferOverflow}
use Rattle.den_watch.specs.Queues.{AllFit, RisesAndFits}
use Rattle.den_watch.specs.Registry.{Waiting, is_numbered, newcomer, takes_of, told}
use Rattle.den_watch.proofs.Rising.{rise_added, rise_emptied, rise_mapped, rise_removed}
use Rattle.den_watch.proofs.Telling.{told_watcher}

-- ---- no more events than may

-- for one that stands at an index
pub fits_at : (buffer : ℕ) (ws : List Waiting) (i : ℕ) (d : Waiting) → i < length ws → AllFit buffer ws → length (get_or ws i d).events ≤ buffer
fits_at buffer [] i d lt h = absurd (omega arith)
fits_at buffer (w ∷ ws) zero d lt h = h.0
fits_at buffer (w ∷ ws) (suc i) d lt h = fits_at buffer ws i d (omega arith) h.1

-- with one more behind them
fits_added : (buffer : ℕ) (ws : List Waiting) (w : Waiting) → length w.events ≤ buffer → AllFit buffer ws → AllFit buffer (ws ++ w ∷ [])
fits_added buffer [] w le h = (le, tt)
fits_added buffer (v ∷ ws) w le h = (h.0, fits_added buffer ws w le h.1)

-- with one fewer
fits_removed : (buffer : ℕ) (ws : List Waiting) (i : ℕ) → AllFit buffer ws → AllFit buffer (remove ws i)
fits_removed buffer [] zero h = h
fits_removed buffer [] (suc i) h = h
fits_removed buffer (w ∷ ws) zero h = h.1
fits_removed buffer (w ∷ ws) (suc i) h = (h.0, fits_removed buffer ws i h.1)

-- where each is changed to one for whom no more wait than may
fits_mapped : (buffer : ℕ) (f : Waiting → Waiting) → ((w : Waiting) → length w.events ≤ buffer → length (f w).events ≤ buffer) → (ws : List Waiting) → AllFit buffer ws → AllFit buffer (map f ws)
fits_mapped buffer f fit [] h = h
fits_mapped buffer f fit (w ∷ ws) h = (fit w h.0, fits_mapped buffer f fit ws h.1)

-- by whether it sees the key, whether it ended, and whether there is room
given_fits : (buffer : ℕ) (w : Waiting) (e : WatchEvent) (sees ended room : Bool) → nat_lt (length w.events) buffer ≡ room → length w.events ≤ buffer
    → length (cond sees (cond ended w (cond room (record w { events = w.events ++ e ∷ [] }) (record w { ended = true }))) w).events ≤ buffer
given_fits buffer w e false ended room is le = le
given_fits buffer w e true true room is le = le
given_fits buffer w e true false true is le = omega (arith, length_push w.events e, ltb-true (length w.events) buffer is)
given_fits buffer w e true false false is le = le

-- a change that it is told finds room, or is left out
told_fits : (buffer : ℕ) (c : Change) (w : Waiting) → length w.events ≤ buffer → length (told buffer c w).events ≤ buffer
told_fits buffer c w le = given_fits buffer w (event_of c w.watcher) (sees w.watcher c.key) w.ended (nat_lt (length w.events) buffer) refl le

-- nor do more wait for one of whom all may have been taken
emptied_fits : (buffer number : ℕ) (w : Waiting) → length w.events ≤ buffer → length (cond (is_numbered number w) (record w { events = [] }) w).events ≤ buffer
emptied_fits buffer number w le =
    elim (is_numbered number w) as (λ b. length (cond b (record w { events = [] }) w).events ≤ buffer) [ true ↦ omega arith | false ↦ le ]

-- what is taken of it are those that wait
pub takes_fit : (buffer : ℕ) (w : Waiting) → length w.events ≤ buffer → IfOk (takes_of w) (λ events. length events ≤ buffer)
takes_fit buffer w le =
    elim (w.ended && length w.events == 0) as (λ b. IfOk (cond b (Err WatchBufferOverflow) (Ok w.events)) (λ events. length events ≤ buffer)) [ true ↦ tt | false ↦ le ]

-- ---- what a registry keeps

-- one watcher more, of the next number
pub keeps_added : (top buffer : ℕ) (ws : List Waiting) (w : Waiting) (v : Watcher) → w ≡ newcomer v → v.number ≡ top + 1 → RisesAndFits top buffer ws → RisesAndFits (top + 1) buffer (ws ++ w ∷ [])
keeps_added top buffer ws w v is number h =
    let none : length w.events ≤ buffer = omega (arith, ap (λ (u : Waiting). length u.events) is) in
    record {
      rises = rise_added top 0 ws w (ap (λ (u : Waiting). u.watcher.number) is ∙ number) h.rises;
      fits = fits_added buffer ws w none h.fits;
    }

-- one fewer
pub keeps_removed : (top buffer : ℕ) (ws : List Waiting) (i : ℕ) → RisesAndFits top buffer ws → RisesAndFits top buffer (remove ws i)
keeps_removed top buffer ws i h = record { rises = rise_removed top 0 ws i h.rises; fits = fits_removed buffer ws i h.fits }

-- each is told of a change
pub keeps_told : (top buffer : ℕ) (c : Change) (ws : List Waiting) → RisesAndFits top buffer ws → RisesAndFits top buffer (map (told buffer c) ws)
keeps_told top buffer c ws h = record {
  rises = rise_mapped top 0 (told buffer c) (told_watcher buffer c) ws h.rises;
  fits = fits_mapped buffer (told buffer c) (told_fits buffer c) ws h.fits;
}

-- what waits for one is taken
pub keeps_emptied : (top buffer number : ℕ) (ws : List Waiting) → RisesAndFits top buffer ws → RisesAndFits top buffer (map (λ w. cond (is_numbered number w) (record w { events = [] }) w) ws)
keeps_emptied top buffer number ws h = record {
  rises = rise_emptied top number ws h.rises;
  fits = fits_mapped buffer (λ w. cond (is_numbered number w) (record w { events = [] }) w) (emptied_fits buffer number) ws h.fits;
}
