-- What was done for an answer: a line that was sent, or nothing.
use Rattle.std.proofs.Common.{◌≡◌, ◌++◌, inr, ℕ, List, drop, length, Option, Some, None, Err, refl, sym, ap, subst, ◌∙◌}
use Rattle.std.proofs.lemmas.List.{drop_at}
use Rattle.den_disk.specs.declared.clock.Clock.{Ghosts as Clocks}
use Rattle.den_disk.specs.declared.disk.Disk.{Ghosts as Disks}
use Rattle.den_disk.specs.declared.link.Link.{Ghosts as Links}
use Rattle.den_disk.specs.declared.source.Source.{Ghosts as Sources}
use Rattle.den_disk.specs.Goes.{IsPrefix, LinkGoesOn, added, stamped}
use Rattle.den_codec.specs.declared.error.Error.TheVariants.{OutOfMemory}
use Rattle.den_core.proofs.Lists.{bytes_of-stamped}
use Rattle.den_model.specs.Crash.{bytes_of}
use Rattle.den_server.specs.Promises.{AllGoOn}
use Rattle.den_server.proofs.Promised.{no_call_goes_on}
use Rattle.den_serving.specs.Serving.{IsAnswer}
use Rattle.den_words.specs.Words.{Named}

-- the bytes of a piece that was sent
pub piece_sent : (old new : List (ℕ × ℕ)) (piece : List ℕ) (t : ℕ) → new ≡ old ++ stamped piece t → bytes_of (added old new) ≡ piece
piece_sent old new piece t is = ap (λ l. bytes_of (drop (length old) l)) is ∙ ap bytes_of (drop_at old (stamped piece t) (length old) refl) ∙ bytes_of-stamped piece t

-- of a front of a piece, which is a line
pub front_sent : (old new : List (ℕ × ℕ)) (piece line : List ℕ) (t : ℕ) → piece ≡ line → (front : List ℕ) × IsPrefix front piece × (new ≡ old ++ stamped front t) → IsPrefix (bytes_of (added old new)) line
front_sent old new piece line t same sent = subst (λ (l : List ℕ). IsPrefix l line) (sym (piece_sent old new sent.0 t sent.2)) (record { rest = sent.1.rest; is = sent.1.is ∙ same })

-- the link alone was used
pub link_alone : {D L C : Type 0} (disk : Disks D) (link : Links L) (clock : Clocks C) (d : D) (from to : L) (c : C) → LinkGoesOn link.tells link.sent link.budget link.taken link.faults from to → AllGoOn disk link clock d d from to c c
link_alone disk link clock d from to c on =
    let still = no_call_goes_on disk link clock d from c in
    record { disk_goes_on = still.disk_goes_on; link_goes_on = on; clock_goes_on = still.clock_goes_on; snapshot = still.snapshot }

-- memory was wanting before anything was done
pub nothing_done : {S D L C : Type 0} (source : Sources S) (disk : Disks D) (link : Links L) (clock : Clocks C) (conf : S) (d : D) (l : L) (c : C) (names : Option Named)
    → IsAnswer source disk link clock conf conf d d l l c c names (Some (Err OutOfMemory))
nothing_done source disk link clock conf d l c None = (refl, refl, (refl, refl, refl))
nothing_done source disk link clock conf d l c (Some names) = inr (refl, refl, (refl, refl, refl))
