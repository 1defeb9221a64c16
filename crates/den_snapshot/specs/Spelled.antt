-- The words of snapshots: what is written is read again, and what is read was written so.
use Rattle.std.proofs.Common.{refl, append_assoc}
use Rattle.std.proofs.lemmas.List.{append-nil}
use Rattle.den_model.proofs.Spells.{Spells, itself, spells_done_if, spells_then, spells_as, spells_u64, spells_list}
use Rattle.den_model.proofs.LogSpells.{Known}
use Rattle.den_model.proofs.StateSpells.{spells_pair}
use Rattle.den_snapshot.specs.Snapshots.{Taken, rises}
use Rattle.den_snapshot.specs.Words.{snapshot_word, snapshot_at, FitsSnapshot}

pub spells_snapshot : Spells itself FitsSnapshot snapshot_word snapshot_at
unfolding snapshot_at
spells_snapshot =
    spells_as (spells_then spells_u64 {known = Known} (λ (t : Taken). t.mark.index) (λ index _. spells_then spells_u64 (λ t. t.mark.term) (λ term _. spells_then (spells_list spells_pair) (λ t. t.pairs) (λ pairs _.
    spells_done_if (λ t. rises t.pairs) (record { mark = record { index = index; term = term }; pairs = pairs })
    (λ x h i. record { mark = record { index = h.0.0.1 i; term = h.0.1 i }; pairs = h.1 i }) (((tt, refl), refl), refl)))))
    (λ t h. ((h.0, (h.1, (h.2, h.3))), tt)) (λ t h. (h.0.0, h.0.1.0, h.0.1.1.0, h.0.1.1.1)) (λ t. simp (append_assoc, append-nil) refl)
