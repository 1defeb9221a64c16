-- The words of leases: what is written is read again, and what is read was written so.
use Rattle.std.proofs.Common.{ℕ, List, ◌++◌, refl, sym, ap}
use Rattle.std.specs.Prelude.{nat_le}
use Rattle.std.proofs.lemmas.Bool.{le-leb, leb-true}
use Rattle.std.proofs.lemmas.List.{append-nil}
use Rattle.den_model.specs.Table.{Table}
use Rattle.den_model.specs.Spelling.{u64_word, blob_word, list_word}
use Rattle.den_model.proofs.Spells.{Spells, itself, spells_done_if, spells_then, spells_as, spells_u64, spells_blob, spells_list}
use Rattle.den_model.proofs.LogSpells.{Known}
use Rattle.den_lease.specs.Rising.{rises}
use Rattle.den_lease.specs.Words.{Lease, lease_word, leases_word, lease_at, leases_at, FitsLease, FitsLeases}

pub spells_lease : Spells itself FitsLease lease_word lease_at
unfolding lease_at
spells_lease =
    spells_as (spells_then spells_blob {known = Known} (λ (l : Lease). l.0) (λ key _. spells_then spells_u64 (λ l. l.1) (λ expiry _.
    spells_done_if (λ l. nat_le 1 l.1) (key, expiry) (λ x h i. (h.0.1 i, h.1 i)) ((tt, refl), refl))))
    (λ l h. ((h.1, (h.2, le-leb 1 l.1 h.0)), tt)) (λ l h. (leb-true 1 l.1 h.0.1.1, h.0.0, h.0.1.0)) (λ l. ap (λ (bytes : List ℕ). blob_word l.0 ++ bytes) (sym (append-nil (u64_word l.1))))

pub spells_leases : Spells itself FitsLeases leases_word leases_at
unfolding leases_at
spells_leases =
    spells_as (spells_then (spells_list spells_lease) {known = Known} (λ (t : Table ℕ). t) (λ t _. spells_done_if (λ t. rises t) t (λ x h. h.1) (tt, refl)))
    (λ t h. (h, tt)) (λ t h. h.0) (λ t. sym (append-nil (list_word lease_word t)))
