use Rattle.std.proofs.Common.{◌≡◌, ◌<◌, ◌≤◌, length, Option, Ok, refl, ap, sym, ◌∙◌, subst, arith}
use Rattle.std.specs.Prelude.{OnOk}
use Rattle.den_disk.specs.declared.place.Family.TheVariants.{Log as log_family}
use Rattle.den_gate.specs.Gate.{payloads}
use Rattle.den_model.specs.declared.region.LogRegion.{LogRegion}
use Rattle.den_model.specs.declared.region.LogRegion.TheVariants.{Purge}
use Rattle.den_model.specs.Log.{above, changed, empty_log, floor, is_lawful, log_from}
use Rattle.den_model.specs.Regions.{open_regions, placed}
use Rattle.den_model.specs.Sizes.{entries_size, store_rise}
use Rattle.den_model.specs.Spelling.{log_region_word}
use Rattle.den_journal.specs.Drafts.{anew_words, IsSizeOf}
use Rattle.den_journal.specs.Shown.{rewrite_size}
use Rattle.den_journal.specs.Writes.{DiskTells, Writes}
use Rattle.den_journal.proofs.Moving.{writes_nothing, writes_refused}
use Rattle.den_store.specs.declared.held_log.HeldLog.{HeldLog}
use Rattle.den_store.specs.Changes.{purge_words}
use Rattle.den_store.specs.Held.{log_of}
use Rattle.den_store.specs.FileLog.{log_held, log_shown, log_lies}
use Rattle.den_store.specs.Lookup.{entries_of, rest_region}
use Rattle.den_store.proofs.Anew.{purge_gives, purge_small}
use Rattle.den_store.proofs.HeldLogs.{not_purged}
use Rattle.den_store.proofs.Regions.{written_anew}
use Rattle.den_store.proofs.log_store.FileLogStoreLogStore.purge.Goals as goal

pub returns-then-cutoff-floor-clause-writes : goal.returns-then-cutoff-floor-clause-writes
returns-then-cutoff-floor-clause-writes g c =
    let s = c.requires.stands in
    let d = c.args.disk.now in
    let l = log_of c.args.self.now.journal.held in
    let under : c.args.cutoff.index ≤ floor l = omega (arith, c.floor.ensures, ap (λ h. floor (log_of h)) c.held.ensures, c.if-cutoff-floor.true) in
    writes_nothing g.D.Disk log_family log_held _ _ _ d s.ready s.rests
    (λ tells told files i. log_lies.rests_hold told c.args.self.now (g.D.Disk.content d) files s.ready (s.rests tells) ((g.met.D.Disk.images_now d files tells).0 i))
    tt (not_purged l c.args.cutoff.index c.args.cutoff.term under) (omega arith)

-- memory was wanting for the entries that are left
pub returns-in_err-rest-clause-writes : goal.returns-in_err-rest-clause-writes
returns-in_err-rest-clause-writes g c =
    let s = c.requires.stands in
    let d = c.args.disk.now in
    writes_refused g.D.Disk log_family log_held _ _ _ d s.ready s.rests
    (λ tells told files i. log_lies.rests_hold told c.args.self.now (g.D.Disk.content d) files s.ready (s.rests tells) ((g.met.D.Disk.images_now d files tells).0 i))
    c.from_residual.result c.from_residual.ensures.1 refl refl

pub returns-in_err-rest-clause-nothing : goal.returns-in_err-rest-clause-nothing
returns-in_err-rest-clause-nothing g c = λ under. absurd (omega (arith, c.floor.ensures, ap (λ h. floor (log_of h)) c.held.ensures, c.if-cutoff-floor.false, under))

pub purge_of-region-requires : goal.purge_of-region-requires
purge_of-region-requires g c = omega (arith, c.floor.ensures, ap (λ h. floor (log_of h)) c.held.ensures, c.if-cutoff-floor.false)

pub rewrite-requires-clause-lawful : goal.rewrite-requires-clause-lawful
rewrite-requires-clause-lawful g c =
    let l = log_of c.args.self.now.journal.held in
    ap (λ (r : LogRegion). is_lawful l r) c.purge_of-region.ensures.is

pub rewrite-requires-clause-gives : goal.rewrite-requires-clause-gives
rewrite-requires-clause-gives g c =
    let s = c.args.self.now.journal.held in
    let l = log_of s in
    let over : floor l < c.args.cutoff.index = omega (arith, c.floor.ensures, ap (λ h. floor (log_of h)) c.held.ensures, c.if-cutoff-floor.false) in
    let is : c.in_ok-rest.rest ≡ rest_region (above c.args.cutoff.index l.entries) = c.in_ok-rest.ensures.rest ∙ ap (λ (h : HeldLog). rest_region (above c.args.cutoff.index (log_of h).entries)) c.held-2.ensures in
    subst (λ (r : LogRegion). log_from empty_log (placed 0 (anew_words log_region_word r c.in_ok-rest.rest)) ≡ Ok (changed l r)) (sym c.purge_of-region.ensures.is)
    (purge_gives l c.args.cutoff.index c.args.cutoff.term c.in_ok-rest.rest s.order over is c.purge_of-region.ensures.fits c.in_ok-rest.ensures.fits)

pub rewrite-requires-clause-small : goal.rewrite-requires-clause-small
rewrite-requires-clause-small g c =
    let l = log_of c.args.self.now.journal.held in
    let over : floor l < c.args.cutoff.index = omega (arith, c.floor.ensures, ap (λ h. floor (log_of h)) c.held.ensures, c.if-cutoff-floor.false) in
    let is : c.in_ok-rest.rest ≡ rest_region (above c.args.cutoff.index l.entries) = c.in_ok-rest.ensures.rest ∙ ap (λ (h : HeldLog). rest_region (above c.args.cutoff.index (log_of h).entries)) c.held-2.ensures in
    subst (λ (r : LogRegion). length (open_regions (anew_words log_region_word r c.in_ok-rest.rest)) ≤ rewrite_size (entries_size (changed l r).entries)) (sym c.purge_of-region.ensures.is)
    (purge_small l c.args.cutoff.index c.args.cutoff.term c.in_ok-rest.rest over is)

pub returns-clause-writes : goal.returns-clause-writes
returns-clause-writes g c =
    let s = c.args.self.now in
    let l = log_of s.journal.held in
    let is : c.in_ok-rest.rest ≡ rest_region (above c.args.cutoff.index l.entries) = c.in_ok-rest.ensures.rest ∙ ap (λ (h : HeldLog). rest_region (above c.args.cutoff.index (log_of h).entries)) c.held-2.ensures in
    subst (λ (rest : Option LogRegion).
    Writes g.D.Disk (log_shown s) (log_shown (record { alloc = s.alloc; journal = c.rewrite.new.self })) c.args.disk.now c.rewrite.new.disk log_family log_held
    (record { to = changed l (Purge c.args.cutoff.index c.args.cutoff.term); adds = λ n. ⊥; drafts = IsSizeOf (anew_words log_region_word (Purge c.args.cutoff.index c.args.cutoff.term) rest); rise = store_rise 0; lost = ⊥ }) c.rewrite.result)
    is
    (subst (λ (r : LogRegion).
    Writes g.D.Disk (log_shown s) (log_shown (record { alloc = s.alloc; journal = c.rewrite.new.self })) c.args.disk.now c.rewrite.new.disk log_family log_held
    (record { to = changed l r; adds = λ n. ⊥; drafts = IsSizeOf (anew_words log_region_word r c.in_ok-rest.rest); rise = store_rise (entries_size (entries_of r)); lost = ⊥ }) c.rewrite.result)
    c.purge_of-region.ensures.is c.rewrite.ensures.writes)

pub returns-clause-nothing : goal.returns-clause-nothing
returns-clause-nothing g c = λ under. absurd (omega (arith, c.floor.ensures, ap (λ h. floor (log_of h)) c.held.ensures, c.if-cutoff-floor.false, under))

pub returns-then-cutoff-floor-clause-regions : goal.returns-then-cutoff-floor-clause-regions
returns-then-cutoff-floor-clause-regions g c = λ over. absurd (omega (arith, c.floor.ensures, ap (λ h. floor (log_of h)) c.held.ensures, c.if-cutoff-floor.true, over))

pub returns-clause-regions : goal.returns-clause-regions
returns-clause-regions g c =
    let s = c.args.self.now in
    let l = log_of s.journal.held in
    let is : c.in_ok-rest.rest ≡ rest_region (above c.args.cutoff.index l.entries) = c.in_ok-rest.ensures.rest ∙ ap (λ (h : HeldLog). rest_region (above c.args.cutoff.index (log_of h).entries)) c.held-2.ensures in
    λ _. written_anew g.D.Disk s.journal.gate c.rewrite.new.self.gate c.args.disk.now c.rewrite.new.disk (purge_words l c.args.cutoff) c.rewrite.result c.rewrite.ensures.slot
    (subst (λ (rest : Option LogRegion). OnOk c.rewrite.result (DiskTells g.D.Disk c.args.disk.now →
    payloads c.rewrite.new.self.gate (g.D.Disk.content c.rewrite.new.disk).reading ≡ anew_words log_region_word (Purge c.args.cutoff.index c.args.cutoff.term) rest)) is
    (subst (λ (r : LogRegion). OnOk c.rewrite.result (DiskTells g.D.Disk c.args.disk.now →
    payloads c.rewrite.new.self.gate (g.D.Disk.content c.rewrite.new.disk).reading ≡ anew_words log_region_word r c.in_ok-rest.rest)) c.purge_of-region.ensures.is c.rewrite.ensures.rewritten))
