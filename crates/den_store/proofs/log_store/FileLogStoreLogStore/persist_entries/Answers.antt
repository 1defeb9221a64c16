use Rattle.std.proofs.Common.{◌≡◌, ◌≤◌, ◌+◌, true, List, [], ◌∷◌, ◌++◌, length, Some, None, refl, ◌∙◌, sym, ap, subst, arith}
use Rattle.std.specs.Prelude.{◌&&◌, nat_le, OnOk, if◌then◌else◌}
use Rattle.den_disk.specs.declared.place.Family.TheVariants.{Log as log_family}
use Rattle.den_gate.specs.Gate.{payloads}
use Rattle.den_model.specs.Entries.{LogEntry, begin_from, rise_from}
use Rattle.den_model.specs.Log.{floor}
use Rattle.den_model.specs.declared.region.LogRegion.TheVariants.{Append}
use Rattle.den_model.specs.Spelling.{log_region_word}
use Rattle.den_journal.specs.Writes.{DiskTells, Writes}
use Rattle.den_journal.proofs.Moving.{writes_nothing, writes_refused}
use Rattle.den_store.specs.Held.{log_of}
use Rattle.den_store.specs.Changes.{log_change}
use Rattle.den_store.specs.FileLog.{log_held, log_lies, log_shown}
use Rattle.den_store.proofs.HeldLogs.{append_made, append_none, none_there, some_there}
use Rattle.den_store.proofs.Regions.{region_added}
use Rattle.den_store.proofs.Rising.{rise_from_begins, rise_from_lower}
use Rattle.den_store.proofs.log_store.FileLogStoreLogStore.persist_entries.Goals as goal

pub returns-then-is_empty-clause-writes : goal.returns-then-is_empty-clause-writes
returns-then-is_empty-clause-writes g c =
    let s = c.requires.stands in
    let d = c.args.disk.now in
    let none : length c.args.entries.now ≤ 0 = none_there c.args.entries.now (sym c.is_empty.ensures ∙ c.if-is_empty.true) in
    writes_nothing g.D.Disk log_family log_held _ _ _ d s.ready s.rests
    (λ tells told files i. log_lies.rests_hold told c.args.self.now (g.D.Disk.content d) files s.ready (s.rests tells) ((g.met.D.Disk.images_now d files tells).0 i))
    tt (append_none (log_of c.args.self.now.journal.held) c.args.entries.now none) (omega arith)

pub returns-in_err-copies-clause-writes : goal.returns-in_err-copies-clause-writes
returns-in_err-copies-clause-writes g c =
    let s = c.requires.stands in
    let d = c.args.disk.now in
    writes_refused g.D.Disk log_family log_held _ _ _ d s.ready s.rests
    (λ tells told files i. log_lies.rests_hold told c.args.self.now (g.D.Disk.content d) files s.ready (s.rests tells) ((g.met.D.Disk.images_now d files tells).0 i))
    c.from_residual.result c.from_residual.ensures.1 refl refl

-- entries that rise above the boundary are as an append wants them
pub unreachable-requires : goal.unreachable-requires
unreachable-requires g c =
    let es = c.args.entries.now in
    let some = some_there es (sym c.is_empty.ensures ∙ c.if-is_empty.false) in
    let made = append_made es some (rise_from_lower 1 (floor (log_of c.args.self.now.journal.held) + 1) es (omega arith) c.requires.rise) in
    let given = c.of-2.ensures ∙ ap (λ (xs : List LogEntry). if nat_le 1 (length xs) && rise_from 1 xs then Some xs else None) (c.of.ensures ∙ c.in_ok-copies.ensures) ∙ made in
    absurd (cc (given, c.in-None.is))

pub returns-clause-writes : goal.returns-clause-writes
returns-clause-writes g c =
    let s = c.args.self.now in
    let es = c.args.entries.now in
    let some = some_there es (sym c.is_empty.ensures ∙ c.if-is_empty.false) in
    let made = append_made es some (rise_from_lower 1 (floor (log_of s.journal.held) + 1) es (omega arith) c.requires.rise) in
    let given = c.of-2.ensures ∙ ap (λ (xs : List LogEntry). if nat_le 1 (length xs) && rise_from 1 xs then Some xs else None) (c.of.ensures ∙ c.in_ok-copies.ensures) ∙ made in
    let same : c.in-Some.entries ≡ es = cc (given, c.in-Some.is) in
    subst (λ (xs : List LogEntry).
    Writes g.D.Disk (log_shown s) (log_shown (record { alloc = s.alloc; journal = c.change.new.self })) c.args.disk.now c.change.new.disk log_family log_held
    (log_change (log_of s.journal.held) (Append xs)) c.change.result) same c.change.ensures.writes

pub change-requires-clause-lawful : goal.change-requires-clause-lawful
change-requires-clause-lawful g c =
    let s = c.args.self.now in
    let es = c.args.entries.now in
    let some = some_there es (sym c.is_empty.ensures ∙ c.if-is_empty.false) in
    let made = append_made es some (rise_from_lower 1 (floor (log_of s.journal.held) + 1) es (omega arith) c.requires.rise) in
    let given = c.of-2.ensures ∙ ap (λ (xs : List LogEntry). if nat_le 1 (length xs) && rise_from 1 xs then Some xs else None) (c.of.ensures ∙ c.in_ok-copies.ensures) ∙ made in
    let same : c.in-Some.entries ≡ es = cc (given, c.in-Some.is) in
    subst (λ (xs : List LogEntry). begin_from (floor (log_of s.journal.held) + 1) xs ≡ true) (sym same) (rise_from_begins (floor (log_of s.journal.held) + 1) es c.requires.rise)

pub returns-clause-region : goal.returns-clause-region
returns-clause-region g c =
    let s = c.args.self.now in
    let es = c.args.entries.now in
    let some = some_there es (sym c.is_empty.ensures ∙ c.if-is_empty.false) in
    let made = append_made es some (rise_from_lower 1 (floor (log_of s.journal.held) + 1) es (omega arith) c.requires.rise) in
    let given = c.of-2.ensures ∙ ap (λ (xs : List LogEntry). if nat_le 1 (length xs) && rise_from 1 xs then Some xs else None) (c.of.ensures ∙ c.in_ok-copies.ensures) ∙ made in
    let same : c.in-Some.entries ≡ es = cc (given, c.in-Some.is) in
    λ _. region_added g.D.Disk s.journal.gate c.change.new.self.gate c.args.disk.now c.change.new.disk (log_region_word (Append es)) c.change.result c.change.ensures.slot
    (subst (λ (xs : List LogEntry). OnOk c.change.result (DiskTells g.D.Disk c.args.disk.now →
    payloads c.change.new.self.gate (g.D.Disk.content c.change.new.disk).reading ≡ payloads s.journal.gate (g.D.Disk.content c.args.disk.now).reading ++ log_region_word (Append xs) ∷ [])) same c.change.ensures.appended)
