use Rattle.std.proofs.Common.{◌≡◌, ◌∙◌, ℕ, List, Ok, Err, refl, ap, sym, subst}
use Rattle.std.specs.Prelude.{max, true, false}
use Rattle.den_disk.specs.declared.place.Family.TheVariants.{State, Snapshot}
use Rattle.den_gate.proofs.Families.{others_own}
use Rattle.den_map.specs.Sizes.{pairs_size}
use Rattle.den_snapshot.specs.Snapshots.{Taken, taken_of}
use Rattle.den_snapshot.specs.Words.{FitsSnapshot, snapshot_word}
use Rattle.den_snapshot.proofs.Giving.{snapshot_again}
use Rattle.den_journal.specs.OneWord.{WritesOne}
use Rattle.den_journal.specs.Shown.{rewrite_size}
use Rattle.den_state.specs.declared.stored_map.StoredMap.{StoredMap}
use Rattle.den_state.specs.FileState.{state_lies, state_map, state_shown}
use Rattle.den_state.proofs.Generating.{generated, not_generated, wanting, word_within}
use Rattle.den_state.proofs.file_machine.FileStateMachineStateMachine.generate_snapshot_data.Goals as goal

pub returns-in_err-checksum-clause-generates : goal.returns-in_err-checksum-clause-generates
returns-in_err-checksum-clause-generates g c =
    let s = c.requires.stands in
    wanting g.D.Disk (state_shown c.args.self.now) (taken_of c.args.last_included (state_map c.args.self.now)) c.args.disk.now s.ready s.rests c.from_residual.result c.from_residual.ensures.1

pub returns-in_err-word-clause-generates : goal.returns-in_err-word-clause-generates
returns-in_err-word-clause-generates g c =
    let s = c.requires.stands in
    wanting g.D.Disk (state_shown c.args.self.now) (taken_of c.args.last_included (state_map c.args.self.now)) c.args.disk.now s.ready s.rests c.from_residual-in_err-word.result c.from_residual-in_err-word.ensures.1

pub returns-in-Ok-clause-generates : goal.returns-in-Ok-clause-generates
returns-in-Ok-clause-generates g c =
    let s = c.args.self.now in
    let d = c.args.disk.now in
    let new = c.write_one.new.disk in
    let made = taken_of c.args.last_included (state_map s) in
    let over : taken_of c.args.last_included c.held.result.now.map ≡ made = ap (λ (h : StoredMap). taken_of c.args.last_included h.map) c.held.ensures in
    let word : c.in_ok-word.word ≡ snapshot_word made = c.in_ok-word.ensures.word ∙ ap (λ (t : Taken). snapshot_word t) over in
    let fits : FitsSnapshot made = subst (λ (t : Taken). FitsSnapshot t) over c.in_ok-word.ensures.fits in
    let w = subst (λ (x : List ℕ). WritesOne g.D.Disk Snapshot x d new (Ok c.in-Ok.field-0)) word c.in-Ok.ensures.writes in
    generated g.D.Disk (state_shown s) (state_shown s) made refl refl (snapshot_again made fits) d new g.met.D.Disk.images_now c.in-Ok.field-0 _ c.requires.stands.ready
    (λ tells. state_lies.rests_own s (g.D.Disk.content d) (g.D.Disk.content new) (others_own State Snapshot (g.D.Disk.content d) (g.D.Disk.content new) (λ e. absurd (cc e)) (w.spares tells)) (c.requires.stands.rests tells)) w

pub returns-in-Err-clause-generates : goal.returns-in-Err-clause-generates
returns-in-Err-clause-generates g c =
    let s = c.args.self.now in
    let d = c.args.disk.now in
    let new = c.write_one.new.disk in
    let made = taken_of c.args.last_included (state_map s) in
    let over : taken_of c.args.last_included c.held.result.now.map ≡ made = ap (λ (h : StoredMap). taken_of c.args.last_included h.map) c.held.ensures in
    let word : c.in_ok-word.word ≡ snapshot_word made = c.in_ok-word.ensures.word ∙ ap (λ (t : Taken). snapshot_word t) over in
    let fits : FitsSnapshot made = subst (λ (t : Taken). FitsSnapshot t) over c.in_ok-word.ensures.fits in
    let w = subst (λ (x : List ℕ). WritesOne g.D.Disk Snapshot x d new (Err c.in-Err.error)) word c.in-Err.ensures.writes in
    not_generated g.D.Disk (state_shown s) _ made (ap (λ (h : StoredMap). h.map) c.give_up.ensures.held)
    (λ i. max (c.give_up.ensures.gate i).end (rewrite_size (pairs_size (c.give_up.ensures.held i).map.pairs))) (snapshot_again made fits) d new g.met.D.Disk.images_now c.in-Err.error
    (λ ready. let never : ◌≡◌ {A = _} true false = sym c.give_up.ensures.unready ∙ ready.0 in absurd (cc never)) (word_within s.journal.gate.end c.args.last_included s.journal.held.map) w
