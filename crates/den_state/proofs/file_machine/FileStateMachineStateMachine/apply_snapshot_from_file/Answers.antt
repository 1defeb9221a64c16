use Rattle.std.proofs.Common.{◌≡◌, ◌≤◌, ◌∙◌, ◌⊎◌, ⊎_elim, inl, inr, Ok, Err, sym, ap, subst, arith}
use Rattle.std.specs.Prelude.{max, unwrap_or}
use Rattle.den_model.specs.declared.log_id.LogId.{LogId}
use Rattle.den_state.specs.contracts.stored_map.StoredMapFolded.TheImpl.{ghosts}
use Rattle.den_state.specs.declared.file_machine.FileStateMachine.{FileStateMachine}
use Rattle.den_state.specs.declared.stored_map.StoredMap.{StoredMap}
use Rattle.den_state.specs.Checkpoint.{Replaces}
use Rattle.den_state.specs.Snapshots.{installed}
use Rattle.den_state.proofs.Installing.{installed_below, installed_list, installs, moves_put, not_found, not_installed, short_kept, wanting}
use Rattle.den_state.proofs.file_machine.FileStateMachineStateMachine.apply_snapshot_from_file.Goals as goal

pub returns-in-Err-clause-installs : goal.returns-in-Err-clause-installs
returns-in-Err-clause-installs g c =
    let s = c.args.self.now in
    let f = c.find_snapshot.ensures in
    let last = c.args.metadata.now.last_included in
    not_found g.D.Disk s.leased (max c.args.now 1) last s c.find_snapshot.new.self c.args.disk.now c.find_snapshot.new.disk f.goes_on f.moves c.in-Err.error (c.in-Err.ensures.refused (max c.args.now 1) last) f.value f.map

pub put-requires-clause-below : goal.put-requires-clause-below
put-requires-clause-below g c =
    let s = c.args.self.now in
    let mid = c.find_snapshot.new.self in
    let last = c.args.metadata.now.last_included in
    let t = c.in-Ok.snapshot in
    let same : mid ≡ s = c.in-Ok.ensures.same in
    let stored : c.unwrap_or-stored.result ≡ unwrap_or last s.journal.held.map.mark =
    c.unwrap_or-stored.ensures ∙ ap (λ (p : LogId). unwrap_or last p) (c.mark.ensures ∙ ap (λ (h : StoredMap). h.map.mark) c.held.ensures ∙ ap (λ (x : FileStateMachine). x.journal.held.map.mark) same) in
    let moment : c.of-moment.result ≡ max c.args.now 1 = c.of-moment.ensures ∙ c.max.ensures in
    let is : c.in_ok-held.held.map ≡ installed s.leased (max c.args.now 1) (unwrap_or last s.journal.held.map.mark) t = c.in_ok-held.ensures.map ∙ (λ i. installed (same i).leased (moment i) (stored i) t) in
    let applied : c.unwrap_or-applied.result ≡ unwrap_or last s.applied = c.unwrap_or-applied.ensures ∙ ap (λ (x : FileStateMachine). unwrap_or last x.applied) same in
    let below = installed_below s.leased (max c.args.now 1) last s.journal.held.map.mark s.applied t c.in_ok-held.held.map is s.below in
    omega (arith, below, ap (λ (p : LogId). p.index) applied)

pub returns-in-Ok-put-clause-installs : goal.returns-in-Ok-put-clause-installs
returns-in-Ok-put-clause-installs g c =
    let s = c.args.self.now in
    let mid = c.find_snapshot.new.self in
    let last = c.args.metadata.now.last_included in
    let t = c.in-Ok.snapshot in
    let same : mid ≡ s = c.in-Ok.ensures.same in
    let stored : c.unwrap_or-stored.result ≡ unwrap_or last s.journal.held.map.mark =
    c.unwrap_or-stored.ensures ∙ ap (λ (p : LogId). unwrap_or last p) (c.mark.ensures ∙ ap (λ (h : StoredMap). h.map.mark) c.held.ensures ∙ ap (λ (x : FileStateMachine). x.journal.held.map.mark) same) in
    let moment : c.of-moment.result ≡ max c.args.now 1 = c.of-moment.ensures ∙ c.max.ensures in
    let is : c.in_ok-held.held.map ≡ installed s.leased (max c.args.now 1) (unwrap_or last s.journal.held.map.mark) t = c.in_ok-held.ensures.map ∙ (λ i. installed (same i).leased (moment i) (stored i) t) in
    let applied : c.unwrap_or-applied.result ≡ unwrap_or last s.applied = c.unwrap_or-applied.ensures ∙ ap (λ (x : FileStateMachine). unwrap_or last x.applied) same in
    let f = c.find_snapshot.ensures in
    let r = subst (λ (x : FileStateMachine). Replaces ghosts g.D.Disk c.in_ok-held.held x.journal c.put.new.self.journal c.find_snapshot.new.disk c.put.new.disk (Ok c.in-Ok-put.field-0)) same c.in-Ok-put.ensures.replaces in
    installs g.D.Disk s c.put.new.self c.args.disk.now c.find_snapshot.new.disk c.put.new.disk s.leased (max c.args.now 1) last t c.in-Ok.ensures.found f.goes_on f.moves c.in_ok-held.held is
    c.in-Ok-put.field-0 _ (c.in-Ok-put.ensures.applied ∙ applied) r

pub returns-clause-installs : goal.returns-clause-installs
returns-clause-installs g c =
    let s = c.args.self.now in
    let mid = c.find_snapshot.new.self in
    let last = c.args.metadata.now.last_included in
    let t = c.in-Ok.snapshot in
    let same : mid ≡ s = c.in-Ok.ensures.same in
    let stored : c.unwrap_or-stored.result ≡ unwrap_or last s.journal.held.map.mark =
    c.unwrap_or-stored.ensures ∙ ap (λ (p : LogId). unwrap_or last p) (c.mark.ensures ∙ ap (λ (h : StoredMap). h.map.mark) c.held.ensures ∙ ap (λ (x : FileStateMachine). x.journal.held.map.mark) same) in
    let moment : c.of-moment.result ≡ max c.args.now 1 = c.of-moment.ensures ∙ c.max.ensures in
    let is : c.in_ok-held.held.map ≡ installed s.leased (max c.args.now 1) (unwrap_or last s.journal.held.map.mark) t = c.in_ok-held.ensures.map ∙ (λ i. installed (same i).leased (moment i) (stored i) t) in
    let applied : c.unwrap_or-applied.result ≡ unwrap_or last s.applied = c.unwrap_or-applied.ensures ∙ ap (λ (x : FileStateMachine). unwrap_or last x.applied) same in
    let f = c.find_snapshot.ensures in
    let e = c.in-Err-put.error in
    let r = subst (λ (x : FileStateMachine). Replaces ghosts g.D.Disk c.in_ok-held.held x.journal c.put.new.self.journal c.find_snapshot.new.disk c.put.new.disk (Err e)) same c.in-Err-put.ensures.replaces in
    let kept = ⊎_elim (λ k. inl (k.0 ∙ ap (λ (x : FileStateMachine). x.journal.held) same, k.1 ∙ ap (λ (x : FileStateMachine). x.applied) same)) (λ k. inr (k.0, k.1 ∙ applied)) c.in-Err-put.ensures.kept in
    not_installed g.D.Disk s c.put.new.self c.args.disk.now c.find_snapshot.new.disk c.put.new.disk s.leased (max c.args.now 1) last t c.in-Ok.ensures.found f.goes_on f.moves c.in_ok-held.held is e r kept

pub returns-in-Err-clause-short_kept : goal.returns-in-Err-clause-short_kept
returns-in-Err-clause-short_kept g c = λ short. omega (arith, ap (λ (h : StoredMap). h.tail) c.find_snapshot.ensures.held, short)

pub returns-clause-short_kept : goal.returns-clause-short_kept
returns-clause-short_kept g c =
    let s = c.args.self.now in
    let same : c.find_snapshot.new.self ≡ s = c.in-Ok.ensures.same in
    short_kept s.journal.held c.put.new.self.journal.held c.in_ok-held.held
    (⊎_elim (λ k. inl (k.0 ∙ ap (λ (x : FileStateMachine). x.journal.held) same)) (λ k. inr k.0) c.in-Err-put.ensures.kept) c.in_ok-held.ensures.tail

pub returns-in-Ok-put-clause-checkpoint : goal.returns-in-Ok-put-clause-checkpoint
returns-in-Ok-put-clause-checkpoint g c = λ tells.
    let s = c.args.self.now in
    let mid = c.find_snapshot.new.self in
    let last = c.args.metadata.now.last_included in
    let t = c.in-Ok.snapshot in
    let same : mid ≡ s = c.in-Ok.ensures.same in
    let stored : c.unwrap_or-stored.result ≡ unwrap_or last s.journal.held.map.mark =
    c.unwrap_or-stored.ensures ∙ ap (λ (p : LogId). unwrap_or last p) (c.mark.ensures ∙ ap (λ (h : StoredMap). h.map.mark) c.held.ensures ∙ ap (λ (x : FileStateMachine). x.journal.held.map.mark) same) in
    let moment : c.of-moment.result ≡ max c.args.now 1 = c.of-moment.ensures ∙ c.max.ensures in
    let is : c.in_ok-held.held.map ≡ installed s.leased (max c.args.now 1) (unwrap_or last s.journal.held.map.mark) t = c.in_ok-held.ensures.map ∙ (λ i. installed (same i).leased (moment i) (stored i) t) in
    let f = c.find_snapshot.ensures in
    let r = subst (λ (x : FileStateMachine). Replaces ghosts g.D.Disk c.in_ok-held.held x.journal c.put.new.self.journal c.find_snapshot.new.disk c.put.new.disk (Ok c.in-Ok-put.field-0)) same c.in-Ok-put.ensures.replaces in
    installed_list g.D.Disk s c.put.new.self c.args.disk.now c.find_snapshot.new.disk c.put.new.disk s.leased (max c.args.now 1) last t c.in-Ok.ensures.found f.goes_on f.moves c.in_ok-held.held is
    c.in-Ok-put.field-0 r tells

pub returns-in_err-held-clause-installs : goal.returns-in_err-held-clause-installs
returns-in_err-held-clause-installs g c =
    let s = c.args.self.now in
    let f = c.find_snapshot.ensures in
    let last = c.args.metadata.now.last_included in
    wanting g.D.Disk s.leased (max c.args.now 1) last s c.find_snapshot.new.self c.args.disk.now c.find_snapshot.new.disk f.goes_on f.moves c.from_residual.result c.from_residual.ensures.1 c.in-Ok.ensures.left

pub returns-in-Ok-put-clause-crash : goal.returns-in-Ok-put-clause-crash
returns-in-Ok-put-clause-crash g c =
    let s = c.args.self.now in
    let mid = c.find_snapshot.new.self in
    let last = c.args.metadata.now.last_included in
    let t = c.in-Ok.snapshot in
    let same : mid ≡ s = c.in-Ok.ensures.same in
    let stored : c.unwrap_or-stored.result ≡ unwrap_or last s.journal.held.map.mark =
    c.unwrap_or-stored.ensures ∙ ap (λ (p : LogId). unwrap_or last p) (c.mark.ensures ∙ ap (λ (h : StoredMap). h.map.mark) c.held.ensures ∙ ap (λ (x : FileStateMachine). x.journal.held.map.mark) same) in
    let moment : c.of-moment.result ≡ max c.args.now 1 = c.of-moment.ensures ∙ c.max.ensures in
    let is : c.in_ok-held.held.map ≡ installed s.leased (max c.args.now 1) (unwrap_or last s.journal.held.map.mark) t = c.in_ok-held.ensures.map ∙ (λ i. installed (same i).leased (moment i) (stored i) t) in
    let f = c.find_snapshot.ensures in
    let r = subst (λ (x : FileStateMachine). Replaces ghosts g.D.Disk c.in_ok-held.held x.journal c.put.new.self.journal c.find_snapshot.new.disk c.put.new.disk (Ok c.in-Ok-put.field-0)) same c.in-Ok-put.ensures.replaces in
    moves_put g.D.Disk s c.put.new.self c.args.disk.now c.find_snapshot.new.disk c.put.new.disk s.leased (max c.args.now 1) last t c.in-Ok.ensures.found f.goes_on f.moves c.in_ok-held.held is (Ok c.in-Ok-put.field-0) r

pub returns-clause-crash : goal.returns-clause-crash
returns-clause-crash g c =
    let s = c.args.self.now in
    let mid = c.find_snapshot.new.self in
    let last = c.args.metadata.now.last_included in
    let t = c.in-Ok.snapshot in
    let same : mid ≡ s = c.in-Ok.ensures.same in
    let stored : c.unwrap_or-stored.result ≡ unwrap_or last s.journal.held.map.mark =
    c.unwrap_or-stored.ensures ∙ ap (λ (p : LogId). unwrap_or last p) (c.mark.ensures ∙ ap (λ (h : StoredMap). h.map.mark) c.held.ensures ∙ ap (λ (x : FileStateMachine). x.journal.held.map.mark) same) in
    let moment : c.of-moment.result ≡ max c.args.now 1 = c.of-moment.ensures ∙ c.max.ensures in
    let is : c.in_ok-held.held.map ≡ installed s.leased (max c.args.now 1) (unwrap_or last s.journal.held.map.mark) t = c.in_ok-held.ensures.map ∙ (λ i. installed (same i).leased (moment i) (stored i) t) in
    let f = c.find_snapshot.ensures in
    let e = c.in-Err-put.error in
    let r = subst (λ (x : FileStateMachine). Replaces ghosts g.D.Disk c.in_ok-held.held x.journal c.put.new.self.journal c.find_snapshot.new.disk c.put.new.disk (Err e)) same c.in-Err-put.ensures.replaces in
    moves_put g.D.Disk s c.put.new.self c.args.disk.now c.find_snapshot.new.disk c.put.new.disk s.leased (max c.args.now 1) last t c.in-Ok.ensures.found f.goes_on f.moves c.in_ok-held.held is (Err e) r
