use Rattle.std.proofs.Common.{◌≡◌, ◌∙◌, Some, ap, subst}
use Rattle.den_map.specs.Held.{IsSound}
use Rattle.den_map.specs.Pages.{last_key}
use Rattle.den_state.specs.contracts.stored_map.StoredMapFolded.TheImpl.{ghosts}
use Rattle.den_state.specs.declared.stored_map.StoredMap.{StoredMap}
use Rattle.den_state.proofs.Checkpointing.{none_next, page_is, page_next, page_refused, wanting_next}
use Rattle.den_state.proofs.checkpoint.push_page.Goals as goal

pub returns-in_err-page-clause-next : goal.returns-in_err-page-clause-next
returns-in_err-page-clause-next g c = λ stands m most w.
    wanting_next ghosts g.D.Disk stands m most _ _ _ w g.met.D.Disk.images_now c.from_residual.result c.from_residual.ensures.1

pub returns-in_err-copy-in-Some-clause-next : goal.returns-in_err-copy-in-Some-clause-next
returns-in_err-copy-in-Some-clause-next g c = λ stands m most w.
    wanting_next ghosts g.D.Disk stands m most _ _ _ w g.met.D.Disk.images_now c.from_residual-in_err-copy-in-Some.result c.from_residual-in_err-copy-in-Some.ensures.1

pub returns-in-None-clause-next : goal.returns-in-None-clause-next
returns-in-None-clause-next g c = λ stands m most w.
    let over : c.held.result.now.map ≡ m = ap (λ (h : StoredMap). h.map) c.held.ensures ∙ w.is_map in
    let page = c.in_ok-page.page in
    none_next ghosts g.D.Disk stands m most _ _ _ w g.met.D.Disk.images_now page (page_is ghosts g.D.Disk stands m most _ _ _ w c.held.result.now.map _ page over c.as_ref.ensures.value c.in_ok-page.ensures.page)
    (c.in-None.ensures ∙ ap last_key c.as_slice.ensures) (subst IsSound over c.in_ok-page.ensures.sound)

pub returns-in-Ok-clause-next : goal.returns-in-Ok-clause-next
returns-in-Ok-clause-next g c = λ stands m most w.
    let over : c.held.result.now.map ≡ m = ap (λ (h : StoredMap). h.map) c.held.ensures ∙ w.is_map in
    let page = c.in_ok-page.page in
    page_next ghosts g.D.Disk stands m most _ _ _ w c.draft_push.new.self c.draft_push.new.disk page c.in_ok-copy-in-Some.field-0
    (page_is ghosts g.D.Disk stands m most _ _ _ w c.held.result.now.map _ page over c.as_ref.ensures.value c.in_ok-page.ensures.page)
    (ap (λ k. Some k) c.in_ok-copy-in-Some.ensures ∙ c.in-Some.ensures ∙ ap last_key c.as_slice.ensures)
    _ (c.in-Ok.ensures.pushes stands _ w.drafting) c.in-Ok.ensures.fits (ap (λ (h : StoredMap). h.map) c.draft_push.ensures.held ∙ w.is_map) (subst IsSound over c.in_ok-page.ensures.sound)

pub returns-clause-next : goal.returns-clause-next
returns-clause-next g c = λ stands m most w.
    let over : c.held.result.now.map ≡ m = ap (λ (h : StoredMap). h.map) c.held.ensures ∙ w.is_map in
    let page = c.in_ok-page.page in
    page_refused ghosts g.D.Disk stands m most _ _ _ w c.draft_push.new.self c.draft_push.new.disk page c.in_ok-copy-in-Some.field-0
    (page_is ghosts g.D.Disk stands m most _ _ _ w c.held.result.now.map _ page over c.as_ref.ensures.value c.in_ok-page.ensures.page)
    (ap (λ k. Some k) c.in_ok-copy-in-Some.ensures ∙ c.in-Some.ensures ∙ ap last_key c.as_slice.ensures)
    c.in-Err.error (c.in-Err.ensures.pushes stands _ w.drafting)
