use Rattle.std.proofs.Common.{inl, ap, ◌∙◌}
use Rattle.std.proofs.lemmas.Result.{IfOk-weaker}
use Rattle.den_core.proofs.CatchUp.{refused_here, left_here, free_here, none_some, refused_later, room_here, survives_still}
use Rattle.den_core.proofs.Spared.{on_ok_just, spares_still}
use Rattle.den_core.proofs.recovery.recover.Goals as goal
use Rattle.den_state.specs.Machine.{rest_hold}

-- nothing was done
pub returns-in_err-found-clause-survives : goal.returns-in_err-found-clause-survives
returns-in_err-found-clause-survives g c = λ kept told held is.
    let disk = c.args.disk.now in
    let rests = c.requires.rests told in
    survives_still g.G.LogStore.holds.of g.T.MetaStore.holds.of g.M.StateMachine.holds.of _ _ (g.D.Disk.content disk) (g.G.LogStore.shown c.args.log).value (g.T.MetaStore.shown c.args.meta).value (g.M.StateMachine.map c.args.state) _
    is (λ files. g.met.D.Disk.images_now disk files told)
    (λ files at. g.met.G.LogStore.lies.rests_hold held.0 c.args.log (g.D.Disk.content disk) files c.requires.log_ready rests.log at)
    (λ files at. g.met.T.MetaStore.lies.rests_hold held.1 c.args.meta (g.D.Disk.content disk) files c.requires.meta_ready rests.meta at)
    (λ files at. rest_hold g.met.M.StateMachine.lies held.2 c.args.state (g.M.StateMachine.map c.args.state) (g.D.Disk.content disk) files c.requires.state_ready rests.state at)

pub returns-in-Some-clause-survives : goal.returns-in-Some-clause-survives
returns-in-Some-clause-survives g c = λ kept told held is.
    let disk = c.args.disk.now in
    let rests = c.requires.rests told in
    survives_still g.G.LogStore.holds.of g.T.MetaStore.holds.of g.M.StateMachine.holds.of _ _ (g.D.Disk.content disk) (g.G.LogStore.shown c.args.log).value (g.T.MetaStore.shown c.args.meta).value (g.M.StateMachine.map c.args.state) _
    is (λ files. g.met.D.Disk.images_now disk files told)
    (λ files at. g.met.G.LogStore.lies.rests_hold held.0 c.args.log (g.D.Disk.content disk) files c.requires.log_ready rests.log at)
    (λ files at. g.met.T.MetaStore.lies.rests_hold held.1 c.args.meta (g.D.Disk.content disk) files c.requires.meta_ready rests.meta at)
    (λ files at. rest_hold g.met.M.StateMachine.lies held.2 c.args.state (g.M.StateMachine.map c.args.state) (g.D.Disk.content disk) files c.requires.state_ready rests.state at)

pub returns-in_err-running-clause-survives : goal.returns-in_err-running-clause-survives
returns-in_err-running-clause-survives g c = λ kept told held is.
    let disk = c.args.disk.now in
    let rests = c.requires.rests told in
    survives_still g.G.LogStore.holds.of g.T.MetaStore.holds.of g.M.StateMachine.holds.of _ _ (g.D.Disk.content disk) (g.G.LogStore.shown c.args.log).value (g.T.MetaStore.shown c.args.meta).value (g.M.StateMachine.map c.args.state) _
    is (λ files. g.met.D.Disk.images_now disk files told)
    (λ files at. g.met.G.LogStore.lies.rests_hold held.0 c.args.log (g.D.Disk.content disk) files c.requires.log_ready rests.log at)
    (λ files at. g.met.T.MetaStore.lies.rests_hold held.1 c.args.meta (g.D.Disk.content disk) files c.requires.meta_ready rests.meta at)
    (λ files at. rest_hold g.met.M.StateMachine.lies held.2 c.args.state (g.M.StateMachine.map c.args.state) (g.D.Disk.content disk) files c.requires.state_ready rests.state at)

pub returns-in-Some-clause-refused : goal.returns-in-Some-clause-refused
returns-in-Some-clause-refused g c = inl (refused_here _ _ (g.G.LogStore.shown c.args.log).value (g.T.MetaStore.shown c.args.meta).value (g.M.StateMachine.map c.args.state) _ _ _ _
    (ap (λ i. i.index) c.last_applied-mark.ensures) (c.as_slice-entries.ensures ∙ c.in_ok-found.ensures.entries) c.lacks_lease-lacking.ensures c.refusal.ensures.refusal ∙ c.in-Some.is)

pub bring_together-requires-clause-left : goal.bring_together-requires-clause-left
bring_together-requires-clause-left g c = left_here _ _ (g.G.LogStore.shown c.args.log).value (g.T.MetaStore.shown c.args.meta).value (g.M.StateMachine.map c.args.state) _ _ _ _
    (ap (λ i. i.index) c.last_applied-mark.ensures) (c.as_slice-entries.ensures ∙ c.in_ok-found.ensures.entries) c.lacks_lease-lacking.ensures c.refusal.ensures.refusal c.in_default.is

pub bring_together-requires-clause-leased : goal.bring_together-requires-clause-leased
bring_together-requires-clause-leased g c = free_here _ _ (g.G.LogStore.shown c.args.log).value (g.T.MetaStore.shown c.args.meta).value (g.M.StateMachine.map c.args.state) _ _ _ _
    (ap (λ i. i.index) c.last_applied-mark.ensures) (c.as_slice-entries.ensures ∙ c.in_ok-found.ensures.entries) c.lacks_lease-lacking.ensures c.refusal.ensures.refusal c.in_default.is

pub returns-clause-unrefused : goal.returns-clause-unrefused
returns-clause-unrefused g c =
    let none = refused_here _ _ (g.G.LogStore.shown c.args.log).value (g.T.MetaStore.shown c.args.meta).value (g.M.StateMachine.map c.args.state) _ _ _ _
    (ap (λ i. i.index) c.last_applied-mark.ensures) (c.as_slice-entries.ensures ∙ c.in_ok-found.ensures.entries) c.lacks_lease-lacking.ensures c.refusal.ensures.refusal ∙ c.in_default.is in
    on_ok_just c.bring_together.result none

pub returns-clause-refused : goal.returns-clause-refused
returns-clause-refused g c =
    let none = refused_here _ _ (g.G.LogStore.shown c.args.log).value (g.T.MetaStore.shown c.args.meta).value (g.M.StateMachine.map c.args.state) _ _ _ _
    (ap (λ i. i.index) c.last_applied-mark.ensures) (c.as_slice-entries.ensures ∙ c.in_ok-found.ensures.entries) c.lacks_lease-lacking.ensures c.refusal.ensures.refusal ∙ c.in_default.is in
    refused_later c.bring_together.result _ _ _ none c.bring_together.ensures.refused

pub returns-clause-untouched : goal.returns-clause-untouched
returns-clause-untouched g c = λ some.
    let none = refused_here _ _ (g.G.LogStore.shown c.args.log).value (g.T.MetaStore.shown c.args.meta).value (g.M.StateMachine.map c.args.state) _ _ _ _
    (ap (λ i. i.index) c.last_applied-mark.ensures) (c.as_slice-entries.ensures ∙ c.in_ok-found.ensures.entries) c.lacks_lease-lacking.ensures c.refusal.ensures.refusal ∙ c.in_default.is in
    absurd (none_some _ none some)

pub returns-clause-term : goal.returns-clause-term
returns-clause-term g c = IfOk-weaker c.bring_together.result _ _ (λ engine is. (room_here (g.G.LogStore.shown c.args.log).value (g.T.MetaStore.shown c.args.meta).value (g.M.StateMachine.map c.args.state) _ _ _
    (ap (λ i. i.index) c.last_applied-mark.ensures) (left_here _ _ (g.G.LogStore.shown c.args.log).value (g.T.MetaStore.shown c.args.meta).value (g.M.StateMachine.map c.args.state) _ _ _ _
    (ap (λ i. i.index) c.last_applied-mark.ensures) (c.as_slice-entries.ensures ∙ c.in_ok-found.ensures.entries) c.lacks_lease-lacking.ensures c.refusal.ensures.refusal c.in_default.is) c.in_default.ensures.room is).0) c.bring_together.ensures.opened

pub returns-clause-index : goal.returns-clause-index
returns-clause-index g c = IfOk-weaker c.bring_together.result _ _ (λ engine is. (room_here (g.G.LogStore.shown c.args.log).value (g.T.MetaStore.shown c.args.meta).value (g.M.StateMachine.map c.args.state) _ _ _
    (ap (λ i. i.index) c.last_applied-mark.ensures) (left_here _ _ (g.G.LogStore.shown c.args.log).value (g.T.MetaStore.shown c.args.meta).value (g.M.StateMachine.map c.args.state) _ _ _ _
    (ap (λ i. i.index) c.last_applied-mark.ensures) (c.as_slice-entries.ensures ∙ c.in_ok-found.ensures.entries) c.lacks_lease-lacking.ensures c.refusal.ensures.refusal c.in_default.is) c.in_default.ensures.room is).1) c.bring_together.ensures.opened

pub returns-in_err-found-clause-snapshot : goal.returns-in_err-found-clause-snapshot
returns-in_err-found-clause-snapshot g c = λ told. spares_still _ _ _ _ _

pub returns-in-Some-clause-snapshot : goal.returns-in-Some-clause-snapshot
returns-in-Some-clause-snapshot g c = λ told. spares_still _ _ _ _ _

pub returns-in_err-running-clause-snapshot : goal.returns-in_err-running-clause-snapshot
returns-in_err-running-clause-snapshot g c = λ told. spares_still _ _ _ _ _
