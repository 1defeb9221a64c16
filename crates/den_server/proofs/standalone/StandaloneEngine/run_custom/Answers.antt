use Rattle.std.proofs.Common.{IfErr, subst}
use Rattle.den_server.specs.Custom.{HasCause, IsAnsweredSo, RefusesUntouched, says_of}
use Rattle.den_server.proofs.standalone.StandaloneEngine.run_custom.Goals as goal

pub returns-clause-refused : goal.returns-clause-refused
returns-clause-refused g c = subst (λ p. IfErr c.run_over.result (HasCause g.D.Disk g.L.Link g.C.Clock (record {
  log = g.E.Log.LogStore.shown p.0;
  meta = g.E.Meta.MetaStore.shown p.1;
  state = g.M.StateMachine.shown c.args.state;
  map = g.M.StateMachine.map c.args.state;
  place = g.E.Log.LogStore.place p.0;
  leased = (g.M.StateMachine.settings c.args.state).leased;
  says = says_of g.E.Log.LogStore.holds g.E.Meta.MetaStore.holds g.M.StateMachine.holds;
})
    (g.K.Core.view c.args.core) c.args.config.now c.args.disk.now c.run_over.new.disk c.args.link.now c.run_over.new.link c.args.clock.now c.run_over.new.clock))
    c.split-log.ensures c.run_over.ensures.refused

pub returns-clause-turned_away : goal.returns-clause-turned_away
returns-clause-turned_away g c = subst (λ p. RefusesUntouched g.D.Disk g.L.Link g.C.Clock (record {
  log = g.E.Log.LogStore.shown p.0;
  meta = g.E.Meta.MetaStore.shown p.1;
  state = g.M.StateMachine.shown c.args.state;
  map = g.M.StateMachine.map c.args.state;
  place = g.E.Log.LogStore.place p.0;
  leased = (g.M.StateMachine.settings c.args.state).leased;
  says = says_of g.E.Log.LogStore.holds g.E.Meta.MetaStore.holds g.M.StateMachine.holds;
})
    (g.K.Core.view c.args.core) c.args.config.now c.args.disk.now c.run_over.new.disk c.args.link.now c.run_over.new.link c.args.clock.now c.run_over.new.clock (λ e. IsAnsweredSo e c.run_over.result))
    c.split-log.ensures c.run_over.ensures.turned_away
