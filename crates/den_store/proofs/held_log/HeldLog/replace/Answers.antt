use Rattle.std.proofs.Common.{Option, ◌≡◌, List, ◌++◌, is_ok, ◌∙◌, sym, ap, subst}
use Rattle.std.proofs.lemmas.Bool.{cond-true}
use Rattle.den_model.specs.declared.log_id.LogId.{LogId}
use Rattle.den_model.specs.Entries.{LogEntry}
use Rattle.den_model.specs.Log.{Log, below}
use Rattle.den_store.specs.Order.{IsInOrder}
use Rattle.den_store.specs.Held.{log_of}
use Rattle.den_store.proofs.Fitting.{replaced_fit}
use Rattle.den_store.proofs.HeldLogs.{replaced_order}
use Rattle.den_store.proofs.held_log.HeldLog.replace.Goals as goal

pub invariant_of-self : goal.invariant_of-self
invariant_of-self c =
    let new = c.args.entries.items in
    let cut : c.truncate.new.self.entries.items ≡ below c.args.from c.args.self.now.entries.items = ap (λ (l : Log). l.entries) c.truncate.ensures.log in
    let es = c.append-appended.new.self.items in
    let is : es ≡ below c.args.from c.args.self.now.entries.items ++ new = c.append-appended.ensures.items ∙ cond-true (is_ok c.append-appended.result) (c.truncate.new.self.entries.items ++ new) c.truncate.new.self.entries.items (sym c.is_ok.ensures.value ∙ c.if-prove.false)
    ∙ ap (λ (l : List LogEntry). l ++ new) cut in
    record {
      order = subst (λ (o : Option LogId). IsInOrder (record { boundary = o; entries = es })) (sym (ap (λ (l : Log). l.boundary) c.truncate.ensures.log))
          (replaced_order (log_of c.args.self.now) c.args.from new es c.args.self.now.order c.requires.rise c.requires.begin is);
      fits = replaced_fit c.args.from c.args.self.now.entries.items new es is c.args.self.now.fits c.requires.fits;
    }
