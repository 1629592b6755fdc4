use Rattle.runs.proofs.Held.{let_go}
use Rattle.runs.proofs.holder.Holder.release.Goals as goal

pub invariant_of-self : goal.invariant_of-self
invariant_of-self c = let h = c.take.ensures in record { held = rw h.after (let_go c.args.self.now.grant c.args.self.now.controller _ (λ o. (c.give_back.ensures o).state) c.args.self.now.held) }
