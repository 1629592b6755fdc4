use Rattle.std.proofs.Common.{sym, rules}
use Rattle.controller.specs.Outside.{outside_of}
use Rattle.controller.specs.Steps.{state_of}
use Rattle.controller.proofs.Chosen.{chosen_serves}
use Rattle.controller.proofs.controller.Controller.choose_anew.Goals as goal

pub returns-in-Some : goal.returns-in-Some
returns-in-Some g c =
    let world = outside_of g.M.Memory g.B.PortBank c.args.memory.now c.args.bank.now in
    record {
      does = chosen_serves (state_of c.args.self.now world) _ (state_of c.begin.new.self world) c.in-Some.choice _
          (sym c.in-Some.ensures) (c.begin.ensures world) c.serve.ensures.does;
      lenders = c.serve.ensures.lenders;
    }

pub returns-in-None-clause-does : goal.returns-in-None-clause-does
returns-in-None-clause-does g c =
    let does = c.fetch_ahead.ensures (outside_of g.M.Memory g.B.PortBank c.args.memory.now c.args.bank.now) in
    search rules
