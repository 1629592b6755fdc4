use Rattle.std.proofs.Common.{ap, ap₂}
use Rattle.controller.specs.Outside.{outside_of}
use Rattle.controller.specs.Steps.{State, state_of}
use Rattle.controller.specs.declared.inspect.Inspection.{Inspection}
use Rattle.runs.specs.Told as told
use Rattle.runs.proofs.Held.{keeps}
use Rattle.runs.proofs.Buses.{step_holding}
use Rattle.runs.proofs.holder.Holder.perform.Goals as goal

pub invariant_of-self : goal.invariant_of-self
invariant_of-self g c = let was = c.args.self.now in record { held = keeps was.grant was.controller c.write.new.self _ c.write.ensures.state was.held }

pub invariant_of-self-in-Read : goal.invariant_of-self-in-Read
invariant_of-self-in-Read g c = let was = c.args.self.now in record { held = keeps was.grant was.controller c.read.new.self _ c.read.ensures.state was.held }

pub invariant_of-self-in-Lines : goal.invariant_of-self-in-Lines
invariant_of-self-in-Lines g c = let was = c.args.self.now in record { held = keeps was.grant was.controller c.lines.new.self _ c.lines.ensures.state was.held }

pub invariant_of-self-in-Step : goal.invariant_of-self-in-Step
invariant_of-self-in-Step g c =
    let was = c.args.self.now in
    let s : State = state_of was.controller (outside_of g.M.Memory g.B.PortBank c.args.memory.now c.args.bank.now) in
    let t : State = state_of c.step.new.self (outside_of g.M.Memory g.B.PortBank c.step.new.memory c.step.new.bank) in
    record { held = step_holding was.grant s t c.step.ensures.does.state was.held }

pub invariant_of-self-in-Inspect : goal.invariant_of-self-in-Inspect
invariant_of-self-in-Inspect g c = let was = c.args.self.now in record { held = keeps was.grant was.controller c.inspect.new.self was.controller.registers c.inspect.ensures.state was.held }

pub returns-in-Write-clause-does : goal.returns-in-Write-clause-does
returns-in-Write-clause-does g c = rw c.in-Write.is (record { state = c.write.ensures.state _; answer = ap told.Write c.write.ensures.answer })

pub returns-in-Read-clause-does : goal.returns-in-Read-clause-does
returns-in-Read-clause-does g c = rw c.in-Read.is (record { state = c.read.ensures.state _; answer = ap₂ told.Read c.read.ensures.answer c.read.ensures.value })

pub returns-in-Lines-clause-does : goal.returns-in-Lines-clause-does
returns-in-Lines-clause-does g c = rw c.in-Lines.is (record { state = c.lines.ensures.state _; answer = ap told.Lines c.lines.ensures.answer })

pub returns-in-Inspect-clause-does : goal.returns-in-Inspect-clause-does
returns-in-Inspect-clause-does g c = rw c.in-Inspect.is (record {
  state = c.inspect.ensures.state _;
  answer = ap₂ (λ n (x : Inspection). told.Inspect n x.address x.count) c.inspect.ensures.answer c.inspect.ensures.value;
})

pub returns-in-Take-clause-does : goal.returns-in-Take-clause-does
returns-in-Take-clause-does g c = rw c.in-Take.is (c.take.ensures _)

pub returns-in-Cycle-clause-does : goal.returns-in-Cycle-clause-does
returns-in-Cycle-clause-does g c = rw c.in-Cycle.is (c.cycle.ensures.does (outside_of g.M.Memory g.B.PortBank c.args.memory.now c.args.bank.now))
