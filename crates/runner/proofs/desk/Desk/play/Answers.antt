-- A driver's call changes the registers alone.
use Rattle.std.proofs.Common.{ap}
use Rattle.controller.specs.Outside.{outside_of}
use Rattle.runner.specs.Told as told
use Rattle.runner.specs.Plays.{run_at, with_state}
use Rattle.runner.proofs.Playing.{plays}
use Rattle.runner.proofs.desk.Desk.play.Goals as goal

pub returns-in-Out-clause-does : goal.returns-in-Out-clause-does
returns-in-Out-clause-does g c =
    let o = outside_of g.M.Memory g.B.PortBank c.args.memory.now c.args.bank.now in
    let r = run_at c.args.self.now o in
    plays r c.in-Out.is (record { state = ap (λ s. with_state s r) (c.write.ensures.state o); answer = ap told.Out c.write.ensures.answer })

pub returns-in-In-clause-does : goal.returns-in-In-clause-does
returns-in-In-clause-does g c =
    let o = outside_of g.M.Memory g.B.PortBank c.args.memory.now c.args.bank.now in
    let r = run_at c.args.self.now o in
    plays r c.in-In.is (record { state = ap (λ s. with_state s r) (c.read.ensures.state o); answer = λ i. told.In (c.read.ensures.answer i) (c.read.ensures.value i) })

pub returns-in-Lines-clause-does : goal.returns-in-Lines-clause-does
returns-in-Lines-clause-does g c =
    let o = outside_of g.M.Memory g.B.PortBank c.args.memory.now c.args.bank.now in
    let r = run_at c.args.self.now o in
    plays r c.in-Lines.is (record { state = ap (λ s. with_state s r) (c.lines.ensures.state o); answer = ap told.Lines c.lines.ensures.answer })
