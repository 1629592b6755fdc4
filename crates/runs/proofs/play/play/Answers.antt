use Rattle.std.proofs.Common.{◌≡◌, take, refl, ap, ◌∙◌, arith}
use Rattle.std.proofs.lemmas.List.{length-take-le}
use Rattle.controller.specs.Outside.{Outside, outside_of}
use Rattle.controller.specs.declared.controller.Controller.{Controller}
use Rattle.controller.specs.Steps.{State, state_of, fresh}
use Rattle.runs.specs.Calls.{ended}
use Rattle.runs.proofs.Whole.{one_more, gone, lawful}
use Rattle.runs.proofs.play.play.Goals as goal

pub loop-i-init : goal.loop-i-init
loop-i-init g c = (record { state = c.new-holder.ensures _; answered = refl; rest = refl }, refl)

pub loop-i-preserved : goal.loop-i-preserved
loop-i-preserved g c =
    let m = g.M.Memory in
    let b = g.B.PortBank in
    let o : Outside = outside_of m b c.args.memory.now c.args.bank.now in
    let s : State = state_of c.loop-i.holder.controller (outside_of m b c.loop-i.memory c.loop-i.bank) in
    let t : State = state_of c.perform.new.self.controller (outside_of m b c.perform.new.memory c.perform.new.bank) in (
      one_more (fresh o) s t (take c.min-count.result c.args.calls.now) c.args.answers.now c.loop-i.answers c.loop-i.i _ c.perform.result
          c.loop-i-test.true (omega (arith, length-take-le c.min-count.result c.args.calls.now (omega arith))) c.loop-i.invariant.0 c.perform.ensures.does,
      c.perform.ensures.lenders ∙ c.loop-i.invariant.1,
    )

pub returns : goal.returns
returns g c =
    let m = g.M.Memory in
    let b = g.B.PortBank in
    let n = c.min-count.result in
    let o : Outside = outside_of m b c.args.memory.now c.args.bank.now in
    let seen : Controller → State = λ k. state_of k (outside_of m b c.loop-i.memory c.loop-i.bank) in
    let all = gone (fresh o) (seen c.loop-i.holder.controller) c.args.calls.now c.args.answers.now c.loop-i.answers c.loop-i.i n (omega arith) (omega arith) c.loop-i.invariant.0 in
    let end : seen c.into_session.result.controller ≡ ended (fresh o) (take n c.args.calls.now) = ap seen c.into_session.ensures.controller ∙ all.state in
    record {
      count = c.min-count.ensures;
      answered = all.answered;
      rest = all.rest;
      state = end;
      law = lawful o (take n c.args.calls.now) (seen c.into_session.result.controller) end;
      holding = c.into_session.ensures.holding;
      lenders = c.loop-i.invariant.1;
    }
