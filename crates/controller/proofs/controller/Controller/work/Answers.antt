use Rattle.std.proofs.Common.{rules}
use Rattle.controller.specs.Outside.{outside_of}
use Rattle.controller.proofs.controller.Controller.work.Goals as goal

pub returns-then-not-channel : goal.returns-then-not-channel
returns-then-not-channel g c =
    let does = c.fetch_entry.ensures (outside_of g.M.Memory g.B.PortBank c.args.memory.now c.args.bank.now) in
    search rules
