-- A command that is read stands before what is left.
use Rattle.std.proofs.Common.{◌-◌, length, take, drop, sym, ◌∙◌, rules}
use Rattle.std.proofs.lemmas.List.{take_rest}
use Rattle.script.proofs.Standing.{out_there, in_there, lines_there, step_there, put_there, next_there, split_whole, split_eight}
use Rattle.script.proofs.reader.Script.next.Goals as goal

pub returns-in-1 : goal.returns-in-1
returns-in-1 c =
    (out_there c.args.self.now.rest.now _ c.from_le_bytes-port.ensures (search rules) (search rules) (search rules) (search rules)).read

pub returns-in-2 : goal.returns-in-2
returns-in-2 c =
    (in_there c.args.self.now.rest.now _ c.from_le_bytes-port-in-2.ensures (search rules) (search rules) (search rules) (search rules)).read

pub returns-in-3 : goal.returns-in-3
returns-in-3 c =
    (lines_there c.args.self.now.rest.now (search rules) (search rules)).read

pub returns-in-4 : goal.returns-in-4
returns-in-4 c =
    (step_there c.args.self.now.rest.now _ c.from_le_bytes-count.ensures (search rules) (search rules) (search rules) (search rules)).read

pub returns-in-5 : goal.returns-in-5
returns-in-5 c =
    let s = c.args.self.now.rest.now in
    let h = c.in-Some.ensures.cases in
    let after = sym (take_rest s 5) ∙ split_whole (take (length s - 5) (drop 5 s)) _ _ h.0 h.1 in
    let eight = split_eight (take (length s - 5) (drop 5 s)) _ _ h.0 h.1 h.2 in
    (put_there s _ _ after eight _ (search rules) c.from_le_bytes-address.ensures (search rules) (search rules) (search rules) (search rules)).read

pub returns-in-6 : goal.returns-in-6
returns-in-6 c =
    (next_there c.args.self.now.rest.now (search rules) (search rules)).read
