-- Each turn reads one command more.
use Rattle.std.proofs.Common.{◌≡◌, ◌<◌, map, length, take, arith, rules}
use Rattle.std.proofs.lemmas.List.{set-get_or}
use Rattle.script.specs.Commands.{order_of}
use Rattle.script.specs.Faults.{number_of}
use Rattle.script.specs.Reads.{left}
use Rattle.script.proofs.Places.{placed_length, placed_more, others_more, read_as}
use Rattle.script.proofs.Rows.{going_more, going_end, going_refused, going_full}
use Rattle.script.proofs.reader.read_all.Goals as goal

pub loop-done-preserved : goal.loop-done-preserved
loop-done-preserved c =
    let commands = c.loop-done.commands in
    let done = c.loop-done.done in
    let place : done < length commands = omega arith in
    let size = placed_length commands done (omega arith) in
    let more =
    going_more (length c.args.commands.now) c.args.bytes.now (map order_of (take done commands)) (left c.loop-done.script) c.loop-done.invariant.going
    (order_of c.in-Ok-Some.command) (left c.next.new.self) (omega arith) (search rules) (search rules)
    in record {
      going = rw (placed_more commands done c.in-Ok-Some.command place) more;
      others = others_more commands done c.in-Ok-Some.command c.args.commands.now c.loop-done.invariant.others;
    }

pub returns-in-Ok-None : goal.returns-in-Ok-None
returns-in-Ok-None c =
    rw set-get_or (read_as _ c.args.commands.now c.loop-done.commands _ _ (λ i. omega (arith, c.type_inv.bytes i)) (omega arith) c.loop-done.invariant.others (going_end _ _ _ _ c.loop-done.invariant.going (search rules)))

pub returns-in-Err : goal.returns-in-Err
returns-in-Err c =
    rw set-get_or (read_as _ c.args.commands.now c.loop-done.commands _ _ (λ i. omega (arith, c.type_inv.bytes i)) (omega arith) c.loop-done.invariant.others (going_refused _ _ _ _ c.loop-done.invariant.going (number_of c.in-Err.refusal) (search rules)))

-- Past the last place.
pub returns-in-Ok-Some-next : goal.returns-in-Ok-Some-next
returns-in-Ok-Some-next c =
    let all : c.loop-done.done ≡ length c.loop-done.commands = omega arith in
    let size = placed_length c.loop-done.commands c.loop-done.done (omega arith) in
    rw all at (read_as _ c.args.commands.now _ _ _ (λ i. omega (arith, c.type_inv.bytes i)) (omega arith) c.loop-done.invariant.others (going_full _ _ _ _ c.loop-done.invariant.going (order_of c.in-Ok-Some-next.field-0-0) (omega arith) (search rules)))

pub returns-in-Ok-None-next : goal.returns-in-Ok-None-next
returns-in-Ok-None-next c =
    let all : c.loop-done.done ≡ length c.loop-done.commands = omega arith in
    rw all at (read_as _ c.args.commands.now _ _ _ (λ i. omega (arith, c.type_inv.bytes i)) (omega arith) c.loop-done.invariant.others (going_end _ _ _ _ c.loop-done.invariant.going (search rules)))

pub returns-in-Err-next : goal.returns-in-Err-next
returns-in-Err-next c =
    let all : c.loop-done.done ≡ length c.loop-done.commands = omega arith in
    rw all at (read_as _ c.args.commands.now _ _ _ (λ i. omega (arith, c.type_inv.bytes i)) (omega arith) c.loop-done.invariant.others (going_refused _ _ _ _ c.loop-done.invariant.going (number_of c.in-Err-next.refusal) (search rules)))
