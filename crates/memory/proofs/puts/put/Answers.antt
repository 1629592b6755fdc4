-- No write of the eight is refused, and each writes the next byte.
use Rattle.std.proofs.Common.{◌≡◌, ◌∷◌, drop, arith, rules}
use Rattle.memory.proofs.Eight.{all_writable, not_refused, left_within, drop_next, spread_more}
use Rattle.memory.proofs.puts.put.Goals as goal

pub overflow_add-address : goal.overflow_add-address
overflow_add-address g c =
    let here : drop c.loop-offset.offset-iterator.a.start c.args.bytes ≡ c.in-Some.byte.now ∷ c.next.new.self.b.rest.now = search rules in
    let within = left_within c.args.bytes c.next.new.self.b.rest.now c.loop-offset.offset-iterator.a.start c.in-Some.byte.now here in
    let h = all_writable (g.N.Memory.kind_at c.args.memory.now) c.args.address 8 (search rules) c.in-Some.offset (omega (arith, c.in-Some.ensures, within)) in
    omega arith

pub returns-in_err-write : goal.returns-in_err-write
returns-in_err-write g c =
    let here : drop c.loop-offset.offset-iterator.a.start c.args.bytes ≡ c.in-Some.byte.now ∷ c.next.new.self.b.rest.now = search rules in
    let within = left_within c.args.bytes c.next.new.self.b.rest.now c.loop-offset.offset-iterator.a.start c.in-Some.byte.now here in
    let h = all_writable (g.N.Memory.kind_at c.args.memory.now) c.args.address 8 (search rules) c.in-Some.offset (omega (arith, c.in-Some.ensures, within)) in
    absurd (not_refused {k = g.N.Memory.kind_at c.args.memory.now} c.loop-offset.invariant.kinds h.1 c.write.ensures.answer c.in_err-write.was)

pub loop-offset-preserved : goal.loop-offset-preserved
loop-offset-preserved g c =
    let here : drop c.loop-offset.offset-iterator.a.start c.args.bytes ≡ c.in-Some.byte.now ∷ c.next.new.self.b.rest.now = search rules in
    let within = left_within c.args.bytes c.next.new.self.b.rest.now c.loop-offset.offset-iterator.a.start c.in-Some.byte.now here in
    let h = all_writable (g.N.Memory.kind_at c.args.memory.now) c.args.address 8 (search rules) c.in-Some.offset (omega (arith, c.in-Some.ensures, within)) in
    let left = drop_next c.args.bytes c.next.new.self.b.rest.now c.loop-offset.offset-iterator.a.start c.in-Some.byte.now here within in
    let more = spread_more (g.N.Memory.byte_at c.args.memory.now) c.args.address c.loop-offset.offset-iterator.a.start c.in-Some.byte.now c.args.bytes left.0 in
    record { kinds = search rules; bytes = search (rules, h, more); stays = search rules; few = omega (arith, c.in-Some.ensures, within); end = search rules; same = search rules; rest = search (rules, left) }
