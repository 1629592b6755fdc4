-- So many of the bytes are written, and nothing else is changed; the range ends where it did when the loop began.
use Rattle.std.proofs.Common.{◌≡◌, ◌≤◌, drop}
use Rattle.memory.specs.Puts.{spread}
use Rattle.memory.proofs.puts.put.Given as goal

abbrev pub invariant-loop-offset : goal.invariant-loop-offset
invariant-loop-offset g l = record {
  kinds : g.N.Memory.kind_at l.memory ≡ g.N.Memory.kind_at l.initial.memory;
  bytes : g.N.Memory.byte_at l.memory ≡ spread (g.N.Memory.byte_at l.initial.memory) l.address l.offset-iterator.a.start l.fn.bytes;
  stays : g.N.Memory.fixed l.memory ≡ g.N.Memory.fixed l.initial.memory;
  few : l.offset-iterator.a.start ≤ 8;
  end : 8 ≤ l.offset-iterator.a.end;
  same : l.offset-iterator.a.end ≡ l.initial.offset-iterator.a.end;
  rest : l.offset-iterator.b.rest.now ≡ drop l.offset-iterator.a.start l.fn.bytes;
}
