use Rattle.controller.proofs.Reading.{Reading}
use Rattle.controller.proofs.fetching.read_word.Given as goal

abbrev pub invariant-loop-byte : goal.invariant-loop-byte
invariant-loop-byte g l = Reading (g.M.Memory.kind_at l.fn.memory) (g.M.Memory.byte_at l.fn.memory) l.fn.start l.byte-index l.place l.byte-items
