-- What a controller works on: the memory's kinds and bytes, and for each channel the units that wait, those kept, and the free places.
use Rattle.std.specs.Prelude.{◌≡◌, ℕ, List}
use Rattle.memory.specs.declared.kinds.Kind.{Kind}
use Rattle.memory.specs.declared.layer.Memory.{Ghosts as MemoryMeaning}
use Rattle.ports.specs.declared.bank.PortBank.{Ghosts as BankMeaning}

-- each by its address or its channel
pub record Outside : Type 0 where
  pub kinds : ℕ → Kind
  pub bytes : ℕ → ℕ
  pub waiting : ℕ → List ℕ
  pub kept : ℕ → List ℕ
  pub free : ℕ → ℕ

-- the five together
abbrev pub outside : (ℕ → Kind) → (ℕ → ℕ) → (ℕ → List ℕ) → (ℕ → List ℕ) → (ℕ → ℕ) → Outside
outside k b w p f = record { kinds = k; bytes = b; waiting = w; kept = p; free = f }

-- what a memory and a bank are together: by their meanings, the memory's kinds and bytes, and the bank's units and places
abbrev pub outside_of : {X Y : Type 0} → MemoryMeaning X → BankMeaning Y → X → Y → Outside
outside_of m b x y = outside (m.kind_at x) (m.byte_at x) (b.waiting y) (b.kept y) (b.free y)

-- another memory beside the same devices
abbrev pub with_memory : {X : Type 0} → MemoryMeaning X → X → Outside → Outside
with_memory m x o = outside (m.kind_at x) (m.byte_at x) o.waiting o.kept o.free

-- s and r are what p says
pub record Does {S R : Type 0} (p : S × R) (s : S) (r : R) : Type 0 where
  pub state : s ≡ p.0
  pub answer : r ≡ p.1
