-- Equal units one after another.
use Rattle.std.proofs.Common.{◌≡◌, ℕ, zero, suc, ◌-◌, ◌<◌, ◌∷◌, replicate, ap, arith}

pub replicate_some : (n v : ℕ) → 0 < n → replicate n v ≡ v ∷ replicate (n - 1) v
replicate_some zero v h = absurd (omega arith)
replicate_some (suc n) v h = ap (λ m. v ∷ replicate m v) (omega arith)
