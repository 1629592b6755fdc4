-- What an answer tells, in numbers.
use Rattle.std.specs.Prelude.{ℕ}
use Rattle.runner.specs.Notices.{NoticeNumbers}

-- what a command's answer tells; a refusal is 0 where the command was accepted
pub data Told : Type 0 where
  Out : (refusal : ℕ) → Told
  In : (refusal value : ℕ) → Told
  Lines : (refusal : ℕ) → Told
  Step : (steps transfers : ℕ) → Told
  Put : (refusal : ℕ) → Told
  Next : (refusal : ℕ) (notice : NoticeNumbers) → Told
