-- What a lender finds in the bytes of a block.
use Rattle.std.proofs.Common.{◌≡◌, ℕ, suc, ◌+◌, ◌-◌, ◌<◌, List, [], ◌∷◌, length, get_or, sym, refl, ap, ◌∙◌, arith}
use Rattle.std.proofs.lemmas.Bool.Decides.{nat_tests}
use Rattle.memory.specs.declared.blocks.Block.{Block}
use Rattle.memory.specs.Blocks.{byte_from, list_from, block_byte, block_fixed}

listed : (f : ℕ → ℕ) (base : ℕ) (xs : List ℕ) → ((k : ℕ) → k < length xs → f (base + k) ≡ get_or xs k 0) → xs ≡ list_from f base (length xs)
listed f base [] h = refl
listed f base (x ∷ xs) h =
    let first : f base ≡ x = ap f (omega arith) ∙ h 0 (omega arith) in
    let rest : xs ≡ list_from f (base + 1) (length xs) =
    listed f (base + 1) xs (λ k l. ap f (omega arith) ∙ h (suc k) (omega arith)) in
    cc

byte_at_lem : (base : ℕ) (xs : List ℕ) (k : ℕ) → byte_from base xs (base + k) ≡ get_or xs k 0
byte_at_lem base xs k =
    let d : base + k - base ≡ k = omega arith in
    grind (arith, nat_tests)

-- lent bytes that stand from a base on are those that the memory shows there
pub bytes_back : (base n : ℕ) (xs : List ℕ) (f : ℕ → ℕ) → byte_from base xs ≡ f → length xs ≡ n → xs ≡ list_from f base n
bytes_back base n xs f e h =
    listed f base xs (λ k l. ap (λ g. g (base + k)) (sym e) ∙ byte_at_lem base xs k) ∙ ap (list_from f base) h

-- what came back from a block that stands where it stood: x, the lender's bytes now, are what the block's memory shows
pub came_back : {x : List ℕ} (base n : ℕ) (before after : Block) (f : ℕ → ℕ)
    → x ≡ after.bytes.now → length x ≡ n → before.base ≡ base → block_fixed after ≡ block_fixed before → block_byte after ≡ f → x ≡ list_from f base n
came_back {x} base n before after f e l z fixed shows =
    let there : after.base ≡ base = cc in
    e ∙ bytes_back base n after.bytes.now f (ap (λ b. byte_from b after.bytes.now) (sym there) ∙ shows) (ap length (sym e) ∙ l)
