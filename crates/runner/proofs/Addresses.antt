-- An address as it is printed.
use Rattle.std.proofs.Common.{◌≡◌, ℕ, ◌-◌, ◌^◌, false, true, [], ◌++◌, length, replicate, ap, ◌∙◌, arith}
use Rattle.std.specs.Fmt.{digits, padded_integral, format_spec, char_count}
use Rattle.std.proofs.lemmas.List.{append-nil}
use Rattle.runner.specs.Notices.{address_words}

-- what `{:08X}` writes
pub eight_digits : (a : ℕ) → padded_integral (format_spec 32 0 4 8 (2 ^ 64 - 1)) false [] (digits 16 true a) ≡ address_words a
unfolding padded_integral char_count
eight_digits a =
    let own = digits 16 true a in
    let zeros : 8 - length own - 0 - 0 ≡ 8 - length own = omega arith in
    ap (λ n. replicate n 48 ++ (own ++ [])) zeros ∙ ap (λ u. replicate (8 - length own) 48 ++ u) (append-nil own)
