-- A command read where its bytes stand, and what is left after it.
use Rattle.std.proofs.Common.{◌≡◌, ℕ, ◌^◌, ◌<◌, ◌≤◌, List, ◌∷◌, ◌++◌, length, take, Some, Ok, sym, refl, ap, ◌∙◌, arith}
use Rattle.std.proofs.lemmas.List.{length-append, take_at, drop_at}
use Rattle.std.proofs.lemmas.Bool.{cond-false, le-ltb}
use Rattle.std.proofs.lemmas.Nat.{from_le_bytes-to_le_bytes_2, from_le_bytes-to_le_bytes_4}
use Rattle.script.specs.Commands.{Order, Out, In, Lines, Step, Put, Next, two, four, bytes_of}
use Rattle.script.specs.Laws.{CommandReadsBack}
use Rattle.script.specs.Reads.{whole, read_of, rest_after, rest_of}

-- The numbers fit their widths, and PUT has eight bytes.
abbrev pub InRange : Order → Type 0
InRange (Out port value) = port < 2 ^ 16
InRange (In port) = port < 2 ^ 16
InRange (Lines bits) = Unit {0}
InRange (Step count) = count < 2 ^ 16
InRange (Put address bytes) = (address < 2 ^ 32) × (length bytes ≡ 8)
InRange Next = Unit {0}

is_whole : (n : ℕ) (s : List ℕ) (o p : Order) → n ≤ length s → o ≡ p → whole n s o ≡ Ok (Some p)
is_whole n s o p size same = cond-false _ _ _ (le-ltb (length s) n size) ∙ ap (λ q. Ok (Some q)) same

-- Then a command reads back.
pub command_reads_back : (order : Order) → InRange order → CommandReadsBack order
command_reads_back (Out port value) fits s = is_whole 3 (two port ++ value ∷ s) _ _ (omega arith) (ap (λ n. Out n value) (from_le_bytes-to_le_bytes_2 port fits))
command_reads_back (In port) fits s = is_whole 2 (two port ++ s) _ _ (omega arith) (ap In (from_le_bytes-to_le_bytes_2 port fits))
command_reads_back (Lines bits) fits s = is_whole 1 (bits ∷ s) _ _ (omega arith) refl
command_reads_back (Step count) fits s = is_whole 2 (two count ++ s) _ _ (omega arith) (ap Step (from_le_bytes-to_le_bytes_2 count fits))
command_reads_back (Put address bytes) fits s =
    is_whole 12 (four address ++ (bytes ++ s)) _ _ (simp length-append (omega arith))
    (ap (λ n. Put n (take 8 (bytes ++ s))) (from_le_bytes-to_le_bytes_4 address fits.0) ∙ ap (Put address) (take_at bytes s 8 fits.1))
command_reads_back Next fits s = is_whole 0 s Next Next (omega arith) refl

-- Once it is read, what follows is left.
pub rest_back : (order : Order) (s : List ℕ) → read_of (bytes_of order ++ s) ≡ Ok (Some order) → rest_of (bytes_of order ++ s) ≡ s
rest_back order s read = ap (λ r. rest_after r (bytes_of order ++ s)) read ∙ drop_at (bytes_of order) s _ refl

-- A command that stands before t, read at s: what is answered, left, and how much less that is.
pub record There (order : Order) (s t : List ℕ) : Type 0 where
  pub bytes : s ≡ bytes_of order ++ t
  pub read : record { answer : Ok (Some order) ≡ read_of s; rest : t ≡ rest_of s; shorter : length t < length s }

begins : (order : Order) → 0 < length (bytes_of order)
begins (Out port value) = omega arith
begins (In port) = omega arith
begins (Lines bits) = omega arith
begins (Step count) = omega arith
begins (Put address bytes) = omega arith
begins Next = omega arith

pub there : (order : Order) (s t : List ℕ) → InRange order → s ≡ bytes_of order ++ t → There order s t
there order s t fits stood =
    record {
      bytes = stood;
      read =
          record {
            answer = sym (ap read_of stood ∙ command_reads_back order fits t);
            rest = sym (ap rest_of stood ∙ rest_back order t (command_reads_back order fits t));
            shorter = omega (arith, begins order, ap length stood ∙ length-append (bytes_of order) t);
          };
    }
