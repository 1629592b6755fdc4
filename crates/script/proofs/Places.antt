-- Commands put into their places one by one.
use Rattle.std.proofs.Common.{◌≡◌, ℕ, ◌+◌, ◌<◌, ◌≤◌, List, [], ◌∷◌, ◌++◌, map, length, get_or, take, drop, set, sym, ap, ◌∙◌, arith}
use Rattle.std.proofs.lemmas.List.{take_more_set, map_push, length-map, length-take-le, drop-set-lt, drop-drop, get_or-map, drop_more, take_more}
use Rattle.script.specs.declared.command.Command.{Command}
use Rattle.script.specs.Commands.{order_of}
use Rattle.script.specs.Laws.{ScriptRewrites}
use Rattle.script.specs.Reads.{read_into}
use Rattle.script.proofs.Accepted.{script_rewrites}

module _ (commands : List Command) (count : ℕ) where
  pub placed_length : count ≤ length commands → length (map order_of (take count commands)) ≡ count
  placed_length h = length-map (take count commands) order_of ∙ length-take-le count commands h

  pub placed_more : (command : Command) → count < length commands → map order_of (take (count + 1) (set commands count command)) ≡ map order_of (take count commands) ++ order_of command ∷ []
  placed_more command h = ap (map order_of) (take_more_set commands count command h) ∙ map_push order_of (take count commands) command

  -- The places past them are as they were.
  pub others_more : (command : Command) (first : List Command) → drop count commands ≡ drop count first → drop (count + 1) (set commands count command) ≡ drop (count + 1) first
  others_more command first same = cc (drop-set-lt (count + 1) commands count command (omega arith), drop-drop 1 count commands, drop-drop 1 count first)

-- What is said of a script read into places that were `first` and are `after`, once it is known what it reads as.
module _ (script : List ℕ) (first after : List Command) (count number : ℕ) where
  abbrev pub ReadAs : Type 0
  ReadAs =
      record {
        done : count ≡ length (read_into (length first) script).orders;
        refusal : number ≡ (read_into (length first) script).refusal;
        commands : map order_of (take count after) ≡ (read_into (length first) script).orders;
        others : drop count after ≡ drop count first;
        rewrites : ScriptRewrites script;
      }

  pub read_as : ((i : ℕ) → get_or script i 0 < 256) → count ≤ length after → drop count after ≡ drop count first
      → read_into (length first) script ≡ record { orders = map order_of (take count after); refusal = number } → ReadAs
  read_as small size others read =
      record {
        done = sym (placed_length after count size) ∙ ap (λ r. length r.orders) (sym read);
        refusal = ap (λ r. r.refusal) (sym read);
        commands = ap (λ r. r.orders) (sym read);
        others = others;
        rewrites = script_rewrites script small;
      }

-- The command at a place of a row.
module _ (commands : List Command) (i : ℕ) (d : Command) (inside : i < length commands) where
  within : i < length (map order_of commands)
  within = simp length-map inside

  here : get_or (map order_of commands) i (order_of d) ≡ order_of (get_or commands i d)
  here = get_or-map order_of commands i d (order_of d) inside

  pub row_here : drop i (map order_of commands) ≡ order_of (get_or commands i d) ∷ drop (i + 1) (map order_of commands)
  row_here = drop_more (map order_of commands) i (order_of d) within ∙ ap (λ o. o ∷ drop (i + 1) (map order_of commands)) here

  pub row_front : take (i + 1) (map order_of commands) ≡ take i (map order_of commands) ++ order_of (get_or commands i d) ∷ []
  row_front = take_more (map order_of commands) i (order_of d) within ∙ ap (λ o. take i (map order_of commands) ++ o ∷ []) here
