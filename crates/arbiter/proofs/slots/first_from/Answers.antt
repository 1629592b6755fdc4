-- Trailing zeros of the turned mask name the first slot that asks.
use Rattle.std.proofs.Common.{rules}
use Rattle.arbiter.proofs.Turns.{turned_first}
use Rattle.arbiter.proofs.slots.first_from.Goals as goal

pub returns : goal.returns
returns c = search (rules, turned_first)
