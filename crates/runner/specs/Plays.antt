-- What each command of a script does, and what it answers.
use Rattle.std.specs.Prelude.{ℕ, zero, suc, ◌+◌, ◌-◌, Bool, cond, List, [], ◌∷◌, ◌++◌, length, Result, ◌==◌}
use Rattle.std.specs.Option.{option_to_list}
use Rattle.memory.specs.Puts.{put_of, put_bytes}
use Rattle.tape.specs.declared.lines.TapeFault.TheVariants.{Empty}
use Rattle.tape.specs.Lines.{rest_of}
use Rattle.tape.specs.Tapes.{tape_number, cells_of, contents}
use Rattle.registers.specs.File.{write_number, written, read_number, read_value, read_leaves, lines_number, lined}
use Rattle.controller.specs.declared.event.Event.{Event}
use Rattle.controller.specs.declared.fault.Fault.{Fault}
use Rattle.controller.specs.Outside.{Outside}
use Rattle.controller.specs.Steps.{State, state_of, fresh, with_registers, with_world, step_of}
use Rattle.script.specs.Commands.{Order, Out, In, Lines, Step, Put, Next}
use Rattle.runner.specs.declared.notice.Notice.{Notice}
use Rattle.runner.specs.declared.desk.Desk.{Desk}
use Rattle.runner.specs.Notices.{no_numbers, numbers_of, notice_of, is_transfer}
use Rattle.runner.specs.Told as told
use Rattle.runner.specs.Told.{Told}
use Rattle.runner.specs.Answers.{put_shown}

-- a run at one moment: the controller with its world, the notices that wait, the oldest first, and the cells of their tape
pub record Run : Type 0 where
  pub state : State
  pub notices : List Notice
  pub cells : ℕ

-- what a desk is, with the world that its controller works on
abbrev pub run_at : Desk → Outside → Run
run_at d o = record { state = state_of d.controller o; notices = contents d.notices; cells = length (cells_of d.notices) }

-- a run begins with a new controller and no notices
abbrev pub opened : ℕ → Outside → Run
opened n o = record { state = fresh o; notices = []; cells = n }

-- another state, and the same notices
abbrev pub with_state : State → Run → Run
with_state s r = record { state = s; notices = r.notices; cells = r.cells }

-- other notices, and the same state
abbrev pub with_notices : List Notice → Run → Run
with_notices ns r = record { state = r.state; notices = ns; cells = r.cells }

-- the tape of notices has no free cell
abbrev pub is_full : Run → Bool
is_full r = r.cells - length r.notices == 0

-- one step with what it answered: its notice, if there is one, comes last
abbrev pub noted : State × Result Event Fault → Run → Run × Bool
noted (s, e) r = (record { state = s; notices = r.notices ++ option_to_list (notice_of e); cells = r.cells }, is_transfer e)

-- ONE STEP, and whether it was a transfer
unfoldable pub step_once : Run → Run × Bool
step_once r = noted (step_of r.state) r

-- what a row of steps leaves, how many were done, and how many of them were transfers
pub record Stepped : Type 0 where
  pub run : Run
  pub steps : ℕ
  pub transfers : ℕ

-- no step is done
abbrev pub no_steps : Run → Stepped
no_steps r = record { run = r; steps = 0; transfers = 0 }

-- so many steps and transfers before others
abbrev pub after : ℕ → ℕ → Stepped → Stepped
after n m more = record { run = more.run; steps = n + more.steps; transfers = m + more.transfers }

-- a transfer counts as one, any other step as none
abbrev pub one : Bool → ℕ
one moved = cond moved 1 0

-- THE STEPS: so many of them, fewer only if the tape of notices is full before one
unfoldable pub steps_of : ℕ → Run → Stepped
steps_of zero r = no_steps r
steps_of (suc n) r = cond (is_full r) (no_steps r) (after 1 (one (step_once r).1) (steps_of n (step_once r).0))

-- a world after a write of eight bytes
abbrev pub put_into : ℕ → List ℕ → Outside → Outside
put_into address bytes o = record { kinds = o.kinds; bytes = put_bytes o.kinds o.bytes address bytes; waiting = o.waiting; kept = o.kept; free = o.free }

-- the oldest notice, or 62 and zeros
abbrev pub next_of : List Notice → Told
next_of [] = told.Next (tape_number Empty) no_numbers
next_of (n ∷ ns) = told.Next 0 (numbers_of n)

-- THE COMMANDS: what each leaves and tells
abbrev pub played : Order → Run → Run × Told
played (Out port value) r = (with_state (with_registers (written port value r.state.registers) r.state) r, told.Out (write_number r.state.registers port value))
played (In port) r = (with_state (with_registers (read_leaves port r.state.registers) r.state) r, told.In (read_number port) (read_value r.state.registers port))
played (Lines bits) r = (with_state (with_registers (lined bits r.state.registers) r.state) r, told.Lines (lines_number bits))
played (Step count) r = ((steps_of count r).run, told.Step (steps_of count r).steps (steps_of count r).transfers)
played (Put address bytes) r = (with_state (with_world (put_into address bytes r.state.world) r.state) r, told.Put (put_shown (put_of r.state.world.kinds address)))
played Next r = (with_notices (rest_of r.notices) r, next_of r.notices)
