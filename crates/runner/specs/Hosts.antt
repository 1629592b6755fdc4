-- The run that a host calls: what its controller works on, and what the host finds afterwards.
use Rattle.std.specs.Prelude.{ℕ, true, cond, List, [], length}
use Rattle.memory.specs.declared.blocks.BlockFault.{BlockFault}
use Rattle.memory.specs.declared.blocks.BlockFault.TheVariants.{DoesNotFit}
use Rattle.memory.specs.Blocks.{block_number, fits_at, kind_of_all, kind_from, byte_from, list_from}
use Rattle.ports.specs.Ramps.{counting}
use Rattle.controller.specs.Outside.{Outside, outside}
use Rattle.script.specs.declared.progress.Progress.{Progress}
use Rattle.script.specs.Faults.{refusal_of}
use Rattle.runner.specs.declared.host.Outcome.{Outcome}
use Rattle.runner.specs.Plays.{opened}
use Rattle.runner.specs.Runs.{Ran, ended, run_of}

-- the host's bytes are writable, from 0 on; at each channel 256 units wait, from the channel's number on, and no place is free
abbrev pub host_world : List ℕ → Outside
host_world bytes = outside (kind_from (kind_of_all true true) 0 (length bytes)) (byte_from 0 bytes) (counting 256) (λ c. []) (λ c. 0)

-- the run of a script with those bytes, 64 cells for notices and n bytes of place for answers: 71 and no answer if the bytes are too many
abbrev pub host_run : List ℕ → List ℕ → ℕ → Ran
host_run script bytes n = cond (fits_at 0 (length bytes)) (run_of script n (opened 64 (host_world bytes))) (ended (block_number DoesNotFit) (opened 64 (host_world bytes)))

-- the host's bytes afterwards: what its memory shows then; as they were if they are too many
abbrev pub host_bytes : List ℕ → List ℕ → ℕ → List ℕ
host_bytes script bytes n = cond (fits_at 0 (length bytes)) (list_from (host_run script bytes n).run.state.world.bytes 0 (length bytes)) bytes

-- what a host finds of a run: the number of what ended it, 0 if that was the script's end, and how many bytes were answered
abbrev pub outcome_of : Progress → Outcome
outcome_of progress = record { refusal = refusal_of progress.refusal; length = progress.done }

-- what a host finds whose bytes are too many: the refusal's number, and no answer
abbrev pub outcome_refused : BlockFault → Outcome
outcome_refused fault = record { refusal = block_number fault; length = 0 }
