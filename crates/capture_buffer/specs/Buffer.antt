-- A buffer that a file is read through, document 02, "One": "The file is read through a 64 KiB buffer." What is held is what was read and is
-- not yet taken; it lies in one piece between two places of the buffer. Any places at all are answered: what lies past the end is not held.
use Rattle.std.specs.Prelude.{ℕ, ◌+◌, ◌≤◌, min, List, [], ◌∷◌, ◌++◌, Bool, true, ◌&&◌, length, take, drop, leb}
use Rattle.wire_read.specs.Wire.{Bytes}
use Rattle.wire_write.specs.Put.{paste}
use Rattle.capture_buffer.specs.declared.Held.{Held}

-- the bytes that are held
abbrev pub held_in : (buffer : Bytes) (held : Held) → Bytes
held_in buffer held = drop held.from (take held.to buffer)

-- without the first n of them
unfoldable pub taken : (held : Held) (n : ℕ) → Held
taken held n = record { from = min (held.from + n) held.to; to = held.to }

-- with what a read put right behind them
unfoldable pub grown : (buffer : Bytes) (held : Held) (got : ℕ) → Held
grown buffer held got = record { from = held.from; to = min (held.to + got) (length buffer) }

-- moved to the buffer's front, so that what is behind them has room
unfoldable pub settled : (buffer : Bytes) (held : Held) → Held × Bytes
settled buffer held = (record { from = 0; to = length (held_in buffer held) }, paste buffer 0 (held_in buffer held))

-- the two places in order, and within the buffer
pub record Placed (buffer : Bytes) (held : Held) : Type 0 where
  pub ordered : held.from ≤ held.to
  pub within : held.to ≤ length buffer

-- ---- a run of steps over one buffer

-- what is held is moved to the front, the first n of it are taken, or a read puts a piece right behind it
pub data Step : Type 0 where
  settles : Step
  takes : (n : ℕ) → Step
  reads : (piece : Bytes) → Step

-- where a run stands: the buffer, what is held in it, and all that was taken so far
pub record Run : Type 0 where
  pub buffer : Bytes
  pub held : Held
  pub taken_so_far : Bytes

abbrev pub holds : (run : Run) → Bytes
holds run = held_in run.buffer run.held

-- before the first step nothing is held
abbrev pub begun : (buffer : Bytes) → Run
begun buffer = record { buffer = buffer; held = record { from = 0; to = 0 }; taken_so_far = [] }

unfoldable pub stepped : (run : Run) (step : Step) → Run
stepped run settles =
    record { buffer = (settled run.buffer run.held).1; held = (settled run.buffer run.held).0; taken_so_far = run.taken_so_far }
stepped run (takes n) = record { buffer = run.buffer; held = taken run.held n; taken_so_far = run.taken_so_far ++ take n (holds run) }
stepped run (reads piece) =
    record { buffer = paste run.buffer run.held.to piece; held = grown run.buffer run.held (length piece); taken_so_far = run.taken_so_far }

unfoldable pub ran : (run : Run) (steps : List Step) → Run
ran run [] = run
ran run (step ∷ steps) = ran (stepped run step) steps

-- a read brings no more than there is room for behind what is held
abbrev pub step_fits : (run : Run) (step : Step) → Bool
step_fits run settles = true
step_fits run (takes n) = true
step_fits run (reads piece) = leb (run.held.to + length piece) (length run.buffer)

unfoldable pub fits : (run : Run) (steps : List Step) → Bool
fits run [] = true
fits run (step ∷ steps) = step_fits run step && fits (stepped run step) steps

-- all that the reads brought, in their order
unfoldable pub brought : (steps : List Step) → Bytes
brought [] = []
brought (settles ∷ steps) = brought steps
brought (takes n ∷ steps) = brought steps
brought (reads piece ∷ steps) = piece ++ brought steps
