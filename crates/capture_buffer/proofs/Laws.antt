-- Refilling is exact: what each step does to what is held, and that a whole run loses nothing, brings nothing twice and keeps the order.
use Prim.Native.Nat.{ℕ, ◌+◌, ◌≤◌, ◌<◌, min}
use mathlib.Core.Path.{◌≡◌, sym, ap, ◌∙◌}
use mathlib.Core.Bool.{true}
use mathlib.Core.List.{List, [], ◌∷◌, ◌++◌, append_assoc, append-nil}
use native.Mathlib.Omega.{arith}
use lib.ListN.{length, take, drop, length-append, length-take, length-drop, take-append-drop, drop_of_length-le}
use lib.Seq.{length-take-le, drop-append-le, drop-drop, take_at}
use lib.Dec.{leb}
use borrow.Author.Tests.{leb-true, leb-false}
use Rattle.wire_read.proofs.Tests.{both, by_test}
use Rattle.wire_write.specs.Put.{paste}
use Rattle.wire_write.proofs.Laws.{length_paste, paste-fits, paste_inside}
use Rattle.capture_buffer.specs.Buffer.{held_in, taken, grown, settled, Placed}
use Rattle.capture_buffer.specs.Buffer.{Step, settles, takes, reads, Run, holds, begun, stepped, step_fits, ran, fits, brought}
use Rattle.capture_buffer.specs.declared.Held.{Held}

-- ---- one step

pub drop-most : (k m : ℕ) (s : List ℕ) → length s ≤ m → drop (min k m) s ≡ drop k s
drop-most k m s short =
    by_test (leb k m)
    (λ e. let least : min k m ≡ k = omega (arith, leb-true k m e) in ap (λ (i : ℕ). drop i s) least)
    (λ e.
    let past : m < k = leb-false k m e in
    drop_of_length-le s {i = min k m} (omega arith) ∙ sym (drop_of_length-le s {i = k} (omega arith)))

module _ (buffer : List ℕ) (held : Held) where
  held-size : length (held_in buffer held) ≤ length buffer
  held-size = omega (arith, length-drop held.from (take held.to buffer), length-take held.to buffer)

  -- moving keeps what is held
  pub settled_keeps : held_in (settled buffer held).1 (settled buffer held).0 ≡ held_in buffer held
  unfolding settled
  settled_keeps = paste_inside buffer 0 (held_in buffer held) (omega (arith, held-size))

  pub settled_placed : Placed (settled buffer held).1 (settled buffer held).0
  unfolding settled
  settled_placed = record { ordered = omega arith; within = omega (arith, held-size, length_paste buffer 0 (held_in buffer held)) }

  -- and leaves room, where less is held than the buffer has
  pub settled-short : (n : ℕ) → length (held_in buffer held) < n → (settled buffer held).0.to < n
  unfolding settled
  settled-short n less = less

  pub settled-room : length (held_in buffer held) < length buffer → (settled buffer held).0.to < length (settled buffer held).1
  unfolding settled
  settled-room less = omega (arith, length_paste buffer 0 (held_in buffer held))

  -- taking n leaves what stands behind the first n
  pub taken_leaves : (n : ℕ) → held_in buffer (taken held n) ≡ drop n (held_in buffer held)
  unfolding taken
  taken_leaves n =
      drop-most (held.from + n) held.to (take held.to buffer) (omega (arith, length-take held.to buffer))
      ∙ sym (drop-drop n held.from (take held.to buffer))

  module _ (placed : Placed buffer held) where
    pub taken_placed : (n : ℕ) → Placed buffer (taken held n)
    unfolding taken
    taken_placed n = record { ordered = omega arith; within = placed.within }

    module _ (piece : List ℕ) (room : held.to + length piece ≤ length buffer) where
      -- what a read puts right behind what is held is held with it
      pub grown_brings : held_in (paste buffer held.to piece) (grown buffer held (length piece)) ≡ held_in buffer held ++ piece
      unfolding grown
      grown_brings =
          let all : min (held.to + length piece) (length buffer) ≡ held.to + length piece = omega arith in
          let before : length (take held.to buffer) ≡ held.to = length-take-le held.to buffer placed.within in
          let both_long : length (take held.to buffer ++ piece) ≡ held.to + length piece = length-append (take held.to buffer) piece ∙ omega arith in
          let behind : List ℕ = drop (held.to + length piece) buffer in
          rw (
            all,
            paste-fits buffer held.to piece room,
            ← append_assoc (take held.to buffer) piece behind,
            take_at (take held.to buffer ++ piece) behind (held.to + length piece) both_long,
          )
          (drop-append-le held.from (take held.to buffer) piece (omega (arith, placed.ordered)))

      pub grown_placed : Placed (paste buffer held.to piece) (grown buffer held (length piece))
      unfolding grown
      grown_placed = record { ordered = omega (arith, placed.ordered); within = omega (arith, length_paste buffer held.to piece) }

-- ---- a run

step_placed : (run : Run) (step : Step) → Placed run.buffer run.held → step_fits run step ≡ true →
    Placed (stepped run step).buffer (stepped run step).held
unfolding stepped
step_placed run settles placed e = settled_placed run.buffer run.held
step_placed run (takes n) placed e = taken_placed run.buffer run.held placed n
step_placed run (reads piece) placed e =
    grown_placed run.buffer run.held placed piece (leb-true (run.held.to + length piece) (length run.buffer) e)

-- what was taken, then what is held, and what is yet to be read behind it: no step changes that
step_exact : (run : Run) (step : Step) (steps : List Step) → Placed run.buffer run.held → step_fits run step ≡ true →
    ((stepped run step).taken_so_far ++ holds (stepped run step)) ++ brought steps ≡ (run.taken_so_far ++ holds run) ++ brought (step ∷ steps)
unfolding stepped brought
step_exact run settles steps placed e = ap (λ (held : List ℕ). (run.taken_so_far ++ held) ++ brought steps) (settled_keeps run.buffer run.held)
step_exact run (takes n) steps placed e =
    rw (taken_leaves run.buffer run.held n, append_assoc run.taken_so_far (take n (holds run)) (drop n (holds run)), take-append-drop n (holds run))
step_exact run (reads piece) steps placed e =
    let room = leb-true (run.held.to + length piece) (length run.buffer) e in
    rw (grown_brings run.buffer run.held placed piece room, ← append_assoc run.taken_so_far (holds run) piece)
    (append_assoc (run.taken_so_far ++ holds run) piece (brought steps))

begun_placed : (buffer : List ℕ) → Placed buffer (begun buffer).held
begun_placed buffer = record { ordered = omega arith; within = omega arith }

ran_placed : (run : Run) (steps : List Step) → Placed run.buffer run.held → fits run steps ≡ true → Placed (ran run steps).buffer (ran run steps).held
unfolding ran fits
ran_placed run [] placed e = placed
ran_placed run (step ∷ steps) placed e =
    let e2 = both (step_fits run step) (fits (stepped run step) steps) e in
    ran_placed (stepped run step) steps (step_placed run step placed e2.0) e2.1

ran_exact : (run : Run) (steps : List Step) → Placed run.buffer run.held → fits run steps ≡ true →
    (ran run steps).taken_so_far ++ holds (ran run steps) ≡ (run.taken_so_far ++ holds run) ++ brought steps
unfolding ran fits brought
ran_exact run [] placed e = sym (append-nil (run.taken_so_far ++ holds run))
ran_exact run (step ∷ steps) placed e =
    let e2 = both (step_fits run step) (fits (stepped run step) steps) e in
    ran_exact (stepped run step) steps (step_placed run step placed e2.0) e2.1 ∙ step_exact run step steps placed e2.0

module _ (buffer : List ℕ) (steps : List Step) (room : fits (begun buffer) steps ≡ true) where
  -- at every moment the places are in order, and what was taken so far, then what is held, is exactly what the reads brought
  pub always_placed : Placed (ran (begun buffer) steps).buffer (ran (begun buffer) steps).held
  always_placed = ran_placed (begun buffer) steps (begun_placed buffer) room

  pub nothing_lost : (ran (begun buffer) steps).taken_so_far ++ holds (ran (begun buffer) steps) ≡ brought steps
  nothing_lost = ran_exact (begun buffer) steps (begun_placed buffer) room
