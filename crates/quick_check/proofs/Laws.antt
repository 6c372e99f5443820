-- A message that passes the checks has 2,048 bytes at most.
use Prim.Native.Nat.{ℕ, ◌≤◌}
use mathlib.Core.Path.{◌≡◌, sym, ◌∙◌}
use mathlib.Core.List.{List}
use mathlib.Core.Bool.{not, ◌&&◌}
use native.Mathlib.Omega.{arith}
use lib.ListN.{length}
use lib.Dec.{eqb, ltb}
use borrow.Author.Tests.{ltb-false}
use Rattle.wire_read.proofs.Tests.{passed}
use Rattle.message_header.specs.Header.{flags_of, message_id_of}
use Rattle.message_chain.specs.Message.{message}
use Rattle.message_chain.specs.Message.{Message}
use Rattle.message_chain.specs.Message.{Refused, Read}
use Rattle.message_chain.proofs.Laws.{refusal_some}
use Rattle.quick_end.specs.Fresh.{is_idle, is_initiator}
use Rattle.quick_end.specs.declared.State.{State}
use Rattle.quick_end.specs.declared.Own.{Own}
use Rattle.quick_shape.specs.Shapes.{shape}
use Rattle.quick_check.specs.Checks.{cookies_not_own, quick_code, read_code}

module _ (own : Own) (state : State) (id : ℕ) (m : List ℕ) where
  quick-fits : (exchange count : ℕ) → quick_code own state id exchange count m ≡ 0 → length m ≤ 2048
  unfolding quick_code
  quick-fits exchange count h =
      let quick = passed (not (eqb exchange 32)) 7 _ (λ z. omega arith) h in
      let flagged = passed (not (eqb (flags_of m) 1)) 8 _ (λ z. omega arith) quick.1 in
      let answers = passed (is_initiator own.role && is_idle state) 8195 _ (λ z. omega arith) flagged.1 in
      let known = passed (cookies_not_own own m) 4 _ (λ z. omega arith) answers.1 in
      let same = passed (not (is_idle state) && not (eqb (message_id_of m) id)) 9 _ (λ z. omega arith) known.1 in
      let shaped = passed (eqb (shape count m) 0) 16 _ (λ z. omega arith) same.1 in
      ltb-false 2048 (length m) (passed (ltb 2048 (length m)) 30 _ (λ z. omega arith) shaped.1).0

  passed_fits : (read : Message) → read ≡ message m → read_code own state id m read ≡ 0 → length m ≤ 2048
  unfolding read_code
  passed_fits (Refused number) em h = absurd (omega (arith, refusal_some m number (sym em)))
  passed_fits (Read exchange count) em h = quick-fits exchange count h

-- as a delivery knows it
pub read_fits : (m : List ℕ) (read : Message) → read ≡ message m → (own : Own) (state : State) (id code : ℕ) →
    code ≡ read_code own state id m read → code ≡ 0 → length m ≤ 2048
read_fits m read em own state id code ec h = passed_fits own state id m read em (sym ec ∙ h)
