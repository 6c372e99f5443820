-- Why the message 2 that an end writes reads, with the SA payload that was put into it: what an end writes in a longer shape is read back.
use Prim.Native.Nat.{ℕ, ◌<◌, ◌≤◌}
use mathlib.Core.Path.{◌≡◌, refl, sym, ◌∙◌}
use mathlib.Core.List.{List}
use mathlib.Core.Bool.{true, not}
use native.Mathlib.Omega.{arith}
use lib.ListN.{length, drop}
use lib.Dec.{ltb, eqb}
use Rattle.wire_read.specs.Wire.{number_at}
use Rattle.wire_write.specs.Put.{bytes_of, head, headed}
use Rattle.wire_read.proofs.Tests.{by_test, passed}
use Rattle.sa_proposals.specs.Proposals.{proposals_code, offer_code}
use Rattle.sa_proposals.specs.Proposals as proposals
use Rattle.message_chain.specs.Message.{message}
use Rattle.message_chain.specs.Message.{Read}
use Rattle.policy_choice.specs.Choice.{sa_from}
use Rattle.policy_reply.specs.Reply.{sa_of}
use Rattle.policy_reply.proofs.ReplyWays.{sa_size}
use Rattle.quick_write.specs.Messages.{longer}
use Rattle.quick_shape.specs.Shapes.{shape, count_of, shape_of, is_longer}
use Rattle.quick_shape.proofs.Laws.{alike_same}
use Rattle.quick_end.specs.declared.Own.{Own}
use Rattle.quick_exchange.proofs.MessageShapes.{Fit, Identities, payloads_with, sa_body}
use Rattle.quick_exchange.proofs.MessageLaws.{longer-reads}
use Rattle.quick_replies.proofs.OneLaws.{by_shape}

-- what is read of message 2: its SA payload has this body
pub record Replying (sa n : List ℕ) : Type 0 where
  pub short : length n ≤ 2048
  pub count : ℕ
  pub reads : message n ≡ Read 32 count
  pub its_sa : sa_from count 0 n ≡ sa

module _ (ps : List ℕ) where
  sa_is : drop 4 (sa_of 10 ps) ≡ sa_body ps
  unfolding sa_of headed head bytes_of
  sa_is = refl

  proposals-read : offer_code 32 (sa_body ps) ≡ 0 → proposals_code 16 32 0 proposals.none ps ≡ 0
  unfolding offer_code bytes_of
  proposals-read h =
      let s : List ℕ = sa_body ps in
      let long = passed (ltb (length s) 8) 15 _ (λ z. omega arith) h in
      let doi = passed (not (eqb (number_at 4 s 0) 1)) 2 _ (λ z. omega arith) long.1 in
      (passed (not (eqb (number_at 4 s 4) 1)) 3 _ (λ z. omega arith) doi.1).1

payloads-longer : (first : List ℕ) → is_longer (payloads_with first) ≡ true
unfolding is_longer payloads_with
payloads-longer first = by_test (eqb (length first) 0) (λ e. rw e) (λ e. rw e)

shape-read : (n : List ℕ) (count : ℕ) → message n ≡ Read 32 count → shape_of n ≡ count → shape count n ≡ count
unfolding shape_of count_of
shape-read n count reads is = rw reads at is

pub two-reads : (own : Own) → Fit own → (id : ℕ) → 0 < id → id < 4294967296 → (ps first second : List ℕ) → offer_code 32 (drop 4 (sa_of 10 ps)) ≡ 0 →
    length (sa_of 10 ps) ≤ 148 → Identities first second → Replying (drop 4 (sa_of 10 ps)) (longer own id ps first second)
two-reads own fit id some small ps first second reads few identities =
    let n : List ℕ = longer own id ps first second in
    let l =
    longer-reads own id ps first second fit some small identities (proposals-read ps (rw (sa_is ps) at reads)) (omega (arith, sa_size 10 ps)) n (alike_same n) in
    let is : shape (payloads_with first) n ≡ payloads_with first = shape-read n (payloads_with first) l.reads l.shape in
    let r = by_shape n l.framed.short (payloads_with first) l.reads (rw is (payloads-longer first)) in
    record { short = l.framed.short; count = r.count; reads = r.reads; its_sa = r.its_offer ∙ l.sa ∙ sym (sa_is ps) }
