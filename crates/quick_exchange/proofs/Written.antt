-- Why every message that an end writes is readable: at each stage of an exchange the two have written messages one, two and three, as they
-- are read back, and nothing else.
use Prim.Native.Nat.{ℕ}
use mathlib.Core.Path.{◌≡◌}
use mathlib.Core.Bool.{true}
use mathlib.Core.List.{List, []}
use Rattle.wire_read.specs.Wire.{number_at}
use Rattle.sa_sets.specs.Sets.{set_numbered}
use Rattle.policy_choice.specs.Choice.{body_at}
use Rattle.policy_reply.specs.Reply.{set_reply}
use Rattle.quick_write.specs.Messages.{offer_of, proposals_of, message_one, message_two, message_three}
use Rattle.quick_deliver.specs.Deliver.{identity_at}
use Rattle.quick_end.specs.declared.Own.{Own}
use Rattle.quick_shape.specs.Shapes.{alike}
use Rattle.quick_shape.proofs.Laws.{alike_same}
use Rattle.quick_exchange.proofs.MessageShapes.{Fit, payloads_with}
use Rattle.quick_exchange.proofs.MessageLaws.{longer-padded, third_padded}
use Rattle.quick_exchange.specs.Exchange.{Party, World, Run, Fresh, got_of, Chooses, Only, one, more, Then, turn, next}
use Rattle.quick_exchange.specs.Readable.{Readable, AllReadable, none, also}
use Rattle.quick_exchange.proofs.Moves.{Ask, offered}
use Rattle.quick_exchange.proofs.Safety.{Pair, reply_of, Stage, new, asked, half, done, one-read, three-read, two-read, always}

only_readable : {m : List ℕ} {log : List (List ℕ)} → Readable m → Only m log → AllReadable log
only_readable r one = also r none
only_readable r (more o) = also r (only_readable r o)

then_readable : {m n : List ℕ} {log : List (List ℕ)} → Readable m → Readable n → Then m n log → AllReadable log
then_readable r s (turn o) = also s (only_readable r o)
then_readable r s (next t) = also s (then_readable r s t)

module _ {own : Own} (fit : Fit own) (a : Ask own) where
  one-readable : Readable (offered a)
  unfolding message_one proposals_of
  one-readable =
      let l = one-read fit a (offered a) (alike_same (offered a)) in
      record {
        count = payloads_with a.first;
        reads = l.reads;
        short = l.framed.short;
        payloads = _;
        padded = longer-padded own a.id (offer_of own) a.first a.second;
      }

  three-readable : Readable (message_three own a.id)
  three-readable =
      let l = three-read fit a (message_three own a.id) (alike_same (message_three own a.id)) in
      record { count = 1; reads = l.reads; short = l.framed.short; payloads = _; padded = third_padded own a.id }

two-readable : {one two : Own} → Pair one two → (a : Ask one) (g : List ℕ) → alike g (offered a) ≡ true → (s : Chooses two g) → Readable (reply_of two g s)
unfolding message_two proposals_of
two-readable {one} {two} pair a g from s =
    let ps : List ℕ = set_reply two.ah two.esp s.transforms (set_numbered s.number (body_at 1 g)) in
    let l = two-read pair a g from s (reply_of two g s) (alike_same (reply_of two g s)) in
    record {
      count = payloads_with a.first;
      reads = l.reads;
      short = l.framed.short;
      payloads = _;
      padded = longer-padded two (number_at 4 g 20) ps (identity_at 3 g) (identity_at 4 g);
    }

none-readable : {log : List (List ℕ)} → log ≡ [] → AllReadable log
none-readable e = rw e none

stage_readable : {i r : Party} {fi fr : List (List ℕ)} → Pair i.end.own r.end.own → Stage i r fi fr → AllReadable fi × AllReadable fr
stage_readable pair (new ei er ni nr) = (none-readable ni, none-readable nr)
stage_readable pair (asked a ei k o er nr) = (only_readable (one-readable pair.fit_one a) o, none-readable nr)
stage_readable {i} {r} pair (half a ei k o R er) =
    (only_readable (one-readable pair.fit_one a) o, only_readable (two-readable pair a (got_of r) R.from R.chooses) R.only)
stage_readable {i} {r} pair (done a ei k t R er ev eg) = (
  then_readable (one-readable pair.fit_one a) (three-readable pair.fit_one a) t,
  only_readable (two-readable pair a (got_of r) R.from R.chooses) R.only,
)

pub all-readable : {w u : World} → Fresh w → Run w u → AllReadable u.from_initiator × AllReadable u.from_responder
all-readable f k = let v = always f k in stage_readable v.pair v.stage
