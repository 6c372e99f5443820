-- The payloads that are handed out by number lie one behind the other, whatever message reads (specs/Payloads.antt says it).
use Rattle.std.specs.Prelude.{ℕ, suc, ◌≡◌, List, [], ◌∷◌}
use Rattle.std.proofs.Common.{sym, ap, arith}
use Rattle.wire_read.specs.Wire.{Bytes}
use Rattle.wire_read.specs.Answer.{done}
use Rattle.message_header.specs.Header.{first_payload}
use Rattle.message_chain.specs.Message.{payloads, reading, message, walk, payload_at, message_answer, shown}
use Rattle.message_chain.specs.declared.Payload.{Payload}
use Rattle.message_chain.specs.Message.{Read}
use Rattle.message_chain.proofs.Laws.{walk_start, reading-found, read_as}
use Rattle.promises.specs.Payloads.{InLine, Found, answer-own}

pub in_line : (m : Bytes) (ps : List Payload) → reading m ≡ payloads ps → InLine m ps
unfolding payload_at walk
in_line m ps e =
    let (f, some) = reading-found m ps e in
    record {
      handed = f.walked;
      begins = ap (λ (p : Payload). p.start) (sym (f.walked 0 some));
      follows = λ j l. rw (← f.walked j (omega arith), ← f.walked (suc j) l) (walk_start j (first_payload m) 28 m);
      within = f.inside;
    }

pub read_found : (m : Bytes) (exchange count : ℕ) → message_answer (message m) ≡ done (exchange ∷ count ∷ []) → Found m exchange count
unfolding message_answer shown
read_found m exchange count h =
    let r = read_as m exchange count (answer-own (message m) (Read exchange count) h) in
    record { found = r.found; many = r.same_count; whole = rw (r.is, r.same-exchange, r.same_count); lie = in_line m r.found r.is }
