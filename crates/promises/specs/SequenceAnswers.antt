-- No two answers of one type have the same number and values.
use Rattle.std.specs.Prelude.{◌≡◌, refl, get_or}
use Rattle.std.proofs.Common.{ap}
use Rattle.wire_read.specs.Answer.{Answer}
use Rattle.wire_read.proofs.Tests.{never}
use Rattle.sequence_record.specs.Verdict.{Verdict}
use Rattle.sequence_packet.specs.Packet.{Packet, Read, Refused}
use Rattle.sequence_table.specs.Outcome.{Outcome}
use Rattle.sequence_table.specs.Outcome as Outcomes
use Rattle.sequence_table.specs.Sending.{Sending}
use Rattle.sequence_table.specs.Sending as Sendings
use Rattle.sequence_table.specs.Counted.{Counted}
use Rattle.sequence_table.specs.Counted as Counts
use Rattle.sequence_record.specs.Verdict as Verdicts
use Rattle.sequence_record.specs.Receive.{verdict_answer}
use Rattle.sequence_packet.specs.Packets.{packet_answer}
use Rattle.sequence_table.specs.Table.{outcome_answer, sending_answer, counted_answer}

-- what equal answers share
pub parts : (a b : Answer) → a ≡ b → (a.number ≡ b.number) × (a.values ≡ b.values)
parts a b e = (ap (λ (x : Answer). x.number) e, ap (λ (x : Answer). x.values) e)

pub verdict-own : (x y : Verdict) → verdict_answer x ≡ verdict_answer y → x ≡ y
unfolding verdict_answer
verdict-own (Verdicts.Accepted rise) (Verdicts.Accepted rise') h = let e = parts _ _ h in cc
verdict-own (Verdicts.Accepted rise) (Verdicts.Refused m) h = let e = parts _ _ h in never (cc)
verdict-own (Verdicts.Refused n) (Verdicts.Accepted rise') h = let e = parts _ _ h in never (cc)
verdict-own (Verdicts.Refused n) (Verdicts.Refused m) h = let e = parts _ _ h in cc

pub packet-own : (x y : Packet) → packet_answer x ≡ packet_answer y → x ≡ y
unfolding packet_answer
packet-own (Read spi number) (Read spi' number') h = let e = parts _ _ h in cc
packet-own (Read spi number) (Refused m) h = let e = parts _ _ h in never (cc)
packet-own (Refused n) (Read spi' number') h = let e = parts _ _ h in never (cc)
packet-own (Refused n) (Refused m) h = let e = parts _ _ h in cc

pub outcome_own : (x y : Outcome) → outcome_answer x ≡ outcome_answer y → x ≡ y
unfolding outcome_answer
outcome_own Outcomes.Done Outcomes.Done h = refl
outcome_own Outcomes.Done (Outcomes.Refused m) h = let e = parts _ _ h in never (cc)
outcome_own (Outcomes.Refused n) Outcomes.Done h = let e = parts _ _ h in never (cc)
outcome_own (Outcomes.Refused n) (Outcomes.Refused m) h = let e = parts _ _ h in cc

pub sending-own : (x y : Sending) → sending_answer x ≡ sending_answer y → x ≡ y
unfolding sending_answer
sending-own (Sendings.Number n) (Sendings.Number m) h = let e = parts _ _ h in cc
sending-own (Sendings.Number n) (Sendings.Refused m) h = let e = parts _ _ h in never (cc)
sending-own (Sendings.Refused n) (Sendings.Number m) h = let e = parts _ _ h in never (cc)
sending-own (Sendings.Refused n) (Sendings.Refused m) h = let e = parts _ _ h in cc

pub counted_own : (x y : Counted) → counted_answer x ≡ counted_answer y → x ≡ y
unfolding counted_answer
counted_own (Counts.Line k) (Counts.Line l) h =
    ap (λ (a : Answer). Counts.Line (record { highest = get_or a.values 0 0; span = get_or a.values 1 0; count = get_or a.values 2 0 })) h
counted_own (Counts.Line k) (Counts.Refused m) h = let e = parts _ _ h in never (cc)
counted_own (Counts.Refused n) (Counts.Line l) h = let e = parts _ _ h in never (cc)
counted_own (Counts.Refused n) (Counts.Refused m) h = let e = parts _ _ h in cc
