-- Examples of document 02, "Four", as one table: what the definitions answer beside what was worked out by hand, under one theorem. Before it
-- every acceptance had the value 1.
use Rattle.std.specs.Prelude.{◌≡◌, refl, true, false, List, [], ◌∷◌, map}
use Rattle.wire_read.specs.Wire.{number_at}
use Rattle.wire_read.specs.Answer.{done, refused}
use Rattle.wire_write.specs.Put.{bytes_of}
use Rattle.sequence_record.specs.Receive as receive
use Rattle.sequence_packet.specs.Packets as packets
use Rattle.sequence_table.specs.Table as tables
use Rattle.sequence_history.specs.History.{packets_of, in_turn, answers_to, answered, answered_all, lent_answers}
use Rattle.capture_frame.specs.Frame as frames
use Rattle.capture_record.specs.Listing as listing
use Rattle.capture_history.specs.Capture as captures
use Rattle.promises.specs.Marked.{Example}
use Rattle.promises.specs.CaptureExamples.{frame, ipv4, esp, listed, between}

unfoldable pub table : List Example
table =
    -- from nothing, 5 gives 5; then 3 gives 0; then 70 gives 65
    record { defined = answers_to (5 ∷ 3 ∷ 70 ∷ []); printed = done (5 ∷ []) ∷ done (0 ∷ []) ∷ done (65 ∷ []) ∷ [] }
    -- the lent record: what is refused (again, 0, no integrity) carries nothing and moves nothing, so that 7 rises by 2
    ∷ record {
      defined = lent_answers receive.new_receive ((true, 5) ∷ (true, 5) ∷ (true, 0) ∷ (false, 7) ∷ (true, 7) ∷ []);
      printed = done (5 ∷ []) ∷ refused 8194 ∷ refused 8197 ∷ refused 24 ∷ done (2 ∷ []) ∷ [];
    }
    -- the window's far end: after 64, 1 is the last that may come late; 65 rises by 1, and then 1 is behind
    ∷ record { defined = answers_to (64 ∷ 1 ∷ 65 ∷ 1 ∷ []); printed = done (64 ∷ []) ∷ done (0 ∷ []) ∷ done (1 ∷ []) ∷ refused 8197 ∷ [] }
    -- the greatest rise of a 32-bit number
    ∷ record { defined = answers_to (4294967295 ∷ []); printed = done (4294967295 ∷ []) ∷ [] }
    -- the capture listing: 4 behind 1 leaves two out, and 2 then comes late
    ∷ record {
      defined =
          listed ((46, frame [] (ipv4 0 50 (esp 16 0 1))) ∷ (46, frame [] (ipv4 0 50 (esp 16 0 4))) ∷ (46, frame [] (ipv4 0 50 (esp 16 0 2))) ∷ []);
      printed =
          done (11 ∷ between (3 ∷ 4096 ∷ 1 ∷ 0 ∷ 1 ∷ []))
          ∷ done (11 ∷ between (3 ∷ 4096 ∷ 4 ∷ 0 ∷ 3 ∷ []))
          ∷ done (11 ∷ between (3 ∷ 4096 ∷ 2 ∷ 0 ∷ 0 ∷ []))
          ∷ [];
    }
    ∷ []

pub rise_examples : map (λ (e : Example). e.defined) table ≡ map (λ (e : Example). e.printed) table
unfolding table frame ipv4 esp number_at bytes_of packets_of in_turn answers_to answered answered_all lent_answers receive.judged receive.verdict_answer
    packets.read packets.esp tables.holds tables.is_free tables.first_place tables.find tables.free tables.entry_at tables.put_entry tables.put_key
    tables.added tables.judged_at tables.packet_read tables.packet tables.outcome_answer frames.by_protocol frames.not_ipv4 frames.fragmented frames.ipv4
    frames.is_tag frames.ether_type frames.carried listing.added_first listing.shown listing.listed_packet listing.packet_listed listing.frame_listed
    listing.listed listing.listed_answer captures.lines
rise_examples = refl
