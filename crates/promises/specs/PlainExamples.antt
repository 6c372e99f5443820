-- Examples of document 02, "Five", as one table: what the definitions answer beside what was worked out by hand, under one theorem. No engine
-- before it answers 8202.
use Rattle.std.specs.Prelude.{ℕ, ◌-◌, ◌^◌, ◌≡◌, refl, Bool, true, false, List, [], ◌∷◌, ◌++◌, map, replicate}
use Rattle.wire_read.specs.Answer.{Answer, done, refused}
use Rattle.sequence_record.specs.Receive as receive
use Rattle.sequence_table.specs.Counted.{Line}
use Rattle.sequence_table.specs.Table.{counted_answer}
use Rattle.sequence_history.specs.History as history
use Rattle.sequence_plain.specs.Plain as plain
use Rattle.sequence_plain.specs.Engines as engines
use Rattle.promises.specs.Marked.{Example}

-- what is answered to the packets, and the loss line after them
abbrev told_to : (list : plain.PlainList) (numbers : List (Bool × ℕ)) → List Answer
told_to list numbers = engines.plain_answers list numbers ++ (counted_answer (Line (plain.plain_loss (engines.plain_after list numbers))) ∷ [])

-- 1 to so many were accepted: what is answered to one packet more (`plain-right` says that the list's words answer so)
abbrev after_first : (n number : ℕ) (integrity : Bool) → Answer
after_first n = plain.right_plain (history.countdown n)

unfoldable pub table : List Example
table =
    -- from nothing 5 rises by 5; again, 0 and no integrity are refused and change nothing; 3 comes late, and 70 rises by 65: of 7 to 70 one is there
    record {
      defined = told_to (replicate 4097 0) ((true, 5) ∷ (true, 5) ∷ (true, 0) ∷ (false, 7) ∷ (true, 3) ∷ (true, 70) ∷ []);
      printed =
          done (5 ∷ []) ∷ refused 8194 ∷ refused 8197 ∷ refused 24 ∷ done (0 ∷ []) ∷ done (65 ∷ []) ∷ done (70 ∷ 64 ∷ 1 ∷ []) ∷ [];
    }
    -- after 4,096 every other refusal comes first: 4032 is 64 behind, 4033 was accepted, 5000 has no integrity; then it is 8202
    ∷ record {
      defined = after_first 4096 4032 true ∷ after_first 4096 4033 true ∷ after_first 4096 5000 false ∷ after_first 4096 5000 true ∷ [];
      printed = refused 8197 ∷ refused 8194 ∷ refused 24 ∷ refused 8202 ∷ [];
    }
    -- after 4,095 there is room for one more, and then for none
    ∷ record {
      defined = after_first 4095 5000 true ∷ plain.right_plain (5000 ∷ history.countdown 4095) 5001 true ∷ [];
      printed = done (905 ∷ []) ∷ refused 8202 ∷ [];
    }
    -- after the first 8202 the two histories part: the window takes 5000 after 1 to 4,096, so that 4097 is behind; the list does not have it
    ∷ record {
      defined =
          history.lent_answers (record { highest = 4096; window = 2 ^ 64 - 1 }) ((true, 5000) ∷ (true, 4097) ∷ [])
          ++ (after_first 4096 5000 true ∷ after_first 4096 4097 true ∷ []);
      printed = done (904 ∷ []) ∷ refused 8197 ∷ refused 8202 ∷ refused 8202 ∷ [];
    }
    -- words that nobody left: 7 stands twice and counts once, and a count over 4,096 is read as 4,096
    ∷ record {
      defined = told_to (3 ∷ 7 ∷ 7 ∷ 6 ∷ replicate 4093 0) [] ++ (done (plain.count_of (5000 ∷ replicate 4096 0) ∷ []) ∷ []);
      printed = done (7 ∷ 7 ∷ 2 ∷ []) ∷ done (4096 ∷ []) ∷ [];
    }
    ∷ []

pub plain_examples : map (λ (e : Example). e.defined) table ≡ map (λ (e : Example). e.printed) table
unfolding table history.countdown history.sum history.right_number history.lent_answers plain.first_numbers plain.with_next plain.right_plain plain.plain_step
    plain.plain_loss engines.plain_answers engines.plain_after receive.judged receive.verdict_answer counted_answer
plain_examples = refl
