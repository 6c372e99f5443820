-- The receive record, document 01, "Sequence numbers": the highest accepted number and a window word, whose bit k says whether the
-- number highest - k was accepted.
use Rattle.std.specs.Prelude.{ℕ, ◌+◌, ◌-◌, ◌*◌, ◌/◌, ◌%◌, ◌^◌, max, min, [], ◌∷◌, Bool, not, ◌||◌, ◌&&◌, ltb, leb, eqb}
use Rattle.std.specs.Int.Count.{ones}
use Rattle.wire_read.specs.Tests.{if◌then◌otherwise◌}
use Rattle.wire_read.specs.Answer.{Answer, done, refused}
use Rattle.sequence_record.specs.declared.Receive.{Receive}
use Rattle.sequence_record.specs.Verdict.{Verdict, Accepted, Refused, Judged}
use Rattle.sequence_record.specs.declared.LossLine.{LossLine}

-- "With H the highest accepted number of this life, 0 at first"
abbrev pub new_receive : Receive
new_receive = record { highest = 0; window = 0 }

-- the binary digit of a word at a place
abbrev pub bit : (word place : ℕ) → ℕ
bit word place = word / 2 ^ place % 2

-- "number 0, or number plus 64 not above H"
abbrev pub behind : (highest number : ℕ) → Bool
behind highest number = eqb number 0 || leb (number + 64) highest

-- "accepted before"
abbrev pub accepted_before : (r : Receive) (number : ℕ) → Bool
accepted_before r number = leb number r.highest && eqb (bit r.window (r.highest - number)) 1

-- a 64-bit window moved up by so many places; what goes past its end is dropped
abbrev pub shifted : (window places : ℕ) → ℕ
shifted window places = if ltb places 64 then window * 2 ^ places % 2 ^ 64 otherwise 0

-- document 02, Four: "by how much the highest number rose, 0 if it didn't"
abbrev pub rise : (r : Receive) (number : ℕ) → ℕ
rise r number = max number r.highest - r.highest

-- the record with a number accepted: the window moves so far as the highest number rises, and then the number's bit is set
abbrev pub with_number : (r : Receive) (number : ℕ) → Receive
with_number r number =
    record {
      highest = max number r.highest;
      window = shifted r.window (rise r number) + 2 ^ (max number r.highest - number);
    }

-- "number 0, or number plus 64 not above H: 8197; accepted before: 8194; integrity no: 24; else accepted"; integrity is what the caller
-- says of it. Document 02, Four: an accepted packet's verdict carries the rise, "refused packets carry nothing"
unfoldable pub judged : (r : Receive) (number : ℕ) (integrity : Bool) → Judged
judged r number integrity =
    if behind r.highest number then record { receive = r; verdict = Refused 8197 }
    otherwise if accepted_before r number then record { receive = r; verdict = Refused 8194 }
    otherwise if not integrity then record { receive = r; verdict = Refused 24 }
    otherwise record { receive = with_number r number; verdict = Accepted (rise r number) }

-- "A loss line gives H, the lesser of H and 64, and how many of those last numbers were accepted": ones counted in the window
abbrev pub loss_line : (r : Receive) → LossLine
loss_line r = record { highest = r.highest; span = min r.highest 64; count = ones r.window }

-- the paper's number and values for each case
unfoldable pub verdict_answer : (verdict : Verdict) → Answer
verdict_answer (Accepted rise) = done (rise ∷ [])
verdict_answer (Refused number) = refused number
