-- The plain window, document 02, "Five": "it keeps the accepted numbers of one life as a plain list of up to 4,096, and looks through it". What is
-- right of a list of numbers (`right_number`, `highest`, `recent`) stands in crates/sequence_history/specs/History.antt.
use Rattle.std.specs.Prelude.{ℕ, zero, suc, ◌+◌, min, List, [], ◌∷◌, Bool, ◌&&◌, length, get_or, set, leb}
use Rattle.wire_read.specs.Tests.{if◌then◌otherwise◌}
use Rattle.wire_read.specs.Answer.{Answer, refused}
use Rattle.sequence_record.specs.declared.LossLine.{LossLine}
use Rattle.sequence_history.specs.History.{is_done, highest, recent, right_number}

-- ---- the list, in words that the caller lends: a count, and behind it so many numbers in the order of their acceptance

abbrev pub PlainList : Type 0
PlainList = List ℕ

-- "up to 4,096"
abbrev pub most : ℕ
most = 4096

-- a count over 4,096 is read as 4,096
abbrev pub count_of : (list : PlainList) → ℕ
count_of list = min (get_or list 0 0) most

-- the first n numbers of the list, the last first, as the history has them
unfoldable pub first_numbers : (list : PlainList) (n : ℕ) → List ℕ
first_numbers list zero = []
first_numbers list (suc n) = get_or list (suc n) 0 ∷ first_numbers list n

abbrev pub numbers_of : (list : PlainList) → List ℕ
numbers_of list = first_numbers list (count_of list)

-- the list with one number more
unfoldable pub with_next : (list : PlainList) (number : ℕ) → PlainList
with_next list number = set (set list (count_of list + 1) number) 0 (count_of list + 1)

-- ---- its rule

-- "a packet that would be the 4,097th acceptance is 8202 in this engine only, after all others"
unfoldable pub right_plain : (numbers : List ℕ) (number : ℕ) (integrity : Bool) → Answer
right_plain numbers number integrity =
    if is_done (right_number numbers number integrity) && leb most (length numbers) then refused 8202
    otherwise right_number numbers number integrity

-- a packet's answer, and the list after it: a refusal changes nothing
unfoldable pub plain_step : (list : PlainList) (number : ℕ) (integrity : Bool) → Answer × PlainList
plain_step list number integrity = (
  right_plain (numbers_of list) number integrity,
  if is_done (right_plain (numbers_of list) number integrity) then with_next list number otherwise list,
)

-- "A loss line gives H, the lesser of H and 64, and how many of those last numbers were accepted": a number that stands twice counts once
unfoldable pub plain_loss : (list : PlainList) → LossLine
plain_loss list = record { highest = highest (numbers_of list); span = min (highest (numbers_of list)) 64; count = recent (numbers_of list) }
