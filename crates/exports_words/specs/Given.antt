-- What a call gives a caller in another language: its number, 0 for done, and its values in words that the caller lends.
use Rattle.std.specs.Prelude.{ℕ, zero, suc, List, [], ◌∷◌}
use Rattle.wire_read.specs.Answer.{Answer}

-- n words: the values, and 0 in each that has none
unfoldable pub words : (n : ℕ) (values : List ℕ) → List ℕ
words zero values = []
words (suc n) [] = 0 ∷ words n []
words (suc n) (value ∷ values) = value ∷ words n values

-- the n words that are lent, after an answer with these values; a refusal has none, and leaves the words as they were
unfoldable pub left : (n : ℕ) (values out : List ℕ) → List ℕ
left n [] out = out
left n (value ∷ values) out = words n (value ∷ values)

-- an answer as it is given: its number, and the n words that are lent for its values
unfoldable pub given : (n : ℕ) (answer : Answer) (out : List ℕ) → ℕ × List ℕ
given n answer out = (answer.number, left n answer.values out)
