-- A record and its two words say the same; for a table's entries `entry_put` and `put_back` of sequence_table say it.
use Prim.Native.Nat.{ℕ}
use mathlib.Core.Path.{◌≡◌, refl}
use mathlib.Core.List.{List, [], ◌∷◌}
use native.Mathlib.Omega.{arith}
use lib.ListN.{length}
use Rattle.sequence_record.specs.declared.Receive.{Receive}
use Rattle.exports_sequence.specs.Records.{receive_of, receive_words}

pub receive_again : (r : Receive) → receive_of (receive_words r) ≡ r
receive_again r = refl

-- so a step that leaves the record as it was leaves the words as they were
pub words_again : (words : List ℕ) → length words ≡ 2 → receive_words (receive_of words) ≡ words
words_again [] two = absurd (omega arith)
words_again (highest ∷ []) two = absurd (omega arith)
words_again (highest ∷ window ∷ []) two = refl
words_again (highest ∷ window ∷ more ∷ rest) two = absurd (omega arith)
