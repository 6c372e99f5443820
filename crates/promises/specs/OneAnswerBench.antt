-- No second answer, of the family bench (OneAnswer.antt says what that is).
use Rattle.std.specs.Prelude.{ℕ, min, ◌≤◌, ◌<◌, ◌≡◌, length, get_or, ltb}
use Rattle.std.proofs.Common.{sym, ap, ◌∙◌, arith, ltb-true, ltb-false}
use Rattle.wire_read.specs.Wire.{Bytes}
use Rattle.wire_read.proofs.Tests.{by_test}
use denote.RattleType.{RattleType}
use denote.Param.Laws.{Laws, IsCopy}
use mir.Syntax.{Dict}
use Rattle.std.specs.declared.clone.Clone.{Ghosts as CloneGhosts}
use Rattle.refusal.specs.declared.Numbered.{Ghosts}
use Rattle.promises.specs.OneAnswer.{OneAnswer, result, part, result_and_buffer}
use Rattle.bench_words.proofs.words.find.Kinds as find-kinds
use Rattle.bench_words.proofs.words.find.Reads as find-reads
use Rattle.bench_words.proofs.words.count.Kinds as count-kinds
use Rattle.bench_words.proofs.words.count.Reads as count-reads
use Rattle.bench_words.proofs.words.nth.Kinds as nth-kinds
use Rattle.bench_words.proofs.words.nth.Reads as nth-reads
use Rattle.bench_words.proofs.integrity.read.Kinds as read-kinds
use Rattle.bench_words.proofs.integrity.read.Reads as read-reads
use Rattle.bench_words.proofs.number.decimal.Kinds as decimal-kinds
use Rattle.bench_words.proofs.number.decimal.Reads as decimal-reads
use Rattle.bench_words.proofs.number.four_bytes.Kinds as four-bytes-kinds
use Rattle.bench_words.proofs.number.four_bytes.Reads as four-bytes-reads
use Rattle.bench_words.proofs.number.eight_bytes.Kinds as eight-bytes-kinds
use Rattle.bench_words.proofs.number.eight_bytes.Reads as eight-bytes-reads
use Rattle.bench_words.proofs.say.append.Kinds as append-kinds
use Rattle.bench_words.proofs.say.append.Reads as append-reads
use Rattle.bench_words.proofs.say.digits.Kinds as digits-kinds
use Rattle.bench_words.proofs.say.digits.Reads as digits-reads
use Rattle.bench_words.proofs.say.number.Kinds as number-kinds
use Rattle.bench_words.proofs.say.number.Reads as number-reads
use Rattle.bench_words.proofs.say.bytes.Kinds as bytes-kinds
use Rattle.bench_words.proofs.say.bytes.Reads as bytes-reads
use Rattle.bench_words.proofs.say.word.Kinds as word-kinds
use Rattle.bench_words.proofs.say.word.Reads as word-reads
use Rattle.bench_words.proofs.say.refused.Kinds as refused-kinds
use Rattle.bench_words.proofs.say.refused.Reads as refused-reads
use Rattle.bench_words.proofs.say.bad_line.Kinds as bad-line-kinds
use Rattle.bench_words.proofs.say.bad_line.Reads as bad-line-reads
use Rattle.bench_words.proofs.say.verdict.Kinds as verdict-kinds
use Rattle.bench_words.proofs.say.verdict.Reads as verdict-reads
use Rattle.bench_words.proofs.say.loss_line.Kinds as loss-line-kinds
use Rattle.bench_words.proofs.say.loss_line.Reads as loss-line-reads
use Rattle.bench_words.proofs.say.transforms.Kinds as transforms-kinds
use Rattle.bench_words.proofs.say.transforms.Reads as transforms-reads

-- of two places that a search for a byte gives, the first does not lie before the second
not_before : (s : Bytes) (from b r r' : ℕ) → min from (length s) ≤ r → (r < length s → get_or s r 0 ≡ b) → r' ≤ length s →
    ((k : ℕ) → k < r' → from ≤ k → get_or s k 0 ≡ b → ⊥) → r < r' → ⊥
not_before s from b r r' behind found within before l = before r l (omega arith) (found (omega arith))

pub bench_words-find : OneAnswer 1 find-kinds.ps find-kinds.r result find-reads.Post
bench_words-find κs arguments x y s t p q =
    by_test (ltb x y)
    (λ l. absurd (not_before arguments.0.now arguments.1.0 arguments.1.1.0 x y p.1.0 p.1.1.1 q.0 q.1.1.0 (ltb-true x y l)))
    (λ m. by_test (ltb y x)
    (λ l. absurd (not_before arguments.0.now arguments.1.0 arguments.1.1.0 y x q.1.0 q.1.1.1 p.0 p.1.1.0 (ltb-true y x l)))
    (λ n. let least = ltb-false x y m in let most = ltb-false y x n in omega arith))

-- what was put and the place behind it follow from where and what was put
pub said_once : (put after after' : Bytes) (end r r' : ℕ) → (after ≡ put) × (r ≡ min end (length after)) →
    (after' ≡ put) × (r' ≡ min end (length after')) → ◌≡◌ {A = ℕ × Bytes} (r, after) (r', after')
said_once put after after' end r r' p q =
    let same = p.0 ∙ sym q.0 in
    ap (λ (n : ℕ). (n, after)) (p.1 ∙ ap (λ (l : Bytes). min end (length l)) same ∙ sym q.1) ∙ ap (λ (l : Bytes). (r', l)) same

pub bench_words-count : OneAnswer 1 count-kinds.ps count-kinds.r result count-reads.Post
bench_words-count κs arguments x y s t p q = p ∙ sym q

pub bench_words-nth : OneAnswer 1 nth-kinds.ps nth-kinds.r part nth-reads.Post
bench_words-nth κs arguments x y s t p q = p ∙ sym q

pub bench_words-read : OneAnswer 1 read-kinds.ps read-kinds.r result read-reads.Post
bench_words-read κs arguments x y s t p q = p ∙ sym q

pub bench_words-decimal : OneAnswer 1 decimal-kinds.ps decimal-kinds.r result decimal-reads.Post
bench_words-decimal κs arguments x y s t p q = p ∙ sym q

pub bench_words-four_bytes : OneAnswer 1 four-bytes-kinds.ps four-bytes-kinds.r result four-bytes-reads.Post
bench_words-four_bytes κs arguments x y s t p q = p ∙ sym q

pub bench_words-eight_bytes : OneAnswer 1 eight-bytes-kinds.ps eight-bytes-kinds.r result eight-bytes-reads.Post
bench_words-eight_bytes κs arguments x y s t p q = p ∙ sym q

pub bench_words-append : OneAnswer 2 append-kinds.ps append-kinds.r result_and_buffer append-reads.Post
bench_words-append κs arguments x y s t p q = said_once _ _ _ _ _ _ p q

pub bench_words-digits : OneAnswer 1 digits-kinds.ps digits-kinds.r result_and_buffer digits-reads.Post
bench_words-digits κs arguments x y s t p q = said_once _ _ _ _ _ _ p q

pub bench_words-number : OneAnswer 1 number-kinds.ps number-kinds.r result_and_buffer number-reads.Post
bench_words-number κs arguments x y s t p q = said_once _ _ _ _ _ _ p q

pub bench_words-bytes : OneAnswer 2 bytes-kinds.ps bytes-kinds.r result_and_buffer bytes-reads.Post
bench_words-bytes κs arguments x y s t p q = said_once _ _ _ _ _ _ p q

pub bench_words-word : OneAnswer 2 word-kinds.ps word-kinds.r result_and_buffer word-reads.Post
bench_words-word κs arguments x y s t p q = said_once _ _ _ _ _ _ p q

pub bench_words-refused : OneAnswer 1 refused-kinds.ps refused-kinds.r result_and_buffer refused-reads.Post
bench_words-refused κs arguments x y s t p q = said_once _ _ _ _ _ _ p q

pub bench_words-bad_line : OneAnswer 1 bad-line-kinds.ps bad-line-kinds.r result_and_buffer bad-line-reads.Post
bench_words-bad_line κs arguments x y s t p q = said_once _ _ _ _ _ _ p q

pub bench_words-loss_line : OneAnswer 1 loss-line-kinds.ps loss-line-kinds.r result_and_buffer loss-line-reads.Post
bench_words-loss_line κs arguments x y s t p q = said_once _ _ _ _ _ _ p q

pub bench_words-transforms : OneAnswer 1 transforms-kinds.ps transforms-kinds.r result_and_buffer transforms-reads.Post
bench_words-transforms κs arguments x y s t p q = said_once _ _ _ _ _ _ p q

-- of a function over a trait: whatever its refusals are
module _ (R : RattleType) (laws : Laws R) (copy : IsCopy R) (ghosts : Ghosts R.Denot) (dict : Dict) (clone : CloneGhosts R.Denot) (clone-dict : Dict) where
  pub bench_words-verdict : OneAnswer 2 (verdict-kinds.ps R laws copy) (verdict-kinds.r R laws copy) result_and_buffer (verdict-reads.Post R laws copy ghosts dict clone clone-dict)
  bench_words-verdict κs arguments x y s t p q = said_once _ _ _ _ _ _ p q
