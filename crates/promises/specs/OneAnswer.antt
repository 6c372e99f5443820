-- No second answer: whatever two results, or two buffers at exit, satisfy a public function's contract at the same arguments are the
-- same. The theorems, OneAnswerWire and so on, one for each public function, are about the contract itself, `Post`, as its source states it.
use Rattle.std.specs.Prelude.{ℕ, ◌≡◌, List}
use contract.Lifetimes.{Lfts}
use denote.Triple.Clauses.{AtExit}
use Rattle.std.specs.Borrow.{Bor, MutBor}
use borrow.Fn.Kinds.{ParamKind, ResultKind, Out, Dens, res_t, ended_of}

-- two answers to one call agree in what is seen of them
abbrev pub OneAnswer :
    (n : ℕ) (ps : List (ParamKind n)) (r : ResultKind n) {A : Type 0} → ((κs : Lfts n) → (res_t r κs).Denot → AtExit (ended_of n ps r) κs → A) → Out n ps r → Type 0
OneAnswer n ps r seen Post =
    (κs : Lfts n) (arguments : Dens κs ps) (x y : (res_t r κs).Denot) (s t : AtExit (ended_of n ps r) κs) →
    Post κs arguments x s → Post κs arguments y t → seen κs x s ≡ seen κs y t

-- What is seen of an answer: the result; of a part that is handed back, its bytes; of a buffer that is lent as the first argument, its bytes at
-- exit, alone or beside the result; and beside the result those of a buffer that is lent as the second or the fourth.
abbrev pub result : {Lifetimes Result Exits : Type 0} → Lifetimes → Result → Exits → Result
result κs x s = x

abbrev pub part : {Lifetimes Bytes Exits : Type 0} → Lifetimes → Bor Bytes → Exits → Bytes
part κs x s = x.now

abbrev pub buffer : {Lifetimes Result Bytes Exits : Type 0} → Lifetimes → Result → MutBor Bytes × Exits → Bytes
buffer κs x s = s.0.now

abbrev pub result_and_buffer : {Lifetimes Result Bytes Exits : Type 0} → Lifetimes → Result → MutBor Bytes × Exits → Result × Bytes
result_and_buffer κs x s = (x, s.0.now)

abbrev pub result_and_second : {Lifetimes Result First Bytes Exits : Type 0} → Lifetimes → Result → First × (MutBor Bytes × Exits) → Result × Bytes
result_and_second κs x s = (x, s.1.0.now)

abbrev pub result_and_fourth :
    {Lifetimes Result First Second Third Bytes Exits : Type 0} →
    Lifetimes → Result → First × (Second × (Third × (MutBor Bytes × Exits))) → Result × Bytes
result_and_fourth κs x s = (x, s.1.1.1.0.now)
