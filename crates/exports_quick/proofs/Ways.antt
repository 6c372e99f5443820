-- A law for each way out of the calls on a lent end.
use Prim.Native.Nat.{ℕ}
use mathlib.Core.Path.{◌≡◌}
use mathlib.Core.List.{List, [], ◌∷◌}
use mathlib.Core.Bool.{Bool, true, false}
use lib.ListN.{length, get_or}
use borrow.Author.Tests.{eq-eqb, ne_eqb}
use Rattle.wire_write.specs.Put.{paste}
use Rattle.quick_end.specs.declared.Role.{Role}
use Rattle.quick_end.specs.declared.Role.TheVariants.{Initiator, Responder}
use Rattle.quick_end.specs.declared.Progress.{Progress}
use Rattle.quick_end.specs.declared.End.{End}
use Rattle.quick_end.specs.Fresh.{made_told, fresh}
use Rattle.std.specs.Prelude.{Ok, Err}
use Rattle.refusal.specs.declared.Refusal.{Refusal}
use Rattle.refusal.specs.Numbers.{number}
use Rattle.refusal.proofs.Laws.{number-not_zero}
use Rattle.quick_shape.specs.Shapes.{nonce}
use Rattle.quick_step.specs.declared.StepAnswer.TheVariants as answers
use Rattle.quick_step.specs.declared.Stepped.{Stepped as Step}
use Rattle.quick_step.specs.Steps.{Stepped}
use Rattle.quick_step.specs.Steps.{After, after_step, stepped_told, step_answer}
use Rattle.quick_begin.specs.Begin.{begun}
use Rattle.quick_tick.specs.Tick.{ticked}
use Rattle.quick_deliver.specs.Deliver.{delivered}
use Rattle.exports_words.specs.Given.{words, left, given}
use Rattle.exports_end.specs.Ends.{state_number, transforms_values, spis_values, progress_bytes, end_bytes, progress_of, end_of}
use Rattle.exports_end.proofs.Values.{three-transforms, three_spis}
use Rattle.exports_quick.specs.Called.{role_by, fresh_called, end_after, finished, Called, called, state_answer, agreed_values, agreed_answer, nonce_called}

module _ (initiator : Bool) where
  pub role_initiator : initiator ≡ true → Initiator ≡ role_by initiator
  unfolding role_by
  role_initiator h = rw h

  pub role_responder : initiator ≡ false → Responder ≡ role_by initiator
  unfolding role_by
  role_responder h = rw h

module _ (end : List ℕ) (initiator : Bool) (role : Role) (er : role ≡ role_by initiator) (icookie rcookie : ℕ) (book : List ℕ) (ah esp : ℕ) (nonce : List ℕ) where
  pub fresh-refused : (refusal : Refusal) → made_told role (Err refusal) ≡ fresh role icookie rcookie book ah esp nonce → (n : ℕ) → n ≡ number refusal →
      fresh_called end (fresh (role_by initiator) icookie rcookie book ah esp nonce) ≡ (n, end)
  unfolding fresh_called
  fresh-refused refusal em n en = rw (← er, ← em, number-not_zero refusal, en)

  pub fresh-made : (made : End) → made_told role (Ok made) ≡ fresh role icookie rcookie book ah esp nonce → (b : List ℕ) →
      b ≡ paste end 0 (end_bytes made) → fresh_called end (fresh (role_by initiator) icookie rcookie book ah esp nonce) ≡ (0, b)
  unfolding fresh_called
  fresh-made made em b eb = rw (← er, ← em, eb)

-- ---- a step

module _ (end out : List ℕ) (step : Step) where
  pub finish_refused : (refusal : Refusal) → step.answer ≡ answers.Refused refusal → (n : ℕ) → n ≡ number refusal →
      finished end out (stepped_told step) ≡ (n, end, out)
  unfolding finished step_answer end_after left
  finish_refused refusal is n en = rw (is, en)

  module _ (b : List ℕ) (eb : b ≡ paste end 0 (progress_bytes step.end.progress)) where
    pub finish_nothing : step.answer ≡ answers.Nothing → finished end out (stepped_told step) ≡ (0, b, 0 ∷ 0 ∷ [])
    unfolding finished step_answer end_after left words
    finish_nothing is = rw (is, eb)

    pub finish_send : (size : ℕ) → step.answer ≡ answers.Send size → finished end out (stepped_told step) ≡ (0, b, 1 ∷ size ∷ [])
    unfolding finished step_answer end_after left words
    finish_send size is = rw (is, eb)

module _ (end out : List ℕ) (before : End) (is : before ≡ end_of end) (step : Stepped) (sent got output b w : List ℕ) (number : ℕ)
    (done : finished end out step ≡ (number, b, w)) where
  abbrev leaves : Called
  leaves = record { number = number; end = b; out = w; sent = sent; got = got; output = output }

  by-step : (after : End → After) → after before ≡ after_step step sent got output → called end out (after (end_of end)) ≡ leaves
  unfolding called
  by-step after e = rw (← is, e, done)

  module _ (sent₀ got₀ output₀ : List ℕ) where
    pub called-begin : (id : ℕ) (first second : List ℕ) → begun before id first second sent₀ got₀ output₀ ≡ after_step step sent got output →
        called end out (begun (end_of end) id first second sent₀ got₀ output₀) ≡ leaves
    called-begin id first second e = by-step (λ x. begun x id first second sent₀ got₀ output₀) e

    pub called-deliver : (holds : Bool) (m : List ℕ) → delivered before holds m sent₀ got₀ output₀ ≡ after_step step sent got output →
        called end out (delivered (end_of end) holds m sent₀ got₀ output₀) ≡ leaves
    called-deliver holds m e = by-step (λ x. delivered x holds m sent₀ got₀ output₀) e

    pub called-tick : ticked before sent₀ got₀ output₀ ≡ after_step step sent got output →
        called end out (ticked (end_of end) sent₀ got₀ output₀) ≡ leaves
    called-tick e = by-step (λ x. ticked x sent₀ got₀ output₀) e

-- ---- what an end holds

module _ (end out : List ℕ) (p : Progress) (ep : p ≡ progress_of end) where
  pub state_given : (number : ℕ) → number ≡ state_number p.state →
      given 4 (state_answer (progress_of end)) out ≡ (0, number ∷ p.sends ∷ p.sentsize ∷ p.gotsize ∷ [])
  unfolding given left words state_answer
  state_given number en = rw (← ep, en)

  pub agreed_refused : p.gotsize ≡ 0 → given 10 (agreed_answer (progress_of end)) out ≡ (8195, out)
  unfolding given left agreed_answer
  agreed_refused h = rw (← ep, eq-eqb p.gotsize 0 h)

  pub agreed_given : (p.gotsize ≡ 0 → ⊥) → (t i r : List ℕ) → t ≡ transforms_values p.agreed.transforms → i ≡ spis_values p.agreed.initiator →
      r ≡ spis_values p.agreed.responder → given 10 (agreed_answer (progress_of end)) out ≡
      (0, p.agreed.set.0 ∷ get_or t 0 0 ∷ get_or t 1 0 ∷ get_or t 2 0 ∷ get_or i 0 0 ∷ get_or i 1 0 ∷ get_or i 2 0 ∷ get_or r 0 0 ∷ get_or r 1 0 ∷ get_or r 2 0 ∷ [])
  unfolding given left words agreed_answer agreed_values
  agreed_given h t i r et ei er =
      rw (← ep, ne_eqb p.gotsize 0 h, three-transforms p.agreed.transforms, three_spis p.agreed.initiator, three_spis p.agreed.responder, ← et, ← ei, ← er)

pub nonce-given : (initiator : Bool) (role : Role) (one two found buffer b : List ℕ) → role ≡ role_by initiator → found ≡ nonce role one two →
    b ≡ paste buffer 0 found → nonce_called (nonce (role_by initiator) one two) buffer ≡ (0, length found ∷ [], b)
unfolding nonce_called
nonce-given initiator role one two found buffer b er ef eb = rw (← er, ← ef, eb)
