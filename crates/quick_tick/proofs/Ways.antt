-- A law for each way out of the functions of a tick.
use Prim.Native.Nat.{ℕ, min, ◌≤◌, ◌<◌}
use mathlib.Core.Path.{◌≡◌, refl}
use mathlib.Core.List.{List}
use mathlib.Core.Bool.{Bool, true, false}
use borrow.Author.Tests.{lt-ltb, le-ltb}
use denote.Enum.Bare.{sameb}
use Rattle.refusal.specs.declared.Refusal.{Refusal}
use Rattle.refusal.specs.Numbers.{number}
use Rattle.refusal.proofs.Laws.{number-not_zero}
use Rattle.wire_write.specs.Put.{paste}
use Rattle.quick_end.specs.Fresh.{is_idle, is_given_up}
use Rattle.quick_step.specs.Steps.{small, kept, with_state, after_step, stepped, with_progress}
use Rattle.quick_tick.specs.Tick.{is_open, tick_code, one_more, ticked}
use Rattle.quick_end.specs.contracts.State as states
use Rattle.quick_end.specs.declared.State.{State}
use Rattle.quick_end.specs.declared.State.TheVariants.{Idle, Sent, Half, Open, GivenUp}
use Rattle.quick_end.specs.declared.Progress.{Progress}
use Rattle.quick_end.specs.declared.End.{End}
use Rattle.quick_step.specs.Steps.{Send, Nothing, Refused}

-- equality with a variant, as the derive has it
pub open-same : (state : State) → sameb states.the_type state Open ≡ is_open state
unfolding is_open
open-same Idle = refl
open-same Sent = refl
open-same Half = refl
open-same Open = refl
open-same GivenUp = refl

module _ (state : State) (tight : Bool) where
  pub tick-small : tight ≡ true → 8192 ≡ tick_code state tight
  unfolding tick_code
  tick-small h = rw h

  module _ (roomy : tight ≡ false) (up : Bool) (eu : up ≡ is_given_up state) where
    pub tick-up : up ≡ true → 8196 ≡ tick_code state tight
    unfolding tick_code
    tick-up h = rw (roomy, ← eu, h)

    module _ (on : up ≡ false) (rests : Bool) (er : rests ≡ is_idle state) where
      pub tick-idle : rests ≡ true → 8195 ≡ tick_code state tight
      unfolding tick_code
      tick-idle h = rw (roomy, ← eu, on, ← er, h)

      pub tick_passed : rests ≡ false → 0 ≡ tick_code state tight
      unfolding tick_code
      tick_passed h = rw (roomy, ← eu, on, ← er, h)

module _ (e : End) (sent got output : List ℕ) (tight : Bool) (et : tight ≡ small sent got output) where
  pub tick-refused : (refusal : Refusal) → number refusal ≡ tick_code e.progress.state tight →
      ticked e sent got output ≡ after_step (stepped e (Refused (number refusal))) sent got output
  unfolding ticked
  tick-refused refusal ec = rw (← et, ← ec, number-not_zero refusal)

  module _ (passes : 0 ≡ tick_code e.progress.state tight) (opens : Bool) (eo : opens ≡ is_open e.progress.state) where
    pub tick_open : opens ≡ true → ticked e sent got output ≡ after_step (stepped e Nothing) sent got output
    unfolding ticked
    tick_open h = rw (← et, ← passes, ← eo, h)

    module _ (waits : opens ≡ false) (p : Progress) where
      pub tick_again : e.progress.sends < 4 → (m b : List ℕ) (n : ℕ) → m ≡ kept e.progress.sentsize sent → b ≡ paste output 0 m →
          p ≡ one_more e.progress → n ≡ min e.progress.sentsize 2048 →
          ticked e sent got output ≡ after_step (stepped (with_progress p e) (Send n)) sent got b
      unfolding ticked
      tick_again h m b n em eb ep en = rw (← et, ← passes, ← eo, waits, lt-ltb e.progress.sends 4 h, eb, em, ep, en)

      pub tick-last : 4 ≤ e.progress.sends → p ≡ with_state GivenUp e.progress →
          ticked e sent got output ≡ after_step (stepped (with_progress p e) Nothing) sent got output
      unfolding ticked
      tick-last h ep = rw (← et, ← passes, ← eo, waits, le-ltb e.progress.sends 4 h, ep)
