-- A law for each way out of the functions of a delivery.
use Prim.Native.Nat.{ℕ, min, ◌≤◌}
use mathlib.Core.Path.{◌≡◌, refl, sym, ap, ◌∙◌}
use mathlib.Core.List.{List}
use mathlib.Core.Logic.{◌⊎◌, inl, inr}
use mathlib.Core.Bool.{Bool, true, false, not, ◌||◌}
use native.Mathlib.Omega.{arith}
use lib.ListN.{length, take}
use lib.Dec.{eqb}
use borrow.Author.Tests.{eq-eqb, ne_eqb}
use Rattle.std.specs.Prelude.{Option, None, Some}
use Rattle.refusal.specs.declared.Refusal.{Refusal}
use Rattle.refusal.specs.Numbers.{number}
use Rattle.refusal.proofs.Laws.{number-not_zero, number-refuses}
use Rattle.wire_write.specs.Put.{paste, put}
use Rattle.wire_write.proofs.Laws.{put-size, put-made}
use Rattle.wire_read.proofs.Tests.{by_test}
use Rattle.message_header.specs.Header.{message_id_of}
use Rattle.message_chain.specs.Message.{message}
use Rattle.message_chain.specs.Message.{Message}
use Rattle.sa_sets.specs.Sets.{set_numbered}
use Rattle.sa_sets.proofs.Laws.{set-within}
use Rattle.sa_fields.specs.declared.ProposalNumber.{ProposalNumber}
use Rattle.policy_choice.specs.Choice.{body_at, choose_from}
use Rattle.policy_choice.proofs.ChoiceLaws.{body-within}
use Rattle.policy_lines.specs.declared.LineNumber.{LineNumber}
use Rattle.policy_choice.specs.declared.Transforms.{Transforms}
use Rattle.policy_choice.specs.Choice.{Choice}
use Rattle.policy_choice.specs.Choice as choices
use Rattle.quick_write.specs.Messages.{book_of, longer_into, message_two, message_three}
use Rattle.quick_write.proofs.Laws.{longer-written, longer_never}
use Rattle.quick_end.specs.Fresh.{is_initiator, is_given_up}
use Rattle.quick_shape.specs.Shapes.{is_longer, alike, shape_of}
use Rattle.quick_check.specs.Checks.{read_code}
use Rattle.quick_agreed.specs.Agreed.{spis_of, own_spis}
use Rattle.quick_taken.specs.Taken.{taken_code, agreed_two}
use Rattle.quick_step.specs.Steps.{small, kept, with_state, after_step, stepped, with_progress, repeated_step, repeated_output}
use Rattle.quick_deliver.specs.Deliver.{early_code, delivery_code, identity_at, message_two_to, agreed_one, opened, at_initiator, halfway, after_choice, at_responder, delivered}
use Rattle.quick_end.specs.declared.State.{State}
use Rattle.quick_end.specs.declared.State.TheVariants.{Idle, Sent, Half, Open, GivenUp}
use Rattle.quick_end.specs.declared.Own.{Own}
use Rattle.quick_end.specs.declared.Spis.{Spis}
use Rattle.quick_end.specs.declared.Agreed.{Agreed}
use Rattle.quick_end.specs.declared.Progress.{Progress}
use Rattle.quick_write.specs.declared.Proposals.TheVariants.{Reply}
use Rattle.quick_end.specs.declared.End.{End}
use Rattle.quick_step.specs.Steps.{Send, Nothing, Refused}
use Rattle.quick_step.specs.Steps.{Stepped}

-- ---- parts of a message that is taken fit

module _ (m : List ℕ) where
  pub set-fits : length m ≤ 2048 → (number : ProposalNumber) (body s : List ℕ) → body ≡ body_at 1 m → s ≡ set_numbered number body → length s ≤ 2048
  set-fits h number body s eb es = omega (arith, ap length es, ap length eb, set-within number body, body-within 1 m)

  identity_within : length m ≤ 2048 → (k : ℕ) (s : List ℕ) → s ≡ identity_at k m → length s ≤ 4096
  unfolding identity_at
  identity_within few k s e = rw e (by_test (eqb (shape_of m) 5) (λ h. rw h (omega (arith, body-within k m))) (λ h. rw h (omega arith)))

-- ---- the checks of a delivery

module _ (state : State) (holds tight : Bool) where
  pub early_small : tight ≡ true → 8192 ≡ early_code tight holds (is_given_up state) 0
  early_small h = rw h

  module _ (roomy : tight ≡ false) where
    pub early_hash : not holds ≡ true → 23 ≡ early_code tight holds (is_given_up state) 0
    early_hash h = rw (roomy, h)

    module _ (sound : not holds ≡ false) (up : Bool) (eu : up ≡ is_given_up state) where
      pub early_up : up ≡ true → 8196 ≡ early_code tight holds (is_given_up state) 0
      early_up h = rw (roomy, sound, ← eu, h)

      pub early_passed : up ≡ false → 0 ≡ early_code tight holds (is_given_up state) 0
      early_passed h = rw (roomy, sound, ← eu, h)

-- those before the reading come first, and where they pass the rest decides
module _ (rest : ℕ) where
  early_first : (tight holds up : Bool) → (early_code tight holds up 0 ≡ 0 → ⊥) → early_code tight holds up 0 ≡ early_code tight holds up rest
  early_first true holds up h = refl
  early_first false false up h = refl
  early_first false true true h = refl
  early_first false true false h = absurd (h refl)

  early_rest : (tight holds up : Bool) → early_code tight holds up 0 ≡ 0 → rest ≡ early_code tight holds up rest
  early_rest true holds up h = absurd (omega arith)
  early_rest false false up h = absurd (omega arith)
  early_rest false true true h = absurd (omega arith)
  early_rest false true false h = refl

module _ (e : End) (holds : Bool) (m : List ℕ) (tight : Bool) (code : ℕ) where
  abbrev early : ℕ
  early = early_code tight holds (is_given_up e.progress.state) 0

  delivery_early : code ≡ early → (code ≡ 0 → ⊥) → code ≡ delivery_code e holds m tight
  unfolding delivery_code
  delivery_early ec h = ec ∙ early_first _ tight holds (is_given_up e.progress.state) (λ z. h (ec ∙ z))

  delivery-read : early ≡ 0 → (read : Message) → read ≡ message m → code ≡ read_code e.own e.progress.state e.progress.id m read →
      code ≡ delivery_code e holds m tight
  unfolding delivery_code
  delivery-read h read em ec =
      ec ∙ ap (read_code e.own e.progress.state e.progress.id m) em
      ∙ early_rest (read_code e.own e.progress.state e.progress.id m (message m)) tight holds (is_given_up e.progress.state) h

-- ---- what a delivery brings

pub repeated-step : (e : End) (n : ℕ) → n ≡ min e.progress.sentsize 2048 → stepped e (Send n) ≡ repeated_step e.progress e
repeated-step e n en = rw en

pub repeated-output : (size : ℕ) (sent output k b : List ℕ) → k ≡ kept size sent → b ≡ paste output 0 k → b ≡ paste output 0 (kept size sent)
repeated-output size sent output k b ek eb = rw (← ek) eb

module _ (k : ℕ) (m r : List ℕ) (found : ℕ) (es : found ≡ shape_of m) where
  pub identity_there : found ≡ 5 → r ≡ body_at k m → r ≡ identity_at k m
  unfolding identity_at
  identity_there h e = rw (← es, eq-eqb found 5 h) e

  pub identity_none : (found ≡ 5 → ⊥) → r ≡ take 0 m → r ≡ identity_at k m
  unfolding identity_at
  identity_none h e = rw (← es, ne_eqb found 5 h) e

pub one_agreed : (own : Own) (number : ProposalNumber) (transforms : Transforms) (s : List ℕ) (initiator responder : Spis) → initiator ≡ spis_of s →
    responder ≡ own_spis own.ah own.esp s →
    record { set = number; transforms = transforms; initiator = initiator; responder = responder } ≡ agreed_one own number transforms s
one_agreed own number transforms s initiator responder ei er = rw (← ei, ← er)

module _ (l b m s one two : List ℕ) (own : Own) (transforms : Transforms) (id : ℕ) (w : Option ℕ) (fs : length s ≤ 2048) (fm : length m ≤ 2048)
    (e1 : one ≡ identity_at 3 m) (e2 : two ≡ identity_at 4 m) (e : longer_into l own id (Reply transforms) s one two ≡ (w, b)) where
  pub two-written : id ≡ message_id_of m → (n : ℕ) → w ≡ Some n → put l 0 (message_two_to m own transforms s) ≡ (n, b)
  unfolding message_two
  two-written ei n h =
      rw (← ei, ← e1, ← e2)
      (longer-written l own id (Reply transforms) s one two (omega arith) (identity_within m fm 3 one e1) (identity_within m fm 4 two e2) w b e n h)

  pub two_never : w ≡ None → put l 0 (message_two_to m own transforms s) ≡ (0, b)
  two_never h = longer_never l own id (Reply transforms) s one two (omega arith) (identity_within m fm 3 one e1) (identity_within m fm 4 two e2) w b e h

module _ (e : End) (m sent got output : List ℕ) where
  -- the record of an end that is open, and of one that is halfway
  abbrev open_at : (size : ℕ) (agreed : Agreed) → Progress
  open_at size agreed = record {
    state = Open;
    sends = e.progress.sends;
    id = e.progress.id;
    sentsize = size;
    gotsize = length m;
    agreed = agreed;
  }

  abbrev half_at : (id size : ℕ) (agreed : Agreed) → Progress
  half_at id size agreed = record { state = Half; sends = 1; id = id; sentsize = size; gotsize = length m; agreed = agreed }

  pub opened-three : (k g b c : List ℕ) (a : Agreed) (i n : ℕ) → k ≡ kept e.progress.sentsize sent → a ≡ agreed_two k m → g ≡ paste got 0 m →
      put sent 0 (message_three e.own e.progress.id) ≡ (i, b) → put output 0 (message_three e.own e.progress.id) ≡ (n, c) →
      opened e m sent got output ≡ after_step (stepped (with_progress (open_at n a) e) (Send n)) b g c
  unfolding opened
  opened-three k g b c a i n ek ea eg eb ec =
      let size = put-size output c 0 n _ ec in
      let first = put-made sent b 0 i _ eb in
      let second = put-made output c 0 n _ ec in
      rw (← ek, ← ea, ← eg, size, first, second)

  module _ (number : ProposalNumber) (transforms : Transforms) (id i n : ℕ) (body s g b c : List ℕ) (a : Agreed) where
    pub halfway-two : body ≡ body_at 1 m → s ≡ set_numbered number body → a ≡ agreed_one e.own number transforms s → g ≡ paste got 0 m →
        put sent 0 (message_two_to m e.own transforms s) ≡ (i, b) → put output 0 (message_two_to m e.own transforms s) ≡ (n, c) → id ≡ message_id_of m →
        halfway e m sent got output number transforms (set_numbered number (body_at 1 m)) ≡ after_step (stepped (with_progress (half_at id n a) e) (Send n)) b g c
    unfolding halfway
    halfway-two ey es ea eg eb ec ei =
        let size = put-size output c 0 n _ ec in
        let first = put-made sent b 0 i _ eb in
        let second = put-made output c 0 n _ ec in
        rw (← ey, ← es, size, first, second, ei, ea, ← eg)

  module _ (state : State) (r : Stepped) (er : r ≡ stepped e (Refused 8195)) where
    pub initiator-other : (state ≡ Idle) ⊎ ((state ≡ Half) ⊎ (state ≡ GivenUp)) → at_initiator e m sent got output state ≡ after_step r sent got output
    unfolding at_initiator
    initiator-other (inl h) = rw (h, er)
    initiator-other (inr (inl h)) = rw (h, er)
    initiator-other (inr (inr h)) = rw (h, er)

    pub responder-other : (state ≡ Sent) ⊎ (state ≡ GivenUp) → at_responder e m sent got output state ≡ after_step r sent got output
    unfolding at_responder
    responder-other (inl h) = rw (h, er)
    responder-other (inr h) = rw (h, er)

  module _ (found : ℕ) (es : found ≡ shape_of m) (long : Bool) (el : long ≡ is_longer found) where
    pub two-other : not long ≡ true → (r : Stepped) → r ≡ stepped e (Refused 8195) → at_initiator e m sent got output Sent ≡ after_step r sent got output
    unfolding at_initiator
    two-other h r er = rw (← es, ← el, h, er)

    module _ (longer : not long ≡ false) (k : List ℕ) (ek : k ≡ kept e.progress.sentsize sent) (r : Stepped) where
      pub two-refused : (refusal : Refusal) → number refusal ≡ taken_code found k m → r ≡ stepped e (Refused (number refusal)) →
          at_initiator e m sent got output Sent ≡ after_step r sent got output
      unfolding at_initiator
      two-refused refusal ec er = rw (← es, ← el, longer, ← ek, ← ec, number-not_zero refusal, er)

      pub two-opened : 0 ≡ taken_code found k m → (a b c : List ℕ) → opened e m sent got output ≡ after_step r a b c → at_initiator e m sent got output Sent ≡ after_step r a b c
      unfolding at_initiator
      two-opened taken a b c eo = rw (← es, ← el, longer, ← ek, ← taken) eo

    pub one-other : not long ≡ true → (r : Stepped) → r ≡ stepped e (Refused 8195) → at_responder e m sent got output Idle ≡ after_step r sent got output
    unfolding at_responder
    one-other h r er = rw (← es, ← el, h, er)

    module _ (longer : not long ≡ false) (book body : List ℕ) (ek : book ≡ take e.own.booksize e.own.book) (eb : body ≡ body_at 1 m) (r : Stepped) where
      pub one-refused : (refusal : Refusal) → choices.Refused (number refusal) ≡ choose_from 32 book body → r ≡ stepped e (Refused (number refusal)) →
          at_responder e m sent got output Idle ≡ after_step r sent got output
      unfolding at_responder after_choice book_of
      one-refused refusal ec er = rw (← es, ← el, longer, ← ek, ← eb, ← ec, er)

      pub one-answered : (set : ProposalNumber) (line : LineNumber) (transforms : Transforms) →
          choices.Chosen set line transforms ≡ choose_from 32 book body → (x y z : List ℕ) →
          halfway e m sent got output set transforms (set_numbered set (body_at 1 m)) ≡ after_step r x y z →
          at_responder e m sent got output Idle ≡ after_step r x y z
      unfolding at_responder after_choice book_of
      one-answered set line transforms ec x y z eh = rw (← es, ← el, longer, ← ek, ← eb, ← ec) eh

  module _ (state : State) (r : Stepped) (c : List ℕ) where
    pub responder_half : state ≡ Half → at_responder e m sent got output Half ≡ after_step r sent got c →
        at_responder e m sent got output state ≡ after_step r sent got c
    responder_half h eh = rw h eh

    module _ (a b : List ℕ) where
      pub initiator-sent : state ≡ Sent → at_initiator e m sent got output Sent ≡ after_step r a b c → at_initiator e m sent got output state ≡ after_step r a b c
      initiator-sent h ei = rw h ei

      pub responder-idle : state ≡ Idle → at_responder e m sent got output Idle ≡ after_step r a b c → at_responder e m sent got output state ≡ after_step r a b c
      responder-idle h ei = rw h ei

  module _ (k : List ℕ) (same : Bool) (ek : k ≡ kept e.progress.gotsize got) (es : same ≡ alike m k) where
    module _ (state : State) (opens : state ≡ Open) (r : Stepped) where
      pub initiator_again : same ≡ true → (b : List ℕ) → r ≡ repeated_step e.progress e → b ≡ repeated_output e sent output →
          at_initiator e m sent got output state ≡ after_step r sent got b
      unfolding at_initiator
      initiator_again h b er eb = rw (opens, ← ek, ← es, h, er, eb)

      pub initiator_open : same ≡ false → r ≡ stepped e (Refused 8195) → at_initiator e m sent got output state ≡ after_step r sent got output
      unfolding at_initiator
      initiator_open h er = rw (opens, ← ek, ← es, h, er)

    pub half_again : same ≡ true → (r : Stepped) (b : List ℕ) → r ≡ repeated_step e.progress e → b ≡ repeated_output e sent output →
        at_responder e m sent got output Half ≡ after_step r sent got b
    unfolding at_responder
    half_again h r b er eb = rw (← ek, ← es, h, er, eb)

    module _ (found : ℕ) (ef : found ≡ shape_of m) where
      pub half_opens : same ≡ false → found ≡ 1 → (p : Progress) → p ≡ with_state Open e.progress →
          at_responder e m sent got output Half ≡ after_step (stepped (with_progress p e) Nothing) sent got output
      unfolding at_responder
      half_opens h f p ep = rw (← ek, ← es, h, ← ef, eq-eqb found 1 f, ep)

      pub half_refused : same ≡ false → (found ≡ 1 → ⊥) → (r : Stepped) → r ≡ stepped e (Refused 8195) →
          at_responder e m sent got output Half ≡ after_step r sent got output
      unfolding at_responder
      half_refused h f r er = rw (← ek, ← es, h, ← ef, ne_eqb found 1 f, er)

      module _ (state : State) (opens : state ≡ Open) where
        pub responder-nothing : (same || eqb found 1) ≡ true → at_responder e m sent got output state ≡ after_step (stepped e Nothing) sent got output
        unfolding at_responder
        responder-nothing h = rw (opens, ← ek, ← es, ← ef, h)

        pub responder_open : (same || eqb found 1) ≡ false → (r : Stepped) → r ≡ stepped e (Refused 8195) →
            at_responder e m sent got output state ≡ after_step r sent got output
        unfolding at_responder
        responder_open h r er = rw (opens, ← ek, ← es, ← ef, h, er)

module _ (e : End) (holds : Bool) (m sent got output : List ℕ) (tight : Bool) (et : tight ≡ small sent got output) (r : Stepped) where
  refused-by : (refusal : Refusal) → number refusal ≡ delivery_code e holds m tight → r ≡ stepped e (Refused (number refusal)) →
      delivered e holds m sent got output ≡ after_step r sent got output
  unfolding delivered
  refused-by refusal ec er = rw (← et, ← ec, number-not_zero refusal, er)

  pub deliver_early : (refusal : Refusal) → number refusal ≡ early_code tight holds (is_given_up e.progress.state) 0 →
      r ≡ stepped e (Refused (number refusal)) → delivered e holds m sent got output ≡ after_step r sent got output
  deliver_early refusal eb = refused-by refusal (delivery_early e holds m tight (number refusal) eb (number-refuses refusal))

  module _ (goes : 0 ≡ early_code tight holds (is_given_up e.progress.state) 0) (read : Message) (em : read ≡ message m) where
    whole : (code : ℕ) → code ≡ read_code e.own e.progress.state e.progress.id m read → code ≡ delivery_code e holds m tight
    whole code ec = delivery-read e holds m tight code (sym goes) read em ec

    pub deliver-refused : (refusal : Refusal) → number refusal ≡ read_code e.own e.progress.state e.progress.id m read →
        r ≡ stepped e (Refused (number refusal)) → delivered e holds m sent got output ≡ after_step r sent got output
    deliver-refused refusal ec = refused-by refusal (whole (number refusal) ec)

    module _ (passes : 0 ≡ read_code e.own e.progress.state e.progress.id m read) (begins : Bool) (ei : begins ≡ is_initiator e.own.role) (x y z : List ℕ) where
      pub deliver-initiator : begins ≡ true → at_initiator e m sent got output e.progress.state ≡ after_step r x y z →
          delivered e holds m sent got output ≡ after_step r x y z
      unfolding delivered
      deliver-initiator h ea = rw (← et, ← whole 0 passes, ← ei, h) ea

      pub deliver-responder : begins ≡ false → at_responder e m sent got output e.progress.state ≡ after_step r x y z →
          delivered e holds m sent got output ≡ after_step r x y z
      unfolding delivered
      deliver-responder h ea = rw (← et, ← whole 0 passes, ← ei, h) ea
