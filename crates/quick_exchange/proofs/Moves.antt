-- What a call of an end can do, as a relation for each end, and the calls that pass their checks as equations.
use Prim.Native.Nat.{ℕ, min, ◌<◌, ◌≤◌}
use mathlib.Core.Path.{◌≡◌, refl, sym, ap, ◌∙◌}
use mathlib.Core.Logic.{inl, inr}
use mathlib.Core.List.{List, [], ◌∷◌}
use mathlib.Core.Bool.{Bool, true, false, not, ◌||◌, ◌&&◌}
use native.Mathlib.Omega.{arith}
use lib.ListN.{length, take}
use lib.Seq.{length-take-le}
use lib.Dec.{ltb, eqb}
use borrow.Author.Tests.{eqb-true, eqb-false, eq-eqb, ltb-false, le-ltb, not-false}
use Rattle.wire_write.specs.Put.{paste}
use Rattle.wire_read.specs.Tests.{if◌then◌otherwise◌}
use Rattle.wire_read.specs.Answer.{Answer, refused}
use Rattle.wire_read.proofs.Tests.{never, clash, both, neither, by_test, passed}
use Rattle.wire_write.proofs.Laws.{paste_inside}
use Rattle.identity.specs.Identity.{identity_code}
use Rattle.sa_sets.specs.Sets.{set_numbered}
use Rattle.policy_choice.specs.Choice.{body_at, choose_from}
use Rattle.policy_choice.specs.Choice.{Choice}
use Rattle.policy_choice.specs.Choice as choices
use Rattle.quick_write.specs.Messages.{book_of, lines, message_one}
use Rattle.message_chain.specs.Message.{message}
use Rattle.quick_end.specs.Fresh.{is_idle, is_initiator, is_given_up}
use Rattle.quick_shape.specs.Shapes.{is_longer, alike, shape_of}
use Rattle.quick_check.specs.Checks.{read_code}
use Rattle.quick_taken.specs.Taken.{taken_code}
use Rattle.quick_step.specs.Steps.{After, small, kept, refusing, nothing, repeating, sending, with_state, step_answer}
use Rattle.quick_tick.specs.Tick.{is_open, tick_code, one_more, ticked}
use Rattle.quick_begin.specs.Begin.{identities_wrong, begin_code, begun}
use Rattle.quick_deliver.specs.Deliver.{delivery_code, opened, at_initiator, halfway, after_choice, at_responder, delivered}
use Rattle.quick_end.specs.declared.Role.{Role}
use Rattle.quick_end.specs.declared.Role.TheVariants.{Initiator, Responder}
use Rattle.quick_end.specs.declared.State.{State}
use Rattle.quick_end.specs.declared.State.TheVariants.{Idle, Sent, Half, Open, GivenUp}
use Rattle.quick_end.specs.declared.Own.{Own}
use Rattle.quick_step.specs.Steps.{StepAnswer}
use Rattle.quick_step.specs.Steps.{Send, Nothing, Refused}
use Rattle.quick_exchange.proofs.MessageShapes.{Identities}
use Rattle.quick_exchange.specs.Exchange.{Party, Call, begin, deliver, tick, called, left, Heard, Allowed, state_of, FullSize, Chooses}

-- ---- a refusal, by the paper's number

pub refused-is : (x : StepAnswer) (number : ℕ) → step_answer x ≡ refused number → x ≡ Refused number
unfolding step_answer
refused-is (Send size) number e = absurd (omega (arith, ap (λ (a : Answer). length a.values) e))
refused-is Nothing number e = absurd (omega (arith, ap (λ (a : Answer). length a.values) e))
refused-is (Refused n) number e = ap (λ (a : Answer). Refused a.number) e

-- ---- states

-- a message was sent and no answer has come
abbrev pub waits : State → Bool
waits Idle = false
waits Sent = true
waits Half = true
waits Open = false
waits GivenUp = false

-- an initiator that has begun and is not open
abbrev pub asking : State → Bool
asking Idle = false
asking Sent = true
asking Half = false
asking Open = false
asking GivenUp = true

-- a responder that has answered and is not open
abbrev pub answering : State → Bool
answering Idle = false
answering Sent = false
answering Half = true
answering Open = false
answering GivenUp = true

-- a responder that has answered
abbrev pub past : State → Bool
past Idle = false
past Sent = false
past Half = true
past Open = true
past GivenUp = true

pub answering_past : (s : State) → answering s ≡ true → past s ≡ true
answering_past Idle e = e
answering_past Sent e = e
answering_past Half e = refl
answering_past Open e = refl
answering_past GivenUp e = refl

idle-is : (s : State) → is_idle s ≡ true → s ≡ Idle
unfolding is_idle
idle-is Idle h = refl
idle-is Sent h = clash h
idle-is Half h = clash h
idle-is Open h = clash h
idle-is GivenUp h = clash h

pub first-is : (r : Role) → r ≡ Initiator → is_initiator r ≡ true
unfolding is_initiator
first-is r e = rw e

pub second_is : (r : Role) → r ≡ Responder → is_initiator r ≡ false
unfolding is_initiator
second_is r e = rw e

-- ---- what a call is lent

roomy : (p : Party) (output : List ℕ) → small p.sent p.got output ≡ false → FullSize p output
unfolding small
roomy p output h =
    let outer = neither (ltb (length p.sent) 2048 || ltb (length p.got) 2048) (ltb (length output) 2048) h in
    let inner = neither (ltb (length p.sent) 2048) (ltb (length p.got) 2048) outer.0 in
    record { in_sent = ltb-false _ _ inner.0; in_got = ltb-false _ _ inner.1; in_output = ltb-false _ _ outer.1 }

pub not-small : (p : Party) (output : List ℕ) → FullSize p output → small p.sent p.got output ≡ false
unfolding small
not-small p output r = rw (le-ltb (length p.sent) 2048 r.in_sent, le-ltb (length p.got) 2048 r.in_got, le-ltb (length output) 2048 r.in_output)

-- ---- begin

-- what an initiator asks with: a message ID of 32 bits, not 0, no or two identities, and a book that has quick lines
pub record Ask (one : Own) : Type 0 where
  pub id : ℕ
  pub first : List ℕ
  pub second : List ℕ
  pub some : 0 < lines (book_of one)
  pub some_id : 0 < id
  pub small-id : id < 4294967296
  pub identities : Identities first second

abbrev pub offered : {one : Own} → Ask one → List ℕ
offered {one} a = message_one one a.id a.first a.second

abbrev pub begin-with : (p : Party) (id : ℕ) (first second output : List ℕ) → After
begin-with p id first second output =
    sending p.end p.sent p.got output (message_one p.end.own id first second)
    (record {
      state = Sent;
      sends = 1;
      id = id;
      sentsize = length (message_one p.end.own id first second);
      gotsize = p.end.progress.gotsize;
      agreed = p.end.progress.agreed;
    })
    p.got

abbrev pub begins-with : (p : Party) → Ask p.end.own → List ℕ → After
begins-with p a output = begin-with p a.id a.first a.second output

nil_of : (s : List ℕ) → length s ≡ 0 → s ≡ []
nil_of [] h = refl
nil_of (x ∷ s) h = absurd (omega arith)

pub identities_right : (first second : List ℕ) → identities_wrong first second ≡ false → Identities first second
unfolding identities_wrong
identities_right first second h =
    by_test (eqb (length first) 0 && eqb (length second) 0)
    (λ e. let z = both (eqb (length first) 0) (eqb (length second) 0) e in inl (nil_of first (eqb-true _ _ z.0), nil_of second (eqb-true _ _ z.1)))
    (λ e.
    let k : (eqb (identity_code 32 first) 0 && eqb (identity_code 32 second) 0) ≡ true =
    rw e at (not-false (eqb (length first) 0 && eqb (length second) 0 || eqb (identity_code 32 first) 0 && eqb (identity_code 32 second) 0) h) in
    let z = both (eqb (identity_code 32 first) 0) (eqb (identity_code 32 second) 0) k in inr (eqb-true _ _ z.0, eqb-true _ _ z.1))

-- a begin that passes its checks
pub record Begins (p : Party) (id : ℕ) (first second output : List ℕ) : Type 0 where
  pub room : FullSize p output
  pub is-first : is_initiator p.end.own.role ≡ true
  pub is-idle : state_of p ≡ Idle
  pub some_id : 0 < id
  pub identities : Identities first second
  pub some : 0 < lines (book_of p.end.own)

begin_passed : (p : Party) (id : ℕ) (first second output : List ℕ) → begin_code p.end id first second (small p.sent p.got output) ≡ 0 →
    Begins p id first second output
unfolding begin_code
begin_passed p id first second output h =
    let room = passed (small p.sent p.got output) 8192 _ (λ z. omega arith) h in
    let up = passed (is_given_up (state_of p)) 8196 _ (λ z. omega arith) room.1 in
    let first-idle = passed (not (is_initiator p.end.own.role && is_idle (state_of p))) 8195 _ (λ z. omega arith) up.1 in
    let ids = passed (eqb id 0) 9 _ (λ z. omega arith) first-idle.1 in
    let them = passed (identities_wrong first second) 18 _ (λ z. omega arith) ids.1 in
    let few = passed (eqb (lines (book_of p.end.own)) 0) 14 0 (λ z. omega arith) them.1 in
    let is = both (is_initiator p.end.own.role) (is_idle (state_of p)) (not-false _ first-idle.0) in
    record {
      room = roomy p output room.0;
      is-first = is.0;
      is-idle = idle-is (state_of p) is.1;
      some_id = omega (arith, eqb-false id 0 ids.0);
      identities = identities_right first second them.0;
      some = omega (arith, eqb-false (lines (book_of p.end.own)) 0 few.0);
    }

-- what it asks with
abbrev pub ask_of : {p : Party} {id : ℕ} {first second output : List ℕ} → Begins p id first second output → id < 4294967296 → Ask p.end.own
ask_of {p} {id} {first} {second} b narrow = record {
  id = id;
  first = first;
  second = second;
  some = b.some;
  some_id = b.some_id;
  small-id = narrow;
  identities = b.identities;
}

-- ---- what is written

-- a message sent first: it stands in front of the output, and it is kept
pub at_front : (buffer m : List ℕ) → length m ≤ 2048 → 2048 ≤ length buffer → take (length m) (paste buffer 0 m) ≡ m
at_front buffer m short room = paste_inside buffer 0 m (omega arith)

pub keeps_it : (buffer m : List ℕ) → length m ≤ 2048 → 2048 ≤ length buffer → kept (length m) (paste buffer 0 m) ≡ m
unfolding kept
keeps_it buffer m short room =
    let e : min (length m) 2048 ≡ length m = omega arith in
    rw e (at_front buffer m short room)

-- a repeat: what is kept
pub in_front_again : (sent output : List ℕ) (size : ℕ) → 2048 ≤ length sent → 2048 ≤ length output →
    take (min size 2048) (paste output 0 (kept size sent)) ≡ kept size sent
unfolding kept
in_front_again sent output size a b =
    let e : length (take (min size 2048) sent) ≡ min size 2048 = length-take-le (min size 2048) sent (omega arith) in
    ap (λ (n : ℕ). take n (paste output 0 (take (min size 2048) sent))) (sym e) ∙ at_front output (take (min size 2048) sent) (omega (arith, e)) b

-- ---- the answer to message m, which the book suits

abbrev pub answers_with : (p : Party) (m output : List ℕ) → Chooses p.end.own m → After
answers_with p m output s = halfway p.end m p.sent p.got output s.number s.transforms (set_numbered s.number (body_at 1 m))

-- ---- every call at an end p, where `other` is what the other end wrote

module _ (p : Party) (other : List (List ℕ)) where
  -- a call of the initiator
  pub data MoveI : After → Type 0 where
    refuses : (output : List ℕ) (number : ℕ) → MoveI (refusing p.end p.sent p.got output number)
    rests : (output : List ℕ) → MoveI (nothing p.end p.sent p.got output p.end.progress)
    begins : (a : Ask p.end.own) (output : List ℕ) → FullSize p output → state_of p ≡ Idle → MoveI (begins-with p a output)
    opens : (m output : List ℕ) → FullSize p output → state_of p ≡ Sent → Heard m other → MoveI (opened p.end m p.sent p.got output)
    repeats : (output : List ℕ) → FullSize p output → state_of p ≡ Open → MoveI (repeating p.end p.sent p.got output p.end.progress)
    resends : (output : List ℕ) → FullSize p output → waits (state_of p) ≡ true →
        MoveI (repeating p.end p.sent p.got output (one_more p.end.progress))
    gives_up : (output : List ℕ) → waits (state_of p) ≡ true → MoveI (nothing p.end p.sent p.got output (with_state GivenUp p.end.progress))

  -- a call of the responder
  pub data MoveR : After → Type 0 where
    refuses : (output : List ℕ) (number : ℕ) → MoveR (refusing p.end p.sent p.got output number)
    rests : (output : List ℕ) → MoveR (nothing p.end p.sent p.got output p.end.progress)
    answers : (m output : List ℕ) (s : Chooses p.end.own m) → FullSize p output → state_of p ≡ Idle → Heard m other → MoveR (answers_with p m output s)
    repeats : (output : List ℕ) → FullSize p output → state_of p ≡ Half → MoveR (repeating p.end p.sent p.got output p.end.progress)
    opens : (m output : List ℕ) → state_of p ≡ Half → Heard m other → alike m (kept p.end.progress.gotsize p.got) ≡ false →
        MoveR (nothing p.end p.sent p.got output (with_state Open p.end.progress))
    resends : (output : List ℕ) → FullSize p output → waits (state_of p) ≡ true →
        MoveR (repeating p.end p.sent p.got output (one_more p.end.progress))
    gives_up : (output : List ℕ) → waits (state_of p) ≡ true → MoveR (nothing p.end p.sent p.got output (with_state GivenUp p.end.progress))

-- ---- a call is refused, or passes its checks

waits_there : (s : State) → is_given_up s ≡ false → is_idle s ≡ false → is_open s ≡ false → waits s ≡ true
unfolding is_given_up is_idle is_open
waits_there Idle a b c = clash (sym b)
waits_there Sent a b c = refl
waits_there Half a b c = refl
waits_there Open a b c = clash (sym c)
waits_there GivenUp a b c = clash (sym a)

module _ (p : Party) (output : List ℕ) (A : After → Type 0) (refused : (number : ℕ) → A (refusing p.end p.sent p.got output number)) where
  pub by-begin : (id : ℕ) (first second : List ℕ) → (Begins p id first second output → A (begin-with p id first second output)) →
      A (begun p.end id first second p.sent p.got output)
  unfolding begun
  by-begin id first second passes =
      by_test (eqb (begin_code p.end id first second (small p.sent p.got output)) 0)
      (λ e. rw e (passes (begin_passed p id first second output (eqb-true _ _ e))))
      (λ e. rw e (refused _))

  pub by-tick : (is_open (state_of p) ≡ true → A (nothing p.end p.sent p.got output p.end.progress)) →
      (FullSize p output → waits (state_of p) ≡ true → A (repeating p.end p.sent p.got output (one_more p.end.progress))) →
      (waits (state_of p) ≡ true → A (nothing p.end p.sent p.got output (with_state GivenUp p.end.progress))) →
      A (ticked p.end p.sent p.got output)
  unfolding ticked tick_code
  by-tick still again over =
      by_test (not (eqb (tick_code (state_of p) (small p.sent p.got output)) 0)) (λ e. rw e (refused _))
      (λ e.
      let room = passed (small p.sent p.got output) 8192 _ (λ z. omega arith) (eqb-true _ _ (not-false _ e)) in
      let up = passed (is_given_up (state_of p)) 8196 _ (λ z. omega arith) room.1 in
      let idle = passed (is_idle (state_of p)) 8195 0 (λ z. omega arith) up.1 in
      by_test (is_open (state_of p)) (λ f. rw (e, f) (still f))
      (λ f.
      let w = waits_there (state_of p) up.0 idle.0 f in
      by_test (ltb p.end.progress.sends 4) (λ g. rw (e, f, g) (again (roomy p output room.0) w)) (λ g. rw (e, f, g) (over w))))

  pub by-delivery : (m : List ℕ) (holds : Bool) →
      (FullSize p output → holds ≡ true →
      A (if is_initiator p.end.own.role then at_initiator p.end m p.sent p.got output (state_of p)
      otherwise at_responder p.end m p.sent p.got output (state_of p))) →
      A (delivered p.end holds m p.sent p.got output)
  unfolding delivered delivery_code
  by-delivery m holds taken =
      by_test (not (eqb (delivery_code p.end holds m (small p.sent p.got output)) 0)) (λ e. rw e (refused _))
      (λ e.
      let room = passed (small p.sent p.got output) 8192 _ (λ z. omega arith) (eqb-true _ _ (not-false _ e)) in
      let hash = passed (not holds) 23 _ (λ z. omega arith) room.1 in
      rw e (taken (roomy p output room.0) (not-false holds hash.0)))

module _ (p : Party) (other : List (List ℕ)) where
  -- ---- at the initiator

  at_first_lem : (m output : List ℕ) → FullSize p output → Heard m other → (s : State) → state_of p ≡ s →
      MoveI p other (at_initiator p.end m p.sent p.got output s)
  unfolding at_initiator
  at_first_lem m output room h Sent q =
      by_test (not (is_longer (shape_of m))) (λ e. rw e (MoveI.refuses output _))
      (λ e.
      by_test (not (eqb (taken_code (shape_of m) (kept p.end.progress.sentsize p.sent) m) 0)) (λ f. rw (e, f) (MoveI.refuses output _))
      (λ f. rw (e, f) (MoveI.opens m output room q h)))
  at_first_lem m output room h Open q =
      by_test (alike m (kept p.end.progress.gotsize p.got)) (λ e. rw e (MoveI.repeats output room q)) (λ e. rw e (MoveI.refuses output _))
  at_first_lem m output room h Idle q = MoveI.refuses output _
  at_first_lem m output room h Half q = MoveI.refuses output _
  at_first_lem m output room h GivenUp q = MoveI.refuses output _

  -- every call of the initiator is one of these
  pub moves_first : p.end.own.role ≡ Initiator → (c : Call) → Allowed other c → MoveI p other (called p c)
  unfolding called
  moves_first role (begin id first second output) ok =
      by-begin p output (MoveI p other) (MoveI.refuses output) id first second (λ b. MoveI.begins (ask_of b ok) output b.room b.is-idle)
  moves_first role (deliver m holds output) ok =
      by-delivery p output (MoveI p other) (MoveI.refuses output) m holds
      (λ room h. rw (first-is p.end.own.role role) (at_first_lem m output room (ok h) (state_of p) refl))
  moves_first role (tick output) ok =
      by-tick p output (MoveI p other) (MoveI.refuses output) (λ q. MoveI.rests output) (MoveI.resends output) (MoveI.gives_up output)

  -- ---- at the responder

  answers_it : (m output : List ℕ) → FullSize p output → state_of p ≡ Idle → Heard m other → (c : Choice) →
      choose_from 32 (book_of p.end.own) (body_at 1 m) ≡ c →
      MoveR p other (after_choice p.end m p.sent p.got output c)
  unfolding after_choice
  answers_it m output room q h (choices.Refused number) e = MoveR.refuses output number
  answers_it m output room q h (choices.Chosen number line transforms) e =
      MoveR.answers m output (record { number = number; line = line; transforms = transforms; chosen = e }) room q h

  at_second_lem : (m output : List ℕ) → FullSize p output → Heard m other → (s : State) → state_of p ≡ s →
      MoveR p other (at_responder p.end m p.sent p.got output s)
  unfolding at_responder
  at_second_lem m output room h Idle q =
      by_test (not (is_longer (shape_of m))) (λ e. rw e (MoveR.refuses output _))
      (λ e. rw e (answers_it m output room q h (choose_from 32 (book_of p.end.own) (body_at 1 m)) refl))
  at_second_lem m output room h Half q =
      by_test (alike m (kept p.end.progress.gotsize p.got)) (λ e. rw e (MoveR.repeats output room q))
      (λ e. by_test (eqb (shape_of m) 1) (λ f. rw (e, f) (MoveR.opens m output q h e)) (λ f. rw (e, f) (MoveR.refuses output _)))
  at_second_lem m output room h Open q =
      by_test (alike m (kept p.end.progress.gotsize p.got) || eqb (shape_of m) 1) (λ e. rw e (MoveR.rests output)) (λ e. rw e (MoveR.refuses output _))
  at_second_lem m output room h Sent q = MoveR.refuses output _
  at_second_lem m output room h GivenUp q = MoveR.refuses output _

  -- every call of the responder is one of these
  pub moves_second : p.end.own.role ≡ Responder → (c : Call) → Allowed other c → MoveR p other (called p c)
  unfolding called
  moves_second role (begin id first second output) ok =
      by-begin p output (MoveR p other) (MoveR.refuses output) id first second (λ b. clash (sym (second_is p.end.own.role role) ∙ b.is-first))
  moves_second role (deliver m holds output) ok =
      by-delivery p output (MoveR p other) (MoveR.refuses output) m holds
      (λ room h. rw (second_is p.end.own.role role) (at_second_lem m output room (ok h) (state_of p) refl))
  moves_second role (tick output) ok =
      by-tick p output (MoveR p other) (MoveR.refuses output) (λ q. MoveR.rests output) (MoveR.resends output) (MoveR.gives_up output)

-- no call changes what an end was given
pub own_first : {p : Party} {other : List (List ℕ)} {x : After} → MoveI p other x → (left x).end.own ≡ p.end.own
unfolding opened
own_first (MoveI.refuses output number) = refl
own_first (MoveI.rests output) = refl
own_first (MoveI.begins a output room q) = refl
own_first (MoveI.opens m output room q h) = refl
own_first (MoveI.repeats output room q) = refl
own_first (MoveI.resends output room q) = refl
own_first (MoveI.gives_up output q) = refl

pub own-second : {p : Party} {other : List (List ℕ)} {x : After} → MoveR p other x → (left x).end.own ≡ p.end.own
unfolding halfway
own-second (MoveR.refuses output number) = refl
own-second (MoveR.rests output) = refl
own-second (MoveR.answers m output s room q h) = refl
own-second (MoveR.repeats output room q) = refl
own-second (MoveR.opens m output q h d) = refl
own-second (MoveR.resends output room q) = refl
own-second (MoveR.gives_up output q) = refl

-- ---- an open end

module _ (p : Party) (q : state_of p ≡ Open) where
  open_first : (m output : List ℕ) → left (at_initiator p.end m p.sent p.got output (state_of p)) ≡ p
  unfolding at_initiator
  open_first m output = by_test (alike m (kept p.end.progress.gotsize p.got)) (λ f. rw (q, f)) (λ f. rw (q, f))

  open_second : (m output : List ℕ) → left (at_responder p.end m p.sent p.got output (state_of p)) ≡ p
  unfolding at_responder
  open_second m output = by_test (alike m (kept p.end.progress.gotsize p.got) || eqb (shape_of m) 1) (λ f. rw (q, f)) (λ f. rw (q, f))

  -- it is left as it was by every call, whatever the caller or the network does
  pub open_rests : (c : Call) → left (called p c) ≡ p
  unfolding called
  open_rests (begin id first second output) = by-begin p output (λ x. left x ≡ p) (λ number. refl) id first second (λ b. let idle = b.is-idle in never (cc))
  open_rests (deliver m holds output) =
      by-delivery p output (λ x. left x ≡ p) (λ number. refl) m holds
      (λ room h. by_test (is_initiator p.end.own.role) (λ f. rw f (open_first m output)) (λ f. rw f (open_second m output)))
  open_rests (tick output) = by-tick p output (λ x. left x ≡ p) (λ number. refl) (λ o. refl) (λ room w. clash (cc)) (λ w. clash (cc))

-- ---- a begin that isn't refused

module _ (p : Party) (id : ℕ) (first second output : List ℕ) where
  pub begin_open : (narrow : id < 4294967296) → ((number : ℕ) → step_answer (called p (begin id first second output)).step.answer ≡ refused number → ⊥) →
      (b : Begins p id first second output) × (called p (begin id first second output) ≡ begins-with p (ask_of b narrow) output)
  unfolding called step_answer
  begin_open narrow free =
      by-begin p output
      (λ x. ((number : ℕ) → step_answer x.step.answer ≡ refused number → ⊥) →
      (b : Begins p id first second output) × (x ≡ begins-with p (ask_of b narrow) output))
      (λ number shut. absurd (shut number refl))
      id first second
      (λ b open-to. (b, refl))
      free

  -- at the responder it is refused
  pub begin_shut : p.end.own.role ≡ Responder → (number : ℕ) × (step_answer (called p (begin id first second output)).step.answer ≡ refused number)
  unfolding called step_answer
  begin_shut role =
      by-begin p output (λ x. (number : ℕ) × (step_answer x.step.answer ≡ refused number)) (λ number. (number, refl)) id first second
      (λ b. clash (sym (second_is p.end.own.role role) ∙ b.is-first))

-- ---- a delivery that passes its checks, as an equation

module _ (p : Party) (m output : List ℕ) (room : FullSize p output) (up : is_given_up (state_of p) ≡ false)
    (reads : read_code p.end.own (state_of p) p.end.progress.id m (message m) ≡ 0) where
  code_passes : delivery_code p.end true m (small p.sent p.got output) ≡ 0
  unfolding delivery_code
  code_passes = rw (not-small p output room, up) reads

  pub taken-first : p.end.own.role ≡ Initiator → called p (deliver m true output) ≡ at_initiator p.end m p.sent p.got output (state_of p)
  unfolding called delivered
  taken-first role = rw (eq-eqb (delivery_code p.end true m (small p.sent p.got output)) 0 code_passes, first-is p.end.own.role role)

  pub taken-second : p.end.own.role ≡ Responder → called p (deliver m true output) ≡ at_responder p.end m p.sent p.got output (state_of p)
  unfolding called delivered
  taken-second role = rw (eq-eqb (delivery_code p.end true m (small p.sent p.got output)) 0 code_passes, second_is p.end.own.role role)
