-- The exchange of two ends: each message that arrives has the next one written.
use Prim.Native.Nat.{ℕ, ◌<◌, ◌≤◌}
use mathlib.Core.Path.{◌≡◌, refl, sym, ap, subst, ◌∙◌}
use mathlib.Core.Logic.{◌⊎◌, inl, inr, ⊎_elim}
use mathlib.Core.List.{List, [], ◌∷◌}
use mathlib.Core.Bool.{true, false, ◌&&◌, and-false}
use native.Mathlib.Omega.{arith}
use lib.ListN.{length}
use lib.Dec.{eqb}
use borrow.Author.Tests.{eq-eqb}
use Rattle.wire_read.specs.Wire.{number_at}
use Rattle.wire_read.specs.Answer as answers
use Rattle.wire_write.specs.Put.{paste}
use Rattle.wire_read.proofs.Tests.{never, clash, both, by_test}
use Rattle.sa_sets.specs.Sets.{set_numbered}
use Rattle.policy_choice.specs.Choice.{body_at, choose_from}
use Rattle.policy_choice.specs.Choice.{Chosen}
use Rattle.message_chain.specs.Message.{message}
use Rattle.message_chain.specs.Message.{Read}
use Rattle.quick_write.specs.Messages.{book_of, lines, offer_of, message_one, message_two, message_three}
use Rattle.quick_end.specs.Fresh.{is_idle, is_initiator, is_given_up}
use Rattle.quick_shape.specs.Shapes.{is_longer, alike, shape_of}
use Rattle.quick_check.specs.Checks.{read_code}
use Rattle.quick_taken.specs.Taken.{taken_code}
use Rattle.quick_step.specs.Steps.{After, nothing, repeating, with_state, step_answer}
use Rattle.quick_tick.specs.Tick.{one_more}
use Rattle.quick_deliver.specs.Deliver.{opened, at_initiator, halfway, after_choice, at_responder}
use Rattle.quick_shape.proofs.Laws.{alike_same, alike_sym, alike_trans, alike-says}
use Rattle.quick_end.specs.declared.State.{State}
use Rattle.quick_end.specs.declared.State.TheVariants.{Idle, Sent, Half, Open, GivenUp}
use Rattle.quick_end.specs.declared.Own.{Own}
use Rattle.quick_end.specs.declared.Progress.{Progress}
use Rattle.quick_step.specs.Steps.{StepAnswer}
use Rattle.quick_step.specs.Steps.{Send, Nothing, Refused}
use Rattle.quick_exchange.proofs.MessageShapes.{payloads_with}
use Rattle.quick_exchange.proofs.MessageLaws.{longer-passes, third_passes}
use Rattle.quick_exchange.specs.Exchange.{Party, deliver, called, left, said, logged, World, at_first, at_second, step, Heard, here, there, Fair, Run, rest, goes, Fresh, state_of, sent_of, got_of, FullSize, Only, one, more, Then, turn, next, Beginning, begin_call, after_begin, Chooses, one_of, two_of, three_of, Arrives, delivery}
use Rattle.quick_exchange.proofs.Moves.{asking, answering, past, answering_past, second_is, Ask, offered, answers_with, keeps_it, MoveR, moves_first, moves_second, own_first, own-second, open_rests, Begins, ask_of, begins-with, begin_open, taken-first, taken-second}
use Rattle.quick_exchange.proofs.Safety.{only_heard, then_heard, none-heard, Keeps, Pair, reply_of, Replied, Stage, new, asked, half, done, Inv, again, sends_it, one-read, one-short, three-read, three-short, two-read, two-takes, two-short, past_cases, always, silent}

-- ---- states

asking_sent : (s : State) → asking s ≡ true → (s ≡ GivenUp → ⊥) → s ≡ Sent
asking_sent Idle e up = clash e
asking_sent Sent e up = refl
asking_sent Half e up = clash e
asking_sent Open e up = clash e
asking_sent GivenUp e up = absurd (up refl)

past_up : (s : State) → past s ≡ true → (s ≡ GivenUp → ⊥) → (s ≡ Half) ⊎ (s ≡ Open)
past_up s e up = ⊎_elim inr (⊎_elim inl (λ q. absurd (up q))) (past_cases s e)

answering_half : (s : State) → answering s ≡ true → (s ≡ GivenUp → ⊥) → s ≡ Half
answering_half s e up = ⊎_elim (λ q. q) (λ q. clash (cc)) (past_up s (answering_past s e) up)

-- ---- the first message that was written

pub data Oldest (m : List ℕ) : List (List ℕ) → Type 0 where
  alone : Oldest m (m ∷ [])
  older : {n : List ℕ} {log : List (List ℕ)} → Oldest m log → Oldest m (n ∷ log)

pub oldest_heard : (k : List ℕ) {m : List ℕ} {log : List (List ℕ)} → Oldest m log → alike k m ≡ true → Heard k log
oldest_heard k alone e = here e
oldest_heard k (older o) e = there (oldest_heard k o e)

none_oldest : {n : List ℕ} {log : List (List ℕ)} → log ≡ [] → Oldest n log → false ≡ true
none_oldest q alone = cc
none_oldest q (older o) = cc

only_oldest : {m n : List ℕ} {log : List (List ℕ)} → Only m log → Oldest n log → m ≡ n
only_oldest one alone = refl
only_oldest one (older o) = clash (none_oldest refl o)
only_oldest (more o) alone = refl
only_oldest (more o) (older p) = only_oldest o p

then_oldest : {m k n : List ℕ} {log : List (List ℕ)} → Then m k log → Oldest n log → m ≡ n
then_oldest {m = m} {k = k} (turn o) alone = elim o [ ]
then_oldest {m = m} {k = k} (next o) alone = elim o [ ]
then_oldest (turn o) (older p) = only_oldest o p
then_oldest (next o) (older p) = then_oldest o p

pub only_hears : (k : List ℕ) {m : List ℕ} {log : List (List ℕ)} → Only m log → alike k m ≡ true → Heard k log
only_hears k one e = here e
only_hears k (more o) e = here e

pub then_hears : (k : List ℕ) {m n : List ℕ} {log : List (List ℕ)} → Then m n log → alike k n ≡ true → Heard k log
then_hears k (turn o) e = here e
then_hears k (next o) e = here e

-- what was written first stays so
oldest_said : {m : List ℕ} {log : List (List ℕ)} (answer : StepAnswer) (output : List ℕ) → Oldest m log → Oldest m (said answer output log)
oldest_said (Send size) output o = older o
oldest_said Nothing output o = o
oldest_said (Refused number) output o = o

pub oldest_run : {m : List ℕ} {w u : World} → Run w u → Oldest m w.from_initiator → Oldest m u.from_initiator
oldest_run rest o = o
oldest_run (goes {u} k (at_first c) fair) o = oldest_said (called u.initiator c).step.answer (called u.initiator c).output (oldest_run k o)
oldest_run (goes k (at_second c) fair) o = oldest_run k o

pub runs : {w u z : World} → Run w u → Run u z → Run w z
runs k rest = k
runs k (goes l ev fair) = goes (runs k l) ev fair

-- an end that is open is left as it is, whatever happens
pub open_run : {u z : World} → Run u z →
    (state_of u.initiator ≡ Open → z.initiator ≡ u.initiator) × (state_of u.responder ≡ Open → z.responder ≡ u.responder)
open_run rest = (λ q. refl, λ q. refl)
open_run (goes {u = z} l (at_first c) fair) =
    let h = open_run l in
    (λ q. open_rests z.initiator (ap state_of (h.0 q) ∙ q) c ∙ h.0 q, h.1)
open_run (goes {u = z} l (at_second c) fair) =
    let h = open_run l in
    (h.0, λ q. open_rests z.responder (ap state_of (h.1 q) ∙ q) c ∙ h.1 q)

longer-is : (first : List ℕ) → is_longer (payloads_with first) ≡ true
unfolding is_longer payloads_with
longer-is first = by_test (eqb (length first) 0) (λ e. rw e) (λ e. rw e)

-- ---- what an end does at a message that passes, as an equation

module _ (p : Party) (m output : List ℕ) where
  at-idle : state_of p ≡ Idle → is_longer (shape_of m) ≡ true → (s : Chooses p.end.own m) →
      at_responder p.end m p.sent p.got output (state_of p) ≡ answers_with p m output s
  unfolding at_responder after_choice
  at-idle q long s = rw (q, long, s.chosen)

  at_half_again : state_of p ≡ Half → alike m (got_of p) ≡ true →
      at_responder p.end m p.sent p.got output (state_of p) ≡ repeating p.end p.sent p.got output p.end.progress
  unfolding at_responder
  at_half_again q same = rw (q, same)

  at_half_opens : state_of p ≡ Half → alike m (got_of p) ≡ false → shape_of m ≡ 1 →
      at_responder p.end m p.sent p.got output (state_of p) ≡ nothing p.end p.sent p.got output (with_state Open p.end.progress)
  unfolding at_responder
  at_half_opens q other third = rw (q, other, eq-eqb (shape_of m) 1 third)

  at-sent : state_of p ≡ Sent → is_longer (shape_of m) ≡ true → taken_code (shape_of m) (sent_of p) m ≡ 0 →
      at_initiator p.end m p.sent p.got output (state_of p) ≡ opened p.end m p.sent p.got output
  unfolding at_initiator
  at-sent q long taken = rw (q, long, eq-eqb (taken_code (shape_of m) (sent_of p) m) 0 taken)

  at_open_again : state_of p ≡ Open → alike m (got_of p) ≡ true →
      at_initiator p.end m p.sent p.got output (state_of p) ≡ repeating p.end p.sent p.got output p.end.progress
  unfolding at_initiator
  at_open_again q same = rw (q, same)

-- what a good message does at the responder: it has sent its reply, or both are open
abbrev pub GoodSecond : Party → List (List ℕ) → After → Type 0
GoodSecond i fr x = ((state_of (left x) ≡ Half) × (logged x fr ≡ sent_of (left x) ∷ fr)) ⊎ ((state_of (left x) ≡ Open) × (state_of i ≡ Open))

-- what a good message does at the initiator: it is open, and has sent message 3
pub record GoodFirst (three : List ℕ) (fi : List (List ℕ)) (x : After) : Type 0 where
  pub is_open_lem : state_of (left x) ≡ Open
  pub writes : logged x fi ≡ three ∷ fi

module _ (i r : Party) (pair : Pair i.end.own r.end.own) (a : Ask i.end.own) where
  -- the offer is the same whatever the hash bytes
  same-offer : (m : List ℕ) → alike m (offered a) ≡ true → body_at 1 m ≡ body_at 1 (offered a)
  same-offer m s = (one-read pair.fit_one a m s).sa ∙ sym (one-read pair.fit_one a (offered a) (alike_same (offered a))).sa

  abbrev chooses_too : (m : List ℕ) → alike m (offered a) ≡ true → Chooses r.end.own (offered a) → Chooses r.end.own m
  chooses_too m s c = record {
    number = c.number;
    line = c.line;
    transforms = c.transforms;
    chosen = ap (λ (b : List ℕ). choose_from 32 (book_of r.end.own) b) (same-offer m s) ∙ c.chosen;
  }

  awake : (is_initiator r.end.own.role && is_idle (state_of r)) ≡ false
  awake = rw (second_is r.end.own.role pair.is-second)

  one_passes : (m : List ℕ) → alike m (offered a) ≡ true → (is_idle (state_of r) ≡ true) ⊎ (r.end.progress.id ≡ a.id) →
      read_code r.end.own (state_of r) r.end.progress.id m (message m) ≡ 0
  one_passes m s at =
      longer-passes i.end.own r.end.own a.id (offer_of i.end.own) a.first a.second m (one-read pair.fit_one a m s) (sym pair.icookies)
      (sym pair.rcookies) (state_of r)
      r.end.progress.id
      awake
      at

  three-passes : (m : List ℕ) → alike m (message_three i.end.own a.id) ≡ true → r.end.progress.id ≡ a.id →
      read_code r.end.own (state_of r) r.end.progress.id m (message m) ≡ 0
  three-passes m s at =
      third_passes i.end.own r.end.own a.id m (three-read pair.fit_one a m s) (sym pair.icookies) (sym pair.rcookies) (state_of r)
      r.end.progress.id awake
      (inr at)

  -- message 3 is shorter than message 1
  not_alike : (m g : List ℕ) → alike m (message_three i.end.own a.id) ≡ true → alike g (offered a) ≡ true → alike m g ≡ false
  not_alike m g s from =
      by_test (alike m g)
      (λ e.
      let same = (alike-says m g e).as_long in
      let short = (three-read pair.fit_one a m s).long in
      let long = (one-read pair.fit_one a g from).long in
      absurd (omega arith))
      (λ e. e)

  -- two offers that are the same have the same message ID
  same_id : (b : Ask i.end.own) → offered a ≡ offered b → b.id ≡ a.id
  same_id b e =
      sym (one-read pair.fit_one b (offered b) (alike_same (offered b))).framed.its_id
      ∙ ap (λ (n : List ℕ). number_at 4 n 20) (sym e) ∙ (one-read pair.fit_one a (offered a) (alike_same (offered a))).framed.its_id

  -- ---- at the responder

  module _ (fr : List (List ℕ)) where
    good_answer : (m output : List ℕ) → state_of r ≡ Idle → alike m (offered a) ≡ true → Chooses r.end.own (offered a) → FullSize r output →
        GoodSecond i fr (called r (deliver m true output))
    unfolding halfway is_given_up is_idle
    good_answer m output q s c room =
        let here = chooses_too m s c in
        let reply : List ℕ = reply_of r.end.own m here in
        let short = two-short pair a m s here in
        let its =
        taken-second r m output room (ap is_given_up q) (one_passes m s (inl (ap is_idle q))) pair.is-second
        ∙ at-idle r m output q (ap is_longer (one-read pair.fit_one a m s).shape ∙ longer-is a.first) here in
        rw its
        (inl (
          refl,
          sends_it r reply (answers_with r m output here).step.end.progress (paste r.got 0 m) output short room fr
              ∙ ap (λ (n : List ℕ). n ∷ fr) (sym (keeps_it r.sent reply short room.in_sent)),
        ))

    module _ (R : Replied a r fr) where
      good_again : (m output : List ℕ) → state_of r ≡ Half → alike m (offered a) ≡ true → FullSize r output → GoodSecond i fr (called r (deliver m true output))
      unfolding is_given_up
      good_again m output q s room =
          let its = taken-second r m output room (ap is_given_up q) (one_passes m s (inr R.keeps.its_id)) pair.is-second
          ∙ at_half_again r m output q (alike_trans m (offered a) (got_of r) s (alike_sym (got_of r) (offered a) R.from)) in
          let keeps : Keeps r a.id (sent_of r) =
          record { sent-room = R.keeps.sent-room; got-room = R.keeps.got-room; its_sent = refl; its_id = R.keeps.its_id } in
          rw its (inl (q, again r a.id (sent_of r) output keeps room r.end.progress fr))

      opens_then : (m output : List ℕ) → state_of r ≡ Half → alike m (message_three i.end.own a.id) ≡ true → FullSize r output →
          state_of (left (called r (deliver m true output))) ≡ Open
      unfolding with_state is_given_up
      opens_then m output q s room =
          ap (λ (x : After). state_of (left x))
          (taken-second r m output room (ap is_given_up q) (three-passes m s R.keeps.its_id) pair.is-second
          ∙ at_half_opens r m output q (not_alike m (got_of r) s R.from) (three-read pair.fit_one a m s).shape)

      -- ---- at the initiator

      two-passes : (m : List ℕ) → alike m (reply_of r.end.own (got_of r) R.chooses) ≡ true → is_idle (state_of i) ≡ false → i.end.progress.id ≡ a.id →
          (read_code i.end.own (state_of i) i.end.progress.id m (message m) ≡ 0) × (is_longer (shape_of m) ≡ true)
      two-passes m s up at =
          let l = two-read pair a (got_of r) R.from R.chooses m s in (
            longer-passes r.end.own i.end.own a.id _ a.first a.second m l pair.icookies pair.rcookies (state_of i) i.end.progress.id
                (rw up (and-false (is_initiator i.end.own.role)))
                (inr at),
            ap is_longer l.shape ∙ longer-is a.first,
          )

      sent_opens : (m output : List ℕ) → state_of i ≡ Sent → Keeps i a.id (offered a) → alike m (reply_of r.end.own (got_of r) R.chooses) ≡ true →
          FullSize i output →
          called i (deliver m true output) ≡ opened i.end m i.sent i.got output
      unfolding is_given_up is_idle
      sent_opens m output q k s room =
          let passes = two-passes m s (ap is_idle q) k.its_id in
          let taken : taken_code (shape_of m) (sent_of i) m ≡ 0 = rw k.its_sent (two-takes pair a (got_of r) R.from R.chooses m s) in
          taken-first i m output room (ap is_given_up q) passes.0 pair.is-first ∙ at-sent i m output q passes.1 taken

      open_again : (m output : List ℕ) → state_of i ≡ Open → i.end.progress.id ≡ a.id → alike (got_of i) (sent_of r) ≡ true →
          alike m (reply_of r.end.own (got_of r) R.chooses) ≡ true → FullSize i output →
          called i (deliver m true output) ≡ repeating i.end i.sent i.got output i.end.progress
      unfolding is_given_up is_idle
      open_again m output q at eg s room =
          let passes = two-passes m s (ap is_idle q) at in
          let same : alike m (sent_of r) ≡ true = rw R.keeps.its_sent s in
          taken-first i m output room (ap is_given_up q) passes.0 pair.is-first
          ∙ at_open_again i m output q (alike_trans m (sent_of r) (got_of i) same (alike_sym (got_of i) (sent_of r) eg))

-- message 2 as the initiator's call and the responder's policy determine it
abbrev pub second-message : {one : Own} (two : Own) (b : Ask one) → Chooses two (offered b) → List ℕ
second-message two b s = message_two two b.id s.transforms (set_numbered s.number (body_at 1 (offered b))) b.first b.second

-- is what the responder replies
reply_is : (i r : Party) → Pair i.end.own r.end.own → (a b : Ask i.end.own) → offered a ≡ offered b →
    (fr : List (List ℕ)) → (R : Replied a r fr) → (s : Chooses r.end.own (offered b)) →
    reply_of r.end.own (got_of r) R.chooses ≡ second-message r.end.own b s
reply_is i r pair a b e fr R s =
    let from : alike (got_of r) (offered b) ≡ true = rw e at R.from in
    let l = one-read pair.fit_one b (got_of r) from in
    let body = same-offer i r pair b (got_of r) from in
    let both : Chosen R.chooses.number R.chooses.line R.chooses.transforms ≡ Chosen s.number s.line s.transforms =
    sym R.chooses.chosen ∙ (chooses_too i r pair b (got_of r) from s).chosen in
    let numbers : R.chooses.number ≡ s.number = cc in
    let them : R.chooses.transforms ≡ s.transforms = cc in
    rw (l.framed.its_id, body, l.identity_one, l.identity_two, numbers, them)

-- ---- a good message at every stage

module _ (i r : Party) (fi fr : List (List ℕ)) (pair : Pair i.end.own r.end.own) (b : Ask i.end.own) (first : Oldest (offered b) fi) where
  pub good_second : Stage i r fi fr → (m output : List ℕ) → (state_of r ≡ GivenUp → ⊥) → Chooses r.end.own (offered b) → FullSize r output → Heard m fi →
      GoodSecond i fr (called r (deliver m true output))
  good_second (new ei er ni nr) m output up c room h = clash (none-heard m ni h)
  good_second (asked a ei k o er nr) m output up c room h = good_answer i r pair a fr m output er (only_heard m o h) (rw (only_oldest o first) c) room
  good_second (half a ei k o R er) m output up c room h = good_again i r pair a fr R m output (answering_half (state_of r) er up) (only_heard m o h) room
  good_second (done a ei k o R er ev eg) m output up c room h =
      ⊎_elim
      (λ q.
      ⊎_elim (λ s. good_again i r pair a fr R m output q s room) (λ s. inr (opens_then i r pair a fr R m output q s room, ei)) (then_heard m o h))
      (λ q. inr (ap state_of (open_rests r q (deliver m true output)) ∙ q, ei))
      (past_up (state_of r) er up)

  -- message 3 at the responder, where the initiator is open
  pub third_opens : Stage i r fi fr → (m output : List ℕ) → (state_of r ≡ GivenUp → ⊥) → state_of i ≡ Open → alike m (message_three i.end.own b.id) ≡ true →
      FullSize r output →
      state_of (left (called r (deliver m true output))) ≡ Open
  third_opens (new ei er ni nr) m output up q s room = never (cc)
  third_opens (asked a ei k o er nr) m output up q s room = clash (cc)
  third_opens (half a ei k o R er) m output up q s room = clash (cc)
  third_opens (done a ei k o R er ev eg) m output up q s room =
      ⊎_elim (λ h. opens_then i r pair a fr R m output h (rw (same_id i r pair a b (then_oldest o first)) at s) room)
      (λ h. ap state_of (open_rests r h (deliver m true output)) ∙ h)
      (past_up (state_of r) er up)

  -- message 2 at the initiator
  pub good_first : Stage i r fi fr → (m output : List ℕ) → (state_of i ≡ GivenUp → ⊥) → FullSize i output → Heard m fr →
      GoodFirst (message_three i.end.own b.id) fi (called i (deliver m true output))
  unfolding opened
  good_first (new ei er ni nr) m output up room h = clash (none-heard m nr h)
  good_first (asked a ei k o er nr) m output up room h = clash (none-heard m nr h)
  good_first (half a ei k o R er) m output up room h =
      let three : i.end.progress.id ≡ b.id = k.its_id ∙ sym (same_id i r pair a b (only_oldest o first)) in
      let short : length (message_three i.end.own i.end.progress.id) ≤ 2048 = rw three (three-short pair.fit_one b) in
      let progress : Progress = (opened i.end m i.sent i.got output).step.end.progress in
      rw (sent_opens i r pair a fr R m output (asking_sent (state_of i) ei up) k (only_heard m R.only h) room)
      (record {
        is_open_lem = refl;
        writes = sends_it i (message_three i.end.own i.end.progress.id) progress (paste i.got 0 m) output short room fi
            ∙ ap (λ (n : ℕ). message_three i.end.own n ∷ fi) three;
      })
  good_first (done a ei k o R er ev eg) m output up room h =
      rw (open_again i r pair a fr R m output ei k.its_id eg (only_heard m R.only h) room, same_id i r pair a b (then_oldest o first))
      (record { is_open_lem = ei; writes = again i a.id (message_three i.end.own a.id) output k room i.end.progress fi })

  -- ---- what has been written by then

  pub written-two : Stage i r fi fr → (s : Chooses r.end.own (offered b)) → past (state_of r) ≡ true → Only (second-message r.end.own b s) fr
  written-two (new ei er ni nr) s q = clash (cc)
  written-two (asked a ei k o er nr) s q = clash (cc)
  written-two (half a ei k o R er) s q = subst (λ (n : List ℕ). Only n fr) (reply_is i r pair a b (only_oldest o first) fr R s) R.only
  written-two (done a ei k o R er ev eg) s q = subst (λ (n : List ℕ). Only n fr) (reply_is i r pair a b (then_oldest o first) fr R s) R.only

  pub written-three : Stage i r fi fr → state_of i ≡ Open → Then (offered b) (message_three i.end.own b.id) fi
  written-three (new ei er ni nr) q = never (cc)
  written-three (asked a ei k o er nr) q = clash (cc)
  written-three (half a ei k o R er) q = clash (cc)
  written-three (done a ei k o R er ev eg) q =
      let e = then_oldest o first in
      subst (λ (n : ℕ). Then (offered b) (message_three i.end.own n) fi) (sym (same_id i r pair a b e)) (rw e at o)

-- ---- over traces

past_second : {p : Party} {other : List (List ℕ)} {x : After} → MoveR p other x → past (state_of p) ≡ true → past (state_of (left x)) ≡ true
unfolding halfway with_state one_more
past_second (MoveR.refuses output number) q = q
past_second (MoveR.rests output) q = q
past_second (MoveR.answers m output c room s h) q = refl
past_second (MoveR.repeats output room s) q = q
past_second (MoveR.opens m output s h d) q = refl
past_second (MoveR.resends output room s) q = q
past_second (MoveR.gives_up output s) q = refl

module _ {w : World} (f : Fresh w) where
  -- no call changes what the ends were given
  pub own-run : {u : World} → Run w u → (u.initiator.end.own ≡ w.initiator.end.own) × (u.responder.end.own ≡ w.responder.end.own)
  own-run rest = (refl, refl)
  own-run (goes {u} k (at_first c) fair) =
      (own_first (moves_first u.initiator u.from_responder (always f k).pair.is-first c fair) ∙ (own-run k).0, (own-run k).1)
  own-run (goes {u} k (at_second c) fair) =
      ((own-run k).0, own-second (moves_second u.responder u.from_initiator (always f k).pair.is-second c fair) ∙ (own-run k).1)

  past_run : {u z : World} → Run w u → Run u z → past (state_of u.responder) ≡ true → past (state_of z.responder) ≡ true
  past_run k rest q = q
  past_run k (goes l (at_first c) fair) q = past_run k l q
  past_run k (goes {u = z} l (at_second c) fair) q =
      past_second (moves_second z.responder z.from_initiator (always f (runs k l)).pair.is-second c fair) (past_run k l q)

  module _ (b : Ask w.initiator.end.own) (s : Chooses w.responder.end.own (offered b)) where
    abbrev third_message : List ℕ
    third_message = message_three w.initiator.end.own b.id

    -- at any moment u after message 1 was written, what is so of an offer of the initiator there is so of b
    module _ {u : World} (k : Run w u) (first : Oldest (offered b) u.from_initiator) where
      abbrev ForEach : (A : (one two : Own) (c : Ask one) → Chooses two (offered c) → Type 0) (own other : Own) → Type 0
      ForEach A own other = (c : Ask own) (t : Chooses other (offered c)) → Oldest (offered c) u.from_initiator → A own other c t

      of_b : (A : (one two : Own) (c : Ask one) → Chooses two (offered c) → Type 0) → ForEach A u.initiator.end.own u.responder.end.own →
          A w.initiator.end.own w.responder.end.own b s
      of_b A f =
          subst (λ (one : Own). ForEach A one w.responder.end.own) (own-run k).0
          (subst (λ (two : Own). ForEach A u.initiator.end.own two) (own-run k).1 f) b s first

      holding : Inv u.initiator u.responder u.from_initiator u.from_responder
      holding = always f k

      arrives_second : (m output : List ℕ) → (state_of u.responder ≡ GivenUp → ⊥) → FullSize u.responder output → Heard m u.from_initiator →
          GoodSecond u.initiator u.from_responder (called u.responder (deliver m true output))
      arrives_second m output up room h =
          of_b (λ one two c t. GoodSecond u.initiator u.from_responder (called u.responder (deliver m true output)))
          (λ c t o. good_second u.initiator u.responder u.from_initiator u.from_responder holding.pair c o holding.stage m output up t room h)

      arrives_first : (m output : List ℕ) → (state_of u.initiator ≡ GivenUp → ⊥) → FullSize u.initiator output → Heard m u.from_responder →
          GoodFirst third_message u.from_initiator (called u.initiator (deliver m true output))
      arrives_first m output up room h =
          of_b (λ one two c t. GoodFirst (message_three one c.id) u.from_initiator (called u.initiator (deliver m true output)))
          (λ c t o. good_first u.initiator u.responder u.from_initiator u.from_responder holding.pair c o holding.stage m output up room h)

      arrives_third : (m output : List ℕ) → (state_of u.responder ≡ GivenUp → ⊥) → FullSize u.responder output → state_of u.initiator ≡ Open →
          alike m third_message ≡ true →
          state_of (left (called u.responder (deliver m true output))) ≡ Open
      arrives_third m output up room q =
          of_b (λ one two c t. alike m (message_three one c.id) ≡ true → state_of (left (called u.responder (deliver m true output))) ≡ Open)
          (λ c t o e. third_opens u.initiator u.responder u.from_initiator u.from_responder holding.pair c o holding.stage m output up q e room)

      two-there : past (state_of u.responder) ≡ true → Only (second-message w.responder.end.own b s) u.from_responder
      two-there q =
          of_b (λ one two c t. Only (second-message two c t) u.from_responder)
          (λ c t o. written-two u.initiator u.responder u.from_initiator u.from_responder holding.pair c o holding.stage t q)

      three-there : state_of u.initiator ≡ Open → Then (offered b) third_message u.from_initiator
      three-there q =
          of_b (λ one two c t. Then (offered c) (message_three one c.id) u.from_initiator)
          (λ c t o. written-three u.initiator u.responder u.from_initiator u.from_responder holding.pair c o holding.stage q)

    -- once message 1 has arrived, two has been written
    pub two-written : {u z : World} → Run w u → Oldest (offered b) u.from_initiator → (m output : List ℕ) → alike m (offered b) ≡ true →
        (state_of u.responder ≡ GivenUp → ⊥) → FullSize u.responder output →
        Run (step u (at_second (deliver m true output))) z → Only (second-message w.responder.end.own b s) z.from_responder
    two-written {u} k first m output e up room l =
        let heard = oldest_heard m first e in
        let there : Run w (step u (at_second (deliver m true output))) = goes k (at_second (deliver m true output)) (λ t. heard) in
        two-there (runs there l) (oldest_run l first)
        (past_run there l
        (⊎_elim (λ g. ap past g.0) (λ g. ap past g.0) (arrives_second k first m output up room heard)))

    -- once two has arrived, three has been written
    pub three-written : {u z : World} → Run w u → Oldest (offered b) u.from_initiator → (m output : List ℕ) → Heard m u.from_responder →
        (state_of u.initiator ≡ GivenUp → ⊥) → FullSize u.initiator output →
        Run (step u (at_first (deliver m true output))) z → (state_of z.initiator ≡ Open) × Then (offered b) third_message z.from_initiator
    three-written {u} {z} k first m output h up room l =
        let there : Run w (step u (at_first (deliver m true output))) = goes k (at_first (deliver m true output)) (λ t. h) in
        let q = (arrives_first k first m output up room h).is_open_lem in
        let q' : state_of z.initiator ≡ Open = ap state_of ((open_run l).0 q) ∙ q in
        let oldest : Oldest (offered b) z.from_initiator =
        oldest_run l
        (oldest_said (called u.initiator (deliver m true output)).step.answer (called u.initiator (deliver m true output)).output first) in
        (q', three-there (runs there l) oldest q')

    -- once three has arrived, both are open
    pub both_open : {u z : World} → Run w u → Oldest (offered b) u.from_initiator → (m output : List ℕ) → alike m third_message ≡ true →
        state_of u.initiator ≡ Open → (state_of u.responder ≡ GivenUp → ⊥) →
        FullSize u.responder output → Run (step u (at_second (deliver m true output))) z → (state_of z.initiator ≡ Open) × (state_of z.responder ≡ Open)
    both_open {u} {z} k first m output e q up room l =
        let opens = arrives_third k first m output up room q e in
        let h = open_run l in
        (ap state_of (h.0 q) ∙ q, ap state_of (h.1 opens) ∙ opens)

  -- ---- a begin that isn't refused

  module _ (b : Beginning w) where
    own-first_then : b.moment.initiator.end.own ≡ w.initiator.end.own
    own-first_then = (own-run b.run).0

    begins : Begins b.moment.initiator b.id b.first b.second b.output
    begins = (begin_open b.moment.initiator b.id b.first b.second b.output b.narrow b.unrefused).0

    abbrev asks_then : Ask b.moment.initiator.end.own
    asks_then = ask_of begins b.narrow

    abbrev asks : Ask w.initiator.end.own
    asks = record {
      id = b.id;
      first = b.first;
      second = b.second;
      some = subst (λ (own : Own). 0 < lines (book_of own)) own-first_then begins.some;
      some_id = begins.some_id;
      small-id = b.narrow;
      identities = begins.identities;
    }

    its_call : called b.moment.initiator (begin_call b) ≡ begins-with b.moment.initiator asks_then b.output
    its_call = (begin_open b.moment.initiator b.id b.first b.second b.output b.narrow b.unrefused).1

    same-one : offered asks_then ≡ one_of b
    same-one = ap (λ (own : Own). message_one own b.id b.first b.second) own-first_then

    short-one : length (offered asks_then) ≤ 2048
    short-one = one-short (always f b.run).pair.fit_one asks_then

    pub begin-answers : step_answer (called b.moment.initiator (begin_call b)).step.answer ≡ answers.done (1 ∷ length (one_of b) ∷ [])
    unfolding step_answer
    begin-answers = ap (λ (x : After). step_answer x.step.answer) its_call ∙ ap (λ (m : List ℕ). answers.done (1 ∷ length m ∷ [])) same-one

    pub begin_writes : (after_begin b).from_initiator ≡ one_of b ∷ []
    begin_writes =
        ap (λ (x : After). logged x b.moment.from_initiator) its_call
        ∙ sends_it b.moment.initiator (offered asks_then) (begins-with b.moment.initiator asks_then b.output).step.end.progress
        b.moment.initiator.got b.output short-one begins.room
        b.moment.from_initiator
        ∙ ap (λ (m : List ℕ). m ∷ b.moment.from_initiator) same-one ∙ ap (λ (log : List (List ℕ)). one_of b ∷ log) (silent f b.run begins.is-idle)

    begin-run : Run w (after_begin b)
    begin-run = goes b.run (at_first (begin_call b)) b.narrow

    first-written : Oldest (one_of b) (after_begin b).from_initiator
    first-written = subst (λ (log : List (List ℕ)). Oldest (one_of b) log) (sym begin_writes) alone

    -- it is read in a longer shape
    pub one-longer : (count : ℕ) × (message (one_of b) ≡ Read 32 count) × (is_longer (shape_of (one_of b)) ≡ true)
    one-longer =
        let l = one-read (always f rest).pair.fit_one asks (one_of b) (alike_same (one_of b)) in
        (payloads_with b.first, l.reads, ap is_longer l.shape ∙ longer-is b.first)

    module _ (s : Chooses w.responder.end.own (one_of b)) where
      -- message one arrives
      module _ {a : World} (k : Run (after_begin b) a) (x : Arrives (one_of b) a.responder) where
        pub one_fair : Fair a (at_second (delivery x))
        one_fair t = oldest_heard x.bytes (oldest_run k first-written) x.equals

        pub two_then : {z : World} → Run (step a (at_second (delivery x))) z → Only (two_of b s) z.from_responder
        two_then l =
            two-written asks s (runs begin-run k) (oldest_run k first-written) x.bytes x.output x.equals x.up x.full l

        one-run : Run w (step a (at_second (delivery x)))
        one-run = goes (runs begin-run k) (at_second (delivery x)) one_fair

        -- message two arrives
        module _ {c : World} (l : Run (step a (at_second (delivery x))) c) (y : Arrives (two_of b s) c.initiator) where
          pub two_fair : Fair c (at_first (delivery y))
          two_fair t = only_hears y.bytes (two_then l) y.equals

          oldest_two : Oldest (one_of b) c.from_initiator
          oldest_two = oldest_run l (oldest_run k first-written)

          pub three_then : {z : World} → Run (step c (at_first (delivery y))) z → (state_of z.initiator ≡ Open) × Then (one_of b) (three_of b) z.from_initiator
          three_then j =
              three-written asks s (runs one-run l) oldest_two y.bytes y.output (two_fair refl) y.up y.full j

          two_run : Run w (step c (at_first (delivery y)))
          two_run = goes (runs one-run l) (at_first (delivery y)) two_fair

          oldest_three : Oldest (one_of b) (step c (at_first (delivery y))).from_initiator
          oldest_three = oldest_said (called c.initiator (delivery y)).step.answer (called c.initiator (delivery y)).output oldest_two

          -- message three arrives
          module _ {d : World} (j : Run (step c (at_first (delivery y))) d) (v : Arrives (three_of b) d.responder) where
            pub three_fair : Fair d (at_second (delivery v))
            three_fair t = then_hears v.bytes (three_then j).1 v.equals

            pub open_then : {z : World} → Run (step d (at_second (delivery v))) z → (state_of z.initiator ≡ Open) × (state_of z.responder ≡ Open)
            open_then i =
                both_open asks s (runs two_run j) (oldest_run j oldest_three) v.bytes v.output v.equals (three_then j).0 v.up
                v.full
                i
