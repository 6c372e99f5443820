-- The exchange of two ends: what holds at every moment.
use Prim.Native.Nat.{ℕ, ◌≤◌}
use mathlib.Core.Path.{◌≡◌, refl, sym, ap, subst, ◌∙◌}
use mathlib.Core.Logic.{◌⊎◌, inl, inr}
use mathlib.Core.List.{List, [], ◌∷◌}
use mathlib.Core.Bool.{true, false}
use lib.ListN.{length, drop}
use Rattle.wire_write.specs.Put.{paste}
use Rattle.wire_read.proofs.Tests.{never, clash}
use Rattle.wire_write.proofs.Laws.{length_paste}
use Rattle.sa_sets.specs.Sets.{set, set_count, set_numbered}
use Rattle.policy_choice.specs.Choice.{body_at}
use Rattle.policy_reply.specs.Reply.{set_reply}
use Rattle.quick_write.specs.Messages.{nonce_of, offer_of, message_three}
use Rattle.quick_shape.specs.Shapes.{alike, shape_of, nonce_in, nonce}
use Rattle.quick_taken.specs.Taken.{taken_code, agreed_two}
use Rattle.quick_agreed.specs.Agreed.{spis_of, own_spis}
use Rattle.quick_step.specs.Steps.{After, kept, repeating, sending, with_state}
use Rattle.quick_tick.specs.Tick.{one_more}
use Rattle.quick_deliver.specs.Deliver.{opened, halfway}
use Rattle.quick_shape.proofs.Laws.{alike_same, alike_sym, alike_trans}
use Rattle.quick_end.specs.declared.Role.TheVariants.{Initiator, Responder}
use Rattle.quick_end.specs.declared.State.{State}
use Rattle.quick_end.specs.declared.State.TheVariants.{Idle, Sent, Half, Open, GivenUp}
use Rattle.quick_end.specs.declared.Own.{Own}
use Rattle.quick_end.specs.declared.Agreed.{Agreed}
use Rattle.quick_end.specs.declared.Progress.{Progress}
use Rattle.quick_exchange.proofs.MessageShapes.{Fit, Longer, Third, Answered, reply_to}
use Rattle.quick_exchange.proofs.MessageLaws.{third_reads}
use Rattle.quick_exchange.proofs.OfferLaws.{body-sets}
use Rattle.quick_exchange.proofs.TakenLaws.{one-reads, two-reads, two_agreed, two-taken, two-content, two_spis}
use Rattle.quick_exchange.specs.Exchange.{Party, left, logged, World, Event, at_first, at_second, step, Heard, here, there, Fair, Run, rest, goes, Fresh, state_of, sent_of, got_of, agreed_of, Same, FullSize, Chooses, chosen_set, SameProposals, SameContent, GivenFor, Only, one, more, Then, turn, next}
use Rattle.quick_exchange.proofs.Fresh.{fresh_fit}
use Rattle.quick_exchange.proofs.Moves.{asking, answering, past, answering_past, Ask, offered, begins-with, answers_with, at_front, keeps_it, in_front_again, MoveI, MoveR, moves_first, moves_second, own_first, own-second}

-- ---- what was written

module _ (k : List ℕ) where
  pub only_heard : {m : List ℕ} {log : List (List ℕ)} → Only m log → Heard k log → alike k m ≡ true
  only_heard one (here e) = e
  only_heard {m = m} one (there h) = elim h [ ]
  only_heard (more o) (here e) = e
  only_heard (more o) (there h) = only_heard o h

  pub then_heard : {m n : List ℕ} {log : List (List ℕ)} → Then m n log → Heard k log → (alike k m ≡ true) ⊎ (alike k n ≡ true)
  then_heard (turn o) (here e) = inr e
  then_heard (turn o) (there h) = inl (only_heard o h)
  then_heard (next o) (here e) = inr e
  then_heard (next o) (there h) = then_heard o h

  pub none-heard : {log : List (List ℕ)} → log ≡ [] → Heard k log → false ≡ true
  none-heard q (here e) = cc
  none-heard q (there h) = cc

-- ---- what each end keeps

-- an end apart from its state and its sends, which nothing that it keeps hangs on
abbrev pub calm : Party → Party
calm p =
    let progress : Progress = p.end.progress in
    record {
      end = record {
        own = p.end.own;
        progress = record { state = Idle; sends = 0; id = progress.id; sentsize = progress.sentsize; gotsize = progress.gotsize; agreed = progress.agreed };
      };
      sent = p.sent;
      got = p.got;
    }

pub record KeepsCalm (p : Party) (id : ℕ) (m : List ℕ) : Type 0 where
  pub sent-room : 2048 ≤ length p.sent
  pub got-room : 2048 ≤ length p.got
  pub its_sent : sent_of p ≡ m
  pub its_id : p.end.progress.id ≡ id

-- p has kept m as what it sent, in an exchange with this message ID; its buffers are full size
abbrev pub Keeps : Party → ℕ → List ℕ → Type 0
Keeps p id m = KeepsCalm (calm p) id m

-- the two ends of one quick mode
pub record Pair (one two : Own) : Type 0 where
  pub fit_one : Fit one
  pub fit_two : Fit two
  pub is-first : one.role ≡ Initiator
  pub is-second : two.role ≡ Responder
  pub icookies : one.icookie ≡ two.icookie
  pub rcookies : one.rcookie ≡ two.rcookie

-- the answer to message g, and what the responder has agreed to with it
abbrev pub reply_of : (two : Own) (g : List ℕ) → Chooses two g → List ℕ
reply_of two g s = reply_to two g s.number s.transforms

abbrev pub agreement : (two : Own) (g : List ℕ) → Chooses two g → Agreed
agreement two g s = record {
  set = s.number;
  transforms = s.transforms;
  initiator = spis_of (set_numbered s.number (body_at 1 g));
  responder = own_spis two.ah two.esp (set_numbered s.number (body_at 1 g));
}

pub record RepliedCalm {own : Own} (a : Ask own) (r : Party) (log : List (List ℕ)) : Type 0 where
  pub chooses : Chooses r.end.own (got_of r)
  pub from : alike (got_of r) (offered a) ≡ true
  pub keeps : Keeps r a.id (reply_of r.end.own (got_of r) chooses)
  pub its_agreed : agreed_of r ≡ agreement r.end.own (got_of r) chooses
  pub only : Only (reply_of r.end.own (got_of r) chooses) log

-- the responder r has taken the offer of a as it got it, and all that it wrote, log, is its one reply
abbrev pub Replied : {own : Own} → Ask own → Party → List (List ℕ) → Type 0
Replied a r log = RepliedCalm a (calm r) log

-- ---- the four stages of an exchange, of the two ends and what each has written

pub data Stage (i r : Party) (fi fr : List (List ℕ)) : Type 0 where
  new : state_of i ≡ Idle → state_of r ≡ Idle → fi ≡ [] → fr ≡ [] → Stage i r fi fr
  asked : (a : Ask i.end.own) → asking (state_of i) ≡ true → Keeps i a.id (offered a) → Only (offered a) fi → state_of r ≡ Idle → fr ≡ [] → Stage i r fi fr
  half : (a : Ask i.end.own) → asking (state_of i) ≡ true → Keeps i a.id (offered a) → Only (offered a) fi → Replied a r fr →
      answering (state_of r) ≡ true → Stage i r fi fr
  done : (a : Ask i.end.own) → state_of i ≡ Open → Keeps i a.id (message_three i.end.own a.id) →
      Then (offered a) (message_three i.end.own a.id) fi →
      Replied a r fr → past (state_of r) ≡ true → agreed_of i ≡ agreed_of r → alike (got_of i) (sent_of r) ≡ true → Stage i r fi fr

pub record Inv (i r : Party) (fi fr : List (List ℕ)) : Type 0 where
  pub pair : Pair i.end.own r.end.own
  pub stage : Stage i r fi fr

-- an end that sends its kept message again writes what it keeps
pub again : (p : Party) (id : ℕ) (m output : List ℕ) → Keeps p id m → FullSize p output → (progress : Progress) (log : List (List ℕ)) →
    logged (repeating p.end p.sent p.got output progress) log ≡ m ∷ log
again p id m output k room progress log = rw (in_front_again p.sent output p.end.progress.sentsize room.in_sent room.in_output, k.its_sent)

replied_again : {own : Own} (a : Ask own) (r : Party) (log : List (List ℕ)) (output : List ℕ) → Replied a r log → FullSize r output → (progress : Progress) →
    Replied a r (logged (repeating r.end r.sent r.got output progress) log)
replied_again a r log output R room progress =
    rw (again r a.id (reply_of r.end.own (got_of r) R.chooses) output R.keeps room progress log)
    (record { chooses = R.chooses; from = R.from; keeps = R.keeps; its_agreed = R.its_agreed; only = more R.only })

-- an end that sends m first: that is written, and kept
module _ (p : Party) (m : List ℕ) (progress : Progress) (taken output : List ℕ) (short : length m ≤ 2048) (room : FullSize p output) where
  pub sends_it : (log : List (List ℕ)) → logged (sending p.end p.sent p.got output m progress taken) log ≡ m ∷ log
  sends_it log = rw (at_front output m short room.in_output)

  pub keeps_sent : (id : ℕ) → progress.sentsize ≡ length m → progress.id ≡ id → 2048 ≤ length taken →
      Keeps (left (sending p.end p.sent p.got output m progress taken)) id m
  keeps_sent id size eid got-room = record {
    sent-room = rw length_paste room.in_sent;
    got-room = got-room;
    its_sent = ap (λ (n : ℕ). kept n (paste p.sent 0 m)) size ∙ keeps_it p.sent m short room.in_sent;
    its_id = eid;
  }

-- ---- the three messages as they are read, whatever their hash bytes

module _ {own : Own} (fit : Fit own) (a : Ask own) where
  pub one-read : (m : List ℕ) → alike m (offered a) ≡ true → Longer own a.id (offer_of own) a.first a.second m
  one-read m s = one-reads own fit a.some a.id a.some_id a.small-id a.first a.second a.identities m s

  pub one-short : length (offered a) ≤ 2048
  one-short = (one-read (offered a) (alike_same (offered a))).framed.short

  pub three-read : (m : List ℕ) → alike m (message_three own a.id) ≡ true → Third own a.id m
  three-read m s = third_reads own a.id fit a.some_id a.small-id m s

  pub three-short : length (message_three own a.id) ≤ 2048
  three-short = (three-read (message_three own a.id) (alike_same (message_three own a.id))).framed.short

module _ {one two : Own} (pair : Pair one two) (a : Ask one) (g : List ℕ) (from : alike g (offered a) ≡ true) (s : Chooses two g) where
  its_answer : Answered one two a.id a.first a.second g s.number s.line s.transforms
  its_answer = record {
    fit_one = pair.fit_one;
    some = a.some;
    some_id = a.some_id;
    small-id = a.small-id;
    identities = a.identities;
    fit_two = pair.fit_two;
    from = from;
    chosen = s.chosen;
  }

  module _ (m : List ℕ) (is : alike m (reply_of two g s) ≡ true) where
    pub two-read : Longer two a.id (set_reply two.ah two.esp s.transforms (set_numbered s.number (body_at 1 g))) a.first a.second m
    two-read = two-reads one two a.id a.first a.second g s.number s.line s.transforms its_answer m is

    pub two_agrees : agreed_two (offered a) m ≡ agreement two g s
    two_agrees = two_agreed one two a.id a.first a.second g s.number s.line s.transforms its_answer m is

    pub two-same : (set_count (body_at 1 m) ≡ 1) × SameProposals s.transforms (set 0 (body_at 1 m)) (set_numbered s.number (body_at 1 g))
    two-same = two-content one two a.id a.first a.second g s.number s.line s.transforms its_answer m is

    pub two-takes : taken_code (shape_of m) (offered a) m ≡ 0
    two-takes = two-taken one two a.id a.first a.second g s.number s.line s.transforms its_answer m is

  pub given_spis : GivenFor one.ah one.esp (set_numbered s.number (body_at 1 g)) (agreement two g s).initiator ×
      GivenFor two.ah two.esp (set_numbered s.number (body_at 1 g)) (agreement two g s).responder
  given_spis = two_spis one two a.id a.first a.second g s.number s.line s.transforms its_answer

  pub two-short : length (reply_of two g s) ≤ 2048
  two-short = (two-read (reply_of two g s) (alike_same (reply_of two g s))).framed.short

-- the initiator begins
begins_asked : (i r : Party) (fi fr : List (List ℕ)) → Pair i.end.own r.end.own → (a : Ask i.end.own) (output : List ℕ) → FullSize i output →
    fi ≡ [] → state_of r ≡ Idle → fr ≡ [] →
    Stage (left (begins-with i a output)) r (logged (begins-with i a output) fi) fr
begins_asked i r fi fr pair a output room none er nr =
    let short = one-short pair.fit_one a in
    let progress : Progress = (begins-with i a output).step.end.progress in
    asked a refl
    (keeps_sent i (offered a) progress i.got output short room a.id refl refl room.in_got)
    (rw (sends_it i (offered a) progress i.got output short room fi, none) one)
    er
    nr

-- message 2 arrives at the initiator: it opens, with the values that the responder has
opens_done : (i r : Party) (fi fr : List (List ℕ)) → Pair i.end.own r.end.own → (a : Ask i.end.own) (R : Replied a r fr) →
    Keeps i a.id (offered a) → Only (offered a) fi → past (state_of r) ≡ true →
    (m output : List ℕ) → FullSize i output → Heard m fr →
    Stage (left (opened i.end m i.sent i.got output)) r (logged (opened i.end m i.sent i.got output) fi) fr
unfolding opened
opens_done i r fi fr pair a R k o er m output room h =
    let s : alike m (reply_of r.end.own (got_of r) R.chooses) ≡ true = only_heard m R.only h in
    let three : message_three i.end.own i.end.progress.id ≡ message_three i.end.own a.id = ap (message_three i.end.own) k.its_id in
    let short : length (message_three i.end.own i.end.progress.id) ≤ 2048 = rw three (three-short pair.fit_one a) in
    let progress : Progress = (opened i.end m i.sent i.got output).step.end.progress in
    let keeps-third =
    keeps_sent i (message_three i.end.own i.end.progress.id) progress (paste i.got 0 m) output short room a.id refl k.its_id
    (rw length_paste room.in_got) in
    let log = sends_it i (message_three i.end.own i.end.progress.id) progress (paste i.got 0 m) output short room fi in
    let got = keeps_it i.got m (two-read pair a (got_of r) R.from R.chooses m s).framed.short room.in_got in
    done a refl
    (subst (λ (n : List ℕ). Keeps (left (opened i.end m i.sent i.got output)) a.id n) three keeps-third)
    (rw (log, three) (turn o))
    R
    er
    (ap (λ (n : List ℕ). agreed_two n m) k.its_sent ∙ two_agrees pair a (got_of r) R.from R.chooses m s ∙ sym R.its_agreed)
    (rw (got, R.keeps.its_sent) s)

-- what the responder holds whose kept message is g
replied-with : {own : Own} (a : Ask own) (r : Party) (log : List (List ℕ)) (g : List ℕ) → got_of r ≡ g → (s : Chooses r.end.own g) →
    alike g (offered a) ≡ true →
    Keeps r a.id (reply_of r.end.own g s) → agreed_of r ≡ agreement r.end.own g s → Only (reply_of r.end.own g s) log → Replied a r log
replied-with a r log g e =
    subst
    (λ (k : List ℕ). (s : Chooses r.end.own k) → alike k (offered a) ≡ true → Keeps r a.id (reply_of r.end.own k s) →
    agreed_of r ≡ agreement r.end.own k s →
    Only (reply_of r.end.own k s) log → Replied a r log)
    e
    (λ s from keeps its_agreed only. record { chooses = s; from = from; keeps = keeps; its_agreed = its_agreed; only = only })

-- message 1 arrives at the responder: it answers
answers_half : (i r : Party) (fi fr : List (List ℕ)) → Pair i.end.own r.end.own → (a : Ask i.end.own) → asking (state_of i) ≡ true →
    Keeps i a.id (offered a) → Only (offered a) fi → fr ≡ [] →
    (m output : List ℕ) (s : Chooses r.end.own m) → FullSize r output → Heard m fi →
    Stage i (left (answers_with r m output s)) fi (logged (answers_with r m output s) fr)
unfolding halfway
answers_half i r fi fr pair a ei k o none m output s room h =
    let from : alike m (offered a) ≡ true = only_heard m o h in
    let framed = (one-read pair.fit_one a m from).framed in
    let reply : List ℕ = reply_of r.end.own m s in
    let short = two-short pair a m from s in
    let progress : Progress = (answers_with r m output s).step.end.progress in
    let got = keeps_it r.got m framed.short room.in_got in
    let log = sends_it r reply progress (paste r.got 0 m) output short room fr in
    let keeps-reply = keeps_sent r reply progress (paste r.got 0 m) output short room a.id refl framed.its_id (rw length_paste room.in_got) in
    half a ei k o
    (replied-with a (left (answers_with r m output s)) _ m got s from keeps-reply refl (rw (log, none) one))
    refl

-- ---- every call leads from a stage to a stage

module _ (i r : Party) (fi fr : List (List ℕ)) (pair : Pair i.end.own r.end.own) where
  pub stage_first : {x : After} → Stage i r fi fr → MoveI i fr x → Stage (left x) r (logged x fi) fr
  unfolding one_more with_state
  stage_first k (MoveI.refuses output number) = k
  stage_first k (MoveI.rests output) = k
  stage_first (new ei er ni nr) (MoveI.begins a output room q) = begins_asked i r fi fr pair a output room ni er nr
  stage_first (new ei er ni nr) (MoveI.opens m output room q h) = never (cc)
  stage_first (new ei er ni nr) (MoveI.repeats output room q) = never (cc)
  stage_first (new ei er ni nr) (MoveI.resends output room q) = clash (cc)
  stage_first (new ei er ni nr) (MoveI.gives_up output q) = clash (cc)
  stage_first (asked a ei k o er nr) (MoveI.begins b output room q) = clash (cc)
  stage_first (asked a ei k o er nr) (MoveI.opens m output room q h) = clash (none-heard m nr h)
  stage_first (asked a ei k o er nr) (MoveI.repeats output room q) = clash (cc)
  stage_first (asked a ei k o er nr) (MoveI.resends output room q) =
      asked a ei k (rw (again i a.id (offered a) output k room (one_more i.end.progress) fi) (more o)) er nr
  stage_first (asked a ei k o er nr) (MoveI.gives_up output q) = asked a refl k o er nr
  stage_first (half a ei k o R er) (MoveI.begins b output room q) = clash (cc)
  stage_first (half a ei k o R er) (MoveI.opens m output room q h) = opens_done i r fi fr pair a R k o (answering_past (state_of r) er) m output room h
  stage_first (half a ei k o R er) (MoveI.repeats output room q) = clash (cc)
  stage_first (half a ei k o R er) (MoveI.resends output room q) =
      half a ei k (rw (again i a.id (offered a) output k room (one_more i.end.progress) fi) (more o)) R er
  stage_first (half a ei k o R er) (MoveI.gives_up output q) = half a refl k o R er
  stage_first (done a ei k o R er ev eg) (MoveI.begins b output room q) = never (cc)
  stage_first (done a ei k o R er ev eg) (MoveI.opens m output room q h) = never (cc)
  stage_first (done a ei k o R er ev eg) (MoveI.repeats output room q) =
      done a ei k (rw (again i a.id (message_three i.end.own a.id) output k room i.end.progress fi) (next o)) R er ev eg
  stage_first (done a ei k o R er ev eg) (MoveI.resends output room q) = clash (cc)
  stage_first (done a ei k o R er ev eg) (MoveI.gives_up output q) = clash (cc)

  pub stage_second : {x : After} → Stage i r fi fr → MoveR r fi x → Stage i (left x) fi (logged x fr)
  unfolding one_more with_state
  stage_second k (MoveR.refuses output number) = k
  stage_second k (MoveR.rests output) = k
  stage_second (new ei er ni nr) (MoveR.answers m output s room q h) = clash (none-heard m ni h)
  stage_second (new ei er ni nr) (MoveR.repeats output room q) = never (cc)
  stage_second (new ei er ni nr) (MoveR.opens m output q h d) = never (cc)
  stage_second (new ei er ni nr) (MoveR.resends output room q) = clash (cc)
  stage_second (new ei er ni nr) (MoveR.gives_up output q) = clash (cc)
  stage_second (asked a ei k o er nr) (MoveR.answers m output s room q h) = answers_half i r fi fr pair a ei k o nr m output s room h
  stage_second (asked a ei k o er nr) (MoveR.repeats output room q) = never (cc)
  stage_second (asked a ei k o er nr) (MoveR.opens m output q h d) = never (cc)
  stage_second (asked a ei k o er nr) (MoveR.resends output room q) = clash (cc)
  stage_second (asked a ei k o er nr) (MoveR.gives_up output q) = clash (cc)
  stage_second (half a ei k o R er) (MoveR.answers m output s room q h) = clash (cc)
  stage_second (half a ei k o R er) (MoveR.repeats output room q) = half a ei k o (replied_again a r fr output R room r.end.progress) er
  stage_second (half a ei k o R er) (MoveR.opens m output q h d) =
      clash (sym d ∙ alike_trans m (offered a) (got_of r) (only_heard m o h) (alike_sym (got_of r) (offered a) R.from))
  stage_second (half a ei k o R er) (MoveR.resends output room q) = half a ei k o (replied_again a r fr output R room (one_more r.end.progress)) er
  stage_second (half a ei k o R er) (MoveR.gives_up output q) = half a ei k o R refl
  stage_second (done a ei k o R er ev eg) (MoveR.answers m output s room q h) = clash (cc)
  stage_second (done a ei k o R er ev eg) (MoveR.repeats output room q) = done a ei k o (replied_again a r fr output R room r.end.progress) er ev eg
  stage_second (done a ei k o R er ev eg) (MoveR.opens m output q h d) = done a ei k o R refl ev eg
  stage_second (done a ei k o R er ev eg) (MoveR.resends output room q) =
      done a ei k o (replied_again a r fr output R room (one_more r.end.progress)) er ev eg
  stage_second (done a ei k o R er ev eg) (MoveR.gives_up output q) = done a ei k o R refl ev eg

-- ---- at every moment

abbrev pub Holding : World → Type 0
Holding w = Inv w.initiator w.responder w.from_initiator w.from_responder

pub holds_on : (w : World) (ev : Event) → Fair w ev → Holding w → Holding (step w ev)
holds_on w (at_first c) fair k =
    let move = moves_first w.initiator w.from_responder k.pair.is-first c fair in
    record {
      pair = subst (λ (own : Own). Pair own w.responder.end.own) (sym (own_first move)) k.pair;
      stage = stage_first w.initiator w.responder w.from_initiator w.from_responder k.pair k.stage move;
    }
holds_on w (at_second c) fair k =
    let move = moves_second w.responder w.from_initiator k.pair.is-second c fair in
    record {
      pair = subst (λ (own : Own). Pair w.initiator.end.own own) (sym (own-second move)) k.pair;
      stage = stage_second w.initiator w.responder w.from_initiator w.from_responder k.pair k.stage move;
    }

pub at-start : (w : World) → Fresh w → Holding w
at-start w f =
    let one = fresh_fit Initiator f.icookie f.rcookie w.initiator.end f.icookie-fits f.rcookie-fits f.first in
    let two = fresh_fit Responder f.icookie f.rcookie w.responder.end f.icookie-fits f.rcookie-fits f.second in
    record {
      pair = record {
        fit_one = one.fit;
        fit_two = two.fit;
        is-first = one.its_role;
        is-second = two.its_role;
        icookies = one.its_icookie ∙ sym two.its_icookie;
        rcookies = one.its_rcookie ∙ sym two.its_rcookie;
      };
      stage = new one.is-idle two.is-idle f.none_first f.none-second;
    }

pub always : {w u : World} → Fresh w → Run w u → Holding u
always {w} f rest = at-start w f
always f (goes {u} k ev fair) = holds_on u ev fair (always f k)

-- ---- open at the responder, open at the initiator

open_of : {i r : Party} {fi fr : List (List ℕ)} → Stage i r fi fr → state_of r ≡ Open → state_of i ≡ Open
open_of (new ei er ni nr) q = never (cc)
open_of (asked a ei k o er nr) q = never (cc)
open_of (half a ei k o R er) q = clash (cc)
open_of (done a ei k o R er ev eg) q = ei

pub open_both : {w u : World} → Fresh w → Run w u → state_of u.responder ≡ Open → state_of u.initiator ≡ Open
open_both f k q = open_of (always f k).stage q

-- ---- the same values

pub past_cases : (s : State) → past s ≡ true → (s ≡ Open) ⊎ (s ≡ Half) ⊎ (s ≡ GivenUp)
past_cases Idle e = clash e
past_cases Sent e = clash e
past_cases Half e = inr (inl refl)
past_cases Open e = inl refl
past_cases GivenUp e = inr (inr refl)

same_of : {i r : Party} {fi fr : List (List ℕ)} → Pair i.end.own r.end.own → Stage i r fi fr → state_of i ≡ Open →
    Same i r × ((state_of r ≡ Open) ⊎ (state_of r ≡ Half) ⊎ (state_of r ≡ GivenUp))
unfolding nonce
same_of pair (new ei er ni nr) q = never (cc)
same_of pair (asked a ei k o er nr) q = clash (cc)
same_of pair (half a ei k o R er) q = clash (cc)
same_of {i} {r} {fi} {fr} pair (done a ei k o R er ev eg) q =
    let reply : List ℕ = reply_of r.end.own (got_of r) R.chooses in
    let two = two-read pair a (got_of r) R.from R.chooses in
    let written : nonce_in (sent_of r) ≡ nonce_of r.end.own = ap nonce_in R.keeps.its_sent ∙ (two reply (alike_same reply)).nonce in
    let taken : nonce_in (got_of i) ≡ nonce_of r.end.own = (two (got_of i) (rw R.keeps.its_sent at eg)).nonce in (
      record {
        same_set = ap (λ (x : Agreed). x.set) (sym ev);
        same-transforms = ap (λ (x : Agreed). x.transforms) (sym ev);
        same-initiator = ap (λ (x : Agreed). x.initiator) (sym ev);
        same-responder = ap (λ (x : Agreed). x.responder) (sym ev);
        initiator-nonce = (one-read pair.fit_one a (got_of r) R.from).nonce;
        responder-nonce = written ∙ sym taken;
        responder-own = written;
      },
      past_cases (state_of r) er,
    )

pub same-both : {w u : World} → Fresh w → Run w u → state_of u.initiator ≡ Open →
    Same u.initiator u.responder × ((state_of u.responder ≡ Open) ⊎ (state_of u.responder ≡ Half) ⊎ (state_of u.responder ≡ GivenUp))
same-both f k q = let v = always f k in same_of v.pair v.stage q

-- ---- the same content, and the SPIs as they were given

content-of : {i r : Party} {fi fr : List (List ℕ)} → Pair i.end.own r.end.own → Stage i r fi fr → state_of i ≡ Open →
    SameContent i r × GivenFor i.end.own.ah i.end.own.esp (chosen_set r) (agreed_of r).initiator ×
    GivenFor r.end.own.ah r.end.own.esp (chosen_set r) (agreed_of r).responder
content-of pair (new ei er ni nr) q = never (cc)
content-of pair (asked a ei k o er nr) q = clash (cc)
content-of pair (half a ei k o R er) q = clash (cc)
content-of {i} {r} {fi} {fr} pair (done a ei k o R er ev eg) q =
    let same = two-same pair a (got_of r) R.from R.chooses (got_of i) (rw R.keeps.its_sent at eg) in
    let given = given_spis pair a (got_of r) R.from R.chooses in (
      record {
        message-one = ap (drop 8) (one-read pair.fit_one a (got_of r) R.from).sa ∙ body-sets (offer_of i.end.own);
        chooses = R.chooses;
        chosen-set = ap (λ (x : Agreed). x.set) R.its_agreed;
        chosen-transforms = ap (λ (x : Agreed). x.transforms) R.its_agreed;
        message-two = eg;
        one_set = same.0;
        proposals = rw R.its_agreed same.1;
      },
      rw R.its_agreed given.0,
      rw R.its_agreed given.1,
    )

pub content-both : {w u : World} → Fresh w → Run w u → state_of u.initiator ≡ Open →
    SameContent u.initiator u.responder ×
    GivenFor u.initiator.end.own.ah u.initiator.end.own.esp (chosen_set u.responder) (agreed_of u.responder).initiator ×
    GivenFor u.responder.end.own.ah u.responder.end.own.esp (chosen_set u.responder) (agreed_of u.responder).responder
content-both f k q = let v = always f k in content-of v.pair v.stage q

-- an Idle initiator has written nothing
silent_of : {i r : Party} {fi fr : List (List ℕ)} → Stage i r fi fr → state_of i ≡ Idle → fi ≡ []
silent_of (new ei er ni nr) q = ni
silent_of (asked a ei k o er nr) q = clash (cc)
silent_of (half a ei k o R er) q = clash (cc)
silent_of (done a ei k o R er ev eg) q = never (cc)

pub silent : {w u : World} → Fresh w → Run w u → state_of u.initiator ≡ Idle → u.from_initiator ≡ []
silent f k q = silent_of (always f k).stage q
