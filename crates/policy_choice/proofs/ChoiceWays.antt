-- A law for each way out of the functions of the choice.
use Prim.Native.Nat.{ℕ, zero, suc, ◌+◌, ◌-◌}
use mathlib.Core.Path.{◌≡◌, refl, sym, ◌∙◌}
use mathlib.Core.List.{List}
use mathlib.Core.Bool.{Bool, true, false, ◌&&◌}
use native.Mathlib.Omega.{arith}
use lib.ListN.{length, get_or, take, drop}
use lib.Dec.{eqb}
use borrow.Author.Tests.{eq-eqb, ne_eqb, leb-false}
use Rattle.wire_read.specs.Tests.{if◌then◌otherwise◌}
use Rattle.wire_read.proofs.Tests.{never}
use Rattle.message_chain.specs.Message.{message, payload_at}
use Rattle.message_chain.specs.Message.{Message}
use Rattle.message_chain.specs.Message as read
use Rattle.message_chain.specs.declared.Payload.{Payload}
use Rattle.sa_sets.specs.Sets.{set, set_count}
use Rattle.sa_items.specs.Items.{proposal, proposal_count, transform}
use Rattle.sa_fields.specs.Fields.{proposal_number, transform_number}
use Rattle.sa_fields.specs.declared.ProposalNumber.{ProposalNumber}
use Rattle.sa_fields.specs.declared.TransformNumber.{TransformNumber}
use Rattle.policy_lines.specs.Lines.{place, line_at, main_count, quick_count, book_size}
use Rattle.policy_lines.specs.declared.LineNumber.{LineNumber}
use Rattle.policy_book.specs.Book.{book_in_front, book_read}
use Rattle.policy_suits.specs.Suits.{lowest, lowest_transform, set_suits}
use Rattle.policy_suits.proofs.Found.{none_found, lowest-found}
use Rattle.std.specs.Prelude.{Option, None, Some}
use Rattle.policy_choice.specs.Choice.{line_count, line_from, first_line, number_of, lowest_number, transforms_of, chosen, set_from, choose_from, body_at, sa_from, message_choice, book_choice, choice}
use Rattle.policy_book.specs.Book.{Book}
use Rattle.policy_book.specs.Book as books
use Rattle.policy_choice.specs.declared.Transforms.{Transforms}
use Rattle.policy_choice.specs.declared.Transforms.TheVariants.{One, Two}
use Rattle.policy_choice.specs.Choice.{Choice}
use Rattle.policy_choice.specs.Choice.{Refused, Chosen}

-- ---- lines

module _ (exchange : ℕ) (book : List ℕ) (n : ℕ) where
  pub count-main : exchange ≡ 2 → n ≡ get_or book 0 0 → n ≡ line_count exchange book
  unfolding line_count
  count-main h e = rw (eq-eqb exchange 2 h) e

  pub count-quick : (exchange ≡ 2 → ⊥) → n ≡ quick_count book → n ≡ line_count exchange book
  unfolding line_count
  count-quick h e = rw (ne_eqb exchange 2 h) e

line_step : (n : ℕ) (last line : LineNumber) (exchange : ℕ) (book s : List ℕ) → (n ≡ 0 → ⊥) → line ≡ line_at last.0 →
    line_from n last exchange book s ≡ (if set_suits exchange (place line) book s then line otherwise line_from (n - 1) line exchange book s)
unfolding line_from
line_step zero last line exchange book s h el = absurd (h refl)
line_step (suc n) last line exchange book s h el =
    let e : suc n - 1 ≡ n = omega arith in
    let back : place (line_at last.0) ≡ last.0 = omega arith in
    rw (el, e, back)

module _ (n : ℕ) (last : LineNumber) (exchange : ℕ) (book s : List ℕ) where
  pub line-none : n ≡ 0 → record { 0 = 0 } ≡ line_from n last exchange book s
  unfolding line_from
  line-none z = rw z

  module _ (some : n ≡ 0 → ⊥) (line : LineNumber) (el : line ≡ line_at last.0) (b : Bool) (eb : b ≡ set_suits exchange (place line) book s) where
    pub line-here : b ≡ true → line ≡ line_from n last exchange book s
    line-here h = rw (line_step n last line exchange book s some el, ← eb, h)

    pub line_on : b ≡ false → (r : LineNumber) → r ≡ line_from (n - 1) line exchange book s → r ≡ line_from n last exchange book s
    line_on h r e = rw (line_step n last line exchange book s some el, ← eb, h) e

pub line_first : (exchange n : ℕ) (r : LineNumber) (book s : List ℕ) → n ≡ line_count exchange book → r ≡ line_from n (record { 0 = 0 }) exchange book s →
    r ≡ first_line exchange book s
unfolding first_line
line_first exchange n r book s en er = rw (← en) er

-- ---- transforms

module _ (exchange i : ℕ) (book p : List ℕ) (found : Option TransformNumber) (ef : found ≡ lowest_transform exchange i book p) where
  pub number-none : found ≡ None → (t : List ℕ) (r : TransformNumber) → t ≡ transform 0 p → r ≡ transform_number t → r ≡ lowest_number exchange i book p
  unfolding number_of
  number-none h t r et er =
      let none = leb-false 1 (lowest exchange i book p) (none_found exchange i book p (sym ef ∙ h)) in
      let first : lowest exchange i book p - 1 ≡ 0 = omega (arith, none) in
      rw (first, ← et) er

  pub number-lowest : (number : TransformNumber) → found ≡ Some number → number ≡ lowest_number exchange i book p
  unfolding number_of
  number-lowest number h = (lowest-found exchange i book p number (sym ef ∙ h)).1

module _ (exchange i : ℕ) (book s p : List ℕ) (first : TransformNumber) (count : ℕ) (ep : p ≡ proposal 0 s) (ef : first ≡ lowest_number exchange i book p)
    (ec : count ≡ proposal_count s) where
  pub transforms-one : count ≡ 1 → One first ≡ transforms_of exchange i book s
  unfolding transforms_of
  transforms-one h = rw (← ec, eq-eqb count 1 h, ← ep, ← ef)

  pub transforms-two : (count ≡ 1 → ⊥) → (q : List ℕ) (second : TransformNumber) → q ≡ proposal 1 s → second ≡ lowest_number exchange i book q →
      Two first second ≡ transforms_of exchange i book s
  unfolding transforms_of
  transforms-two h q second eq es = rw (← ec, ne_eqb count 1 h, ← ep, ← ef, ← eq, ← es)

-- ---- sets

pub set-chosen : (exchange : ℕ) (line : LineNumber) (book s p : List ℕ) (number : ProposalNumber) (transforms : Transforms) → p ≡ proposal 0 s →
    number ≡ proposal_number p → transforms ≡ transforms_of exchange (place line) book s → Chosen number line transforms ≡ chosen exchange line book s
unfolding chosen
set-chosen exchange line book s p number transforms ep en et = rw (← ep, ← en, ← et)

set-step : (n k exchange : ℕ) (book body : List ℕ) → (n ≡ 0 → ⊥) →
    set_from n k exchange book body ≡ (if eqb (first_line exchange book (set k body)).0 0 then set_from (n - 1) (k + 1) exchange book body
    otherwise chosen exchange (first_line exchange book (set k body)) book (set k body))
unfolding set_from
set-step zero k exchange book body h = absurd (h refl)
set-step (suc n) k exchange book body h = let e : suc n - 1 ≡ n = omega arith in rw e

module _ (n k exchange : ℕ) (book body : List ℕ) where
  pub sets-none : n ≡ 0 → Refused 14 ≡ set_from n k exchange book body
  unfolding set_from
  sets-none z = rw z

  module _ (some : n ≡ 0 → ⊥) (s : List ℕ) (line : LineNumber) (r : Choice) (es : s ≡ set k body) (el : line ≡ first_line exchange book s) where
    pub sets-on : line.0 ≡ 0 → r ≡ set_from (n - 1) (k + 1) exchange book body → r ≡ set_from n k exchange book body
    sets-on h e = rw (set-step n k exchange book body some, ← es, ← el, eq-eqb line.0 0 h) e

    pub sets-here : (line.0 ≡ 0 → ⊥) → r ≡ chosen exchange line book s → r ≡ set_from n k exchange book body
    sets-here h e = rw (set-step n k exchange book body some, ← es, ← el, ne_eqb line.0 0 h) e

pub sets-all : (exchange n : ℕ) (book body : List ℕ) (r : Choice) → n ≡ set_count body → r ≡ set_from n 0 exchange book body → r ≡ choose_from exchange book body
unfolding choose_from
sets-all exchange n book body r en er = rw (← en) er

-- ---- the SA payload

pub body-taken : (k : ℕ) (m behind own r : List ℕ) (p : Payload) → p ≡ payload_at k m → behind ≡ drop p.start m → own ≡ take p.length behind →
    r ≡ drop 4 own → r ≡ body_at k m
unfolding body_at
body-taken k m behind own r p ep eb eo er = rw (← ep, ← eb, ← eo) er

sa_step : (n k : ℕ) (m : List ℕ) → (n ≡ 0 → ⊥) → sa_from n k m ≡ (if eqb (payload_at k m).payloadtype 1 then body_at k m otherwise sa_from (n - 1) (k + 1) m)
unfolding sa_from
sa_step zero k m h = absurd (h refl)
sa_step (suc n) k m h = let e : suc n - 1 ≡ n = omega arith in rw e

module _ (n k : ℕ) (m r : List ℕ) where
  pub sa_none : n ≡ 0 → r ≡ take 0 m → r ≡ sa_from n k m
  unfolding sa_from
  sa_none z e = rw z e

  module _ (some : n ≡ 0 → ⊥) (p : Payload) (ep : p ≡ payload_at k m) where
    payloadtype : (payload_at k m).payloadtype ≡ p.payloadtype
    payloadtype = rw ep

    pub sa_here : p.payloadtype ≡ 1 → r ≡ body_at k m → r ≡ sa_from n k m
    sa_here h e = rw (sa_step n k m some, payloadtype, eq-eqb p.payloadtype 1 h) e

    pub sa_on : (p.payloadtype ≡ 1 → ⊥) → r ≡ sa_from (n - 1) (k + 1) m → r ≡ sa_from n k m
    sa_on h e = rw (sa_step n k m some, payloadtype, ne_eqb p.payloadtype 1 h) e

-- ---- the choice

-- a book has one refusal
book-number : (lawful : Bool) (main quick number : ℕ) → (if lawful then books.Lawful main quick otherwise books.Refused 8193) ≡ books.Refused number → number ≡ 8193
book-number true main quick number h = never (cc)
book-number false main quick number h = cc

module _ (book m : List ℕ) (b : Book) (eb : b ≡ book_read book) where
  pub choice-book : (number : ℕ) → b ≡ books.Refused number → Refused 8193 ≡ choice book m
  unfolding choice book_choice book_read
  choice-book number h =
      let one = book-number (book_in_front book && eqb (book_size book) (length book)) (main_count book) (quick_count book) number (sym eb ∙ h) in
      rw (← eb, h, one)

  module _ (main quick : ℕ) (lawful : b ≡ books.Lawful main quick) (c : Message) (ec : c ≡ message m) where
    pub choice-message : (number : ℕ) → c ≡ read.Refused number → Refused number ≡ choice book m
    unfolding choice book_choice message_choice
    choice-message number h = rw (← eb, lawful, ← ec, h)

    module _ (exchange count : ℕ) (readable : c ≡ read.Read exchange count) (body : List ℕ) (es : body ≡ sa_from count 0 m) where
      pub choice-empty : length body ≡ 0 → Refused 16 ≡ choice book m
      unfolding choice book_choice message_choice
      choice-empty h = rw (← eb, lawful, ← ec, readable, ← es, eq-eqb (length body) 0 h)

      pub choice-made : (length body ≡ 0 → ⊥) → (r : Choice) → r ≡ choose_from exchange book body → r ≡ choice book m
      unfolding choice book_choice message_choice
      choice-made h r e = rw (← eb, lawful, ← ec, readable, ← es, ne_eqb (length body) 0 h) e
