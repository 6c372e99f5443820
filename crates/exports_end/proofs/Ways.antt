-- A law for each way out of the functions that read and write an end's bytes.
use Prim.Native.Nat.{ℕ, ◌+◌, ◌/◌, ◌%◌}
use denote.Enum.Declared.{tag_of}
use mathlib.Core.Path.{◌≡◌, refl, sym, ap, ◌∙◌}
use mathlib.Core.List.{List, [], ◌∷◌, ◌++◌}
use native.Mathlib.Omega.{arith}
use lib.ListN.{length, get_or, drop, replicate, length-append}
use borrow.Author.Tests.{eq-eqb, ne_eqb}
use Rattle.wire_read.specs.Wire.{number_at}
use Rattle.wire_write.specs.Put.{bytes_of, paste}
use Rattle.wire_write.proofs.Laws.{four_bytes_lem, paste-append}
use Rattle.policy_choice.specs.declared.Transforms.{Transforms}
use Rattle.policy_choice.specs.declared.Transforms.TheVariants.{One, Two}
use Rattle.sa_fields.specs.declared.TransformNumber.{TransformNumber}
use Rattle.quick_end.specs.declared.Role.{Role}
use Rattle.quick_end.specs.declared.Role.TheVariants.{Initiator, Responder}
use Rattle.quick_end.specs.declared.State.{State}
use Rattle.quick_end.specs.declared.State.TheVariants.{Idle, Sent, Half, Open, GivenUp}
use Rattle.quick_end.specs.declared.Spis.{Spis}
use Rattle.quick_end.specs.declared.Spis.TheVariants.{Alone, Both}
use Rattle.quick_end.specs.declared.Agreed.{Agreed}
use Rattle.quick_end.specs.declared.Progress.{Progress}
use Rattle.quick_end.specs.declared.Own.{Own}
use Rattle.quick_end.specs.declared.End.{End}
use Rattle.exports_end.proofs.Values.{three-transforms}
use Rattle.quick_end.specs.contracts.Role as roles
use Rattle.quick_end.specs.contracts.State as states
use Rattle.exports_end.specs.Ends.{state_number, state_of, role_number, role_of, transforms_values, spis_values, spis_bytes, agreed_bytes, progress_bytes, own_bytes, end_bytes, transforms_of, spis_in, agreed_of, progress_of, own_in, end_of}

-- ---- kinds by their numbers, as the cast has them

pub state-tagged : (state : State) → tag_of states.the_type state ≡ state_number state
unfolding state_number
state-tagged Idle = refl
state-tagged Sent = refl
state-tagged Half = refl
state-tagged Open = refl
state-tagged GivenUp = refl

pub role-tagged : (role : Role) → tag_of roles.the_type role ≡ role_number role
unfolding role_number
role-tagged Initiator = refl
role-tagged Responder = refl

-- ---- reading

module _ (number : ℕ) where
  pub state_idle : number ≡ 0 → Idle ≡ state_of number
  unfolding state_of
  state_idle h = rw h

  pub state_sent : number ≡ 1 → Sent ≡ state_of number
  unfolding state_of
  state_sent h = rw h

  pub state_half : number ≡ 2 → Half ≡ state_of number
  unfolding state_of
  state_half h = rw h

  pub state_open : number ≡ 3 → Open ≡ state_of number
  unfolding state_of
  state_open h = rw h

  pub state_given-up : (number ≡ 0 → ⊥) → (number ≡ 1 → ⊥) → (number ≡ 2 → ⊥) → (number ≡ 3 → ⊥) → GivenUp ≡ state_of number
  unfolding state_of
  state_given-up a b c d = rw (ne_eqb number 0 a, ne_eqb number 1 b, ne_eqb number 2 c, ne_eqb number 3 d)

  pub role_initiator : number ≡ 0 → Initiator ≡ role_of number
  unfolding role_of
  role_initiator h = rw h

  pub role_responder : (number ≡ 0 → ⊥) → Responder ≡ role_of number
  unfolding role_of
  role_responder some = rw (ne_eqb number 0 some)

module _ (s : List ℕ) (count first second : ℕ) (ec : count ≡ get_or s 0 0) where
  module _ (ef : first ≡ get_or s 1 0) where
    pub transforms-one : (count ≡ 2 → ⊥) → One (record { 0 = first }) ≡ transforms_of s
    unfolding transforms_of
    transforms-one h = rw (← ec, ne_eqb count 2 h, ← ef)

    pub transforms-two : count ≡ 2 → second ≡ get_or s 2 0 → Two (record { 0 = first }) (record { 0 = second }) ≡ transforms_of s
    unfolding transforms_of
    transforms-two h es = rw (← ec, eq-eqb count 2 h, ← ef, ← es)

  module _ (ef : first ≡ number_at 4 s 1) where
    pub spis_alone : (count ≡ 2 → ⊥) → Alone first ≡ spis_in s
    unfolding spis_in
    spis_alone h = rw (← ec, ne_eqb count 2 h, ← ef)

    pub spis_both : count ≡ 2 → second ≡ number_at 4 s 5 → Both first second ≡ spis_in s
    unfolding spis_in
    spis_both h es = rw (← ec, eq-eqb count 2 h, ← ef, ← es)

pub agreed_read : (s a b c : List ℕ) (set : ℕ) (transforms : Transforms) (initiator responder : Spis) → set ≡ get_or s 0 0 →
    a ≡ drop 1 s → transforms ≡ transforms_of a → b ≡ drop 4 s → initiator ≡ spis_in b → c ≡ drop 13 s → responder ≡ spis_in c →
    record { set = record { 0 = set }; transforms = transforms; initiator = initiator; responder = responder } ≡ agreed_of s
unfolding agreed_of
agreed_read s a b c set transforms initiator responder en ea et eb ei ec er = rw (en, et, ea, ei, eb, er, ec)

pub progress-read : (s a : List ℕ) (number sends id sentsize gotsize : ℕ) (state : State) (agreed : Agreed) → number ≡ get_or s 0 0 →
    state ≡ state_of number → a ≡ drop 10 s → agreed ≡ agreed_of a →
    sends ≡ get_or s 1 0 → id ≡ number_at 4 s 2 → sentsize ≡ number_at 2 s 6 → gotsize ≡ number_at 2 s 8 →
    record { state = state; sends = sends; id = id; sentsize = sentsize; gotsize = gotsize; agreed = agreed } ≡ progress_of s
unfolding progress_of
progress-read s a number sends id sentsize gotsize state agreed en es ea eg e1 e2 e3 e4 = rw (es, en, eg, ea, e1, e2, e3, e4)

pub own_read : (s a b book nonce : List ℕ) (number icookie rcookie ah esp booksize noncesize : ℕ) (role : Role) → number ≡ get_or s 0 0 →
    role ≡ role_of number → a ≡ drop 28 s → book ≡ paste (replicate 82 0) 0 a → b ≡ drop 110 s → nonce ≡ paste (replicate 256 0) 0 b →
    icookie ≡ number_at 8 s 4 → rcookie ≡ number_at 8 s 12 → ah ≡ number_at 4 s 20 → esp ≡ number_at 4 s 24 → booksize ≡ get_or s 1 0 →
    noncesize ≡ number_at 2 s 2 →
    record {
      role = role;
      icookie = icookie;
      rcookie = rcookie;
      ah = ah;
      esp = esp;
      booksize = booksize;
      book = book;
      noncesize = noncesize;
      nonce = nonce;
    } ≡ own_in s
unfolding own_in
own_read s a b book nonce number icookie rcookie ah esp booksize noncesize role en er ea eb ec ed e1 e2 e3 e4 e5 e6 =
    rw (er, en, eb, ea, ed, ec, e1, e2, e3, e4, e5, e6)

pub end_read : (s a : List ℕ) (progress : Progress) (own : Own) → progress ≡ progress_of s → a ≡ drop 32 s → own ≡ own_in a →
    record { own = own; progress = progress } ≡ end_of s
unfolding end_of
end_read s a progress own ep ea eo = rw (ep, eo, ea)

-- ---- writing

module _ (transforms : Transforms) (first second : TransformNumber) where
  pub values_one : transforms ≡ One first → 1 ∷ first.0 ∷ 0 ∷ [] ≡ transforms_values transforms
  unfolding transforms_values
  values_one is = rw is

  pub values-two : transforms ≡ Two first second → 2 ∷ first.0 ∷ second.0 ∷ [] ≡ transforms_values transforms
  unfolding transforms_values
  values-two is = rw is

module _ (spis : Spis) (first second : ℕ) where
  pub values-alone : spis ≡ Alone first → 1 ∷ first ∷ 0 ∷ [] ≡ spis_values spis
  unfolding spis_values
  values-alone is = rw is

  pub values-both : spis ≡ Both first second → 2 ∷ first ∷ second ∷ [] ≡ spis_values spis
  unfolding spis_values
  values-both is = rw is

nine_bytes : (spis : Spis) → length (spis_bytes spis) ≡ 9
unfolding spis_bytes bytes_of
nine_bytes spis = refl

count_small : (spis : Spis) → get_or (spis_values spis) 0 0 % 256 ≡ get_or (spis_values spis) 0 0
unfolding spis_values
count_small (Alone first) = refl
count_small (Both first second) = refl

-- a run written behind another that has n bytes
behind : (l b c : List ℕ) (i n : ℕ) (xs ys : List ℕ) → length xs ≡ n → b ≡ paste l i xs → c ≡ paste b (i + n) ys → c ≡ paste l i (xs ++ ys)
behind l b c i n xs ys en eb ec = rw (ec, eb, ← en) (paste-append l i xs ys)

low_bytes : (x : ℕ) → bytes_of 4 (x % 4294967296) ≡ bytes_of 4 x
low_bytes x =
    let first : x % 4294967296 / 16777216 % 256 ≡ x / 16777216 % 256 = omega arith in
    let second : x % 4294967296 / 65536 % 256 ≡ x / 65536 % 256 = omega arith in
    let third : x % 4294967296 / 256 % 256 ≡ x / 256 % 256 = omega arith in
    let fourth : x % 4294967296 % 256 ≡ x % 256 = omega arith in
    four_bytes_lem (x % 4294967296) ∙ rw (first, second, third, fourth) (sym (four_bytes_lem x))

module _ (spis : Spis) where
  abbrev up_to_second : List ℕ
  up_to_second = get_or (spis_values spis) 0 0 ∷ bytes_of 4 (get_or (spis_values spis) 1 0)

  five_bytes : length up_to_second ≡ 5
  unfolding bytes_of
  five_bytes = refl

  pub spis_written : (values l b1 b2 b3 : List ℕ) (at : ℕ) → values ≡ spis_values spis → b1 ≡ paste l at (get_or values 0 0 % 256 ∷ []) →
      b2 ≡ paste b1 (at + 1) (bytes_of 4 (get_or values 1 0 % 4294967296)) → b3 ≡ paste b2 (at + 5) (bytes_of 4 (get_or values 2 0 % 4294967296)) →
      b3 ≡ paste l at (spis_bytes spis)
  unfolding spis_bytes
  spis_written values l b1 b2 b3 at ev e1 e2 e3 =
      let count : b1 ≡ paste l at (get_or (spis_values spis) 0 0 ∷ []) = rw (← count_small spis, ← ev) e1 in
      let one : b2 ≡ paste b1 (at + 1) (bytes_of 4 (get_or (spis_values spis) 1 0)) = rw (← low_bytes (get_or (spis_values spis) 1 0), ← ev) e2 in
      let two : b3 ≡ paste b2 (at + 5) (bytes_of 4 (get_or (spis_values spis) 2 0)) = rw (← low_bytes (get_or (spis_values spis) 2 0), ← ev) e3 in
      let first = behind l b1 b2 at 1 (get_or (spis_values spis) 0 0 ∷ []) (bytes_of 4 (get_or (spis_values spis) 1 0)) refl count one in
      behind l b2 b3 at 5 up_to_second (bytes_of 4 (get_or (spis_values spis) 2 0)) five_bytes first two

module _ (agreed : Agreed) where
  abbrev up_to_spis : List ℕ
  up_to_spis = agreed.set.0 ∷ transforms_values agreed.transforms

  four_values : length up_to_spis ≡ 4
  four_values = omega (arith, ap length (three-transforms agreed.transforms))

  thirteen : length (up_to_spis ++ spis_bytes agreed.initiator) ≡ 13
  thirteen = length-append up_to_spis (spis_bytes agreed.initiator) ∙ omega (arith, four_values, nine_bytes agreed.initiator)

  pub length_agreed : length (agreed_bytes agreed) ≡ 22
  unfolding agreed_bytes
  length_agreed =
      length-append (up_to_spis ++ spis_bytes agreed.initiator) (spis_bytes agreed.responder)
      ∙ omega (arith, thirteen, nine_bytes agreed.responder)

  pub agreed_written : (values l b1 b2 b3 : List ℕ) → values ≡ transforms_values agreed.transforms →
      b1 ≡ paste l 10 (agreed.set.0 ∷ get_or values 0 0 ∷ get_or values 1 0 ∷ get_or values 2 0 ∷ []) → b2 ≡ paste b1 14 (spis_bytes agreed.initiator) →
      b3 ≡ paste b2 23 (spis_bytes agreed.responder) → b3 ≡ paste l 10 (agreed_bytes agreed)
  unfolding agreed_bytes
  agreed_written values l b1 b2 b3 ev e1 e2 e3 =
      let first : b1 ≡ paste l 10 up_to_spis = rw (three-transforms agreed.transforms, ← ev) e1 in
      let second = behind l b1 b2 10 4 up_to_spis (spis_bytes agreed.initiator) four_values first e2 in
      behind l b2 b3 10 13 (up_to_spis ++ spis_bytes agreed.initiator) (spis_bytes agreed.responder) thirteen second e3

module _ (progress : Progress) where
  abbrev up_to_sizes : List ℕ
  up_to_sizes = state_number progress.state ∷ progress.sends ∷ bytes_of 4 progress.id

  abbrev up_to_agreed : List ℕ
  up_to_agreed = up_to_sizes ++ bytes_of 2 progress.sentsize ++ bytes_of 2 progress.gotsize

  six_bytes : length up_to_sizes ≡ 6
  unfolding bytes_of
  six_bytes = refl

  eight_bytes_lem : length (up_to_sizes ++ bytes_of 2 progress.sentsize) ≡ 8
  unfolding bytes_of
  eight_bytes_lem = refl

  ten_bytes : length up_to_agreed ≡ 10
  unfolding bytes_of
  ten_bytes = refl

  pub length_progress : length (progress_bytes progress) ≡ 32
  unfolding progress_bytes
  length_progress = length-append up_to_agreed (agreed_bytes progress.agreed) ∙ omega (arith, ten_bytes, length_agreed progress.agreed)

  pub progress-written : (l b1 b2 b3 b4 b5 : List ℕ) (number : ℕ) → number ≡ state_number progress.state →
      b1 ≡ paste l 0 (number ∷ progress.sends ∷ []) → b2 ≡ paste b1 2 (bytes_of 4 progress.id) → b3 ≡ paste b2 6 (bytes_of 2 progress.sentsize) →
      b4 ≡ paste b3 8 (bytes_of 2 progress.gotsize) → b5 ≡ paste b4 10 (agreed_bytes progress.agreed) → b5 ≡ paste l 0 (progress_bytes progress)
  unfolding progress_bytes
  progress-written l b1 b2 b3 b4 b5 number en e1 e2 e3 e4 e5 =
      let first : b1 ≡ paste l 0 (state_number progress.state ∷ progress.sends ∷ []) = rw (← en) e1 in
      let second = behind l b1 b2 0 2 (state_number progress.state ∷ progress.sends ∷ []) (bytes_of 4 progress.id) refl first e2 in
      let third = behind l b2 b3 0 6 up_to_sizes (bytes_of 2 progress.sentsize) six_bytes second e3 in
      let fourth = behind l b3 b4 0 8 (up_to_sizes ++ bytes_of 2 progress.sentsize) (bytes_of 2 progress.gotsize) eight_bytes_lem third e4 in
      behind l b4 b5 0 10 up_to_agreed (agreed_bytes progress.agreed) ten_bytes fourth e5

module _ (own : Own) where
  abbrev up_to_cookies : List ℕ
  up_to_cookies = role_number own.role ∷ own.booksize ∷ bytes_of 2 own.noncesize

  abbrev up_to_ah : List ℕ
  up_to_ah = up_to_cookies ++ bytes_of 8 own.icookie ++ bytes_of 8 own.rcookie

  abbrev up_to_book : List ℕ
  up_to_book = up_to_ah ++ bytes_of 4 own.ah ++ bytes_of 4 own.esp

  four : length up_to_cookies ≡ 4
  unfolding bytes_of
  four = refl

  twelve : length (up_to_cookies ++ bytes_of 8 own.icookie) ≡ 12
  unfolding bytes_of
  twelve = refl

  twenty : length up_to_ah ≡ 20
  unfolding bytes_of
  twenty = refl

  twenty_four : length (up_to_ah ++ bytes_of 4 own.ah) ≡ 24
  unfolding bytes_of
  twenty_four = refl

  twenty_eight : length up_to_book ≡ 28
  unfolding bytes_of
  twenty_eight = refl

  pub length_own : length own.book ≡ 82 → length own.nonce ≡ 256 → length (own_bytes own) ≡ 366
  unfolding own_bytes
  length_own book nonce =
      length-append (up_to_book ++ own.book) own.nonce ∙ omega (arith, length-append up_to_book own.book, twenty_eight)

  pub own-written : (l b1 b2 b3 b4 b5 b6 b7 b8 : List ℕ) (number : ℕ) → number ≡ role_number own.role → length own.book ≡ 82 →
      b1 ≡ paste l 32 (number ∷ own.booksize ∷ []) → b2 ≡ paste b1 34 (bytes_of 2 own.noncesize) → b3 ≡ paste b2 36 (bytes_of 8 own.icookie) →
      b4 ≡ paste b3 44 (bytes_of 8 own.rcookie) → b5 ≡ paste b4 52 (bytes_of 4 own.ah) → b6 ≡ paste b5 56 (bytes_of 4 own.esp) →
      b7 ≡ paste b6 60 own.book → b8 ≡ paste b7 142 own.nonce → b8 ≡ paste l 32 (own_bytes own)
  unfolding own_bytes
  own-written l b1 b2 b3 b4 b5 b6 b7 b8 number en long e1 e2 e3 e4 e5 e6 e7 e8 =
      let first : b1 ≡ paste l 32 (role_number own.role ∷ own.booksize ∷ []) = rw (← en) e1 in
      let second = behind l b1 b2 32 2 (role_number own.role ∷ own.booksize ∷ []) (bytes_of 2 own.noncesize) refl first e2 in
      let third = behind l b2 b3 32 4 up_to_cookies (bytes_of 8 own.icookie) four second e3 in
      let fourth = behind l b3 b4 32 12 (up_to_cookies ++ bytes_of 8 own.icookie) (bytes_of 8 own.rcookie) twelve third e4 in
      let fifth = behind l b4 b5 32 20 up_to_ah (bytes_of 4 own.ah) twenty fourth e5 in
      let sixth = behind l b5 b6 32 24 (up_to_ah ++ bytes_of 4 own.ah) (bytes_of 4 own.esp) twenty_four fifth e6 in
      let seventh = behind l b6 b7 32 28 up_to_book own.book twenty_eight sixth e7 in
      behind l b7 b8 32 110 (up_to_book ++ own.book) own.nonce (length-append up_to_book own.book ∙ omega (arith, twenty_eight)) seventh e8

pub end-written : (end : End) (l b1 b2 : List ℕ) → b1 ≡ paste l 0 (progress_bytes end.progress) → b2 ≡ paste b1 32 (own_bytes end.own) →
    b2 ≡ paste l 0 (end_bytes end)
unfolding end_bytes
end-written end l b1 b2 e1 e2 = behind l b1 b2 0 32 (progress_bytes end.progress) (own_bytes end.own) (length_progress end.progress) e1 e2
