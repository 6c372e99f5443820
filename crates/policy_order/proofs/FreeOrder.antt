-- "Order is free" for wholes: Exactly holds in both directions and from list to list, and what makes wholes orderly does not ask for their order.
-- So a transform with its wholes in another order reads as before, and offers and suits the same.
use Prim.Native.Nat.{ℕ, ◌+◌, ◌≤◌, ◌<◌}
use mathlib.Core.Path.{◌≡◌, refl, sym, ap, ◌∙◌}
use mathlib.Core.Logic.{◌⊎◌, ⊎_elim}
use mathlib.Core.List.{List, ◌∷◌, ◌++◌, map}
use mathlib.Core.Bool.{false, not}
use native.Mathlib.Omega.{arith}
use lib.ListN.{length, get_or, take, length-drop, length-append, get_or-append}
use lib.Seq.{length-take-le, take-append_seam, get_or-take, drop_at}
use lib.Dec.{ltb, eqb}
use borrow.Author.Tests.{le-ltb}
use Rattle.wire_read.specs.Wire.{number_at}
use Rattle.wire_read.specs.Tests.{if◌then◌otherwise◌}
use Rattle.wire_read.proofs.Tests.{by_test}
use Rattle.wire_read.proofs.Laws.{number_agree, number_append}
use Rattle.sa_fields.specs.Fields.{transform_id, attributes_of}
use Rattle.sa_coding.specs.Coding.{alike, attributes_code}
use Rattle.sa_wholes.specs.Wholes.{wholes, joined, Whole, attributes_in, attributes_of_all, Apart, from_none, from_one, Orderly}
use Rattle.sa_wholes.specs.Wholes as Wholes
use Rattle.sa_wholes.proofs.Wholes.{reads-orderly, orderly-reads, orderly-wholes, alike_same}
use Rattle.sa_transforms.specs.Transforms.{next_wanted, transform_wrong, transform_code}
use Rattle.sa_transforms.proofs.Laws.{LawfulTransform}
use Rattle.policy_suiting.specs.Suiting.{Offered, PutIn, at_front, behind, Exactly, nothing, one_more, told, offered_list, Matches, TransformSuits, main, quick}

-- ---- lists that have exactly the same

module _ {A : Type 0} where
  -- two that were put in may be taken out in either order
  put_swap : {x y : A} (one : List A) {two all : List A} → PutIn x one two → PutIn y two all → (other : List A) × PutIn y one other × PutIn x other all
  put_swap one p at_front = (_, at_front, behind p)
  put_swap one at_front (behind q) = (_, q, at_front)
  put_swap one (behind {rest = rest} p) (behind q) = let (other, f, g) = put_swap rest p q in (_, behind f, behind g)

  take_out : {x : A} {rest whole found : List A} → PutIn x rest whole → Exactly whole found → (others : List A) × PutIn x others found × Exactly rest others
  take_out at_front (one_more e q) = (_, q, e)
  take_out (behind p) (one_more e q) =
      let (others, f, g) = take_out p e in
      let (more, h, k) = put_swap _ f q in
      (more, k, one_more g h)

  put_first : {x : A} {rest whole found : List A} → PutIn x rest whole → Exactly rest found → Exactly whole (x ∷ found)
  put_first at_front e = one_more e at_front
  put_first (behind p) (one_more e q) = one_more (put_first p e) (behind q)

  exactly_back : {wanted found : List A} → Exactly wanted found → Exactly found wanted
  exactly_back nothing = nothing
  exactly_back (one_more e p) = put_first p (exactly_back e)

  exactly_on : {wanted found again : List A} → Exactly wanted found → Exactly found again → Exactly wanted again
  exactly_on nothing f = f
  exactly_on (one_more e p) f = let (others, q, g) = take_out p f in one_more (exactly_on e g) q

module _ {A B : Type 0} (f : A → B) where
  put_map : {x : A} {rest whole : List A} → PutIn x rest whole → PutIn (f x) (map f rest) (map f whole)
  put_map at_front = at_front
  put_map (behind p) = behind (put_map p)

  exactly_map : {wanted found : List A} → Exactly wanted found → Exactly (map f wanted) (map f found)
  exactly_map nothing = nothing
  exactly_map (one_more e p) = one_more (exactly_map e) (put_map p)

-- ---- wholes in another order

joined-put : {w : List ℕ} {rest ws : List (List ℕ)} → PutIn w rest ws → length (joined ws) ≡ length w + length (joined rest)
unfolding joined
joined-put {w} {rest} at_front = length-append w (joined rest)
joined-put {w} (behind {y = v} {rest = rest} {whole = ws} p) = omega (arith, length-append v (joined ws), length-append v (joined rest), joined-put p)

joined-long : {ws qs : List (List ℕ)} → Exactly ws qs → length (joined qs) ≡ length (joined ws)
unfolding joined
joined-long nothing = refl
joined-long (one_more {x = w} {wanted = ws} e p) = omega (arith, joined-put p, joined-long e, length-append w (joined ws))

module _ (exchange : ℕ) where
  all-put : {w : List ℕ} {rest ws : List (List ℕ)} → PutIn w rest ws →
      attributes_of_all exchange ws ≡ attributes_in exchange w + attributes_of_all exchange rest
  unfolding attributes_of_all
  all-put at_front = refl
  all-put (behind p) = omega (arith, all-put p)

  all_same : {ws qs : List (List ℕ)} → Exactly ws qs → attributes_of_all exchange qs ≡ attributes_of_all exchange ws
  unfolding attributes_of_all
  all_same nothing = refl
  all_same (one_more e p) = omega (arith, all-put p, all_same e)

  apart_put : {v w : List ℕ} {rest ws : List (List ℕ)} → PutIn w rest ws → alike exchange v w ≡ false → Apart exchange v rest → Apart exchange v ws
  apart_put at_front h a = from_one h a
  apart_put (behind p) h (from_one g a) = from_one g (apart_put p h a)

  apart_same : {v : List ℕ} {ws qs : List (List ℕ)} → Exactly ws qs → Apart exchange v ws → Apart exchange v qs
  apart_same nothing from_none = from_none
  apart_same (one_more e p) (from_one h a) = apart_put p h (apart_same e a)

  orderly-put : {w : List ℕ} {rest ws : List (List ℕ)} → PutIn w rest ws → Whole exchange w → Apart exchange w rest → Orderly exchange rest →
      Orderly exchange ws
  orderly-put at_front whole apart orderly = Wholes.one_more whole apart orderly
  orderly-put {w} (behind {y = v} p) whole (from_one h apart) (Wholes.one_more also others orderly) =
      Wholes.one_more also (apart_put p (alike_same exchange v w ∙ h) others) (orderly-put p whole apart orderly)

  orderly-same : {ws qs : List (List ℕ)} → Exactly ws qs → Orderly exchange ws → Orderly exchange qs
  orderly-same nothing Wholes.nothing = Wholes.nothing
  orderly-same (one_more e p) (Wholes.one_more whole apart orderly) = orderly-put p whole (apart_same e apart) (orderly-same e orderly)

-- ---- a transform's attributes with their wholes in another order

-- what they have in common
pub record SameWholes (exchange : ℕ) (s q : List ℕ) : Type 0 where
  pub reads : attributes_code exchange q ≡ 0
  pub long : length q ≡ length s
  pub offers : Exactly (offered_list exchange s) (offered_list exchange q)

pub free_order : (exchange : ℕ) (s : List ℕ) (qs : List (List ℕ)) → attributes_code exchange s ≡ 0 → Exactly (wholes exchange s) qs →
    SameWholes exchange s (joined qs)
unfolding offered_list
free_order exchange s qs h e =
    let r = reads-orderly exchange s h in
    let orderly : Orderly exchange qs = orderly-same exchange e r.orderly in
    let few : attributes_of_all exchange qs ≤ 16 = omega (arith, all_same exchange e, r.few) in
    record {
      reads = orderly-reads exchange qs orderly few;
      long = joined-long e ∙ ap length r.all;
      offers = rw (orderly-wholes exchange qs orderly few) (exactly_map (told exchange) e);
    }

-- ---- and the transform

module _ {id longest : ℕ} {wanted : (life : ℕ) → List Offered} {t u : List ℕ} (exchange : ℕ) (same_id : transform_id u ≡ transform_id t)
    (offers : Exactly (offered_list exchange (attributes_of t)) (offered_list exchange (attributes_of u))) where
  matches_on : Matches exchange id longest wanted t → Matches exchange id longest wanted u
  matches_on m = record {
    same_id = same_id ∙ m.same_id;
    life = m.life;
    from_one = m.from_one;
    to_seconds = m.to_seconds;
    traffic = m.traffic;
    if_present = m.if_present;
    attributes = exactly_on m.attributes offers;
  }

module _ {exchange i protocol : ℕ} {book t u : List ℕ} (known : (exchange ≡ 2) ⊎ (exchange ≡ 32)) (same_id : transform_id u ≡ transform_id t)
    (offers : Exactly (offered_list exchange (attributes_of t)) (offered_list exchange (attributes_of u))) where
  suits-on : TransformSuits exchange i book protocol t → TransformSuits exchange i book protocol u
  suits-on (main two m) = main two (matches_on 2 same_id (rw two at offers) m)
  suits-on (quick other m) =
      quick other (matches_on 32 same_id (⊎_elim (λ two. absurd (other two)) (λ e. rw e at offers) known) m)

-- where a transform is lawful, its next field and its number decide what is answered
lawful_code_lem : (exchange : ℕ) (t : List ℕ) → LawfulTransform exchange t → (left least : ℕ) (rest : List ℕ) →
    transform_code exchange left least (t ++ rest)
    ≡ (if not (eqb (get_or t 0 0) (next_wanted left)) then 15 otherwise if ltb (get_or t 4 0) least then 15 otherwise 0)
unfolding transform_code transform_wrong
lawful_code_lem exchange t l left least rest =
    let long : 8 ≤ length t = l.long in
    let size : length (t ++ rest) ≡ length t + length rest = length-append t rest in
    rw (
      le-ltb (length (t ++ rest)) 8 (omega arith),
      get_or-append t rest 0 0 (omega arith),
      get_or-append t rest 0 1 (omega arith),
      get_or-append t rest 0 4 (omega arith),
      number_append 2 t rest 2 (omega arith),
      number_append 2 t rest 6 (omega arith),
      l.lies,
      l.reserved,
      l.also_reserved,
      le-ltb (length t) 8 long,
      le-ltb (length (t ++ rest)) (length t) (omega arith),
      take-append_seam t rest,
      l.attributes,
    )
    (by_test (eqb (get_or t 0 0) (next_wanted left)) (λ e. rw e) (λ e. rw e))

-- t is one transform that reads, and qs are its wholes in another order
module _ (exchange : ℕ) (t : List ℕ) (lawful : LawfulTransform exchange t) (qs : List (List ℕ)) (order : Exactly (wholes exchange (attributes_of t)) qs) where
  abbrev u : List ℕ
  u = take 8 t ++ joined qs

  same-wholes : SameWholes exchange (attributes_of t) (joined qs)
  unfolding attributes_of
  same-wholes = free_order exchange (attributes_of t) qs lawful.attributes order

  front_long : length (take 8 t) ≡ 8
  front_long = length-take-le 8 t lawful.long

  same_length : length u ≡ length t
  unfolding attributes_of
  same_length = omega (arith, length-append (take 8 t) (joined qs), front_long, same-wholes.long, length-drop 8 t, lawful.long)

  its_attributes : attributes_of u ≡ joined qs
  unfolding attributes_of
  its_attributes = drop_at (take 8 t) (joined qs) 8 front_long

  same_byte : (k : ℕ) → k < 8 → get_or u k 0 ≡ get_or t k 0
  same_byte k h = get_or-append (take 8 t) (joined qs) 0 k (omega (arith, front_long)) ∙ get_or-take 8 t k 0 h

  same_number : (n k : ℕ) → k + n ≤ 8 → number_at n u k ≡ number_at n t k
  same_number n k h = number_agree n u t k k (λ j l. same_byte (k + j) (omega arith))

  same_offers : Exactly (offered_list exchange (attributes_of t)) (offered_list exchange (attributes_of u))
  same_offers = rw its_attributes same-wholes.offers

  same_id : transform_id u ≡ transform_id t
  unfolding transform_id
  same_id = same_byte 5 (omega arith)

  -- it is one transform that reads
  lawful_order : LawfulTransform exchange u
  unfolding attributes_of
  lawful_order = record {
    long = omega (arith, same_length, lawful.long);
    lies = same_number 2 2 (omega arith) ∙ lawful.lies ∙ sym same_length;
    reserved = same_byte 1 (omega arith) ∙ lawful.reserved;
    also_reserved = same_number 2 6 (omega arith) ∙ lawful.also_reserved;
    attributes = ap (attributes_code exchange) its_attributes ∙ same-wholes.reads;
  }

  -- with the same answer, whatever follows it
  pub reads_order : (left least : ℕ) (rest : List ℕ) → transform_code exchange left least (u ++ rest) ≡ transform_code exchange left least (t ++ rest)
  reads_order left least rest =
      rw (
        lawful_code_lem exchange u lawful_order left least rest,
        lawful_code_lem exchange t lawful left least rest,
        same_byte 0 (omega arith),
        same_byte 4 (omega arith),
      )

  -- and suits the same lines
  module _ (known : (exchange ≡ 2) ⊎ (exchange ≡ 32)) (i : ℕ) (book : List ℕ) (protocol : ℕ) where
    pub suits_order : TransformSuits exchange i book protocol t → TransformSuits exchange i book protocol u
    suits_order = suits-on known same_id same_offers

    pub order_suits : TransformSuits exchange i book protocol u → TransformSuits exchange i book protocol t
    order_suits = suits-on known (sym same_id) (exactly_back same_offers)
