-- What is found by its type, or behind a life type of its value, is what the transform offers; and what it offers is found. By steps over the
-- wholes: an attribute that stands alone takes one, a life type and its duration take two.
use Prim.Native.Nat.{ℕ, zero, suc, ◌+◌, ◌≤◌}
use mathlib.Core.Path.{◌≡◌, refl, sym, ap, ◌∙◌}
use mathlib.Core.Logic.{⊎_elim}
use mathlib.Core.List.{List, [], ◌∷◌, ◌++◌, map, append_assoc}
use mathlib.Core.Bool.{true, false, not, ◌&&◌, or-false}
use native.Mathlib.Omega.{arith}
use lib.ListN.{length, take, length-append}
use lib.Dec.{ltb, leb, eqb}
use borrow.Author.Tests.{eqb-true, eqb-false, ne_eqb, leb-true, le-ltb, not-false}
use Rattle.wire_read.specs.Tests.{if◌then◌otherwise◌}
use Rattle.wire_read.specs.Parts.{parts}
use Rattle.wire_read.proofs.Tests.{never, clash, both, by_test}
use Rattle.wire_read.proofs.Parts.{parts_none, parts_more}
use Rattle.sa_attribute.specs.Attributes.{sent_fixed, attribute_type, attribute_size, after_attribute, value_or_length, find, value}
use Rattle.sa_coding.specs.Coding.{must_be_fixed, fixed_wrong, is_duration, duration_wrong, is_life_type}
use Rattle.sa_wholes.specs.Wholes.{joined, One, Whole, alone, pair, attributes_in, attributes_of_all, Orderly, nothing, one_more}
use Rattle.sa_wholes.proofs.Wholes.{in_alone, in_pair}
use Rattle.sa_wholes.proofs.Heads.{type_head, take_head, after-head, value-head}
use Rattle.policy_suits.specs.Suits.{find_duration}
use Rattle.policy_suiting.specs.Suiting.{Offered, single, lifetime, told, at_front}
use Rattle.policy_suiting.proofs.Exactly.{Within, within_more, within_split, none_within, sum}

-- ---- the life type of an exchange

pub data LifeType : (exchange lifetype : ℕ) → Type 0 where
  main-life : LifeType 2 11
  quick-life : LifeType 32 1

pub life-is : {exchange lifetype : ℕ} → LifeType exchange lifetype → (t : ℕ) → is_life_type exchange t ≡ eqb t lifetype
unfolding is_life_type
life-is main-life t = or-false (eqb t 11)
life-is quick-life t = refl

pub duration_no_life : {exchange lifetype : ℕ} → LifeType exchange lifetype → (t : ℕ) → is_duration exchange t ≡ true → eqb t lifetype ≡ false
unfolding is_duration
duration_no_life main-life t h = rw (eqb-true t 12 (sym (or-false (eqb t 12)) ∙ h))
duration_no_life quick-life t h = rw (eqb-true t 2 h)

-- ---- a step of each walk

module _ {exchange : ℕ} {a : List ℕ} (o : One exchange a) (r : List ℕ) where
  pub long_enough : ltb (length (a ++ r)) 4 ≡ false
  long_enough = le-ltb (length (a ++ r)) 4 (omega (arith, length-append a r, o.long))

  find-step : (k t : ℕ) → find (suc k) t (a ++ r) ≡ (if eqb (attribute_type a) t then a otherwise find k t r)
  unfolding find
  find-step k t = rw (long_enough, type_head a r o.long, take_head a r o.long o.size, after-head a r o.long o.size)

  duration-step : (k lifetype unit : ℕ) → find_duration (suc k) lifetype unit (a ++ r)
      ≡ (if eqb (attribute_type a) lifetype && eqb (value a) unit then take (attribute_size r) r otherwise find_duration k lifetype unit r)
  unfolding find_duration
  duration-step k lifetype unit =
      rw (long_enough, type_head a r o.long, value-head a r o.long o.size, after-head a r o.long o.size)

  count-step : (k : ℕ) → parts after_attribute (suc k) (a ++ r) ≡ suc (parts after_attribute k r)
  count-step k =
      parts_more after_attribute k (a ++ r) (omega (arith, length-append a r, o.long))
      ∙ rw (after-head a r o.long o.size)

-- ---- what a whole is told as

pub told-alone : (exchange : ℕ) (a : List ℕ) → is_life_type exchange (attribute_type a) ≡ false → told exchange a ≡ single (attribute_type a) (value a)
unfolding told
told-alone exchange a l = rw l

pub told-pair : {exchange : ℕ} {a : List ℕ} (d : List ℕ) → One exchange a → is_life_type exchange (attribute_type a) ≡ true →
    told exchange (a ++ d) ≡ lifetime (value a) (value d)
unfolding told
told-pair {a = a} d o l = rw (type_head a d o.long, l, value-head a d o.long o.size, after-head a d o.long o.size)

-- ---- sought and offered: it is there with the value that it was found with, or it is missing and nothing was found

pub data Sought (kind : ℕ → Offered) (found : List ℕ) (offered : List Offered) : Type 0 where
  there : 4 ≤ length found → Within (kind (value found)) offered → Sought kind found offered
  missing : length found ≡ 0 → ((v : ℕ) → Within (kind v) offered → ⊥) → Sought kind found offered

-- another is offered before it
sought_on : {kind : ℕ → Offered} {found : List ℕ} {offered : List Offered} (x : Offered) → ((v : ℕ) → x ≡ kind v → ⊥) → Sought kind found offered →
    Sought kind found (x ∷ offered)
sought_on x other (there h m) = there h (within_more x m)
sought_on x other (missing h none) = missing h (λ v m. ⊎_elim (other v) (none v) (within_split m))

find_none : (k t : ℕ) → find k t [] ≡ []
unfolding find
find_none zero t = refl
find_none (suc k) t = refl

duration-none : (k lifetype unit : ℕ) → find_duration k lifetype unit [] ≡ []
unfolding find_duration
duration-none zero lifetype unit = refl
duration-none (suc k) lifetype unit = refl

pub same_type : {t u v w : ℕ} → single t v ≡ single u w → t ≡ u
same_type e = cc

pub same_unit : {t u v w : ℕ} → lifetime t v ≡ lifetime u w → t ≡ u
same_unit e = cc

-- an attribute by its type, which is neither life type nor duration
module _ (exchange t : ℕ) (no-life : is_life_type exchange t ≡ false) (no_duration : is_duration exchange t ≡ false) where
  not-life : (u : ℕ) → is_life_type exchange u ≡ true → eqb u t ≡ false
  not-life u l = ne_eqb u t (λ e. clash (sym no-life ∙ ap (is_life_type exchange) (sym e) ∙ l))

  not-duration : (u : ℕ) → is_duration exchange u ≡ true → eqb u t ≡ false
  not-duration u l = ne_eqb u t (λ e. clash (sym no_duration ∙ ap (is_duration exchange) (sym e) ∙ l))

  pub single_sought : (k : ℕ) {ws : List (List ℕ)} → Orderly exchange ws → attributes_of_all exchange ws ≤ k →
      Sought (single t) (find k t (joined ws)) (map (told exchange) ws)
  unfolding joined attributes_of_all
  single_sought k nothing few = rw (find_none k t) (missing refl (λ v m. none_within m))
  single_sought zero (one_more (alone {a} o l d) others rest) few = absurd (omega (arith, in_alone exchange a l))
  single_sought (suc k) (one_more {ws = ws} (alone {a} o l d) others rest) few =
      rw (find-step o (joined ws) k t, told-alone exchange a l)
      (by_test (eqb (attribute_type a) t)
      (λ e. rw (e, eqb-true (attribute_type a) t e) (there o.long (_, at_front)))
      (λ e. rw e (sought_on (single (attribute_type a) (value a)) (λ v s. eqb-false (attribute_type a) t e (same_type s))
      (single_sought k rest (omega (arith, in_alone exchange a l))))))
  single_sought zero (one_more (pair {a} {d} o p l m) others rest) few = absurd (omega (arith, in_pair exchange d o l))
  single_sought (suc zero) (one_more (pair {a} {d} o p l m) others rest) few = absurd (omega (arith, in_pair exchange d o l))
  single_sought (suc (suc k)) (one_more {ws = ws} (pair {a} {d} o p l m) others rest) few =
      rw (
        append_assoc a d (joined ws),
        find-step o (d ++ joined ws) (suc k) t,
        not-life (attribute_type a) l,
        find-step p (joined ws) k t,
        not-duration (attribute_type d) m,
        told-pair d o l,
      )
      (sought_on (lifetime (value a) (value d)) (λ v s. never (cc)) (single_sought k rest (omega (arith, in_pair exchange d o l))))

-- a lifetime by its life type's value
module _ {exchange lifetype : ℕ} (known : LifeType exchange lifetype) (unit : ℕ) where
  pub lifetime_sought : (k : ℕ) {ws : List (List ℕ)} → Orderly exchange ws → attributes_of_all exchange ws ≤ k →
      Sought (lifetime unit) (find_duration k lifetype unit (joined ws)) (map (told exchange) ws)
  unfolding joined attributes_of_all
  lifetime_sought k nothing few = rw (duration-none k lifetype unit) (missing refl (λ v m. none_within m))
  lifetime_sought zero (one_more (alone {a} o l d) others rest) few = absurd (omega (arith, in_alone exchange a l))
  lifetime_sought (suc k) (one_more {ws = ws} (alone {a} o l d) others rest) few =
      rw (duration-step o (joined ws) k lifetype unit, ← life-is known (attribute_type a), l, told-alone exchange a l)
      (sought_on (single (attribute_type a) (value a)) (λ v s. never (cc)) (lifetime_sought k rest (omega (arith, in_alone exchange a l))))
  lifetime_sought zero (one_more (pair {a} {d} o p l m) others rest) few = absurd (omega (arith, in_pair exchange d o l))
  lifetime_sought (suc zero) (one_more (pair {a} {d} o p l m) others rest) few = absurd (omega (arith, in_pair exchange d o l))
  lifetime_sought (suc (suc k)) (one_more {ws = ws} (pair {a} {d} o p l m) others rest) few =
      rw (
        append_assoc a d (joined ws),
        duration-step o (d ++ joined ws) (suc k) lifetype unit,
        ← life-is known (attribute_type a),
        l,
        take_head d (joined ws) p.long p.size,
        duration-step p (joined ws) k lifetype unit,
        duration_no_life known (attribute_type d) m,
        told-pair d o l,
      )
      (by_test (eqb (value a) unit)
      (λ e. rw (e, eqb-true (value a) unit e) (there p.long (_, at_front)))
      (λ e. rw e (sought_on (lifetime (value a) (value d)) (λ v s. eqb-false (value a) unit e (same_unit s))
      (lifetime_sought k rest (omega (arith, in_pair exchange d o l))))))

-- ---- how many attributes, and how many bytes

-- a lifetime is two attributes
unfoldable pub weight : (x : Offered) → ℕ
weight (single t v) = 1
weight (lifetime u v) = 2

pub weight_some : (x : Offered) → 1 ≤ weight x
unfolding weight
weight_some (single t v) = omega arith
weight_some (lifetime u v) = omega arith

module _ (exchange : ℕ) where
  weight_told : (w : List ℕ) → weight (told exchange w) ≡ attributes_in exchange w
  unfolding weight told attributes_in
  weight_told w = by_test (is_life_type exchange (attribute_type w)) (λ e. rw e) (λ e. rw e)

  weight_all : (ws : List (List ℕ)) → sum weight (map (told exchange) ws) ≡ attributes_of_all exchange ws
  unfolding sum attributes_of_all
  weight_all [] = refl
  weight_all (w ∷ ws) = omega (arith, weight_told w, weight_all ws)

  count-all : (k : ℕ) {ws : List (List ℕ)} → Orderly exchange ws → attributes_of_all exchange ws ≤ k →
      parts after_attribute k (joined ws) ≡ attributes_of_all exchange ws
  unfolding joined attributes_of_all
  count-all k nothing few = parts_none after_attribute k
  count-all zero (one_more (alone {a} o l d) others rest) few = absurd (omega (arith, in_alone exchange a l))
  count-all (suc k) (one_more {ws = ws} (alone {a} o l d) others rest) few =
      rw (count-step o (joined ws) k, in_alone exchange a l) (omega (arith, count-all k rest (omega (arith, in_alone exchange a l))))
  count-all zero (one_more (pair {a} {d} o p l m) others rest) few = absurd (omega (arith, in_pair exchange d o l))
  count-all (suc zero) (one_more (pair {a} {d} o p l m) others rest) few = absurd (omega (arith, in_pair exchange d o l))
  count-all (suc (suc k)) (one_more {ws = ws} (pair {a} {d} o p l m) others rest) few =
      rw (append_assoc a d (joined ws), count-step o (d ++ joined ws) (suc k), count-step p (joined ws) k, in_pair exchange d o l)
      (omega (arith, count-all k rest (omega (arith, in_pair exchange d o l))))

  pub count_weight : (k : ℕ) {ws : List (List ℕ)} → Orderly exchange ws → attributes_of_all exchange ws ≤ k →
      parts after_attribute k (joined ws) ≡ sum weight (map (told exchange) ws)
  count_weight k {ws} orderly few = count-all k orderly few ∙ sym (weight_all ws)

-- a fixed attribute has 4 bytes, and a lifetime's two have at most 12
unfoldable pub room : (x : Offered) → ℕ
room (single t v) = 4
room (lifetime u v) = 12

module _ (exchange : ℕ) {a : List ℕ} (o : One exchange a) where
  fixed_length : must_be_fixed exchange (attribute_type a) ≡ true → length a ≡ 4
  unfolding fixed_wrong attribute_size
  fixed_length h =
      by_test (sent_fixed a)
      (λ e. sym o.size ∙ rw e)
      (λ e. let wrong : fixed_wrong exchange a ≡ true = rw (h, e) in clash (sym o.fixed ∙ wrong))

  duration_length : is_duration exchange (attribute_type a) ≡ true → length a ≤ 8
  unfolding duration_wrong attribute_size
  duration_length h =
      let n : ℕ = value_or_length a in
      by_test (sent_fixed a)
      (λ e. let four : 4 ≡ length a = rw e at o.size in omega arith)
      (λ e.
      let size : 4 + n ≡ length a = rw e at o.size in
      let few : not (leb 1 n && leb n 4) ≡ false = rw (h, e) at o.duration in
      omega (arith, leb-true n 4 (both (leb 1 n) (leb n 4) (not-false _ few)).1))

pub life-fixed : (exchange t : ℕ) → is_life_type exchange t ≡ true → must_be_fixed exchange t ≡ true
unfolding is_life_type must_be_fixed
life-fixed exchange t h =
    by_test (eqb exchange 2 && eqb t 11)
    (λ e. let two = both (eqb exchange 2) (eqb t 11) e in rw (eqb-true exchange 2 two.0, eqb-true t 11 two.1))
    (λ e. let two = both (eqb exchange 32) (eqb t 1) (rw e at h) in rw (eqb-true exchange 32 two.0, eqb-true t 1 two.1))

-- what is offered singly is of types that must be fixed
abbrev pub AllFixed : (exchange : ℕ) (offered : List Offered) → Type 0
AllFixed exchange offered = (t v : ℕ) → Within (single t v) offered → must_be_fixed exchange t ≡ true

module _ (exchange : ℕ) where
  whole_room : {w : List ℕ} → Whole exchange w → ((t v : ℕ) → told exchange w ≡ single t v → must_be_fixed exchange t ≡ true) →
      length w ≤ room (told exchange w)
  unfolding room
  whole_room (alone {a} o l d) fixed =
      rw (told-alone exchange a l) (omega (arith, fixed_length exchange o (fixed _ _ (told-alone exchange a l))))
  whole_room (pair {a} {d} o p l m) fixed =
      rw (told-pair d o l)
      (omega (arith, length-append a d, fixed_length exchange o (life-fixed exchange (attribute_type a) l), duration_length exchange p m))

  pub joined-room : {ws : List (List ℕ)} → Orderly exchange ws → AllFixed exchange (map (told exchange) ws) →
      length (joined ws) ≤ sum room (map (told exchange) ws)
  unfolding joined sum
  joined-room nothing fixed = omega arith
  joined-room (one_more {w} {ws} whole others rest) fixed =
      omega (
        arith,
        length-append w (joined ws),
        whole_room whole (λ t v e. fixed t v (rw e (_, at_front))),
        joined-room rest (λ t v m. fixed t v (within_more (told exchange w) m)),
      )
