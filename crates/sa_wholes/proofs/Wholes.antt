-- Attributes read where and only where they are wholes of which no two are alike, of at most 16 attributes. From the front on, one attribute at a
-- time: before it stand attributes too, fewer than 16, so `repeats` sees all of them; and a duration among them is alike to nothing that begins a whole.
use Prim.Native.Nat.{ℕ, zero, suc, ◌+◌, ◌≤◌, ◌<◌}
use mathlib.Core.Path.{◌≡◌, refl, sym, ap, subst, ◌∙◌}
use mathlib.Core.List.{List, [], ◌∷◌, ◌++◌, append_assoc, append-nil}
use mathlib.Core.Bool.{Bool, true, false, ◌||◌, or-false, or_assoc}
use native.Mathlib.Omega.{arith}
use lib.ListN.{length, take, drop, take-append-drop, length-append}
use lib.Seq.{take-append_seam, drop-append_seam, length-take-le}
use lib.Dec.{ltb, eqb}
use borrow.Author.Tests.{eqb-true, eqb-false, eq-eqb, ne_eqb, ltb-false, le-ltb}
use Rattle.wire_read.proofs.Tests.{clash, both, neither, by_test, passed}
use Rattle.sa_attribute.specs.Attributes.{sent_fixed, attribute_type, attribute_size, after_attribute}
use Rattle.sa_coding.specs.Coding.{out_of_bounds, fixed_wrong, duration_wrong, is_life_type, is_duration, whole_value, alike, repeats, stands_wrong, attribute_code, last_code, attributes_from, attributes_code}
use Rattle.sa_wholes.specs.Wholes.{whole_size, wholes_from, wholes, joined, One, Whole, alone, pair, attributes_in, attributes_of_all, Apart, from_none, from_one, Orderly, nothing, one_more}
use Rattle.sa_wholes.proofs.Heads.{type_head, size-head, fixed-head, duration-head, take_head, after-head, bounds_head, alike-head, head-alike}

-- what is so of attributes that read
pub record Reads (exchange : ℕ) (s : List ℕ) : Type 0 where
  pub orderly : Orderly exchange (wholes exchange s)
  pub all : joined (wholes exchange s) ≡ s
  pub few : attributes_of_all exchange (wholes exchange s) ≤ 16

-- ---- types

eqb_same : (a b : ℕ) → eqb a b ≡ eqb b a
eqb_same a b = by_test (eqb a b) (λ e. rw e (sym (eq-eqb b a (sym (eqb-true a b e))))) (λ e. rw e (sym (ne_eqb b a (λ z. eqb-false a b e (sym z)))))

-- a life type is no duration
pub life_only : (exchange t : ℕ) → is_life_type exchange t ≡ true → is_duration exchange t ≡ false
unfolding is_life_type is_duration
life_only exchange t h =
    by_test (eqb exchange 2)
    (λ e.
    let two : exchange ≡ 2 = eqb-true exchange 2 e in
    let eleven : (eqb t 11 || false) ≡ true = rw two at h in
    by_test (eqb t 11) (λ f. rw (two, eqb-true t 11 f)) (λ f. clash (rw f at eleven)))
    (λ e.
    let two = both (eqb exchange 32) (eqb t 1) (rw e at h) in
    rw (eqb-true exchange 32 two.0, eqb-true t 1 two.1))

duration_only : (exchange t : ℕ) → is_duration exchange t ≡ true → is_life_type exchange t ≡ false
duration_only exchange t h = by_test (is_life_type exchange t) (λ l. clash (sym (life_only exchange t l) ∙ h)) (λ l. l)

module _ (exchange : ℕ) where
  pub alike_same : (a b : List ℕ) → alike exchange a b ≡ alike exchange b a
  unfolding alike
  alike_same a b =
      by_test (eqb (attribute_type a) (attribute_type b))
      (λ e. rw (eqb_same (whole_value a) (whole_value b), eqb-true (attribute_type a) (attribute_type b) e))
      (λ e. rw (e, eqb_same (attribute_type b) (attribute_type a), e))

  -- a duration is not alike to what is none
  other_type : (d v : List ℕ) → is_duration exchange (attribute_type d) ≡ true → is_duration exchange (attribute_type v) ≡ false →
      alike exchange d v ≡ false
  unfolding alike
  other_type d v h g =
      rw (ne_eqb (attribute_type d) (attribute_type v) (λ e. clash (sym g ∙ ap (is_duration exchange) (sym e) ∙ h)))

-- ---- a whole

module _ (exchange : ℕ) where
  -- it begins with no duration, and it has bytes
  whole_type : {w : List ℕ} → Whole exchange w → is_duration exchange (attribute_type w) ≡ false
  whole_type (alone o l d) = d
  whole_type (pair {a} {d} o p l m) = rw (type_head a d o.long) (life_only exchange (attribute_type a) l)

  whole_long : {w : List ℕ} → Whole exchange w → 4 ≤ length w
  whole_long (alone o l d) = o.long
  whole_long (pair {a} {d} o p l m) = omega (arith, o.long, length-append a d)

  whole-size : {w : List ℕ} → Whole exchange w → (r : List ℕ) → whole_size exchange (w ++ r) ≡ length w
  unfolding whole_size
  whole-size (alone {a} o l d) r = rw (type_head a r o.long, l) (size-head a r o.long ∙ o.size)
  whole-size (pair {a} {d} o p l m) r =
      rw (
        append_assoc a d r,
        type_head a (d ++ r) o.long,
        l,
        size-head a (d ++ r) o.long,
        after-head a (d ++ r) o.long o.size,
        size-head d r p.long,
        o.size,
        p.size,
      )
      (sym (length-append a d))

  take_whole : {w : List ℕ} → Whole exchange w → (k : ℕ) (r : List ℕ) → wholes_from (suc k) exchange (w ++ r) ≡ w ∷ wholes_from k exchange r
  unfolding wholes_from
  take_whole {w} whole k r =
      let some : eqb (length (w ++ r)) 0 ≡ false = ne_eqb (length (w ++ r)) 0 (λ z. omega (arith, length-append w r, whole_long whole)) in
      rw (some, whole-size whole r, take-append_seam w r, drop-append_seam w r)

  one-at_least : (w : List ℕ) → 1 ≤ attributes_in exchange w
  unfolding attributes_in
  one-at_least w = by_test (is_life_type exchange (attribute_type w)) (λ e. rw e (omega arith)) (λ e. rw e (omega arith))

  pub in_alone : (a : List ℕ) → is_life_type exchange (attribute_type a) ≡ false → attributes_in exchange a ≡ 1
  unfolding attributes_in
  in_alone a l = rw l

  pub in_pair : {a : List ℕ} (d : List ℕ) → One exchange a → is_life_type exchange (attribute_type a) ≡ true → attributes_in exchange (a ++ d) ≡ 2
  unfolding attributes_in
  in_pair {a} d o l = rw (type_head a d o.long, l)

  orderly_from : (k : ℕ) {ws : List (List ℕ)} → Orderly exchange ws → attributes_of_all exchange ws ≤ k → wholes_from k exchange (joined ws) ≡ ws
  unfolding attributes_of_all joined wholes_from
  orderly_from zero nothing few = refl
  orderly_from (suc k) nothing few = refl
  orderly_from zero (one_more {w} whole apart rest) few = absurd (omega (arith, one-at_least w))
  orderly_from (suc k) (one_more {w} {ws} whole apart rest) few =
      rw (take_whole whole k (joined ws)) (ap (λ (r : List (List ℕ)). w ∷ r) (orderly_from k rest (omega (arith, one-at_least w))))

-- ---- what stands before an attribute

-- n attributes, one behind the other
data Ones (exchange : ℕ) : (n : ℕ) (before : List ℕ) → Type 0 where
  none_yet : Ones exchange zero []
  and_then : {n : ℕ} {a r : List ℕ} → One exchange a → Ones exchange n r → Ones exchange (suc n) (a ++ r)

-- none of the attributes before is alike to one of ws
data Clear (exchange : ℕ) (before : List ℕ) : (ws : List (List ℕ)) → Type 0 where
  clear_none : Clear exchange before []
  clear_more : {w : List ℕ} {ws : List (List ℕ)} → repeats 16 exchange before w ≡ false → Clear exchange before ws → Clear exchange before (w ∷ ws)

module _ (exchange : ℕ) where
  ones-more : {n : ℕ} {before a : List ℕ} → Ones exchange n before → One exchange a → Ones exchange (suc n) (before ++ a)
  ones-more {a = a} none_yet o = rw (← append-nil a) (and_then o none_yet)
  ones-more {a = a} (and_then {a = b} {r = r} p rest) o = rw (append_assoc b r a) (and_then p (ones-more rest o))

  repeats-none : (k : ℕ) (v : List ℕ) → repeats k exchange [] v ≡ false
  unfolding repeats
  repeats-none zero v = refl
  repeats-none (suc k) v = refl

  -- the first of the attributes before, and the others
  repeats-on : (k : ℕ) {a : List ℕ} (r v : List ℕ) → One exchange a → repeats (suc k) exchange (a ++ r) v ≡ (alike exchange a v || repeats k exchange r v)
  unfolding repeats
  repeats-on k {a} r v o =
      let some : ltb (length (a ++ r)) 4 ≡ false = le-ltb (length (a ++ r)) 4 (omega (arith, length-append a r, o.long)) in
      rw (some, alike-head a r o.long o.size exchange v, after-head a r o.long o.size)

  -- an attribute more
  repeats-more : (k : ℕ) {n : ℕ} {before a : List ℕ} (v : List ℕ) → Ones exchange n before → One exchange a → n < k →
      repeats k exchange (before ++ a) v ≡ (repeats k exchange before v || alike exchange a v)
  repeats-more zero v ones o h = absurd (omega arith)
  repeats-more (suc k) {a = a} v none_yet o h =
      ap (λ (s : List ℕ). repeats (suc k) exchange s v) (sym (append-nil a))
      ∙ repeats-on k [] v o
      ∙ rw (repeats-none k v, repeats-none (suc k) v) (or-false (alike exchange a v))
  repeats-more (suc k) {a = a} v (and_then {a = b} {r = r} p rest) o h =
      rw (append_assoc b r a, repeats-on k (r ++ a) v p, repeats-on k r v p, repeats-more k v rest o (omega arith))
      (sym (or_assoc (alike exchange b v) (repeats k exchange r v) (alike exchange a v)))

  -- what follows an attribute does not count
  repeats-head : (k : ℕ) (before : List ℕ) {a : List ℕ} (r : List ℕ) → One exchange a → repeats k exchange before (a ++ r) ≡ repeats k exchange before a
  unfolding repeats
  repeats-head zero before r o = refl
  repeats-head (suc k) before {a} r o =
      rw (head-alike a r o.long o.size exchange before, repeats-head k (after_attribute before) r o)

  -- a whole more: its duration is alike to no attribute that a whole begins with
  repeats-whole : {n : ℕ} {before w : List ℕ} (v : List ℕ) → Ones exchange n before → Whole exchange w → n + attributes_in exchange w ≤ 16 →
      is_duration exchange (attribute_type v) ≡ false → repeats 16 exchange (before ++ w) v ≡ (repeats 16 exchange before v || alike exchange w v)
  repeats-whole v ones (alone {a} o l d) h g = repeats-more 16 v ones o (omega (arith, in_alone exchange a l))
  repeats-whole {before = before} v ones (pair {a} {d} o p l m) h g =
      rw (
        ← append_assoc before a d,
        repeats-more 16 v (ones-more ones o) p (omega (arith, in_pair exchange d o l)),
        repeats-more 16 v ones o (omega (arith, in_pair exchange d o l)),
        other_type exchange d v m g,
        alike-head a d o.long o.size exchange v,
      )
      (or-false (repeats 16 exchange before v || alike exchange a v))

  -- alike to none of the attributes before and the whole w behind them: to none of those, and not to w
  module _ {n : ℕ} {before w : List ℕ} (ones : Ones exchange n before) (whole : Whole exchange w) (few : n + attributes_in exchange w ≤ 16) where
    neither_alike : {v : List ℕ} → Whole exchange v → repeats 16 exchange (before ++ w) v ≡ false →
        (repeats 16 exchange before v ≡ false) × (alike exchange w v ≡ false)
    neither_alike {v} u c =
        neither (repeats 16 exchange before v) (alike exchange w v) (sym (repeats-whole v ones whole few (whole_type exchange u)) ∙ c)

    clear_before : {ws : List (List ℕ)} → Orderly exchange ws → Clear exchange (before ++ w) ws → Clear exchange before ws
    clear_before nothing clear_none = clear_none
    clear_before (one_more u apart rest) (clear_more c clear) = clear_more (neither_alike u c).0 (clear_before rest clear)

    clear_apart : {ws : List (List ℕ)} → Orderly exchange ws → Clear exchange (before ++ w) ws → Apart exchange w ws
    clear_apart nothing clear_none = from_none
    clear_apart (one_more u apart rest) (clear_more c clear) = from_one (neither_alike u c).1 (clear_apart rest clear)

    clear_both : {ws : List (List ℕ)} → Orderly exchange ws → Clear exchange before ws → Apart exchange w ws → Clear exchange (before ++ w) ws
    clear_both nothing clear_none from_none = clear_none
    clear_both (one_more {w = v} u apart rest) (clear_more c clear) (from_one d others) =
        clear_more (repeats-whole v ones whole few (whole_type exchange u) ∙ rw (c, d)) (clear_both rest clear others)

-- ---- one attribute

size_least : (s : List ℕ) → 4 ≤ attribute_size s
unfolding attribute_size
size_least s = by_test (sent_fixed s) (λ e. rw e (omega arith)) (λ e. rw e (omega arith))

-- it begins a whole, or it is the duration behind a life type
data Stands (exchange : ℕ) (before a : List ℕ) : (behind_life_type : Bool) → Type 0 where
  begins : is_duration exchange (attribute_type a) ≡ false → repeats 16 exchange before a ≡ false → Stands exchange before a false
  ends : is_duration exchange (attribute_type a) ≡ true → Stands exchange before a true

-- the attribute at the front, and what reads behind it
data Front (exchange k : ℕ) (behind_life_type : Bool) (before : List ℕ) : (s : List ℕ) → Type 0 where
  front : {a : List ℕ} (r : List ℕ) → One exchange a → Stands exchange before a behind_life_type →
      attributes_from k exchange (is_life_type exchange (attribute_type a)) (before ++ a) r ≡ 0 → Front exchange k behind_life_type before (a ++ r)

module _ (exchange : ℕ) (before : List ℕ) where
  stands_right : {a : List ℕ} {behind_life_type : Bool} (r : List ℕ) → One exchange a → Stands exchange before a behind_life_type →
      stands_wrong exchange behind_life_type before (a ++ r) ≡ false
  unfolding stands_wrong
  stands_right {a} r o (begins d c) = rw (type_head a r o.long, d) (repeats-head exchange 16 before r o ∙ c)
  stands_right {a} r o (ends d) = rw (type_head a r o.long, d)

  stands : {a : List ℕ} (behind_life_type : Bool) (r : List ℕ) → One exchange a → stands_wrong exchange behind_life_type before (a ++ r) ≡ false →
      Stands exchange before a behind_life_type
  unfolding stands_wrong
  stands {a} true r o h =
      by_test (is_duration exchange (attribute_type a)) ends (λ d. clash (sym (rw (type_head a r o.long, d) at h)))
  stands {a} false r o h =
      by_test (is_duration exchange (attribute_type a)) (λ d. clash (sym (rw (type_head a r o.long, d) at h)))
      (λ d. begins d (sym (repeats-head exchange 16 before r o) ∙ (rw (type_head a r o.long, d) at h)))

  -- a lawful attribute's code is 0
  one_code : {a : List ℕ} {behind_life_type : Bool} (r : List ℕ) → One exchange a → Stands exchange before a behind_life_type →
      attribute_code exchange behind_life_type before (a ++ r) ≡ 0
  unfolding attribute_code
  one_code {a} r o t =
      rw (
        bounds_head a r o.long o.size,
        stands_right r o t,
        fixed-head a r o.long exchange,
        o.fixed,
        duration-head a r o.long exchange,
        o.duration,
      )

  code_on : (k : ℕ) {a : List ℕ} {behind_life_type : Bool} (r : List ℕ) → One exchange a → Stands exchange before a behind_life_type →
      attributes_from k exchange (is_life_type exchange (attribute_type a)) (before ++ a) r ≡ 0 → attributes_from (suc k) exchange behind_life_type before (a ++ r) ≡ 0
  unfolding attributes_from
  code_on k {a} r o t h =
      let some : eqb (length (a ++ r)) 0 ≡ false = ne_eqb (length (a ++ r)) 0 (λ z. omega (arith, length-append a r, o.long)) in
      rw (some, one_code r o t, type_head a r o.long, take_head a r o.long o.size, after-head a r o.long o.size) h

  -- and an attribute whose code is 0 is lawful
  record Lawful (behind_life_type : Bool) (s : List ℕ) : Type 0 where
    bounds : out_of_bounds s ≡ false
    standing : stands_wrong exchange behind_life_type before s ≡ false
    form : fixed_wrong exchange s ≡ false
    life : duration_wrong exchange s ≡ false

  lawful : (behind_life_type : Bool) (s : List ℕ) → attribute_code exchange behind_life_type before s ≡ 0 → Lawful behind_life_type s
  unfolding attribute_code
  lawful behind_life_type s h =
      let inside = passed (out_of_bounds s) 15 _ (λ z. omega arith) h in
      let place = passed (stands_wrong exchange behind_life_type before s) 15 _ (λ z. omega arith) inside.1 in
      let fixed = passed (fixed_wrong exchange s) 13 _ (λ z. omega arith) place.1 in
      let duration = passed (duration_wrong exchange s) 13 _ (λ z. omega arith) fixed.1 in
      record { bounds = inside.0; standing = place.0; form = fixed.0; life = duration.0 }

  -- the code of the first attribute, and of those behind it
  both_codes : (k : ℕ) (behind_life_type : Bool) (s : List ℕ) → eqb (length s) 0 ≡ false → attributes_from (suc k) exchange behind_life_type before s ≡ 0 →
      (attribute_code exchange behind_life_type before s ≡ 0)
      × (attributes_from k exchange (is_life_type exchange (attribute_type s)) (before ++ take (attribute_size s) s) (after_attribute s) ≡ 0)
  unfolding attributes_from
  both_codes k behind_life_type s some h =
      let code : ℕ = attribute_code exchange behind_life_type before s in
      by_test (eqb code 0)
      (λ f. (eqb-true code 0 f, rw (some, f) at h))
      (λ f. absurd (eqb-false code 0 f (rw (some, f) at h)))

  module _ (k : ℕ) (behind_life_type : Bool) where
    front_cut : (a r : List ℕ) → 4 ≤ length a → length a ≡ attribute_size (a ++ r) → attributes_from (suc k) exchange behind_life_type before (a ++ r) ≡ 0 →
        Front exchange k behind_life_type before (a ++ r)
    front_cut a r long size h =
        let some : eqb (length (a ++ r)) 0 ≡ false = ne_eqb (length (a ++ r)) 0 (λ z. omega (arith, length-append a r)) in
        let codes = both_codes k behind_life_type (a ++ r) some h in
        let l = lawful behind_life_type (a ++ r) codes.0 in
        let own : attribute_size a ≡ length a = sym (size-head a r long) ∙ sym size in
        let o : One exchange a = record {
          long = long;
          size = own;
          fixed = sym (fixed-head a r long exchange) ∙ l.form;
          duration = sym (duration-head a r long exchange) ∙ l.life;
        } in
        front r o (stands behind_life_type r o l.standing) (rw (type_head a r long, take_head a r long own, after-head a r long own) at codes).1

    front_of : (s : List ℕ) → eqb (length s) 0 ≡ false → attributes_from (suc k) exchange behind_life_type before s ≡ 0 → Front exchange k behind_life_type before s
    unfolding out_of_bounds
    front_of s some h =
        let n : ℕ = attribute_size s in
        let within = (lawful behind_life_type s (both_codes k behind_life_type s some h).0).bounds in
        let fits : n ≤ length s = ltb-false _ _ (neither (ltb (length s) 4) (ltb (length s) n) within).1 in
        let size : length (take n s) ≡ n = length-take-le n s fits in
        let cut : take n s ++ drop n s ≡ s = take-append-drop n s in
        subst (Front exchange k behind_life_type before) cut
        (front_cut (take n s) (drop n s) (omega (arith, size, size_least s)) (rw cut size) (rw cut h))

-- ---- all attributes

-- the wholes of s, of at most k attributes
record Gathered (exchange k : ℕ) (before s : List ℕ) : Type 0 where
  ws : List (List ℕ)
  all : joined ws ≡ s
  few : attributes_of_all exchange ws ≤ k
  orderly : Orderly exchange ws
  clear : Clear exchange before ws

-- at a whole's beginning, or before its duration
data Ahead (exchange : ℕ) (before : List ℕ) : (k : ℕ) (behind_life_type : Bool) (s : List ℕ) → Type 0 where
  between : {k : ℕ} {s : List ℕ} → Gathered exchange k before s → Ahead exchange before k false s
  within : {k : ℕ} {d : List ℕ} (r : List ℕ) → One exchange d → is_duration exchange (attribute_type d) ≡ true → Gathered exchange k (before ++ d) r →
      Ahead exchange before (suc k) true (d ++ r)

module _ (exchange : ℕ) where
  gather_more : {n k j : ℕ} {before w r : List ℕ} → Ones exchange n before → Whole exchange w → n + attributes_in exchange w ≤ 16 →
      repeats 16 exchange before w ≡ false → attributes_in exchange w + k ≤ j → Gathered exchange k (before ++ w) r → Gathered exchange j before (w ++ r)
  unfolding joined attributes_of_all
  gather_more {w = w} ones whole fits c most g = record {
    ws = w ∷ g.ws;
    all = ap (λ (s : List ℕ). w ++ s) g.all;
    few = omega (arith, g.few);
    orderly = one_more whole (clear_apart exchange ones whole fits g.orderly g.clear) g.orderly;
    clear = clear_more c (clear_before exchange ones whole fits g.orderly g.clear);
  }

  ahead_none : (k : ℕ) (behind_life_type : Bool) (before s : List ℕ) → length s ≡ 0 → last_code behind_life_type ≡ 0 → Ahead exchange before k behind_life_type s
  unfolding last_code joined attributes_of_all
  ahead_none k true before s z h = absurd (omega arith)
  ahead_none k false before [] z h =
      between {k = k} (record { ws = []; all = refl; few = omega arith; orderly = nothing; clear = clear_none })
  ahead_none k false before (b ∷ s) z h = absurd (omega arith)

  ahead_more : {n k : ℕ} {before a r : List ℕ} {behind_life_type is_life : Bool} → Ones exchange n before → n + suc k ≤ 16 → One exchange a →
      Stands exchange before a behind_life_type → is_life_type exchange (attribute_type a) ≡ is_life → Ahead exchange (before ++ a) k is_life r →
      Ahead exchange before (suc k) behind_life_type (a ++ r)
  ahead_more {k = k} {a = a} ones fits o (begins d c) l (between g) =
      between {k = suc k} (gather_more ones (alone o l d) (omega (arith, in_alone exchange a l)) c (omega (arith, in_alone exchange a l)) g)
  ahead_more {before = before} {a = a} ones fits o (begins d c) l (within {k} {d = e} r p m g) =
      rw (← append_assoc a e r)
      (between {k = suc (suc k)}
      (gather_more ones (pair o p l m) (omega (arith, in_pair exchange e o l)) (repeats-head exchange 16 before e o ∙ c)
      (omega (arith, in_pair exchange e o l)) (rw (append_assoc before a e) at g)))
  ahead_more ones fits o (ends d) l (between g) = within _ o d g
  ahead_more {a = a} ones fits o (ends d) l (within r p m g) = clash (sym (life_only exchange (attribute_type a) l) ∙ d)

  -- by the attribute at the front, where all goes on behind it
  ahead_front : {n k : ℕ} {before s : List ℕ} {behind_life_type : Bool} → Ones exchange n before → n + suc k ≤ 16 →
      ((is_life : Bool) (behind r : List ℕ) → Ones exchange (suc n) behind → attributes_from k exchange is_life behind r ≡ 0 → Ahead exchange behind k is_life r) →
      Front exchange k behind_life_type before s → Ahead exchange before (suc k) behind_life_type s
  ahead_front {before = before} ones fits on (front {a} r o t rest) =
      ahead_more ones fits o t refl (on (is_life_type exchange (attribute_type a)) (before ++ a) r (ones-more exchange ones o) rest)

  ahead : (k : ℕ) {n : ℕ} (behind_life_type : Bool) {before : List ℕ} (s : List ℕ) → Ones exchange n before → n + k ≤ 16 →
      attributes_from k exchange behind_life_type before s ≡ 0 → Ahead exchange before k behind_life_type s
  unfolding attributes_from
  ahead zero behind_life_type {before} s ones fits h =
      by_test (eqb (length s) 0)
      (λ e. ahead_none zero behind_life_type before s (eqb-true _ _ e) (rw e at h))
      (λ e. absurd (omega (arith, rw e at h)))
  ahead (suc k) behind_life_type {before} s ones fits h =
      by_test (eqb (length s) 0)
      (λ e. ahead_none (suc k) behind_life_type before s (eqb-true _ _ e) (rw e at h))
      (λ e. ahead_front ones fits (λ is_life behind r others rest. ahead k is_life r others (omega arith) rest) (front_of exchange before k behind_life_type s e h))

-- ---- and back

module _ (exchange : ℕ) where
  end_code : (k : ℕ) (before : List ℕ) → attributes_from k exchange false before [] ≡ 0
  unfolding attributes_from last_code
  end_code zero before = refl
  end_code (suc k) before = refl

  -- the code of a pair, where all goes on behind it
  pair_code : (k : ℕ) (before : List ℕ) {a d : List ℕ} (r : List ℕ) → One exchange a → One exchange d → is_life_type exchange (attribute_type a) ≡ true →
      is_duration exchange (attribute_type d) ≡ true → repeats 16 exchange before (a ++ d) ≡ false →
      attributes_from k exchange false (before ++ (a ++ d)) r ≡ 0 → attributes_from (suc (suc k)) exchange false before (a ++ d ++ r) ≡ 0
  pair_code k before {a} {d} r o p l m c h =
      let first : Stands exchange before a false = begins (life_only exchange (attribute_type a) l) (sym (repeats-head exchange 16 before d o) ∙ c) in
      let second = code_on exchange (before ++ a) k r p (ends m) (rw (append_assoc before a d, duration_only exchange (attribute_type d) m) h) in
      rw (append_assoc a d r) (code_on exchange before (suc k) (d ++ r) o first (rw l second))

  orderly_code : (k : ℕ) {n : ℕ} {before : List ℕ} {ws : List (List ℕ)} → Ones exchange n before → n + k ≤ 16 → Orderly exchange ws →
      Clear exchange before ws → attributes_of_all exchange ws ≤ k → attributes_from k exchange false before (joined ws) ≡ 0
  unfolding joined attributes_of_all
  orderly_code k {before = before} ones fits nothing clear few = end_code k before
  orderly_code zero ones fits (one_more {w = w} (alone o l d) apart rest) clear few = absurd (omega (arith, one-at_least exchange w))
  orderly_code (suc k) {before = before} {ws = w ∷ ws} ones fits (one_more (alone o l d) apart rest) (clear_more c clear) few =
      let single : attributes_in exchange w ≡ 1 = in_alone exchange w l in
      let clear_behind = clear_both exchange ones (alone o l d) (omega arith) rest clear apart in
      code_on exchange before k (joined ws) o (begins d c)
      (rw l (orderly_code k (ones-more exchange ones o) (omega arith) rest clear_behind (omega arith)))
  orderly_code zero ones fits (one_more {w = w} (pair o p l m) apart rest) clear few = absurd (omega (arith, one-at_least exchange w))
  orderly_code (suc zero) ones fits (one_more (pair {d = d} o p l m) apart rest) clear few = absurd (omega (arith, in_pair exchange d o l))
  orderly_code (suc (suc k)) {before = before} {ws = w ∷ ws} ones fits (one_more (pair {a} {d} o p l m) apart rest) (clear_more c clear) few =
      let two : attributes_in exchange (a ++ d) ≡ 2 = in_pair exchange d o l in
      let others = rw (append_assoc before a d) at (ones-more exchange (ones-more exchange ones o) p) in
      let clear_behind = clear_both exchange ones (pair o p l m) (omega arith) rest clear apart in
      pair_code k before (joined ws) o p l m c (orderly_code k others (omega arith) rest clear_behind (omega arith))

-- ---- attributes read where and only where they are orderly wholes

module _ (exchange : ℕ) where
  pub orderly-wholes : (ws : List (List ℕ)) → Orderly exchange ws → attributes_of_all exchange ws ≤ 16 → wholes exchange (joined ws) ≡ ws
  unfolding wholes
  orderly-wholes ws orderly few = orderly_from exchange 16 orderly few

  gathered : {s : List ℕ} → Ahead exchange [] 16 false s → Gathered exchange 16 [] s
  gathered (between g) = g

  pub reads-orderly : (s : List ℕ) → attributes_code exchange s ≡ 0 → Reads exchange s
  unfolding attributes_code
  reads-orderly s h =
      let g = gathered (ahead exchange 16 false s none_yet (omega arith) h) in
      let own : wholes exchange s ≡ g.ws = ap (wholes exchange) (sym g.all) ∙ orderly-wholes g.ws g.orderly g.few in
      record { orderly = rw own g.orderly; all = rw own g.all; few = rw own g.few }

  clear_all : (ws : List (List ℕ)) → Clear exchange [] ws
  clear_all [] = clear_none
  clear_all (w ∷ ws) = clear_more (repeats-none exchange 16 w) (clear_all ws)

  pub orderly-reads : (ws : List (List ℕ)) → Orderly exchange ws → attributes_of_all exchange ws ≤ 16 → attributes_code exchange (joined ws) ≡ 0
  unfolding attributes_code
  orderly-reads ws orderly few = orderly_code exchange 16 none_yet (omega arith) orderly (clear_all ws) few
