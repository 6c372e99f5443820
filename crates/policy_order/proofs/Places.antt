-- What stands at which place in attributes that read, counted from 0: what begins at attribute j of s is skip after_attribute j s. Wholes that
-- are orderly make a row of attributes in which each life type has its duration behind it, and no two that are no durations are alike.
use Prim.Native.Nat.{ℕ, zero, suc, ◌+◌, ◌≤◌, ◌<◌}
use mathlib.Core.Path.{◌≡◌, refl, sym, ap, subst, ◌∙◌}
use mathlib.Core.Logic.{◌⊎◌, inl, inr, ⊎_elim}
use mathlib.Core.List.{List, [], ◌∷◌, ◌++◌, append_assoc}
use mathlib.Core.Bool.{Bool, true, false, ◌||◌, or-false}
use native.Mathlib.Omega.{arith}
use native.Mathlib.Numerals.{add-one}
use lib.ListN.{length-append}
use lib.Dec.{eqb}
use borrow.Author.Tests.{eqb-true, eq-eqb}
use Rattle.wire_read.specs.Tests.{if◌then◌otherwise◌}
use Rattle.wire_read.specs.Parts.{skip, parts}
use Rattle.wire_read.proofs.Tests.{clash, both, by_test}
use Rattle.wire_read.proofs.Parts.{parts_none, parts_more}
use Rattle.sa_attribute.specs.Attributes.{attribute_type, after_attribute, attribute_count}
use Rattle.sa_coding.specs.Coding.{is_life_type, is_duration, whole_value, alike, attributes_code}
use Rattle.sa_wholes.specs.Wholes.{wholes, joined, One, alone, pair, attributes_of_all, Apart, from_none, from_one, Orderly, nothing, one_more}
use Rattle.sa_wholes.proofs.Heads.{type_head, after-head, alike-head, head-alike}
use Rattle.sa_wholes.proofs.Wholes.{life_only, in_alone, in_pair, reads-orderly}

-- the type of attribute j
abbrev type_at : (j : ℕ) (s : List ℕ) → ℕ
type_at j s = attribute_type (skip after_attribute j s)

-- a is alike to none of the n attributes in s that are no durations
abbrev Unlike : (exchange : ℕ) (a : List ℕ) (n : ℕ) (s : List ℕ) → Type 0
Unlike exchange a n s = (j : ℕ) → j < n → is_duration exchange (type_at j s) ≡ false → alike exchange a (skip after_attribute j s) ≡ false

-- n attributes, one behind the other
data Row (exchange : ℕ) : (n : ℕ) (behind_life_type : Bool) (s : List ℕ) → Type 0 where
  no_more : Row exchange 0 false []
  begins : {n : ℕ} {a r : List ℕ} → One exchange a → is_duration exchange (attribute_type a) ≡ false → Unlike exchange a n r →
      Row exchange n (is_life_type exchange (attribute_type a)) r → Row exchange (suc n) false (a ++ r)
  ends : {n : ℕ} {d r : List ℕ} → One exchange d → is_duration exchange (attribute_type d) ≡ true → Row exchange n false r →
      Row exchange (suc n) true (d ++ r)

module _ (exchange : ℕ) where
  skip-one : {a : List ℕ} → One exchange a → (j : ℕ) (r : List ℕ) → skip after_attribute (suc j) (a ++ r) ≡ skip after_attribute j r
  unfolding skip
  skip-one {a} o j r = ap (skip after_attribute j) (after-head a r o.long o.size)

  type_one : {a : List ℕ} → One exchange a → (r : List ℕ) → type_at 0 (a ++ r) ≡ attribute_type a
  unfolding skip
  type_one {a} o r = type_head a r o.long

  type_on : {a : List ℕ} → One exchange a → (j : ℕ) (r : List ℕ) → type_at (suc j) (a ++ r) ≡ type_at j r
  type_on o j r = ap attribute_type (skip-one o j r)

  -- ---- what a row says of its places

  row_duration : {n : ℕ} {b : Bool} {s : List ℕ} → Row exchange n b s → (j : ℕ) → j < n → is_duration exchange (type_at j s) ≡ true →
      ((j ≡ 0) × (b ≡ true)) ⊎ ((i : ℕ) × (j ≡ i + 1) × (is_life_type exchange (type_at i s) ≡ true))
  row_duration no_more j h e = absurd (omega arith)
  row_duration (begins {r = r} o d u row) zero h e = clash (sym d ∙ rw (type_one o r) at e)
  row_duration (begins {r = r} o d u row) (suc j) h e =
      ⊎_elim
      (λ f. inr (0, omega (arith, f.0), rw (type_one o r) f.1))
      (λ f. inr (suc f.0, omega (arith, f.1), rw (type_on o f.0 r) f.2))
      (row_duration row j (omega arith) (rw (type_on o j r) at e))
  row_duration (ends o d row) zero h e = inl (refl, refl)
  row_duration (ends {r = r} o d row) (suc j) h e =
      ⊎_elim
      (λ f. clash f.1)
      (λ f. inr (suc f.0, omega (arith, f.1), rw (type_on o f.0 r) f.2))
      (row_duration row j (omega arith) (rw (type_on o j r) at e))

  row_behind : {n : ℕ} {b : Bool} {s : List ℕ} → Row exchange n b s → b ≡ true → (0 < n) × (is_duration exchange (type_at 0 s) ≡ true)
  row_behind no_more e = clash e
  row_behind (begins o d u row) e = clash e
  row_behind (ends {r = r} o d row) e = (omega arith, rw (type_one o r) d)

  row_life : {n : ℕ} {b : Bool} {s : List ℕ} → Row exchange n b s → (j : ℕ) → j < n → is_life_type exchange (type_at j s) ≡ true →
      (suc j < n) × (is_duration exchange (type_at (suc j) s) ≡ true)
  row_life no_more j h e = absurd (omega arith)
  row_life (begins {r = r} o d u row) zero h e =
      let f = row_behind row (rw (type_one o r) at e) in
      (omega (arith, f.0), rw (type_on o 0 r) f.1)
  row_life (begins {r = r} o d u row) (suc j) h e =
      let f = row_life row j (omega arith) (rw (type_on o j r) at e) in
      (omega (arith, f.0), rw (type_on o (suc j) r) f.1)
  row_life (ends {d = d} {r = r} o m row) zero h e = clash (sym (life_only exchange (attribute_type d) (rw (type_one o r) at e)) ∙ m)
  row_life (ends {r = r} o d row) (suc j) h e =
      let f = row_life row j (omega arith) (rw (type_on o j r) at e) in
      (omega (arith, f.0), rw (type_on o (suc j) r) f.1)

  row_unlike : {n : ℕ} {b : Bool} {s : List ℕ} → Row exchange n b s → (j i : ℕ) → i < j → j < n → is_duration exchange (type_at i s) ≡ false →
      is_duration exchange (type_at j s) ≡ false → alike exchange (skip after_attribute i s) (skip after_attribute j s) ≡ false
  unfolding skip
  row_unlike no_more j i l h e f = absurd (omega arith)
  row_unlike (begins o d u row) zero i l h e f = absurd (omega arith)
  row_unlike (begins {a = a} {r = r} o d u row) (suc j) zero l h e f =
      rw (alike-head a r o.long o.size exchange (skip after_attribute (suc j) (a ++ r)), skip-one o j r)
      (u j (omega arith) (rw (type_on o j r) at f))
  row_unlike (begins {r = r} o d u row) (suc j) (suc i) l h e f =
      rw (skip-one o i r, skip-one o j r)
      (row_unlike row j i (omega arith) (omega arith) (rw (type_on o i r) at e) (rw (type_on o j r) at f))
  row_unlike (ends o d row) zero i l h e f = absurd (omega arith)
  row_unlike (ends {r = r} o d row) (suc j) zero l h e f = clash (sym (rw (type_one o r) at e) ∙ d)
  row_unlike (ends {r = r} o d row) (suc j) (suc i) l h e f =
      rw (skip-one o i r, skip-one o j r)
      (row_unlike row j i (omega arith) (omega arith) (rw (type_on o i r) at e) (rw (type_on o j r) at f))

  count-one : {a : List ℕ} → One exchange a → (k n : ℕ) (r : List ℕ) → parts after_attribute k r ≡ n → parts after_attribute (suc k) (a ++ r) ≡ suc n
  count-one {a} o k n r e =
      parts_more after_attribute k (a ++ r) (omega (arith, length-append a r, o.long))
      ∙ rw (after-head a r o.long o.size) (ap suc e)

  row_count : {n : ℕ} {b : Bool} {s : List ℕ} → Row exchange n b s → (k : ℕ) → n ≤ k → parts after_attribute k s ≡ n
  row_count no_more k h = parts_none after_attribute k
  row_count (begins o d u row) zero h = absurd (omega arith)
  row_count (begins {n = n} {r = r} o d u row) (suc k) h = count-one o k n r (row_count row k (omega arith))
  row_count (ends o d row) zero h = absurd (omega arith)
  row_count (ends {n = n} {r = r} o d row) (suc k) h = count-one o k n r (row_count row k (omega arith))

  row_end : {n : ℕ} {b : Bool} {s : List ℕ} → Row exchange n b s → skip after_attribute n s ≡ []
  unfolding skip
  row_end no_more = refl
  row_end (begins {n = n} {r = r} o d u row) = skip-one o n r ∙ row_end row
  row_end (ends {n = n} {r = r} o d row) = skip-one o n r ∙ row_end row

  -- ---- wholes that are orderly are a row

  unlike_more : (v : List ℕ) (n : ℕ) {a : List ℕ} (r : List ℕ) → One exchange a →
      (is_duration exchange (attribute_type a) ≡ false → alike exchange v a ≡ false) → Unlike exchange v n r → Unlike exchange v (suc n) (a ++ r)
  unfolding skip
  unlike_more v n {a} r o g u zero h f = head-alike a r o.long o.size exchange v ∙ g (rw (type_one o r) at f)
  unlike_more v n r o g u (suc j) h f = rw (skip-one o j r) (u j (omega arith) (rw (type_on o j r) at f))

  module _ (ws : List (List ℕ)) where
    all-alone : (a : List ℕ) → is_life_type exchange (attribute_type a) ≡ false → attributes_of_all exchange (a ∷ ws) ≡ suc (attributes_of_all exchange ws)
    unfolding attributes_of_all
    all-alone a l = omega (arith, in_alone exchange a l)

    all-pair : {a : List ℕ} (d : List ℕ) → One exchange a → is_life_type exchange (attribute_type a) ≡ true →
        attributes_of_all exchange ((a ++ d) ∷ ws) ≡ suc (suc (attributes_of_all exchange ws))
    unfolding attributes_of_all
    all-pair d o l = omega (arith, in_pair exchange d o l)

  module _ (v : List ℕ) where
    apart_unlike : {ws : List (List ℕ)} → Orderly exchange ws → Apart exchange v ws → Unlike exchange v (attributes_of_all exchange ws) (joined ws)
    unfolding joined attributes_of_all
    apart_unlike nothing from_none = λ j h f. absurd (omega arith)
    apart_unlike (one_more {ws = ws} (alone {a} o l d) others rest) (from_one g apart) =
        rw (all-alone ws a l) (unlike_more v (attributes_of_all exchange ws) (joined ws) o (λ z. g) (apart_unlike rest apart))
    apart_unlike (one_more {ws = ws} (pair {a} {d} o p l m) others rest) (from_one g apart) =
        let first : alike exchange v a ≡ false = sym (head-alike a d o.long o.size exchange v) ∙ g in
        let n : ℕ = attributes_of_all exchange ws in
        let behind = unlike_more v n (joined ws) p (λ z. clash (sym z ∙ m)) (apart_unlike rest apart) in
        rw (all-pair ws d o l, append_assoc a d (joined ws)) (unlike_more v (suc n) (d ++ joined ws) o (λ z. first) behind)

  orderly_row : {ws : List (List ℕ)} → Orderly exchange ws → Row exchange (attributes_of_all exchange ws) false (joined ws)
  unfolding joined attributes_of_all
  orderly_row nothing = no_more
  orderly_row (one_more {ws = ws} (alone {a} o l d) apart rest) =
      rw (all-alone ws a l) (begins o d (apart_unlike a rest apart) (rw l (orderly_row rest)))
  orderly_row (one_more {ws = ws} (pair {a} {d} o p l m) apart rest) =
      let n : ℕ = attributes_of_all exchange ws in
      let others : Unlike exchange a n (joined ws) =
      λ j h f. sym (alike-head a d o.long o.size exchange (skip after_attribute j (joined ws))) ∙ apart_unlike (a ++ d) rest apart j h f in
      let behind = unlike_more a n (joined ws) p (λ z. clash (sym z ∙ m)) others in
      rw (all-pair ws d o l, append_assoc a d (joined ws))
      (begins o (life_only exchange (attribute_type a) l) behind (rw l (ends p m (orderly_row rest))))

-- ---- attributes that read

-- an exchange has one life type
life_type_lem : (exchange t : ℕ) → is_life_type exchange t ≡ true → t ≡ (if eqb exchange 2 then 11 otherwise 1)
unfolding is_life_type
life_type_lem exchange t h =
    by_test (eqb exchange 2)
    (λ e.
    let two : exchange ≡ 2 = eqb-true exchange 2 e in
    let eleven : (eqb t 11 || false) ≡ true = rw two at h in
    rw e (eqb-true t 11 (sym (or-false (eqb t 11)) ∙ eleven)))
    (λ e. rw e (eqb-true t 1 (both (eqb exchange 32) (eqb t 1) (rw e at h)).1))

module _ (exchange : ℕ) (s : List ℕ) (reads : attributes_code exchange s ≡ 0) where
  row : Row exchange (attribute_count s) false s
  unfolding attribute_count
  row =
      let r = reads-orderly exchange s reads in
      let all : Row exchange (attributes_of_all exchange (wholes exchange s)) false s =
      subst (λ (q : List ℕ). Row exchange (attributes_of_all exchange (wholes exchange s)) false q) r.all (orderly_row exchange r.orderly) in
      rw (row_count exchange all 16 r.few) all

  -- the attributes are all that there is
  pub nothing-behind : skip after_attribute (attribute_count s) s ≡ []
  nothing-behind = row_end exchange row

  -- a duration has its life type right before it
  pub duration-follows : (j : ℕ) → j < attribute_count s → is_duration exchange (type_at j s) ≡ true →
      (i : ℕ) × (j ≡ i + 1) × (is_life_type exchange (type_at i s) ≡ true)
  duration-follows j h e = ⊎_elim (λ f. clash f.1) (λ f. f) (row_duration exchange row j h e)

  -- a life type has its duration right behind it
  pub life_type_followed : (i : ℕ) → i < attribute_count s → is_life_type exchange (type_at i s) ≡ true →
      (i + 1 < attribute_count s) × (is_duration exchange (type_at (i + 1) s) ≡ true)
  life_type_followed i h e = rw add-one (row_life exchange row i h e)

  module _ (i j : ℕ) (before : i < j) (within : j < attribute_count s) where
    -- no life type value stands twice
    pub values_differ : is_life_type exchange (type_at i s) ≡ true → is_life_type exchange (type_at j s) ≡ true →
        whole_value (skip after_attribute i s) ≡ whole_value (skip after_attribute j s) → ⊥
    unfolding alike
    values_differ e f same =
        let apart = row_unlike exchange row j i before within (life_only exchange _ e) (life_only exchange _ f) in
        let types : type_at i s ≡ type_at j s = life_type_lem exchange _ e ∙ sym (life_type_lem exchange _ f) in
        let values = eq-eqb (whole_value (skip after_attribute i s)) (whole_value (skip after_attribute j s)) same in
        clash (sym (rw (eq-eqb (type_at i s) (type_at j s) types, f, values) at apart))

    -- nor any type but a life type or duration
    pub types_differ : is_life_type exchange (type_at i s) ≡ false → is_duration exchange (type_at i s) ≡ false → type_at i s ≡ type_at j s → ⊥
    unfolding alike
    types_differ l d same =
        let apart = row_unlike exchange row j i before within d (rw same at d) in
        clash (sym (rw (eq-eqb (type_at i s) (type_at j s) same, ← same, l) at apart))
