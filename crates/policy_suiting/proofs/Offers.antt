-- The tests of attributes that read pass where and only where what they look for is offered.
use Prim.Native.Nat.{ℕ, ◌+◌, ◌≤◌}
use mathlib.Core.Path.{◌≡◌, refl, subst, ◌∙◌}
use mathlib.Core.List.{List, [], ◌∷◌, ◌++◌, map}
use mathlib.Core.Bool.{true, false, ◌&&◌}
use native.Mathlib.Omega.{arith}
use lib.ListN.{length}
use lib.Dec.{leb, eqb}
use borrow.Author.Tests.{eqb-true, eq-eqb, leb-true, le-leb}
use Rattle.wire_read.specs.Tests.{if◌then◌otherwise◌}
use Rattle.wire_read.specs.Parts.{parts}
use Rattle.wire_read.proofs.Tests.{both, by_test}
use Rattle.sa_attribute.specs.Attributes.{after_attribute, find, attribute, attribute_count, value}
use Rattle.sa_coding.specs.Coding.{is_duration, is_life_type}
use Rattle.sa_wholes.specs.Wholes.{wholes}
use Rattle.sa_wholes.proofs.Wholes.{Reads}
use Rattle.policy_suits.specs.Suits.{present, value_is, find_duration, seconds_of, kilobytes_of, seconds_within, has_kilobytes, kilobytes_some, nothing_surplus}
use Rattle.policy_suiting.specs.Suiting.{Offered, single, lifetime, told, offered_list, at_front, Exactly, seconds, kilobytes, IfPresent, absent, at_least_one}
use Rattle.policy_suiting.proofs.Exactly.{Within, sum, exactly_sum, exactly_there, exactly_wanted, AllWithin, no_more, and-also, same_kind, apart, none_of, kind_own, other_kinds, one-of_kind}
use Rattle.policy_suiting.proofs.AttributeList.{LifeType, Sought, there, missing, single_sought, lifetime_sought, weight, count_weight, AllFixed, room, joined-room}

-- ---- sought and offered

module _ {kind : ℕ → Offered} {found : List ℕ} {offered : List Offered} where
  pub found-offered : Sought kind found offered → 4 ≤ length found → Within (kind (value found)) offered
  found-offered (there h m) long = m
  found-offered (missing h none) long = absurd (omega arith)

  pub offered-found : Sought kind found offered → (v : ℕ) → Within (kind v) offered → 4 ≤ length found
  offered-found (there h m) v w = h
  offered-found (missing h none) v w = absurd (none v w)

kilobytes_weigh : (duration : ℕ) (wanted : List Offered) → sum weight (kilobytes duration ∷ wanted) ≡ sum weight wanted + 2
unfolding sum weight
kilobytes_weigh duration wanted = omega arith

-- a type that is neither life type nor duration
abbrev pub Plain : (exchange t : ℕ) → Type 0
Plain exchange t = (is_life_type exchange t ≡ false) × (is_duration exchange t ≡ false)

module _ {exchange lifetype : ℕ} (known : LifeType exchange lifetype) (s : List ℕ) (reads : Reads exchange s) where
  abbrev offered : List Offered
  offered = offered_list exchange s

  pub single_in : (t : ℕ) → Plain exchange t → Sought (single t) (attribute t s) offered
  unfolding offered_list attribute
  single_in t plain =
      subst (λ (x : List ℕ). Sought (single t) (find 16 t x) (map (told exchange) (wholes exchange s))) reads.all
      (single_sought exchange t plain.0 plain.1 16 reads.orderly reads.few)

  pub lifetime_in : (unit : ℕ) → Sought (lifetime unit) (find_duration 16 lifetype unit s) offered
  unfolding offered_list
  lifetime_in unit =
      subst (λ (x : List ℕ). Sought (lifetime unit) (find_duration 16 lifetype unit x) (map (told exchange) (wholes exchange s))) reads.all
      (lifetime_sought known unit 16 reads.orderly reads.few)

  pub count_in : attribute_count s ≡ sum weight offered
  unfolding offered_list attribute_count
  count_in =
      subst (λ (x : List ℕ). parts after_attribute 16 x ≡ sum weight (map (told exchange) (wholes exchange s))) reads.all
      (count_weight exchange 16 reads.orderly reads.few)

  pub room_in : AllFixed exchange offered → length s ≤ sum room offered
  unfolding offered_list
  room_in fixed =
      subst (λ (x : List ℕ). length x ≤ sum room (map (told exchange) (wholes exchange s))) reads.all (joined-room exchange reads.orderly fixed)

  -- ---- from the tests to what is offered

  pub value-says : (t v : ℕ) → Plain exchange t → value_is t v s ≡ true → Within (single t v) offered
  unfolding value_is present
  value-says t v plain h =
      let two = both (leb 4 (length (attribute t s))) (eqb (value (attribute t s)) v) h in
      rw (← eqb-true (value (attribute t s)) v two.1) (found-offered (single_in t plain) (leb-true _ _ two.0))

  pub record Lasting (longest : ℕ) : Type 0 where
    pub life : ℕ
    pub from_one : 1 ≤ life
    pub to_seconds : life ≤ longest
    pub within : Within (seconds life) offered

  pub seconds-say : (longest : ℕ) → seconds_within lifetype longest s ≡ true → Lasting longest
  unfolding seconds_within
  seconds-say longest h =
      let found : List ℕ = seconds_of lifetype s in
      let a = both (leb 4 (length found) && leb 1 (value found)) (leb (value found) longest) h in
      let b = both (leb 4 (length found)) (leb 1 (value found)) a.0 in
      record {
        life = value found;
        from_one = leb-true _ _ b.1;
        to_seconds = leb-true _ _ a.1;
        within = found-offered (lifetime_in 1) (leb-true _ _ b.0);
      }

  pub kilobytes-long : has_kilobytes lifetype s ≡ true → 4 ≤ length (kilobytes_of lifetype s)
  unfolding has_kilobytes
  kilobytes-long e = leb-true _ _ e

  pub long-kilobytes : 4 ≤ length (kilobytes_of lifetype s) → has_kilobytes lifetype s ≡ true
  unfolding has_kilobytes
  long-kilobytes h = le-leb _ _ h

  -- the kilobytes, if present, and how much is offered with them
  pub record Traffic (n : ℕ) : Type 0 where
    pub traffic : List Offered
    pub if_present : IfPresent traffic
    pub within : AllWithin traffic offered
    pub weighs : sum weight offered ≡ sum weight traffic + n

  pub kilobytes-say : (n : ℕ) → kilobytes_some lifetype s ≡ true → nothing_surplus n lifetype s ≡ true → Traffic n
  unfolding kilobytes_some nothing_surplus sum weight
  kilobytes-say n h g =
      let count : attribute_count s ≡ (if has_kilobytes lifetype s then n + 2 otherwise n) = eqb-true _ _ g in
      by_test (has_kilobytes lifetype s)
      (λ e. record {
        traffic = kilobytes (value (kilobytes_of lifetype s)) ∷ [];
        if_present = at_least_one (leb-true _ _ (rw e at h));
        within = and-also (found-offered (lifetime_in 2) (kilobytes-long e)) no_more;
        weighs = omega (arith, count_in, rw e at count);
      })
      (λ e. record { traffic = []; if_present = absent; within = no_more; weighs = omega (arith, count_in, rw e at count) })

  -- ---- and back, where exactly the whole is offered, of kinds that are apart

  module _ {whole : List Offered} (once : apart whole ≡ true) (exactly : Exactly whole offered) where
    is-there : (kind : ℕ → Offered) {found : List ℕ} → Sought kind found offered → ((v w : ℕ) → same_kind (kind v) (kind w) ≡ true) →
        ((v w : ℕ) → kind v ≡ kind w → v ≡ w) → (v : ℕ) → Within (kind v) whole → (4 ≤ length found) × (value found ≡ v)
    is-there kind {found} sought same equal v m =
        let long = offered-found sought v (exactly_there exactly m) in
        (long, equal _ _ (one-of_kind whole (kind (value found)) (kind v) once (exactly_wanted exactly (found-offered sought long)) m (same _ _)))

    lifetime-there : (unit duration : ℕ) → Within (lifetime unit duration) whole →
        (4 ≤ length (find_duration 16 lifetype unit s)) × (value (find_duration 16 lifetype unit s) ≡ duration)
    unfolding same_kind
    lifetime-there unit duration m = is-there (lifetime unit) (lifetime_in unit) (λ v w. eq-eqb unit unit refl) (λ v w e. cc) duration m

    pub says-value : (t v : ℕ) → Plain exchange t → Within (single t v) whole → value_is t v s ≡ true
    unfolding value_is present same_kind
    says-value t v plain m =
        let found = is-there (single t) (single_in t plain) (λ x w. eq-eqb t t refl) (λ x w e. cc) v m in
        rw (le-leb _ _ found.0, found.1) (eq-eqb v v refl)

    pub says-seconds : (life longest : ℕ) → Within (seconds life) whole → 1 ≤ life → life ≤ longest → seconds_within lifetype longest s ≡ true
    unfolding seconds_within
    says-seconds life longest m least most =
        let found = lifetime-there 1 life m in
        rw (le-leb _ _ found.0, found.1, le-leb 1 life least) (le-leb life longest most)

  pub says-kilobytes : {traffic : List Offered} (wanted : List Offered) → IfPresent traffic → ((duration : ℕ) → apart (kilobytes duration ∷ wanted) ≡ true) →
      Exactly (traffic ++ wanted) offered → (kilobytes_some lifetype s ≡ true) × (nothing_surplus (sum weight wanted) lifetype s ≡ true)
  unfolding kilobytes_some nothing_surplus apart
  says-kilobytes wanted absent once exactly =
      let none : has_kilobytes lifetype s ≡ false =
      by_test (has_kilobytes lifetype s)
      (λ e.
      let m = exactly_wanted exactly (found-offered (lifetime_in 2) (kilobytes-long e)) in
      let duration : ℕ = value (kilobytes_of lifetype s) in
      absurd (other_kinds (kilobytes duration) (kilobytes duration) wanted (both (none_of (kilobytes duration) wanted) (apart wanted) (once duration)).0 m
      (kind_own (kilobytes duration))))
      (λ e. e) in
      rw none (refl, eq-eqb _ _ (count_in ∙ exactly_sum weight exactly))
  says-kilobytes wanted (at_least_one {duration} least) once exactly =
      let found = lifetime-there (once duration) exactly 2 duration (_, at_front) in
      let count : sum weight (kilobytes duration ∷ wanted) ≡ sum weight wanted + 2 = kilobytes_weigh duration wanted in
      rw (long-kilobytes found.0, found.1) (le-leb 1 duration least, eq-eqb _ _ (count_in ∙ exactly_sum weight exactly ∙ count))
