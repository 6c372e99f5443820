-- The receive record against the accepted numbers of its life: a record that shows them gives the verdict that is right of them and shows
-- them again afterwards, and the ones in its window are the count over them.
use Prim.Native.Nat.{ℕ, zero, suc, ◌+◌, ◌-◌, ◌*◌, ◌/◌, ◌%◌, ◌^◌, ◌≤◌, ◌<◌, min, max}
use mathlib.Core.Path.{◌≡◌, refl, sym, ap, ap₂, ◌∙◌}
use mathlib.Core.Bool.{Bool, true, false, not, ◌||◌}
use mathlib.Core.List.{List, [], ◌∷◌}
use native.Mathlib.Nat.{mod-lt, mod-eq_of_lt, add-zero, add-suc}
use native.Mathlib.Omega.{arith}
use borrow.Author.Tests.{eq-eqb, ne_eqb, eqb-true, eqb-false, leb-true, leb-false, ltb-true, ltb-false}
use lib.Dec.{eqb, leb, ltb, lit<}
use lib.Pow.{pow_pos, mod-pow-add}
use lib.Count.{ones, ones_cat}
use Rattle.wire_read.specs.Tests.{if◌then◌otherwise◌}
use Rattle.wire_read.specs.Answer.{refused, done}
use Rattle.wire_read.proofs.Tests.{clash, neither, by_test}
use Rattle.sequence_record.specs.declared.Receive.{Receive}
use Rattle.sequence_record.specs.Receive.{new_receive, bit, behind, accepted_before, shifted, with_number, judged, loss_line, verdict_answer}
use Rattle.sequence_record.proofs.Bits.{set_lt, set_same, set_other, zero_bit, shifted_lt, shifted_low, shifted-high}
use Rattle.sequence_history.specs.History.{is_done, highest, member, one, sum, recent, right_number, Distinct, lent_answers, lent_after, accepted_then, accepted_by, lent_accepted}

-- the record shows the accepted numbers h
pub record Shows (r : Receive) (h : List ℕ) : Type 0 where
  pub top : r.highest ≡ highest h
  pub fits : r.window < 2 ^ 64
  pub bits : (k : ℕ) → k < 64 → bit r.window k ≡ one (member (highest h - k) h)
  pub no_zero : member 0 h ≡ false

-- nothing above the highest was accepted
above : (h : List ℕ) (n : ℕ) → highest h < n → member n h ≡ false
above [] n l = refl
above (x ∷ h) n l = let q : n ≡ x → ⊥ = omega arith in rw (ne_eqb n x q) (above h n (omega arith))

live : (n h : ℕ) → behind h n ≡ false → (n ≡ 0 → ⊥) × (h < n + 64)
live n h f = let both = neither (eqb n 0) (leb (n + 64) h) f in (eqb-false n 0 both.0, leb-false (n + 64) h both.1)

one-eqb : (b : Bool) → eqb (one b) 1 ≡ b
one-eqb true = refl
one-eqb false = refl

-- ---- one step

module _ (r : Receive) (h : List ℕ) (s : Shows r h) (n : ℕ) where
  abbrev w : ℕ
  w = r.window

  abbrev hi : ℕ
  hi = highest h

  before_member : behind hi n ≡ false → accepted_before r n ≡ member n h
  before_member f =
      let l = live n hi f in
      let t : r.highest ≡ hi = s.top in
      by_test (leb n hi)
      (λ e.
      let g : n ≤ hi = leb-true n hi e in
      let back : hi - (hi - n) ≡ n = omega arith in
      let k : hi - n < 64 = omega (arith, l.1) in
      simp (t, e, s.bits (hi - n) k, back, one-eqb))
      (λ e. simp (t, e) (sym (above h n (leb-false n hi e))))

  module _ (d : n ≡ 0 → ⊥) (g : hi < n + 64) (new : member n h ≡ false) where
    abbrev up : ℕ
    up = max n hi

    -- the digits of the word before n is marked
    before : (k : ℕ) → k < 64 → bit (shifted w (up - hi)) k ≡ one (member (up - k) h)
    before k l =
        by_test (ltb k (up - hi))
        (λ e. let q : k < up - hi = ltb-true k (up - hi) e in shifted_low w (up - hi) k l q ∙ ap one (sym (above h (up - k) (omega arith))))
        (λ e.
        let q : up - hi ≤ k = ltb-false k (up - hi) e in
        let same : hi - (k - (up - hi)) ≡ up - k = omega arith in
        shifted-high w (up - hi) k l q ∙ s.bits (k - (up - hi)) (omega arith) ∙ ap (λ (m : ℕ). one (member m h)) same)

    place : up - n < 64
    place = omega arith

    clear : bit (shifted w (up - hi)) (up - n) ≡ 0
    clear =
        let back : up - (up - n) ≡ n = omega arith in
        before (up - n) place ∙ ap (λ (m : ℕ). one (member m h)) back ∙ ap one new

    marks : (k : ℕ) → k < 64 → bit (shifted w (up - hi) + 2 ^ (up - n)) k ≡ one (member (up - k) (n ∷ h))
    marks k l =
        by_test (eqb k (up - n))
        (λ e.
        let q : k ≡ up - n = eqb-true k (up - n) e in
        let at : up - k ≡ n = omega arith in
        ap (bit (shifted w (up - hi) + 2 ^ (up - n))) q ∙ set_same (up - n) (shifted w (up - hi)) clear
        ∙ sym (ap (λ (b : Bool). one (b || member (up - k) h)) (eq-eqb (up - k) n at)))
        (λ e.
        let q : k ≡ up - n → ⊥ = eqb-false k (up - n) e in
        let off : up - k ≡ n → ⊥ = omega arith in
        set_other (up - n) k (shifted w (up - hi)) q clear ∙ before k l
        ∙ sym (ap (λ (b : Bool). one (b || member (up - k) h)) (ne_eqb (up - k) n off)))

    takes : Shows (with_number r n) (n ∷ h)
    takes =
        let t : r.highest ≡ hi = s.top in
        let z : 0 ≡ n → ⊥ = omega arith in
        record {
          top = ap (max n) t;
          fits = rw t (set_lt 64 (up - n) (shifted w (up - hi)) place (shifted_lt w (up - hi)) clear);
          bits = rw t marks;
          no_zero = simp (ne_eqb 0 n z) s.no_zero;
        }

-- a refusal leaves the record as it is
pub judged-refused : (r : Receive) (n : ℕ) (integrity : Bool) → is_done (verdict_answer (judged r n integrity).verdict) ≡ false →
    (judged r n integrity).receive ≡ r
unfolding judged verdict_answer
judged-refused r n integrity h =
    by_test (behind r.highest n) (λ b. rw b)
    (λ b. by_test (accepted_before r n) (λ again. rw (b, again)) (λ again. by_test integrity (λ w. clash (sym (rw (b, again, w) at h))) (λ w. rw (b, again, w))))

pub one-step : (r : Receive) (h : List ℕ) → Shows r h → (n : ℕ) (integrity : Bool)
    → (verdict_answer (judged r n integrity).verdict ≡ right_number h n integrity)
    × Shows (judged r n integrity).receive (accepted_then (right_number h n integrity) n h)
unfolding judged right_number verdict_answer
one-step r h s n integrity =
    let top : behind r.highest n ≡ behind (highest h) n = ap (λ (x : ℕ). behind x n) s.top in
    by_test (behind (highest h) n) (λ b. rw (top, b) (refl, s))
    (λ b.
    let again = before_member r h s n b in
    by_test (member n h) (λ m. rw (top, b, again, m) (refl, s))
    (λ m.
    by_test integrity
    (λ w.
    rw (top, b, again, m, w)
    (ap (λ (x : ℕ). done ((max n x - x) ∷ [])) s.top, takes r h s n (live n (highest h) b).0 (live n (highest h) b).1 m))
    (λ w. rw (top, b, again, m, w) (refl, s))))

-- a number that is right to accept was not accepted before
pub accepts_new : (numbers : List ℕ) (n : ℕ) (integrity : Bool) → is_done (right_number numbers n integrity) ≡ true → member n numbers ≡ false
unfolding right_number
accepts_new numbers n integrity = of (highest (n ∷ numbers) - highest numbers) (eqb n 0 || leb (n + 64) (highest numbers)) (member n numbers) integrity
  where
    of : (rise : ℕ) (b again integrity : Bool) →
        is_done (if b then refused 8197 otherwise if again then refused 8194 otherwise if not integrity then refused 24 otherwise done (rise ∷ [])) ≡ true → again ≡ false
    of rise true again integrity h = clash h
    of rise false true integrity h = clash h
    of rise false false integrity h = refl

pub starts : Shows new_receive []
starts = record { top = refl; fits = lit< tt; bits = λ k l. zero_bit k; no_zero = refl }

-- ---- the count

pub sum_same : (f g : ℕ → ℕ) (n : ℕ) → ((k : ℕ) → k < n → f k ≡ g k) → sum f n ≡ sum g n
unfolding sum
sum_same f g zero h = refl
sum_same f g (suc n) h = ap₂ (λ (x y : ℕ). x + y) (sum_same f g n (λ k l. h k (omega arith))) (h n (omega arith))

-- nothing is added past m
sum_stops : (f : ℕ → ℕ) (m e : ℕ) → ((k : ℕ) → m ≤ k → f k ≡ 0) → sum f (m + e) ≡ sum f m
unfolding sum
sum_stops f m zero h = ap (sum f) (add-zero m)
sum_stops f m (suc e) h =
    let z : f (m + e) ≡ 0 = h (m + e) (omega arith) in
    let ih : sum f (m + e) ≡ sum f m = sum_stops f m e h in
    ap (sum f) (add-suc m e) ∙ omega arith

one_digit : (d : ℕ) → d < 2 → ones d ≡ d
unfolding ones
one_digit zero h = refl
one_digit (suc zero) h = refl
one_digit (suc (suc d)) h = omega arith

low_sum : (w k : ℕ) → ones (w % 2 ^ k) ≡ sum (bit w) k
unfolding sum ones
low_sum w zero = let z : w % 1 ≡ 0 = omega arith in ap ones z
low_sum w (suc k) =
    let d : bit w k < 2 = mod-lt (w / 2 ^ k) (pow_pos 1) in
    let c : ones (bit w k * 2 ^ k + w % 2 ^ k) ≡ ones (bit w k) + ones (w % 2 ^ k) = ones_cat k (bit w k) (w % 2 ^ k) (mod-lt w (pow_pos k)) in
    let e : suc k ≡ 1 + k = omega arith in
    ap (λ (n : ℕ). ones (w % 2 ^ n)) e ∙ ap ones (mod-pow-add w 1 k)
    ∙ c ∙ omega (arith, one_digit (bit w k) d, low_sum w k)

ones-sum : (w k : ℕ) → w < 2 ^ k → ones w ≡ sum (bit w) k
ones-sum w k h = ap ones (sym (mod-eq_of_lt h)) ∙ low_sum w k

pub count-right : (r : Receive) (h : List ℕ) → Shows r h → ones r.window ≡ recent h
count-right r h s =
    let f : ℕ → ℕ = λ k. one (member (highest h - k) h) in
    let low_end : (k : ℕ) → highest h ≤ k → f k ≡ 0 =
    λ k l. let z : highest h - k ≡ 0 = omega arith in ap (λ (x : ℕ). one (member x h)) z ∙ ap one s.no_zero in
    ones-sum r.window 64 s.fits ∙ sum_same (bit r.window) f 64 s.bits
    ∙ by_test (leb (highest h) 64)
    (λ e.
    let q : min (highest h) 64 ≡ highest h = omega (arith, leb-true (highest h) 64 e) in
    let t : highest h + (64 - highest h) ≡ 64 = omega (arith, leb-true (highest h) 64 e) in
    sym (ap (sum f) t) ∙ sum_stops f (highest h) (64 - highest h) low_end ∙ ap (sum f) (sym q))
    (λ e. let q : 64 ≡ min (highest h) 64 = omega (arith, leb-false (highest h) 64 e) in ap (sum f) q)

pub line-right : (r : Receive) (h : List ℕ) → Shows r h → loss_line r ≡ record { highest = highest h; span = min (highest h) 64; count = recent h }
line-right r h s = rw (s.top, count-right r h s)

-- ---- steps of a lent record, from a new one on

lent-shows : (numbers : List (Bool × ℕ)) (r : Receive) (h : List ℕ) → Shows r h → Distinct h
    → Shows (lent_after r numbers) (accepted_by (lent_answers r numbers) numbers h)
    × Distinct (accepted_by (lent_answers r numbers) numbers h)
unfolding lent_answers lent_after accepted_by
lent-shows [] r h s d = (s, d)
lent-shows ((integrity, n) ∷ numbers) r h s d =
    let q = one-step r h s n integrity in
    let now : List ℕ = accepted_then (right_number h n integrity) n h in
    let distinct : Distinct now =
    by_test (is_done (right_number h n integrity)) (λ e. rw e (accepts_new h n integrity e, d)) (λ e. rw e d) in
    rw q.0 (lent-shows numbers (judged r n integrity).receive now q.1 distinct)

module _ (numbers : List (Bool × ℕ)) where
  pub lent-shown : Shows (lent_after new_receive numbers) (lent_accepted numbers)
  lent-shown = (lent-shows numbers new_receive [] starts tt).0

  -- the next answer is right of the numbers accepted before
  pub lent-right : (number : ℕ) (integrity : Bool) →
      verdict_answer (judged (lent_after new_receive numbers) number integrity).verdict ≡ right_number (lent_accepted numbers) number integrity
  lent-right number integrity = (one-step (lent_after new_receive numbers) (lent_accepted numbers) lent-shown number integrity).0

  pub lent_once : Distinct (lent_accepted numbers)
  lent_once = (lent-shows numbers new_receive [] starts tt).1

  pub lent-loss : loss_line (lent_after new_receive numbers)
      ≡ record { highest = highest (lent_accepted numbers); span = min (highest (lent_accepted numbers)) 64; count = recent (lent_accepted numbers) }
  lent-loss = line-right (lent_after new_receive numbers) (lent_accepted numbers) lent-shown
