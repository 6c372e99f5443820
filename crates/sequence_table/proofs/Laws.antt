-- The laws of specs/Table.antt that the history rests on: what a search finds, and what a call leaves in each room.
use Prim.Native.Nat.{ℕ, zero, suc, ◌+◌, ◌-◌, ◌*◌, ◌≤◌, ◌<◌}
use mathlib.Core.Path.{◌≡◌, refl, sym, ap, ◌∙◌}
use mathlib.Core.List.{List, [], ◌∷◌}
use mathlib.Core.Bool.{Bool, true, false, ◌&&◌, and-false}
use native.Mathlib.Nat.{add-zero}
use native.Mathlib.Omega.{arith}
use lib.ListN.{length, get_or, set, length-set}
use lib.Seq.{get_or-set_same, get_or-set_other, set-get_or}
use lib.Dec.{leb, ltb, eqb}
use borrow.Author.Tests.{eq-eqb, ne_eqb, eqb-true, eqb-false, leb-true, ltb-true}
use Rattle.wire_read.specs.Tests.{if◌then◌otherwise◌}
use Rattle.wire_read.proofs.Tests.{both, by_test}
use Rattle.sequence_table.specs.declared.table.Key.{Key}
use Rattle.sequence_table.specs.declared.table.Entry.{Entry}
use Rattle.sequence_table.specs.Table.{Table, rooms, words, word, mark_in, destination_in, spi_in, holds, is_free, first_place, find, free, put_key, emptied, entry_of, entry_words, put_words, entry_at, put_entry}

-- ---- the first place that passes a test

module _ (test : ℕ → Bool) where
  first_finds : (n i : ℕ) → first_place test n i < i + n → test (first_place test n i) ≡ true
  unfolding first_place
  first_finds zero i h = absurd (omega arith)
  first_finds (suc n) i h = by_test (test i) (λ e. rw e e) (λ e. rw e (first_finds n (i + 1) (omega (arith, rw e at h))))

  first_skips : (n i j : ℕ) → i ≤ j → j < first_place test n i → test j ≡ false
  unfolding first_place
  first_skips zero i j l h = absurd (omega arith)
  first_skips (suc n) i j l h =
      by_test (test i)
      (λ e. let z : j < i = rw e at h in absurd (omega arith))
      (λ e.
      let g : j < first_place test n (i + 1) = rw e at h in
      by_test (eqb i j)
      (λ q. rw (← eqb-true i j q) e)
      (λ q. let d : i ≡ j → ⊥ = eqb-false i j q in first_skips n (i + 1) j (omega arith) g))

  -- a place that passes, or the one behind them, with none before it
  first-is : (n i x : ℕ) → i ≤ x → x ≤ i + n → (x < i + n → test x ≡ true) → ((j : ℕ) → i ≤ j → j < x → test j ≡ false) → first_place test n i ≡ x
  unfolding first_place
  first-is zero i x l m h none = omega arith
  first-is (suc n) i x l m h none =
      by_test (eqb i x)
      (λ q. let e : i ≡ x = eqb-true i x q in rw (ap test e ∙ h (omega arith)) e)
      (λ q.
      let d : i ≡ x → ⊥ = eqb-false i x q in
      rw (none i (omega arith) (omega arith))
      (first-is n (i + 1) x (omega arith) (omega arith) (λ g. h (omega arith)) (λ j a b. none j (omega arith) b)))

first-same : (p q : ℕ → Bool) (n i : ℕ) → ((j : ℕ) → i ≤ j → j < i + n → p j ≡ q j) → first_place p n i ≡ first_place q n i
unfolding first_place
first-same p q zero i h = refl
first-same p q (suc n) i h =
    rw (h i (omega arith) (omega arith), first-same p q n (i + 1) (λ j l g. h j (omega arith) (omega arith)))

module _ (t : Table) (key : Key) where
  pub find-holds : find t key < rooms → holds t key (find t key) ≡ true
  unfolding find
  find-holds h = first_finds (holds t key) rooms 0 (omega arith)

  pub find_absent : rooms ≤ find t key → (j : ℕ) → j < rooms → holds t key j ≡ false
  unfolding find
  find_absent h j l = first_skips (holds t key) rooms 0 j (omega arith) (omega arith)

  pub find_only : (x : ℕ) → x < rooms → holds t key x ≡ true → ((j : ℕ) → j < x → holds t key j ≡ false) → find t key ≡ x
  unfolding find
  find_only x l h none = first-is (holds t key) rooms 0 x (omega arith) (omega arith) (λ g. h) (λ j a b. none j b)

  pub find_none : ((j : ℕ) → j < rooms → holds t key j ≡ false) → find t key ≡ rooms
  unfolding find
  find_none none = first-is (holds t key) rooms 0 rooms (omega arith) (omega arith) (λ g. absurd (omega arith)) (λ j a b. none j b)

pub find-same : (t u : Table) (key : Key) → ((j : ℕ) → j < rooms → holds t key j ≡ holds u key j) → find t key ≡ find u key
unfolding find
find-same t u key h = first-same (holds t key) (holds u key) rooms 0 (λ j l g. h j g)

module _ (t : Table) where
  pub free-is : free t < rooms → is_free t (free t) ≡ true
  unfolding free
  free-is h = first_finds (is_free t) rooms 0 (omega arith)

  pub free-none : rooms ≤ free t → (j : ℕ) → j < rooms → is_free t j ≡ false
  unfolding free
  free-none h j l = first_skips (is_free t) rooms 0 j (omega arith) (omega arith)

-- ---- rooms

-- keys are the same whose three parts are
abbrev made : ℕ → ℕ → ℕ → Key
made d p s = record { destination = d; protocol = p; spi = s }

pub same_parts : (a b : Key) → a.destination ≡ b.destination → a.protocol ≡ b.protocol → a.spi ≡ b.spi → a ≡ b
same_parts a b d p s =
    ap (λ (x : ℕ). made x a.protocol a.spi) d ∙ ap (λ (x : ℕ). made b.destination x a.spi) p ∙ ap (made b.destination b.protocol) s

-- no room holds two keys, and a free one holds none
holds_parts : (t : Table) (key : Key) (i : ℕ) → holds t key i ≡ true →
    (spi_in t i ≡ key.spi) × (mark_in t i ≡ key.protocol + 1) × (destination_in t i ≡ key.destination)
unfolding holds
holds_parts t key i h =
    let spi = both _ (eqb (mark_in t i) (key.protocol + 1) && eqb (destination_in t i) key.destination) h in
    let rest = both _ (eqb (destination_in t i) key.destination) spi.1 in
    (eqb-true _ _ spi.0, eqb-true _ _ rest.0, eqb-true _ _ rest.1)

pub holds-one : (t : Table) (i : ℕ) (a b : Key) → holds t a i ≡ true → holds t b i ≡ true → a ≡ b
holds-one t i a b p q =
    let x = holds_parts t a i p in
    let y = holds_parts t b i q in
    same_parts a b (cc) (omega arith) (cc)

pub free-holds : (t : Table) (i : ℕ) (key : Key) → is_free t i ≡ true → holds t key i ≡ false
unfolding holds is_free
free-holds t i key h =
    let z : mark_in t i ≡ 0 = eqb-true (mark_in t i) 0 h in
    let d : mark_in t i ≡ key.protocol + 1 → ⊥ = omega arith in
    rw (ne_eqb (mark_in t i) (key.protocol + 1) d, and-false (eqb (spi_in t i) key.spi))

-- ---- words written from a place of a room on

-- every word but these stays
run-other : (ws : List ℕ) (t : Table) (i place k : ℕ) → (i * words + place ≤ k → k < i * words + place + length ws → ⊥) →
    get_or (put_words t i place ws) k 0 ≡ get_or t k 0
run-other [] t i place k out = refl
run-other (w ∷ ws) t i place k out =
    run-other ws (set t (i * words + place) w) i (place + 1) k (λ a b. out (omega arith) (omega arith))
    ∙ get_or-set_other t (i * words + place) k w 0 (λ e. out (omega arith) (omega arith))

run-read : (ws : List ℕ) (t : Table) (i place j : ℕ) → i * words + place + length ws ≤ length t → j < length ws →
    word (put_words t i place ws) i (place + j) ≡ get_or ws j 0
run-read [] t i place j l h = absurd (omega arith)
run-read (w ∷ ws) t i place zero l h =
    let e : i * words + (place + 0) ≡ i * words + place = omega arith in
    ap (λ (k : ℕ). get_or (put_words t i place (w ∷ ws)) k 0) e
    ∙ run-other ws (set t (i * words + place) w) i (place + 1) (i * words + place) (λ a b. omega arith)
    ∙ get_or-set_same t (i * words + place) w 0 (omega arith)
run-read (w ∷ ws) t i place (suc j) l h =
    let e : place + suc j ≡ place + 1 + j = omega arith in
    ap (word (put_words t i place (w ∷ ws)) i) e
    ∙ run-read ws (set t (i * words + place) w) i (place + 1) j (omega (arith, length-set t (i * words + place) w)) (omega arith)

-- words that are there already leave the table as it is
run-same : (ws : List ℕ) (t : Table) (i place : ℕ) → ((j : ℕ) → j < length ws → get_or ws j 0 ≡ word t i (place + j)) → put_words t i place ws ≡ t
run-same [] t i place there = refl
run-same (w ∷ ws) t i place there =
    let here : i * words + (place + 0) ≡ i * words + place = omega arith in
    let e : set t (i * words + place) w ≡ t =
    ap (set t (i * words + place)) (there 0 (omega arith) ∙ ap (λ (k : ℕ). get_or t k 0) here) ∙ set-get_or t (i * words + place) 0 in
    rw e (run-same ws t i (place + 1) (λ j l. let next : place + suc j ≡ place + 1 + j = omega arith in there (suc j) (omega arith) ∙ ap (word t i) next))

length_run : (ws : List ℕ) (t : Table) (i place : ℕ) → length (put_words t i place ws) ≡ length t
length_run [] t i place = refl
length_run (w ∷ ws) t i place = length_run ws (set t (i * words + place) w) i (place + 1) ∙ length-set t (i * words + place) w

-- ---- an entry and its words, whatever its fields are

-- an entry is made of its room's words from place 3 on: others are as good as 0
abbrev own : (word_at : ℕ → ℕ) (place : ℕ) → ℕ
own word_at place = if leb 3 place && ltb place words then word_at place otherwise 0

entry_same : (f g : ℕ → ℕ) → ((place : ℕ) → 3 ≤ place → place < words → f place ≡ g place) → entry_of f ≡ entry_of g
entry_same f g same = ap entry_of (λ i place. own_same place i)
  where
    own_same : (place : ℕ) → own f place ≡ own g place
    own_same place =
        by_test (leb 3 place && ltb place words)
        (λ e. let b = both (leb 3 place) (ltb place words) e in rw e (same place (leb-true 3 place b.0) (ltb-true place words b.1)))
        (λ e. rw e)

-- so many words of a room from a place on
abbrev listed : (word_at : ℕ → ℕ) (place n : ℕ) → List ℕ
listed word_at place zero = []
listed word_at place (suc n) = word_at place ∷ listed word_at (place + 1) n

listed-read : (word_at : ℕ → ℕ) (place n j : ℕ) → j < n → get_or (listed word_at place n) j 0 ≡ word_at (place + j)
listed-read word_at place zero j h = absurd (omega arith)
listed-read word_at place (suc n) zero h = let e : place ≡ place + 0 = omega arith in ap word_at e
listed-read word_at place (suc n) (suc j) h =
    let e : place + 1 + j ≡ place + suc j = omega arith in
    listed-read word_at (place + 1) n j (omega arith) ∙ ap word_at e

module _ (t : Table) (i : ℕ) (e : Entry) where
  entered : (k : ℕ) → (i * words + 3 ≤ k → k < i * words + words → ⊥) → get_or (put_entry t i e) k 0 ≡ get_or t k 0
  unfolding put_entry
  entered k out = run-other (entry_words e) t i 3 k (λ a b. out a (omega arith))

  pub length_put_entry : length (put_entry t i e) ≡ length t
  unfolding put_entry
  length_put_entry = length_run (entry_words e) t i 3

  pub holds-put_entry : (key : Key) (j : ℕ) → holds (put_entry t i e) key j ≡ holds t key j
  unfolding holds
  holds-put_entry key j =
      rw (entered (j * words) (λ a b. omega arith), entered (j * words + 1) (λ a b. omega arith), entered (j * words + 2) (λ a b. omega arith))

  pub is_free-put_entry : (j : ℕ) → is_free (put_entry t i e) j ≡ is_free t j
  unfolding is_free
  is_free-put_entry j = rw (entered (j * words) (λ a b. omega arith))

  pub find-put_entry : (key : Key) → find (put_entry t i e) key ≡ find t key
  find-put_entry key = find-same (put_entry t i e) t key (λ j l. holds-put_entry key j)

  pub entry_other : (j : ℕ) → (j ≡ i → ⊥) → entry_at (put_entry t i e) j ≡ entry_at t j
  unfolding entry_at
  entry_other j d = entry_same (word (put_entry t i e) j) (word t j) (λ place l h. entered (j * words + place) (λ a b. omega arith))

  pub entry_put : length t ≡ rooms * words → i < rooms → entry_at (put_entry t i e) i ≡ e
  unfolding entry_at put_entry
  entry_put long l =
      entry_same (word (put_entry t i e) i) (λ place. get_or (entry_words e) (place - 3) 0)
      (λ place low high.
      let from : place ≡ 3 + (place - 3) = omega arith in
      ap (word (put_entry t i e) i) from ∙ run-read (entry_words e) t i 3 (place - 3) (omega arith) (omega arith))

-- an entry that is put back where it was leaves the words as they are
pub put_back : (t : Table) (i : ℕ) → put_entry t i (entry_at t i) ≡ t
unfolding put_entry entry_at
put_back t i = run-same (entry_words (entry_of (word t i))) t i 3 (λ j l. listed-read (word t i) 3 (words - 3) j l)

module _ (t : Table) (i : ℕ) (a : Key) where
  abbrev key_words : List ℕ
  key_words = (a.protocol + 1) ∷ a.destination ∷ a.spi ∷ []

  key_run : put_key t i a ≡ put_words t i 0 key_words
  unfolding put_key
  key_run =
      ap (λ (k : ℕ). set (set (set t k (a.protocol + 1)) (i * words + 1) a.destination) (i * words + 2) a.spi) (sym (add-zero (i * words)))

  keyed : (k : ℕ) → (i * words ≤ k → k < i * words + 3 → ⊥) → get_or (put_key t i a) k 0 ≡ get_or t k 0
  keyed k out = rw key_run (run-other key_words t i 0 k (λ b c. out (omega arith) (omega arith)))

  pub length_put_key : length (put_key t i a) ≡ length t
  length_put_key = rw key_run (length_run key_words t i 0)

  pub holds-other : (key : Key) (j : ℕ) → (j ≡ i → ⊥) → holds (put_key t i a) key j ≡ holds t key j
  unfolding holds
  holds-other key j d =
      rw (keyed (j * words) (λ b c. omega arith), keyed (j * words + 1) (λ b c. omega arith), keyed (j * words + 2) (λ b c. omega arith))

  pub is_free-other : (j : ℕ) → (j ≡ i → ⊥) → is_free (put_key t i a) j ≡ is_free t j
  unfolding is_free
  is_free-other j d = rw (keyed (j * words) (λ b c. omega arith))

  pub entry_put_key : (j : ℕ) → entry_at (put_key t i a) j ≡ entry_at t j
  unfolding entry_at
  entry_put_key j = entry_same (word (put_key t i a) j) (word t j) (λ place l h. keyed (j * words + place) (λ b c. omega arith))

  module _ (long : length t ≡ rooms * words) (l : i < rooms) where
    key_read_lem : (j : ℕ) → j < 3 → word (put_key t i a) i j ≡ get_or key_words j 0
    key_read_lem j h = let e : j ≡ 0 + j = omega arith in rw key_run (ap (word (put_words t i 0 key_words) i) e ∙ run-read key_words t i 0 j (omega arith) h)

    mark_read : mark_in (put_key t i a) i ≡ a.protocol + 1
    mark_read = ap (λ (k : ℕ). get_or (put_key t i a) k 0) (sym (add-zero (i * words))) ∙ key_read_lem 0 (omega arith)

    pub holds-put : holds (put_key t i a) a i ≡ true
    unfolding holds
    holds-put =
        rw (
          eq-eqb (spi_in (put_key t i a) i) a.spi (key_read_lem 2 (omega arith)),
          eq-eqb (mark_in (put_key t i a) i) (a.protocol + 1) mark_read,
          eq-eqb (destination_in (put_key t i a) i) a.destination (key_read_lem 1 (omega arith)),
        )

    pub is_free-put : is_free (put_key t i a) i ≡ false
    unfolding is_free
    is_free-put = ne_eqb (mark_in (put_key t i a) i) 0 (omega (arith, mark_read))

module _ (t : Table) (i : ℕ) where
  marked : (k : ℕ) → (k ≡ i * words → ⊥) → get_or (emptied t i) k 0 ≡ get_or t k 0
  unfolding emptied
  marked k d = get_or-set_other t (i * words) k 0 0 d

  pub length_emptied : length (emptied t i) ≡ length t
  unfolding emptied
  length_emptied = length-set t (i * words) 0

  pub holds_kept : (key : Key) (j : ℕ) → (j ≡ i → ⊥) → holds (emptied t i) key j ≡ holds t key j
  unfolding holds
  holds_kept key j d = rw (marked (j * words) (omega arith), marked (j * words + 1) (omega arith), marked (j * words + 2) (omega arith))

  pub is_free-kept : (j : ℕ) → (j ≡ i → ⊥) → is_free (emptied t i) j ≡ is_free t j
  unfolding is_free
  is_free-kept j d = rw (marked (j * words) (omega arith))

  pub entry_kept : (j : ℕ) → entry_at (emptied t i) j ≡ entry_at t j
  unfolding entry_at
  entry_kept j = entry_same (word (emptied t i) j) (word t j) (λ place l h. marked (j * words + place) (omega arith))

  pub is_free-emptied : length t ≡ rooms * words → i < rooms → is_free (emptied t i) i ≡ true
  unfolding is_free emptied
  is_free-emptied long l = rw (get_or-set_same t (i * words) 0 0 (omega arith))
