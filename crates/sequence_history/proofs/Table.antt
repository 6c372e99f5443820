-- What a table keeps of a key, whatever words it has: how many rooms are taken, and what an entry that is put, begun or emptied leaves of its
-- own key and of others.
use Prim.Native.Nat.{ℕ, zero, suc, ◌+◌, ◌-◌, ◌*◌, ◌≤◌, ◌<◌}
use mathlib.Core.Path.{◌≡◌, refl, sym, ◌∙◌}
use mathlib.Core.Bool.{Bool, true, false, not, ◌&&◌}
use mathlib.Core.List.{List, []}
use native.Mathlib.Omega.{arith}
use borrow.Author.Tests.{lt-ltb, le-ltb, le-leb, lt-leb, eq-eqb, eqb-true, eqb-false, ltb-true, ltb-false}
use lib.ListN.{length, length-replicate, get_or-replicate}
use lib.Dec.{eqb, leb, ltb}
use Rattle.wire_read.proofs.Tests.{clash, both, by_test}
use Rattle.sequence_table.specs.declared.table.Key.{Key}
use Rattle.sequence_table.specs.declared.table.Entry.{Entry}
use Rattle.sequence_table.specs.Table.{Table, rooms, words, empty, holds, is_free, find, free, entry_at, put_entry, put_key, emptied, new_entry}
use Rattle.sequence_table.proofs.Laws as L
use Rattle.sequence_history.specs.History.{same, one, sum}
use Rattle.sequence_history.proofs.Record.{Shows, starts, sum_same}

-- ---- keys

pub same_true : (a b : Key) → same a b ≡ true → a ≡ b
same_true a b h =
    let h1 = both (eqb a.destination b.destination && eqb a.protocol b.protocol) (eqb a.spi b.spi) h in
    let h2 = both (eqb a.destination b.destination) (eqb a.protocol b.protocol) h1.0 in
    L.same_parts a b (eqb-true a.destination b.destination h2.0) (eqb-true a.protocol b.protocol h2.1) (eqb-true a.spi b.spi h1.1)

pub same_self : (a : Key) → same a a ≡ true
same_self a = rw (eq-eqb a.destination a.destination refl, eq-eqb a.protocol a.protocol refl, eq-eqb a.spi a.spi refl)

pub same_not : (a b : Key) → (a ≡ b → ⊥) → same a b ≡ false
same_not a b d = by_test (same a b) (λ e. absurd (d (same_true a b e))) (λ e. e)

pub by_key : {A : Type 0} (a b : Key) → (a ≡ b → A) → ((a ≡ b → ⊥) → A) → A
by_key a b f g = by_test (same a b) (λ e. f (same_true a b e)) (λ e. g (λ q. clash (sym e ∙ rw (← q) (same_self a))))

-- ---- how many rooms are taken

sum_changed : (f g : ℕ → ℕ) (n i : ℕ) → i < n → ((j : ℕ) → j < n → (j ≡ i → ⊥) → f j ≡ g j) → sum g n + f i ≡ sum f n + g i
unfolding sum
sum_changed f g zero i l h = absurd (omega arith)
sum_changed f g (suc n) i l h =
    by_test (eqb i n)
    (λ e.
    let q : i ≡ n = eqb-true i n e in
    let before : sum f n ≡ sum g n = sum_same f g n (λ j k. h j (omega arith) (omega arith)) in
    rw q (omega arith))
    (λ e.
    let d : i ≡ n → ⊥ = eqb-false i n e in
    let ih : sum g n + f i ≡ sum f n + g i = sum_changed f g n i (omega arith) (λ j k. h j (omega arith)) in
    let last : f n ≡ g n = h n (omega arith) (omega arith) in
    omega arith)

abbrev pub taken_rooms : (t : Table) → ℕ
taken_rooms t = sum (λ i. one (not (is_free t i))) rooms

one-most : (b : Bool) → one b ≤ 1
one-most true = omega arith
one-most false = omega arith

sum-most : (f : ℕ → Bool) (n : ℕ) → sum (λ i. one (f i)) n ≤ n
unfolding sum
sum-most f zero = omega arith
sum-most f (suc n) = omega (arith, sum-most f n, one-most (f n))

sum_less : (f : ℕ → Bool) (n i : ℕ) → i < n → f i ≡ false → sum (λ i. one (f i)) n < n
unfolding sum
sum_less f zero i l h = absurd (omega arith)
sum_less f (suc n) i l h =
    by_test (eqb i n)
    (λ e. let q : one (f n) ≡ 0 = rw (← eqb-true i n e, h) in omega (arith, sum-most f n))
    (λ e. let d : i ≡ n → ⊥ = eqb-false i n e in omega (arith, sum_less f n i (omega arith) h, one-most (f n)))

sum-all : (f : ℕ → Bool) (n : ℕ) → ((i : ℕ) → i < n → f i ≡ true) → sum (λ i. one (f i)) n ≡ n
unfolding sum
sum-all f zero h = refl
sum-all f (suc n) h = let q : one (f n) ≡ 1 = rw (h n (omega arith)) in omega (arith, sum-all f n (λ i l. h i (omega arith)))

-- no room is free exactly where all are taken
pub full-taken : (t : Table) → leb rooms (free t) ≡ leb rooms (taken_rooms t)
full-taken t =
    by_test (ltb (free t) rooms)
    (λ e.
    let l : free t < rooms = ltb-true (free t) rooms e in
    let less : taken_rooms t < rooms = sum_less (λ i. not (is_free t i)) rooms (free t) l (rw (L.free-is t l)) in
    lt-leb rooms (free t) l ∙ sym (lt-leb rooms (taken_rooms t) less))
    (λ e.
    let l : rooms ≤ free t = ltb-false (free t) rooms e in
    let all : taken_rooms t ≡ rooms = sum-all (λ i. not (is_free t i)) rooms (λ i g. rw (L.free-none t l i g)) in
    le-leb rooms (free t) l ∙ sym (le-leb rooms (taken_rooms t) (omega arith)))

-- ---- what a call on one key leaves of another

-- b's life in u is what it is in t
pub record Apart (t u : Table) (b : Key) : Type 0 where
  pub held : (room : ℕ) → room < rooms → holds u b room ≡ holds t b room
  pub found : find u b ≡ find t b
  pub entry : entry_at u (find u b) ≡ entry_at t (find t b)

module _ (t : Table) (key b : Key) (d : key ≡ b → ⊥) where
  -- the other key's room is another
  not-here : find t key < rooms → find t b ≡ find t key → ⊥
  not-here here e =
      let there : find t b < rooms = omega arith in
      d (L.holds-one t (find t key) key b (L.find-holds t key here) (rw e at (L.find-holds t b there)))

  pub apart_entry : (e : Entry) → find t key < rooms → Apart t (put_entry t (find t key) e) b
  apart_entry e here =
      let same-room = L.find-put_entry t (find t key) e b in
      record {
        held = λ j l. L.holds-put_entry t (find t key) e b j;
        found = same-room;
        entry = rw same-room (L.entry_other t (find t key) e (find t b) (not-here here));
      }

  module _ (long : length t ≡ rooms * words) where
    pub apart_removed : find t key < rooms → Apart t (emptied t (find t key)) b
    apart_removed here =
        let same-room : find (emptied t (find t key)) b ≡ find t b = L.find-same (emptied t (find t key)) t b room in
        record { held = room; found = same-room; entry = rw same-room (L.entry_kept t (find t key) (find t b)) }
      where
        here_no : holds t b (find t key) ≡ false
        here_no = by_test (holds t b (find t key)) (λ h. absurd (d (L.holds-one t (find t key) key b (L.find-holds t key here) h))) (λ h. h)

        room : (j : ℕ) → j < rooms → holds (emptied t (find t key)) b j ≡ holds t b j
        room j l =
            by_test (eqb j (find t key))
            (λ e.
            rw (eqb-true j (find t key) e)
            (L.free-holds (emptied t (find t key)) (find t key) b (L.is_free-emptied t (find t key) long here) ∙ sym here_no))
            (λ e. L.holds_kept t (find t key) b j (eqb-false j (find t key) e))

    pub apart_added : free t < rooms → Apart t (put_entry (put_key t (free t) key) (free t) new_entry) b
    apart_added l =
        let same-room : find (put_entry (put_key t (free t) key) (free t) new_entry) b ≡ find t b =
        L.find-put_entry (put_key t (free t) key) (free t) new_entry b ∙ L.find-same (put_key t (free t) key) t b room in
        record {
          held = λ j g. L.holds-put_entry (put_key t (free t) key) (free t) new_entry b j ∙ room j g;
          found = same-room;
          entry = rw same-room (L.entry_other (put_key t (free t) key) (free t) new_entry (find t b) elsewhere ∙ L.entry_put_key t (free t) key (find t b));
        }
      where
        free_no : holds t b (free t) ≡ false
        free_no = L.free-holds t (free t) b (L.free-is t l)

        elsewhere : find t b ≡ free t → ⊥
        elsewhere e = let there : find t b < rooms = omega arith in clash (sym free_no ∙ rw e at (L.find-holds t b there))

        new_no : holds (put_key t (free t) key) b (free t) ≡ false
        new_no =
            by_test (holds (put_key t (free t) key) b (free t))
            (λ h. absurd (d (L.holds-one (put_key t (free t) key) (free t) key b (L.holds-put t (free t) key long l) h))) (λ h. h)

        room : (j : ℕ) → j < rooms → holds (put_key t (free t) key) b j ≡ holds t b j
        room j g =
            by_test (eqb j (free t))
            (λ e. rw (eqb-true j (free t) e) (new_no ∙ sym free_no))
            (λ e. L.holds-other t (free t) key b j (eqb-false j (free t) e))

-- ---- what a call leaves of its own key

-- the table with a life of the key begun in the first free room
abbrev pub begun : (t : Table) (key : Key) → Table
begun t key = put_entry (put_key t (free t) key) (free t) new_entry

module _ (t : Table) (key : Key) (long : length t ≡ rooms * words) where
  pub own_entry : (e : Entry) → find t key < rooms → entry_at (put_entry t (find t key) e) (find (put_entry t (find t key) e) key) ≡ e
  own_entry e here = rw (L.find-put_entry t (find t key) e key) (L.entry_put t (find t key) e long here)

  module _ (absent : rooms ≤ find t key) (l : free t < rooms) where
    pub own_room : find (begun t key) key ≡ free t
    own_room =
        L.find-put_entry (put_key t (free t) key) (free t) new_entry key
        ∙ L.find_only (put_key t (free t) key) key (free t) l (L.holds-put t (free t) key long l)
        (λ j g. L.holds-other t (free t) key key j (omega arith) ∙ L.find_absent t key absent j (omega arith))

    -- a new life starts empty
    pub own-begun : entry_at (begun t key) (find (begun t key) key) ≡ new_entry
    own-begun = rw own_room (L.entry_put (put_key t (free t) key) (free t) new_entry (L.length_put_key t (free t) key ∙ long) l)

  pub own-removed : find t key < rooms → ((j : ℕ) → j < rooms → holds t key j ≡ true → j ≡ find t key) → find (emptied t (find t key)) key ≡ rooms
  own-removed here only =
      L.find_none (emptied t (find t key)) key
      (λ j l.
      by_test (eqb j (find t key))
      (λ e. rw (eqb-true j (find t key) e) (L.free-holds (emptied t (find t key)) (find t key) key (L.is_free-emptied t (find t key) long here)))
      (λ e.
      let off : j ≡ find t key → ⊥ = eqb-false j (find t key) e in
      L.holds_kept t (find t key) key j off ∙ by_test (holds t key j) (λ h. absurd (off (only j l h))) (λ h. h)))

-- ---- what a table keeps of a key

-- whether a life of it runs, and the numbers accepted and handed out in it
pub record Life : Type 0 where
  pub lives : Bool
  pub accepted : List ℕ
  pub handed : List ℕ

pub record Tells (e : Entry) (life : Life) : Type 0 where
  pub shown : Shows e.receive life.accepted
  pub counts : e.counter ≡ length life.handed

-- no two rooms hold it, it is found where a life of it runs, and the entry there tells of that life
pub record Keeps (t : Table) (key : Key) (life : Life) : Type 0 where
  pub only : (i j : ℕ) → i < rooms → j < rooms → holds t key i ≡ true → holds t key j ≡ true → i ≡ j
  pub present : ltb (find t key) rooms ≡ life.lives
  pub entry : find t key < rooms → Tells (entry_at t (find t key)) life

pub keeps_absent : (t : Table) (key : Key) (life : Life) → rooms ≤ find t key → life.lives ≡ false → Keeps t key life
keeps_absent t key life absent none =
    record {
      only = λ i j l g h k. clash (sym (L.find_absent t key absent i l) ∙ h);
      present = le-ltb (find t key) rooms absent ∙ sym none;
      entry = λ h. absurd (omega arith);
    }

pub keeps_apart : {t u : Table} {key : Key} {life : Life} → Keeps t key life → Apart t u key → Keeps u key life
keeps_apart k a =
    record {
      only = λ i j l g p q. k.only i j l g (sym (a.held i l) ∙ p) (sym (a.held j g) ∙ q);
      present = rw a.found k.present;
      entry = λ h. rw a.entry (k.entry (omega (arith, a.found)));
    }

module _ (t : Table) (key : Key) (long : length t ≡ rooms * words) (life : Life) where
  -- a life begins in a free room
  module _ (absent : rooms ≤ find t key) (l : free t < rooms) where
    at-free : (i : ℕ) → i < rooms → holds (begun t key) key i ≡ true → i ≡ free t
    at-free i li p =
        by_test (eqb i (free t))
        (λ e. eqb-true i (free t) e)
        (λ e.
        let kept : holds (begun t key) key i ≡ holds t key i =
        L.holds-put_entry (put_key t (free t) key) (free t) new_entry key i ∙ L.holds-other t (free t) key key i (eqb-false i (free t) e) in
        clash (sym (L.find_absent t key absent i li) ∙ sym kept ∙ p))

    pub keeps_begun : life ≡ record { lives = true; accepted = []; handed = [] } → Keeps (begun t key) key life
    keeps_begun new = record {
      only = λ i j li lj p q. at-free i li p ∙ sym (at-free j lj q);
      present = rw (own_room t key long absent l, new) (lt-ltb (free t) rooms l);
      entry = λ h. rw (own-begun t key long absent l, new) (record { shown = starts; counts = refl });
    }

  module _ {before : Life} (k : Keeps t key before) (here : find t key < rooms) where
    -- an entry is put where the key's was
    pub keeps_entry : (e : Entry) → life.lives ≡ true → Tells e life → Keeps (put_entry t (find t key) e) key life
    keeps_entry e lives-now tells = record {
      only = λ i j l g p q. k.only i j l g (sym (L.holds-put_entry t (find t key) e key i) ∙ p) (sym (L.holds-put_entry t (find t key) e key j) ∙ q);
      present = rw (L.find-put_entry t (find t key) e key, lives-now) (lt-ltb (find t key) rooms here);
      entry = λ h. rw (own_entry t key long e here) tells;
    }

    -- the key's life ends
    pub keeps_ended : life.lives ≡ false → Keeps (emptied t (find t key)) key life
    keeps_ended none =
        let gone : find (emptied t (find t key)) key ≡ rooms =
        own-removed t key long here (λ j l h. k.only j (find t key) l here h (L.find-holds t key here)) in
        keeps_absent (emptied t (find t key)) key life (omega arith) none

-- ---- how many rooms are taken after a call

module _ (t : Table) where
  pub taken_entry : (room : ℕ) (e : Entry) → taken_rooms (put_entry t room e) ≡ taken_rooms t
  taken_entry room e =
      sum_same (λ i. one (not (is_free (put_entry t room e) i))) (λ i. one (not (is_free t i))) rooms (λ i l. rw (L.is_free-put_entry t room e i))

  module _ (key : Key) (long : length t ≡ rooms * words) where
    pub taken-begun : free t < rooms → taken_rooms (begun t key) ≡ taken_rooms t + 1
    taken-begun l =
        let f : ℕ → ℕ = λ i. one (not (is_free t i)) in
        let g : ℕ → ℕ = λ i. one (not (is_free (begun t key) i)) in
        let was : f (free t) ≡ 0 = rw (L.free-is t l) in
        let is : g (free t) ≡ 1 = rw (L.is_free-put_entry (put_key t (free t) key) (free t) new_entry (free t), L.is_free-put t (free t) key long l) in
        let changed : sum g rooms + f (free t) ≡ sum f rooms + g (free t) =
        sum_changed f g rooms (free t) l
        (λ j h d. rw (L.is_free-put_entry (put_key t (free t) key) (free t) new_entry j, L.is_free-other t (free t) key j d)) in
        omega arith

    pub taken_ended : find t key < rooms → taken_rooms (emptied t (find t key)) ≡ taken_rooms t - 1
    taken_ended here =
        let gone : Table = emptied t (find t key) in
        let f : ℕ → ℕ = λ i. one (not (is_free t i)) in
        let g : ℕ → ℕ = λ i. one (not (is_free gone i)) in
        let held : is_free t (find t key) ≡ false =
        by_test (is_free t (find t key)) (λ h. clash (sym (L.free-holds t (find t key) key h) ∙ L.find-holds t key here)) (λ h. h) in
        let was : f (find t key) ≡ 1 = rw held in
        let is : g (find t key) ≡ 0 = rw (L.is_free-emptied t (find t key) long here) in
        let changed : sum g rooms + f (find t key) ≡ sum f rooms + g (find t key) =
        sum_changed f g rooms (find t key) here (λ j h d. rw (L.is_free-kept t (find t key) j d)) in
        omega arith

-- ---- the table with no entry

empty-free : (j : ℕ) → j < rooms → is_free empty j ≡ true
unfolding is_free
empty-free j l = rw (get_or-replicate {A = ℕ} (rooms * words) (j * words) 0 0 (omega arith))

pub empty-long : length empty ≡ rooms * words
empty-long = length-replicate {A = ℕ} (rooms * words) 0

pub empty-absent : (key : Key) → find empty key ≡ rooms
empty-absent key = L.find_none empty key (λ j l. L.free-holds empty j key (empty-free j l))

pub empty-taken : taken_rooms empty ≡ 0
unfolding sum is_free
empty-taken = refl
