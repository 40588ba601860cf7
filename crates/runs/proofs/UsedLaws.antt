-- The test says that a store is quiet exactly when it touches no byte that a present walk uses.
use Prim.Native.Nat.{ℕ, zero, suc, ◌+◌, ◌*◌, ◌-◌, ◌/◌, ◌%◌, ◌^◌, ◌≤◌, ◌<◌}
use mathlib.Core.Path.{◌≡◌, refl, sym, ap, ◌∙◌}
use mathlib.Core.Logic.{◌↔◌}
use mathlib.Core.Bool.{Bool, true, false, cond, not, true≢false}
use mathlib.Core.List.{List}
use native.Mathlib.Omega.{arith}
use lib.Dec.{eqb, ltb}
use lib.ListN.{length}
use borrow.Author.Tests.{ltb-true, ltb-false, eqb-true, eqb-false, eq-eqb, not-true}
use Rattle.std.specs.Prelude.{Some, None, Ok, Err}
use Rattle.model.specs.Limits.{address_limit}
use Rattle.model.specs.reference.Rules.{in_memory, value, bits}
use Rattle.model.specs.step.Memory.{within, number_at, load_at}
use Rattle.model.specs.step.Walk.{kind_of, super_bit, pointer_of, section_entry, descriptor_at, first_of, first_from}
use Rattle.model.specs.declared.Tables.{Tables}
use Rattle.model.specs.declared.Fault.TheVariants.{FirstUnmapped}
use Rattle.model.specs.declared.Size.TheVariants.{Four}
use Rattle.model.specs.declared.FirstLevel.TheVariants.{Table, Section}
use Rattle.model.proofs.BoolLaws.{push}
use Rattle.model.proofs.Memory.{within_same, number_same}
use Rattle.runs.specs.Used.{window_words, word_size, table_size, first_place, table_base, Among, Serves, first_word, of_table, Untouched}
use Rattle.runs.specs.Quiet.{overlap, touches_table, touches_tables, touches, quiet}

-- ── Two ranges of bytes ──

-- a byte of both
pub record Shared (a n b k : ℕ) : Type 0 where
  pub byte : ℕ
  pub one : Among a n byte
  pub other : Among b k byte

overlap_true : (a n b k : ℕ) → 0 < n → 0 < k → overlap a n b k ≡ true → Shared a n b k
unfolding overlap
overlap_true a n b k hn hk h = go (ltb a b) refl h
  where
    go : (x : Bool) → ltb a b ≡ x → cond x (ltb (b - a) n) (ltb (a - b) k) ≡ true → Shared a n b k
    go true e q =
        let lt = ltb-true a b e in
        let lt' = ltb-true (b - a) n q in
        record { byte = b; one = record { from = omega arith; before = omega arith }; other = record { from = omega arith; before = omega arith } }
    go false e q =
        let ge = ltb-false a b e in
        let lt = ltb-true (a - b) k q in
        record { byte = a; one = record { from = omega arith; before = omega arith }; other = record { from = omega arith; before = omega arith } }

overlap_false : (a n b k : ℕ) → overlap a n b k ≡ false → (x : ℕ) → Among a n x → Among b k x → ⊥
unfolding overlap
overlap_false a n b k h x i j = go (ltb a b) refl h
  where
    from_a : a ≤ x
    from_a = i.from

    before_a : x < a + n
    before_a = i.before

    from_b : b ≤ x
    from_b = j.from

    before_b : x < b + k
    before_b = j.before

    go : (y : Bool) → ltb a b ≡ y → cond y (ltb (b - a) n) (ltb (a - b) k) ≡ false → ⊥
    go true e q =
        let lt = ltb-true a b e in
        let ge = ltb-false (b - a) n q in
        omega (arith, from_a, before_a, from_b, before_b)
    go false e q =
        let ge = ltb-false a b e in
        let ge' = ltb-false (a - b) k q in
        omega (arith, from_a, before_a, from_b, before_b)

-- ── What the walks of a MiB use ──

by_first : (at n w : ℕ) (x y z : Bool) →
    touches_table (cond x (Ok (Table (pointer_of w))) (cond y (cond z (Ok (Section (section_entry w 0))) (Err FirstUnmapped)) (Err FirstUnmapped))) at n
    ≡ cond x (overlap at n (pointer_of w).base table_size) false
by_first at n w true y z = refl
by_first at n w false true true = refl
by_first at n w false true false = refl
by_first at n w false false z = refl

-- whether a level-one word points to a table that n bytes touch
table_test : ℕ → ℕ → ℕ → Bool
table_test w at n = cond (eqb (bits 1 0 w) 1) (overlap at n (table_base w) table_size) false

by_word : (at n w : ℕ) → touches_table (first_of w 0) at n ≡ table_test w at n
unfolding first_of bits table_test
by_word at n w = by_first at n w (eqb (kind_of w) 1) (eqb (kind_of w) 2) (eqb (super_bit w) 0) ∙ ap (λ x. cond (eqb x 1) (overlap at n (pointer_of w).base table_size) false) low
  where
    low : kind_of w ≡ w / 2 ^ 0 % 2 ^ (suc 1 - 0)
    low = omega arith

table_same : (m : List ℕ) (first at n : ℕ) →
    touches_table (first_from (descriptor_at m first) 0) at n ≡ cond (in_memory m first word_size) (table_test (value m first word_size) at n) false
unfolding load_at
table_same m first at n =
    push (λ x. touches_table (first_from x 0) at n) (within Four m first) (Some (number_at Four m first)) None
    ∙ ap (λ x. cond (within Four m first) x false) (by_word at n (number_at Four m first) ∙ ap (λ w. table_test w at n) (number_same Four m first))
    ∙ ap (λ b. cond b (table_test (value m first word_size) at n) false) (within_same Four m first)

-- a byte of the n from `at` on that the walks of MiB i use
record Met (m : List ℕ) (root i at n : ℕ) : Type 0 where
  byte : ℕ
  touched : Among at n byte
  serves : Serves m root i byte

module _ (m : List ℕ) (root i at n : ℕ) where
  abbrev first : ℕ
  first = first_place root i

  abbrev w : ℕ
  w = value m first word_size

  table_true : 0 < n → cond (in_memory m first word_size) (table_test w at n) false ≡ true → Met m root i at n
  unfolding table_test
  table_true hn h = go (in_memory m first word_size) (eqb (bits 1 0 w) 1) refl refl h
    where
      go : (x y : Bool) → in_memory m first word_size ≡ x → eqb (bits 1 0 w) 1 ≡ y → cond x (cond y (overlap at n (table_base w) table_size) false) false ≡ true → Met m root i at n
      go true true p q e =
          let z = overlap_true at n (table_base w) table_size hn (omega arith) e in
          record { byte = z.byte; touched = z.one; serves = of_table p (eqb-true (bits 1 0 w) 1 q) z.other }
      go true false p q e = absurd (true≢false (sym e))
      go false y p q e = absurd (true≢false (sym e))

  table_false : cond (in_memory m first word_size) (table_test w at n) false ≡ false → (b : ℕ) → Among at n b →
      in_memory m first word_size ≡ true → bits 1 0 w ≡ 1 → Among (table_base w) table_size b → ⊥
  unfolding table_test
  table_false e b a x y z = overlap_false at n (table_base w) table_size (sym read ∙ e) b a z
    where
      read : cond (in_memory m first word_size) (cond (eqb (bits 1 0 w) 1) (overlap at n (table_base w) table_size) false) false ≡ overlap at n (table_base w) table_size
      read = rw (x, eq-eqb (bits 1 0 w) 1 y)

-- ── The window ──

-- a byte of the n from `at` on that the walks of one of the first k MiB use
record MetIn (m : List ℕ) (root k at n : ℕ) : Type 0 where
  mib : ℕ
  below : mib < k
  met : Met m root mib at n

tables_true : (m : List ℕ) (tables : Tables) (at n : ℕ) → 0 < n → (k : ℕ) → touches_tables m tables k at n ≡ true → MetIn m tables.root k at n
unfolding touches_tables
tables_true m tables at n hn zero h = absurd (true≢false (sym h))
tables_true m tables at n hn (suc k) h = go (touches_table (first_from (descriptor_at m (first_place tables.root k)) 0) at n) refl h (tables_true m tables at n hn k)
  where
    go : (x : Bool) → touches_table (first_from (descriptor_at m (first_place tables.root k)) 0) at n ≡ x → cond x true (touches_tables m tables k at n) ≡ true →
        (touches_tables m tables k at n ≡ true → MetIn m tables.root k at n) → MetIn m tables.root (suc k) at n
    go true p e rest = record { mib = k; below = omega arith; met = table_true m tables.root k at n hn (sym (table_same m (first_place tables.root k) at n) ∙ p) }
    go false p e rest =
        let z = rest e in
        let lt : z.mib < k = z.below in
        record { mib = z.mib; below = omega arith; met = z.met }

tables_false : (m : List ℕ) (tables : Tables) (at n k : ℕ) → touches_tables m tables k at n ≡ false → (i : ℕ) → i < k →
    touches_table (first_from (descriptor_at m (first_place tables.root i)) 0) at n ≡ false
unfolding touches_tables
tables_false m tables at n zero h i lt = absurd (let z : ⊥ = omega arith in z)
tables_false m tables at n (suc k) h i lt = go (touches_table (first_from (descriptor_at m (first_place tables.root k)) 0) at n) refl h (tables_false m tables at n k)
  where
    go : (x : Bool) → touches_table (first_from (descriptor_at m (first_place tables.root k)) 0) at n ≡ x → cond x true (touches_tables m tables k at n) ≡ false →
        (touches_tables m tables k at n ≡ false → (i : ℕ) → i < k → touches_table (first_from (descriptor_at m (first_place tables.root i)) 0) at n ≡ false) →
        touches_table (first_from (descriptor_at m (first_place tables.root i)) 0) at n ≡ false
    go true p e rest = absurd (true≢false e)
    go false p e rest = by (eqb i k) refl
      where
        by : (y : Bool) → eqb i k ≡ y → touches_table (first_from (descriptor_at m (first_place tables.root i)) 0) at n ≡ false
        by true q = rw (eqb-true i k q) p
        by false q = let ne = eqb-false i k q in rest e i (omega arith)

-- the level-one words of the first k MiB, one behind the other, and one of them
word_of : (root k b : ℕ) → Among root (word_size * k) b → Among (first_place root ((b - root) / word_size)) word_size b
word_of root k b i =
    let f : root ≤ b = i.from in
    let l : b < root + word_size * k = i.before in
    record { from = omega arith; before = omega arith }

word_below : (root k b : ℕ) → Among root (word_size * k) b → (b - root) / word_size < k
word_below root k b i = let f : root ≤ b = i.from in let l : b < root + word_size * k = i.before in omega arith

in_words : (root k i b : ℕ) → i < k → Among (first_place root i) word_size b → Among root (word_size * k) b
in_words root k i b lt x =
    let f : first_place root i ≤ b = x.from in
    let l : b < first_place root i + word_size = x.before in
    record { from = omega arith; before = omega arith }

touches_true : (m : List ℕ) (tables : Tables) (at n : ℕ) → 0 < n → (k : ℕ) → 0 < k → touches m tables k at n ≡ true → MetIn m tables.root k at n
unfolding touches
touches_true m tables at n hn k hk h = go (overlap at n tables.root (word_size * k)) refl h
  where
    go : (x : Bool) → overlap at n tables.root (word_size * k) ≡ x → cond x true (touches_tables m tables k at n) ≡ true → MetIn m tables.root k at n
    go true p e =
        let z = overlap_true at n tables.root (word_size * k) hn (omega arith) p in
        record {
          mib = (z.byte - tables.root) / word_size;
          below = word_below tables.root k z.byte z.other;
          met = record { byte = z.byte; touched = z.one; serves = first_word (word_of tables.root k z.byte z.other) };
        }
    go false p e = tables_true m tables at n hn k e

touches_false : (m : List ℕ) (tables : Tables) (at n k : ℕ) → touches m tables k at n ≡ false → (i : ℕ) → i < k → (b : ℕ) → Among at n b → Serves m tables.root i b → ⊥
unfolding touches
touches_false m tables at n k h i lt b a s = go (overlap at n tables.root (word_size * k)) refl h s
  where
    go : (x : Bool) → overlap at n tables.root (word_size * k) ≡ x → cond x true (touches_tables m tables k at n) ≡ false → Serves m tables.root i b → ⊥
    go true p e s = absurd (true≢false e)
    go false p e (first_word x) = overlap_false at n tables.root (word_size * k) p b a (in_words tables.root k i b lt x)
    go false p e (of_table x y z) =
        table_false m tables.root i at n (sym (table_same m (first_place tables.root i) at n) ∙ tables_false m tables at n k e i lt) b a x y z

-- a quiet store keeps away from what the walks of each MiB use
-- a window of w MiB has w level-one words
pub window_words_lem : (w : ℕ) → window_words w ≡ w
unfolding window_words address_limit
window_words_lem w = omega arith

pub quiet_apart : (w : ℕ) (m : List ℕ) (tables : Tables) (at n : ℕ) → quiet w m tables at n ≡ true → (i : ℕ) → i < w → (b : ℕ) → Among at n b → Serves m tables.root i b → ⊥
unfolding quiet
quiet_apart w m tables at n h = touches_false m tables at n w (not-true (touches m tables w at n) h)

pub quiet_exactly : (w : ℕ) (m : List ℕ) (tables : Tables) (at n : ℕ) → 0 < w → 0 < n → at + n ≤ length m → (quiet w m tables at n ≡ true) ↔ Untouched w m tables.root at n
quiet_exactly w m tables at n hw hn inside = (to, from)
  where
    to : quiet w m tables at n ≡ true → Untouched w m tables.root at n
    to h b a u = quiet_apart w m tables at n h u.mib (rw (← window_words_lem w) u.in_window) b a u.serves

    from : Untouched w m tables.root at n → quiet w m tables at n ≡ true
    from none = unfold quiet in go (touches m tables w at n) refl
      where
        go : (x : Bool) → touches m tables w at n ≡ x → not x ≡ true
        go false e = refl
        go true e =
            let z = touches_true m tables at n hn w hw e in
            let b : z.met.byte < at + n = z.met.touched.before in
            absurd (none z.met.byte z.met.touched (record { mib = z.mib; in_window = rw (window_words_lem w) z.below; serves = z.met.serves; inside = omega arith }))
