-- Which bytes the walk of an address reads: the walk depends on no other, and the bytes that some walk of the window reads are those in use.
use Prim.Native.Nat.{ℕ, zero, suc, ◌+◌, ◌*◌, ◌-◌, ◌/◌, ◌%◌, ◌≤◌, ◌<◌}
use mathlib.Core.Path.{◌≡◌, refl, sym, ap, ap₂, ◌∙◌, subst}
use mathlib.Core.Logic.{◌↔◌}
use mathlib.Core.Bool.{Bool, true, false, cond, ◌&&◌}
use mathlib.Core.List.{List}
use native.Mathlib.Omega.{arith}
use lib.Dec.{eqb, leb}
use lib.ListN.{length, get_or}
use borrow.Author.Tests.{eqb-true, leb-true}
use Rattle.model.specs.Limits.{address_limit, page_size, section_size}
use Rattle.model.specs.reference.Rules.{Translation, found, failed, in_memory, value, bits, descriptor, domain_of, section, page_word, table_word, walk}
use Rattle.runs.specs.Used.{window_words, word_size, table_size, first_place, table_base, Among, Serves, first_word, of_table, Used, first_address, first_says, Reads, first, second}
use Rattle.runs.specs.Same.{UsedByWalks}

-- ── Two memories of one length ──
module _ (m k : List ℕ) (long : length k ≡ length m) where
  -- a number of n bytes that are the same
  same_value : (n at : ℕ) → ((x : ℕ) → Among at n x → get_or k x 0 ≡ get_or m x 0) → value k at n ≡ value m at n
  unfolding value
  same_value zero at h = refl
  same_value (suc n) at h =
      ap₂ (λ x y. x + 256 * y)
      (h at (record { from = omega arith; before = omega arith }))
      (same_value n (suc at) (λ x i. h x (let f : suc at ≤ x = i.from in let l : x < suc at + n = i.before in record { from = omega arith; before = omega arith })))

  -- a descriptor whose bytes in memory are the same, and of which the same is said
  same_descriptor : (at f : ℕ) (g h : ℕ → Translation) → ((x : ℕ) → Among at 4 x → x < length m → get_or k x 0 ≡ get_or m x 0) →
      (in_memory m at 4 ≡ true → g (value m at 4) ≡ h (value m at 4)) → descriptor k at f g ≡ descriptor m at f h
  unfolding descriptor in_memory
  same_descriptor at f g h bytes e = ap (λ n. cond (leb (at + 4) n) (g (value k at 4)) (failed f)) long ∙ by (leb (at + 4) (length m)) refl
    where
      by : (x : Bool) → leb (at + 4) (length m) ≡ x → cond x (g (value k at 4)) (failed f) ≡ cond x (h (value m at 4)) (failed f)
      by true p =
          let inside : at + 4 ≤ length m = leb-true (at + 4) (length m) p in
          ap g (same_value 4 at (λ x i. bytes x i (let l : x < at + 4 = i.before in omega (arith, inside)))) ∙ e p
      by false p = refl

  -- what a level-one word says of an address, if the level-two word is the same where it points to a table
  same_table : (a w : ℕ) → (bits 1 0 w ≡ 1 → (x : ℕ) → Among (bits 31 10 w * 1024 + 4 * (a / page_size % 256)) 4 x → x < length m → get_or k x 0 ≡ get_or m x 0) →
      table_word k a w ≡ table_word m a w
  unfolding table_word
  same_table a w bytes = by (eqb (bits 1 0 w) 1) refl
    where
      by : (b : Bool) → eqb (bits 1 0 w) 1 ≡ b →
          cond b (descriptor k (bits 31 10 w * 1024 + 4 * (a / page_size % 256)) 0xe (page_word a (domain_of w))) (cond (eqb (bits 1 0 w) 2 && eqb (bits 18 18 w) 0) (found (section a w)) (failed 0x5))
          ≡ cond b (descriptor m (bits 31 10 w * 1024 + 4 * (a / page_size % 256)) 0xe (page_word a (domain_of w))) (cond (eqb (bits 1 0 w) 2 && eqb (bits 18 18 w) 0) (found (section a w)) (failed 0x5))
      by true p = same_descriptor (bits 31 10 w * 1024 + 4 * (a / page_size % 256)) 0xe (page_word a (domain_of w)) (page_word a (domain_of w)) (bytes (eqb-true (bits 1 0 w) 1 p)) (λ q. refl)
      by false p = refl

pub nothing_else_lem : (m k : List ℕ) (root a : ℕ) → length k ≡ length m →
    ((b : ℕ) → Reads m root a b → b < length m → get_or k b 0 ≡ get_or m b 0) → walk k root a ≡ walk m root a
unfolding walk
nothing_else_lem m k root a long bytes =
    same_descriptor m k long (first_address root a) 0xc (table_word k a) (table_word m a)
    (λ x i. bytes x (first i))
    (λ inside. same_table m k long a (first_says m root a) (λ p x i. bytes x (second inside p i)))

-- ── The bytes in use ──

-- what the walk of an address reads belongs to the walks of its MiB
pub reads_serves : (m : List ℕ) (root a b : ℕ) → Reads m root a b → Serves m root (a / section_size) b
reads_serves m root a b (first i) = first_word i
reads_serves m root a b (second inside p i) =
    let base : ℕ = table_base (first_says m root a) in
    let f : base + 4 * (a / page_size % 256) ≤ b = i.from in
    let l : b < base + 4 * (a / page_size % 256) + 4 = i.before in
    of_table inside p (record { from = omega (arith, f); before = omega (arith, l) })

-- and what belongs to the walks of a MiB of the window the walk of some address there reads
abbrev Read : ℕ → List ℕ → ℕ → ℕ → Type 0
Read w m root b = (a : ℕ) × (a < address_limit w) × Reads m root a b

-- page j of MiB i
abbrev page_of : ℕ → ℕ → ℕ
page_of i j = i * section_size + j * page_size

module _ (w : ℕ) (m : List ℕ) (root i j : ℕ) (hi : i < window_words w) (hj : j < 256) where
  below : page_of i j < address_limit w
  unfolding window_words address_limit
  below = omega arith

  its_mib : page_of i j / section_size ≡ i
  its_mib = omega arith

  its_page : page_of i j / page_size % 256 ≡ j
  its_page = omega arith

-- the word of a table in which a byte stands
word_in : ℕ → ℕ → ℕ
word_in base b = (b - base) / 4

word_below : (base b : ℕ) → Among base table_size b → word_in base b < 256
unfolding word_in
word_below base b x = let f : base ≤ b = x.from in let l : b < base + table_size = x.before in omega (arith, f, l)

in_word : (base b : ℕ) → Among base table_size b → Among (base + 4 * word_in base b) 4 b
unfolding word_in
in_word base b x = let f : base ≤ b = x.from in let l : b < base + table_size = x.before in record { from = omega (arith, f, l); before = omega (arith, f, l) }

serves_read : (w : ℕ) (m : List ℕ) (root i b : ℕ) → i < window_words w → Serves m root i b → Read w m root b
serves_read w m root i b hi (first_word x) =
    (page_of i 0, below w m root i 0 hi (omega arith), first (subst (λ n. Among (root + 4 * n) 4 b) (sym (its_mib w m root i 0 hi (omega arith))) x))
serves_read w m root i b hi (of_table inside p x) =
    let base : ℕ = table_base (value m (first_place root i) word_size) in
    let j : ℕ = word_in base b in
    let hj : j < 256 = word_below base b x in
    let mib : i ≡ page_of i j / section_size = sym (its_mib w m root i j hi hj) in (
      page_of i j,
      below w m root i j hi hj,
      second (subst (λ n. in_memory m (root + 4 * n) 4 ≡ true) mib inside) (subst (λ n. bits 1 0 (value m (root + 4 * n) 4) ≡ 1) mib p)
          (subst (λ n. Among (bits 31 10 (value m (root + 4 * n) 4) * 1024 + 4 * (page_of i j / page_size % 256)) 4 b) mib
          (subst (λ n. Among (base + 4 * n) 4 b) (sym (its_page w m root i j hi hj)) (in_word base b x))),
    )

in_window_lem : (w a : ℕ) → a < address_limit w → a / section_size < window_words w
unfolding window_words address_limit
in_window_lem w a h = omega (arith, h)

used_exactly : (w : ℕ) (m : List ℕ) (root b : ℕ) → Used w m root b ↔ ((a : ℕ) × (a < address_limit w) × Reads m root a b × (b < length m))
used_exactly w m root b = (to, from)
  where
    to : Used w m root b → (a : ℕ) × (a < address_limit w) × Reads m root a b × (b < length m)
    to u = let z = serves_read w m root u.mib b u.in_window u.serves in (z.0, z.1, z.2, u.inside)

    from : ((a : ℕ) × (a < address_limit w) × Reads m root a b × (b < length m)) → Used w m root b
    from z =
        let h : z.0 < address_limit w = z.1 in
        record { mib = z.0 / section_size; in_window = in_window_lem w z.0 h; serves = reads_serves m root z.0 b z.2; inside = z.3 }

pub used_by_walks : UsedByWalks
used_by_walks = record { exactly = used_exactly; nothing_else = nothing_else_lem }
