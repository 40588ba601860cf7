-- What the pages of a MiB have in common.
use Prim.Native.Nat.{ℕ, ◌+◌, ◌*◌, ◌/◌, ◌%◌, ◌≤◌, ◌<◌}
use mathlib.Core.Path.{◌≡◌, refl, sym, ap, ◌∙◌}
use mathlib.Core.List.{List}
use native.Mathlib.Omega.{arith}
use native.Mathlib.Nat.{add-zero, zero-add}
use lib.ListN.{length, take}
use Rattle.model.specs.declared.Size.TheVariants.{Four}
use Rattle.std.specs.Prelude.{Option, Some, None, Ok, Err}
use Rattle.model.specs.Types.{FirstOutcome}
use Rattle.model.specs.declared.FirstLevel.TheVariants.{Table, Section}
use Rattle.model.specs.declared.Tables.{Tables}
use Rattle.model.specs.step.Memory.{number_at, within, load_at}
use Rattle.model.specs.declared.Entry.{Entry}
use Rattle.model.specs.declared.Pointer.{Pointer}
use Rattle.model.specs.declared.Fault.{Fault}
use Rattle.model.specs.declared.Fault.TheVariants.{FirstUnmapped, SecondOutside}
use mathlib.Core.Bool.{Bool, true, false, cond}
use lib.Dec.{eqb}
use borrow.Author.Tests.{le-leb, lt-leb}
use Rattle.std.specs.Prelude.{◌-◌, min}
use Rattle.model.specs.step.Rows.{map_first, map_words}
use Rattle.model.specs.step.Walk.{kind_of, super_bit, pointer_of, section_entry, descriptor_at, first_of, first_from, first_at, second_of, second_from, second_at, walk_from, walk_page}
use Rattle.model.specs.step.Track.{add_outcome, note_page}
use Rattle.noting.specs.Mib.{mib_pages, note_found, note_mib}
use Rattle.std.proofs.lemmas.List.{length-take}
use Rattle.track.proofs.Rows.{same_words, from_start, rest_stays}

-- pages with one number in their MiB: what a word says of both is the same
module _ (p q : ℕ) (e : p % mib_pages ≡ q % mib_pages) where
  second_same : (x d : ℕ) → second_of x p d ≡ second_of x q d
  unfolding second_of
  second_same x d = let in-large : p % 16 ≡ q % 16 = omega (arith, e) in rw in-large

  second_from_same : (x : Option ℕ) (d : ℕ) → second_from x p d ≡ second_from x q d
  second_from_same (Some x) d = second_same x d
  second_from_same None d = refl

  first_same : (x : Option ℕ) → first_from x p ≡ first_from x q
  unfolding first_of
  first_same (Some x) = rw e
  first_same None = refl

  walk_from_same : (m : List ℕ) (y : FirstOutcome) → walk_from y m p ≡ walk_from y m q
  unfolding second_at
  walk_from_same m (Err f) = refl
  walk_from_same m (Ok (Table t)) = rw e (second_from_same (descriptor_at m (t.base + 4 * (q % mib_pages))) t.domain)
  walk_from_same m (Ok (Section s)) = refl

  walk_same : (m : List ℕ) (x : Option ℕ) → walk_from (first_from x p) m p ≡ walk_from (first_from x q) m q
  walk_same m x = walk_from_same m (first_from x p) ∙ ap (λ (y : FirstOutcome). walk_from y m q) (first_same x)

-- page i of a MiB, by the level-one descriptor of that MiB
one_page : (m : List ℕ) (tables : Tables) (g mib i w : ℕ) → i < mib_pages → note_page m tables g (mib * mib_pages + i) w ≡ note_mib m (tables.root + 4 * mib) g i w
unfolding note_page walk_page first_at
one_page m tables g mib i w h =
    let page : ℕ = mib * mib_pages + i in
    let of-mib : page / mib_pages ≡ mib = omega (arith, h) in
    let in-mib : page % mib_pages ≡ i % mib_pages = omega (arith, h) in
    ap (λ (k : ℕ). add_outcome g w (walk_from (first_from (descriptor_at m (tables.root + 4 * k)) page) m page)) of-mib ∙ ap (add_outcome g w) (walk_same page i in-mib m (descriptor_at m (tables.root + 4 * mib)))

-- the pages of a row from where a MiB starts, k of them
pub by_mib : (m : List ℕ) (tables : Tables) (g mib start k : ℕ) (rest : List ℕ) → start ≡ mib * mib_pages → k ≤ mib_pages → map_first (note_page m tables g) start (length (take k rest)) (take k rest) ≡ map_words (note_mib m (tables.root + 4 * mib) g) (take k rest)
by_mib m tables g mib start k rest z n =
    let l : List ℕ = take k rest in
    ap (λ (s : ℕ). map_first (note_page m tables g) s (length l) l) (z ∙ sym (add-zero (mib * mib_pages))) ∙ from_start (note_page m tables g) (mib * mib_pages) 0 (length l) l ∙ same_words (λ (i : ℕ). note_page m tables g (mib * mib_pages + i)) (note_mib m (tables.root + 4 * mib) g) 0 (length l) l (λ (i : ℕ) a (w : ℕ). one_page m tables g mib i w (omega (arith, a, n, length-take k rest)))

-- what a level-one word says of page i, by what it says of page 0
abbrev pub again : FirstOutcome → ℕ → ℕ → FirstOutcome
again (Err f) x i = Err f
again (Ok (Table t)) x i = Ok (Table t)
again (Ok (Section e)) x i = Ok (Section (section_entry x i))

by_tests : (b c d : Bool) (t : Pointer) (x i : ℕ) → cond b (Ok (Table t)) (cond c (cond d (Ok (Section (section_entry x i))) (Err FirstUnmapped)) (Err FirstUnmapped)) ≡ again (cond b (Ok (Table t)) (cond c (cond d (Ok (Section (section_entry x 0))) (Err FirstUnmapped)) (Err FirstUnmapped))) x i
by_tests true c d t x i = refl
by_tests false true true t x i = refl
by_tests false true false t x i = refl
by_tests false false d t x i = refl

first_again : (x i : ℕ) → first_of x i ≡ again (first_of x 0) x i
unfolding first_of
first_again x i = by_tests (eqb (kind_of x) 1) (eqb (kind_of x) 2) (eqb (super_bit x) 0) (pointer_of x) x i

-- what the walk of page i of a MiB finds, by what its level-one word says of page 0
pub walked : (m : List ℕ) (at x i : ℕ) (y : FirstOutcome) → Some x ≡ load_at Four m at → y ≡ first_of x 0 → walk_from (again y x i) m i ≡ walk_from (first_from (descriptor_at m at) i) m i
walked m at x i y h e =
    ap (λ (v : FirstOutcome). walk_from (again v x i) m i) e ∙ ap (λ (v : FirstOutcome). walk_from v m i) (sym (first_again x i)) ∙ ap (λ (v : Option ℕ). walk_from (first_from v i) m i) h

-- the pages of a section, and those of a table
pub section_pages : (m : List ℕ) (at g x : ℕ) (l : List ℕ) (e : Entry) → Some x ≡ load_at Four m at → Ok (Section e) ≡ first_of x 0 → map_words (note_found (λ i. Ok (section_entry x i)) g) l ≡ map_words (note_mib m at g) l
section_pages m at g x l e h says =
    same_words (note_found (λ i. Ok (section_entry x i)) g) (note_mib m at g) 0 (length l) l (λ (i : ℕ) a (w : ℕ). ap (add_outcome g w) (walked m at x i (Ok (Section e)) h says))

pub table_pages : (m : List ℕ) (at g x : ℕ) (l : List ℕ) (t : Pointer) → Some x ≡ load_at Four m at → Ok (Table t) ≡ first_of x 0 → map_words (note_found (λ i. second_at m t i) g) l ≡ map_words (note_mib m at g) l
table_pages m at g x l t h says =
    same_words (note_found (λ i. second_at m t i) g) (note_mib m at g) 0 (length l) l (λ (i : ℕ) a (w : ℕ). ap (add_outcome g w) (walked m at x i (Ok (Table t)) h says))

-- a level-one descriptor that maps nothing leaves the pages as they are
pub by_fault : (m : List ℕ) (at g x : ℕ) (l : List ℕ) (f : Fault) → Some x ≡ load_at Four m at → Err f ≡ first_of x 0 → l ≡ map_words (note_mib m at g) l
by_fault m at g x l f h e =
    rest_stays (note_mib m at g) 0 0 l (λ (i : ℕ) a b (w : ℕ). ap (add_outcome g w) (walked m at x i (Err f) h e))

-- a word of a table that lies in memory
pub table_word : (m : List ℕ) (t : Pointer) (i v : ℕ) → i < mib_pages → t.base + 4 * i + 4 ≤ length m → v ≡ number_at Four m (t.base + 4 * i) → second_of v i t.domain ≡ second_at m t i
unfolding second_at load_at within
table_word m t i v h q e =
    let in-mib : i % mib_pages ≡ i = omega (arith, h) in
    rw (in-mib, le-leb (t.base + 4 * i + 4) (length m) q, e)

-- a word of a table that lies outside memory
outside : (m : List ℕ) (t : Pointer) (i : ℕ) → i < mib_pages → length m < t.base + 4 * i + 4 → second_at m t i ≡ Err SecondOutside
unfolding second_at load_at within
outside m t i h q =
    let in-mib : i % mib_pages ≡ i = omega (arith, h) in
    rw (in-mib, lt-leb (t.base + 4 * i + 4) (length m) q)

-- the pages of a table whose first n words lie in memory, and the next does not
pub by_table : (m : List ℕ) (at g x n : ℕ) (t : Pointer) (l : List ℕ) → Some x ≡ load_at Four m at → Ok (Table t) ≡ first_of x 0 → length l ≤ mib_pages → n ≡ min ((length m - t.base) / 4) (length l) → map_first (note_mib m at g) 0 (0 + n) l ≡ map_words (note_mib m at g) l
by_table m at g x n t l h e k z =
    ap (λ (j : ℕ). map_first (note_mib m at g) 0 j l) (zero-add n) ∙ rest_stays (note_mib m at g) 0 n l (λ (i : ℕ) a b (w : ℕ). ap (add_outcome g w) (sym (outside m t i (omega (arith, a, b, k)) (omega (arith, a, b, z))) ∙ walked m at x i (Ok (Table t)) h e))

-- the pages of a level-one descriptor that lies outside memory stay as they are
pub by_none : (m : List ℕ) (at g : ℕ) (l : List ℕ) → None ≡ load_at Four m at → l ≡ map_words (note_mib m at g) l
by_none m at g l h =
    rest_stays (note_mib m at g) 0 0 l (λ (i : ℕ) a b (w : ℕ). ap (λ (v : Option ℕ). add_outcome g w (walk_from (first_from v i) m i)) h)
