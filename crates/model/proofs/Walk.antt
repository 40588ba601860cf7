-- The step's walk by page is the reference's walk by address.
use Prim.Native.Nat.{ℕ, ◌+◌, ◌*◌, ◌-◌, ◌/◌, ◌%◌, ◌<◌}
use mathlib.Core.Path.{◌≡◌, refl, sym, ap, ◌∙◌}
use mathlib.Core.Bool.{Bool, true, false, cond, ◌&&◌}
use mathlib.Core.List.{List}
use native.Mathlib.Omega.{arith}
use lib.Dec.{eqb}
use borrow.Author.Tests.{eqb-true, eqb-false}
use Rattle.std.specs.Prelude.{Some, None, Ok, Err}
use Rattle.model.specs.Limits.{page_size, section_size}
use Rattle.model.specs.Numbers.{fault_number}
use Rattle.model.specs.reference.Rules.{Translation, found, failed, value, bits, descriptor, global_by, domain_of, section, large_page, small_page, page_word, table_word, walk}
use Rattle.model.specs.step.Memory.{within, number_at, load_at}
use Rattle.model.specs.step.Walk.{kind_of, super_bit, pointer_of, first_domain, section_entry, large_entry, small_entry, descriptor_at, first_of, first_from, first_at, second_of, second_from, second_at, walk_from, walk_page}
use Rattle.model.specs.Types.{Entry, FirstUnmapped, SecondUnmapped, Four, Pointer, Table, Section, Tables, Outcome}
use Rattle.model.proofs.BoolLaws.{push}
use Rattle.model.proofs.Memory.{within_same, number_same}

-- an outcome as the reference has it
abbrev pub translation : Outcome → Translation
translation (Ok e) = found e
translation (Err f) = failed (fault_number f)

-- an nG bit
global_same : (x : ℕ) → x < 2 → 1 - x ≡ global_by x
unfolding global_by
global_same x h = go (eqb x 0) refl
  where
    go : (b : Bool) → eqb x 0 ≡ b → 1 - x ≡ cond b 1 0
    go true e = let q = eqb-true x 0 e in omega arith
    go false e = let q = eqb-false x 0 e in omega arith

-- the entries of the three kinds of mapping
with_bits : (e : Entry) (g x : ℕ) → e.global ≡ g → e.xn ≡ x →
    e ≡ record { frame = e.frame; ap = e.ap; section = e.section; global = g; xn = x; domain = e.domain }
with_bits e g x p q = λ i. record { frame = e.frame; ap = e.ap; section = e.section; global = p i; xn = q i; domain = e.domain }

section_same : (a w : ℕ) → section_entry w (a / page_size) ≡ section a w
unfolding section domain_of bits
section_same a w = with_bits (section_entry w (a / page_size)) _ (bits 4 4 w) (global_same (w / 131072 % 2) (omega arith)) refl

large_same : (a d w : ℕ) → large_entry w (a / page_size) d ≡ large_page a d w
unfolding large_page bits
large_same a d w = with_bits (large_entry w (a / page_size) d) _ (bits 15 15 w) (global_same (w / 2048 % 2) (omega arith)) refl

small_same : (d w : ℕ) → small_entry w d ≡ small_page d w
unfolding small_page bits
small_same d w = with_bits (small_entry w d) _ (bits 0 0 w) (global_same (w / 2048 % 2) (omega arith)) (omega arith)

kind_same : (w : ℕ) → kind_of w ≡ bits 1 0 w
unfolding bits
kind_same w = omega arith

-- level two
second_tests : (a d w : ℕ) (x y : Bool) →
    translation (cond x (Err SecondUnmapped) (cond y (Ok (large_entry w (a / page_size) d)) (Ok (small_entry w d))))
    ≡ cond x (failed 0x7) (cond y (found (large_page a d w)) (found (small_page d w)))
second_tests a d w true y = refl
second_tests a d w false true = ap found (large_same a d w)
second_tests a d w false false = ap found (small_same d w)

second_same : (a d w : ℕ) → translation (second_of w (a / page_size) d) ≡ page_word a d w
unfolding second_of page_word
second_same a d w = rw (sym (kind_same w)) (second_tests a d w (eqb (kind_of w) 0) (eqb (kind_of w) 1))

second_at_same : (m : List ℕ) (p : Pointer) (a : ℕ) →
    translation (second_at m p (a / page_size)) ≡ descriptor m (p.base + 4 * (a / page_size % 256)) 0xe (page_word a p.domain)
unfolding second_at descriptor load_at
second_at_same m p a =
    let at : ℕ = p.base + 4 * (a / page_size % 256) in
    let d : ℕ = p.domain in
    push (λ x. translation (second_from x (a / page_size) d)) (within Four m at) (Some (number_at Four m at)) None
    ∙ ap (λ n. cond (within Four m at) n (failed 0xe)) (second_same a d (number_at Four m at) ∙ ap (page_word a d) (number_same Four m at))
    ∙ ap (λ b. cond b (page_word a d (value m at 4)) (failed 0xe)) (within_same Four m at)

-- level one
table_same : (w : ℕ) → (pointer_of w).base ≡ bits 31 10 w * 1024
unfolding bits
table_same w = refl

domain_same : (w : ℕ) → first_domain w ≡ domain_of w
unfolding domain_of bits
domain_same w = refl

super_same : (w : ℕ) → super_bit w ≡ bits 18 18 w
unfolding bits
super_same w = refl

first_tests : (m : List ℕ) (a w : ℕ) (x y z : Bool) →
    translation (walk_from (cond x (Ok (Table (pointer_of w))) (cond y (cond z (Ok (Section (section_entry w (a / page_size)))) (Err FirstUnmapped)) (Err FirstUnmapped))) m (a / page_size))
    ≡ cond x (descriptor m (bits 31 10 w * 1024 + 4 * (a / page_size % 256)) 0xe (page_word a (domain_of w))) (cond (y && z) (found (section a w)) (failed 0x5))
unfolding domain_of bits
first_tests m a w true y z = second_at_same m (pointer_of w) a
first_tests m a w false true true = ap found (section_same a w)
first_tests m a w false true false = refl
first_tests m a w false false z = refl

first_same : (m : List ℕ) (a w : ℕ) → translation (walk_from (first_of w (a / page_size)) m (a / page_size)) ≡ table_word m a w
unfolding first_of table_word
first_same m a w = rw (sym (kind_same w), sym (super_same w)) (first_tests m a w (eqb (kind_of w) 1) (eqb (kind_of w) 2) (eqb (super_bit w) 0))

place_same : (root a : ℕ) → root + 4 * (a / page_size / 256) ≡ root + 4 * (a / section_size)
place_same root a = omega arith

pub walk_same : (m : List ℕ) (tables : Tables) (a : ℕ) → translation (walk_page m tables (a / page_size)) ≡ walk m tables.root a
unfolding walk_page first_at walk descriptor load_at
walk_same m tables a =
    let at : ℕ = tables.root + 4 * (a / section_size) in
    ap (λ i. translation (walk_from (first_from (descriptor_at m i) (a / page_size)) m (a / page_size))) (place_same tables.root a)
    ∙ push (λ x. translation (walk_from (first_from x (a / page_size)) m (a / page_size))) (within Four m at) (Some (number_at Four m at)) None
    ∙ ap (λ n. cond (within Four m at) n (failed 0xc)) (first_same m a (number_at Four m at) ∙ ap (table_word m a) (number_same Four m at))
    ∙ ap (λ b. cond b (table_word m a (value m at 4)) (failed 0xc)) (within_same Four m at)
