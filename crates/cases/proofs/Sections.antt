-- A TLB remembers whether an entry came from a section: a section split into equal pages leaves them stale where its entry is still noted.
use Prim.Native.Nat.{ℕ, ◌+◌, ◌*◌, ◌/◌, ◌%◌, ◌<◌}
use mathlib.Core.Path.{◌≡◌, refl, ap, ap₂, ◌∙◌}
use mathlib.Core.Bool.{Bool, true, false}
use mathlib.Core.List.{List}
use native.Mathlib.Omega.{arith}
use borrow.Author.Tests.{eq-eqb, ne_eqb}
use Rattle.model.specs.Limits.{page_size}
use Rattle.model.specs.reference.Rules.{found, in_memory, value, bits, descriptor, global_by, domain_of, section, small_page, page_word, table_word, same, stale}
use Rattle.model.specs.Sections.{as_page, equal_page, second_place, SectionRemembered}
use Rattle.model.specs.declared.Entry.{Entry}
use Rattle.model.proofs.Entries.{same_true}
use Rattle.cases.proofs.Domains.{stale_by}

-- ── The fields of a small page's word ──
-- frame f, nG g, AP[2] p, AP[1:0] r, XN x
abbrev small : ℕ → ℕ → ℕ → ℕ → ℕ → ℕ
small f g p r x = f * 4096 + g * 2048 + p * 512 + r * 16 + 2 + x

module _ (f g p r x : ℕ) (hf : f < 0x100000) (hg : g < 2) (hp : p < 2) (hr : r < 4) (hx : x < 2) where
  frame_bits : bits 31 12 (small f g p r x) ≡ f
  unfolding bits
  frame_bits = omega (arith, hf, hg, hp, hr, hx)

  ng_bit : bits 11 11 (small f g p r x) ≡ g
  unfolding bits
  ng_bit = omega (arith, hf, hg, hp, hr, hx)

  ap_2 : bits 9 9 (small f g p r x) ≡ p
  unfolding bits
  ap_2 = omega (arith, hf, hg, hp, hr, hx)

  ap_1_0 : bits 5 4 (small f g p r x) ≡ r
  unfolding bits
  ap_1_0 = omega (arith, hf, hg, hp, hr, hx)

  xn_bit : bits 0 0 (small f g p r x) ≡ x
  unfolding bits
  xn_bit = omega (arith, hf, hg, hp, hr, hx)

  not_0 : bits 1 0 (small f g p r x) ≡ 0 → ⊥
  unfolding bits
  not_0 e = omega (arith, e, hf, hg, hp, hr, hx)

  not_1 : bits 1 0 (small f g p r x) ≡ 1 → ⊥
  unfolding bits
  not_1 e = omega (arith, e, hf, hg, hp, hr, hx)

-- what is said of the equal page's word
module _ (a w : ℕ) where
  abbrev f : ℕ
  f = bits 31 20 w * 256 + a / page_size % 256

  frame_below : f < 0x100000
  unfolding bits
  frame_below = omega arith

  ng_below : bits 17 17 w < 2
  unfolding bits
  ng_below = omega arith

  ap_2_below : bits 15 15 w < 2
  unfolding bits
  ap_2_below = omega arith

  ap_1_0_below : bits 11 10 w < 4
  unfolding bits
  ap_1_0_below = omega arith

  xn_below : bits 4 4 w < 2
  unfolding bits
  xn_below = omega arith

  abbrev q : ℕ
  q = small f (bits 17 17 w) (bits 15 15 w) (bits 11 10 w) (bits 4 4 w)

  same_fields : small_page (domain_of w) q ≡ as_page (section a w)
  unfolding small_page section
  same_fields = λ i. record {
    frame = frame_bits f (bits 17 17 w) (bits 15 15 w) (bits 11 10 w) (bits 4 4 w) frame_below ng_below ap_2_below ap_1_0_below xn_below i;
    ap = ap_2 f (bits 17 17 w) (bits 15 15 w) (bits 11 10 w) (bits 4 4 w) frame_below ng_below ap_2_below ap_1_0_below xn_below i * 4
        + ap_1_0 f (bits 17 17 w) (bits 15 15 w) (bits 11 10 w) (bits 4 4 w) frame_below ng_below ap_2_below ap_1_0_below xn_below i;
    section = 0;
    global = global_by (ng_bit f (bits 17 17 w) (bits 15 15 w) (bits 11 10 w) (bits 4 4 w) frame_below ng_below ap_2_below ap_1_0_below xn_below i);
    xn = xn_bit f (bits 17 17 w) (bits 15 15 w) (bits 11 10 w) (bits 4 4 w) frame_below ng_below ap_2_below ap_1_0_below xn_below i;
    domain = domain_of w;
  }

  equal_says : page_word a (domain_of w) q ≡ found (as_page (section a w))
  unfolding page_word
  equal_says =
      rw (
        ne_eqb (bits 1 0 q) 0 (not_0 f (bits 17 17 w) (bits 15 15 w) (bits 11 10 w) (bits 4 4 w) frame_below ng_below ap_2_below ap_1_0_below xn_below),
        ne_eqb (bits 1 0 q) 1 (not_1 f (bits 17 17 w) (bits 15 15 w) (bits 11 10 w) (bits 4 4 w) frame_below ng_below ap_2_below ap_1_0_below xn_below),
      ) (ap found same_fields)

alone : (m : List ℕ) (a w v : ℕ) → bits 1 0 v ≡ 1 → domain_of v ≡ domain_of w → in_memory m (second_place a v) 4 ≡ true →
    value m (second_place a v) 4 ≡ equal_page a w → table_word m a v ≡ found (as_page (section a w))
unfolding table_word descriptor
alone m a w v k d i e =
    rw (eq-eqb (bits 1 0 v) 1 k, i) (ap₂ (λ c x. page_word a c x) d (e ∙ word) ∙ equal_says a w)
  where
    word : equal_page a w ≡ q a w
    word = unfold section in refl

-- an entry of a section is not the entry of a page
not_same : (a w : ℕ) (b : Bool) → same (section a w) (as_page (section a w)) ≡ b → same (section a w) (as_page (section a w)) ≡ false
unfolding section
not_same a w false p = p
not_same a w true p =
    let z : ◌≡◌ {A = ℕ} 1 0 = ap (λ (x : Entry). x.section) (same_true (section a w) (as_page (section a w)) p) in absurd (let y : ⊥ = omega (arith, z) in y)

pub section_remembered : SectionRemembered
section_remembered = record {
  alone = alone;
  stale = λ m t window a w v u context e cov k.
      ap (stale window t context (a / page_size)) e ∙ stale_by window t u context (a / page_size) (section a w) (as_page (section a w)) cov k (not_same a w (same (section a w) (as_page (section a w))) refl);
}
