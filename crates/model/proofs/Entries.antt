-- Entries: compared whole, and given back by their words. A new field of an entry is one more line in each law of this file.
use Prim.Native.Nat.{ℕ, ◌+◌, ◌*◌, ◌/◌, ◌%◌, ◌<◌}
use mathlib.Core.Path.{◌≡◌, refl, sym, ap, ◌∙◌}
use mathlib.Core.Bool.{Bool, true, false, true≢false}
use mathlib.Core.HLevel.{Discrete}
use native.Mathlib.Omega.{arith}
use lib.Arith.{digits_mod}
use lib.Dec.{eqb}
use borrow.Author.Tests.{eqb-true, eq-eqb}
use Rattle.model.specs.reference.Rules.{bits, word_of, entry_of, same}
use Rattle.model.specs.Types.{Entry}
use Rattle.model.proofs.BoolLaws.{and_both}

-- a frame number of 20 bits, an AP of 3, the section bit, the global bit, the XN bit and a domain of 4 bits
abbrev pub Fits : Entry → Type 0
Fits e = (e.frame < 1048576) × ((e.ap < 8) × ((e.section < 2) × ((e.global < 2) × ((e.xn < 2) × (e.domain < 16)))))

-- ── Compared whole ──

pub same_true : (x y : Entry) → same x y ≡ true → x ≡ y
unfolding same
same_true x y p =
    let domains = and_both _ (eqb x.domain y.domain) p in
    let xns = and_both _ (eqb x.xn y.xn) domains.0 in
    let globals = and_both _ (eqb x.global y.global) xns.0 in
    let sections = and_both _ (eqb x.section y.section) globals.0 in
    let aps = and_both (eqb x.frame y.frame) (eqb x.ap y.ap) sections.0 in
    λ i. record {
      frame = eqb-true x.frame y.frame aps.0 i;
      ap = eqb-true x.ap y.ap aps.1 i;
      section = eqb-true x.section y.section sections.1 i;
      global = eqb-true x.global y.global globals.1 i;
      xn = eqb-true x.xn y.xn xns.1 i;
      domain = eqb-true x.domain y.domain domains.1 i;
    }

pub same_self : (e : Entry) → same e e ≡ true
unfolding same
same_self e =
    rw (
      eq-eqb e.frame e.frame refl,
      eq-eqb e.ap e.ap refl,
      eq-eqb e.section e.section refl,
      eq-eqb e.global e.global refl,
      eq-eqb e.xn e.xn refl,
      eq-eqb e.domain e.domain refl,
    )

pub same_false : (x y : Entry) → same x y ≡ false → x ≡ y → ⊥
same_false x y p q = true≢false (sym (same_self y) ∙ ap (λ z. same z y) (sym q) ∙ p)

-- so equality of entries is decided
pub entry_discrete : Discrete Entry
entry_discrete x y = go (same x y) refl
  where
    go : (b : Bool) → same x y ≡ b → Dec (x ≡ y)
    go true p = yes (same_true x y p)
    go false p = no (same_false x y p)

-- ── Given back by their words ──

-- a part of a word: what lies above it is cut off
part : (w low size above x : ℕ) → w / low ≡ above * size + x → x < size → w / low % size ≡ x
part w low size above x p h = ap (λ n. n % size) p ∙ digits_mod above h

pub decoded : (e : Entry) → Fits e → entry_of (word_of e) ≡ e
unfolding word_of entry_of bits
decoded e h = λ i. record {
  frame = part (word_of e) 4096 1048576 0 e.frame (omega arith) h.0 i;
  ap = part (word_of e) 512 8 e.frame e.ap (omega arith) h.1.0 i;
  section = part (word_of e) 256 2 (e.frame * 8 + e.ap) e.section (omega arith) h.1.1.0 i;
  global = part (word_of e) 128 2 (e.frame * 16 + e.ap * 2 + e.section) e.global (omega arith) h.1.1.1.0 i;
  xn = part (word_of e) 64 2 (e.frame * 32 + e.ap * 4 + e.section * 2 + e.global) e.xn (omega arith) h.1.1.1.1.0 i;
  domain = part (word_of e) 4 16 (e.frame * 64 + e.ap * 8 + e.section * 4 + e.global * 2 + e.xn) e.domain (omega arith) h.1.1.1.1.1 i;
}
