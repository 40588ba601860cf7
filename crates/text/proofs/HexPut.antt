-- A number is spelled from its last digit on: a turn of the loop, and its end. Assumes nothing.
use Prim.Native.Nat.{ℕ, zero, suc, ◌*◌, ◌/◌, ◌%◌, ◌^◌, ◌-◌, ◌≤◌, ◌<◌}
use mathlib.Core.Path.{◌≡◌, refl, ap, sym, ◌∙◌}
use mathlib.Core.List.{List, ◌∷◌}
use native.Mathlib.Omega.{arith}
use native.Mathlib.Nat.{pow-suc}
use lib.ListN.{length, take, drop, set, length-set, length-drop}
use lib.Seq.{set_split, drop_at, length-take-le, take_all}
use borrow.Author.Tests.{lt-ltb, le-ltb}
use Rattle.text.specs.Hex.{glyph, spell, hex_of}

-- the list from the place of a store on
pub drop_set : (l : List ℕ) (j x : ℕ) → j < length l → drop j (set l j x) ≡ x ∷ drop (suc j) l
drop_set l j x h = ap (drop j) (set_split l j x h) ∙ drop_at (take j l) (x ∷ drop (suc j) l) j (length-take-le j l (omega arith))

module _ (i j v : ℕ) (buf : List ℕ) (e : i ≡ suc j) (h : j < length buf) where
  pub spell_turn : 15 < v → spell i v (drop i buf) ≡ spell j (v / 16) (drop j (set buf j (glyph (v % 16))))
  unfolding spell
  spell_turn p = rw (e, drop_set buf j (glyph (v % 16)) h, le-ltb v 16 p)

  pub spell_last : v < 16 → spell i v (drop i buf) ≡ drop j (set buf j (glyph v))
  unfolding spell
  spell_last p = rw (e, drop_set buf j (glyph v) h, lt-ltb v 16 p)

  pub bound_turn : v < 16 ^ i → v / 16 < 16 ^ j
  bound_turn p = let w : v < 16 ^ j * 16 = rw (e, pow-suc) at p in omega arith

  pub more_turns : 15 < v → v < 16 ^ i → 1 ≤ j
  more_turns p q = go j refl (bound_turn q)
    where
      go : (k : ℕ) → j ≡ k → v / 16 < 16 ^ k → 1 ≤ k
      go zero f w = omega arith
      go (suc k) f w = omega arith

-- the digits as the buffer's part holds them
pub spelled_part : (n i v x : ℕ) (buf : List ℕ) (j : ℕ) → i ≡ suc j → i ≤ 8 → length buf ≡ 8 → v < 16 → x ≡ glyph v → hex_of n ≡ spell i v (drop i buf) → take (8 - j) (drop j (set buf j x)) ≡ hex_of n
spelled_part n i v x buf j e h l p g s =
    take_all (8 - j) (drop j (set buf j x)) (simp (length-drop, length-set) (omega arith))
    ∙ ap (λ (y : ℕ). drop j (set buf j y)) g
    ∙ sym (spell_last i j v buf e (omega arith) p)
    ∙ sym s
