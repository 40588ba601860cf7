-- Laws of the names: one comparison, and their lengths. Assumes nothing.
use Prim.Native.Nat.{ℕ, suc, ◌+◌, ◌≤◌, ◌<◌}
use mathlib.Core.Path.{◌≡◌, refl, ap, ap₂, sym, ◌∙◌}
use mathlib.Core.Bool.{Bool, true, false, cond}
use mathlib.Core.List.{List, [], ◌∷◌}
use native.Mathlib.Omega.{arith}
use lib.ListN.{length, drop, get_or, drop_of_length-le}
use lib.Dec.{eqb}
use lib.Seq.{drop-cons}
use borrow.Author.Tests.{eqb-true, eqb-false, ne_eqb}
use Rattle.text.proofs.SplitLaws.{same_lengths}
use Rattle.text.specs.Split.{same}
use Rattle.text.specs.Hex.{digit}
use Rattle.model.specs.declared.Kind.{Kind}
use Rattle.model.specs.declared.Kind.TheVariants.{Read, Write, Root, Asid, Mode, All, Addr, Ctx, AddrCtx, Fetch, Domain}
use Rattle.std.specs.Prelude.{Option, Some, None}
use Rattle.names.specs.Names.{comma, newline, name, kinds, named_in, named_of}

-- a name has three bytes to seven
pub name_most : (k : Kind) → length (name k) ≤ 7
name_most Read = omega arith
name_most Write = omega arith
name_most Root = omega arith
name_most Asid = omega arith
name_most Mode = omega arith
name_most All = omega arith
name_most Addr = omega arith
name_most Ctx = omega arith
name_most AddrCtx = omega arith
name_most Fetch = omega arith
name_most Domain = omega arith

pub name_some : (k : Kind) → 3 ≤ length (name k)
name_some Read = omega arith
name_some Write = omega arith
name_some Root = omega arith
name_some Asid = omega arith
name_some Mode = omega arith
name_some All = omega arith
name_some Addr = omega arith
name_some Ctx = omega arith
name_some AddrCtx = omega arith
name_some Fetch = omega arith
name_some Domain = omega arith

-- a separator is no digit
pub comma_no_digit : digit comma ≡ 16
unfolding digit
comma_no_digit = refl

pub newline_no_digit : digit newline ≡ 16
unfolding digit
newline_no_digit = refl

-- whether the bytes of s from place i on are those of t
abbrev pub reads : List ℕ → ℕ → List ℕ → Bool
reads s i [] = true
reads s i (y ∷ ys) = cond (eqb (get_or s i 0) y) (reads s (suc i) ys) false

-- the operation among ks that a text of n bytes names, tested by its length and then by its bytes
abbrev pub picked : ℕ → List ℕ → List Kind → Option Kind
picked n s [] = None
picked n s (k ∷ ks) = cond (cond (eqb n (length (name k))) (reads s 0 (name k)) false) (Some k) (picked n s ks)

same_reads : (s : List ℕ) (i : ℕ) (t : List ℕ) → length s ≡ i + length t → same (drop i s) t ≡ reads s i t
unfolding same
same_reads s i [] h = rw (drop_of_length-le s {i = i} (omega arith)) refl
same_reads s i (y ∷ ys) h = rw (drop-cons s i 0 (omega arith)) (ap (λ (b : Bool). cond (eqb (get_or s i 0) y) b false) (same_reads s (suc i) ys (omega arith)))

same_tested : (s t : List ℕ) → same s t ≡ cond (eqb (length s) (length t)) (reads s 0 t) false
same_tested s t = go (eqb (length s) (length t)) refl
  where
    go : (b : Bool) → eqb (length s) (length t) ≡ b → same s t ≡ cond b (reads s 0 t) false
    go true e = same_reads s 0 t (omega (arith, eqb-true _ _ e))
    go false e = same_lengths s t (eqb-false _ _ e)

named_picked : (s : List ℕ) (ks : List Kind) → named_in ks s ≡ picked (length s) s ks
unfolding named_in
named_picked s [] = refl
named_picked s (k ∷ ks) = ap₂ (λ (b : Bool) (r : Option Kind). cond b (Some k) r) (same_tested s (name k)) (named_picked s ks)

module _ (s : List ℕ) (r : Option Kind) where
  at_length : (n : ℕ) → length s ≡ n → r ≡ picked n s kinds → r ≡ named_of s
  at_length n e h = h ∙ sym (named_picked s kinds ∙ ap (λ (m : ℕ). picked m s kinds) e)

  -- by the length of the text
  pub named_3 : 3 ≤ length s → length s < 4 → r ≡ picked 3 s kinds → r ≡ named_of s
  named_3 h k = at_length 3 (omega arith)

  pub named_4 : 4 ≤ length s → length s < 5 → r ≡ picked 4 s kinds → r ≡ named_of s
  named_4 h k = at_length 4 (omega arith)

  pub named_5 : 5 ≤ length s → length s < 6 → r ≡ picked 5 s kinds → r ≡ named_of s
  named_5 h k = at_length 5 (omega arith)

  pub named_6 : 6 ≤ length s → length s < 7 → r ≡ picked 6 s kinds → r ≡ named_of s
  named_6 h k = at_length 6 (omega arith)

  pub named_7 : 7 ≤ length s → length s < 8 → r ≡ picked 7 s kinds → r ≡ named_of s
  named_7 h k = at_length 7 (omega arith)

  pub named_short : length s < 3 → r ≡ None → r ≡ named_of s
  named_short h e = at_length (length s) refl (simp (ne_eqb (length s) 3 (omega arith), ne_eqb (length s) 4 (omega arith), ne_eqb (length s) 5 (omega arith), ne_eqb (length s) 6 (omega arith), ne_eqb (length s) 7 (omega arith)) e)

  pub named_long : 8 ≤ length s → r ≡ None → r ≡ named_of s
  named_long h e = at_length (length s) refl (simp (ne_eqb (length s) 3 (omega arith), ne_eqb (length s) 4 (omega arith), ne_eqb (length s) 5 (omega arith), ne_eqb (length s) 6 (omega arith), ne_eqb (length s) 7 (omega arith)) e)
