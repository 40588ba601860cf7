-- Kinds and their numbers, and the registers of a call.
use Prim.Native.Nat.{ℕ, ◌<◌}
use mathlib.Core.Path.{◌≡◌, refl, sym}
use mathlib.Core.Bool.{Bool, true, false, cond, true≢false}
use mathlib.Core.List.{List}
use lib.Dec.{eqb, ltb}
use lib.ListN.{length, get_or}
use borrow.Author.Tests.{eqb-true}
use Rattle.model.proofs.BoolLaws.{all_below, at_each}
use Rattle.model.specs.Numbers.{kind_number}
use Rattle.model.specs.declared.Kind.{Kind}
use Rattle.model.specs.declared.Kind.TheVariants.{Read, Write, Root, Asid, Mode, All, Addr, Ctx, AddrCtx, Fetch, Domain}
use Rattle.ffi.specs.Words.{kind_from, KindNumbers, are_words}

-- where the words are those of an operation and of registers, the registers are four
module _ (o r m t : List ℕ) where
  pub four : are_words o r ≡ true → length r ≡ 4
  unfolding are_words
  four w = go (eqb (length o) 4) (eqb (length r) 4) refl w
    where
      go : (a b : Bool) → eqb (length r) 4 ≡ b → cond a (cond b (ltb (get_or o 0 0) 11) false) false ≡ true → length r ≡ 4
      go true true e p = eqb-true (length r) 4 e
      go true false e p = absurd (true≢false (sym p))
      go false b e p = absurd (true≢false (sym p))

-- the kind with a number below 11 has that number: one test over the eleven
kind_back : (n : ℕ) → n < 11 → kind_number (kind_from n) ≡ n
unfolding kind_from all_below
kind_back n h = eqb-true (kind_number (kind_from n)) n (at_each 11 (λ i. eqb (kind_number (kind_from i)) i) refl n h)

pub kind_numbers : KindNumbers
unfolding kind_from
kind_numbers = record { there = there; back = kind_back }
  where
    there : (k : Kind) → kind_from (kind_number k) ≡ k
    there Read = refl
    there Write = refl
    there Root = refl
    there Asid = refl
    there Mode = refl
    there All = refl
    there Addr = refl
    there Ctx = refl
    there AddrCtx = refl
    there Fetch = refl
    there Domain = refl
