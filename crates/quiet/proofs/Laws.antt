-- The test over the level-one words.
use Prim.Native.Nat.{ℕ, zero, suc, ◌+◌, ◌-◌, ◌<◌}
use mathlib.Core.Path.{◌≡◌, refl, ap, ap₂, ◌∙◌}
use mathlib.Core.Bool.{Bool, true, false, cond, ◌||◌}
use mathlib.Core.List.{List}
use Rattle.std.specs.List.{list_any, range_with_len}
use native.Mathlib.Omega.{arith}
use Rattle.model.specs.step.Walk.{descriptor_at, first_from}
use Rattle.model.specs.declared.Tables.{Tables}
use Rattle.runs.specs.Used.{first_place}
use Rattle.runs.specs.Quiet.{touches_table, touches_tables}

-- a test of the numbers from the second on
any_behind : (test : ℕ → Bool) (a k : ℕ) → list_any test (range_with_len (a + 1) k) ≡ list_any (λ (i : ℕ). test (i + 1)) (range_with_len a k)
any_behind test a zero = refl
any_behind test a (suc k) = ap (λ b. test (a + 1) || b) (any_behind test (a + 1) k)

-- the same test of the same numbers
any_same : (f g : ℕ → Bool) (a k : ℕ) → ((i : ℕ) → i < a + k → f i ≡ g i) → list_any f (range_with_len a k) ≡ list_any g (range_with_len a k)
any_same f g a zero h = refl
any_same f g a (suc k) h = ap₂ (λ x y. x || y) (h a (omega arith)) (any_same f g (a + 1) k (λ i q. h i (omega (arith, q))))

-- the test of k MiB from the last one down
pub each_mib : (m : List ℕ) (tables : Tables) (at n k : ℕ) → list_any (λ (i : ℕ). touches_table (first_from (descriptor_at m (first_place tables.root (k - 1 - i))) 0) at n) (range_with_len 0 k) ≡ touches_tables m tables k at n
unfolding touches_tables
each_mib m tables at n zero = refl
each_mib m tables at n (suc k) = go (touched k) refl (each_mib m tables at n k)
  where
    touched : ℕ → Bool
    touched i = touches_table (first_from (descriptor_at m (first_place tables.root i)) 0) at n

    fewer : Bool
    fewer = list_any (λ (i : ℕ). touched (k - 1 - i)) (range_with_len 0 k)

    rest : list_any (λ (i : ℕ). touched (suc k - 1 - i)) (range_with_len 1 k) ≡ fewer
    rest =
        any_behind (λ (i : ℕ). touched (suc k - 1 - i)) 0 k
        ∙ any_same (λ (i : ℕ). touched (suc k - 1 - (i + 1))) (λ (i : ℕ). touched (k - 1 - i)) 0 k (λ i q. ap touched (omega (arith, q)))

    first : touched (suc k - 1 - 0) ≡ touched k
    first = ap touched (omega arith)

    go : (b : Bool) → touched k ≡ b → fewer ≡ touches_tables m tables k at n → touched (suc k - 1 - 0) || list_any (λ (i : ℕ). touched (suc k - 1 - i)) (range_with_len 1 k) ≡ cond (touched k) true (touches_tables m tables k at n)
    go true e h = rw (first, e) refl
    go false e h = rw (first, e) (rest ∙ h)
