-- The step's permissions are the reference's table of rights, and its rulings are the reference's.
use Prim.Native.Nat.{ℕ, zero, suc, ◌≤◌}
use mathlib.Core.Path.{◌≡◌, refl, sym, ap, ◌∙◌}
use mathlib.Core.Bool.{Bool, true, false, cond, ◌&&◌}
use native.Mathlib.Omega.{arith}
use lib.Dec.{eqb}
use lib.ListN.{get_or, get_or-eq_default}
use borrow.Author.Tests.{eqb-true, le-leb, lt-leb, ne_eqb}
use Rattle.model.specs.reference.Rules.{Right, nothing, reading, writing, rights, right_of, may_read, may_write, permits, ruling}
use Rattle.model.specs.step.Rights.{kernel_rights, user_rights, rights_of, level, at_least, permitted, ruling_of}
use Rattle.model.specs.Types.{Purpose, ToRead, ToWrite, ToFetch, Rights, Nothing, Reading, Writing, Ruling, Allowed, PermissionDenied, DomainDenied}
use Rattle.model.proofs.BoolLaws.{push, all_below, by_table}

-- a right as the step names it
abbrev step_right : Right → Rights
step_right nothing = Nothing
step_right reading = Reading
step_right writing = Writing

-- rights by their level
abbrev at_level : ℕ → Rights
at_level zero = Nothing
at_level (suc zero) = Reading
at_level (suc (suc n)) = Writing

at_own_level : (x : Rights) → at_level (level x) ≡ x
at_own_level Nothing = refl
at_own_level Reading = refl
at_own_level Writing = refl

-- rights that a computed test finds equal for each AP below 8, and that are equal from 8 on
rights_by_table : (f g : ℕ → Rights) → all_below 8 (λ i. eqb (level (f i)) (level (g i))) ≡ true → ((i : ℕ) → 8 ≤ i → f i ≡ g i) → (i : ℕ) → f i ≡ g i
rights_by_table f g h past i =
    sym (at_own_level (f i))
    ∙ ap at_level (by_table 8 (λ i. level (f i)) (λ i. level (g i)) h (λ k p. ap level (past k p)) i)
    ∙ at_own_level (g i)

-- the column of the table for the kernel, and the one for the user
abbrev kernel_column : ℕ → Right
kernel_column ap = (get_or rights ap (nothing, nothing)).0

abbrev user_column : ℕ → Right
user_column ap = (get_or rights ap (nothing, nothing)).1

past_table : (n : ℕ) → 8 ≤ n → get_or rights n (nothing, nothing) ≡ (nothing, nothing)
past_table n h = get_or-eq_default rights (nothing, nothing) h

past_kernel : (n : ℕ) → 8 ≤ n → kernel_rights n ≡ step_right (kernel_column n)
unfolding kernel_rights
past_kernel n h =
    simp (le-leb 1 n (omega arith), le-leb 5 n (omega arith), lt-leb n 3 (omega arith), lt-leb n 7 (omega arith))
    (sym (ap (λ (x : Right × Right). step_right x.0) (past_table n h)))

kernel_same : (n : ℕ) → kernel_rights n ≡ step_right (kernel_column n)
unfolding all_below kernel_rights
kernel_same = rights_by_table kernel_rights (λ n. step_right (kernel_column n)) refl past_kernel

past_user : (n : ℕ) → 8 ≤ n → user_rights n ≡ step_right (user_column n)
unfolding user_rights
past_user n h =
    simp (ne_eqb n 3 (omega arith), ne_eqb n 2 (omega arith), le-leb 6 n (omega arith), lt-leb n 7 (omega arith))
    (sym (ap (λ (x : Right × Right). step_right x.1) (past_table n h)))

user_same : (n : ℕ) → user_rights n ≡ step_right (user_column n)
unfolding all_below user_rights
user_same = rights_by_table user_rights (λ n. step_right (user_column n)) refl past_user

rights_level : (ap mode : ℕ) → rights_of ap mode ≡ step_right (right_of ap mode)
unfolding rights_of right_of
rights_level ap mode = rw (kernel_same ap, user_same ap) (sym (push step_right (eqb mode 0) (kernel_column ap) (user_column ap)))

may_read_lem : (x : Right) → at_least Reading (step_right x) ≡ may_read x
unfolding may_read
may_read_lem nothing = refl
may_read_lem reading = refl
may_read_lem writing = refl

may_write_lem : (x : Right) → at_least Writing (step_right x) ≡ may_write x
unfolding may_write
may_write_lem nothing = refl
may_write_lem reading = refl
may_write_lem writing = refl

may_fetch : (x : Right) (xn : ℕ) → cond (at_least Reading (step_right x)) (eqb xn 0) false ≡ (may_read x && eqb xn 0)
unfolding may_read
may_fetch nothing xn = refl
may_fetch reading xn = refl
may_fetch writing xn = refl

rights_same : (ap mode : ℕ) (purpose : Purpose) (xn : ℕ) → permitted ap mode purpose xn ≡ permits purpose (right_of ap mode) xn
unfolding permitted permits
rights_same ap mode ToRead xn = rw (rights_level ap mode) (may_read_lem (right_of ap mode))
rights_same ap mode ToWrite xn = rw (rights_level ap mode) (may_write_lem (right_of ap mode))
rights_same ap mode ToFetch xn = rw (rights_level ap mode) (may_fetch (right_of ap mode) xn)

-- by the field of a domain: the tests for 1 and for 3 in either order
pub ruling_same : (ap mode : ℕ) (purpose : Purpose) (field xn : ℕ) → ruling_of ap mode purpose field xn ≡ ruling ap mode purpose field xn
unfolding ruling_of ruling
ruling_same ap mode purpose field xn = rw (rights_same ap mode purpose xn) (go (eqb field 1) (eqb field 3) refl refl)
  where
    permission : Ruling
    permission = cond (permits purpose (right_of ap mode) xn) Allowed PermissionDenied

    go : (x y : Bool) → eqb field 1 ≡ x → eqb field 3 ≡ y → cond y Allowed (cond x permission DomainDenied) ≡ cond x permission (cond y Allowed DomainDenied)
    go true true p q = absurd (let z : ⊥ = omega (arith, eqb-true field 1 p, eqb-true field 3 q) in z)
    go true false p q = refl
    go false y p q = refl
