-- What is looked up for any numbers is what the rules say of them.
use Prim.Native.Nat.{ℕ, zero, suc, ◌<◌, ◌≤◌}
use mathlib.Core.Path.{◌≡◌, refl, sym, ap, ◌∙◌}
use mathlib.Core.Bool.{Bool, true, false, cond}
use native.Mathlib.Omega.{arith}
use lib.Dec.{eqb, ltb}
use borrow.Author.Tests.{ne_eqb, le-leb, lt-leb, ltb-true, ltb-false}
use Rattle.std.specs.Prelude.{List, Option, Some, None, unwrap_or, length, get_or}
use Rattle.model.specs.reference.Rules.{right_of, may_read, may_write, permits, ruling}
use Rattle.model.specs.step.Rights.{kernel_rights, user_rights, rights_of, at_least, permitted, ruling_of}
use Rattle.model.specs.declared.Purpose.{Purpose}
use Rattle.model.specs.declared.Purpose.TheVariants.{ToRead, ToWrite, ToFetch}
use Rattle.model.specs.declared.Rights.TheVariants.{Reading, Writing}
use Rattle.model.specs.declared.Ruling.{Ruling}
use Rattle.model.specs.declared.Ruling.TheVariants.{Allowed, PermissionDenied, DomainDenied}
use Rattle.model.proofs.Rulings.{ruling_same}
use Rattle.permissions.specs.Sheet.{answer, numbered, answer_at}
use Rattle.permissions.specs.Places.{place_of, by_rules, agree}
use Rattle.permissions.proofs.Places.{at_place, table_at, answer_at_small}
use Rattle.rulings.specs.declared.table.TheConstants.{TABLE}
use Rattle.rulings.specs.Ranges.{within, flag, told}

pub within_below : (n x : ℕ) → 0 < n → within n x < n
within_below n x h = go (ltb x n) refl
  where
    go : (b : Bool) → ltb x n ≡ b → cond b x 0 < n
    go true e = ltb-true x n e
    go false e = h

pub flag_below : (x : ℕ) → flag x < 2
flag_below x = go (eqb x 0)
  where
    go : (b : Bool) → cond b 0 1 < 2
    go true = omega arith
    go false = omega arith

-- a function that has the same value at 0 and at each x from n on
same_within : {A : Type 0} (f : ℕ → A) (n x : ℕ) → (n ≤ x → f 0 ≡ f x) → f (within n x) ≡ f x
same_within f n x past = go (ltb x n) refl
  where
    go : (b : Bool) → ltb x n ≡ b → f (cond b x 0) ≡ f x
    go true e = refl
    go false e = past (ltb-false x n e)

flag_zero : (x : ℕ) → eqb (flag x) 0 ≡ eqb x 0
flag_zero x = go (eqb x 0)
  where
    go : (b : Bool) → eqb (cond b 0 1) 0 ≡ b
    go true = refl
    go false = refl

-- AP from 8 on gives nothing, as AP 0
kernel_within : (p : ℕ) → kernel_rights (within 8 p) ≡ kernel_rights p
unfolding kernel_rights
kernel_within p =
    same_within kernel_rights 8 p (λ h. simp (le-leb 1 p (omega arith), le-leb 5 p (omega arith), lt-leb p 3 (omega arith), lt-leb p 7 (omega arith)) refl)

user_within : (p : ℕ) → user_rights (within 8 p) ≡ user_rights p
unfolding user_rights
user_within p =
    same_within user_rights 8 p (λ h. simp (ne_eqb p 3 (omega arith), ne_eqb p 2 (omega arith), le-leb 6 p (omega arith), lt-leb p 7 (omega arith)) refl)

rights_within : (p mode : ℕ) → rights_of (within 8 p) (flag mode) ≡ rights_of p mode
unfolding rights_of
rights_within p mode = rw (flag_zero mode, kernel_within p, user_within p) refl

permitted_within : (p mode : ℕ) (x : Purpose) (xn : ℕ) → permitted (within 8 p) (flag mode) x (flag xn) ≡ permitted p mode x xn
unfolding permitted
permitted_within p mode ToRead xn = ap (at_least Reading) (rights_within p mode)
permitted_within p mode ToWrite xn = ap (at_least Writing) (rights_within p mode)
permitted_within p mode ToFetch xn = rw (rights_within p mode, flag_zero xn) refl

-- a field from 4 on is neither 1 nor 3
field_within : (n field : ℕ) → n < 4 → 0 < n → eqb (within 4 field) n ≡ eqb field n
field_within n field h p = same_within (λ (x : ℕ). eqb x n) 4 field (λ g. ne_eqb 0 n (omega arith) ∙ sym (ne_eqb field n (omega arith)))

ruling_within : (p mode : ℕ) (x : Purpose) (field xn : ℕ) → ruling_of (within 8 p) (flag mode) x (within 4 field) (flag xn) ≡ ruling_of p mode x field xn
unfolding ruling_of
ruling_within p mode x field xn =
    rw (field_within 3 field (omega arith) (omega arith), field_within 1 field (omega arith) (omega arith), permitted_within p mode x xn) refl

told_answer : (x : Ruling) → told (answer x) ≡ x
told_answer Allowed = refl
told_answer PermissionDenied = refl
told_answer DomainDenied = refl

told_numbered : (r : Option Ruling) → told (numbered r) ≡ unwrap_or r DomainDenied
told_numbered None = refl
told_numbered (Some x) = told_answer x

answer_told : (n : ℕ) → n ≤ 2 → answer (told n) ≡ n
answer_told zero h = refl
answer_told (suc zero) h = refl
answer_told (suc (suc zero)) h = refl
answer_told (suc (suc (suc n))) h = absurd (let z : ⊥ = omega arith in z)

-- the test over the whole table, which is computed: all 384 places agree with the rules
pub table_agrees : agree 0 TABLE ≡ true
unfolding agree by_rules ruling permits right_of may_read may_write
table_agrees = refl

-- what stands at a place of a table whose answers are those of the rules tells the answer there
pub found : (xs : List ℕ) (k n : ℕ) → agree 0 xs ≡ true → length xs ≡ 384 → true ≡ ltb k (length xs) → n ≡ get_or xs k n → answer (told n) ≡ answer_at k
found xs k n h many within e =
    let lt = ltb-true k (length xs) (sym within) in
    let same = e ∙ table_at xs h many k n (omega arith) in
    ap (λ (x : ℕ). answer (told x)) same ∙ answer_told (answer_at k) (answer_at_small k (omega arith))

-- what is found at the place of these numbers, brought into their ranges, is what the rules say of them
pub looked_up : (p mode : ℕ) (x : Purpose) (field xn : ℕ) (r : Option Ruling) → numbered r ≡ answer_at (place_of (within 8 p) (flag mode) x (within 4 field) (flag xn)) → unwrap_or r DomainDenied ≡ ruling_of p mode x field xn
looked_up p mode x field xn r e =
    sym (told_numbered r)
    ∙ ap told (e ∙ at_place (within 8 p) (flag mode) (within 4 field) (flag xn) x (within_below 8 p (omega arith)) (flag_below mode) (within_below 4 field (omega arith)) (flag_below xn))
    ∙ told_answer (ruling (within 8 p) (flag mode) x (within 4 field) (flag xn))
    ∙ sym (ruling_same (within 8 p) (flag mode) x (within 4 field) (flag xn))
    ∙ ruling_within p mode x field xn
