-- The answer at each place of the sheet, by the rules.
use Prim.Native.Nat.{ℕ, zero, suc, ◌+◌, ◌*◌, ◌/◌, ◌%◌, ◌<◌, ◌≤◌}
use mathlib.Core.Path.{◌≡◌, refl, sym, ap, subst, ◌∙◌}
use mathlib.Core.Bool.{true}
use mathlib.Core.List.{List, [], ◌∷◌}
use native.Mathlib.Omega.{arith}
use lib.Dec.{eqb}
use lib.ListN.{length, get_or, get_or-eq_default}
use borrow.Author.Tests.{eqb-true}
use Rattle.model.specs.reference.Rules.{right_of, may_read, may_write, permits, ruling}
use Rattle.model.specs.step.Rights.{ruling_of}
use Rattle.model.specs.declared.Purpose.{Purpose}
use Rattle.model.specs.declared.Purpose.TheVariants.{ToRead, ToWrite, ToFetch}
use Rattle.model.specs.declared.Ruling.{Ruling}
use Rattle.model.specs.declared.Ruling.TheVariants.{Allowed, PermissionDenied, DomainDenied}
use Rattle.std.proofs.lemmas.Bool.{and_parts}
use Rattle.model.proofs.Rulings.{ruling_same}
use Rattle.permissions.specs.Sheet.{answer, each, answers, answer_at}
use Rattle.permissions.specs.Places.{kind_place, kind_at, place_of, by_rules, agree}

-- what a test finds of a whole list holds at each place
agree_from : (xs : List ℕ) (i : ℕ) → agree i xs ≡ true → (k d : ℕ) → k < length xs → get_or xs k d ≡ by_rules (i + k)
unfolding agree
agree_from [] i h k d lt = absurd (let z : ⊥ = omega arith in z)
agree_from (x ∷ xs) i h zero d lt =
    eqb-true x (by_rules i) (and_parts (eqb x (by_rules i)) (agree (suc i) xs) h).0 ∙ ap by_rules (let e : i ≡ i + 0 = omega arith in e)
agree_from (x ∷ xs) i h (suc k) d lt =
    agree_from xs (suc i) (and_parts (eqb x (by_rules i)) (agree (suc i) xs) h).1 k d (omega arith)
    ∙ ap by_rules (let e : suc i + k ≡ i + suc k = omega arith in e)

agree_at : (xs : List ℕ) → agree 0 xs ≡ true → (k d : ℕ) → k < length xs → get_or xs k d ≡ by_rules k
agree_at xs h k d lt = agree_from xs 0 h k d lt ∙ ap by_rules (let e : 0 + k ≡ k = omega arith in e)

pub answers_many : length answers ≡ 384
unfolding answers each
answers_many = refl

-- one test over all 384 places of the sheet, which is computed
answers_agree : agree 0 answers ≡ true
unfolding answers each agree by_rules ruling permits right_of may_read may_write
answers_agree = refl

-- the sheet has the answer of the rules at each of its places, and none behind them
by_rules_at : (k : ℕ) → k < 384 → by_rules k ≡ answer_at k
unfolding answer_at
by_rules_at k lt = sym (agree_at answers answers_agree k 3 (omega (arith, answers_many)))

-- so has each table of 384 answers that agree with the rules
pub table_at : (xs : List ℕ) → agree 0 xs ≡ true → length xs ≡ 384 → (k d : ℕ) → k < 384 → get_or xs k d ≡ answer_at k
table_at xs h n k d lt = agree_at xs h k d (omega arith) ∙ by_rules_at k lt

-- an answer n that the code computes by the rules of the step
pub computed : (k : ℕ) {kind : Purpose} {said : Ruling} {n : ℕ} → k < 384 → kind ≡ kind_at (k / 8 % 3) → said ≡ ruling_of (k / 48) (k / 24 % 2) kind (k / 2 % 4) (k % 2) → n ≡ answer said → n ≡ answer_at k
unfolding by_rules
computed k lt of-kind of-said of_number =
    of_number
    ∙ ap answer
    (of-said
    ∙ ap (λ (x : Purpose). ruling_of (k / 48) (k / 24 % 2) x (k / 2 % 4) (k % 2)) of-kind
    ∙ ruling_same (k / 48) (k / 24 % 2) (kind_at (k / 8 % 3)) (k / 2 % 4) (k % 2))
    ∙ by_rules_at k lt

pub past_answers : (k : ℕ) → 384 ≤ k → answer_at k ≡ 3
unfolding answer_at
past_answers k h = get_or-eq_default answers 3 (omega (arith, answers_many))

answer_small : (x : Ruling) → answer x ≤ 2
answer_small Allowed = omega arith
answer_small PermissionDenied = omega arith
answer_small DomainDenied = omega arith

pub answer_at_small : (k : ℕ) → k < 384 → answer_at k ≤ 2
unfolding by_rules
answer_at_small k lt =
    subst (λ (n : ℕ). n ≤ 2) (by_rules_at k lt) (answer_small (ruling (k / 48) (k / 24 % 2) (kind_at (k / 8 % 3)) (k / 2 % 4) (k % 2)))

-- a place taken apart is what it was made of
kind_at_lem : (x : Purpose) → kind_at (kind_place x) ≡ x
kind_at_lem ToRead = refl
kind_at_lem ToWrite = refl
kind_at_lem ToFetch = refl

pub kind_below : (x : Purpose) → kind_place x < 3
kind_below ToRead = omega arith
kind_below ToWrite = omega arith
kind_below ToFetch = omega arith

-- a place with the kind at k, taken apart
module _ (p mode k field xn : ℕ) (mode-fits : mode < 2) (kind_fits : k < 3) (field_fits : field < 4) (xn-fits : xn < 2) where
  abbrev place : ℕ
  place = (((p * 2 + mode) * 3 + k) * 4 + field) * 2 + xn

  ap_of : place / 48 ≡ p
  ap_of = omega arith

  mode_of : place / 24 % 2 ≡ mode
  mode_of = omega arith

  kind_of : place / 8 % 3 ≡ k
  kind_of = omega arith

  field_of : place / 2 % 4 ≡ field
  field_of = omega arith

  xn_of : place % 2 ≡ xn
  xn_of = omega arith

module _ (p mode field xn : ℕ) (kind : Purpose) (ap-fits : p < 8) (mode-fits : mode < 2) (field_fits : field < 4) (xn-fits : xn < 2) where
  pub place_below : place_of p mode kind field xn < 384
  unfolding place_of
  place_below = let h = kind_below kind in omega arith

  pub at_place : answer_at (place_of p mode kind field xn) ≡ answer (ruling p mode kind field xn)
  unfolding by_rules place_of
  at_place =
      let k = kind_place kind in
      let h = kind_below kind in
      sym (by_rules_at (place_of p mode kind field xn) place_below)
      ∙ rw (ap_of p mode k field xn mode-fits h field_fits xn-fits, mode_of p mode k field xn mode-fits h field_fits xn-fits, kind_of p mode k field xn mode-fits h field_fits xn-fits, field_of p mode k field xn mode-fits h field_fits xn-fits, xn_of p mode k field xn mode-fits h field_fits xn-fits, kind_at_lem kind) refl
