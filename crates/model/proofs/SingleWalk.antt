-- The walk of one address as one number is that of the rules.
use Prim.Native.Nat.{ℕ, ◌/◌, ◌%◌, ◌<◌}
use mathlib.Core.Path.{◌≡◌, refl, sym, ap, ◌∙◌}
use mathlib.Core.Bool.{Bool, true, false, cond, not}
use mathlib.Core.List.{List, [], ◌∷◌}
use mathlib.Core.Option.{Option, none, some}
use native.Mathlib.Omega.{arith}
use lib.Dec.{eqb, leb}
use lib.ListN.{length}
use Rattle.std.specs.Prelude.{Ok, Err}
use Rattle.model.specs.Limits.{page_size, old_split, old_window, memory_unit, memory_most}
use Rattle.model.specs.Numbers.{fault_number}
use Rattle.model.specs.reference.Rules.{among, refuses8, walk_conditions, Given, walk, translation_number, refused_walk}
use Rattle.model.specs.step.Checks.{memory_fits, root_fits, in_window}
use Rattle.model.specs.step.Walk.{walk_page}
use Rattle.model.specs.step.WalkAnswer.{outcome_number, walk_answer}
use Rattle.model.specs.Demands.{SingleWalk}
use Rattle.model.specs.Types.{Fault, Alignment, FirstUnmapped, SecondUnmapped, SectionDomain, PageDomain, SectionPermission, PagePermission, FirstOutside, SecondOutside, AccessOutside, Outcome}
use Rattle.model.proofs.BoolLaws.{three_and}
use Rattle.model.proofs.Checks.{window_test, root_test}
use Rattle.model.proofs.Walk.{translation, walk_same}
use Rattle.model.proofs.Words.{InRange, word_same, walk_range}
use Rattle.model.proofs.Calls.{first_holding, given_first, first_given}

-- a refusal by the first condition that holds, or what the walk finds
abbrev number_by : Option ℕ → ℕ → ℕ
number_by (some r) n = refused_walk r
number_by none n = n

-- what a walk finds, as a number: the step's is the reference's
outcome_same : (x : Outcome) → InRange x → outcome_number x ≡ translation_number (translation x)
unfolding translation_number
outcome_same (Ok e) h = word_same e h
outcome_same (Err f) h = refl

-- it is below every refusal
fault_small : (f : Fault) → fault_number f < 16
fault_small Alignment = omega arith
fault_small FirstUnmapped = omega arith
fault_small SecondUnmapped = omega arith
fault_small SectionDomain = omega arith
fault_small PageDomain = omega arith
fault_small SectionPermission = omega arith
fault_small PagePermission = omega arith
fault_small FirstOutside = omega arith
fault_small SecondOutside = omega arith
fault_small AccessOutside = omega arith

outcome_small : (x : Outcome) → outcome_number x < 0x200000000
outcome_small (Ok e) = omega arith
outcome_small (Err f) = omega (arith, fault_small f)

module _ (m : List ℕ) (root a : ℕ) where
  -- the outcome of the walk, as a number
  here : ℕ
  here = outcome_number (walk_page m (record { root = root }) (a / page_size))

  here_same : here ≡ translation_number (walk m root a)
  unfolding here
  here_same = outcome_same (walk_page m (record { root = root }) (a / page_size)) (walk_range m (record { root = root }) (a / page_size)) ∙ ap translation_number (walk_same m (record { root = root }) a)

  -- the three tests are the three conditions
  by_tests : (x y z : Bool) → cond x (cond y (cond z here (refused_walk 8)) (refused_walk 10)) (refused_walk 13)
      ≡ number_by (first_holding ((13, not x) ∷ (10, not y) ∷ (8, not z) ∷ [])) here
  unfolding first_holding
  by_tests true true true = refl
  by_tests true true false = refl
  by_tests true false z = refl
  by_tests false y z = refl

  tests_same : ((13, not (memory_fits (length m))) ∷ (10, not (root_fits old_split root)) ∷ (8, not (in_window old_window a)) ∷ []) ≡ walk_conditions m root a
  unfolding walk_conditions memory_fits refuses8 among
  tests_same = λ i.
      (13, not (three_and (eqb (length m % memory_unit) 0) (leb memory_unit (length m)) (leb (length m) memory_most) i))
      ∷ (10, root_test old_split root i)
      ∷ (8, window_test old_window a i)
      ∷ []

  answer_by : walk_answer m root a ≡ number_by (first_holding (walk_conditions m root a)) here
  unfolding walk_answer refused_walk here
  answer_by =
      by_tests (memory_fits (length m)) (root_fits old_split root) (in_window old_window a)
      ∙ ap (λ (xs : List (ℕ × Bool)). number_by (first_holding xs) here) tests_same

  refuses : (r : ℕ) (x : Option ℕ) → number_by x here ≡ refused_walk r → x ≡ some r
  unfolding refused_walk here
  refuses r (some s) e = ap some (omega (arith, e))
  refuses r none e = absurd (let z : ⊥ = omega (arith, e, outcome_small (walk_page m (record { root = root }) (a / page_size))) in z)

  given : (r : ℕ) → (walk_answer m root a ≡ refused_walk r → Given r (walk_conditions m root a)) × (Given r (walk_conditions m root a) → walk_answer m root a ≡ refused_walk r)
  given r = (
    λ e. first_given (walk_conditions m root a) r (refuses r (first_holding (walk_conditions m root a)) (sym answer_by ∙ e)),
    λ g. answer_by ∙ ap (λ (x : Option ℕ). number_by x here) (given_first (walk_conditions m root a) r g),
  )

  found_by : (x : Option ℕ) → first_holding (walk_conditions m root a) ≡ x → ((r : ℕ) → Given r (walk_conditions m root a) → ⊥) → number_by x here ≡ translation_number (walk m root a)
  found_by none e n = here_same
  found_by (some r) e n = absurd (n r (first_given (walk_conditions m root a) r e))

  walks : ((r : ℕ) → Given r (walk_conditions m root a) → ⊥) → walk_answer m root a ≡ translation_number (walk m root a)
  walks n = answer_by ∙ found_by (first_holding (walk_conditions m root a)) refl n

pub single_walk : SingleWalk
single_walk = record { exactly = given; walks = walks }
