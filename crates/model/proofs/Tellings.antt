-- Numbers of answers: what is equal has the same number, and what has a result gives it to those who use it.
use Prim.Native.Nat.{ℕ, ◌+◌}
use mathlib.Core.Path.{◌≡◌, refl, sym, ap}
use mathlib.Core.Logic.{◌⊎◌, inl, inr}
use mathlib.Core.List.{List}
use mathlib.Core.Option.{none, some, some-injective}
use Rattle.std.specs.Prelude.{Ok, Err}
use Rattle.model.specs.Numbers.{Result, shown, first_fault, access_result}
use Rattle.model.specs.Telling.{Tells}
use Rattle.model.specs.step.Machine.{read_from, write_to}
use Rattle.model.specs.step.Walk.{walk_from}
use Rattle.model.specs.step.WalkAnswer.{outcome_number}
use Rattle.model.specs.Types.{Registers, Size, Pointer, Entry, FirstOutcome, Table, Section, Access, Stale, Fails, Physical}
use Rattle.model.proofs.Calls.{none_some}

pub tells : {A B : Type 0} (f : A → B) {y x : A} → x ≡ y → Tells f y x
tells f e = record { same = e; number = ap f e }

-- the fault of a level-one word is the walk's
pub first_ends : (x : FirstOutcome) (m : List ℕ) (page : ℕ) {n : ℕ} → first_fault x ≡ some n → outcome_number (walk_from x m page) ≡ 0x100000000 + n
first_ends (Err f) m page e = ap (λ k. 0x100000000 + k) (some-injective _ _ e)
first_ends (Ok (Table p)) m page {n} e = absurd (none_some n e)
first_ends (Ok (Section d)) m page {n} e = absurd (none_some n e)

-- a level-one word without a fault leads on: to a table, or to the entry of a section
pub first_leads : (x : FirstOutcome) → first_fault x ≡ none → ((p : Pointer) × (x ≡ Ok (Table p))) ⊎ ((e : Entry) × (x ≡ Ok (Section e)))
first_leads (Err f) e = absurd (none_some _ (sym e))
first_leads (Ok (Table p)) e = inl (p, refl)
first_leads (Ok (Section d)) e = inr (d, refl)

-- an access without a result reaches bytes
pub access_reaches : (x : Access) → access_result x ≡ none → (p : ℕ) × (x ≡ Physical p)
access_reaches Stale e = absurd (none_some _ (sym e))
access_reaches (Fails f) e = absurd (none_some _ (sym e))
access_reaches (Physical p) e = (p, refl)

-- the result of an access is what a read or a fetch, and what a write, shows
pub read_ends : (x : Access) (size : Size) (r : Registers) (m t : List ℕ) {y : Result} → access_result x ≡ some y → shown (read_from x size r m t).answer ≡ y
read_ends Stale size r m t e = some-injective _ _ e
read_ends (Fails f) size r m t e = some-injective _ _ e
read_ends (Physical p) size r m t {y} e = absurd (none_some y e)

pub write_ends : (x : Access) (size : Size) (v : ℕ) (r : Registers) (m t : List ℕ) {y : Result} → access_result x ≡ some y → shown (write_to x size v r m t).answer ≡ y
write_ends Stale size v r m t e = some-injective _ _ e
write_ends (Fails f) size v r m t e = some-injective _ _ e
write_ends (Physical p) size v r m t {y} e = absurd (none_some y e)
