-- The fields of a domain register and what an access through an entry comes to, over plain variables.
use Prim.Native.Nat.{ℕ, ◌*◌, ◌/◌, ◌%◌, ◌^◌, ◌<◌, ◌≤◌}
use mathlib.Core.Path.{◌≡◌, sym, ap, ◌∙◌}
use mathlib.Core.List.{List}
use native.Mathlib.Omega.{arith}
use Rattle.std.specs.Int.Bits.{bit_and}
use Rattle.std.specs.Prelude.{Ok}
use Rattle.std.proofs.Math.Nat.{div-eq_of_lt, pow-le-pow_right}
use Rattle.std.proofs.lemmas.Nat.{and_mask}
use Rattle.model.proofs.Fields.{by_division}
use Rattle.model.specs.Types.{Outcome}
use Rattle.model.specs.declared.Access.{Access}
use Rattle.model.specs.declared.Entry.{Entry}
use Rattle.model.specs.declared.Purpose.{Purpose}
use Rattle.model.specs.declared.Registers.{Registers}
use Rattle.model.specs.declared.Ruling.{Ruling}
use Rattle.model.specs.declared.Size.{Size}
use Rattle.model.specs.step.Machine.{reached, granted}
use Rattle.model.specs.step.Rights.{field_at, ruling_of}

-- the field of a domain, by a shift
pub field_shifted : (w d : ℕ) → bit_and (w / 2 ^ (2 * d)) 3 ≡ field_at w d
field_shifted w d = and_mask (w / 2 ^ (2 * d)) 2 ∙ sym (by_division w d)

-- a domain register has no field of a domain above 15
pub field_beyond : (w d : ℕ) → w < 2 ^ 32 → 16 ≤ d → 0 ≡ field_at w d
field_beyond w d h k =
    let above : 2 ^ 32 ≤ 2 ^ (2 * d) = pow-le-pow_right {n = 2} (omega arith) {i = 32} {j = 2 * d} (omega (arith, k)) in
    let below : w < 2 ^ (2 * d) = omega (arith, h, above) in
    sym (by_division w d ∙ ap (λ (n : ℕ). n % 4) (div-eq_of_lt below))

-- an access to a page that entry e maps, of which, by the field of its domain, a ruling is given
module _ (r : Registers) (x : Purpose) (size : Size) (a : ℕ) (m : List ℕ) (e : Entry) where
  pub granted_by : {o : Outcome} {field : ℕ} {said : Ruling} {to : Access} → o ≡ Ok e → field ≡ field_at r.domains e.domain → said ≡ ruling_of e.ap r.mode x field e.xn → to ≡ reached said e size a m → to ≡ granted o r x size a m
  granted_by of-o of_field of-said of-to =
      of-to
      ∙ ap (λ (y : Ruling). reached y e size a m) (of-said ∙ ap (λ (n : ℕ). ruling_of e.ap r.mode x n e.xn) of_field)
      ∙ sym (ap (λ (y : Outcome). granted y r x size a m) of-o)
