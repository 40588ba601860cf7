-- The root changes under context 0 alone.
use Prim.Native.Nat.{ℕ}
use mathlib.Core.Path.{◌≡◌, refl, ap}
use mathlib.Core.Bool.{true}
use mathlib.Core.List.{List}
use borrow.Author.Tests.{eqb-true}
use Rattle.model.specs.Demands.{Call, after}
use Rattle.model.specs.RootChanges.{RootChanges}
use Rattle.model.specs.step.Checks.{root_may_change, checks, first_failing}
use Rattle.model.specs.step.Machine.{size_of, access_at, read_step, write_step, fetch_step, operate, after_checks, stepped}
use Rattle.model.specs.declared.Registers.{Registers}
use Rattle.model.specs.declared.Operation.{Operation}
use Rattle.model.specs.declared.Kind.{Kind}
use Rattle.model.specs.declared.Kind.TheVariants.{Read, Write, Root, Asid, Mode, All, Addr, Ctx, AddrCtx, Fetch, Domain}
use Rattle.model.specs.declared.Size.TheVariants.{Four}
use Rattle.model.specs.declared.Purpose.TheVariants.{ToRead, ToWrite, ToFetch}
use Rattle.model.specs.Types.{Check}
use Rattle.std.specs.Prelude.{Ok, Err}
use Rattle.model.proofs.Calls.{Hold, passed, checks_of, read_context, write_context}

root_of : Registers → ℕ
root_of r = r.root

-- no operation but `root` sets the root, and that one passes its check under context 0 alone
root_left : (k : Kind) (o : Operation) (r : Registers) (m t : List ℕ) → root_may_change k r.context ≡ true → (r.context ≡ 0 → ⊥) →
    (operate k o r m t).registers.root ≡ r.root
unfolding operate root_may_change read_step write_step fetch_step root_of
root_left Read o r m t p n = ap root_of (read_context (access_at r m t ToRead (size_of o.b) o.a) (size_of o.b) r m t)
root_left Write o r m t p n = ap root_of (write_context (access_at r m t ToWrite (size_of o.b) o.a) (size_of o.b) o.c r m t)
root_left Root o r m t p n = absurd (n (eqb-true r.context 0 p))
root_left Asid o r m t p n = refl
root_left Mode o r m t p n = refl
root_left All o r m t p n = refl
root_left Addr o r m t p n = refl
root_left Ctx o r m t p n = refl
root_left AddrCtx o r m t p n = refl
root_left Fetch o r m t p n = ap root_of (read_context (access_at r m t ToFetch Four o.a) Four r m t)
root_left Domain o r m t p n = refl

-- an operation that has passed the checks has passed the one on root changes
change_passed : (x : Call) → first_failing (checks_of x) ≡ Ok tt → root_may_change x.operation.kind x.registers.context ≡ true
unfolding Hold checks
change_passed x p = (passed (checks_of x) p).1.1.1.1.1.1.1.1.1.1.0

kept : (x : Call) → (x.registers.context ≡ 0 → ⊥) → (after x).registers.root ≡ x.registers.root
unfolding stepped
kept x n = go (first_failing (checks_of x)) refl
  where
    go : (y : Check) → first_failing (checks_of x) ≡ y → (after_checks y x.operation x.registers x.memory x.track).registers.root ≡ x.registers.root
    go (Err r) e = refl
    go (Ok tt) e = root_left x.operation.kind x.operation x.registers x.memory x.track (change_passed x e) n

pub root_changes : RootChanges
root_changes = record { kept = kept }
