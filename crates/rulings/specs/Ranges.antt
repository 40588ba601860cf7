-- Numbers brought into the ranges of the table, and what its answers say.
use Rattle.std.specs.Prelude.{ℕ, cond, eqb, ltb}
use Rattle.model.specs.declared.Ruling.{Ruling}
use Rattle.model.specs.declared.Ruling.TheVariants.{Allowed, PermissionDenied, DomainDenied}

-- x where it is below n, else 0
abbrev pub within : ℕ → ℕ → ℕ
within n x = cond (ltb x n) x 0

-- 0 for 0, else 1
abbrev pub flag : ℕ → ℕ
flag x = cond (eqb x 0) 0 1

-- the ruling of an answer
abbrev pub told : ℕ → Ruling
told n = cond (eqb n 0) Allowed (cond (eqb n 1) PermissionDenied DomainDenied)
