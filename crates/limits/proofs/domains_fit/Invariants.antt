use Rattle.std.proofs.Common.{◌≡◌, ◌-◌}
use Rattle.model.specs.step.Checks.{fields_fit, domains_fit}
use Rattle.limits.proofs.domains_fit.Given as goal

-- the fields that are left decide
abbrev pub invariant-loop : goal.invariant-loop
invariant-loop l = fields_fit (16 - l.counter) l.rest ≡ domains_fit l.domains
