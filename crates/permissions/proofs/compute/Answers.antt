use mathlib.Core.Path.{refl, sym}
use Rattle.permissions.proofs.Places.{past_answers, computed}
use borrow.Author.Rules.{rules}
use Rattle.permissions.proofs.compute.Goals as goal

pub returns-then-place-ge-PLACES : goal.returns-then-place-ge-PLACES
returns-then-place-ge-PLACES c = sym (past_answers _ c.if-place-ge-PLACES.true)

pub returns : goal.returns
returns c =
    computed c.args.place (search rules) c.kind_at-kind.ensures c.by_rules.ensures.same refl
