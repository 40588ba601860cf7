-- The names are the words of the rules, by computation.
use mathlib.Core.Path.{refl}
use Rattle.text.specs.Quoted.{quoted_from, quoted}
use Rattle.names.specs.Names.{NamesSpelled}

pub spelled : NamesSpelled
unfolding quoted_from quoted
spelled = record { header = refl; operations = refl; numbers = refl }
