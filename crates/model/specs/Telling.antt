-- An answer that is an enum, told in the numbers of the rules.
use Rattle.std.specs.Prelude.{◌≡◌}

-- What code answers, x, is y, and shows the number that the rules give to y.
pub record Tells {A B : Type 0} (number_of : A → B) (y x : A) : Type 0 where
  pub same : x ≡ y
  pub number : number_of x ≡ number_of y
