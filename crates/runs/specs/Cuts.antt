-- Where a list may be cut in two: directly behind an `all` that is carried out while the registers are those of a start.
use Rattle.std.specs.Prelude.{ℕ, ◌≡◌, false, List, ◌∷◌, ◌++◌, length}
use Rattle.model.specs.Numbers.{shown}
use Rattle.model.specs.reference.Runs.{next, checker_run, is_refused}
use Rattle.model.specs.step.Machine.{start_registers, started, stepped}
use Rattle.model.specs.Invisible.{Session, begun, checker_run_of, checker}
use Rattle.model.specs.declared.Setting.{Setting}
use Rattle.model.specs.declared.Operation.{Operation}
use Rattle.model.specs.declared.Kind.TheVariants.{All}
use Rattle.runs.specs.Same.{reached}

pub record Cuts : Type 0 where
  -- Such an `all` gives what a start from the same memory gives, whatever the track holds that this start is lent: answer, registers, memory and track.
  pub as_started : (o : Operation) (g : Setting) (m t track : List ℕ) → o.kind ≡ All → is_refused (shown (stepped o (start_registers g) m t).answer) ≡ false →
      length track ≡ length t → stepped o (start_registers g) m t ≡ started m track g
  -- So what follows it in a run is what it is in a run of its own, begun from the memory as it is there.
  pub parts : (x : Session) (o : Operation) (os : List Operation) (g : Setting) (track : List ℕ) → o.kind ≡ All → (reached x).registers ≡ start_registers g →
      is_refused (shown (next checker o (reached x)).answer) ≡ false → length track ≡ length x.track →
      checker_run checker (begun checker x) (x.operations ++ (o ∷ os)) ≡
      checker_run_of checker x ++ (started (reached x).memory track g ∷ checker_run checker (started (reached x).memory track g) os)
