-- The walk of one address of an image as one number: an entry's track word, or a fault or a refusal above every word.
use Rattle.std.specs.Prelude.{ℕ, ◌+◌, ◌/◌, cond, List, length, Ok, Err}
use Rattle.model.specs.Limits.{page_size, old_split, old_window}
use Rattle.model.specs.Numbers.{fault_number, refusal_number}
use Rattle.model.specs.step.Walk.{walk_page}
use Rattle.model.specs.step.Track.{entry_word}
use Rattle.model.specs.step.Checks.{memory_fits, root_fits, in_window}
use Rattle.model.specs.Types.{Outcome, WrongLengths, WrongRoot, WrongAddress}

abbrev pub outcome_number : Outcome → ℕ
outcome_number (Ok e) = entry_word e
outcome_number (Err f) = 0x100000000 + fault_number f

-- the tests of a start that has no track, then 8, then the walk
unfoldable pub walk_answer : List ℕ → ℕ → ℕ → ℕ
walk_answer m root a =
    cond (memory_fits (length m))
    (cond (root_fits old_split root)
    (cond (in_window old_window a) (outcome_number (walk_page m (record { root = root }) (a / page_size))) (0x200000000 + refusal_number WrongAddress))
    (0x200000000 + refusal_number WrongRoot))
    (0x200000000 + refusal_number WrongLengths)
