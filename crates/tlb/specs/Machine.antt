-- A machine with tables, over any types of states, pages, entries and operations.
use Rattle.std.specs.Prelude.{Bool}
use Rattle.std.proofs.Math.Option.{Option}

-- What a walk gives for a page: an entry, or why there is none.
pub data Walk (E F : Type 0) : Type 0 where
  entry : E → Walk E F
  fault : F → Walk E F

pub record Machine : Type 1 where
  -- what a start is given, the track aside; memory and registers; pages; entries; why a walk fails
  pub Given : Type 0
  pub State : Type 0
  pub Page : Type 0
  pub Entry : Type 0
  pub Fault : Type 0
  -- what an entry is held under
  pub Tag : Type 0
  pub Op : Type 0
  pub Answer : Type 0
  -- memory and registers after an accepted start
  pub boot : Given → State
  -- the present outcome of a page in the current context
  pub walk : State → Page → Walk Entry Fault
  -- whether this is a page that can be loaded
  pub in_window : State → Page → Bool
  -- what the entry of a page is held under, if it is loaded now
  pub tag : State → Page → Entry → Tag
  -- whether an entry held under this tag serves the page now
  pub serves : State → Page → Tag → Bool
  -- whether the operation flushes this tag
  pub names : Op → Tag → Bool
  -- the page of an access that is translated
  pub page : State → Op → Option Page
  -- the operation carried out, with each page translated by the given function
  pub carry : State → Op → (Page → Walk Entry Fault) → Answer × State
