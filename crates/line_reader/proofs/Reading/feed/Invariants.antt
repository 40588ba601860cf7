use Rattle.std.proofs.Common.{◌≡◌, drop}
use Rattle.line_reader.specs.Reading.{SameBuffers, state_of, feed}
use Rattle.line_reader.proofs.Reading.feed.Given as goal

abbrev pub invariant-loop-b : goal.invariant-loop-b
invariant-loop-b l = record { same_buffers : SameBuffers l.self l.initial.self; left : feed l.part (state_of l.initial.self) ≡ feed (drop l.b-index l.part) (state_of l.self) }
