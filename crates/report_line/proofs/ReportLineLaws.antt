-- How long a line of the report is at most. Assumes nothing.
use Prim.Native.Nat.{ℕ, ◌≤◌}
use native.Mathlib.Omega.{arith}
use lib.ListN.{length, length-append}
use Rattle.text.proofs.HexLaws.{hex_length}
use Rattle.model.specs.Numbers.{Result, ok, fault, refused}
use Rattle.model.specs.declared.Kind.{Kind}
use Rattle.names.specs.Names.{name}
use Rattle.names.proofs.NameLaws.{name_most}
use Rattle.report_line.specs.Text.{no_name, start_name, word, value, report_line, line_room}

pub word_most : (r : Result) → length (word r) ≤ 7
word_most (ok v) = omega arith
word_most (fault n) = omega arith
word_most (refused n) = omega arith

pub line_most : (n : ℕ) (k : Kind) (r : Result) → length (report_line n (name k) r) ≤ line_room
unfolding report_line
line_most n k r = simp length-append (omega (arith, hex_length n, name_most k, word_most r, hex_length (value r)))

pub refusal_most : (n r : ℕ) → length (report_line n no_name (refused r)) ≤ line_room
unfolding report_line
refusal_most n r = simp length-append (omega (arith, hex_length n, hex_length r))

pub start_most : (r : ℕ) → length (report_line 0 start_name (refused r)) ≤ line_room
unfolding report_line
start_most r = simp length-append (omega (arith, hex_length 0, hex_length r))
