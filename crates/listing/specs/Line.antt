-- What a line of a list says, and how an operation is written as a line.
use Rattle.std.specs.Prelude.{ℕ, ◌<◌, ◌≡◌, Bool, true, false, cond, List, [], ◌∷◌, ◌++◌, Option, Some, None, Result, Ok, Err, eqb, ltb}
use Rattle.text.specs.Split.{has, until, past}
use Rattle.text.specs.Hex.{value_of, hex_of}
use Rattle.model.specs.Limits.{word_limit}
use Rattle.model.specs.declared.Kind.{Kind}
use Rattle.model.specs.declared.Kind.TheVariants.{Read, Write, Root, Asid, Mode, All, Addr, Ctx, AddrCtx, Fetch, Domain}
use Rattle.model.specs.declared.Operation.{Operation}
use Rattle.listing.specs.declared.Reason.{Reason}
use Rattle.listing.specs.declared.Reason.TheVariants.{Shape, Spelling, Unknown, Unused}
use Rattle.names.specs.Names.{comma, newline, name, named_of}

-- how many of the fields a, b, c an operation uses
abbrev pub used : Kind → ℕ
used Read = 2
used Write = 3
used Root = 1
used Asid = 1
used Mode = 1
used All = 0
used Addr = 1
used Ctx = 1
used AddrCtx = 2
used Fetch = 1
used Domain = 1

-- whether field i, counted from 0, is one of the first n, or 0
unfoldable pub spare : ℕ → ℕ → ℕ → Bool
spare n i x = cond (ltb i n) true (eqb x 0)

-- whether the fields after the first n are 0
unfoldable pub zeros : ℕ → ℕ → ℕ → ℕ → Bool
zeros n a b c = cond (spare n 0 a) (cond (spare n 1 b) (spare n 2 c) false) false

-- 6: an unused field that is not 0
unfoldable pub op_of : Kind → ℕ → ℕ → ℕ → Result Operation Reason
op_of k a b c = cond (zeros (used k) a b c) (Ok (record { kind = k; a = a; b = b; c = c })) (Err Unused)

-- the values of three fields, if each of them is spelled right
unfoldable pub values_of : Option ℕ → Option ℕ → Option ℕ → Option (ℕ × ℕ × ℕ)
values_of (Some a) (Some b) (Some c) = Some (a, b, c)
values_of (Some a) (Some b) None = None
values_of (Some a) None c = None
values_of None b c = None

-- 4: a value's spelling; then 5: an unknown operation
unfoldable pub judged : Option Kind → Option (ℕ × ℕ × ℕ) → Result Operation Reason
judged n None = Err Spelling
judged None (Some (a, b, c)) = Err Unknown
judged (Some k) (Some (a, b, c)) = op_of k a b c

-- 3: not four fields. The last field goes to the end, and has no comma
unfoldable pub field_c : Option Kind → Option ℕ → Option ℕ → List ℕ → Result Operation Reason
field_c n a b l = cond (has comma l) (Err Shape) (judged n (values_of a b (value_of l)))

unfoldable pub field_b : Option Kind → Option ℕ → List ℕ → Result Operation Reason
field_b n a l = cond (has comma l) (field_c n a (value_of (until comma l)) (past comma l)) (Err Shape)

unfoldable pub field_a : Option Kind → List ℕ → Result Operation Reason
field_a n l = cond (has comma l) (field_b n (value_of (until comma l)) (past comma l)) (Err Shape)

unfoldable pub fields_of : List ℕ → Result Operation Reason
fields_of l = cond (has comma l) (field_a (named_of (until comma l)) (past comma l)) (Err Shape)

-- 3: no newline
unfoldable pub line_of : List ℕ → Result Operation Reason
line_of l = cond (has newline l) (fields_of (until newline l)) (Err Shape)

-- an operation written as a line
unfoldable pub line_text : Operation → List ℕ
line_text o = name o.kind ++ (comma ∷ (hex_of o.a ++ (comma ∷ (hex_of o.b ++ (comma ∷ (hex_of o.c ++ (newline ∷ [])))))))

-- an operation that has a line: fields of 32 bits, and 0 where they are unused
pub record Valid (o : Operation) : Type 0 where
  pub a_fits : o.a < word_limit
  pub b_fits : o.b < word_limit
  pub c_fits : o.c < word_limit
  pub unused : zeros (used o.kind) o.a o.b o.c ≡ true
