-- Each operation with each of its fields a, b and c, by computation: a field that it does not use has to be 0, and one that it uses may be anything.
use Prim.Native.Nat.{ℕ}
use Prim.Native.String.{String}
use mathlib.Core.Path.{◌≡◌, refl}
use mathlib.Core.List.{List, [], ◌∷◌, map}
use mathlib.Core.Option.{some}
use lib.ListN.{replicate}
use Rattle.std.specs.Prelude.{Result, Ok}
use Rattle.text.specs.Split.{has, until, past, same}
use Rattle.text.specs.Hex.{digit, digits, number, lean, spelled, value_of}
use Rattle.text.specs.Quoted.{quoted_from, quoted}
use Rattle.names.specs.Names.{named_in}
use Rattle.model.specs.declared.Kind.{Kind}
use Rattle.model.specs.declared.Kind.TheVariants.{Read, Write, Root, Asid, Mode, All, Addr, Ctx, AddrCtx, Fetch, Domain}
use Rattle.model.specs.declared.Operation.{Operation}
use Rattle.listing.specs.declared.Reason.{Reason}
use Rattle.listing.specs.Line.{spare, zeros, op_of, judged, values_of, field_a, field_b, field_c, fields_of, line_of}
use Rattle.listing.specs.Whole.{line_number}

-- an unused field that is not 0, the others 0: each operation, each of its unused fields
abbrev pub unused_lines : List String
unused_lines =
    "read,1000,4,1\n"
    ∷ "root,80,1,0\n" ∷ "root,80,0,1\n"
    ∷ "asid,1,1,0\n" ∷ "asid,1,0,1\n"
    ∷ "mode,1,1,0\n" ∷ "mode,1,0,1\n"
    ∷ "all,1,0,0\n" ∷ "all,0,1,0\n" ∷ "all,0,0,1\n"
    ∷ "addr,1000,1,0\n" ∷ "addr,1000,0,1\n"
    ∷ "ctx,1,1,0\n" ∷ "ctx,1,0,1\n"
    ∷ "addrctx,1000,1,1\n"
    ∷ "fetch,1000,4,0\n" ∷ "fetch,1000,0,1\n"
    ∷ "domain,1,1,0\n" ∷ "domain,1,0,1\n"
    ∷ []

-- each operation, with each of its used fields at once
abbrev pub used_lines : List String
used_lines =
    "read,1,2,0\n" ∷ "write,1,2,3\n" ∷ "root,1,0,0\n" ∷ "asid,1,0,0\n" ∷ "mode,1,0,0\n" ∷ "all,0,0,0\n" ∷ "addr,1,0,0\n" ∷ "ctx,1,0,0\n"
    ∷ "addrctx,1,2,0\n" ∷ "fetch,1,0,0\n" ∷ "domain,1,0,0\n" ∷ []

abbrev said : Kind → ℕ → ℕ → ℕ → Result Operation Reason
said k a b c = Ok (record { kind = k; a = a; b = b; c = c })

-- all of the first are turned back by 6
pub unused_cases : map (λ s. line_number (line_of (quoted s))) unused_lines ≡ replicate 19 (some 6)
unfolding quoted_from quoted has until past same digit digits number lean spelled value_of named_in spare zeros op_of judged values_of field_a field_b field_c fields_of line_of
unused_cases = refl

-- and the others say their operation and its fields
pub used_cases : map (λ s. line_of (quoted s)) used_lines
    ≡ said Read 1 2 0 ∷ said Write 1 2 3 ∷ said Root 1 0 0 ∷ said Asid 1 0 0 ∷ said Mode 1 0 0 ∷ said All 0 0 0 ∷ said Addr 1 0 0 ∷ said Ctx 1 0 0
    ∷ said AddrCtx 1 2 0 ∷ said Fetch 1 0 0 ∷ said Domain 1 0 0 ∷ []
unfolding quoted_from quoted has until past same digit digits number lean spelled value_of named_in spare zeros op_of judged values_of field_a field_b field_c fields_of line_of
used_cases = refl
