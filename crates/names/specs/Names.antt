-- The bytes of a list: separators, the names line, and the names of the operations, which are compared with and written.
use Rattle.std.specs.Prelude.{ℕ, ◌≡◌, cond, List, [], ◌∷◌, Option, Some, None, map}
use Rattle.text.specs.Quoted.{quoted}
use Rattle.model.specs.Numbers.{kind_number}
use Rattle.text.specs.Split.{same}
use Rattle.model.specs.declared.Kind.{Kind}
use Rattle.model.specs.declared.Kind.TheVariants.{Read, Write, Root, Asid, Mode, All, Addr, Ctx, AddrCtx, Fetch, Domain}

abbrev pub comma : ℕ
comma = 44

abbrev pub newline : ℕ
newline = 10

-- `op,a,b,c`
abbrev pub names : List ℕ
names = 111 ∷ 112 ∷ 44 ∷ 97 ∷ 44 ∷ 98 ∷ 44 ∷ 99 ∷ []

-- the name of an operation: `read`, `write`, `root`, `asid`, `mode`, `all`, `addr`, `ctx`, `addrctx`, `fetch`, `domain`
abbrev pub name : Kind → List ℕ
name Read = 114 ∷ 101 ∷ 97 ∷ 100 ∷ []
name Write = 119 ∷ 114 ∷ 105 ∷ 116 ∷ 101 ∷ []
name Root = 114 ∷ 111 ∷ 111 ∷ 116 ∷ []
name Asid = 97 ∷ 115 ∷ 105 ∷ 100 ∷ []
name Mode = 109 ∷ 111 ∷ 100 ∷ 101 ∷ []
name All = 97 ∷ 108 ∷ 108 ∷ []
name Addr = 97 ∷ 100 ∷ 100 ∷ 114 ∷ []
name Ctx = 99 ∷ 116 ∷ 120 ∷ []
name AddrCtx = 97 ∷ 100 ∷ 100 ∷ 114 ∷ 99 ∷ 116 ∷ 120 ∷ []
name Fetch = 102 ∷ 101 ∷ 116 ∷ 99 ∷ 104 ∷ []
name Domain = 100 ∷ 111 ∷ 109 ∷ 97 ∷ 105 ∷ 110 ∷ []

-- the operations, in the order of the rules
abbrev pub kinds : List Kind
kinds = Read ∷ Write ∷ Root ∷ Asid ∷ Mode ∷ All ∷ Addr ∷ Ctx ∷ AddrCtx ∷ Fetch ∷ Domain ∷ []

-- the operation among ks that a name names
unfoldable pub named_in : List Kind → List ℕ → Option Kind
named_in [] s = None
named_in (k ∷ ks) s = cond (same s (name k)) (Some k) (named_in ks s)

abbrev pub named_of : List ℕ → Option Kind
named_of s = named_in kinds s

-- The same in letters: the names line, and the names of the operations in the order of their numbers.
pub record NamesSpelled : Type 0 where
  pub header : names ≡ quoted "op,a,b,c"
  pub operations : map name kinds ≡ map quoted ("read" ∷ "write" ∷ "root" ∷ "asid" ∷ "mode" ∷ "all" ∷ "addr" ∷ "ctx" ∷ "addrctx" ∷ "fetch" ∷ "domain" ∷ [])
  pub numbers : map kind_number kinds ≡ 0 ∷ 1 ∷ 2 ∷ 3 ∷ 4 ∷ 5 ∷ 6 ∷ 7 ∷ 8 ∷ 9 ∷ 10 ∷ []
