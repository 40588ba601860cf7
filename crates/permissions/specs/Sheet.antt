-- The sheet: what is said of an access, for each AP, mode, kind of access, field of the entry's domain and XN. Its answers are those of the
-- rules (`ruling`), in their order.
use Rattle.std.specs.Prelude.{ℕ, ◌+◌, List, [], ◌∷◌, ◌++◌, get_or, Option, Some, None}
use Rattle.model.specs.reference.Rules.{ruling}
use Rattle.model.specs.declared.Purpose.{Purpose}
use Rattle.model.specs.declared.Purpose.TheVariants.{ToRead, ToWrite, ToFetch}
use Rattle.model.specs.declared.Ruling.{Ruling}
use Rattle.model.specs.declared.Ruling.TheVariants.{Allowed, PermissionDenied, DomainDenied}

-- an answer as a number: 0 allowed, 1 permission fault, 2 domain fault
abbrev pub answer : Ruling → ℕ
answer Allowed = 0
answer PermissionDenied = 1
answer DomainDenied = 2

-- what is said at a place as a number: 3 where there is no such place
abbrev pub numbered : Option Ruling → ℕ
numbered None = 3
numbered (Some x) = answer x

-- what the answers are ordered by: AP (8), mode (2), kind read, write, fetch (3), domain field (4) and XN (2)
abbrev pub aps : List ℕ
aps = 0 ∷ 1 ∷ 2 ∷ 3 ∷ 4 ∷ 5 ∷ 6 ∷ 7 ∷ []

abbrev pub modes : List ℕ
modes = 0 ∷ 1 ∷ []

abbrev pub kinds : List Purpose
kinds = ToRead ∷ ToWrite ∷ ToFetch ∷ []

abbrev pub fields : List ℕ
fields = 0 ∷ 1 ∷ 2 ∷ 3 ∷ []

abbrev pub xns : List ℕ
xns = 0 ∷ 1 ∷ []

-- what f gives for each of a list, one behind the other
unfoldable pub each : {A : Type 0} → List A → (A → List ℕ) → List ℕ
each [] f = []
each (x ∷ xs) f = f x ++ each xs f

-- the 384 answers, the last of what they are ordered by running fastest
unfoldable pub answers : List ℕ
answers =
    each aps (λ ap. each modes (λ mode. each kinds (λ kind. each fields (λ field. each xns (λ xn. answer (ruling ap mode kind field xn) ∷ [])))))

-- the answer at a place, counted from 0; 3 where there is no such place
unfoldable pub answer_at : ℕ → ℕ
answer_at place = get_or answers place 3

-- an answer a line: its digit and a newline
unfoldable pub lines_of : List ℕ → List ℕ
lines_of [] = []
lines_of (x ∷ xs) = (48 + x) ∷ 10 ∷ lines_of xs

unfoldable pub sheet : List ℕ
sheet = lines_of answers
