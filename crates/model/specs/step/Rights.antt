-- What an entry's access permissions allow, and what the field of its domain makes of it.
use Rattle.std.specs.Prelude.{ℕ, zero, suc, ◌/◌, ◌%◌, Bool, false, cond, eqb, leb}
use Rattle.model.specs.Types.{Purpose, ToRead, ToWrite, ToFetch, Rights, Nothing, Reading, Writing, Ruling, Allowed, PermissionDenied, DomainDenied}

-- whether x is one of low to high
abbrev pub between : ℕ → ℕ → ℕ → Bool
between low high x = cond (leb low x) (leb x high) false

unfoldable pub kernel_rights : ℕ → Rights
kernel_rights ap = cond (between 1 3 ap) Writing (cond (between 5 7 ap) Reading Nothing)

unfoldable pub user_rights : ℕ → Rights
user_rights ap = cond (eqb ap 3) Writing (cond (eqb ap 2) Reading (cond (between 6 7 ap) Reading Nothing))

unfoldable pub rights_of : ℕ → ℕ → Rights
rights_of ap mode = cond (eqb mode 0) (kernel_rights ap) (user_rights ap)

-- where rights stand in their order, and whether rights y are rights x or more
abbrev pub level : Rights → ℕ
level Nothing = 0
level Reading = 1
level Writing = 2

abbrev pub at_least : Rights → Rights → Bool
at_least x y = leb (level x) (level y)

-- a write needs writing, a read reading, and a fetch reading and the XN bit clear
unfoldable pub permitted : ℕ → ℕ → Purpose → ℕ → Bool
permitted ap mode ToRead xn = at_least Reading (rights_of ap mode)
permitted ap mode ToWrite xn = at_least Writing (rights_of ap mode)
permitted ap mode ToFetch xn = cond (at_least Reading (rights_of ap mode)) (eqb xn 0) false

-- the field of domain d in a domain register
unfoldable pub field_at : ℕ → ℕ → ℕ
field_at w zero = w % 4
field_at w (suc d) = field_at (w / 4) d

-- 3 allows everything, 1 what is permitted, and any other field nothing
unfoldable pub ruling_of : ℕ → ℕ → Purpose → ℕ → ℕ → Ruling
ruling_of ap mode purpose field xn =
    cond (eqb field 3) Allowed (cond (eqb field 1) (cond (permitted ap mode purpose xn) Allowed PermissionDenied) DomainDenied)
