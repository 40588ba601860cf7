-- A quoted text as bytes: the codes of its characters, which are ASCII.
use Rattle.std.specs.Prelude.{ℕ, zero, suc, List, [], ◌∷◌}
use Prim.Native.Char.{code}
use Prim.Native.String.{String, len, char_at}

-- the next n characters from place `at` on
unfoldable pub quoted_from : ℕ → ℕ → String → List ℕ
quoted_from zero at s = []
quoted_from (suc n) at s = code (char_at s at) ∷ quoted_from n (suc at) s

unfoldable pub quoted : String → List ℕ
quoted s = quoted_from (len s) 0 s
