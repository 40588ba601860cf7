-- A store changes the bytes that it touches and no others; so after a quiet one every walk of the window finds what it found before.
use Prim.Native.Nat.{ℕ, zero, suc, ◌+◌, ◌/◌, ◌%◌, ◌≤◌, ◌<◌}
use mathlib.Core.Path.{◌≡◌, refl, ◌∙◌}
use mathlib.Core.Bool.{true}
use mathlib.Core.List.{List}
use native.Mathlib.Omega.{arith}
use lib.ListN.{length, get_or, set, length-set}
use lib.Seq.{get_or-set_other}
use Rattle.model.specs.Limits.{address_limit, section_size}
use Rattle.model.specs.reference.Rules.{walk, stored}
use Rattle.model.specs.declared.Tables.{Tables}
use Rattle.runs.specs.Used.{Among, Serves}
use Rattle.runs.specs.Quiet.{quiet}
use Rattle.runs.proofs.UsedLaws.{quiet_apart}
use Rattle.runs.proofs.Walks.{nothing_else_lem, reads_serves}

pub stored_length : (n : ℕ) (m : List ℕ) (at v : ℕ) → length (stored m at n v) ≡ length m
unfolding stored
stored_length zero m at v = refl
stored_length (suc n) m at v = stored_length n (set m at (v % 256)) (suc at) (v / 256) ∙ length-set m at (v % 256)

-- a byte that is not touched
stored_byte : (n : ℕ) (m : List ℕ) (at v b : ℕ) → (Among at n b → ⊥) → get_or (stored m at n v) b 0 ≡ get_or m b 0
unfolding stored
stored_byte zero m at v b h = refl
stored_byte (suc n) m at v b h =
    stored_byte n (set m at (v % 256)) (suc at) (v / 256) b later ∙ get_or-set_other m at b (v % 256) 0 other
  where
    later : Among (suc at) n b → ⊥
    later x = let f : suc at ≤ b = x.from in let l : b < suc at + n = x.before in h (record { from = omega arith; before = omega arith })

    other : b ≡ at → ⊥
    other e = h (record { from = omega arith; before = omega arith })

pub same_walk : (m : List ℕ) (at n v root a : ℕ) → ((b : ℕ) → Among at n b → b < length m → Serves m root (a / section_size) b → ⊥) → walk (stored m at n v) root a ≡ walk m root a
same_walk m at n v root a apart =
    nothing_else_lem m (stored m at n v) root a (stored_length n m at v) (λ b r inside. stored_byte n m at v b (λ i. apart b i inside (reads_serves m root a b r)))

pub quiet_walks : (w : ℕ) (m : List ℕ) (tables : Tables) (at n v a : ℕ) → quiet w m tables at n ≡ true → a < address_limit w →
    walk (stored m at n v) tables.root a ≡ walk m tables.root a
unfolding address_limit
quiet_walks w m tables at n v a q h = same_walk m at n v tables.root a (λ b i inside. quiet_apart w m tables at n q (a / section_size) (omega arith) b i)
