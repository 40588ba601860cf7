-- A word of a track as what is kept of a set of entries, over any coding of entries in words.
use Rattle.std.specs.Prelude.{ℕ, ◌≡◌, Bool, true, false, cond, not}
use Rattle.tlb.specs.Machine.{Walk, entry, fault}
use Rattle.tlb.specs.Seen.{Seen, nothing, one, many}

module _ {E : Type 0} (code : E → ℕ) (same : E → E → Bool) where
  -- a word w of a set after an entry was added: 1 for two or more, and a word that stands for two or more stays as found
  unfoldable pub add_word : Seen E → E → ℕ → ℕ
  add_word nothing e w = code e
  add_word (one x) e w = cond (same x e) w 1
  add_word many e w = w

  -- whether a set has an entry other than the outcome
  unfoldable pub differs_from : {F : Type 0} → Seen E → Walk E F → Bool
  differs_from nothing y = false
  differs_from (one x) (entry e) = not (same x e)
  differs_from (one x) (fault f) = true
  differs_from many y = true

-- What a coding has to meet, where `InRange` holds of the entries that are noted.
pub record Coding (E : Type 0) (code : E → ℕ) (same : E → E → Bool) (seen : ℕ → Seen E) (InRange : E → Type 0) : Type 0 where
  pub of_zero : seen 0 ≡ nothing
  pub of_one : seen 1 ≡ many
  pub of_entry : (e : E) → InRange e → seen (code e) ≡ one e
  pub same_true : (x e : E) → same x e ≡ true → x ≡ e
  pub same_false : (x e : E) → same x e ≡ false → x ≡ e → ⊥
