-- Words of the track that are neither 0 nor the word of an entry that suits its row.
use Prim.Native.Nat.{ℕ, ◌*◌, ◌<◌}
use mathlib.Core.Path.{◌≡◌, refl, sym, ap, ◌∙◌}
use mathlib.Core.Bool.{Bool, true, false, cond, ◌&&◌, ◌||◌}
use mathlib.Core.List.{List}
use native.Mathlib.Omega.{arith}
use lib.Dec.{eqb}
use borrow.Author.Tests.{eqb-true, ne_eqb}
use Rattle.model.specs.Limits.{page_size, old_window, row_size}
use Rattle.model.specs.reference.Rules.{Translation, found, failed, bits, State, carried_out, outcome, Scope, own, global, scope_of, covers, same_scope, flushes, one, several, word_of, entry_of, suits, kept, add_to, noted, differs, noted_in, word_after, track_word, stale, has_row, Given}
use Rattle.model.specs.Demands.{Call, conditions_of, after, before, OddWords}
use Rattle.model.specs.Types.{Entry}
use Rattle.model.proofs.BoolLaws.{either}
use Rattle.model.proofs.Calls.{words}

counts : (u : Scope) (w : ℕ) → (w ≡ 0 → ⊥) →
    ((e : Entry) → e.frame < 0x100000 → e.ap < 8 → e.section < 2 → e.global < 2 → e.xn < 2 → e.domain < 16 → suits u e ≡ true → w ≡ word_of e → ⊥) → kept u w ≡ several
unfolding kept
counts u w nz h = rw (ne_eqb w 0 nz) (go (eqb w (word_of (entry_of w))) (suits u (entry_of w)) refl refl)
  where
    within : ((entry_of w).frame < 0x100000) × ((entry_of w).ap < 8) × ((entry_of w).section < 2) × ((entry_of w).global < 2) × ((entry_of w).xn < 2) × ((entry_of w).domain < 16)
    within = unfold entry_of bits in (omega arith, omega arith, omega arith, omega arith, omega arith, omega arith)

    go : (x y : Bool) → eqb w (word_of (entry_of w)) ≡ x → suits u (entry_of w) ≡ y → cond (x && y) (one (entry_of w)) several ≡ several
    go true true p q = absurd (h (entry_of w) within.0 within.1 within.2 within.3 within.4 within.5 q (eqb-true w (word_of (entry_of w)) p))
    go true false p q = refl
    go false y p q = refl

noted_stays : (u : Scope) (c : ℕ) (x : Translation) (w : ℕ) → kept u w ≡ several → noted u c x w ≡ w
unfolding noted add_to
noted_stays u c (found e) w k = rw k (either (same_scope u (scope_of c e)) w)
noted_stays u c (failed n) w k = refl

noted_in_stays : (s : State) (u : Scope) (p w : ℕ) → kept u w ≡ several → noted_in s u p w ≡ w
unfolding noted_in
noted_in_stays s u p w k = noted_stays u s.registers.context (outcome s (p * page_size)) w k

stays : (x : Call) → ((r : ℕ) → Given r (conditions_of x) → ⊥) → (u : Scope) (p : ℕ) → has_row old_window x.track u ≡ true → p < row_size old_window →
    kept u (track_word old_window x.track u p) ≡ several → flushes x.operation.kind x.operation u p ≡ false →
    track_word old_window (after x).track u p ≡ track_word old_window x.track u p
unfolding word_after
stays x h u p d q k f =
    words x h u p d q
    ∙ ap (λ b. noted_in (carried_out x.operation (before x)).1 u p (cond b 0 (track_word old_window x.track u p))) f
    ∙ noted_in_stays (carried_out x.operation (before x)).1 u p (track_word old_window x.track u p) k

several_stale : (W : ℕ) (t : List ℕ) (u : Scope) (c p : ℕ) (y : Translation) → covers u c ≡ true → kept u (track_word W t u p) ≡ several → stale W t c p y ≡ true
unfolding stale differs covers
several_stale W t (own d) c p y e k =
    let here : kept (own c) (track_word W t (own c) p) ≡ several = ap (λ n. kept (own n) (track_word W t (own n) p)) (sym (eqb-true d c e)) ∙ k in
    rw here
several_stale W t global c p y e k = rw k (or_true (differs (kept (own c) (track_word W t (own c) p)) y))
  where
    or_true : (x : Bool) → (x || true) ≡ true
    or_true true = refl
    or_true false = refl

goes : (x : Call) → ((r : ℕ) → Given r (conditions_of x) → ⊥) → (u : Scope) (p : ℕ) → has_row old_window x.track u ≡ true → p < row_size old_window →
    flushes x.operation.kind x.operation u p ≡ true →
    track_word old_window (after x).track u p ≡ noted_in (carried_out x.operation (before x)).1 u p 0
unfolding word_after
goes x h u p d q f =
    words x h u p d q
    ∙ ap (λ b. noted_in (carried_out x.operation (before x)).1 u p (cond b 0 (track_word old_window x.track u p))) f

pub odd_words : OddWords
odd_words = record { counts = counts; stays = stays; is_stale = several_stale; goes = goes }
