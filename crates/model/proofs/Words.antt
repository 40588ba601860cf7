-- One word of the track: the step's adding and its stale test are the reference's.
use Prim.Native.Nat.{ℕ, ◌+◌, ◌*◌, ◌/◌, ◌%◌, ◌<◌, ◌≤◌}
use mathlib.Core.Path.{◌≡◌, refl, sym, ap, ap₂, ◌∙◌}
use mathlib.Core.Bool.{Bool, true, false, cond, not, ◌&&◌, true≢false}
use mathlib.Core.List.{List}
use native.Mathlib.Omega.{arith}
use lib.Dec.{eqb, ltb}
use borrow.Author.Tests.{eqb-true, eqb-false, eq-eqb, ne_eqb, ltb-true, ltb-false}
use Rattle.std.specs.Prelude.{Option, Some, None, Ok, Err}
use Rattle.model.specs.Limits.{word_limit}
use Rattle.model.specs.Numbers.{fault_number}
use Rattle.model.specs.reference.Rules.{Translation, found, failed, bits, Scope, own, global, scope_of, covers, same_scope, empty, one, several, word_of, entry_of, suits, kept, same, add_to, noted, differs}
use Rattle.model.specs.step.Walk.{kind_of, super_bit, pointer_of, first_domain, first_of, first_from, first_at, second_of, second_from, second_at, walk_from, walk_page, section_entry, large_entry, small_entry, descriptor_at}
use Rattle.model.specs.step.Track.{entry_word, is_entry, add_entry, add_outcome, stale_word}
use Rattle.model.specs.Types.{Entry, FirstUnmapped, SecondUnmapped, Table, Section, Tables, Outcome}
use Rattle.model.proofs.BoolLaws.{same_test, eqb_same, either, and_both}
use Rattle.model.proofs.Entries.{Fits, same_true, same_self, decoded}
use Rattle.model.proofs.Walk.{translation}

abbrev pub InRange : Outcome → Type 0
InRange (Ok e) = Fits e
InRange (Err f) = Unit {0}

-- ── Each entry that a walk finds is in range ──

section_fits : (w page : ℕ) → Fits (section_entry w page)
section_fits w page = (omega arith, (omega arith, (omega arith, (omega arith, (omega arith, omega arith)))))

large_fits : (w page d : ℕ) → d < 16 → Fits (large_entry w page d)
large_fits w page d h = (omega arith, (omega arith, (omega arith, (omega arith, (omega arith, h)))))

small_fits : (w d : ℕ) → d < 16 → Fits (small_entry w d)
small_fits w d h = (omega arith, (omega arith, (omega arith, (omega arith, (omega arith, h)))))

second_range : (w page d : ℕ) → d < 16 → InRange (second_of w page d)
unfolding second_of
second_range w page d h = go (eqb (kind_of w) 0) (eqb (kind_of w) 1)
  where
    go : (x y : Bool) → InRange (cond x (Err SecondUnmapped) (cond y (Ok (large_entry w page d)) (Ok (small_entry w d))))
    go true y = tt
    go false true = large_fits w page d h
    go false false = small_fits w d h

second_from_lem : (x : Option ℕ) (page d : ℕ) → d < 16 → InRange (second_from x page d)
second_from_lem (Some w) page d h = second_range w page d h
second_from_lem None page d h = tt

first_range : (m : List ℕ) (w page : ℕ) → InRange (walk_from (first_of w page) m page)
unfolding first_of second_at
first_range m w page = go (eqb (kind_of w) 1) (eqb (kind_of w) 2) (eqb (super_bit w) 0)
  where
    go : (x y z : Bool) →
        InRange (walk_from (cond x (Ok (Table (pointer_of w))) (cond y (cond z (Ok (Section (section_entry w page))) (Err FirstUnmapped)) (Err FirstUnmapped))) m page)
    go true y z = second_from_lem (descriptor_at m ((pointer_of w).base + 4 * (page % 256))) page (first_domain w) (omega arith)
    go false true true = section_fits w page
    go false true false = tt
    go false false z = tt

first_from_lem : (m : List ℕ) (x : Option ℕ) (page : ℕ) → InRange (walk_from (first_from x page) m page)
first_from_lem m (Some w) page = first_range m w page
first_from_lem m None page = tt

pub walk_range : (m : List ℕ) (tables : Tables) (page : ℕ) → InRange (walk_page m tables page)
unfolding walk_page first_at
walk_range m tables page = first_from_lem m (descriptor_at m (tables.root + 4 * (page / 256))) page

-- ── Words of entries ──

pub word_same : (e : Entry) → Fits e → entry_word e ≡ word_of e
unfolding word_of
word_same e h = omega arith

-- ── Rows and scopes ──

-- the kind of the row of a scope
abbrev pub row_kind : Scope → ℕ
row_kind (own c) = 0
row_kind global = 1

suits_kind : (u : Scope) (e : Entry) → suits u e ≡ eqb e.global (row_kind u)
unfolding suits
suits_kind (own c) e = refl
suits_kind global e = refl

-- an entry found in a context is noted, of the rows that the context uses, in that of its kind
in_own_row : (c : ℕ) (e : Entry) → Fits e → same_scope (own c) (scope_of c e) ≡ eqb e.global 0
unfolding same_scope scope_of
in_own_row c e h = go (eqb e.global 1) refl
  where
    go : (b : Bool) → eqb e.global 1 ≡ b → same_scope (own c) (cond b global (own c)) ≡ eqb e.global 0
    go true p = let q = eqb-true e.global 1 p in sym (ne_eqb e.global 0 (omega arith))
    go false p = let q = eqb-false e.global 1 p in eq-eqb c c refl ∙ sym (eq-eqb e.global 0 (omega arith))

in_global_row : (c : ℕ) (e : Entry) → same_scope global (scope_of c e) ≡ eqb e.global 1
unfolding same_scope scope_of
in_global_row c e = go (eqb e.global 1)
  where
    go : (b : Bool) → same_scope global (cond b global (own c)) ≡ b
    go true = refl
    go false = refl

in_row : (u : Scope) (c : ℕ) (e : Entry) → Fits e → covers u c ≡ true → same_scope u (scope_of c e) ≡ eqb e.global (row_kind u)
unfolding covers
in_row (own d) c e h p = ap (λ n. same_scope (own n) (scope_of c e)) (eqb-true d c p) ∙ in_own_row c e h
in_row global c e h p = in_global_row c e

-- and in no row of another context
pub in_no_row : (u : Scope) (c : ℕ) (e : Entry) → covers u c ≡ false → same_scope u (scope_of c e) ≡ false
unfolding covers same_scope scope_of
in_no_row (own d) c e p = go (eqb e.global 1)
  where
    go : (b : Bool) → same_scope (own d) (cond b global (own c)) ≡ false
    go true = refl
    go false = p
in_no_row global c e p = absurd (true≢false p)

-- ── Words of a row ──

-- the fields of a word, and what lies below them
fields : (w : ℕ) → w < word_limit → w ≡ w / 4096 % 1048576 * 4096 + w / 512 % 8 * 512 + w / 256 % 2 * 256 + w / 128 % 2 * 128 + w / 64 % 2 * 64 + w / 4 % 16 * 4 + w % 4
fields w h =
    let frames : w / 4096 % 1048576 ≡ w / 4096 = omega arith in
    let aps : w / 512 ≡ w / 4096 * 8 + w / 512 % 8 = omega arith in
    let sections : w / 256 ≡ w / 512 * 2 + w / 256 % 2 = omega arith in
    let globals : w / 128 ≡ w / 256 * 2 + w / 128 % 2 = omega arith in
    let xns : w / 64 ≡ w / 128 * 2 + w / 64 % 2 = omega arith in
    let domains : w / 4 ≡ w / 64 * 16 + w / 4 % 16 = omega arith in
    let rest : w ≡ w / 4 * 4 + w % 4 = omega arith in
    sum (w / 4096 % 1048576) (w / 4096) (w / 512) (w / 512 % 8) (w / 256) (w / 256 % 2) (w / 128) (w / 128 % 2) (w / 64) (w / 64 % 2)
    (w / 4) (w / 4 % 16) w (w % 4) frames aps sections globals xns domains rest
  where
    sum : (f a b c d e g h k l x y w r : ℕ) → f ≡ a → b ≡ a * 8 + c → d ≡ b * 2 + e → g ≡ d * 2 + h → k ≡ g * 2 + l → x ≡ k * 16 + y → w ≡ x * 4 + r →
        w ≡ f * 4096 + c * 512 + e * 256 + h * 128 + l * 64 + y * 4 + r
    sum f a b c d e g h k l x y w r p q s t u v z = omega arith

-- a word is that of its entry exactly if it has the low bits of an entry's word
low_bits : (w : ℕ) → w < word_limit → eqb (w % 4) 2 ≡ eqb w (word_of (entry_of w))
unfolding word_of entry_of bits
low_bits w h =
    by (w / 4096 % 1048576 * 4096 + w / 512 % 8 * 512 + w / 256 % 2 * 256 + w / 128 % 2 * 128 + w / 64 % 2 * 64 + w / 4 % 16 * 4) (w % 4) (fields w h)
  where
    by : (x r : ℕ) → w ≡ x + r → eqb r 2 ≡ eqb w (x + 2)
    by x r e = eqb_same r 2 w (x + 2) (λ q. omega arith) (λ q. omega arith)

-- a word of a row stands for one entry exactly if it is the word of its entry, which suits the row
single_same : (u : Scope) (w : ℕ) → is_entry (row_kind u) w ≡ (eqb w (word_of (entry_of w)) && suits u (entry_of w))
unfolding is_entry
single_same u w = go (ltb w word_limit) refl ∙ ap (◌&&◌ (eqb w (word_of (entry_of w)))) (sym (suits_kind u (entry_of w)))
  where
    both : (x y : Bool) → cond x y false ≡ (x && y)
    both true y = refl
    both false y = refl

    global_bit : (entry_of w).global ≡ w / 128 % 2
    global_bit = unfold entry_of bits in refl

    too_large : word_limit ≤ w → w ≡ word_of (entry_of w) → ⊥
    too_large h q = let z : word_of (entry_of w) < word_limit = unfold word_of entry_of bits in omega arith in omega arith

    go : (b : Bool) → ltb w word_limit ≡ b →
        cond b (cond (eqb (w % 4) 2) (eqb (w / 128 % 2) (row_kind u)) false) false ≡ (eqb w (word_of (entry_of w)) && eqb (entry_of w).global (row_kind u))
    go true e =
        both (eqb (w % 4) 2) (eqb (w / 128 % 2) (row_kind u))
        ∙ ap₂ (λ x n. x && eqb n (row_kind u)) (low_bits w (ltb-true w word_limit e)) (sym global_bit)
    go false e =
        ap (λ x. x && eqb (entry_of w).global (row_kind u)) (sym (ne_eqb w (word_of (entry_of w)) (too_large (ltb-false w word_limit e))))

-- of a word that stands for one entry: it is the word of e exactly if its entry is e
entry_same : (w : ℕ) (e : Entry) → Fits e → w ≡ word_of (entry_of w) → eqb w (entry_word e) ≡ same (entry_of w) e
entry_same w e h is = same_test (eqb w (entry_word e)) (same (entry_of w) e) to from
  where
    to : eqb w (entry_word e) ≡ true → same (entry_of w) e ≡ true
    to p = ap (λ x. same x e) (ap entry_of (eqb-true w (entry_word e) p ∙ word_same e h) ∙ decoded e h) ∙ same_self e

    from : same (entry_of w) e ≡ true → eqb w (entry_word e) ≡ true
    from p = eq-eqb w (entry_word e) (is ∙ ap word_of (same_true (entry_of w) e p) ∙ sym (word_same e h))

-- whether a word stands for one entry of its row
abbrev single : Scope → ℕ → Bool
single u w = eqb w (word_of (entry_of w)) && suits u (entry_of w)

add_same : (u : Scope) (w : ℕ) (e : Entry) → Fits e → add_entry (row_kind u) w (entry_word e) ≡ add_to (kept u w) e w
unfolding add_entry kept add_to
add_same u w e h = rw (single_same u w) (go (eqb w 0) (single u w) refl)
  where
    go : (x y : Bool) → single u w ≡ y →
        cond x (entry_word e) (cond (eqb w (entry_word e)) w (cond y 1 w)) ≡ add_to (cond x empty (cond y (one (entry_of w)) several)) e w
    go true y p = word_same e h
    go false true p = ap (λ b. cond b w 1) (entry_same w e h (eqb-true w (word_of (entry_of w)) (and_both _ (suits u (entry_of w)) p).0))
    go false false p = either (eqb w (entry_word e)) w

pub note_same : (u : Scope) (c w : ℕ) (x : Outcome) → InRange x → covers u c ≡ true → add_outcome (row_kind u) w x ≡ noted u c (translation x) w
unfolding noted
note_same u c w (Ok e) h p =
    ap (λ n. cond (eqb e.global (row_kind u)) n w) (add_same u w e h)
    ∙ ap (λ b. cond b (add_to (kept u w) e w) w) (sym (in_row u c e h p))
note_same u c w (Err f) h p = refl

-- a word of a row that the context does not use stays as it is
pub noted_elsewhere : (u : Scope) (c w : ℕ) (x : Translation) → covers u c ≡ false → noted u c x w ≡ w
unfolding noted
noted_elsewhere u c w (found e) p = rw (in_no_row u c e p)
noted_elsewhere u c w (failed n) p = refl

-- ── The stale test of a word ──

flip : (b : Bool) → cond b false true ≡ not b
flip true = refl
flip false = refl

-- a word of e, whose kind is that of the row, stands for one entry of the row
word_single : (u : Scope) (w : ℕ) (e : Entry) → Fits e → eqb e.global (row_kind u) ≡ true → single u w ≡ false → eqb w (entry_word e) ≡ false
word_single u w e h g p = ne_eqb w (entry_word e) (λ q.
    let is : w ≡ word_of e = q ∙ word_same e h in
    let back : entry_of w ≡ e = ap entry_of is ∙ decoded e h in
    true≢false (sym (ap₂ ◌&&◌ (eq-eqb w (word_of (entry_of w)) (is ∙ ap word_of (sym back))) (ap (suits u) back ∙ suits_kind u e ∙ g)) ∙ p))

-- an entry of another kind than the row's is none of those that stand in it
other_kind : (u : Scope) (x e : Entry) → suits u x ≡ true → eqb e.global (row_kind u) ≡ false → same x e ≡ false
other_kind u x e s g = go (same x e) refl
  where
    go : (b : Bool) → same x e ≡ b → b ≡ false
    go false p = refl
    go true p = absurd (true≢false (sym s ∙ ap (suits u) (same_true x e p) ∙ suits_kind u e ∙ g))

stale_entry : (u : Scope) (w : ℕ) (e : Entry) → Fits e → stale_word (row_kind u) w (Ok e) ≡ differs (kept u w) (found e)
unfolding stale_word kept differs
stale_entry u w e h = go (eqb w 0) (single u w) (eqb e.global (row_kind u)) refl refl
  where
    go : (x y g : Bool) → single u w ≡ y → eqb e.global (row_kind u) ≡ g →
        cond x false (cond g (cond (eqb w (entry_word e)) false true) true) ≡ differs (cond x empty (cond y (one (entry_of w)) several)) (found e)
    go true y g p q = refl
    go false true true p q = flip (eqb w (entry_word e)) ∙ ap not (entry_same w e h (eqb-true w (word_of (entry_of w)) (and_both _ (suits u (entry_of w)) p).0))
    go false true false p q = ap not (sym (other_kind u (entry_of w) e (and_both (eqb w (word_of (entry_of w))) _ p).1 q))
    go false false true p q = ap (λ b. cond b false true) (word_single u w e h q p)
    go false false false p q = refl

stale_failed : (u : Scope) (w n : ℕ) → cond (eqb w 0) false true ≡ differs (kept u w) (failed n)
unfolding kept differs
stale_failed u w n = go (eqb w 0) (single u w)
  where
    go : (x y : Bool) → cond x false true ≡ differs (cond x empty (cond y (one (entry_of w)) several)) (failed n)
    go true y = refl
    go false true = refl
    go false false = refl

pub stale_same : (u : Scope) (w : ℕ) (x : Outcome) → InRange x → stale_word (row_kind u) w x ≡ differs (kept u w) (translation x)
unfolding stale_word
stale_same u w (Ok e) h = stale_entry u w e h
stale_same u w (Err f) h = stale_failed u w (fault_number f)
