-- A TLB never remembers the domain register, and always the domain of a descriptor.
use Prim.Native.Nat.{ℕ, ◌+◌, ◌*◌, ◌/◌, ◌%◌, ◌<◌}
use mathlib.Core.Path.{◌≡◌, refl, sym, ap, ap₂, ◌∙◌}
use mathlib.Core.Bool.{Bool, true, false, cond, ◌&&◌, or-true}
use mathlib.Core.List.{List, [], ◌∷◌, foldl}
use native.Mathlib.Omega.{arith}
use lib.Dec.{eqb}
use borrow.Author.Tests.{eqb-true}
use Rattle.runs.proofs.SameLaws.{same_tracks}
use Rattle.model.specs.Limits.{page_size, row_size, old_window}
use Rattle.model.specs.Numbers.{Result, shown}
use Rattle.model.specs.reference.Rules.{Translation, found, failed, in_memory, value, bits, descriptor, global_by, domain_of, section, large_page, small_page, page_word, table_word, State, set_registers, effect, outcome, carried_out, Scope, own, global, covers, flushes, Places, Move, drop, load, move, moves, chip_outcome, chip_step, one, kept, same, differs, noted_in, word_after, has_row, track_word, stale}
use Rattle.model.specs.reference.Runs.{is_refused}
use Rattle.model.specs.Demands.{after}
use Rattle.model.specs.Invisible.{at_end, checker}
use Rattle.model.specs.Domains.{to_domains, under, RegisterForgotten, redomained, with_domain, DomainRemembered}
use Rattle.model.specs.declared.Operation.{Operation}
use Rattle.model.specs.declared.Entry.{Entry}
use Rattle.model.proofs.BoolLaws.{push}
use Rattle.model.proofs.Entries.{same_true}
use Rattle.model.proofs.Calls.{plain, words, track_length_lem}
use Rattle.model.proofs.Instance.{state_of}
use Rattle.model.proofs.Kept.{call_at, not_given}
use Rattle.runs.specs.Noted.{Noted}
use Rattle.runs.proofs.Noted.{left_alone, noted_at_end}

-- ── The register ──

module _ (s : State) (t : List ℕ) (n : Noted old_window s t) (a b c : ℕ) where
  -- one word after `domain`
  word_kept : is_refused (shown (after (call_at s t (to_domains a b c))).answer) ≡ false → (u : Scope) (p : ℕ) → has_row old_window t u ≡ true → p < row_size old_window →
      track_word old_window (after (call_at s t (to_domains a b c))).track u p ≡ track_word old_window t u p
  unfolding word_after flushes carried_out effect set_registers noted_in outcome
  word_kept q u p h k = words (call_at s t (to_domains a b c)) (not_given (call_at s t (to_domains a b c)) q) u p h k ∙ n.stays u p h k

  track_kept : (after (call_at s t (to_domains a b c))).track ≡ t
  track_kept = go (is_refused (shown (after (call_at s t (to_domains a b c))).answer)) refl
    where
      go : (x : Bool) → is_refused (shown (after (call_at s t (to_domains a b c))).answer) ≡ x → (after (call_at s t (to_domains a b c))).track ≡ t
      go true q = (left_alone s t (to_domains a b c) q).1
      go false q = same_tracks old_window t _ t n.whole (track_length_lem (call_at s t (to_domains a b c))) refl (word_kept q)

  -- every page has the outcome that it had
  outcome_kept : (p : ℕ) → outcome (state_of (after (call_at s t (to_domains a b c)))) p ≡ outcome s p
  outcome_kept p = go (is_refused (shown (after (call_at s t (to_domains a b c))).answer)) refl
    where
      go : (x : Bool) → is_refused (shown (after (call_at s t (to_domains a b c))).answer) ≡ x → outcome (state_of (after (call_at s t (to_domains a b c)))) p ≡ outcome s p
      go true q = ap (λ z. outcome z p) (left_alone s t (to_domains a b c) q).0
      go false q =
          ap (λ (y : Result × State). outcome y.1 p) (plain (call_at s t (to_domains a b c)) (not_given (call_at s t (to_domains a b c)) q))
          ∙ (unfold carried_out effect set_registers outcome in refl)

same_move : (s : State) (d : ℕ) (ps : Places) (m : Move) → move (under s d) ps m ≡ move s ps m
unfolding move outcome
same_move s d ps (drop i) = refl
same_move s d ps (load i page) = refl

same_moves : (s : State) (d : ℕ) (ps : Places) (ms : List Move) → moves (under s d) ps ms ≡ moves s ps ms
unfolding moves
same_moves s d ps [] = refl
same_moves s d ps (m ∷ ms) = ap (λ qs. foldl (move (under s d)) qs ms) (same_move s d ps m) ∙ same_moves s d (move s ps m) ms

same_flushes : (o : Operation) (b : Bool) (s : State) (d : ℕ) (ps : Places) → (chip_step o b (under s d) ps).2 ≡ (chip_step o b s ps).2
unfolding chip_step
same_flushes o true s d ps = refl
same_flushes o false s d ps = refl

pub register_forgotten : RegisterForgotten
register_forgotten = record {
  track = λ x acc a b c. track_kept (state_of (at_end checker x)) (at_end checker x).track (noted_at_end x acc) a b c;
  stale = λ x acc a b c context page.
      ap₂ (λ (t : List ℕ) (y : Translation). stale old_window t context page y)
      (track_kept (state_of (at_end checker x)) (at_end checker x).track (noted_at_end x acc) a b c)
      (outcome_kept (state_of (at_end checker x)) (at_end checker x).track (noted_at_end x acc) a b c (page * page_size));
  moves = same_moves;
  flushes = same_flushes;
  translates = λ s d ps a. unfold chip_outcome outcome in refl;
}

-- ── The domain of a descriptor ──

-- a translation with another domain
with_domain_in : ℕ → Translation → Translation
with_domain_in d (found e) = found (with_domain e d)
with_domain_in d (failed n) = failed n

page_redomained : (a d c w : ℕ) → page_word a d w ≡ with_domain_in d (page_word a c w)
unfolding page_word large_page small_page with_domain_in
page_redomained a d c w = go (eqb (bits 1 0 w) 0) (eqb (bits 1 0 w) 1)
  where
    go : (x y : Bool) → cond x (failed 0x7) (cond y (found (large_page a d w)) (found (small_page d w)))
        ≡ with_domain_in d (cond x (failed 0x7) (cond y (found (large_page a c w)) (found (small_page c w))))
    go true y = refl
    go false true = refl
    go false false = refl

descriptor_redomained : (m : List ℕ) (at a d c : ℕ) → descriptor m at 0xe (page_word a d) ≡ with_domain_in d (descriptor m at 0xe (page_word a c))
unfolding descriptor with_domain_in
descriptor_redomained m at a d c =
    ap (λ x. cond (in_memory m at 4) x (failed 0xe)) (page_redomained a d c (value m at 4))
    ∙ sym (push (with_domain_in d) (in_memory m at 4) (page_word a c (value m at 4)) (failed 0xe))

-- the other bits of a level-one word stay
module _ (w d : ℕ) (h : d < 16) where
  v : ℕ
  v = redomained d w

  low_bits : bits 1 0 v ≡ bits 1 0 w
  unfolding v domain_of bits
  low_bits = omega (arith, h)

  new_domain : domain_of v ≡ d
  unfolding v domain_of bits
  new_domain = omega (arith, h)

  xn_bit : bits 4 4 v ≡ bits 4 4 w
  unfolding v domain_of bits
  xn_bit = omega (arith, h)

  above : v / 512 ≡ w / 512
  unfolding v domain_of bits
  above = omega (arith, h)

  base_bits : bits 31 20 v ≡ bits 31 20 w
  unfolding bits
  base_bits = omega (arith, above)

  table_bits : bits 31 10 v ≡ bits 31 10 w
  unfolding bits
  table_bits = omega (arith, above)

  super_bit : bits 18 18 v ≡ bits 18 18 w
  unfolding bits
  super_bit = omega (arith, above)

  ng_bit : bits 17 17 v ≡ bits 17 17 w
  unfolding bits
  ng_bit = omega (arith, above)

  ap_2 : bits 15 15 v ≡ bits 15 15 w
  unfolding bits
  ap_2 = omega (arith, above)

  ap_1_0 : bits 11 10 v ≡ bits 11 10 w
  unfolding bits
  ap_1_0 = omega (arith, above)

  section_redomained : (a : ℕ) → section a v ≡ with_domain (section a w) d
  unfolding section
  section_redomained a = λ i. record {
    frame = base_bits i * 256 + a / page_size % 256;
    ap = ap_2 i * 4 + ap_1_0 i;
    section = 1;
    global = global_by (ng_bit i);
    xn = xn_bit i;
    domain = new_domain i;
  }

  -- a section, or all pages of a table
  word_redomained : (m : List ℕ) (a : ℕ) → table_word m a v ≡ with_domain_in d (table_word m a w)
  unfolding table_word with_domain_in
  word_redomained m a =
      rw (low_bits, table_bits, super_bit, new_domain) (go (eqb (bits 1 0 w) 1) (eqb (bits 1 0 w) 2 && eqb (bits 18 18 w) 0))
    where
      at : ℕ
      at = bits 31 10 w * 1024 + 4 * (a / page_size % 256)

      go : (x y : Bool) → cond x (descriptor m at 0xe (page_word a d)) (cond y (found (section a v)) (failed 0x5))
          ≡ with_domain_in d (cond x (descriptor m at 0xe (page_word a (domain_of w))) (cond y (found (section a w)) (failed 0x5)))
      go true y = descriptor_redomained m at a d (domain_of w)
      go false true = ap found (section_redomained a)
      go false false = refl

alone : (m : List ℕ) (a w d : ℕ) (e : Entry) → d < 16 → table_word m a w ≡ found e → table_word m a (redomained d w) ≡ found (with_domain e d)
unfolding v with_domain_in
alone m a w d e h q = word_redomained w d h m a ∙ ap (with_domain_in d) q

-- the domain of an entry is that of its level-one word
own_domain : (m : List ℕ) (a w : ℕ) (e : Entry) → table_word m a w ≡ found e → e.domain ≡ domain_of w
own_domain m a w e q =
    let h : domain_of w < 16 = unfold domain_of bits in omega arith in
    let back : redomained (domain_of w) w ≡ w = unfold domain_of bits in omega arith in
    let both : found e ≡ found (with_domain e (domain_of w)) = sym q ∙ ap (table_word m a) (sym back) ∙ alone m a w (domain_of w) e h q in
    ap (λ (x : Entry). x.domain) (let z : e ≡ with_domain e (domain_of w) = cc in z)

-- a set with an entry that is not the present outcome makes its page stale in every context that uses it
pub stale_by : (window : ℕ) (t : List ℕ) (u : Scope) (c p : ℕ) (e x : Entry) → covers u c ≡ true → kept u (track_word window t u p) ≡ one e → same e x ≡ false → stale window t c p (found x) ≡ true
unfolding stale differs covers
stale_by window t (own k) c p e x h q f =
    let here : kept (own c) (track_word window t (own c) p) ≡ one e = ap (λ n. kept (own n) (track_word window t (own n) p)) (sym (eqb-true k c h)) ∙ q in
    rw (here, f)
stale_by window t global c p e x h q f = rw (q, f) (or-true (differs (kept (own c) (track_word window t (own c) p)) (found x)))

pub domain_remembered : DomainRemembered
domain_remembered = record { alone = alone; stale = changed }
  where
    differs_by_domain : (e : Entry) (d : ℕ) → (d ≡ e.domain → ⊥) → (b : Bool) → same e (with_domain e d) ≡ b → same e (with_domain e d) ≡ false
    differs_by_domain e d ne false q = q
    differs_by_domain e d ne true q = absurd (ne (sym (ap (λ (x : Entry). x.domain) (same_true e (with_domain e d) q))))

    changed : (m t : List ℕ) (window a w d : ℕ) (e : Entry) (u : Scope) (context : ℕ) → d < 16 → (d ≡ domain_of w → ⊥) → table_word m a w ≡ found e →
        covers u context ≡ true → kept u (track_word window t u (a / page_size)) ≡ one e → stale window t context (a / page_size) (table_word m a (redomained d w)) ≡ true
    changed m t window a w d e u context h ne q cov k =
        ap (stale window t context (a / page_size)) (alone m a w d e h q)
        ∙ stale_by window t u context (a / page_size) e (with_domain e d) cov k
        (differs_by_domain e d (λ z. ne (z ∙ own_domain m a w e q)) (same e (with_domain e d)) refl)
