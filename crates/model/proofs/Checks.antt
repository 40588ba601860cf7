-- Each check of the step fails exactly when the reference's condition of its refusal holds.
use Prim.Native.Nat.{ℕ, ◌+◌, ◌*◌, ◌-◌, ◌/◌, ◌%◌, ◌^◌, ◌≤◌}
use mathlib.Core.Path.{◌≡◌, refl, sym, ap, ap₂, ◌∙◌}
use mathlib.Core.Bool.{Bool, true, false, cond, not, ◌&&◌, ◌||◌}
use mathlib.Core.List.{List, [], ◌∷◌, ◌++◌}
use native.Mathlib.Nat.{mul_comm}
use native.Mathlib.Omega.{arith}
use lib.Dec.{eqb, leb, ltb}
use lib.ListN.{length}
use lib.Pow.{pow-add, shl-shr}
use borrow.Author.Tests.{eqb-true, eq-eqb, ne_eqb, ltb-true, ltb-false, leb-true, le-leb}
use Rattle.model.specs.Limits.{page_size, section_size, old_split, old_window, address_limit, row_size, root_alignment, memory_unit, memory_most, contexts_most, word_limit}
use Rattle.model.specs.Numbers.{refusal_number}
use Rattle.model.specs.reference.Rules.{among, contexts, refuses7, refuses8, refuses9, refuses10, refuses11, refuses12, refuses13, refuses14, refuses15, refuses16, refuses17, refuses20, conditions, start_conditions}
use Rattle.model.specs.step.Track.{rows_of, last_row}
use Rattle.model.specs.step.Checks.{memory_fits, track_fits, lengths_fit, alignment_of, root_fits, in_window, domains_fit, registers_fit, is_size, size_fits, address_fits, fits_size, value_fits, new_root_fits, context_fits, mode_fits, new_domains_fit, may_ask, root_may_change, checks, start_checks}
use Rattle.model.specs.Demands.{Call, conditions_of}
use Rattle.model.specs.Types.{Registers, Setting, Operation, Kind, Read, Write, Root, Asid, Mode, All, Addr, Ctx, AddrCtx, Fetch, Domain, Refusal}
use Rattle.model.proofs.BoolLaws.{same_test, and_both, not_ltb, not_leb, or_false, three_and, three_or, not_four, not_two, leb_same}
use Rattle.model.proofs.Fields.{domains_same}

-- an operation with these parts
abbrev op : Kind → ℕ → ℕ → ℕ → Operation
op k a b c = record { kind = k; a = a; b = b; c = c }

-- 7
size_test : (b : ℕ) → not (is_size b) ≡ not (eqb b 1 || eqb b 2 || eqb b 4)
size_test b = ap not (three_or (eqb b 1) (eqb b 2) (eqb b 4))

pub size_same : (k : Kind) (a b c : ℕ) → not (size_fits k b) ≡ refuses7 (op k a b c)
unfolding size_fits refuses7 among
size_same Read a b c = size_test b
size_same Write a b c = size_test b
size_same Root a b c = refl
size_same Asid a b c = refl
size_same Mode a b c = refl
size_same All a b c = refl
size_same Addr a b c = refl
size_same Ctx a b c = refl
size_same AddrCtx a b c = refl
size_same Fetch a b c = refl
size_same Domain a b c = refl

-- 8: an address lies in the window or reaches its limit
pub window_test : (w a : ℕ) → not (in_window w a) ≡ leb (address_limit w) a
unfolding address_limit
window_test w a = not_ltb (a / section_size) w ∙ leb_same w (a / section_size) (w * section_size) a (λ h. omega arith) (λ h. omega arith)

-- the pages of a row are those of the window: each has its addresses there, and there are no others
pub row_pages : (w : ℕ) → row_size w * page_size ≡ address_limit w
unfolding row_size address_limit
row_pages w = omega arith

pub address_same : (w : ℕ) (k : Kind) (a b c : ℕ) → not (address_fits w k a) ≡ refuses8 (op k a b c) w
unfolding address_fits refuses8 among
address_same w Read a b c = window_test w a
address_same w Write a b c = window_test w a
address_same w Root a b c = refl
address_same w Asid a b c = refl
address_same w Mode a b c = refl
address_same w All a b c = refl
address_same w Addr a b c = window_test w a
address_same w Ctx a b c = refl
address_same w AddrCtx a b c = window_test w a
address_same w Fetch a b c = window_test w a
address_same w Domain a b c = refl

-- 9
value_test : (b c : ℕ) → not (fits_size b c) ≡ (eqb b 1 && leb 0x100 c || eqb b 2 && leb 0x10000 c || eqb b 4 && leb 0x100000000 c)
value_test b c = go (eqb b 1) (eqb b 2) (eqb b 4) refl refl refl
  where
    go : (x y z : Bool) → eqb b 1 ≡ x → eqb b 2 ≡ y → eqb b 4 ≡ z →
        not (cond x (ltb c 256) (cond y (ltb c 65536) (cond z (ltb c word_limit) true))) ≡ (x && leb 0x100 c || y && leb 0x10000 c || z && leb 0x100000000 c)
    go true y z p q r =
        let one : b ≡ 1 = eqb-true b 1 p in
        let y-is : y ≡ false = sym q ∙ ne_eqb b 2 (omega arith) in
        let z-is : z ≡ false = sym r ∙ ne_eqb b 4 (omega arith) in
        rw (y-is, z-is) (not_ltb c 256 ∙ sym (or_false (leb 256 c)) ∙ sym (or_false (leb 256 c || false)))
    go false true z p q r =
        let two : b ≡ 2 = eqb-true b 2 q in
        let z-is : z ≡ false = sym r ∙ ne_eqb b 4 (omega arith) in
        rw z-is (not_ltb c 65536 ∙ sym (or_false (leb 65536 c)))
    go false false true p q r = not_ltb c word_limit
    go false false false p q r = refl

pub value_same : (k : Kind) (a b c : ℕ) → not (value_fits k b c) ≡ refuses9 (op k a b c)
unfolding value_fits refuses9 among
value_same Read a b c = refl
value_same Write a b c = value_test b c
value_same Root a b c = refl
value_same Asid a b c = refl
value_same Mode a b c = refl
value_same All a b c = refl
value_same Addr a b c = refl
value_same Ctx a b c = refl
value_same AddrCtx a b c = refl
value_same Fetch a b c = refl
value_same Domain a b c = refl

-- 10: a power of two shifted down is the power that is left
pub power_shift : (k n : ℕ) → n ≤ k → 2 ^ k / 2 ^ n ≡ 2 ^ (k - n)
power_shift k n h =
    ap (λ (x : ℕ). 2 ^ x / 2 ^ n) (let e : k ≡ k - n + n = omega arith in e)
    ∙ ap (λ (x : ℕ). x / 2 ^ n) (pow-add 2 (k - n) n)
    ∙ shl-shr (2 ^ (k - n)) n

pub alignment_same : (n : ℕ) → alignment_of n ≡ root_alignment n
unfolding alignment_of root_alignment
alignment_same n = go (ltb n 15) refl
  where
    go : (b : Bool) → ltb n 15 ≡ b → cond b (16384 / 2 ^ n) 1 ≡ 2 ^ (14 - n)
    go true e = power_shift 14 n (let h = ltb-true n 15 e in omega arith)
    go false e = ap (λ (x : ℕ). 2 ^ x) (let h = ltb-false n 15 e in let z : 0 ≡ 14 - n = omega arith in z)

pub root_test : (n root : ℕ) → not (root_fits n root) ≡ not (eqb (root % root_alignment n) 0)
unfolding root_fits
root_test n root = ap (λ (x : ℕ). not (eqb (root % x) 0)) (alignment_same n)

pub root_same : (n : ℕ) (k : Kind) (a b c : ℕ) → not (new_root_fits n k a) ≡ refuses10 (op k a b c) n
unfolding new_root_fits refuses10 among
root_same n Read a b c = refl
root_same n Write a b c = refl
root_same n Root a b c = root_test n a
root_same n Asid a b c = refl
root_same n Mode a b c = refl
root_same n All a b c = refl
root_same n Addr a b c = refl
root_same n Ctx a b c = refl
root_same n AddrCtx a b c = refl
root_same n Fetch a b c = refl
root_same n Domain a b c = refl

-- 11
pub context_same : (k : Kind) (a b c n : ℕ) → not (context_fits k a b n) ≡ refuses11 (op k a b c) n
unfolding context_fits refuses11 among
context_same Read a b c n = refl
context_same Write a b c n = refl
context_same Root a b c n = refl
context_same Asid a b c n = not_ltb a n ∙ sym (or_false (leb n a))
context_same Mode a b c n = refl
context_same All a b c n = refl
context_same Addr a b c n = refl
context_same Ctx a b c n = not_ltb a n ∙ sym (or_false (leb n a))
context_same AddrCtx a b c n = not_ltb b n
context_same Fetch a b c n = refl
context_same Domain a b c n = refl

-- 12
pub mode_same : (k : Kind) (a b c : ℕ) → not (mode_fits k a) ≡ refuses12 (op k a b c)
unfolding mode_fits refuses12 among
mode_same Read a b c = refl
mode_same Write a b c = refl
mode_same Root a b c = refl
mode_same Asid a b c = refl
mode_same Mode a b c = not_leb a 1
mode_same All a b c = refl
mode_same Addr a b c = refl
mode_same Ctx a b c = refl
mode_same AddrCtx a b c = refl
mode_same Fetch a b c = refl
mode_same Domain a b c = refl

-- 13
track_test : (w n : ℕ) → track_fits w n ≡ (eqb n (row_size w * (last_row w n + 1)) && leb 1 (last_row w n) && leb (last_row w n) contexts_most)
unfolding track_fits last_row
track_test w n =
    three_and (eqb (k * size) n) (leb 2 k) (leb k (contexts_most + 1)) ∙ same_test _ _ to from
  where
    k : ℕ
    k = rows_of w n

    size : ℕ
    size = row_size w

    whole : 2 ≤ k → k * size ≡ size * (k - 1 + 1)
    whole h = mul_comm k size ∙ ap (λ (x : ℕ). size * x) (let e : k ≡ k - 1 + 1 = omega arith in e)

    to : (eqb (k * size) n && leb 2 k && leb k (contexts_most + 1)) ≡ true → (eqb n (size * (k - 1 + 1)) && leb 1 (k - 1) && leb (k - 1) contexts_most) ≡ true
    to p =
        let a = and_both _ (leb k (contexts_most + 1)) p in
        let b = and_both (eqb (k * size) n) (leb 2 k) a.0 in
        let least = leb-true 2 k b.1 in
        let most = leb-true k (contexts_most + 1) a.1 in
        ap₂ ◌&&◌ (ap₂ ◌&&◌ (eq-eqb n (size * (k - 1 + 1)) (sym (eqb-true (k * size) n b.0) ∙ whole least)) (le-leb 1 (k - 1) (omega arith))) (le-leb (k - 1) contexts_most (omega arith))

    from : (eqb n (size * (k - 1 + 1)) && leb 1 (k - 1) && leb (k - 1) contexts_most) ≡ true → (eqb (k * size) n && leb 2 k && leb k (contexts_most + 1)) ≡ true
    from p =
        let a = and_both _ (leb (k - 1) contexts_most) p in
        let b = and_both (eqb n (size * (k - 1 + 1))) (leb 1 (k - 1)) a.0 in
        let least = leb-true 1 (k - 1) b.1 in
        let most = leb-true (k - 1) contexts_most a.1 in
        let two : 2 ≤ k = omega arith in
        ap₂ ◌&&◌ (ap₂ ◌&&◌ (eq-eqb (k * size) n (whole two ∙ sym (eqb-true n (size * (k - 1 + 1)) b.0))) (le-leb 2 k two)) (le-leb k (contexts_most + 1) (omega arith))

pub lengths_same : (w : ℕ) (m t : List ℕ) → not (lengths_fit w (length m) (length t)) ≡ refuses13 w m t
unfolding lengths_fit memory_fits refuses13 contexts last_row
lengths_same w m t =
    not_two (memory_fits (length m)) (track_fits w (length t))
    ∙ ap₂ (λ x y. not x || not y)
    (three_and (eqb (length m % memory_unit) 0) (leb memory_unit (length m)) (leb (length m) memory_most))
    (track_test w (length t))

-- 14, and 17
pub registers_same : (r : Registers) (n : ℕ) → not (registers_fit r n) ≡ refuses14 r n
unfolding registers_fit refuses14
registers_same r n =
    not_four (root_fits old_split r.root) (ltb r.context n) (leb r.mode 1) (domains_fit r.domains)
    ∙ ap₂ (λ x y. not (root_fits old_split r.root) || x || y || not (domains_fit r.domains)) (not_ltb r.context n) (not_leb r.mode 1)
    ∙ ap₂ (λ x y. x || leb n r.context || leb 2 r.mode || y) (root_test old_split r.root) (domains_same r.domains)

pub new_domains_same : (k : Kind) (a b c : ℕ) → not (new_domains_fit k a) ≡ refuses17 (op k a b c)
unfolding new_domains_fit refuses17 among
new_domains_same Read a b c = refl
new_domains_same Write a b c = refl
new_domains_same Root a b c = refl
new_domains_same Asid a b c = refl
new_domains_same Mode a b c = refl
new_domains_same All a b c = refl
new_domains_same Addr a b c = refl
new_domains_same Ctx a b c = refl
new_domains_same AddrCtx a b c = refl
new_domains_same Fetch a b c = refl
new_domains_same Domain a b c = domains_same a

-- 15
pub asking_same : (k : Kind) (a b c : ℕ) (r : Registers) → not (may_ask k r.mode) ≡ refuses15 (op k a b c) r
unfolding may_ask refuses15 among
asking_same Read a b c r = refl
asking_same Write a b c r = refl
asking_same Root a b c r = refl
asking_same Asid a b c r = refl
asking_same Mode a b c r = refl
asking_same All a b c r = refl
asking_same Addr a b c r = refl
asking_same Ctx a b c r = refl
asking_same AddrCtx a b c r = refl
asking_same Fetch a b c r = refl
asking_same Domain a b c r = refl

-- 20
pub changing_same : (k : Kind) (a b c : ℕ) (r : Registers) → not (root_may_change k r.context) ≡ refuses20 (op k a b c) r
unfolding root_may_change refuses20 among
changing_same Read a b c r = refl
changing_same Write a b c r = refl
changing_same Root a b c r = refl
changing_same Asid a b c r = refl
changing_same Mode a b c r = refl
changing_same All a b c r = refl
changing_same Addr a b c r = refl
changing_same Ctx a b c r = refl
changing_same AddrCtx a b c r = refl
changing_same Fetch a b c r = refl
changing_same Domain a b c r = refl

-- checks as conditions: the number of the refusal, and that the check fails
unfoldable pub as_conditions : List (Bool × Refusal) → List (ℕ × Bool)
as_conditions [] = []
as_conditions (x ∷ xs) = (refusal_number x.1, not x.0) ∷ as_conditions xs

-- the condition of 16, which no check before an access tests
abbrev pub stale_condition : Call → ℕ × Bool
stale_condition x = (16, refuses16 x.operation x.registers x.memory x.track)

-- the checks of a step, then 16, are the conditions of the reference in their order
pub checks_same : (x : Call) →
    as_conditions (checks x.operation x.registers (length x.memory) (length x.track)) ++ (stale_condition x ∷ []) ≡ conditions_of x
unfolding as_conditions checks conditions contexts last_row
checks_same x = λ i.
    (13, lengths_same old_window x.memory x.track i)
    ∷ (14, registers_same x.registers (last_row old_window (length x.track)) i)
    ∷ (7, size_same k a b c i)
    ∷ (8, address_same old_window k a b c i)
    ∷ (9, value_same k a b c i)
    ∷ (10, root_same old_split k a b c i)
    ∷ (11, context_same k a b c (last_row old_window (length x.track)) i)
    ∷ (12, mode_same k a b c i)
    ∷ (17, new_domains_same k a b c i)
    ∷ (15, asking_same k a b c x.registers i)
    ∷ (20, changing_same k a b c x.registers i)
    ∷ stale_condition x
    ∷ []
  where
    k : Kind
    k = x.operation.kind

    a : ℕ
    a = x.operation.a

    b : ℕ
    b = x.operation.b

    c : ℕ
    c = x.operation.c

-- the checks of a start are its conditions
pub start_checks_same : (m t : List ℕ) (g : Setting) → as_conditions (start_checks (length m) (length t) g) ≡ start_conditions m t g
unfolding as_conditions start_checks start_conditions
start_checks_same m t g = λ i. (13, lengths_same old_window m t i) ∷ (10, root_test old_split g.root i) ∷ []
