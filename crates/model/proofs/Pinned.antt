-- The theorems that pin the chip and the operations.
use Prim.Native.Nat.{ℕ, zero, suc, ◌*◌, ◌/◌, ◌<◌}
use mathlib.Core.Path.{◌≡◌, refl, sym, ap, ap₂, ◌∙◌}
use mathlib.Core.Logic.{◌⊎◌, inl, inr}
use mathlib.Core.Bool.{Bool, true, false, cond, ◌&&◌, ◌||◌, true≢false}
use mathlib.Core.Option.{Option, none, some}
use mathlib.Core.List.{List, [], ◌∷◌, map}
use lib.Dec.{eqb, ltb}
use lib.ListN.{length, get_or, set, replicate, length-set, length-map, length-replicate}
use lib.Seq.{get_or-set_same, get_or-set_other}
use borrow.Author.Tests.{eqb-true, eqb-false, eq-eqb, ne_eqb, lt-ltb}
use Rattle.tlb.specs.Places.{Within, NoClash, Apart}
use Rattle.tlb.proofs.PlaceLaws.{none_some, some_same, apart_none, apart_dropped, apart_put, apart_flushed}
use Rattle.model.specs.Limits.{page_size, old_window, row_size}
use Rattle.model.specs.Numbers.{Result, fault}
use Rattle.model.specs.reference.Rules.{Translation, found, failed, State, aligned, accesses, access_size, access, translated, effect, outcome, among, Scope, own, global, covers, Held, Places, held_scope, matches, held_for, meet, clash, any_clash, Move, drop, load, is_free, put_in, move, moves, or_walk, chip_outcome, flush_place, chip_step}
use Rattle.model.specs.reference.Runs.{last, Moment, chip_start, chip_next, chip_run, chip_seen, Holds}
use Rattle.model.specs.Invisible.{Session, begun, Accepted, checker_run_of, chip_start_of, chip_run_of, held_by, loaded_now, plain_end, aligned_access, checker, Pinned}
use Rattle.model.specs.Types.{Operation, Kind, Read, Write, Root, Asid, Mode, All, Addr, Ctx, AddrCtx, Fetch, Domain, Entry, Purpose, ToRead, ToWrite, ToFetch}
use Rattle.model.proofs.BoolLaws.{and_both}
use Rattle.model.proofs.Instance.{outcome_page, effect_page, access_parts}
use Rattle.model.proofs.Chips.{held, flush_leaves, free_none}
use Rattle.model.proofs.Moves.{no_moves, one_move_lem, moves_in_turn, moves_at_first_lem, moves_after_refused_lem, moves_after_carried_lem, moves_by_the_script}
use Rattle.model.proofs.ThirdDemand.{holds_within, within_holds, same_begins, same_chip, plain_end_lem, last_seen}

-- ── What holds of the places at first, and stays so, holds of them after every run ──

module _ (Ok : Places → Type 0) (moved : (s : State) (ps : Places) (m : Move) → Ok ps → Ok (move s ps m)) (flushed : (o : Operation) (ps : Places) → Ok ps → Ok (map (flush_place o) ps)) where
  all_moves : (s : State) (ps : Places) (ms : List Move) → Ok ps → Ok (moves s ps ms)
  unfolding moves
  all_moves s ps [] k = k
  all_moves s ps (m ∷ ms) k = all_moves s (move s ps m) ms (moved s ps m k)

  one_next : (x : Moment) (o : Operation) (b : Bool) (ms : List Move) → Ok x.held → Ok (chip_next x o b ms).held
  unfolding chip_next chip_step
  one_next x o true ms k = all_moves x.state x.held ms k
  one_next x o false ms k = all_moves _ (map (flush_place o) x.held) ms (flushed o x.held k)

  all_run : (x : Moment) (ys : List (Operation × Bool)) (script : ℕ → List Move) → Ok x.held → Ok (last x (chip_run x ys script)).held
  unfolding last chip_run
  all_run x [] script k = k
  all_run x (y ∷ ys) script k =
      all_run (chip_next x y.0 y.1 (script 0)) ys (λ i. script (suc i)) (one_next x y.0 y.1 (script 0) k)

  reached : (n : ℕ) (s : State) (xs : List (Operation × Bool)) (first : List Move) (script : ℕ → List Move) → Ok (replicate n none) → Ok (held_by n s xs first script)
  reached n s xs first script k = all_run (chip_start n s first) xs script (unfold chip_start in all_moves s (replicate n none) first k)

-- ── Never two places that match one page in one context ──

-- two scopes that are used in one context meet
both_cover : (u v : Scope) (c : ℕ) → covers u c ≡ true → covers v c ≡ true → meet u v ≡ true
unfolding covers meet
both_cover (own d) (own e) c p q = eq-eqb d e (eqb-true d c p ∙ sym (eqb-true e c q))
both_cover (own d) global c p q = refl
both_cover global v c p q = refl

eqb_swap : (a b : ℕ) → eqb a b ≡ eqb b a
eqb_swap a b = go (eqb a b) refl
  where
    go : (x : Bool) → eqb a b ≡ x → x ≡ eqb b a
    go true p = sym (eq-eqb b a (sym (eqb-true a b p)))
    go false p = sym (ne_eqb b a (λ q. eqb-false a b p (sym q)))

meet_swap : (u v : Scope) → meet u v ≡ meet v u
unfolding meet
meet_swap (own c) (own d) = eqb_swap c d
meet_swap (own c) global = refl
meet_swap global (own d) = refl
meet_swap global global = refl

swap : (h k : Held) → clash h k ≡ clash k h
unfolding clash
swap h k = ap₂ ◌&&◌ (meet_swap (held_scope h) (held_scope k)) (eqb_swap h.page k.page)

-- where two scopes meet, some context uses both
common : (u v : Scope) → meet u v ≡ true → (c : ℕ) × (covers u c ≡ true) × (covers v c ≡ true)
unfolding covers meet
common (own d) (own e) p = (d, eq-eqb d d refl, eq-eqb e d (sym (eqb-true d e p)))
common (own d) global p = (d, eq-eqb d d refl, refl)
common global (own e) p = (e, refl, eq-eqb e e refl)
common global global p = (0, refl, refl)

-- what matches one page in one context clashes
matching_clash : (h k : Held) (c p : ℕ) → matches h c p ≡ true → matches k c p ≡ true → clash h k ≡ true
unfolding matches clash
matching_clash h k c p a b =
    let x = and_both (covers (held_scope h) c) (eqb h.page p) a in
    let y = and_both (covers (held_scope k) c) (eqb k.page p) b in
    ap₂ ◌&&◌ (both_cover (held_scope h) (held_scope k) c x.0 y.0) (eq-eqb h.page k.page (eqb-true h.page p x.1 ∙ sym (eqb-true k.page p y.1)))

-- and what clashes matches some page in some context
clash_matching : (h k : Held) → clash h k ≡ true → (c : ℕ) × (matches h c h.page ≡ true) × (matches k c h.page ≡ true)
unfolding matches clash
clash_matching h k a =
    let x = and_both (meet (held_scope h) (held_scope k)) (eqb h.page k.page) a in
    let y = common (held_scope h) (held_scope k) x.0 in
    (y.0, ap₂ ◌&&◌ y.1 (eq-eqb h.page h.page refl), ap₂ ◌&&◌ y.2 (eq-eqb k.page h.page (sym (eqb-true h.page k.page x.1))))

-- nothing held clashes, as the chip tests it and as the theory has it
no_clash : (x : Held) (ps : Places) → any_clash x ps ≡ false → NoClash clash x ps
unfolding any_clash NoClash Within
no_clash x [] q h y = absurd y
no_clash x (none ∷ ps) q h (inl y) = absurd (none_some h y)
no_clash x (none ∷ ps) q h (inr y) = no_clash x ps q h y
no_clash x (some k ∷ ps) q h y = go (clash x k) refl q y (λ r z. no_clash x ps r h z)
  where
    go : (b : Bool) → clash x k ≡ b → (b || any_clash x ps) ≡ false → (some k ≡ some h) ⊎ Within h ps → (any_clash x ps ≡ false → Within h ps → clash x h ≡ false) → clash x h ≡ false
    go true a r z rest = absurd (true≢false r)
    go false a r (inl z) rest = ap (clash x) (sym (some_same k h z)) ∙ a
    go false a r (inr z) rest = rest r z

none_clashes : (x : Held) (ps : Places) → ((h : Held) → Within h ps → clash x h ≡ true → ⊥) → any_clash x ps ≡ false
unfolding any_clash Within
none_clashes x [] q = refl
none_clashes x (none ∷ ps) q = none_clashes x ps (λ h y. q h (inr y))
none_clashes x (some k ∷ ps) q = go (clash x k) refl (none_clashes x ps (λ h y. q h (inr y)))
  where
    go : (b : Bool) → clash x k ≡ b → any_clash x ps ≡ false → (b || any_clash x ps) ≡ false
    go true a r = absurd (q k (inl refl) a)
    go false a r = r

apart_moved : (s : State) (ps : Places) (m : Move) → Apart clash ps → Apart clash (move s ps m)
unfolding move
apart_moved s ps (drop i) k = apart_dropped clash i ps k
apart_moved s ps (load i page) k = go (is_free (get_or ps i none)) (ltb page (row_size old_window)) refl
  where
    unless : (e : Entry) (b : Bool) → any_clash (held s.registers.context page e) ps ≡ b → get_or ps i none ≡ none → Apart clash (cond b ps (set ps i (some (held s.registers.context page e))))
    unless e true q f = k
    unless e false q f = apart_put clash swap (held s.registers.context page e) i ps f (no_clash (held s.registers.context page e) ps q) k

    put : (x : Translation) → get_or ps i none ≡ none → Apart clash (put_in i s.registers.context page x ps)
    put (found e) f = unfold put_in in unless e (any_clash (held s.registers.context page e) ps) refl f
    put (failed n) f = unfold put_in in k

    go : (a b : Bool) → is_free (get_or ps i none) ≡ a → Apart clash (cond (a && b) (put_in i s.registers.context page (outcome s (page * page_size)) ps) ps)
    go true true f = put (outcome s (page * page_size)) (free_none (get_or ps i none) f)
    go true false f = k
    go false b f = k

apart_held : (n : ℕ) (s : State) (xs : List (Operation × Bool)) (first : List Move) (script : ℕ → List Move) → Apart clash (held_by n s xs first script)
apart_held n s xs first script =
    reached (Apart clash) apart_moved (λ o ps k. apart_flushed clash (flush_place o) (λ p h e. (flush_leaves o p h e).0) ps k) n s xs first script (apart_none clash n)

at_within : (ps : Places) (i : ℕ) (h : Held) → get_or ps i none ≡ some h → Within h ps
unfolding Within
at_within [] i h q = none_some h q
at_within (p ∷ ps) zero h q = inl q
at_within (p ∷ ps) (suc i) h q = inr (at_within ps i h q)

-- the first place holds a thing, and no later one that may not stand beside it
beside : (p : Option Held) (ps : Places) (h k : Held) → Apart clash (p ∷ ps) → p ≡ some h → Within k ps → clash h k ≡ true → ⊥
unfolding Apart NoClash
beside none ps h k a q y c = none_some h q
beside (some x) ps h k a q y c = true≢false (sym c ∙ ap (λ z. clash z k) (sym (some_same x h q)) ∙ a.0 k y)

apart_rest : (p : Option Held) (ps : Places) → Apart clash (p ∷ ps) → Apart clash ps
unfolding Apart
apart_rest none ps a = a
apart_rest (some x) ps a = a.1

one_place : (ps : Places) → Apart clash ps → (i j : ℕ) (h k : Held) → get_or ps i none ≡ some h → get_or ps j none ≡ some k → clash h k ≡ true → i ≡ j
one_place [] a i j h k p q c = absurd (none_some h p)
one_place (x ∷ ps) a zero zero h k p q c = refl
one_place (x ∷ ps) a zero (suc j) h k p q c = absurd (beside x ps h k a p (at_within ps j k q) c)
one_place (x ∷ ps) a (suc i) zero h k p q c = absurd (beside x ps k h a q (at_within ps i h p) (sym (swap h k) ∙ c))
one_place (x ∷ ps) a (suc i) (suc j) h k p q c = ap suc (one_place ps (apart_rest x ps a) i j h k p q c)

once : (n : ℕ) (s : State) (xs : List (Operation × Bool)) (first : List Move) (script : ℕ → List Move) (i j : ℕ) (h k : Held) (c p : ℕ) →
    get_or (held_by n s xs first script) i none ≡ some h → get_or (held_by n s xs first script) j none ≡ some k → matches h c p ≡ true → matches k c p ≡ true → i ≡ j
once n s xs first script i j h k c p x y a b =
    one_place (held_by n s xs first script) (apart_held n s xs first script) i j h k x y (matching_clash h k c p a b)

-- ── What is held is used ──

held_found : (c p : ℕ) (h : Held) (ps : Places) → Apart clash ps → Within h ps → matches h c p ≡ true → held_for c p ps ≡ some h.entry
unfolding held_for Within
held_found c p h [] a y m = absurd y
held_found c p h (none ∷ ps) a (inl q) m = absurd (none_some h q)
held_found c p h (none ∷ ps) a (inr y) m = held_found c p h ps (apart_rest none ps a) y m
held_found c p h (some x ∷ ps) a (inl q) m =
    let same = some_same x h q in
    rw (ap (λ (z : Held). matches z c p) same ∙ m) (ap (λ (z : Held). some z.entry) same)
held_found c p h (some x ∷ ps) a (inr y) m = go (matches x c p) refl (held_found c p h ps (apart_rest (some x) ps a) y m)
  where
    go : (b : Bool) → matches x c p ≡ b → held_for c p ps ≡ some h.entry → cond b (some x.entry) (held_for c p ps) ≡ some h.entry
    go true q r = absurd (beside (some x) ps x h a refl y (matching_clash x h c p q m))
    go false q r = r

held_used_lem : (n : ℕ) (s : State) (xs : List (Operation × Bool)) (first : List Move) (script : ℕ → List Move) (now : State) (a : ℕ) (h : Held) →
    Holds h (held_by n s xs first script) → matches h now.registers.context (a / page_size) ≡ true → chip_outcome now (held_by n s xs first script) a ≡ found h.entry
unfolding chip_outcome or_walk
held_used_lem n s xs first script now a h y m =
    rw (held_found now.registers.context (a / page_size) h (held_by n s xs first script) (apart_held n s xs first script) (holds_within h (held_by n s xs first script) y) m)

-- ── Moves ──

put_in_lem : (x : Held) (i : ℕ) (ps : Places) → i < length ps → Within x (set ps i (some x))
put_in_lem x i ps h = at_within (set ps i (some x)) i x (get_or-set_same ps i (some x) none h)

can_load_lem : (s : State) (ps : Places) (i page : ℕ) (e : Entry) → i < length ps → get_or ps i none ≡ none → page < row_size old_window →
    outcome s (page * page_size) ≡ found e →
    ((h : Held) (c p : ℕ) → Holds h ps → matches h c p ≡ true → matches (loaded_now s page e) c p ≡ true → ⊥) →
    Holds (loaded_now s page e) (move s ps (load i page))
unfolding move is_free put_in
can_load_lem s ps i page e l f w o n =
    within_holds (loaded_now s page e) (move s ps (load i page))
    (rw (f, lt-ltb page (row_size old_window) w, o, none_clashes (loaded_now s page e) ps apart) (put_in_lem (loaded_now s page e) i ps l))
  where
    apart : (h : Held) → Within h ps → clash (loaded_now s page e) h ≡ true → ⊥
    apart h y c = let z = clash_matching (loaded_now s page e) h c in n h z.0 page (within_holds h ps y) z.2 z.1

drops : (s : State) (ps : Places) (i : ℕ) → get_or (move s ps (drop i)) i none ≡ none
unfolding move
drops s ps i = go ps i
  where
    go : (ps : Places) (i : ℕ) → get_or (set ps i none) i none ≡ none
    go [] i = refl
    go (p ∷ ps) zero = refl
    go (p ∷ ps) (suc i) = go ps i

drops_only_lem : (s : State) (ps : Places) (i j : ℕ) → (j ≡ i → ⊥) → get_or (move s ps (drop i)) j none ≡ get_or ps j none
unfolding move
drops_only_lem s ps i j ne = get_or-set_other ps i j none none ne

-- ── Never more places than n ──

size_moved : (n : ℕ) (s : State) (ps : Places) (m : Move) → length ps ≡ n → length (move s ps m) ≡ n
unfolding move
size_moved n s ps (drop i) e = length-set ps i none ∙ e
size_moved n s ps (load i page) e = go (is_free (get_or ps i none) && ltb page (row_size old_window))
  where
    unless : (h : Held) (b : Bool) → length (cond b ps (set ps i (some h))) ≡ n
    unless h true = e
    unless h false = length-set ps i (some h) ∙ e

    put : (x : Translation) → length (put_in i s.registers.context page x ps) ≡ n
    put (found y) = unfold put_in in unless (held s.registers.context page y) (any_clash (held s.registers.context page y) ps)
    put (failed k) = unfold put_in in e

    go : (b : Bool) → length (cond b (put_in i s.registers.context page (outcome s (page * page_size)) ps) ps) ≡ n
    go true = put (outcome s (page * page_size))
    go false = e

size : (n : ℕ) (s : State) (xs : List (Operation × Bool)) (first : List Move) (script : ℕ → List Move) → length (held_by n s xs first script) ≡ n
size n s xs first script =
    reached (λ ps. length ps ≡ n) (size_moved n) (λ o ps e. length-map ps (flush_place o) ∙ e) n s xs first script (length-replicate n none)

-- ── Operations ──

whole_page_lem : (s : State) (ps : Places) (a b : ℕ) → a / page_size ≡ b / page_size → chip_outcome s ps a ≡ chip_outcome s ps b
unfolding chip_outcome
whole_page_lem s ps a b e =
    ap₂ (λ n x. or_walk (held_for s.registers.context n ps) x) e (sym (outcome_page s a) ∙ ap (λ n. outcome s (n * page_size)) e ∙ outcome_page s b)

access_fault : (x : Purpose) (o : Operation) (s : State) (f : ℕ → Translation) (n : ℕ) → aligned o.a (access_size o) ≡ true → f o.a ≡ failed n → access x o s f ≡ (fault n, s)
unfolding access translated
access_fault x o s f n p q = rw (p, q)

kind_fault : (k : Kind) (o : Operation) (s : State) (f : ℕ → Translation) (n : ℕ) → among k accesses ≡ true → aligned o.a (access_size o) ≡ true → f o.a ≡ failed n → effect k o s f ≡ (fault n, s)
unfolding effect among
kind_fault Read o s f n k p q = access_fault ToRead o s f n p q
kind_fault Write o s f n k p q = access_fault ToWrite o s f n p q
kind_fault Root o s f n k p q = absurd (true≢false (sym k))
kind_fault Asid o s f n k p q = absurd (true≢false (sym k))
kind_fault Mode o s f n k p q = absurd (true≢false (sym k))
kind_fault All o s f n k p q = absurd (true≢false (sym k))
kind_fault Addr o s f n k p q = absurd (true≢false (sym k))
kind_fault Ctx o s f n k p q = absurd (true≢false (sym k))
kind_fault AddrCtx o s f n k p q = absurd (true≢false (sym k))
kind_fault Fetch o s f n k p q = access_fault ToFetch o s f n p q
kind_fault Domain o s f n k p q = absurd (true≢false (sym k))

fault_answers_lem : (o : Operation) (s : State) (f : ℕ → Translation) (n : ℕ) → aligned_access o ≡ true → f o.a ≡ failed n → effect o.kind o s f ≡ (fault n, s)
fault_answers_lem o s f n p q = kind_fault o.kind o s f n (access_parts o p).0 (access_parts o p).1 q

-- ── Where the runs end ──

last_chip : (x : Moment) (xs : List Moment) → (last (chip_seen x) (map chip_seen xs)).1 ≡ (last x xs).state
unfolding last chip_seen
last_chip x [] = refl
last_chip x (y ∷ ys) = last_chip y ys

pub chip_ends_lem : (x : Session) → Accepted checker x → (n : ℕ) (first : List Move) (script : ℕ → List Move) →
    (last (chip_start_of x (suc n) first) (chip_run_of checker x (suc n) first script)).state ≡ plain_end checker x
unfolding chip_seen chip_start
chip_ends_lem x acc n first script =
    sym (last_chip (chip_start_of x (suc n) first) (chip_run_of checker x (suc n) first script))
    ∙ ap₂ (λ (s : State) (l : List (Option Result × State)). (last {A = Option Result × State} (none, s) l).1) (sym (same_begins x acc)) (same_chip x acc n first script)
    ∙ last_seen (begun checker x) (checker_run_of checker x) none
    ∙ sym (plain_end_lem x acc)

pub pinned : Pinned
pinned = record {
  held_used = held_used_lem;
  can_load = can_load_lem;
  drops = drops;
  drops_only = drops_only_lem;
  no_move = no_moves;
  one_move = one_move_lem;
  in_turn = moves_in_turn;
  moves_at_first = moves_at_first_lem;
  moves_after_refused = moves_after_refused_lem;
  moves_after_carried = moves_after_carried_lem;
  by_the_script = moves_by_the_script;
  once = once;
  size = size;
  own_page = λ o s f g e. effect_page o.kind o s f g (λ p q. e);
  whole_page = whole_page_lem;
  fault_answers = fault_answers_lem;
  checker_ends = λ x acc. sym (plain_end_lem x acc);
  chip_ends = chip_ends_lem;
}
