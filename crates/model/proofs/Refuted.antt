-- Wrong checkers refuted: the third demand does not hold of them. What takes longer to compute stands in the crate `cases`.
use Prim.Native.Nat.{ℕ, zero, suc, ◌*◌, ◌/◌, ◌<◌}
use mathlib.Core.Path.{◌≡◌, refl, sym, ap, ap₂, ◌∙◌, subst}
use mathlib.Core.Logic.{◌↔◌, ◌⊎◌, inl, inr}
use mathlib.Core.Bool.{Bool, true, false, cond, ◌&&◌, true≢false}
use mathlib.Core.Option.{Option, none, some}
use mathlib.Core.List.{List, [], ◌∷◌, map}
use native.Mathlib.Decide.{ℕ_discrete}
use native.Mathlib.Omega.{arith}
use lib.Dec.{eqb, ltb}
use lib.ListN.{length, set, replicate}
use borrow.Author.Tests.{eqb-true, lt-ltb}
use Rattle.tlb.specs.Places.{Within}
use Rattle.tlb.proofs.PlaceLaws.{within_none, within_dropped}
use Rattle.model.specs.Limits.{page_size, old_window, row_size, root_alignment, address_limit}
use Rattle.model.specs.Numbers.{Result, ok, fault, refused, shown, refusal_number}
use Rattle.model.specs.reference.Rules.{found, failed, State, rooted, fresh, aligned, accesses, access_size, outcome, set_registers, effect, carried_out, plain_step, track_word, Scope, own, global, scope_of, covers, Held, Places, held_scope, matches, held_for, any_clash, Move, drop, load, is_free, put_in, move, moves, chip_step, flush_place, flushes, walk, descriptor, table_word, global_by, domain_of, section, bits, value, in_memory, conditions, start_conditions, Given, among, contexts, has_row, refuses7, refuses8, refuses9, refuses10, refuses11, refuses12, refuses13, refuses14, refuses15, refuses16, refuses17, refuses20, field_of, some_field2, stale, kept, differs, noted, noted_in, chip_outcome, or_walk}
use Rattle.model.specs.reference.Runs.{last, Checker, next, checker_run, is_refused, told, seen, plain_run, chip_start, chip_next, chip_run, chip_seen, Holds}
use Rattle.model.specs.step.Checks.{size_fits, first_failing}
use Rattle.model.specs.step.Machine.{After, started, stepped}
use Rattle.model.specs.Demands.{Call, after}
use Rattle.model.specs.Invisible.{Session, begun, Accepted, told_of, chip_start_of, plain_end, at_end, is_access, aligned_access, CouldDiffer, Exactly, Invisible, checker}
use Rattle.model.specs.Wrong.{SameBegins, SamePlain, SameChip, StaleOnlyThen, StaleAlwaysThen, StartsInUserMode, SaysStaleAtOnce, Orderly, Copies, NeverStale, GoesByTrack, AlikeBut, LooksElsewhere}
use Rattle.model.specs.Types.{Registers, Setting, Operation, Kind, Read, Write, Root, Asid, Mode, All as AllSets, Addr, Ctx, AddrCtx, Fetch, Domain, Entry}
use Rattle.std.specs.Prelude.{Ok}
use Rattle.model.proofs.BoolLaws.{and_both, three_or}
use Rattle.model.proofs.Calls.{first_holding, given_first, none_some, not_refused, exactly, start_exactly_lem, start_words_lem, track_length_lem, start_track_length_lem, size_passed, checks_of, Begun, begun as begunBy, back as turned, done as noted-then}
use Rattle.model.proofs.Kept.{begins as fresh-begins, passes_checks, given_16}
use Rattle.model.proofs.Instance.{state_of, outcome_page, accesses_same, known_size}
use Rattle.model.proofs.Chips.{held, load_brings}
use Rattle.model.proofs.ThirdDemand.{holds_within}

-- ── The third demand is its five parts ──

-- the two directions of the second half
only_then : (m : Checker) → Exactly m → StaleOnlyThen m
only_then m e x a o p q = (e.stale x a o p q).0

always_then : (m : Checker) → Exactly m → StaleAlwaysThen m
always_then m e x a o p q = (e.stale x a o p q).1

pub parts : (m : Checker) → Invisible m ↔ (SameBegins m × SamePlain m × SameChip m × StaleOnlyThen m × StaleAlwaysThen m)
parts m = (
  λ v. (v.same.begins, v.same.plain, v.same.chip, only_then m v.exactly, always_then m v.exactly),
  λ y. record {
    same = record { begins = y.0; plain = y.1; chip = y.2 };
    exactly = record { stale = λ x a o p q. (y.3 x a o p q, y.4 x a o p q) };
  },
)

-- ── What is held was loaded ──

-- everything held meets P
abbrev All : (Held → Type 0) → Places → Type 0
All P ps = (h : Held) → Within h ps → P h

module _ (P : Held → Type 0) (s : State) (loads : (page : ℕ) (e : Entry) → outcome s (page * page_size) ≡ found e → P (held s.registers.context page e)) where
  pub move_all : (ps : Places) (m : Move) → All P ps → All P (move s ps m)
  move_all ps (drop i) a h y = a h (within_dropped h i ps (unfold move in y))
  move_all ps (load i page) a h y = go (load_brings s ps i page h y)
    where
      go : Within h ps ⊎ ((e : Entry) × (ltb page (row_size old_window) ≡ true) × (outcome s (page * page_size) ≡ found e) × (held s.registers.context page e ≡ h)) → P h
      go (inl w) = a h w
      go (inr z) = subst P z.3 (loads page z.0 z.2)

  pub moves_all : (ps : Places) (ms : List Move) → All P ps → All P (moves s ps ms)
  unfolding moves
  moves_all ps [] a = a
  moves_all ps (m ∷ ms) a = moves_all (move s ps m) ms (move_all ps m a)

-- before the first operation a chip holds only present entries
pub fresh_held : (n : ℕ) (s : State) (first : List Move) (h : Held) → Holds h (chip_start n s first).held → outcome s (h.page * page_size) ≡ found h.entry
unfolding chip_start
fresh_held n s first h y =
    moves_all (λ k. outcome s (k.page * page_size) ≡ found k.entry) s (λ page x q. q) (replicate n none) first
    (λ k w. absurd (within_none k n w)) h (holds_within h _ y)

-- so directly after a start no TLB can differ
pub none_differs : (m : Checker) (x : Session) (o : Operation) → x.operations ≡ [] → CouldDiffer m x o → ⊥
none_differs m x o e y = go x.operations e y.holds y.other
  where
    page_is : y.held.page ≡ o.a / page_size
    page_is = eqb-true y.held.page (o.a / page_size) (and_both (covers (held_scope y.held) (plain_end m x).registers.context) (eqb y.held.page (o.a / page_size)) (unfold matches in y.matching)).1

    go : (os : List Operation) → os ≡ [] →
        Holds y.held (last (chip_start_of x (suc y.places) y.first) (chip_run (chip_start_of x (suc y.places) y.first) (told m (begun m x) os) y.script)).held →
        (outcome (last (none, fresh x.image x.setting) (plain_run (fresh x.image x.setting) (told m (begun m x) os))).1 o.a ≡ found y.held.entry → ⊥) → ⊥
    go [] q h d = unfold told plain_run chip_run last in at h d
      where
        at : Holds y.held (chip_start_of x (suc y.places) y.first).held →
            (outcome (fresh x.image x.setting) o.a ≡ found y.held.entry → ⊥) → ⊥
        at h d = d
            (sym (outcome_page (fresh x.image x.setting) o.a)
            ∙ ap (λ n. outcome (fresh x.image x.setting) (n * page_size)) (sym page_is)
            ∙ fresh_held (suc y.places) (fresh x.image x.setting) y.first y.held h)
    go (a ∷ rest) q h d = let z : ◌≡◌ {A = Bool} true false = cc in true≢false z

pub no_stale_at_once : (m : Checker) → SaysStaleAtOnce m → StaleOnlyThen m → ⊥
no_stale_at_once m w then =
    none_differs m w.session w.operation w.nothing_before
    (then w.session w.accepted w.operation w.access (λ r q. same_number r (sym (at_start) ∙ q)) at_start)
  where
    same_number : (r : ℕ) → ◌≡◌ {A = Result} (refused 16) (refused r) → r ≡ 16
    same_number r q = cc

    at_start : shown (next m w.operation (at_end m w.session)).answer ≡ refused 16
    at_start = subst (λ (os : List Operation). shown (next m w.operation (last (begun m w.session) (checker_run m (begun m w.session) os))).answer ≡ refused 16)
        (sym w.nothing_before) (unfold checker_run last in w.says16)

-- ── A chip that loads nothing is the plain machine ──

idle_plain : (a : Option Result) (s : State) (l : List (Operation × Bool)) →
    map chip_seen (chip_run (record { answer = a; state = s; held = none ∷ [] }) l (λ i. [])) ≡ plain_run s l
unfolding chip_run chip_next chip_step chip_seen chip_outcome held_for or_walk flush_place moves plain_run plain_step carried_out
idle_plain a s [] = refl
idle_plain a s ((o, true) ∷ l) = ap (λ xs. (none, s) ∷ xs) (idle_plain none s l)
idle_plain a s ((o, false) ∷ l) = ap (λ xs. (some (carried_out o s).0, (carried_out o s).1) ∷ xs) (idle_plain (some (carried_out o s).0) (carried_out o s).1 l)

-- so what agrees with every chip agrees with the plain machine
pub chip_plain : (m : Checker) → SameChip m → SamePlain m
unfolding chip_start moves
chip_plain m agrees x acc = sym (idle_plain none (fresh x.image x.setting) (told_of m x)) ∙ agrees x acc 0 [] (λ i. [])

-- ── A small image with two maps ──

-- three pages; under root 0 nothing is mapped; under root 0x80 the first MiB is a section at 0 with AP 1 and nG set; 7 stands at the start of page 2
unfoldable pub image : List ℕ
image = set (set (set (set (replicate 12288 0) 0x80 2) 0x81 4) 0x82 2) 0x2000 7

unfoldable pub to_root : ℕ → Operation
to_root a = record { kind = Root; a = a; b = 0; c = 0 }

unfoldable pub read_page2 : Operation
read_page2 = record { kind = Read; a = 0x2000; b = 4; c = 0 }

-- what a TLB can hold of page 2 while the root is 0x80
unfoldable pub entry2 : Entry
entry2 = record { frame = 2; ap = 1; section = 1; global = 0; xn = 0; domain = 0 }

unfoldable pub held2 : Held
held2 = held 0 2 entry2

-- the state with this root
at : ℕ → State
at root = record { memory = image; registers = record { root = root; context = 0; mode = 0; domains = 0x55555555 } }

image_length : length image ≡ 12288
unfolding image
image_length = refl

-- no condition of a start holds on this image with a track of this length
start_free : (t : List ℕ) → length t ≡ 3072 → (first_holding (start_conditions image t (rooted 0)) ≡ none) × (first_holding (start_conditions image t (rooted 0x80)) ≡ none)
unfolding start_conditions first_holding refuses13 contexts row_size root_alignment
start_free t e = (rw (image_length, e), rw (image_length, e))

-- none of a change of root does
root_free : (t : List ℕ) → length t ≡ 3072 → (first_holding (conditions (to_root 0x80) (at 0).registers image t) ≡ none) × (first_holding (conditions (to_root 0) (at 0x80).registers image t) ≡ none)
unfolding conditions first_holding refuses13 refuses14 some_field2 field_of bits refuses7 refuses8 refuses9 refuses10 refuses11 refuses12 refuses17 refuses15 refuses20 refuses16 among contexts row_size root_alignment address_limit to_root at
root_free t e = (rw (image_length, e), rw (image_length, e))

-- and of the read only 16 can
read_free : (t : List ℕ) → length t ≡ 3072 → first_holding (conditions read_page2 (at 0).registers image t) ≡ cond (refuses16 read_page2 (at 0).registers image t) (some 16) none
unfolding conditions first_holding refuses13 refuses14 some_field2 field_of bits refuses7 refuses8 refuses9 refuses10 refuses11 refuses12 refuses17 refuses15 refuses20 among contexts row_size root_alignment address_limit read_page2 at
read_free t e = rw (image_length, e)

not_refused_is : (x : Result) → ((r : ℕ) → x ≡ refused r → ⊥) → is_refused x ≡ false
unfolding is_refused
not_refused_is (ok v) h = refl
not_refused_is (fault n) h = refl
not_refused_is (refused r) h = absurd (h r refl)

no_given : (xs : List (ℕ × Bool)) (r : ℕ) → first_holding xs ≡ none → Given r xs → ⊥
no_given xs r free g = none_some r (sym free ∙ given_first xs r g)

-- the state of the n-th element of a run
head_state : List (Option Result × State) → State
head_state [] = at 0
head_state (y ∷ ys) = y.1

tail_of : List (Option Result × State) → List (Option Result × State)
tail_of [] = []
tail_of (y ∷ ys) = ys

-- ── A read of a page that some TLB may still hold ──

-- after what was told, a TLB of one place with these moves holds the entry of page 2, and the tables no longer map it
record Differs (root : ℕ) (first : List Move) (script : ℕ → List Move) (l : List (Operation × Bool)) : Type 0 where
  holds : Holds held2 (last (chip_start 1 (fresh image (rooted root)) first) (chip_run (chip_start 1 (fresh image (rooted root)) first) l script)).held
  matching : matches held2 (last {A = Option Result × State} (none, fresh image (rooted root)) (plain_run (fresh image (rooted root)) l)).1.registers.context (read_page2.a / page_size) ≡ true
  other : outcome (last {A = Option Result × State} (none, fresh image (rooted root)) (plain_run (fresh image (rooted root)) l)).1 read_page2.a ≡ found held2.entry → ⊥

unfolded_found : (n : ℕ) (e : Entry) → failed n ≡ found e → ⊥
unfolded_found n e q = let z : ◌≡◌ {A = Bool} true false = cc in true≢false z

-- loaded before the root changes
loaded_first : Differs 0x80 (load 0 2 ∷ []) (λ i. []) ((to_root 0, false) ∷ [])
unfolding last plain_run plain_step carried_out effect set_registers fresh chip_start chip_run chip_next chip_step moves move row_size is_free any_clash put_in outcome walk descriptor table_word section global_by domain_of bits value in_memory held_scope scope_of covers matches flush_place flushes Holds read_page2 to_root entry2 held2 image
loaded_first = record { holds = inl refl; matching = refl; other = λ q. unfolded_found 0x5 entry2 q }

-- loaded after the first change of root
unfoldable pub after_first : ℕ → List Move
after_first zero = load 0 2 ∷ []
after_first (suc i) = []

loaded_between : Differs 0 [] after_first ((to_root 0x80, false) ∷ (to_root 0, false) ∷ [])
unfolding last plain_run plain_step carried_out effect set_registers fresh chip_start chip_run chip_next chip_step moves move row_size is_free any_clash put_in outcome walk descriptor table_word section global_by domain_of bits value in_memory held_scope scope_of covers matches flush_place flushes Holds read_page2 to_root entry2 held2 image after_first
loaded_between = record { holds = inl refl; matching = refl; other = λ q. unfolded_found 0x5 entry2 q }

-- under root 0 page 2 is not mapped, and an empty word makes it not stale
page2_unmapped : outcome (fresh image (rooted 0)) (2 * page_size) ≡ failed 0x5
unfolding outcome fresh walk descriptor table_word bits value in_memory image
page2_unmapped = refl

empty_not_stale : (t : List ℕ) → (track_word old_window t (own 0) 2 ≡ 0) × (track_word old_window t global 2 ≡ 0) → refuses16 read_page2 (at 0).registers (at 0).memory t ≡ false
unfolding refuses16 among access_size aligned stale kept differs read_page2 at
empty_not_stale t e = rw (e.0, e.1)

unfoldable pub track0 : List ℕ
track0 = replicate 3072 0

long : length track0 ≡ 3072
unfolding track0
long = refl

unfoldable pub session : ℕ → List Operation → Session
session root os = record { image = image; track = track0; setting = rooted root; operations = os }

pub free0 : first_holding (start_conditions image track0 (rooted 0)) ≡ none
free0 = (start_free track0 long).0

free80 : first_holding (start_conditions image track0 (rooted 0x80)) ≡ none
free80 = (start_free track0 long).1

-- an orderly checker accepts a start that no condition turns back
pub start_accepted : (m : Checker) → Orderly m → (root : ℕ) → first_holding (start_conditions image track0 (rooted root)) ≡ none → (os : List Operation) → Accepted m (session root os)
unfolding session
start_accepted m ord root free os =
    not_refused_is (shown (m.start image track0 (rooted root)).answer) (λ r q. no_given (start_conditions image track0 (rooted root)) r free (ord.starts image track0 (rooted root) r q))

module _ (m : Checker) (ord : Orderly m) (start : SameBegins m) (plain : SamePlain m) where
  -- an operation on this state, with a track of this length
  record Handed (x : After) (root : ℕ) : Type 0 where
    state : state_of x ≡ at root
    long_track : length x.track ≡ 3072

  begins : (root : ℕ) → first_holding (start_conditions image track0 (rooted root)) ≡ none → Handed (m.start image track0 (rooted root)) root
  unfolding session fresh at
  begins root free = record {
    state = start (session root []) (start_accepted m ord root free []);
    long_track = ord.start_length image track0 (rooted root) ∙ long;
  }

  -- a change of root that no condition turns back is carried out
  changes : (x : After) (root a : ℕ) → Handed x root → ((t : List ℕ) → length t ≡ 3072 → first_holding (conditions (to_root a) (at root).registers image t) ≡ none) →
      is_refused (shown (next m (to_root a) x).answer) ≡ false
  changes x root a h free = not_refused_is (shown (next m (to_root a) x).answer) (λ r q. go r q (ℕ_discrete r 16))
    where
      here : first_holding (conditions (to_root a) x.registers x.memory x.track) ≡ none
      here =
          ap (λ (s : State). first_holding (conditions (to_root a) s.registers s.memory x.track)) h.state
          ∙ (unfold at in free x.track h.long_track)

      go : (r : ℕ) → shown (next m (to_root a) x).answer ≡ refused r → Dec (r ≡ 16) → ⊥
      go r q (yes e) = true≢false (sym (ord.only16 (to_root a) x.registers x.memory x.track (q ∙ ap refused e)) ∙ (unfold aligned_access is_access among to_root in refl))
      go r q (no e) = no_given _ r here (ord.steps (to_root a) x.registers x.memory x.track r q e)

  -- the read, refused by no number but 16
  only_16 : (x : After) → Handed x 0 → (r : ℕ) → shown (next m read_page2 x).answer ≡ refused r → r ≡ 16
  only_16 x h r q = go (ℕ_discrete r 16)
    where
      here : first_holding (conditions read_page2 x.registers x.memory x.track) ≡ cond (refuses16 read_page2 (at 0).registers image x.track) (some 16) none
      here =
          ap (λ (s : State). first_holding (conditions read_page2 s.registers s.memory x.track)) h.state
          ∙ (unfold at in read_free x.track h.long_track)

      by : (b : Bool) → cond b (some 16) none ≡ some r → r ≡ 16
      by true e = cc
      by false e = absurd (none_some r e)

      go : Dec (r ≡ 16) → r ≡ 16
      go (yes e) = e
      go (no e) = by (refuses16 read_page2 (at 0).registers image x.track) (sym here ∙ given_first _ r (ord.steps read_page2 x.registers x.memory x.track r q e))

  -- the state after one change of root
  one_changed : (root a : ℕ) → Accepted m (session root (to_root a ∷ [])) → told_of m (session root (to_root a ∷ [])) ≡ (to_root a, false) ∷ [] →
      state_of (next m (to_root a) (m.start image track0 (rooted root))) ≡ at a
  unfolding session
  one_changed root a acc e =
      sym
      (ap (λ l. head_state (plain_run (fresh image (rooted root)) l)) (sym e)
      ∙ ap head_state (plain (session root (to_root a ∷ [])) acc)
      ∙ (unfold head_state checker_run seen in refl))
      ∙ (unfold head_state plain_run plain_step carried_out effect set_registers fresh at to_root in refl)

  -- ── To root 0x80 and back to 0 ──

  begin : Handed (m.start image track0 (rooted 0)) 0
  begin = begins 0 free0

  pub first_done : is_refused (shown (next m (to_root 0x80) (m.start image track0 (rooted 0))).answer) ≡ false
  first_done = changes (m.start image track0 (rooted 0)) 0 0x80 begin (λ t e. (root_free t e).0)

  first_told : told_of m (session 0 (to_root 0x80 ∷ [])) ≡ (to_root 0x80, false) ∷ []
  unfolding session told
  first_told = λ i. (to_root 0x80, first_done i) ∷ []

  between : Handed (next m (to_root 0x80) (m.start image track0 (rooted 0))) 0x80
  between = record {
    state = one_changed 0 0x80 (start_accepted m ord 0 free0 (to_root 0x80 ∷ [])) first_told;
    long_track = ord.step_length (to_root 0x80) _ _ _ ∙ begin.long_track;
  }

  both : List Operation
  both = to_root 0x80 ∷ to_root 0 ∷ []

  pub second_done : is_refused (shown (next m (to_root 0) (next m (to_root 0x80) (m.start image track0 (rooted 0)))).answer) ≡ false
  second_done = changes (next m (to_root 0x80) (m.start image track0 (rooted 0))) 0x80 0 between (λ t e. (root_free t e).1)

  both_told : told_of m (session 0 both) ≡ (to_root 0x80, false) ∷ (to_root 0, false) ∷ []
  unfolding session told both
  both_told = λ i. (to_root 0x80, first_done i) ∷ (to_root 0, second_done i) ∷ []

  back_state : state_of (next m (to_root 0) (next m (to_root 0x80) (m.start image track0 (rooted 0)))) ≡ at 0
  unfolding session both
  back_state =
      sym
      (ap (λ l. head_state (tail_of (plain_run (fresh image (rooted 0)) l))) (sym both_told)
      ∙ ap (λ l. head_state (tail_of l)) (plain (session 0 both) (start_accepted m ord 0 free0 both))
      ∙ (unfold head_state tail_of checker_run seen in refl))
      ∙ (unfold head_state tail_of plain_run plain_step carried_out effect set_registers fresh at to_root in refl)

  back : Handed (next m (to_root 0) (next m (to_root 0x80) (m.start image track0 (rooted 0)))) 0
  back = record { state = back_state; long_track = ord.step_length (to_root 0) _ _ _ ∙ between.long_track }

  -- one that copies the track has then the track that its start left
  copied : Copies m → (next m (to_root 0) (next m (to_root 0x80) (m.start image track0 (rooted 0)))).track ≡ (m.start image track0 (rooted 0)).track
  copied w = w (to_root 0) _ _ _ ∙ w (to_root 0x80) _ _ _

  -- the read that follows is carried out by one that copies the track and goes by it: the word of page 2 is still empty
  pub read_done : Copies m → GoesByTrack m → is_refused (shown (next m read_page2 (next m (to_root 0) (next m (to_root 0x80) (m.start image track0 (rooted 0))))).answer) ≡ false
  read_done w by =
      not_refused_is _ (λ r q. true≢false (sym (says r q) ∙ empty_not_stale (m.start image track0 (rooted 0)).track word))
    where
      x : After
      x = next m (to_root 0) (next m (to_root 0x80) (m.start image track0 (rooted 0)))

      says : (r : ℕ) → shown (next m read_page2 x).answer ≡ refused r → refuses16 read_page2 (at 0).registers (at 0).memory (m.start image track0 (rooted 0)).track ≡ true
      says r q =
          ap₂ (λ (s : State) (t : List ℕ). refuses16 read_page2 s.registers s.memory t) (sym back_state) (sym (copied w))
          ∙ by.says16 read_page2 x.registers x.memory x.track (q ∙ ap refused (only_16 x back r q))

      word : (track_word old_window (m.start image track0 (rooted 0)).track (own 0) 2 ≡ 0) × (track_word old_window (m.start image track0 (rooted 0)).track global 2 ≡ 0)
      word = unfold session row_size in by.unmapped (session 0 []) (start_accepted m ord 0 free0 []) 2 0x5 (omega arith) page2_unmapped

  -- ── What the second half says of it ──

  module _ (always : StaleAlwaysThen m) where
    -- where some TLB could hold the entry of page 2, the read is refused as stale
    is_stale : (root : ℕ) (os : List Operation) (first : List Move) (script : ℕ → List Move) (l : List (Operation × Bool)) →
        Accepted m (session root os) → told_of m (session root os) ≡ l → Differs root first script l → Handed (at_end m (session root os)) 0 →
        shown (next m read_page2 (at_end m (session root os))).answer ≡ refused 16
    unfolding session
    is_stale root os first script l acc e d h =
        let y = subst (Differs root first script) (sym e) d in
        always (session root os) acc read_page2 (unfold aligned_access is_access among access_size aligned read_page2 in refl) (only_16 (at_end m (session root os)) h)
        (record { places = 0; first = first; script = script; held = held2; holds = y.holds; matching = y.matching; other = y.other })

    -- as it is after root 0x80 and back
    stale_back : shown (next m read_page2 (next m (to_root 0) (next m (to_root 0x80) (m.start image track0 (rooted 0))))).answer ≡ refused 16
    unfolding session checker_run last both
    stale_back =
        is_stale 0 both [] after_first ((to_root 0x80, false) ∷ (to_root 0, false) ∷ []) (start_accepted m ord 0 free0 both) both_told loaded_between back

  module _ (exact : Exactly m) where
    -- directly after the start with root 0 the read is not refused as stale
    not_at_once : shown (next m read_page2 (m.start image track0 (rooted 0))).answer ≡ refused 16 → ⊥
    unfolding session
    not_at_once q = no_stale_at_once m (record {
      session = session 0 [];
      operation = read_page2;
      nothing_before = refl;
      accepted = start_accepted m ord 0 free0 [];
      access = unfold aligned_access is_access among access_size aligned read_page2 in refl;
      says16 = q;
    }) (only_then m exact)

    -- ── It looks for stale entries in other rows ──

    module _ (w : LooksElsewhere m) where
      at_begin : Handed (m.start image track0 (rooted 0x80)) 0x80
      at_begin = begins 0x80 free80

      done : is_refused (shown (next m (to_root 0) (m.start image track0 (rooted 0x80))).answer) ≡ false
      done = changes (m.start image track0 (rooted 0x80)) 0x80 0 at_begin (λ t e. (root_free t e).1)

      told_one : told_of m (session 0x80 (to_root 0 ∷ [])) ≡ (to_root 0, false) ∷ []
      unfolding session told
      told_one = λ i. (to_root 0, done i) ∷ []

      after_one : Handed (next m (to_root 0) (m.start image track0 (rooted 0x80))) 0
      after_one = record {
        state = one_changed 0x80 0 (start_accepted m ord 0x80 free80 (to_root 0 ∷ [])) told_one;
        long_track = ord.step_length (to_root 0) _ _ _ ∙ at_begin.long_track;
      }

      stale_then : shown (next m read_page2 (next m (to_root 0) (m.start image track0 (rooted 0x80)))).answer ≡ refused 16
      unfolding session checker_run last
      stale_then =
          is_stale (always_then m exact) 0x80 (to_root 0 ∷ []) (load 0 2 ∷ []) (λ i. []) ((to_root 0, false) ∷ []) (start_accepted m ord 0x80 free80 (to_root 0 ∷ [])) told_one loaded_first after_one

      -- the same read directly after a start with root 0, on a track that differs at most in the row of context 0 and in the global row
      alike : AlikeBut old_window 0 (next m (to_root 0) (m.start image track0 (rooted 0x80))).track (m.start image track0 (rooted 0)).track
      unfolding at track_word
      alike = record {
        lengths = after_one.long_track ∙ sym (begins 0 free0).long_track;
        others = λ c p n q.
            subst (λ (s : State). (c ≡ s.registers.context → ⊥) → p < row_size old_window → track_word old_window (next m (to_root 0) (m.start image track0 (rooted 0x80))).track (own c) p ≡ track_word old_window (m.start image track0 (rooted 0x80)).track (own c) p)
            at_begin.state (λ k l. unfold to_root in w.root_others 0 _ _ _ c p k l) (unfold at in n) (unfold at in q)
            ∙ w.start_others image track0 (rooted 0x80) c p n q
            ∙ sym (w.start_others image track0 (rooted 0) c p n q);
      }

      elsewhere_refuted : ⊥
      elsewhere_refuted = not_at_once
          (ap (λ (s : State). shown (m.step read_page2 s.registers s.memory (m.start image track0 (rooted 0)).track).answer) (begins 0 free0).state
          ∙ sym (ap shown (w.blind read_page2 (at 0).registers (at 0).memory (next m (to_root 0) (m.start image track0 (rooted 0x80))).track (m.start image track0 (rooted 0)).track (unfold at in alike)))
          ∙ ap (λ (s : State). shown (m.step read_page2 s.registers s.memory (next m (to_root 0) (m.start image track0 (rooted 0x80))).track).answer) (sym after_one.state)
          ∙ stale_then)

    -- ── It copies the track ──

    copy_refuted : Copies m → ⊥
    copy_refuted w = not_at_once
        (ap (λ (s : State). shown (m.step read_page2 s.registers s.memory (m.start image track0 (rooted 0)).track).answer) begin.state
        ∙ ap₂ (λ (s : State) (t : List ℕ). shown (m.step read_page2 s.registers s.memory t).answer) (sym back_state) (sym (copied w))
        ∙ stale_back (always_then m exact))

-- ── By the first half ──

-- by its field `begins`
pub no_user_start : (m : Checker) → Orderly m → StartsInUserMode m → SameBegins m → ⊥
unfolding session fresh
no_user_start m ord user begins =
    let e : ◌≡◌ {A = ℕ} 1 0 = sym (user image track0 (rooted 0)) ∙ ap (λ (s : State). s.registers.mode) (begins (session 0 []) (start_accepted m ord 0 free0 [])) in
    omega arith

-- ── By the second half ──

-- by one direction, after the same two operations
pub no_never_stale : (m : Checker) → Orderly m → SameBegins m → SamePlain m → NeverStale m → StaleAlwaysThen m → ⊥
no_never_stale m ord begins plain never always = never read_page2 _ _ _ (stale_back m ord begins plain always)

-- by both
pub no_looking_elsewhere : (m : Checker) → Orderly m → Invisible m → LooksElsewhere m → ⊥
no_looking_elsewhere m ord inv w =
    elsewhere_refuted m ord inv.same.begins inv.same.plain inv.exactly w

pub no_copying : (m : Checker) → Orderly m → Invisible m → Copies m → ⊥
no_copying m ord inv w =
    copy_refuted m ord inv.same.begins inv.same.plain inv.exactly w

-- ── The checker of this project is orderly, and so is one made of it that copies the track ──

named_size : (k : Kind) (a b c : ℕ) → among k accesses ≡ true → size_fits k b ≡ true → known_size (access_size (record { kind = k; a = a; b = b; c = c })) ≡ true
unfolding among access_size size_fits
named_size Read a b c p s = sym (three_or (eqb b 1) (eqb b 2) (eqb b 4)) ∙ s
named_size Write a b c p s = sym (three_or (eqb b 1) (eqb b 2) (eqb b 4)) ∙ s
named_size Root a b c p s = absurd (true≢false (sym p))
named_size Asid a b c p s = absurd (true≢false (sym p))
named_size Mode a b c p s = absurd (true≢false (sym p))
named_size AllSets a b c p s = absurd (true≢false (sym p))
named_size Addr a b c p s = absurd (true≢false (sym p))
named_size Ctx a b c p s = absurd (true≢false (sym p))
named_size AddrCtx a b c p s = absurd (true≢false (sym p))
named_size Fetch a b c p s = refl
named_size Domain a b c p s = absurd (true≢false (sym p))

passes_16 : (x : Call) → shown (after x).answer ≡ refused 16 → first_failing (checks_of x) ≡ Ok tt
passes_16 x q = passes_checks x (λ r e. same r (sym q ∙ e))
  where
    same : (r : ℕ) → ◌≡◌ {A = Result} (refused 16) (refused r) → r ≡ 16
    same r e = cc

aligned_16 : (x : Call) → shown (after x).answer ≡ refused 16 → aligned_access x.operation ≡ true
unfolding refuses16 aligned_access
aligned_16 x q =
    let pass = passes_16 x q in
    let all = and_both _ (stale old_window x.track x.registers.context (x.operation.a / page_size) (walk x.memory x.registers.root x.operation.a)) ((given_16 x pass).0 q) in
    let o : Operation = x.operation in
    let kinds = and_both (among o.kind accesses) (aligned o.a (access_size o)) all.0 in
    ap₂ ◌&&◌ (ap₂ ◌&&◌ (accesses_same o ∙ kinds.0) (named_size o.kind o.a o.b o.c kinds.0 (size_passed x pass))) kinds.1

abbrev pub call : Operation → Registers → List ℕ → List ℕ → Call
call o g i t = record { operation = o; registers = g; memory = i; track = t }

pub orderly : Orderly checker
orderly = record {
  starts = λ i t y r q. (start_exactly_lem i t y r).0 q;
  steps = λ o g i t r q n. (exactly (call o g i t) r).0 q;
  only16 = λ o g i t q. aligned_16 (call o g i t) q;
  start_length = start_track_length_lem;
  step_length = λ o g i t. track_length_lem (call o g i t);
}

empty_noted : (i : List ℕ) (y : Setting) (u : Scope) (p n : ℕ) → outcome (fresh i y) (p * page_size) ≡ failed n → noted_in (fresh i y) u p 0 ≡ 0
unfolding noted_in noted fresh
empty_noted i y u p n e = rw e

-- and goes by the track
pub by_track : GoesByTrack checker
by_track = record {
  says16 = λ o g i t q. (given_16 (call o g i t) (passes_16 (call o g i t) q)).0 q;
  begins = λ x acc. fresh-begins x.image x.track x.setting acc;
  unmapped = λ x acc p n h e. unmapped x.image x.track x.setting acc p n h e (begunBy x.image x.track x.setting);
}
  where
    unmapped : (i t : List ℕ) (y : Setting) → is_refused (shown (started i t y).answer) ≡ false → (p n : ℕ) → p < row_size old_window → outcome (fresh i y) (p * page_size) ≡ failed n →
        Begun (started i t y) i t y → (track_word old_window (started i t y).track (own 0) p ≡ 0) × (track_word old_window (started i t y).track global p ≡ 0)
    unmapped i t y acc p n h e (turned k b) = absurd (not_refused _ (refusal_number k) acc (ap (λ (z : After). shown z.answer) b))
    unmapped i t y acc p n h e (noted-then a k b) =
        (by (own 0) (unfold has_row in lt-ltb 0 (contexts old_window t) k), by global (unfold has_row in refl))
      where
        by : (u : Scope) → has_row old_window t u ≡ true → track_word old_window (started i t y).track u p ≡ 0
        by u q = start_words_lem i t y (λ r g. not_refused _ r acc ((start_exactly_lem i t y r).1 g)) u p q h ∙ empty_noted i y u p n e

unfoldable pub copying_step : Operation → Registers → List ℕ → List ℕ → After
copying_step o g i t = record {
  answer = (stepped o g i t).answer;
  registers = (stepped o g i t).registers;
  memory = (stepped o g i t).memory;
  track = t;
}

unfoldable pub copying : Checker
copying = record { start = started; step = copying_step }

pub copying_orderly : Orderly copying
unfolding copying copying_step
copying_orderly = record {
  starts = orderly.starts;
  steps = orderly.steps;
  only16 = orderly.only16;
  start_length = start_track_length_lem;
  step_length = λ o g i t. refl;
}

pub copying_by_track : GoesByTrack copying
unfolding copying copying_step
copying_by_track = record { says16 = by_track.says16; begins = by_track.begins; unmapped = by_track.unmapped }

pub copying_refuted : Invisible copying → ⊥
unfolding copying copying_step
copying_refuted inv = no_copying copying copying_orderly inv (λ o g i t. refl)
