-- The machine, the checker and the chip of the reference, as an instance of the theory of TLBs.
use Prim.Native.Nat.{ℕ, suc, ◌*◌, ◌/◌}
use mathlib.Core.Path.{◌≡◌, refl, sym, ap, ◌∙◌, fun_ext}
use mathlib.Core.Bool.{Bool, true, false, cond, ◌&&◌, ◌||◌}
use mathlib.Core.Option.{Option, none, some}
use mathlib.Core.List.{List, map}
use native.Mathlib.Omega.{arith}
use lib.Dec.{eqb, ltb}
use lib.ListN.{replicate}
use Rattle.tlb.specs.Machine.{Machine, Walk, entry, fault}
use Rattle.tlb.specs.Chip.{Chip}
use Rattle.tlb.specs.Tracker.{Tracker, Reply, done, refused as refusedBy}
use Rattle.tlb.specs.Seen.{Seen, nothing, one, many}
use Rattle.model.specs.Limits.{page_size, old_window, row_size}
use Rattle.model.specs.Numbers.{Result, ok, fault as faulted, refused, shown}
use Rattle.model.specs.reference.Rules.{Translation, found, failed, State, fresh, aligned, accesses, access_size, translated, access, effect, outcome, carried_out, Scope, scope_of, covers, flushes, Places, held_for, Move, move, or_walk, flush_place, among, Kept, empty, one as only, several}
use Rattle.model.specs.reference.Runs.{is_refused}
use Rattle.model.specs.step.Machine.{After, tables_of, stepped, started}
use Rattle.model.specs.Invisible.{is_access, aligned_access}
use Rattle.model.specs.Types.{Setting, Operation, Kind, Read, Write, Root, Asid, Mode, All, Addr, Ctx, AddrCtx, Fetch, Domain, Entry, Purpose, ToRead, ToWrite, ToFetch}
use Rattle.model.proofs.BoolLaws.{and_both}
use Rattle.model.proofs.Walk.{translation, walk_same}

-- a translation as the theory has it, and back
abbrev pub as_walk : Translation → Walk Entry ℕ
as_walk (found e) = entry e
as_walk (failed n) = fault n

abbrev pub of_walk : Walk Entry ℕ → Translation
of_walk (entry e) = found e
of_walk (fault n) = failed n

pub of_as : (x : Translation) → of_walk (as_walk x) ≡ x
of_as (found e) = refl
of_as (failed n) = refl

-- the page of an aligned access
unfoldable pub page_of : Operation → Option ℕ
page_of o = cond (among o.kind accesses && aligned o.a (access_size o)) (some (o.a / page_size)) none

-- the accesses of the third demand are those of the rules
pub accesses_same : (o : Operation) → is_access o ≡ among o.kind accesses
unfolding is_access
accesses_same o = refl

-- whether a size is 1, 2 or 4
abbrev pub known_size : ℕ → Bool
known_size n = eqb n 1 || eqb n 2 || eqb n 4

-- what an aligned access is
pub access_parts : (o : Operation) → aligned_access o ≡ true → (among o.kind accesses ≡ true) × (aligned o.a (access_size o) ≡ true)
unfolding aligned_access
access_parts o p =
    let q = and_both (is_access o && known_size (access_size o)) (aligned o.a (access_size o)) p in
    (sym (accesses_same o) ∙ (and_both (is_access o) (known_size (access_size o)) q.0).0, q.1)

-- the present outcome of a page, and an operation carried out with its pages translated by f
unfoldable pub walk_of : State → ℕ → Walk Entry ℕ
walk_of s page = as_walk (outcome s (page * page_size))

unfoldable pub carry_of : State → Operation → (ℕ → Walk Entry ℕ) → Result × State
carry_of s o f = effect o.kind o s (λ a. of_walk (f (a / page_size)))

abbrev pub tables : Machine
tables = record {
  Given = List ℕ × Setting;
  State = State;
  Page = ℕ;
  Entry = Entry;
  Fault = ℕ;
  Tag = Scope × ℕ;
  Op = Operation;
  Answer = Result;
  boot = λ g. fresh g.0 g.1;
  walk = walk_of;
  in_window = λ s page. ltb page (row_size old_window);
  tag = λ s page e. (scope_of s.registers.context e, page);
  serves = λ s page u. covers u.0 s.registers.context && eqb u.1 page;
  names = λ o u. flushes o.kind o u.0 u.1;
  page = λ s o. page_of o;
  carry = carry_of;
}

-- the answer of a call
abbrev pub reply_of : Result → Reply Result
reply_of (ok v) = done (ok v)
reply_of (faulted n) = done (faulted n)
reply_of (refused r) = refusedBy r

abbrev pub state_of : After → State
state_of x = record { memory = x.memory; registers = x.registers }

abbrev pub call_of : State → List ℕ → Operation → After
call_of s t o = stepped o s.registers s.memory t

abbrev pub checker : Tracker tables
checker = record {
  Track = List ℕ;
  Accepted = λ g t. is_refused (shown (started g.0 t g.1).answer) ≡ false;
  start_state = λ g t. state_of (started g.0 t g.1);
  start_track = λ g t. (started g.0 t g.1).track;
  reply = λ s t o. reply_of (shown (call_of s t o).answer);
  next_state = λ s t o. state_of (call_of s t o);
  next_track = λ s t o. (call_of s t o).track;
}

-- the chip with n places and one more
abbrev pub tlb_of : ℕ → Chip tables
tlb_of n = record {
  Held = Places;
  Move = Move;
  empty = replicate (suc n) none;
  move = move;
  obey = λ o ps. map (flush_place o) ps;
  through = λ s ps page. as_walk (or_walk (held_for s.registers.context page ps) (outcome s (page * page_size)));
}

-- what a word keeps, as the theory has it
abbrev pub seen_of : Kept → Seen Entry
seen_of empty = nothing
seen_of (only e) = one e
seen_of several = many

-- an address is translated by its page
pub outcome_page : (s : State) (a : ℕ) → outcome s (a / page_size * page_size) ≡ outcome s a
unfolding outcome
outcome_page s a =
    sym (walk_same s.memory (tables_of s.registers) (a / page_size * page_size))
    ∙ ap (λ n. translation (Rattle.model.specs.step.Walk.walk_page s.memory (tables_of s.registers) n)) first
    ∙ walk_same s.memory (tables_of s.registers) a
  where
    first : a / page_size * page_size / page_size ≡ a / page_size
    first = omega arith

-- with every page translated by the tables, an operation is what the plain machine carries out
pub carry_plain : (s : State) (o : Operation) → carry_of s o (walk_of s) ≡ carried_out o s
unfolding carry_of walk_of carried_out
carry_plain s o =
    ap (effect o.kind o s) (fun_ext (λ a. of_as (outcome s (a / page_size * page_size)) ∙ outcome_page s a))

-- an operation uses the translation of its own page and no other
access_page : (x : Purpose) (o : Operation) (s : State) (f h : ℕ → Translation) → (aligned o.a (access_size o) ≡ true → f o.a ≡ h o.a) →
    access x o s f ≡ access x o s h
unfolding access
access_page x o s f h e = go (aligned o.a (access_size o)) refl
  where
    go : (b : Bool) → aligned o.a (access_size o) ≡ b →
        cond b (translated x o.a (access_size o) o.c s (f o.a)) (faulted 0x1, s) ≡ cond b (translated x o.a (access_size o) o.c s (h o.a)) (faulted 0x1, s)
    go true p = ap (translated x o.a (access_size o) o.c s) (e p)
    go false p = refl

pub effect_page : (k : Kind) (o : Operation) (s : State) (f h : ℕ → Translation) →
    (among k accesses ≡ true → aligned o.a (access_size o) ≡ true → f o.a ≡ h o.a) → effect k o s f ≡ effect k o s h
unfolding effect among
effect_page Read o s f h e = access_page ToRead o s f h (e refl)
effect_page Write o s f h e = access_page ToWrite o s f h (e refl)
effect_page Root o s f h e = refl
effect_page Asid o s f h e = refl
effect_page Mode o s f h e = refl
effect_page All o s f h e = refl
effect_page Addr o s f h e = refl
effect_page Ctx o s f h e = refl
effect_page AddrCtx o s f h e = refl
effect_page Fetch o s f h e = access_page ToFetch o s f h (e refl)
effect_page Domain o s f h e = refl

pub one_page_lem : (s : State) (o : Operation) (f h : ℕ → Walk Entry ℕ) → ((page : ℕ) → page_of o ≡ some page → f page ≡ h page) → carry_of s o f ≡ carry_of s o h
unfolding carry_of page_of
one_page_lem s o f h e =
    effect_page o.kind o s (λ a. of_walk (f (a / page_size))) (λ a. of_walk (h (a / page_size)))
    (λ p q. ap of_walk (e (o.a / page_size) (rw (p, q))))
