-- The first demand, and what the second asks of a single call: proved of the step.
use Prim.Native.Nat.{ℕ, ◌+◌, ◌*◌, ◌-◌, ◌/◌, ◌<◌}
use mathlib.Core.Path.{◌≡◌, refl, sym, ap, ◌∙◌}
use mathlib.Core.Logic.{◌↔◌, ◌⊎◌, inl, inr}
use mathlib.Core.Bool.{Bool, true, false, cond, not, or-true, true≢false}
use mathlib.Core.List.{List, [], ◌∷◌, ◌++◌}
use mathlib.Core.Option.{Option, none, some}
use native.Mathlib.Omega.{arith}
use lib.Dec.{eqb, leb, ltb}
use lib.ListN.{length}
use borrow.Author.Tests.{eqb-true, ltb-true, leb-true}
use Rattle.model.specs.Limits.{old_split, old_window, row_size, contexts_most}
use Rattle.model.specs.Numbers.{Result, ok, fault, refused, shown, refusal_number}
use Rattle.model.specs.reference.Rules.{Translation, found, failed, in_memory, physical, State, fresh, aligned, access_size, touched, ruled, translated, access, set_registers, effect, outcome, carried_out, Scope, own, global, flushes, track_word, noted_in, word_after, contexts, has_row, start_conditions, Given, wrong_memory, refuses13, refuses16}
use Rattle.model.specs.reference.Runs.{is_refused}
use Rattle.model.specs.step.Track.{rows_of, last_row, note_track, flush_all}
use Rattle.model.specs.step.Checks.{checks, start_checks, first_failing, context_fits, domains_fit, registers_fit, size_fits, root_fits, lengths_fit, memory_fits, track_fits}
use Rattle.model.specs.step.Machine.{After, tables_of, size_of, access_at, read_from, write_to, read_step, write_step, fetch_step, after_checks, started_by, operate, stepped, started, start_registers, zero_registers, turned_back}
use Rattle.model.specs.Demands.{Call, conditions_of, after, before, visible, Leaves, Total, Faithful}
use Rattle.model.specs.Types.{Registers, Setting, Operation, Kind, Read, Write, Root, Asid, Mode, All, Addr, Ctx, AddrCtx, Fetch, Domain, Entry, Refusal, StalePage, Size, Four, Purpose, ToRead, ToWrite, ToFetch, Ruling, Allowed, PermissionDenied, DomainDenied, Check, Access, Stale, Fails, Physical}
use Rattle.std.specs.Prelude.{Ok, Err}
use Rattle.model.proofs.BoolLaws.{push}
use Rattle.model.proofs.Checks.{as_conditions, stale_condition, checks_same, start_checks_same}
use Rattle.model.proofs.Track.{flush_of, noted_word, noted_length, flushed_word, flushed_length, word_after_lem}
use Rattle.model.proofs.Effect.{state, operate_same}

-- ── The first condition that holds ──

unfoldable pub first_holding : List (ℕ × Bool) → Option ℕ
first_holding [] = none
first_holding (x ∷ xs) = cond x.1 (some x.0) (first_holding xs)

pub none_some : {A : Type 0} (x : A) → ◌≡◌ {A = Option A} none (some x) → ⊥
none_some x p = let z : ◌≡◌ {A = Bool} true false = cc in true≢false z

pub given_first : (xs : List (ℕ × Bool)) (r : ℕ) → Given r xs → first_holding xs ≡ some r
unfolding Given first_holding
given_first [] r g = absurd g
given_first (x ∷ xs) r (inl g) = rw g.1 (ap some g.0)
given_first (x ∷ xs) r (inr g) = rw g.0 (given_first xs r g.1)

pub first_given : (xs : List (ℕ × Bool)) (r : ℕ) → first_holding xs ≡ some r → Given r xs
unfolding Given first_holding
first_given [] r p = none_some r p
first_given (x ∷ xs) r p = go x.1 refl p (first_given xs r)
  where
    go : (b : Bool) → x.1 ≡ b → cond b (some x.0) (first_holding xs) ≡ some r → (first_holding xs ≡ some r → Given r xs) →
        ((x.0 ≡ r) × (x.1 ≡ true)) ⊎ ((x.1 ≡ false) × Given r xs)
    go true e q rest = inl (let z : x.0 ≡ r = cc in z, e)
    go false e q rest = inr (e, rest q)

-- a check that refuses, or what comes after the checks
unfoldable pub or_else : Check → Option ℕ → Option ℕ
or_else (Err n) y = some (refusal_number n)
or_else (Ok tt) y = y

pub first_failing_lem : (xs : List (Bool × Refusal)) (ys : List (ℕ × Bool)) → first_holding (as_conditions xs ++ ys) ≡ or_else (first_failing xs) (first_holding ys)
unfolding first_holding as_conditions first_failing or_else
first_failing_lem [] ys = refl
first_failing_lem (x ∷ xs) ys = go x.0 (first_failing_lem xs ys)
  where
    go : (b : Bool) → first_holding (as_conditions xs ++ ys) ≡ or_else (first_failing xs) (first_holding ys) →
        cond (not b) (some (refusal_number x.1)) (first_holding (as_conditions xs ++ ys)) ≡ or_else (cond b (first_failing xs) (Err x.1)) (first_holding ys)
    go true rest = rest
    go false rest = refl

-- checks that pass hold
unfoldable pub Hold : List (Bool × Refusal) → Type 0
Hold [] = Unit {0}
Hold (x ∷ xs) = (x.0 ≡ true) × Hold xs

pub passed : (xs : List (Bool × Refusal)) → first_failing xs ≡ Ok tt → Hold xs
unfolding Hold first_failing
passed [] p = tt
passed (x ∷ xs) p = go x.0 refl p (passed xs)
  where
    go : (b : Bool) → x.0 ≡ b → cond b (first_failing xs) (Err x.1) ≡ Ok tt → (first_failing xs ≡ Ok tt → Hold xs) → (x.0 ≡ true) × Hold xs
    go true e q rest = (e, rest q)
    go false e q rest = absurd (let z : ◌≡◌ {A = Bool} true false = cc in true≢false z)

-- ── What a call gives, by the first condition that holds ──

-- refused by a number, or carried out
unfoldable answer_by : Option ℕ → Operation → State → Result × State
answer_by (some r) o s = (refused r, s)
answer_by none o s = carried_out o s

-- the checks of a call
abbrev pub checks_of : Call → List (Bool × Refusal)
checks_of x = checks x.operation x.registers (length x.memory) (length x.track)

pub size_passed : (x : Call) → first_failing (checks_of x) ≡ Ok tt → size_fits x.operation.kind x.operation.b ≡ true
unfolding Hold checks
size_passed x p = (passed (checks_of x) p).1.1.0

pub conditions_by : (x : Call) → first_holding (conditions_of x) ≡ or_else (first_failing (checks_of x)) (first_holding (stale_condition x ∷ []))
conditions_by x = ap first_holding (sym (checks_same x)) ∙ first_failing_lem (checks_of x) (stale_condition x ∷ [])

step_same : (x : Call) → visible (after x) ≡ answer_by (first_holding (conditions_of x)) x.operation (before x)
unfolding stepped
step_same x = go (first_failing (checks_of x)) refl ∙ ap (λ y. answer_by y x.operation (before x)) (sym (conditions_by x))
  where
    go : (y : Check) → first_failing (checks_of x) ≡ y →
        visible (after_checks y x.operation x.registers x.memory x.track) ≡ answer_by (or_else y (first_holding (stale_condition x ∷ []))) x.operation (before x)
    go (Err n) e = unfold or_else answer_by in refl
    go (Ok tt) e =
        operate_same x.operation x.registers x.memory x.track (size_passed x e)
        ∙ unfold or_else answer_by first_holding in sym (push (λ y. answer_by y x.operation (before x)) (refuses16 x.operation x.registers x.memory x.track) (some 16) none)

-- ── The plain machine refuses nothing ──

pub not_refused : (x : Result) (r : ℕ) → is_refused x ≡ false → x ≡ refused r → ⊥
unfolding is_refused
not_refused x r a p = true≢false (sym (ap is_refused p) ∙ a)

touched_answers : (x : Purpose) (at size v : ℕ) (s : State) → is_refused (touched x at size v s).0 ≡ false
unfolding is_refused touched
touched_answers ToRead at size v s = refl
touched_answers ToWrite at size v s = refl
touched_answers ToFetch at size v s = refl

ruled_answers : (y : Ruling) (x : Purpose) (a size v : ℕ) (s : State) (e : Entry) → is_refused (ruled y x a size v s e).0 ≡ false
unfolding is_refused ruled
ruled_answers DomainDenied x a size v s e = refl
ruled_answers PermissionDenied x a size v s e = refl
ruled_answers Allowed x a size v s e = go (in_memory s.memory (physical e a) size)
  where
    go : (b : Bool) → is_refused (cond b (touched x (physical e a) size v s) (fault 0x8, s)).0 ≡ false
    go true = touched_answers x (physical e a) size v s
    go false = refl

translated_answers : (x : Purpose) (a size v : ℕ) (s : State) (y : Translation) → is_refused (translated x a size v s y).0 ≡ false
unfolding is_refused translated
translated_answers x a size v s (failed n) = refl
translated_answers x a size v s (found e) = ruled_answers _ x a size v s e

access_answers : (x : Purpose) (o : Operation) (s : State) (f : ℕ → Translation) → is_refused (access x o s f).0 ≡ false
unfolding is_refused access
access_answers x o s f = go (aligned o.a (access_size o))
  where
    go : (b : Bool) → is_refused (cond b (translated x o.a (access_size o) o.c s (f o.a)) (fault 0x1, s)).0 ≡ false
    go true = translated_answers x o.a (access_size o) o.c s (f o.a)
    go false = refl

effect_answers : (k : Kind) (o : Operation) (s : State) (f : ℕ → Translation) → is_refused (effect k o s f).0 ≡ false
unfolding is_refused effect set_registers
effect_answers Read o s f = access_answers ToRead o s f
effect_answers Write o s f = access_answers ToWrite o s f
effect_answers Root o s f = refl
effect_answers Asid o s f = refl
effect_answers Mode o s f = refl
effect_answers All o s f = refl
effect_answers Addr o s f = refl
effect_answers Ctx o s f = refl
effect_answers AddrCtx o s f = refl
effect_answers Fetch o s f = access_answers ToFetch o s f
effect_answers Domain o s f = refl

pub never_refused : (o : Operation) (s : State) (r : ℕ) → (carried_out o s).0 ≡ refused r → ⊥
unfolding carried_out
never_refused o s r p = not_refused (carried_out o s).0 r (effect_answers o.kind o s (outcome s)) p

-- ── Refused exactly when a condition is the first that holds ──

refused_number : (r n : ℕ) → ◌≡◌ {A = Result} (refused n) (refused r) → n ≡ r
refused_number r n p = cc

pub exactly : (x : Call) (r : ℕ) → (shown (after x).answer ≡ refused r) ↔ Given r (conditions_of x)
exactly x r = (to, from)
  where
    go : (y : Option ℕ) → first_holding (conditions_of x) ≡ y → (answer_by y x.operation (before x)).0 ≡ refused r → Given r (conditions_of x)
    go (some n) e p = first_given (conditions_of x) r (e ∙ ap some (refused_number r n (unfold answer_by in p)))
    go none e p = absurd (never_refused x.operation (before x) r (unfold answer_by in p))

    to : shown (after x).answer ≡ refused r → Given r (conditions_of x)
    to p = go (first_holding (conditions_of x)) refl (sym (ap (λ (y : Result × State). y.0) (step_same x)) ∙ p)

    from : Given r (conditions_of x) → shown (after x).answer ≡ refused r
    from g =
        ap (λ (y : Result × State). y.0) (step_same x)
        ∙ ap (λ y. (answer_by y x.operation (before x)).0) (given_first (conditions_of x) r g)
        ∙ (unfold answer_by in refl)

-- no condition holds: none is the first
pub none_holds : (xs : List (ℕ × Bool)) → ((r : ℕ) → Given r xs → ⊥) → first_holding xs ≡ none
none_holds xs h = go (first_holding xs) refl
  where
    go : (y : Option ℕ) → first_holding xs ≡ y → y ≡ none
    go none e = refl
    go (some r) e = absurd (h r (first_given xs r e))

pub plain : (x : Call) → ((r : ℕ) → Given r (conditions_of x) → ⊥) → visible (after x) ≡ carried_out x.operation (before x)
plain x h =
    step_same x ∙ ap (λ y. answer_by y x.operation (before x)) (none_holds (conditions_of x) h) ∙ (unfold answer_by in refl)

-- ── What is left in the track ──

-- turned back with all as given, or carried out with what was flushed noted
pub data Ended (y : After) (r : Registers) (m t flushed : List ℕ) : Type 0 where
  back : (n : Refusal) → y ≡ turned_back n r m t → Ended y r m t flushed
  done : is_refused (shown y.answer) ≡ false → y.track ≡ note_track old_window y.memory (tables_of y.registers) y.registers.context flushed → Ended y r m t flushed

read_ended : (x : Access) (size : Size) (r : Registers) (m t : List ℕ) → Ended (read_from x size r m t) r m t t
read_ended Stale size r m t = back StalePage refl
read_ended (Fails f) size r m t = done (unfold is_refused in refl) refl
read_ended (Physical p) size r m t = done (unfold is_refused in refl) refl

write_ended : (x : Access) (size : Size) (v : ℕ) (r : Registers) (m t : List ℕ) → Ended (write_to x size v r m t) r m t t
write_ended Stale size v r m t = back StalePage refl
write_ended (Fails f) size v r m t = done (unfold is_refused in refl) refl
write_ended (Physical p) size v r m t = done (unfold is_refused in refl) refl

operate_ended : (k : Kind) (o : Operation) (r : Registers) (m t : List ℕ) → Ended (operate k o r m t) r m t (flush_of old_window k o t)
unfolding operate flush_of read_step write_step fetch_step is_refused
operate_ended Read o r m t = read_ended (access_at r m t ToRead (size_of o.b) o.a) (size_of o.b) r m t
operate_ended Write o r m t = write_ended (access_at r m t ToWrite (size_of o.b) o.a) (size_of o.b) o.c r m t
operate_ended Root o r m t = done refl refl
operate_ended Asid o r m t = done refl refl
operate_ended Mode o r m t = done refl refl
operate_ended All o r m t = done refl refl
operate_ended Addr o r m t = done refl refl
operate_ended Ctx o r m t = done refl refl
operate_ended AddrCtx o r m t = done refl refl
operate_ended Fetch o r m t = read_ended (access_at r m t ToFetch Four o.a) Four r m t
operate_ended Domain o r m t = done refl refl

-- the flush of a call
abbrev flushed_by : Call → List ℕ
flushed_by x = flush_of old_window x.operation.kind x.operation x.track

ended : (x : Call) → Ended (after x) x.registers x.memory x.track (flushed_by x)
unfolding stepped
ended x = go (first_failing (checks_of x))
  where
    go : (y : Check) → Ended (after_checks y x.operation x.registers x.memory x.track) x.registers x.memory x.track (flushed_by x)
    go (Err n) = back n refl
    go (Ok tt) = operate_ended x.operation.kind x.operation x.registers x.memory x.track

leaves_back : (y : After) (n : Refusal) (r : Registers) (m t : List ℕ) → y ≡ turned_back n r m t → Leaves y r m t
leaves_back y n r m t e = record {
  registers = ap (λ (z : After). z.registers) e;
  memory = ap (λ (z : After). z.memory) e;
  track = ap (λ (z : After). z.track) e;
}

pub unchanged : (x : Call) (r : ℕ) → shown (after x).answer ≡ refused r → Leaves (after x) x.registers x.memory x.track
unchanged x r p = go (ended x)
  where
    go : Ended (after x) x.registers x.memory x.track (flushed_by x) → Leaves (after x) x.registers x.memory x.track
    go (back n e) = leaves_back (after x) n x.registers x.memory x.track e
    go (done a e) = absurd (not_refused (shown (after x).answer) r a p)

-- the context left is one of the track's
pub read_context : (x : Access) (size : Size) (r : Registers) (m t : List ℕ) → (read_from x size r m t).registers ≡ r
read_context Stale size r m t = refl
read_context (Fails f) size r m t = refl
read_context (Physical p) size r m t = refl

pub write_context : (x : Access) (size : Size) (v : ℕ) (r : Registers) (m t : List ℕ) → (write_to x size v r m t).registers ≡ r
write_context Stale size v r m t = refl
write_context (Fails f) size v r m t = refl
write_context (Physical p) size v r m t = refl

context_left : (w : ℕ) (k : Kind) (o : Operation) (r : Registers) (m t : List ℕ) → r.context < contexts w t → context_fits k o.a o.b (contexts w t) ≡ true →
    (operate k o r m t).registers.context < contexts w t
unfolding operate context_fits read_step write_step fetch_step
context_left w Read o r m t h f = rw (read_context (access_at r m t ToRead (size_of o.b) o.a) (size_of o.b) r m t) h
context_left w Write o r m t h f = rw (write_context (access_at r m t ToWrite (size_of o.b) o.a) (size_of o.b) o.c r m t) h
context_left w Root o r m t h f = h
context_left w Asid o r m t h f = ltb-true o.a (contexts w t) f
context_left w Mode o r m t h f = h
context_left w All o r m t h f = h
context_left w Addr o r m t h f = h
context_left w Ctx o r m t h f = h
context_left w AddrCtx o r m t h f = h
context_left w Fetch o r m t h f = rw (read_context (access_at r m t ToFetch Four o.a) Four r m t) h
context_left w Domain o r m t h f = h

-- what the checks passed say of contexts
pub record Passed (x : Call) : Type 0 where
  pub given : x.registers.context < contexts old_window x.track
  pub named : context_fits x.operation.kind x.operation.a x.operation.b (contexts old_window x.track) ≡ true
  pub left : (after x).registers.context < contexts old_window x.track

context_in_range : (r : Registers) (n : ℕ) → registers_fit r n ≡ true → r.context < n
unfolding registers_fit
context_in_range r n p = go (root_fits old_split r.root) (ltb r.context n) refl p
  where
    go : (x y : Bool) → ltb r.context n ≡ y → cond x (cond y (cond (leb r.mode 1) (domains_fit r.domains) false) false) false ≡ true → r.context < n
    go true true e q = ltb-true r.context n e
    go true false e q = absurd (true≢false (sym q))
    go false y e q = absurd (true≢false (sym q))

pub passed_call : (x : Call) → first_failing (checks_of x) ≡ Ok tt → Passed x
unfolding Hold checks contexts last_row stepped
passed_call x p =
    let all = passed (checks_of x) p in
    let given : x.registers.context < contexts old_window x.track = context_in_range x.registers (contexts old_window x.track) all.1.0 in
    let named : context_fits x.operation.kind x.operation.a x.operation.b (contexts old_window x.track) ≡ true = all.1.1.1.1.1.1.0 in
    record {
      given = given;
      named = named;
      left = rw p (context_left old_window x.operation.kind x.operation x.registers x.memory x.track given named);
    }

-- a call that is not refused has passed the checks
passes : (xs : List (Bool × Refusal)) (ys : List (ℕ × Bool)) → first_holding (as_conditions xs ++ ys) ≡ none → first_failing xs ≡ Ok tt
passes xs ys p = go (first_failing xs) (sym (first_failing_lem xs ys) ∙ p)
  where
    go : (y : Check) → or_else y (first_holding ys) ≡ none → y ≡ Ok tt
    go (Ok tt) e = refl
    go (Err n) e = absurd (none_some (refusal_number n) (sym (unfold or_else in e)))

pub call_passes : (x : Call) → ((r : ℕ) → Given r (conditions_of x) → ⊥) → Passed x
call_passes x h = passed_call x (passes (checks_of x) (stale_condition x ∷ []) (ap first_holding (checks_same x) ∙ none_holds (conditions_of x) h))

pub words : (x : Call) → ((r : ℕ) → Given r (conditions_of x) → ⊥) → (u : Scope) (p : ℕ) → has_row old_window x.track u ≡ true → p < row_size old_window →
    track_word old_window (after x).track u p ≡ word_after x.operation (carried_out x.operation (before x)).1 u p (track_word old_window x.track u p)
words x h u p d q = go (ended x)
  where
    o : Operation
    o = x.operation

    y : After
    y = after x

    go : Ended (after x) x.registers x.memory x.track (flushed_by x) →
        track_word old_window (after x).track u p ≡ word_after x.operation (carried_out x.operation (before x)).1 u p (track_word old_window x.track u p)
    go (back n e) = absurd (h (refusal_number n) ((exactly x (refusal_number n)).0 (ap (λ (z : After). shown z.answer) e)))
    go (done a e) =
        let ok = call_passes x h in
        ap (λ l. track_word old_window l u p) e
        ∙ word_after_lem old_window o.kind o y.memory y.registers x.track refl ok.named ok.left u p d q
        ∙ ap (λ (z : Result × State). word_after o z.1 u p (track_word old_window x.track u p)) (plain x h)

pub track_length_lem : (x : Call) → length (after x).track ≡ length x.track
track_length_lem x = go (ended x)
  where
    go : Ended (after x) x.registers x.memory x.track (flushed_by x) → length (after x).track ≡ length x.track
    go (back n e) = ap (λ (z : After). length z.track) e
    go (done a e) =
        let h : (r : ℕ) → Given r (conditions_of x) → ⊥ = λ r g. not_refused (shown (after x).answer) r a ((exactly x r).1 g) in
        let ok = call_passes x h in
        let same = flushed_length old_window x.operation.kind x.operation x.track ok.named in
        ap length e
        ∙ noted_length old_window (after x).memory (after x).registers (flushed_by x) (unfold contexts in rw same (unfold contexts in ok.left))
        ∙ same

-- ── Start ──

abbrev start_checks_of : List ℕ → List ℕ → Setting → List (Bool × Refusal)
start_checks_of m t g = start_checks (length m) (length t) g

start_conditions_by : (m t : List ℕ) (g : Setting) → first_holding (start_conditions m t g) ≡ or_else (first_failing (start_checks_of m t g)) none
unfolding start_conditions
start_conditions_by m t g =
    ap (λ l. first_holding (l ++ [])) (sym (start_checks_same m t g))
    ∙ first_failing_lem (start_checks_of m t g) []
    ∙ (unfold first_holding in refl)

unfoldable started_as : Option ℕ → List ℕ → Setting → Result × State
started_as (some r) m g = (refused r, state zero_registers m)
started_as none m g = (ok 0, fresh m g)

start_same : (m t : List ℕ) (g : Setting) → visible (started m t g) ≡ started_as (first_holding (start_conditions m t g)) m g
unfolding started
start_same m t g = go (first_failing (start_checks_of m t g)) ∙ ap (λ y. started_as y m g) (sym (start_conditions_by m t g))
  where
    go : (y : Check) → visible (started_by y m t g) ≡ started_as (or_else y none) m g
    go (Err n) = unfold or_else started_as in refl
    go (Ok tt) = unfold or_else started_as fresh in refl

pub start_exactly_lem : (m t : List ℕ) (g : Setting) (r : ℕ) → (shown (started m t g).answer ≡ refused r) ↔ Given r (start_conditions m t g)
start_exactly_lem m t g r = (to, from)
  where
    go : (y : Option ℕ) → first_holding (start_conditions m t g) ≡ y → (started_as y m g).0 ≡ refused r → Given r (start_conditions m t g)
    go (some n) e p = first_given (start_conditions m t g) r (e ∙ ap some (refused_number r n (unfold started_as in p)))
    go none e p = absurd (not_refused (ok 0) r (unfold is_refused in refl) (unfold started_as in p))

    to : shown (started m t g).answer ≡ refused r → Given r (start_conditions m t g)
    to p = go (first_holding (start_conditions m t g)) refl (sym (ap (λ (y : Result × State). y.0) (start_same m t g)) ∙ p)

    from : Given r (start_conditions m t g) → shown (started m t g).answer ≡ refused r
    from h =
        ap (λ (y : Result × State). y.0) (start_same m t g)
        ∙ ap (λ y. (started_as y m g).0) (given_first (start_conditions m t g) r h)
        ∙ (unfold started_as in refl)

pub start_plain : (m t : List ℕ) (g : Setting) → ((r : ℕ) → Given r (start_conditions m t g) → ⊥) → visible (started m t g) ≡ (ok 0, fresh m g)
start_plain m t g h =
    start_same m t g ∙ ap (λ y. started_as y m g) (none_holds (start_conditions m t g) h) ∙ (unfold started_as in refl)

-- turned back with zero registers, or the emptied track noted
pub data Begun (y : After) (m t : List ℕ) (g : Setting) : Type 0 where
  back : (n : Refusal) → y ≡ turned_back n zero_registers m t → Begun y m t g
  done : is_refused (shown y.answer) ≡ false → 0 < contexts old_window t → y.track ≡ note_track old_window m (tables_of (start_registers g)) 0 (flush_all old_window t) → Begun y m t g

pub has_context : (w : ℕ) (m t : List ℕ) → lengths_fit w (length m) (length t) ≡ true → 0 < contexts w t
unfolding lengths_fit track_fits contexts
has_context w m t p = go (memory_fits (length m)) (eqb (k * row_size w) (length t)) (leb 2 k) refl p
  where
    k : ℕ
    k = rows_of w (length t)

    go : (x y z : Bool) → leb 2 k ≡ z → cond x (cond y (cond z (leb k (contexts_most + 1)) false) false) false ≡ true → 0 < k - 1
    go true true true e q = let h = leb-true 2 k e in omega arith
    go true true false e q = absurd (true≢false (sym q))
    go true false z e q = absurd (true≢false (sym q))
    go false y z e q = absurd (true≢false (sym q))

-- the track of an accepted start has whole rows
pub start_lengths : (m t : List ℕ) (g : Setting) → ((r : ℕ) → Given r (start_conditions m t g) → ⊥) → length t ≡ row_size old_window * (contexts old_window t + 1)
unfolding start_conditions Given refuses13
start_lengths m t g h = go (eqb (length t) (row_size old_window * (contexts old_window t + 1))) refl
  where
    go : (b : Bool) → eqb (length t) (row_size old_window * (contexts old_window t + 1)) ≡ b → length t ≡ row_size old_window * (contexts old_window t + 1)
    go true e = eqb-true (length t) (row_size old_window * (contexts old_window t + 1)) e
    go false e = absurd (h 13 (inl (refl, rw e (or-true (wrong_memory m)))))

pub begun : (m t : List ℕ) (g : Setting) → Begun (started m t g) m t g
unfolding started
begun m t g = go (first_failing (start_checks_of m t g)) refl
  where
    go : (y : Check) → first_failing (start_checks_of m t g) ≡ y → Begun (started_by y m t g) m t g
    go (Err n) e = back n refl
    go (Ok tt) e = done (unfold is_refused in refl) (has_context old_window m t (unfold Hold start_checks in (passed (start_checks_of m t g) e).0)) refl

pub start_unchanged_lem : (m t : List ℕ) (g : Setting) (r : ℕ) → shown (started m t g).answer ≡ refused r → Leaves (started m t g) zero_registers m t
start_unchanged_lem m t g r p = go (begun m t g)
  where
    go : Begun (started m t g) m t g → Leaves (started m t g) zero_registers m t
    go (back n e) = leaves_back (started m t g) n zero_registers m t e
    go (done a h e) = absurd (not_refused (shown (started m t g).answer) r a p)

-- the flush of everything
everything : Operation
everything = record { kind = All; a = 0; b = 0; c = 0 }

all_length : (w : ℕ) (t : List ℕ) → length (flush_all w t) ≡ length t
unfolding flush_of context_fits
all_length w t = flushed_length w All everything t refl

all_words : (w : ℕ) (t : List ℕ) → 0 < contexts w t → (u : Scope) (p : ℕ) → has_row w t u ≡ true → p < row_size w → track_word w (flush_all w t) u p ≡ 0
unfolding flush_of context_fits flushes
all_words w t k u p h q = flushed_word w All everything t k refl u p h q

all_contexts : (w : ℕ) (t : List ℕ) → contexts w (flush_all w t) ≡ contexts w t
unfolding contexts
all_contexts w t = ap (λ n. n / row_size w - 1) (all_length w t)

all_rows : (w : ℕ) (t : List ℕ) (u : Scope) → has_row w t u ≡ true → has_row w (flush_all w t) u ≡ true
unfolding has_row
all_rows w t (own c) h = ap (ltb c) (all_contexts w t) ∙ h
all_rows w t global h = refl

pub start_words_lem : (m t : List ℕ) (g : Setting) → ((r : ℕ) → Given r (start_conditions m t g) → ⊥) → (u : Scope) (p : ℕ) → has_row old_window t u ≡ true → p < row_size old_window →
    track_word old_window (started m t g).track u p ≡ noted_in (fresh m g) u p 0
start_words_lem m t g h u p d q = go (begun m t g)
  where
    go : Begun (started m t g) m t g → track_word old_window (started m t g).track u p ≡ noted_in (fresh m g) u p 0
    go (back n e) = absurd (h (refusal_number n) ((start_exactly_lem m t g (refusal_number n)).0 (ap (λ (z : After). shown z.answer) e)))
    go (done a k e) =
        ap (λ l. track_word old_window l u p) e
        ∙ noted_word old_window m (start_registers g) (flush_all old_window t) (rw (all_contexts old_window t) k) u p (all_rows old_window t u d) q
        ∙ ap (noted_in (state (start_registers g) m) u p) (all_words old_window t k u p d q)
        ∙ (unfold fresh in refl)

pub start_track_length_lem : (m t : List ℕ) (g : Setting) → length (started m t g).track ≡ length t
start_track_length_lem m t g = go (begun m t g)
  where
    go : Begun (started m t g) m t g → length (started m t g).track ≡ length t
    go (back n e) = ap (λ (z : After). length z.track) e
    go (done a k e) = ap length e ∙ noted_length old_window m (start_registers g) (flush_all old_window t) (rw (all_contexts old_window t) k) ∙ all_length old_window t

-- ── The two theorems ──

pub total : Total
total = record { exactly = exactly; unchanged = unchanged; start_exactly = start_exactly_lem; start_unchanged = start_unchanged_lem }

pub faithful : Faithful
faithful = record {
  plain = plain;
  words = words;
  track_length = track_length_lem;
  start = start_plain;
  start_words = start_words_lem;
  start_track_length = start_track_length_lem;
}
