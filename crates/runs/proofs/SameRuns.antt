-- The theorems: the test of quiet stores, and the step for runs in runs from an accepted start.
use Prim.Native.Nat.{ℕ, ◌+◌, ◌*◌, ◌/◌, ◌<◌, ◌≤◌}
use mathlib.Core.Path.{◌≡◌, refl, sym, ap, ap₂, ◌∙◌, subst}
use mathlib.Core.Bool.{Bool, true, false, cond}
use mathlib.Core.List.{List, [], ◌∷◌}
use native.Mathlib.Omega.{arith}
use lib.ListN.{length}
use borrow.Author.Tests.{leb-true}
use Rattle.model.specs.Limits.{page_size, old_window, row_size, section_size, address_limit}
use Rattle.model.specs.Numbers.{Result, fault, shown}
use Rattle.model.specs.reference.Rules.{Translation, found, in_memory, walk, physical, State, stored, aligned, touched, ruled, translated, access, access_size, among, effect, outcome, carried_out, noted, noted_in, Scope, flushes, word_after, has_row, track_word}
use Rattle.model.specs.reference.Runs.{next, checker_run, is_refused}
use Rattle.model.specs.step.Memory.{bytes_of}
use Rattle.model.specs.step.Checks.{first_failing}
use Rattle.model.specs.step.Machine.{After, tables_of, size_of, access_at, write_to, write_step, operate, after_checks, stepped}
use Rattle.model.specs.Demands.{after}
use Rattle.model.specs.Invisible.{begun, checker}
use Rattle.model.specs.declared.Registers.{Registers}
use Rattle.model.specs.declared.Operation.{Operation}
use Rattle.model.specs.declared.Entry.{Entry}
use Rattle.model.specs.declared.Kind.{Kind}
use Rattle.model.specs.declared.Kind.TheVariants.{Write, Fetch}
use Rattle.model.specs.declared.Ruling.{Ruling}
use Rattle.model.specs.declared.Ruling.TheVariants.{Allowed, PermissionDenied, DomainDenied}
use Rattle.model.specs.declared.Access.TheVariants.{Physical}
use Rattle.model.specs.declared.Purpose.TheVariants.{ToWrite}
use Rattle.model.specs.Types.{Check}
use Rattle.std.specs.Prelude.{Ok, Err}
use Rattle.model.proofs.Calls.{checks_of, plain, words, track_length_lem}
use Rattle.model.proofs.Effect.{state}
use Rattle.model.proofs.Instance.{state_of}
use Rattle.model.proofs.Kept.{call_at, not_given}
use Rattle.runs.specs.Used.{window_words, Among, Untouched}
use Rattle.runs.specs.Quiet.{quiet}
use Rattle.runs.specs.Step.{run_operate, run_after_checks, run_stepped}
use Rattle.runs.specs.Same.{QuietStores, Alike, SameRuns, run_checker, reached}
use Rattle.runs.specs.Noted.{Noted}
use Rattle.runs.proofs.UsedLaws.{quiet_exactly}
use Rattle.runs.proofs.Stores.{same_walk, quiet_walks}
use Rattle.runs.proofs.Noted.{left_alone, noted_start, noted_next, noted_at_end}
use Rattle.runs.proofs.SameLaws.{same_tracks, settled, settled_store, step_same}

pub quiet_stores : QuietStores
quiet_stores = record { exactly = quiet_exactly; walks = λ w m tables at n v a inside q h. quiet_walks w m tables at n v a q h }

-- ── Any lent state ──

alike : (o : Operation) (r : Registers) (m t : List ℕ) → Alike (run_stepped o r m t) (stepped o r m t)
unfolding run_stepped stepped
alike o r m t = go (first_failing (checks_of (record { operation = o; registers = r; memory = m; track = t })))
  where
    go : (y : Check) → Alike (run_after_checks y o r m t) (after_checks y o r m t)
    go (Err n) = record { answer = refl; registers = refl; memory = refl }
    go (Ok tt) = unfold run_operate in record { answer = refl; registers = refl; memory = refl }

-- ── From an accepted start ──

-- a quiet store leaves the track
store_leaves : (o : Operation) (r : Registers) (m t : List ℕ) (p : ℕ) → Noted old_window (state r m) t → o.kind ≡ Write →
    access_at r m t ToWrite (size_of o.b) o.a ≡ Physical p → quiet old_window m (tables_of r) p (bytes_of (size_of o.b)) ≡ true → (stepped o r m t).track ≡ t
unfolding stepped
store_leaves o r m t p n k e q = go (first_failing (checks_of (record { operation = o; registers = r; memory = m; track = t })))
  where
    by_kind : (operate Write o r m t).track ≡ t
    by_kind = unfold operate write_step in (ap (λ x. (write_to x (size_of o.b) o.c r m t).track) e ∙ settled_store old_window r m t n (size_of o.b) p o.c q)

    go : (y : Check) → (after_checks y o r m t).track ≡ t
    go (Err c) = refl
    go (Ok tt) = ap (λ x. (operate x o r m t).track) k ∙ by_kind

-- an operation after which each page of the window is walked as before, that leaves the context as it was and flushes nothing, leaves the track
module _ (s : State) (t : List ℕ) (n : Noted old_window s t) (o : Operation) where
  abbrev y : After
  y = after (call_at s t o)

  abbrev SameWalks : Type 0
  SameWalks = (p : ℕ) → p < row_size old_window → walk y.memory y.registers.root (p * page_size) ≡ walk s.memory s.registers.root (p * page_size)

  abbrev NoFlush : Type 0
  NoFlush = (u : Scope) (page : ℕ) → flushes o.kind o u page ≡ false

  word_stays : is_refused (shown y.answer) ≡ false → SameWalks → y.registers.context ≡ s.registers.context → NoFlush →
      (u : Scope) (p : ℕ) → has_row old_window t u ≡ true → p < row_size old_window → track_word old_window y.track u p ≡ track_word old_window t u p
  unfolding word_after noted_in outcome
  word_stays q ew ec nothing u p has h =
      words (call_at s t o) (not_given (call_at s t o) q) u p has h
      ∙ ap (λ (z : State). noted_in z u p (cond (flushes o.kind o u p) 0 (track_word old_window t u p))) (sym left)
      ∙ ap (λ b. noted_in (state_of y) u p (cond b 0 (track_word old_window t u p))) (nothing u p)
      ∙ ap (λ x. noted u y.registers.context x (track_word old_window t u p)) (ew p h)
      ∙ ap (λ c. noted u c (walk s.memory s.registers.root (p * page_size)) (track_word old_window t u p)) ec
      ∙ n.stays u p has h
    where
      left : state_of y ≡ (carried_out o s).1
      left = ap (λ (z : Result × State). z.1) (plain (call_at s t o) (not_given (call_at s t o) q))

  walks_leave : (is_refused (shown y.answer) ≡ false → SameWalks × (y.registers.context ≡ s.registers.context)) → NoFlush → y.track ≡ t
  walks_leave h nothing = go (is_refused (shown y.answer)) refl
    where
      go : (b : Bool) → is_refused (shown y.answer) ≡ b → y.track ≡ t
      go true q = (left_alone s t o q).1
      go false q = same_tracks old_window t y.track t n.whole (track_length_lem (call_at s t o)) refl (word_stays q (h q).0 (h q).1 nothing)

  leaves_track : y.memory ≡ s.memory → y.registers.root ≡ s.registers.root → y.registers.context ≡ s.registers.context → NoFlush → y.track ≡ t
  leaves_track em er ec nothing = walks_leave (λ q. (λ p h. ap₂ (λ (l : List ℕ) (root : ℕ). walk l root (p * page_size)) em er, ec)) nothing

-- ── A store, in the words of the rules ──

-- what a write of n bytes at a place leaves: the state as it was, or its bytes stored there, in memory
data Stored (s : State) (at n v : ℕ) (z : State) : Type 0 where
  nowhere : z ≡ s → Stored s at n v z
  there : in_memory s.memory at n ≡ true → z ≡ record { memory = stored s.memory at n v; registers = s.registers } → Stored s at n v z

ruled_store : (r : Ruling) (a n v : ℕ) (s : State) (e : Entry) → Stored s (physical e a) n v (ruled r ToWrite a n v s e).1
unfolding ruled touched
ruled_store DomainDenied a n v s e = nowhere refl
ruled_store PermissionDenied a n v s e = nowhere refl
ruled_store Allowed a n v s e = go (in_memory s.memory (physical e a) n) refl
  where
    go : (b : Bool) → in_memory s.memory (physical e a) n ≡ b → Stored s (physical e a) n v (cond b (touched ToWrite (physical e a) n v s) (fault 0x8, s)).1
    go true p = there p refl
    go false p = nowhere refl

access_store : (o : Operation) (s : State) (f : ℕ → Translation) (e : Entry) → f o.a ≡ found e →
    Stored s (physical e o.a) (access_size o) o.c (access ToWrite o s f).1
unfolding access translated
access_store o s f e q = go (aligned o.a (access_size o))
  where
    go : (b : Bool) → Stored s (physical e o.a) (access_size o) o.c (cond b (translated ToWrite o.a (access_size o) o.c s (f o.a)) (fault 0x1, s)).1
    go true = subst (λ (x : Translation). Stored s (physical e o.a) (access_size o) o.c (translated ToWrite o.a (access_size o) o.c s x).1) (sym q) (ruled_store _ o.a (access_size o) o.c s e)
    go false = nowhere refl

write_store : (o : Operation) (s : State) (e : Entry) → o.kind ≡ Write → outcome s o.a ≡ found e → Stored s (physical e o.a) o.b o.c (carried_out o s).1
unfolding carried_out effect
write_store o s e k q =
    subst (λ (x : Kind). Stored s (physical e o.a) o.b o.c (effect x o s (outcome s)).1) (sym k)
    (subst (λ n. Stored s (physical e o.a) n o.c (access ToWrite o s (outcome s)).1) size (access_store o s (outcome s) e q))
  where
    size : access_size o ≡ o.b
    size = unfold access_size among in ap (λ (x : Kind). cond (among x (Fetch ∷ [])) 4 o.b) k

-- a page of the window lies in one of its MiB
page_in_window : (w p : ℕ) → p < row_size w → p * page_size / section_size < window_words w
unfolding row_size window_words address_limit
page_in_window w p h = omega (arith, h)

-- a store that touches no used byte leaves the track
untouched_leaves : (s : State) (t : List ℕ) → Noted old_window s t → (o : Operation) (e : Entry) → o.kind ≡ Write → walk s.memory s.registers.root o.a ≡ found e →
    Untouched old_window s.memory s.registers.root (physical e o.a) o.b → (after (call_at s t o)).track ≡ t
untouched_leaves s t n o e k q apart =
    walks_leave s t n o (λ r. by (left r) (write_store o s e k (unfold outcome in q))) (λ u page. ap (λ (x : Kind). flushes x o u page) k ∙ (unfold flushes in refl))
  where
    left : is_refused (shown (after (call_at s t o)).answer) ≡ false → state_of (after (call_at s t o)) ≡ (carried_out o s).1
    left r = ap (λ (z : Result × State). z.1) (plain (call_at s t o) (not_given (call_at s t o) r))

    inside : (at size b : ℕ) → in_memory s.memory at size ≡ true → Among at size b → b < length s.memory
    inside at size b p i =
        let l : b < at + size = i.before in
        let h : at + size ≤ length s.memory = leb-true (at + size) (length s.memory) (unfold in_memory in p) in
        omega (arith, l, h)

    same : in_memory s.memory (physical e o.a) o.b ≡ true → (p : ℕ) → p < row_size old_window →
        walk (stored s.memory (physical e o.a) o.b o.c) s.registers.root (p * page_size) ≡ walk s.memory s.registers.root (p * page_size)
    same i p h = same_walk s.memory (physical e o.a) o.b o.c s.registers.root (p * page_size)
        (λ b among within serves. apart b among (record { mib = p * page_size / section_size; in_window = page_in_window old_window p h; serves = serves; inside = within }))

    by : state_of (after (call_at s t o)) ≡ (carried_out o s).1 → Stored s (physical e o.a) o.b o.c (carried_out o s).1 →
        SameWalks s t n o × ((after (call_at s t o)).registers.context ≡ s.registers.context)
    by l (nowhere z) = (λ p h. ap (λ (x : State). walk x.memory x.registers.root (p * page_size)) (l ∙ z), ap (λ (x : State). x.registers.context) (l ∙ z))
    by l (there i z) = (λ p h. ap (λ (x : State). walk x.memory x.registers.root (p * page_size)) (l ∙ z) ∙ same i p h, ap (λ (x : State). x.registers.context) (l ∙ z))

same_run : (x : After) (os : List Operation) → Noted old_window (state_of x) x.track → checker_run run_checker x os ≡ checker_run checker x os
unfolding checker_run
same_run x [] n = refl
same_run x (o ∷ os) n =
    let step = step_same o x.registers x.memory x.track n in
    ap (λ y. y ∷ checker_run run_checker y os) step
    ∙ ap (λ ys. next checker o x ∷ ys) (same_run (next checker o x) os (noted_next (state_of x) x.track o n))

pub same_runs : SameRuns
same_runs = record {
  alike = alike;
  noted = λ x acc. settled old_window (reached x).registers (reached x).memory (reached x).track (noted_at_end x acc);
  untouched = λ x acc o e k q apart. untouched_leaves (state_of (reached x)) (reached x).track (noted_at_end x acc) o e k q apart;
  quiet_store = λ x acc o p k e q. store_leaves o (reached x).registers (reached x).memory (reached x).track p (noted_at_end x acc) k e q;
  leaves = λ x acc o em er ec nothing. leaves_track (state_of (reached x)) (reached x).track (noted_at_end x acc) o em er ec nothing;
  step = λ x acc o. step_same o (reached x).registers (reached x).memory (reached x).track (noted_at_end x acc);
  run = λ x acc. same_run (begun checker x) x.operations (noted_start x.image x.track x.setting acc);
}
