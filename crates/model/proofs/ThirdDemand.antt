-- The third demand, proved of the step through the theory of TLBs.
use Prim.Native.Nat.{ℕ, suc, ◌*◌, ◌/◌}
use mathlib.Core.Path.{◌≡◌, refl, sym, ap, ap₂, ◌∙◌, subst, subst₃, fun_ext}
use mathlib.Core.Logic.{◌↔◌, inl, inr}
use mathlib.Core.Bool.{Bool, true, false, cond, ◌&&◌, true≢false}
use mathlib.Core.Option.{Option, none, some}
use mathlib.Core.List.{List, [], ◌∷◌, map}
use lib.Dec.{eqb}
use lib.ListN.{replicate}
use Rattle.tlb.specs.Machine.{entry}
use Rattle.tlb.specs.Chip.{plain, chip_step as step_of, held_after, moves as moves_of, held_next, trace, held_at_end}
use Rattle.tlb.specs.Tracker.{refused as refusedBy, answer, is_refused as isRefusedReply, told as toldBy, own_trace, end_state, end_track, CanDiffer}
use Rattle.tlb.specs.Places.{Within}
use Rattle.tlb.proofs.Agree.{agrees, plain_sound}
use Rattle.tlb.proofs.TlbSound.{tlb_sound}
use Rattle.tlb.proofs.Exact.{exact}
use Rattle.model.specs.Limits.{page_size}
use Rattle.model.specs.Numbers.{Result, ok, fault, refused, shown}
use Rattle.model.specs.reference.Rules.{Translation, found, failed, State, fresh, effect, outcome, plain_step, Scope, covers, Held, Places, held_scope, matches, held_for, Move, move, moves, or_walk, chip_outcome, flush_place, chip_step}
use Rattle.model.specs.reference.Runs.{last, next, checker_run, is_refused, seen, told, plain_run, Moment, chip_start, chip_next, chip_run, chip_seen, Holds}
use Rattle.model.specs.step.Machine.{After}
use Rattle.model.specs.Invisible.{Session, begun, Accepted, checker_run_of, told_of, plain_run_of, chip_start_of, chip_run_of, Same, at_end, plain_end, aligned_access, CouldDiffer, Exactly, Invisible, checker}
use Rattle.model.specs.Types.{Operation, Entry}
use Rattle.model.proofs.Instance.{as_walk, of_walk, of_as, page_of, walk_of, carry_of, tables, reply_of, state_of, call_of, checker as theory, tlb_of, outcome_page, carry_plain, access_parts}
use Rattle.model.proofs.Kept.{begins, carries, keeps}
use Rattle.model.proofs.Moves.{moves_in_turn}
use Rattle.model.proofs.Chips.{HoldsIn, tlb_laws}

-- ── The checker's run ──

refused_same : (x : Result) → isRefusedReply (reply_of x) ≡ is_refused x
unfolding isRefusedReply is_refused
refused_same (ok v) = refl
refused_same (fault n) = refl
refused_same (refused r) = refl

answer_same : (x : Result) → answer (reply_of x) ≡ cond (is_refused x) none (some x)
unfolding answer is_refused
answer_same (ok v) = refl
answer_same (fault n) = refl
answer_same (refused r) = refl

told_same : (x : After) (os : List Operation) → toldBy tables theory (state_of x) x.track os ≡ told checker x os
unfolding toldBy told
told_same x [] = refl
told_same x (o ∷ os) = λ i. (o, refused_same (shown (next checker o x).answer) i) ∷ told_same (next checker o x) os i

own_same : (x : After) (os : List Operation) → own_trace tables theory (state_of x) x.track os ≡ map seen (checker_run checker x os)
unfolding own_trace checker_run seen
own_same x [] = refl
own_same x (o ∷ os) = λ i. (answer_same (shown (next checker o x).answer) i, state_of (next checker o x)) ∷ own_same (next checker o x) os i

end_state_lem : (x : After) (os : List Operation) → end_state tables theory (state_of x) x.track os ≡ state_of (last x (checker_run checker x os))
unfolding end_state checker_run last
end_state_lem x [] = refl
end_state_lem x (o ∷ os) = end_state_lem (next checker o x) os

end_track_lem : (x : After) (os : List Operation) → end_track tables theory (state_of x) x.track os ≡ (last x (checker_run checker x os)).track
unfolding end_track checker_run last
end_track_lem x [] = refl
end_track_lem x (o ∷ os) = end_track_lem (next checker o x) os

-- ── The plain machine's run ──

plain_step_lem : (o : Operation) (b : Bool) (s : State) → step_of tables (plain tables) s tt o b ≡ plain_step o b s
unfolding step_of plain_step
plain_step_lem o true s = refl
plain_step_lem o false s = λ i. (some (carry_plain s o i).0, (carry_plain s o i).1)

plain_trace : (s : State) (xs : List (Operation × Bool)) → trace tables (plain tables) s tt xs (λ i. []) ≡ plain_run s xs
unfolding trace plain_run
plain_trace s [] = refl
plain_trace s (x ∷ xs) =
    ap₂ ◌∷◌ (plain_step_lem x.0 x.1 s)
    (ap (λ (y : Option Result × State). trace tables (plain tables) y.1 tt xs (λ i. [])) (plain_step_lem x.0 x.1 s)
    ∙ plain_trace (plain_step x.0 x.1 s).1 xs)

-- ── The chip's run ──

moves_same : (n : ℕ) (s : State) (ps : Places) (ms : List Move) → moves_of tables (tlb_of n) s ps ms ≡ moves s ps ms
unfolding moves_of moves
moves_same n s ps [] = refl
moves_same n s ps (m ∷ ms) = moves_same n s (move s ps m) ms ∙ sym (moves_in_turn s ps (m ∷ []) ms)

through_same : (s : State) (ps : Places) (a : ℕ) →
    of_walk (as_walk (or_walk (held_for s.registers.context (a / page_size) ps) (outcome s (a / page_size * page_size)))) ≡ chip_outcome s ps a
unfolding chip_outcome
through_same s ps a =
    of_as (or_walk (held_for s.registers.context (a / page_size) ps) (outcome s (a / page_size * page_size)))
    ∙ ap (or_walk (held_for s.registers.context (a / page_size) ps)) (outcome_page s a)

carry_chip : (n : ℕ) (s : State) (ps : Places) (o : Operation) → carry_of s o ((tlb_of n).through s ps) ≡ effect o.kind o s (chip_outcome s ps)
unfolding carry_of
carry_chip n s ps o = ap (effect o.kind o s) (fun_ext (λ a. through_same s ps a))

chip_step_lem : (n : ℕ) (o : Operation) (b : Bool) (s : State) (ps : Places) →
    ◌≡◌ {A = Option Result × State × Places}
    ((step_of tables (tlb_of n) s ps o b).0, (step_of tables (tlb_of n) s ps o b).1, held_after tables (tlb_of n) ps o b) (chip_step o b s ps)
unfolding step_of held_after chip_step
chip_step_lem n o true s ps = refl
chip_step_lem n o false s ps = λ i. (some (carry_chip n s ps o i).0, (carry_chip n s ps o i).1, map (flush_place o) ps)

-- one operation and the moves that follow it
chip_next_lem : (n : ℕ) (x : Moment) (o : Operation) (b : Bool) (ms : List Move) →
    ((chip_next x o b ms).answer ≡ (step_of tables (tlb_of n) x.state x.held o b).0)
    × ((chip_next x o b ms).state ≡ (step_of tables (tlb_of n) x.state x.held o b).1)
    × ((chip_next x o b ms).held ≡ held_next tables (tlb_of n) x.state x.held o b ms)
unfolding chip_next held_next
chip_next_lem n x o b ms =
    let e = chip_step_lem n o b x.state x.held in (
      ap (λ (y : Option Result × State × Places). y.0) (sym e),
      ap (λ (y : Option Result × State × Places). y.1) (sym e),
      ap (λ (y : Option Result × State × Places). moves y.1 y.2 ms) (sym e) ∙ sym (moves_same n _ _ ms),
    )

chip_trace : (n : ℕ) (x : Moment) (ys : List (Operation × Bool)) (script : ℕ → List Move) →
    trace tables (tlb_of n) x.state x.held ys script ≡ map chip_seen (chip_run x ys script)
unfolding trace chip_run chip_seen
chip_trace n x [] script = refl
chip_trace n x (y ∷ ys) script =
    let e = chip_next_lem n x y.0 y.1 (script 0) in
    ap₂ ◌∷◌ (λ i. (sym e.0 i, sym e.1 i))
    (ap₂ (λ (s : State) (h : Places). trace tables (tlb_of n) s h ys (λ i. script (suc i))) (sym e.1) (sym e.2)
    ∙ chip_trace n (chip_next x y.0 y.1 (script 0)) ys (λ i. script (suc i)))

chip_end : (n : ℕ) (x : Moment) (ys : List (Operation × Bool)) (script : ℕ → List Move) →
    held_at_end tables (tlb_of n) x.state x.held ys script ≡ (last x (chip_run x ys script)).held
unfolding held_at_end chip_run last
chip_end n x [] script = refl
chip_end n x (y ∷ ys) script =
    let e = chip_next_lem n x y.0 y.1 (script 0) in
    ap₂ (λ (s : State) (h : Places). held_at_end tables (tlb_of n) s h ys (λ i. script (suc i))) (sym e.1) (sym e.2)
    ∙ chip_end n (chip_next x y.0 y.1 (script 0)) ys (λ i. script (suc i))

start_held : (n : ℕ) (s : State) (first : List Move) → moves_of tables (tlb_of n) s (replicate (suc n) none) first ≡ (chip_start (suc n) s first).held
unfolding chip_start
start_held n s first = moves_same n s (replicate (suc n) none) first

-- ── The first half ──

pub same_begins : (x : Session) → Accepted checker x → state_of (begun checker x) ≡ fresh x.image x.setting
same_begins x acc = begins x.image x.track x.setting acc

same_plain : (x : Session) → Accepted checker x → plain_run_of checker x ≡ map seen (checker_run_of checker x)
unfolding moves_of
same_plain x acc =
    sym (plain_trace (fresh x.image x.setting) (told_of checker x))
    ∙ ap (λ l. trace tables (plain tables) (fresh x.image x.setting) tt l (λ i. [])) (sym (told_same (begun checker x) x.operations))
    ∙ agrees tables theory carries (plain tables) (plain_sound tables theory carries) (x.image, x.setting) x.track acc x.operations [] (λ i. [])
    ∙ own_same (begun checker x) x.operations

pub same_chip : (x : Session) → Accepted checker x → (n : ℕ) (first : List Move) (script : ℕ → List Move) →
    map chip_seen (chip_run_of checker x (suc n) first script) ≡ map seen (checker_run_of checker x)
unfolding chip_start
same_chip x acc n first script =
    sym (chip_trace n (chip_start_of x (suc n) first) (told_of checker x) script)
    ∙ ap₂ (λ (h : Places) l. trace tables (tlb_of n) (chip_start_of x (suc n) first).state h l script) (sym (start_held n (fresh x.image x.setting) first)) (sym (told_same (begun checker x) x.operations))
    ∙ agrees tables theory carries (tlb_of n) (tlb_sound tables theory carries 16 keeps (tlb_of n) HoldsIn (tlb_laws n)) (x.image, x.setting) x.track acc x.operations first script
    ∙ own_same (begun checker x) x.operations

pub same : Same checker
same = record { begins = same_begins; plain = same_plain; chip = same_chip }

-- ── The second half ──

-- a place that holds an entry, in the theory's words and in the reference's
pub holds_within : (h : Held) (ps : Places) → Holds h ps → Within h ps
unfolding Holds Within
holds_within h [] y = y
holds_within h (x ∷ ps) (inl q) = inl q
holds_within h (x ∷ ps) (inr y) = inr (holds_within h ps y)

pub within_holds : (h : Held) (ps : Places) → Within h ps → Holds h ps
unfolding Holds Within
within_holds h [] y = y
within_holds h (x ∷ ps) (inl q) = inl q
within_holds h (x ∷ ps) (inr y) = inr (within_holds h ps y)

pub last_seen : (x : After) (xs : List After) (o : Option Result) → (last (o, state_of x) (map seen xs)).1 ≡ state_of (last x xs)
unfolding last seen
last_seen x [] o = refl
last_seen x (y ∷ ys) o = last_seen y ys (cond (is_refused (shown y.answer)) none (some (shown y.answer)))

-- the plain machine ends in the checker's state
pub plain_end_lem : (x : Session) → Accepted checker x → plain_end checker x ≡ state_of (at_end checker x)
plain_end_lem x acc =
    ap₂ (λ (s : State) (l : List (Option Result × State)). (last {A = Option Result × State} (none, s) l).1) (sym (same_begins x acc)) (same_plain x acc)
    ∙ last_seen (begun checker x) (checker_run_of checker x) none

-- an aligned access has a page
has_page : (o : Operation) → aligned_access o ≡ true → page_of o ≡ some (o.a / page_size)
unfolding page_of
has_page o p = rw ((access_parts o p).0, (access_parts o p).1)

as_found : (x : Translation) (e : Entry) → as_walk x ≡ entry e → x ≡ found e
as_found (found y) e q = ap found (let z : y ≡ e = cc in z)
as_found (failed k) e q = absurd (let z : ◌≡◌ {A = Bool} true false = cc in true≢false z)

reply_16 : (x : Result) (r : ℕ) → reply_of x ≡ refusedBy r → x ≡ refused r
reply_16 (ok v) r p = absurd (let z : ◌≡◌ {A = Bool} true false = cc in true≢false z)
reply_16 (fault n) r p = absurd (let z : ◌≡◌ {A = Bool} true false = cc in true≢false z)
reply_16 (refused n) r p = ap refused (let z : n ≡ r = cc in z)

-- what a chip holds at the end, in the theory's words and in the reference's
end_held : (x : Session) (n : ℕ) (first : List Move) (script : ℕ → List Move) →
    held_at_end tables (tlb_of n) (fresh x.image x.setting) (moves_of tables (tlb_of n) (fresh x.image x.setting) (replicate (suc n) none) first) (told_of checker x) script
    ≡ (last (chip_start_of x (suc n) first) (chip_run_of checker x (suc n) first script)).held
unfolding chip_start
end_held x n first script =
    ap (λ (h : Places). held_at_end tables (tlb_of n) (fresh x.image x.setting) h (told_of checker x) script) (start_held n (fresh x.image x.setting) first)
    ∙ chip_end n (chip_start_of x (suc n) first) (told_of checker x) script

module _ (x : Session) (acc : Accepted checker x) (o : Operation) where
  abbrev s₁ : State
  s₁ = state_of (at_end checker x)

  abbrev page : ℕ
  page = o.a / page_size

  -- in the theory's words
  abbrev Can : ℕ → Type 0
  Can n = CanDiffer tables (tlb_of n) HoldsIn (x.image, x.setting) (told_of checker x) s₁ page

  page_walk : (e : Entry) → outcome (plain_end checker x) o.a ≡ found e → walk_of s₁ page ≡ entry e
  unfolding walk_of
  page_walk e q = ap as_walk (outcome_page s₁ o.a ∙ ap (λ s. outcome s o.a) (sym (plain_end_lem x acc)) ∙ q)

  walk_page : (e : Entry) → walk_of s₁ page ≡ entry e → outcome (plain_end checker x) o.a ≡ found e
  unfolding walk_of
  walk_page e q = ap (λ s. outcome s o.a) (plain_end_lem x acc) ∙ sym (outcome_page s₁ o.a) ∙ as_found (outcome s₁ (page * page_size)) e q

  -- what a chip of n places holds at the end
  abbrev held_last : ℕ → List Move → (ℕ → List Move) → Places
  held_last n first script = (last (chip_start_of x (suc n) first) (chip_run_of checker x (suc n) first script)).held

  to_reference : (n : ℕ) → Can n → CouldDiffer checker x o
  unfolding matches
  to_reference n y =
      let h : Held = y.holds.thing in
      record {
        places = n;
        first = y.first;
        script = y.after;
        held = h;
        holds = within_holds h (held_last n y.first y.after) (subst (Within h) (end_held x n y.first y.after) y.holds.inside);
        matching = ap₂ (λ (u : Scope) k. covers u (plain_end checker x).registers.context && eqb k page) y.holds.scope_is y.holds.page_is
            ∙ ap (λ (s : State). covers y.tag.0 s.registers.context && eqb y.tag.1 page) (plain_end_lem x acc)
            ∙ y.serving;
        other = λ q. y.differs (page_walk y.entry_held (q ∙ ap found y.holds.entry_is));
      }

  from_reference : CouldDiffer checker x o → (n : ℕ) × Can n
  unfolding matches
  from_reference y = (
    y.places,
    record {
      first = y.first;
      after = y.script;
      tag = (held_scope y.held, y.held.page);
      entry_held = y.held.entry;
      holds = record {
        thing = y.held;
        inside = subst (Within y.held) (sym (end_held x y.places y.first y.script)) (holds_within y.held (held_last y.places y.first y.script) y.holds);
        scope_is = refl;
        page_is = refl;
        entry_is = refl;
      };
      serving = ap (λ (s : State). covers (held_scope y.held) s.registers.context && eqb y.held.page page) (sym (plain_end_lem x acc)) ∙ y.matching;
      differs = λ q. y.other (walk_page y.held.entry q);
    },
  )

  -- the claim of the second half, of a state, a track and what was told
  abbrev Claim : State → List ℕ → List (Operation × Bool) → Type 0
  Claim s t l =
      ((r : ℕ) → reply_of (shown (call_of s t o).answer) ≡ refusedBy r → r ≡ 16) →
      (reply_of (shown (call_of s t o).answer) ≡ refusedBy 16) ↔ ((n : ℕ) × CanDiffer tables (tlb_of n) HoldsIn (x.image, x.setting) l s page)

  -- the theory's second half, of the state and the track at the end
  in_theory : aligned_access o ≡ true → ((r : ℕ) → shown (next checker o (at_end checker x)).answer ≡ refused r → r ≡ 16) →
      (reply_of (shown (next checker o (at_end checker x)).answer) ≡ refusedBy 16) ↔ ((n : ℕ) × Can n)
  in_theory p h =
      subst₃ Claim (end_state_lem (begun checker x) x.operations) (end_track_lem (begun checker x) x.operations) (told_same (begun checker x) x.operations)
      (λ q. exact tables theory carries 16 keeps tlb_of (λ n. HoldsIn) tlb_laws (x.image, x.setting) x.track acc x.operations o page (has_page o p) q)
      (λ r q. h r (reply_16 (shown (next checker o (at_end checker x)).answer) r q))

  stale : aligned_access o ≡ true → ((r : ℕ) → shown (next checker o (at_end checker x)).answer ≡ refused r → r ≡ 16) →
      (shown (next checker o (at_end checker x)).answer ≡ refused 16) ↔ CouldDiffer checker x o
  stale p h = (
    λ q. let z = (in_theory p h).0 (ap reply_of q) in to_reference z.0 z.1,
    λ y. reply_16 (shown (next checker o (at_end checker x)).answer) 16 ((in_theory p h).1 (from_reference y)),
  )

pub exactly : Exactly checker
exactly = record { stale = λ x acc o p h. stale x acc o p h }

-- The third demand.
pub invisible : Invisible checker
invisible = record { same = same; exactly = exactly }
