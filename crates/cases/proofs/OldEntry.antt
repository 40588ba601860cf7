-- What the witnesses share: 16 is said, so some TLB could hold another entry; and where a page has had but one entry, in one context,
-- whatever a TLB holds of it is that one.
use Prim.Native.Nat.{ℕ, suc, ◌*◌, ◌/◌}
use mathlib.Core.Path.{◌≡◌, sym, ap, ◌∙◌, subst}
use mathlib.Core.Bool.{Bool, true, false, true≢false}
use mathlib.Core.Option.{Option, none}
use mathlib.Core.List.{List, [], ◌∷◌, map}
use lib.Dec.{eqb}
use lib.ListN.{replicate}
use borrow.Author.Tests.{eqb-true}
use Rattle.tlb.specs.Places.{Within}
use Rattle.tlb.proofs.PlaceLaws.{within_none, within_flushed}
use Rattle.model.specs.Limits.{page_size}
use Rattle.model.specs.Numbers.{Result, fault, refused, shown}
use Rattle.model.specs.reference.Rules.{found, failed, State, fresh, outcome, plain_step, covers, Held, held_scope, matches, Move, flush_place, chip_step}
use Rattle.model.specs.reference.Runs.{last, next, plain_run, Moment, chip_start, chip_next, chip_run, chip_seen}
use Rattle.model.specs.Invisible.{Session, Accepted, told_of, chip_start_of, plain_end, at_end, aligned_access, CouldDiffer, checker}
use Rattle.model.specs.declared.Operation.{Operation}
use Rattle.model.specs.declared.Entry.{Entry}
use Rattle.model.proofs.BoolLaws.{and_both}
use Rattle.model.proofs.Chips.{held, named, flush_leaves}
use Rattle.model.proofs.ThirdDemand.{holds_within, invisible}
use Rattle.model.proofs.Refuted.{moves_all}

same_number : (r : ℕ) → ◌≡◌ {A = Result} (refused 16) (refused r) → r ≡ 16
same_number r q = cc

-- by the second half, an aligned access that is refused as stale is one for which some TLB could hold another entry
pub could_differ : (x : Session) → Accepted checker x → (o : Operation) → aligned_access o ≡ true →
    shown (next checker o (at_end checker x)).answer ≡ refused 16 → CouldDiffer checker x o
could_differ x acc o a q = (invisible.exactly.stale x acc o a (λ r e. same_number r (sym q ∙ e))).0 q

found_same : (x e : Entry) → found x ≡ found e → e ≡ x
found_same x e q = cc

pub failed_found : (n : ℕ) (e : Entry) → failed n ≡ found e → ⊥
failed_found n e q = let z : ◌≡◌ {A = Bool} true false = cc in true≢false z

pub fault_refused : (n r : ℕ) → ◌≡◌ {A = Result} (fault n) (refused r) → ⊥
fault_refused n r q = let z : ◌≡◌ {A = Bool} true false = cc in true≢false z

first_same : {A : Type 0} (x y : A) (xs ys : List A) → x ∷ xs ≡ y ∷ ys → x ≡ y
first_same x y xs ys q = cc

rest_same : {A : Type 0} (x y : A) (xs ys : List A) → x ∷ xs ≡ y ∷ ys → xs ≡ ys
rest_same x y xs ys q = cc

-- one page, with the only entry that it has had, and the context that was then current
module _ (context page : ℕ) (old : Entry) where
  -- what the tables give the page: that entry in that context, or none
  pub data GivesOld (s : State) : Type 0 where
    still : outcome s (page * page_size) ≡ found old → s.registers.context ≡ context → GivesOld s
    gone : (n : ℕ) → outcome s (page * page_size) ≡ failed n → GivesOld s

  -- they do so at first, and after each operation of the plain machine
  unfoldable pub Throughout : State → List (Operation × Bool) → Type 0
  Throughout s [] = GivesOld s
  Throughout s (x ∷ xs) = GivesOld s × Throughout (plain_step x.0 x.1 s).1 xs

  at_first : (s : State) (l : List (Operation × Bool)) → Throughout s l → GivesOld s
  unfolding Throughout
  at_first s [] t = t
  at_first s (x ∷ xs) t = t.0

  -- of the page only the old entry
  OldOnly : Held → Type 0
  OldOnly h = h.page ≡ page → h ≡ held context page old

  -- what a load brings
  loads : (s : State) → GivesOld s → (p : ℕ) (e : Entry) → outcome s (p * page_size) ≡ found e → OldOnly (held s.registers.context p e)
  unfolding OldOnly
  loads s (still q k) p e r is =
      let same : e ≡ old = found_same old e (sym q ∙ ap (λ n. outcome s (n * page_size)) (sym is) ∙ r) in
      λ i. held (k i) (is i) (same i)
  loads s (gone n q) p e r is = absurd (failed_found n e (sym q ∙ ap (λ m. outcome s (m * page_size)) (sym is) ∙ r))

  -- what is held after an operation and moves
  held_next : (x : Moment) (o : Operation) (b : Bool) (ms : List Move) → GivesOld (chip_next x o b ms).state →
      ((h : Held) → Within h x.held → OldOnly h) → (h : Held) → Within h (chip_next x o b ms).held → OldOnly h
  unfolding chip_next chip_step
  held_next x o true ms g a = moves_all OldOnly x.state (loads x.state g) x.held ms a
  held_next x o false ms g a =
      moves_all OldOnly _ (loads _ g) (map (flush_place o) x.held) ms
      (λ h w. a h (within_flushed (flush_place o) (named o) (flush_leaves o) h x.held w).0)

  -- and after a run in which the chip goes through the states of the plain machine
  held_run : (x : Moment) (s : State) (l : List (Operation × Bool)) (script : ℕ → List Move) →
      map chip_seen (chip_run x l script) ≡ plain_run s l → Throughout s l →
      ((h : Held) → Within h x.held → OldOnly h) → (h : Held) → Within h (last x (chip_run x l script)).held → OldOnly h
  unfolding last chip_run plain_run chip_seen Throughout
  held_run x s [] script q t a = a
  held_run x s (y ∷ ys) script q t a =
      let z : Moment = chip_next x y.0 y.1 (script 0) in
      let same = first_same (chip_seen z) (plain_step y.0 y.1 s) _ _ q in
      held_run z (plain_step y.0 y.1 s).1 ys (λ i. script (suc i)) (rest_same (chip_seen z) (plain_step y.0 y.1 s) _ _ q) t.1
      (held_next x y.0 y.1 (script 0)
      (subst GivesOld (sym (ap (λ (w : Option Result × State). w.1) same)) (at_first (plain_step y.0 y.1 s).1 ys t.1)) a)

  held_start : (n : ℕ) (s : State) (first : List Move) → GivesOld s → (h : Held) → Within h (chip_start n s first).held → OldOnly h
  unfolding chip_start
  held_start n s first g = moves_all OldOnly s (loads s g) (replicate n none) first (λ k w. absurd (within_none k n w))

  -- So what a TLB could hold that matches the page, after such a list, is the old entry, loaded in its context.
  pub only_old : (x : Session) → Accepted checker x → (o : Operation) → o.a / page_size ≡ page →
      Throughout (fresh x.image x.setting) (told_of checker x) → (y : CouldDiffer checker x o) → y.held ≡ held context page old
  unfolding OldOnly matches
  only_old x acc o is t y =
      let s : State = fresh x.image x.setting in
      let start : Moment = chip_start_of x (suc y.places) y.first in
      held_run start s (told_of checker x) y.script
      (invisible.same.chip x acc y.places y.first y.script ∙ sym (invisible.same.plain x acc)) t
      (held_start (suc y.places) s y.first (at_first s (told_of checker x) t)) y.held (holds_within y.held _ y.holds)
      (eqb-true y.held.page (o.a / page_size) (and_both (covers (held_scope y.held) (plain_end checker x).registers.context) (eqb y.held.page (o.a / page_size)) y.matching).1
      ∙ is)
