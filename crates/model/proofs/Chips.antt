-- The chip of the reference is a TLB of the theory, and the theorems that pin it.
use Prim.Native.Nat.{ℕ, zero, suc, ◌*◌}
use mathlib.Core.Path.{◌≡◌, refl, sym, ap, ap₂, ◌∙◌}
use mathlib.Core.Logic.{◌⊎◌, inl, inr}
use mathlib.Core.Bool.{Bool, true, false, cond, ◌&&◌, true≢false}
use mathlib.Core.Option.{Option, none, some}
use mathlib.Core.List.{[], ◌∷◌, map}
use lib.Dec.{eqb, ltb}
use lib.ListN.{get_or, set, replicate}
use Rattle.tlb.specs.Machine.{entry}
use Rattle.tlb.specs.Laws.{Tlb}
use Rattle.tlb.specs.Places.{Within}
use Rattle.tlb.proofs.PlaceLaws.{none_some, some_same, within_none, within_dropped, within_put, within_flushed, within_kept, map_none}
use Rattle.model.specs.Limits.{page_size, old_window, row_size}
use Rattle.model.specs.reference.Rules.{Translation, found, failed, State, outcome, Scope, scope_of, covers, flushes, Held, Places, held_scope, matches, held_for, any_clash, Move, drop, load, is_free, put_in, move, or_walk, flush_place}
use Rattle.model.specs.Types.{Operation, Entry}
use Rattle.model.proofs.Instance.{as_walk, walk_of, tables, tlb_of}

-- an entry held under a context and a page
abbrev pub held : ℕ → ℕ → Entry → Held
held c p e = record { context = c; page = p; entry = e }

-- something held of a scope and a page, with this entry
pub record HoldsIn (u : Scope × ℕ) (e : Entry) (ps : Places) : Type 0 where
  pub thing : Held
  pub inside : Within thing ps
  pub scope_is : held_scope thing ≡ u.0
  pub page_is : thing.page ≡ u.1
  pub entry_is : thing.entry ≡ e

-- ── What is held after a move ──

pub free_none : {A : Type 0} (x : Option A) → is_free x ≡ true → x ≡ none
unfolding is_free
free_none none p = refl
free_none (some x) p = absurd (true≢false (sym p))

put_holds : (i c p : ℕ) (x : Translation) (ps : Places) (h : Held) → Within h (put_in i c p x ps) →
    Within h ps ⊎ ((e : Entry) × (x ≡ found e) × (held c p e ≡ h))
unfolding put_in
put_holds i c p (found e) ps h y = by (any_clash (held c p e) ps) y
  where
    go : (held c p e ≡ h) ⊎ Within h ps → Within h ps ⊎ ((x : Entry) × (found e ≡ found x) × (held c p x ≡ h))
    go (inl q) = inr (e, refl, q)
    go (inr w) = inl w

    by : (b : Bool) → Within h (cond b ps (set ps i (some (held c p e)))) → Within h ps ⊎ ((x : Entry) × (found e ≡ found x) × (held c p x ≡ h))
    by true w = inl w
    by false w = go (within_put h (held c p e) i ps w)
put_holds i c p (failed n) ps h y = inl y

-- what a load brings: an entry that the tables now give for a page of the window, under the current context
pub load_brings : (s : State) (ps : Places) (i page : ℕ) (h : Held) → Within h (move s ps (load i page)) →
    Within h ps ⊎ ((e : Entry) × (ltb page (row_size old_window) ≡ true) × (outcome s (page * page_size) ≡ found e) × (held s.registers.context page e ≡ h))
unfolding move
load_brings s ps i page h y = go (is_free (get_or ps i none)) (ltb page (row_size old_window)) refl y
  where
    go : (a b : Bool) → ltb page (row_size old_window) ≡ b →
        Within h (cond (a && b) (put_in i s.registers.context page (outcome s (page * page_size)) ps) ps) →
        Within h ps ⊎ ((e : Entry) × (ltb page (row_size old_window) ≡ true) × (outcome s (page * page_size) ≡ found e) × (held s.registers.context page e ≡ h))
    go true true q w = at (put_holds i s.registers.context page (outcome s (page * page_size)) ps h w)
      where
        at : Within h ps ⊎ ((e : Entry) × (outcome s (page * page_size) ≡ found e) × (held s.registers.context page e ≡ h)) →
            Within h ps ⊎ ((e : Entry) × (ltb page (row_size old_window) ≡ true) × (outcome s (page * page_size) ≡ found e) × (held s.registers.context page e ≡ h))
        at (inl z) = inl z
        at (inr z) = inr (z.0, q, z.1, z.2)
    go true false q w = inl w
    go false b q w = inl w

-- the same thing held, of other places
elsewhere : (u : Scope × ℕ) (e : Entry) (ps qs : Places) (y : HoldsIn u e ps) → Within y.thing qs → HoldsIn u e qs
elsewhere u e ps qs y w = record { thing = y.thing; inside = w; scope_is = y.scope_is; page_is = y.page_is; entry_is = y.entry_is }

move_holds_lem : (s : State) (ps : Places) (m : Move) (u : Scope × ℕ) (e : Entry) → HoldsIn u e (move s ps m) →
    HoldsIn u e ps ⊎ ((page : ℕ) × (ltb page (row_size old_window) ≡ true) × (walk_of s page ≡ entry e) × (◌≡◌ {A = Scope × ℕ} (scope_of s.registers.context e, page) u))
unfolding walk_of held_scope
move_holds_lem s ps (drop i) u e y = inl (elsewhere u e _ ps y (within_dropped y.thing i ps (unfold move in y.inside)))
move_holds_lem s ps (load i page) u e y = go (load_brings s ps i page y.thing y.inside)
  where
    go : Within y.thing ps ⊎ ((x : Entry) × (ltb page (row_size old_window) ≡ true) × (outcome s (page * page_size) ≡ found x) × (held s.registers.context page x ≡ y.thing)) →
        HoldsIn u e ps ⊎ ((k : ℕ) × (ltb k (row_size old_window) ≡ true) × (as_walk (outcome s (k * page_size)) ≡ entry e) × (◌≡◌ {A = Scope × ℕ} (scope_of s.registers.context e, k) u))
    go (inl w) = inl (elsewhere u e _ ps y w)
    go (inr z) =
        let q = z.3 in
        let same : z.0 ≡ e = ap (λ (h : Held). h.entry) q ∙ y.entry_is in
        let scope : scope_of s.registers.context z.0 ≡ u.0 = ap held_scope q ∙ y.scope_is in
        let page-at : page ≡ u.1 = ap (λ (h : Held). h.page) q ∙ y.page_is in
        inr (page, z.1, ap as_walk z.2 ∙ ap entry same, λ i. ((ap (scope_of s.registers.context) (sym same) ∙ scope) i, page-at i))

-- ── What is held after a flush ──

-- whether a flush names what is held
abbrev pub named : Operation → Held → Bool
named o h = flushes o.kind o (held_scope h) h.page

pub flush_leaves : (o : Operation) (p : Option Held) (h : Held) → flush_place o p ≡ some h → (p ≡ some h) × (named o h ≡ false)
unfolding flush_place
flush_leaves o none h q = absurd (none_some h q)
flush_leaves o (some x) h q = go (named o x) refl q
  where
    go : (b : Bool) → named o x ≡ b → cond b none (some x) ≡ some h → (some x ≡ some h) × (named o h ≡ false)
    go true e r = absurd (none_some h r)
    go false e r = (r, ap (named o) (sym (some_same x h r)) ∙ e)

flush_keeps : (o : Operation) (h : Held) → named o h ≡ false → flush_place o (some h) ≡ some h
unfolding flush_place
flush_keeps o h q = rw q

-- what a flush names is told by scope and page
named_by : (o : Operation) (u : Scope × ℕ) (e : Entry) (ps : Places) (y : HoldsIn u e ps) → named o y.thing ≡ flushes o.kind o u.0 u.1
named_by o u e ps y = ap₂ (flushes o.kind o) y.scope_is y.page_is

flushed_holds : (o : Operation) (ps : Places) (u : Scope × ℕ) (e : Entry) → HoldsIn u e (map (flush_place o) ps) → HoldsIn u e ps × (flushes o.kind o u.0 u.1 ≡ false)
flushed_holds o ps u e y =
    let z = within_flushed (flush_place o) (named o) (flush_leaves o) y.thing ps y.inside in
    (elsewhere u e _ ps y z.0, sym (named_by o u e _ y) ∙ z.1)

kept_holds : (o : Operation) (ps : Places) (u : Scope × ℕ) (e : Entry) → HoldsIn u e ps → flushes o.kind o u.0 u.1 ≡ false → HoldsIn u e (map (flush_place o) ps)
kept_holds o ps u e y q =
    elsewhere u e ps _ y (within_kept (flush_place o) (named o) (flush_keeps o) y.thing ps y.inside (named_by o u e ps y ∙ q))

-- ── How a page is translated ──

-- the first that matches a page in a context is held
held_for_lem : (c p : ℕ) (ps : Places) (e : Entry) → held_for c p ps ≡ some e → (h : Held) × Within h ps × (matches h c p ≡ true) × (h.entry ≡ e)
unfolding held_for Within
held_for_lem c p [] e q = absurd (none_some e q)
held_for_lem c p (none ∷ ps) e q = let y = held_for_lem c p ps e q in (y.0, inr y.1, y.2, y.3)
held_for_lem c p (some x ∷ ps) e q = go (matches x c p) refl q (held_for_lem c p ps e)
  where
    go : (b : Bool) → matches x c p ≡ b → cond b (some x.entry) (held_for c p ps) ≡ some e →
        (held_for c p ps ≡ some e → (h : Held) × Within h ps × (matches h c p ≡ true) × (h.entry ≡ e)) →
        (h : Held) × ((some x ≡ some h) ⊎ Within h ps) × (matches h c p ≡ true) × (h.entry ≡ e)
    go true a r rest = (x, inl refl, a, some_same x.entry e r)
    go false a r rest = let y = rest r in (y.0, inr y.1, y.2, y.3)

through_held_lem : (s : State) (ps : Places) (page : ℕ) →
    (as_walk (or_walk (held_for s.registers.context page ps) (outcome s (page * page_size))) ≡ walk_of s page)
    ⊎ ((u : Scope × ℕ) × (e : Entry) × HoldsIn u e ps × ((covers u.0 s.registers.context && eqb u.1 page) ≡ true)
    × (as_walk (or_walk (held_for s.registers.context page ps) (outcome s (page * page_size))) ≡ entry e))
unfolding walk_of or_walk matches
through_held_lem s ps page = go (held_for s.registers.context page ps) refl
  where
    c : ℕ
    c = s.registers.context

    go : (x : Option Entry) → held_for c page ps ≡ x →
        (as_walk (or_walk x (outcome s (page * page_size))) ≡ as_walk (outcome s (page * page_size)))
        ⊎ ((u : Scope × ℕ) × (e : Entry) × HoldsIn u e ps × ((covers u.0 c && eqb u.1 page) ≡ true) × (as_walk (or_walk x (outcome s (page * page_size))) ≡ entry e))
    go none q = inl refl
    go (some e) q =
        let y = held_for_lem c page ps e q in
        inr ((held_scope y.0, y.0.page), e, record { thing = y.0; inside = y.1; scope_is = refl; page_is = refl; entry_is = y.3 }, y.2, refl)

-- ── A page loaded by an empty TLB ──

none_clash : (h : Held) (n : ℕ) → any_clash h (replicate n none) ≡ false
unfolding any_clash
none_clash h zero = refl
none_clash h (suc n) = none_clash h n

loads_empty : (n : ℕ) (s : State) (page : ℕ) (e : Entry) → ltb page (row_size old_window) ≡ true → walk_of s page ≡ entry e →
    (m : Move) × HoldsIn (scope_of s.registers.context e, page) e (move s (replicate (suc n) none) m)
unfolding walk_of held_scope
loads_empty n s page e h w =
    (load 0 page, record { thing = held s.registers.context page e; inside = go; scope_is = refl; page_is = refl; entry_is = refl })
  where
    is_found : (x : Translation) → as_walk x ≡ entry e → x ≡ found e
    is_found (found y) q = ap found (let z : y ≡ e = cc in z)
    is_found (failed k) q = absurd (let z : ◌≡◌ {A = Bool} true false = cc in true≢false z)

    go : Within (held s.registers.context page e) (move s (replicate (suc n) none) (load 0 page))
    go = unfold move is_free put_in in
        rw (h, is_found (outcome s (page * page_size)) w, none_clash (held s.registers.context page e) (suc n)) (unfold Within in inl refl)

pub tlb_laws : (n : ℕ) → Tlb tables (tlb_of n) HoldsIn
tlb_laws n = record {
  empty_holds = λ u e y. within_none y.thing (suc n) y.inside;
  move_holds = move_holds_lem;
  obey_holds = flushed_holds;
  through_held = through_held_lem;
  loads = loads_empty n;
  obey_keeps = kept_holds;
  obey_empty = λ o. map_none (flush_place o) (unfold flush_place in refl) (suc n);
}
