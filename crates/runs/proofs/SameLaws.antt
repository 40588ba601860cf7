-- On a track that is noted, the step for runs is the full step.
use Prim.Native.Nat.{ℕ, zero, suc, ◌+◌, ◌*◌, ◌-◌, ◌/◌, ◌%◌, ◌≤◌, ◌<◌}
use mathlib.Core.Path.{◌≡◌, refl, sym, ap, ◌∙◌, subst}
use mathlib.Core.Bool.{Bool, true, false, cond, true≢false}
use mathlib.Core.List.{List}
use native.Mathlib.Nat.{mul_comm, zero-mul, not-suc-le-zero, zero-lt-suc, mod-lt, div-add-mod, div-lt_iff_lt-mul}
use native.Mathlib.Omega.{arith}
use lib.Dec.{eqb, ltb}
use lib.ListN.{length, get_or, set, length-set}
use lib.Seq.{ext_get_or, get_or-set_same, get_or-set_other}
use borrow.Author.Tests.{eqb-true, eqb-false, ltb-true, ltb-false}
use Rattle.model.specs.Limits.{page_size, old_window, row_size, address_limit}
use Rattle.model.specs.reference.Rules.{walk, outcome, Scope, own, global, covers, flushes, noted, noted_in, contexts, row_of, has_row, track_word}
use Rattle.model.specs.step.Memory.{bytes_of, within, stored_at, written_at}
use Rattle.model.specs.step.Walk.{walk_page}
use Rattle.model.specs.step.Track.{add_outcome, note_page, note_track, flush_context}
use Rattle.model.specs.step.Checks.{context_fits, first_failing}
use Rattle.model.specs.step.Machine.{After, tables_of, size_of, access_at, read_from, write_to, read_step, write_step, fetch_step, operate, after_checks, stepped}
use Rattle.model.specs.Demands.{Call}
use Rattle.model.specs.declared.Registers.{Registers}
use Rattle.model.specs.declared.Tables.{Tables}
use Rattle.model.specs.declared.Operation.{Operation}
use Rattle.model.specs.declared.Kind.{Kind}
use Rattle.model.specs.declared.Kind.TheVariants.{Read, Write, Root, Asid, Mode, All, Addr, Ctx, AddrCtx, Fetch, Domain}
use Rattle.model.specs.declared.Access.{Access}
use Rattle.model.specs.declared.Access.TheVariants.{Stale, Fails, Physical}
use Rattle.model.specs.declared.Purpose.TheVariants.{ToRead, ToWrite, ToFetch}
use Rattle.model.specs.declared.Size.{Size}
use Rattle.model.specs.declared.Size.TheVariants.{Four}
use Rattle.model.specs.Types.{Check}
use Rattle.std.specs.Prelude.{Ok, Err}
use Rattle.model.proofs.BoolLaws.{either}
use Rattle.model.proofs.Checks.{row_pages}
use Rattle.model.proofs.Memory.{stored_same}
use Rattle.model.proofs.Rows.{Acts}
use Rattle.model.proofs.Words.{noted_elsewhere}
use Rattle.model.proofs.Track.{page_same, both_own, both_global, both_length, noted_word, noted_length, flush_of, flushed_word, flushed_length}
use Rattle.model.proofs.Calls.{checks_of, passed_call}
use Rattle.model.proofs.Kept.{same_has}
use Rattle.model.proofs.Effect.{state}
use Rattle.runs.specs.Quiet.{quiet}
use Rattle.runs.specs.Step.{no_page, every_page, after_write, extent_of, flushed_by, note_found, note_one_page, note_extent, run_operate, run_after_checks, run_stepped}
use Rattle.runs.specs.Noted.{Noted}
use Rattle.runs.proofs.Stores.{quiet_walks}
use Rattle.runs.proofs.Noted.{same_contexts}

-- ── Tracks that have the same words are the same ──

pos_of_mul : (a b i : ℕ) → i < a * b → 0 < a
pos_of_mul zero b i h = absurd (not-suc-le-zero (subst (λ (n : ℕ). i < n) (zero-mul b) h))
pos_of_mul (suc a) b i h = zero-lt-suc a

pub same_tracks : (W : ℕ) (t v w : List ℕ) → length t ≡ row_size W * (contexts W t + 1) → length v ≡ length t → length w ≡ length t →
    ((u : Scope) (p : ℕ) → has_row W t u ≡ true → p < row_size W → track_word W v u p ≡ track_word W w u p) → v ≡ w
same_tracks W t v w whole e f h = ext_get_or 0 v w (e ∙ sym f) (λ i lt. at_place i (subst (λ n. i < n) e lt))
  where
    global_row : (l : List ℕ) → length l ≡ length t → (p : ℕ) → track_word W l global p ≡ get_or l (row_size W * contexts W t + p) 0
    global_row l q p = unfold track_word row_of contexts in ap (λ n. get_or l (row_size W * (n / row_size W - 1) + p) 0) q

    own_row : (l : List ℕ) (d p : ℕ) → track_word W l (own d) p ≡ get_or l (row_size W * d + p) 0
    own_row l d p = unfold track_word row_of in refl

    -- a row has words, where the track has any
    some_words : (i : ℕ) → i < length t → 0 < row_size W
    some_words i lt = pos_of_mul (row_size W) (contexts W t + 1) i (subst (λ n. i < n) whole lt)

    in_row : (i d : ℕ) → i / row_size W ≡ d → row_size W * d + i % row_size W ≡ i
    in_row i d q = ap (λ (k : ℕ). row_size W * k + i % row_size W) (sym q) ∙ div-add-mod i (row_size W)

    last_row : (i k : ℕ) → 0 < row_size W → i < row_size W * (k + 1) → k ≤ i / row_size W → i / row_size W ≡ k
    last_row i k pos lt le =
        let below : i / row_size W < k + 1 = (div-lt_iff_lt-mul pos).1 (rw (mul_comm (k + 1) (row_size W)) lt) in
        omega arith

    at_place : (i : ℕ) → i < length t → get_or v i 0 ≡ get_or w i 0
    at_place i lt = go (ltb (i / row_size W) (contexts W t)) refl
      where
        pos : 0 < row_size W
        pos = some_words i lt

        go : (b : Bool) → ltb (i / row_size W) (contexts W t) ≡ b → get_or v i 0 ≡ get_or w i 0
        go true q =
            let has : has_row W t (own (i / row_size W)) ≡ true = unfold has_row in q in
            subst (λ j. get_or v j 0 ≡ get_or w j 0) (in_row i (i / row_size W) refl)
            (sym (own_row v (i / row_size W) (i % row_size W)) ∙ h (own (i / row_size W)) (i % row_size W) has (mod-lt i pos) ∙ own_row w (i / row_size W) (i % row_size W))
        go false q =
            let has : has_row W t global ≡ true = unfold has_row in refl in
            let row = last_row i (contexts W t) pos (subst (λ n. i < n) whole lt) (ltb-false (i / row_size W) (contexts W t) q) in
            subst (λ j. get_or v j 0 ≡ get_or w j 0) (in_row i (contexts W t) row)
            (sym (global_row v e (i % row_size W)) ∙ h global (i % row_size W) has (mod-lt i pos) ∙ global_row w f (i % row_size W))

-- ── One page noted ──

-- what noting a page does to the words of a row
noted_at : List ℕ → Tables → ℕ → ℕ → ℕ → ℕ → ℕ
noted_at m tables g page p w = cond (eqb p page) (note_page m tables g p w) w

acts_note : (W : ℕ) (m : List ℕ) (tables : Tables) (g page : ℕ) → Acts (row_size W) (note_found g page (walk_page m tables page)) (noted_at m tables g page)
unfolding noted_at note_page
acts_note W m tables g page = record {
  keeps = λ row e. length-set row page _ ∙ e;
  word = λ row p e h. go row p (rw e h) (eqb p page) refl;
}
  where
    go : (row : List ℕ) (p : ℕ) → p < length row → (b : Bool) → eqb p page ≡ b →
        get_or (set row page (add_outcome g (get_or row page 0) (walk_page m tables page))) p 0 ≡ cond b (add_outcome g (get_or row p 0) (walk_page m tables p)) (get_or row p 0)
    go row p h true e = ap (λ n. get_or (set row n (add_outcome g (get_or row n 0) (walk_page m tables n))) p 0) (sym (eqb-true p page e)) ∙ get_or-set_same row p _ 0 h
    go row p h false e = get_or-set_other row page p _ 0 (eqb-false p page e)

one_length : (W : ℕ) (m : List ℕ) (r : Registers) (page : ℕ) (t : List ℕ) → r.context < contexts W t → length (note_one_page W m (tables_of r) r.context page t) ≡ length t
unfolding note_one_page
one_length W m r page t h = both_length W (acts_note W m (tables_of r) 0 page) (acts_note W m (tables_of r) 1 page) t r.context h

-- the words of the page are noted, the others stay
one_word : (W : ℕ) (m : List ℕ) (r : Registers) (page : ℕ) (t : List ℕ) → r.context < contexts W t → (u : Scope) (p : ℕ) → has_row W t u ≡ true → p < row_size W →
    track_word W (note_one_page W m (tables_of r) r.context page t) u p ≡ cond (eqb p page) (noted_in (state r m) u p (track_word W t u p)) (track_word W t u p)
unfolding note_one_page noted_in outcome has_row noted_at
one_word W m r page t h (own d) p i q =
    both_own W (acts_note W m (tables_of r) 0 page) (acts_note W m (tables_of r) 1 page) t r.context h d p (ltb-true d (contexts W t) i) q
    ∙ by (eqb d r.context) refl
  where
    by : (b : Bool) → eqb d r.context ≡ b →
        cond b (cond (eqb p page) (note_page m (tables_of r) 0 p (track_word W t (own d) p)) (track_word W t (own d) p)) (track_word W t (own d) p)
        ≡ cond (eqb p page) (noted (own d) r.context (walk m r.root (p * page_size)) (track_word W t (own d) p)) (track_word W t (own d) p)
    by true e = ap (λ x. cond (eqb p page) x (track_word W t (own d) p)) (page_same (own d) r.context (unfold covers in e) m (tables_of r) p (track_word W t (own d) p))
    by false e =
        sym (ap (λ x. cond (eqb p page) x (track_word W t (own d) p)) (noted_elsewhere (own d) r.context (track_word W t (own d) p) _ (unfold covers in e))
        ∙ either (eqb p page) (track_word W t (own d) p))
one_word W m r page t h global p i q =
    both_global W (acts_note W m (tables_of r) 0 page) (acts_note W m (tables_of r) 1 page) t r.context h p q
    ∙ ap (λ x. cond (eqb p page) x (track_word W t global p)) (page_same global r.context (unfold covers in refl) m (tables_of r) p (track_word W t global p))

-- ── What noting leaves as it is ──

module _ (W : ℕ) (r : Registers) (m t : List ℕ) (n : Noted W (state r m) t) where
  -- a noted track, with the memory that it was noted by, and with any by which each page of the window is walked alike
  pub settled : note_track W m (tables_of r) r.context t ≡ t
  settled =
      same_tracks W t (note_track W m (tables_of r) r.context t) t n.whole (noted_length W m r t n.current) refl
      (λ u p has q. noted_word W m r t n.current u p has q ∙ n.stays u p has q)

  same_noting : (l : List ℕ) → ((p : ℕ) → p < row_size W → walk l r.root (p * page_size) ≡ walk m r.root (p * page_size)) →
      note_track W l (tables_of r) r.context t ≡ t
  same_noting l alike =
      same_tracks W t (note_track W l (tables_of r) r.context t) t n.whole (noted_length W l r t n.current) refl
      (λ u p has q. noted_word W l r t n.current u p has q ∙ walked u p q ∙ n.stays u p has q)
    where
      walked : (u : Scope) (p : ℕ) → p < row_size W → noted_in (state r l) u p (track_word W t u p) ≡ noted_in (state r m) u p (track_word W t u p)
      walked u p q = unfold noted_in outcome in ap (λ x. noted u r.context x (track_word W t u p)) (alike p q)

  -- the first address of a page of the window lies in it
  in_limit : (p : ℕ) → p < row_size W → p * page_size < address_limit W
  in_limit p q = let whole = row_pages W in omega arith

  -- a quiet store
  pub settled_store : (size : Size) (at v : ℕ) → quiet W m (tables_of r) at (bytes_of size) ≡ true →
      note_track W (written_at size m at v) (tables_of r) r.context t ≡ t
  settled_store size at v h = same_noting (written_at size m at v) (λ p q. alike p q)
    where
      alike : (p : ℕ) → p < row_size W → walk (written_at size m at v) r.root (p * page_size) ≡ walk m r.root (p * page_size)
      alike p q = unfold written_at in go (within size m at)
        where
          go : (b : Bool) → walk (cond b (stored_at size m at v) m) r.root (p * page_size) ≡ walk m r.root (p * page_size)
          go true = ap (λ l. walk l r.root (p * page_size)) (stored_same size m at v) ∙ quiet_walks W m (tables_of r) at (bytes_of size) v (p * page_size) h (in_limit p q)
          go false = refl

  -- ── A flush of the track ──
  module _ (k : Kind) (o : Operation) (fits : context_fits k o.a o.b (contexts W t) ≡ true) where
    abbrev flushed : List ℕ
    flushed = flush_of W k o t

    word : (u : Scope) (p : ℕ) → has_row W t u ≡ true → p < row_size W → track_word W flushed u p ≡ cond (flushes k o u p) 0 (track_word W t u p)
    word u p has q = flushed_word W k o t (let c = n.current in omega arith) fits u p has q

    length_flushed : length flushed ≡ length t
    length_flushed = flushed_length W k o t fits

    current_flushed : r.context < contexts W flushed
    current_flushed = subst (λ j. r.context < j) (same_contexts W t flushed length_flushed) n.current

    has_flushed : (u : Scope) → has_row W t u ≡ true → has_row W flushed u ≡ true
    has_flushed u has = same_has W flushed t length_flushed u ∙ has

    -- one page noted is every page noted, if it is the only one that was flushed
    flushed_page : (page : ℕ) → ((u : Scope) (p : ℕ) → eqb p page ≡ false → flushes k o u p ≡ false) →
        note_one_page W m (tables_of r) r.context page flushed ≡ note_track W m (tables_of r) r.context flushed
    flushed_page page only =
        same_tracks W t _ _ n.whole (one_length W m r page flushed current_flushed ∙ length_flushed) (noted_length W m r flushed current_flushed ∙ length_flushed)
        (λ u p has q.
        one_word W m r page flushed current_flushed u p (has_flushed u has) q
        ∙ by u p has q (eqb p page) refl
        ∙ sym (noted_word W m r flushed current_flushed u p (has_flushed u has) q))
      where
        by : (u : Scope) (p : ℕ) → has_row W t u ≡ true → p < row_size W → (b : Bool) → eqb p page ≡ b →
            cond b (noted_in (state r m) u p (track_word W flushed u p)) (track_word W flushed u p) ≡ noted_in (state r m) u p (track_word W flushed u p)
        by u p has q true e = refl
        by u p has q false e =
            let same = word u p has q ∙ ap (λ x. cond x 0 (track_word W t u p)) (only u p e) in
            same ∙ sym (n.stays u p has q) ∙ ap (noted_in (state r m) u p) (sym same)

    -- no page noted is every page noted, if nothing was flushed that the current context uses
    flushed_elsewhere : ((u : Scope) (p : ℕ) → flushes k o u p ≡ true → covers u r.context ≡ false) →
        flushed ≡ note_track W m (tables_of r) r.context flushed
    flushed_elsewhere other =
        same_tracks W t _ _ n.whole length_flushed (noted_length W m r flushed current_flushed ∙ length_flushed)
        (λ u p has q. by u p has q (flushes k o u p) refl ∙ sym (noted_word W m r flushed current_flushed u p (has_flushed u has) q))
      where
        by : (u : Scope) (p : ℕ) → has_row W t u ≡ true → p < row_size W → (b : Bool) → flushes k o u p ≡ b →
            track_word W flushed u p ≡ noted_in (state r m) u p (track_word W flushed u p)
        by u p has q true e = sym (unfold noted_in in noted_elsewhere u r.context (track_word W flushed u p) _ (other u p e))
        by u p has q false e =
            let same = word u p has q ∙ ap (λ x. cond x 0 (track_word W t u p)) e in
            same ∙ sym (n.stays u p has q) ∙ ap (noted_in (state r m) u p) (sym same)

-- ── The step ──

-- `addr` and `addrctx` flush one page; `ctx` of another context flushes nothing that the current one uses
addr_only : (o : Operation) (u : Scope) (p : ℕ) → eqb p (o.a / page_size) ≡ false → flushes Addr o u p ≡ false
unfolding flushes
addr_only o u p e = e

addrctx_only : (o : Operation) (u : Scope) (p : ℕ) → eqb p (o.a / page_size) ≡ false → flushes AddrCtx o u p ≡ false
unfolding flushes
addrctx_only o u p e = rw e

ctx_other : (o : Operation) (c : ℕ) → eqb o.a c ≡ false → (u : Scope) (p : ℕ) → flushes Ctx o u p ≡ true → covers u c ≡ false
unfolding flushes covers
ctx_other o c e (own d) p h = ap (λ x. eqb x c) (eqb-true d o.a h) ∙ e
ctx_other o c e global p h = absurd (true≢false (sym h))

-- the track that an access leaves
read_track : (x : Access) (size : Size) (r : Registers) (m t : List ℕ) → note_track old_window m (tables_of r) r.context t ≡ t → t ≡ (read_from x size r m t).track
read_track Stale size r m t e = refl
read_track (Fails f) size r m t e = sym e
read_track (Physical p) size r m t e = sym e

write_track : (x : Access) (size : Size) (v : ℕ) (r : Registers) (m t : List ℕ) → Noted old_window (state r m) t →
    note_extent old_window (after_write old_window x size (tables_of r) m) (write_to x size v r m t).memory (tables_of (write_to x size v r m t).registers) (write_to x size v r m t).registers.context t
    ≡ (write_to x size v r m t).track
write_track Stale size v r m t n = refl
write_track (Fails f) size v r m t n = sym (settled old_window r m t n)
write_track (Physical p) size v r m t n = go (quiet old_window m (tables_of r) p (bytes_of size)) refl
  where
    go : (b : Bool) → quiet old_window m (tables_of r) p (bytes_of size) ≡ b →
        note_extent old_window (cond b no_page every_page) (written_at size m p v) (tables_of r) r.context t ≡ note_track old_window (written_at size m p v) (tables_of r) r.context t
    go true e = sym (settled_store old_window r m t n size p v e)
    go false e = refl

-- the track that an operation leaves, noted as far as it calls for
track_same : (k : Kind) (o : Operation) (r : Registers) (m t : List ℕ) → context_fits k o.a o.b (contexts old_window t) ≡ true → Noted old_window (state r m) t →
    (run_operate k o r m t).track ≡ (operate k o r m t).track
unfolding run_operate operate extent_of flushed_by flush_of read_step write_step fetch_step
track_same Read o r m t f n = read_track (access_at r m t ToRead (size_of o.b) o.a) (size_of o.b) r m t (settled old_window r m t n)
track_same Write o r m t f n = write_track (access_at r m t ToWrite (size_of o.b) o.a) (size_of o.b) o.c r m t n
track_same Root o r m t f n = refl
track_same Asid o r m t f n = refl
track_same Mode o r m t f n = sym (settled old_window r m t n)
track_same All o r m t f n = refl
track_same Addr o r m t f n = flushed_page old_window r m t n Addr o f (o.a / page_size) (addr_only o)
track_same Ctx o r m t f n = go (eqb o.a r.context) refl
  where
    go : (b : Bool) → eqb o.a r.context ≡ b →
        note_extent old_window (cond b every_page no_page) m (tables_of r) r.context (flush_context old_window o.a t) ≡ note_track old_window m (tables_of r) r.context (flush_context old_window o.a t)
    go true e = refl
    go false e = unfold flush_of in flushed_elsewhere old_window r m t n Ctx o f (ctx_other o r.context e)
track_same AddrCtx o r m t f n = flushed_page old_window r m t n AddrCtx o f (o.a / page_size) (addrctx_only o)
track_same Fetch o r m t f n = read_track (access_at r m t ToFetch Four o.a) Four r m t (settled old_window r m t n)
track_same Domain o r m t f n = sym (settled old_window r m t n)

-- what is given, with a track that is the same
with_track : (y : After) (t : List ℕ) → t ≡ y.track → (record { answer = y.answer; registers = y.registers; memory = y.memory; track = t }) ≡ y
with_track y t e = λ i. record { answer = y.answer; registers = y.registers; memory = y.memory; track = e i }

pub step_same : (o : Operation) (r : Registers) (m t : List ℕ) → Noted old_window (state r m) t → run_stepped o r m t ≡ stepped o r m t
unfolding run_stepped stepped
step_same o r m t n = go (first_failing (checks_of x)) refl
  where
    x : Call
    x = record { operation = o; registers = r; memory = m; track = t }

    go : (y : Check) → first_failing (checks_of x) ≡ y → run_after_checks y o r m t ≡ after_checks y o r m t
    go (Err c) e = refl
    go (Ok tt) e =
        let same = track_same o.kind o r m t (passed_call x e).named n in
        unfold run_operate in with_track (operate o.kind o r m t) (run_operate o.kind o r m t).track same
