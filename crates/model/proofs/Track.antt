-- The whole track: noting and flushing leave in each word what the reference says of its scope and page.
use Prim.Native.Nat.{ℕ, suc, ◌+◌, ◌*◌, ◌-◌, ◌/◌, ◌≤◌, ◌<◌}
use mathlib.Core.Path.{◌≡◌, refl, sym, ap, ◌∙◌}
use mathlib.Core.Bool.{Bool, true, false, cond, ◌&&◌}
use mathlib.Core.List.{List}
use native.Mathlib.Nat.{mul_comm, suc-mul, mul-le-mul_right, div-mul-le_self}
use native.Mathlib.Omega.{arith}
use lib.Dec.{eqb, ltb}
use lib.ListN.{length, get_or, set, length-set}
use lib.Seq.{get_or-set_same, get_or-set_other}
use borrow.Author.Tests.{eqb-true, eqb-false, eq-eqb, ne_eqb, lt-ltb, ltb-true}
use Rattle.model.specs.Limits.{page_size, row_size}
use Rattle.model.specs.reference.Rules.{walk, outcome, Scope, own, global, covers, flushes, noted, noted_in, word_after, track_word, contexts, row_of, has_row}
use Rattle.model.specs.step.Walk.{walk_page}
use Rattle.model.specs.step.Rows.{in_row, each_row}
use Rattle.model.specs.step.Checks.{context_fits}
use Rattle.model.specs.step.Track.{note_page, last_row, note_track, empty_page, empty_row, flush_all, flush_page, flush_context, flush_page_in}
use Rattle.model.specs.step.Machine.{tables_of}
use Rattle.model.specs.Types.{Registers, Tables, Operation, Kind, Read, Write, Root, Asid, Mode, All, Addr, Ctx, AddrCtx, Fetch, Domain}
use Rattle.model.proofs.Walk.{translation, walk_same}
use Rattle.model.proofs.Rows.{Acts, acts_words, length_in_row, word_in_row, length_each_row, word_each_row}
use Rattle.model.proofs.Words.{row_kind, walk_range, note_same, noted_elsewhere}

-- a page is noted in a row as the reference notes its first address, where the context uses the row
pub page_same : (u : Scope) (c : ℕ) → covers u c ≡ true → (m : List ℕ) (tables : Tables) (page w : ℕ) →
    note_page m tables (row_kind u) page w ≡ noted u c (walk m tables.root (page * page_size)) w
unfolding note_page
page_same u c uses m tables page w =
    note_same u c w (walk_page m tables page) (walk_range m tables page) uses
    ∙ ap (λ x. noted u c x w) (ap (λ n. translation (walk_page m tables n)) first ∙ walk_same m tables (page * page_size))
  where
    first : page ≡ page * page_size / page_size
    first = omega arith

-- what emptying a page's set does to the words of a row
emptied : ℕ → ℕ → ℕ → ℕ
emptied page p w = cond (eqb p page) 0 w

-- what follows is of tracks for a window of W MiB
module _ (W : ℕ) where
  acts_page : (page : ℕ) → Acts (row_size W) (empty_page page) (emptied page)
  unfolding emptied
  acts_page page = record {
    keeps = λ row e. length-set row page 0 ∙ e;
    word = λ row p e h. go row p (rw e h) (eqb p page) refl;
  }
    where
      go : (row : List ℕ) (p : ℕ) → p < length row → (b : Bool) → eqb p page ≡ b → get_or (set row page 0) p 0 ≡ cond b 0 (get_or row p 0)
      go row p h true e = ap (λ n. get_or (set row n 0) p 0) (sym (eqb-true p page e)) ∙ get_or-set_same row p 0 0 h
      go row p h false e = get_or-set_other row page p 0 0 (eqb-false p page e)

  -- the place of a word
  place : (t : List ℕ) (u : Scope) (p : ℕ) → track_word W t u p ≡ get_or t (row_of W t u * row_size W + p) 0
  unfolding track_word
  place t u p = ap (λ n. get_or t (n + p) 0) (mul_comm (row_size W) (row_of W t u))

  -- the rows of contexts, and the global row
  rows_fit : (t : List ℕ) → length t / row_size W * row_size W ≤ length t
  rows_fit t = div-mul-le_self (length t) (row_size W)

  row_fits : (t : List ℕ) (r : ℕ) → r < length t / row_size W → r * row_size W + row_size W ≤ length t
  row_fits t r h =
      let e : suc r * row_size W ≤ length t / row_size W * row_size W = mul-le-mul_right (row_size W) h in
      omega (arith, suc-mul r (row_size W), rows_fit t)

  module _ (t : List ℕ) (some-context : 0 < contexts W t) where
    global_in : contexts W t < length t / row_size W
    unfolding contexts
    global_in = let h : 0 < length t / row_size W - 1 = unfold contexts in some-context in omega arith

    own_in : (c : ℕ) → c < contexts W t → c < length t / row_size W
    own_in c h = let g = global_in in omega arith

    row_in : (u : Scope) → has_row W t u ≡ true → row_of W t u < length t / row_size W
    unfolding has_row row_of
    row_in (own c) h = own_in c (ltb-true c (contexts W t) h)
    row_in global h = global_in

  same_rows : (t v : List ℕ) → length v ≡ length t → (u : Scope) → row_of W v u ≡ row_of W t u
  unfolding row_of contexts
  same_rows t v e (own c) = refl
  same_rows t v e global = ap (λ n. n / row_size W - 1) e

  -- ── One row changed, two rows changed, and each row changed ──

  module _ {f : List ℕ → List ℕ} {g : ℕ → ℕ → ℕ} (acts : Acts (row_size W) f g) (t : List ℕ) where
    one_length : (r : ℕ) → r < length t / row_size W → length (in_row (row_size W) r f t) ≡ length t
    one_length r h = length_in_row acts r t (row_fits t r h)

    one_row : (r : ℕ) → r < length t / row_size W → (u : Scope) (p : ℕ) → p < row_size W →
        track_word W (in_row (row_size W) r f t) u p ≡ cond (eqb (row_of W t u) r) (g p (track_word W t u p)) (track_word W t u p)
    one_row r h u p q =
        place (in_row (row_size W) r f t) u p
        ∙ ap (λ n. get_or (in_row (row_size W) r f t) (n * row_size W + p) 0) (same_rows t (in_row (row_size W) r f t) (one_length r h) u)
        ∙ word_in_row acts r t (row_fits t r h) (row_of W t u) p q
        ∙ ap (λ x. cond (eqb (row_of W t u) r) (g p x) x) (sym (place t u p))

    each_length : length (each_row (row_size W) (length t / row_size W) f t) ≡ length t
    each_length = length_each_row acts t (length t / row_size W) (rows_fit t)

    each_row_lem : 0 < contexts W t → (u : Scope) (p : ℕ) → has_row W t u ≡ true → p < row_size W → track_word W (each_row (row_size W) (length t / row_size W) f t) u p ≡ g p (track_word W t u p)
    each_row_lem k u p h q =
        place (each_row (row_size W) (length t / row_size W) f t) u p
        ∙ ap (λ n. get_or (each_row (row_size W) (length t / row_size W) f t) (n * row_size W + p) 0) (same_rows t (each_row (row_size W) (length t / row_size W) f t) each_length u)
        ∙ word_each_row acts t (length t / row_size W) (rows_fit t) (row_of W t u) p q
        ∙ ap (λ b. cond b (g p (get_or t (row_of W t u * row_size W + p) 0)) (get_or t (row_of W t u * row_size W + p) 0)) (lt-ltb (row_of W t u) (length t / row_size W) (row_in t k u h))
        ∙ ap (g p) (sym (place t u p))

  -- the row of a context changed, then the global row
  module _ {f f' : List ℕ → List ℕ} {g g' : ℕ → ℕ → ℕ} (acts : Acts (row_size W) f g) (acts' : Acts (row_size W) f' g') (t : List ℕ) (c : ℕ) (in-track : c < contexts W t) where
    first : List ℕ
    first = in_row (row_size W) c f t

    second : List ℕ
    second = in_row (row_size W) (last_row W (length t)) f' first

    has_one : 0 < contexts W t
    has_one = omega arith

    first_length : length first ≡ length t
    unfolding first
    first_length = one_length acts t c (own_in t has_one c in-track)

    last_in : last_row W (length t) < length first / row_size W
    unfolding last_row
    last_in = rw first_length (unfold contexts in global_in t has_one)

    pub both_length : length (in_row (row_size W) (last_row W (length t)) f' (in_row (row_size W) c f t)) ≡ length t
    unfolding first
    both_length = one_length acts' first (last_row W (length t)) last_in ∙ first_length

    -- a word after the change of the first row, by its place
    after_first : (u : Scope) (p : ℕ) → p < row_size W → track_word W first u p ≡ cond (eqb (row_of W t u) c) (g p (track_word W t u p)) (track_word W t u p)
    unfolding first
    after_first u p q = one_row acts t c (own_in t has_one c in-track) u p q

    after_second : (u : Scope) (p : ℕ) → p < row_size W →
        track_word W second u p ≡ cond (eqb (row_of W t u) (last_row W (length t))) (g' p (track_word W first u p)) (track_word W first u p)
    unfolding second
    after_second u p q =
        one_row acts' first (last_row W (length t)) last_in u p q
        ∙ ap (λ n. cond (eqb n (last_row W (length t))) (g' p (track_word W first u p)) (track_word W first u p)) (same_rows t first first_length u)

    -- the words of the context's row, those of other contexts' rows, and those of the global row
    pub both_own : (d p : ℕ) → d < contexts W t → p < row_size W →
        track_word W (in_row (row_size W) (last_row W (length t)) f' (in_row (row_size W) c f t)) (own d) p ≡ cond (eqb d c) (g p (track_word W t (own d) p)) (track_word W t (own d) p)
    unfolding first second row_of
    both_own d p h q =
        after_second (own d) p q
        ∙ ap (λ b. cond b (g' p (track_word W first (own d) p)) (track_word W first (own d) p)) (ne_eqb d (last_row W (length t)) (unfold last_row contexts in (let z : d < length t / row_size W - 1 = unfold contexts in h in omega arith)))
        ∙ after_first (own d) p q

    pub both_global : (p : ℕ) → p < row_size W → track_word W (in_row (row_size W) (last_row W (length t)) f' (in_row (row_size W) c f t)) global p ≡ g' p (track_word W t global p)
    unfolding first second row_of
    both_global p q =
        after_second global p q
        ∙ ap (λ b. cond b (g' p (track_word W first global p)) (track_word W first global p)) (eq-eqb (contexts W t) (last_row W (length t)) (unfold contexts last_row in refl))
        ∙ ap (g' p) (after_first global p q ∙ ap (λ b. cond b (g p (track_word W t global p)) (track_word W t global p)) (ne_eqb (contexts W t) c (omega arith)))

  -- noting: the words of the current context's row and those of the global row are noted, the others stay
  pub noted_word : (m : List ℕ) (r : Registers) (t : List ℕ) → r.context < contexts W t → (u : Scope) (p : ℕ) → has_row W t u ≡ true → p < row_size W →
      track_word W (note_track W m (tables_of r) r.context t) u p ≡ noted_in (record { memory = m; registers = r }) u p (track_word W t u p)
  unfolding note_track noted_in outcome has_row
  noted_word m r t h (own d) p i q =
      both_own (acts_words (row_size W) (note_page m (tables_of r) 0)) (acts_words (row_size W) (note_page m (tables_of r) 1)) t r.context h d p (ltb-true d (contexts W t) i) q
      ∙ by (eqb d r.context) refl
    where
      by : (b : Bool) → eqb d r.context ≡ b →
          cond b (note_page m (tables_of r) 0 p (track_word W t (own d) p)) (track_word W t (own d) p) ≡ noted (own d) r.context (walk m r.root (p * page_size)) (track_word W t (own d) p)
      by true e = page_same (own d) r.context (unfold covers in e) m (tables_of r) p (track_word W t (own d) p)
      by false e = sym (noted_elsewhere (own d) r.context (track_word W t (own d) p) _ (unfold covers in e))
  noted_word m r t h global p i q =
      both_global (acts_words (row_size W) (note_page m (tables_of r) 0)) (acts_words (row_size W) (note_page m (tables_of r) 1)) t r.context h p q
      ∙ page_same global r.context (unfold covers in refl) m (tables_of r) p (track_word W t global p)

  pub noted_length : (m : List ℕ) (r : Registers) (t : List ℕ) → r.context < contexts W t → length (note_track W m (tables_of r) r.context t) ≡ length t
  unfolding note_track
  noted_length m r t h = both_length (acts_words (row_size W) (note_page m (tables_of r) 0)) (acts_words (row_size W) (note_page m (tables_of r) 1)) t r.context h

  -- ── Flushes ──

  -- what an operation flushes in the track
  unfoldable pub flush_of : Kind → Operation → List ℕ → List ℕ
  flush_of Read o t = t
  flush_of Write o t = t
  flush_of Root o t = t
  flush_of Asid o t = t
  flush_of Mode o t = t
  flush_of All o t = flush_all W t
  flush_of Addr o t = flush_page W (o.a / page_size) t
  flush_of Ctx o t = flush_context W o.a t
  flush_of AddrCtx o t = flush_page_in W o.b (o.a / page_size) t
  flush_of Fetch o t = t
  flush_of Domain o t = t

  -- every set, and every set of a row
  abbrev cleared : ℕ → ℕ → ℕ
  cleared p w = 0

  acts_clear : Acts (row_size W) empty_row cleared
  acts_clear = acts_words (row_size W) cleared

  page_in : (x y : Bool) (w : ℕ) → cond x (cond y 0 w) w ≡ cond (y && x) 0 w
  page_in true true w = refl
  page_in true false w = refl
  page_in false true w = refl
  page_in false false w = refl

  and_true : (x : Bool) → x ≡ (x && true)
  and_true true = refl
  and_true false = refl

  -- a flush of a context, by scopes
  context_flushed : (t : List ℕ) (o : Operation) → o.a < contexts W t → (u : Scope) (p : ℕ) → p < row_size W →
      track_word W (flush_context W o.a t) u p ≡ cond (flushes Ctx o u p) 0 (track_word W t u p)
  unfolding flush_context flushes row_of
  context_flushed t o f (own d) p q = one_row acts_clear t o.a (own_in t (omega arith) o.a f) (own d) p q
  context_flushed t o f global p q =
      one_row acts_clear t o.a (own_in t (omega arith) o.a f) global p q
      ∙ ap (λ b. cond b 0 (track_word W t global p)) (ne_eqb (contexts W t) o.a (omega arith))

  -- a flush of a page in a context, by scopes
  page_flushed : (t : List ℕ) (o : Operation) → o.b < contexts W t → (u : Scope) (p : ℕ) → has_row W t u ≡ true → p < row_size W →
      track_word W (flush_page_in W o.b (o.a / page_size) t) u p ≡ cond (flushes AddrCtx o u p) 0 (track_word W t u p)
  unfolding flush_page_in flushes covers has_row emptied
  page_flushed t o f (own d) p i q =
      both_own (acts_page (o.a / page_size)) (acts_page (o.a / page_size)) t o.b f d p (ltb-true d (contexts W t) i) q
      ∙ page_in (eqb d o.b) (eqb p (o.a / page_size)) (track_word W t (own d) p)
  page_flushed t o f global p i q =
      both_global (acts_page (o.a / page_size)) (acts_page (o.a / page_size)) t o.b f p q
      ∙ ap (λ b. cond b 0 (track_word W t global p)) (and_true (eqb p (o.a / page_size)))

  -- a flush empties the words that it names, and no others
  pub flushed_word : (k : Kind) (o : Operation) (t : List ℕ) → 0 < contexts W t → context_fits k o.a o.b (contexts W t) ≡ true → (u : Scope) (p : ℕ) → has_row W t u ≡ true → p < row_size W →
      track_word W (flush_of k o t) u p ≡ cond (flushes k o u p) 0 (track_word W t u p)
  unfolding flush_of flushes flush_all flush_page context_fits emptied
  flushed_word Read o t k f u p h q = refl
  flushed_word Write o t k f u p h q = refl
  flushed_word Root o t k f u p h q = refl
  flushed_word Asid o t k f u p h q = refl
  flushed_word Mode o t k f u p h q = refl
  flushed_word All o t k f u p h q = each_row_lem acts_clear t k u p h q
  flushed_word Addr o t k f u p h q = each_row_lem (acts_page (o.a / page_size)) t k u p h q
  flushed_word Ctx o t k f u p h q = context_flushed t o (ltb-true o.a (contexts W t) f) u p q
  flushed_word AddrCtx o t k f u p h q = page_flushed t o (ltb-true o.b (contexts W t) f) u p h q
  flushed_word Fetch o t k f u p h q = refl
  flushed_word Domain o t k f u p h q = refl

  pub flushed_length : (k : Kind) (o : Operation) (t : List ℕ) → context_fits k o.a o.b (contexts W t) ≡ true → length (flush_of k o t) ≡ length t
  unfolding flush_of flush_all flush_page flush_context flush_page_in context_fits
  flushed_length Read o t f = refl
  flushed_length Write o t f = refl
  flushed_length Root o t f = refl
  flushed_length Asid o t f = refl
  flushed_length Mode o t f = refl
  flushed_length All o t f = each_length acts_clear t
  flushed_length Addr o t f = each_length (acts_page (o.a / page_size)) t
  flushed_length Ctx o t f = let h = ltb-true o.a (contexts W t) f in one_length acts_clear t o.a (own_in t (omega arith) o.a h)
  flushed_length AddrCtx o t f = both_length (acts_page (o.a / page_size)) (acts_page (o.a / page_size)) t o.b (ltb-true o.b (contexts W t) f)
  flushed_length Fetch o t f = refl
  flushed_length Domain o t f = refl

  -- flushing, then noting with the state left
  pub word_after_lem : (k : Kind) (o : Operation) (m : List ℕ) (r : Registers) (t : List ℕ) →
      o.kind ≡ k → context_fits k o.a o.b (contexts W t) ≡ true → r.context < contexts W t → (u : Scope) (p : ℕ) → has_row W t u ≡ true → p < row_size W →
      track_word W (note_track W m (tables_of r) r.context (flush_of k o t)) u p ≡ word_after o (record { memory = m; registers = r }) u p (track_word W t u p)
  unfolding word_after
  word_after_lem k o m r t e f h u p d q =
      noted_word m r (flush_of k o t) (rw same_contexts h) u p (same_has u d) q
      ∙ ap (noted_in (record { memory = m; registers = r }) u p) (flushed_word k o t (omega arith) f u p d q ∙ ap (λ x. cond (flushes x o u p) 0 (track_word W t u p)) (sym e))
    where
      same_contexts : contexts W (flush_of k o t) ≡ contexts W t
      same_contexts = unfold contexts in ap (λ n. n / row_size W - 1) (flushed_length k o t f)

      same_has : (u : Scope) → has_row W t u ≡ true → has_row W (flush_of k o t) u ≡ true
      same_has (own c) i = unfold has_row in (ap (ltb c) same_contexts ∙ (unfold has_row in i))
      same_has global i = unfold has_row in refl
