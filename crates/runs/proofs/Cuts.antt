-- Behind an `all` that is carried out with the registers of a start, all is as a start leaves it.
use Prim.Native.Nat.{ℕ, ◌+◌, ◌*◌, ◌-◌, ◌<◌}
use mathlib.Core.Path.{◌≡◌, refl, sym, ap, ap₂, ◌∙◌, subst}
use mathlib.Core.Bool.{Bool, true, false, cond, true≢false}
use mathlib.Core.List.{List, [], ◌∷◌, ◌++◌}
use native.Mathlib.Nat.{mul_comm}
use native.Mathlib.Omega.{arith}
use lib.Dec.{eqb, leb, ltb}
use lib.ListN.{length}
use borrow.Author.Tests.{eqb-true, leb-true}
use Rattle.model.specs.Limits.{old_split, old_window, row_size, contexts_most}
use Rattle.model.specs.Numbers.{shown}
use Rattle.model.specs.reference.Rules.{flushes, contexts}
use Rattle.model.specs.reference.Runs.{last, next, checker_run, is_refused}
use Rattle.model.specs.step.Track.{rows_of, last_row, flush_all}
use Rattle.model.specs.step.Checks.{memory_fits, track_fits, lengths_fit, root_fits, domains_fit, registers_fit, context_fits, checks, start_checks, first_failing}
use Rattle.model.specs.step.Machine.{After, carried, start_registers, operate, after_checks, started_by, started, stepped}
use Rattle.model.specs.Invisible.{Session, begun, checker_run_of, checker}
use Rattle.model.specs.declared.Setting.{Setting}
use Rattle.model.specs.declared.Operation.{Operation}
use Rattle.model.specs.declared.Answer.TheVariants.{Done}
use Rattle.model.specs.declared.Kind.TheVariants.{All}
use Rattle.model.specs.Types.{Check}
use Rattle.std.specs.Prelude.{Ok, Err}
use Rattle.model.specs.declared.Refusal.TheVariants.{WrongLengths, WrongRoot}
use Rattle.model.proofs.Track.{flush_of, flushed_word, flushed_length}
use Rattle.model.proofs.Calls.{Hold, passed, track_length_lem, start_track_length_lem, has_context}
use Rattle.model.proofs.Kept.{same_has}
use Rattle.runs.specs.Same.{reached}
use Rattle.runs.specs.Cuts.{Cuts}
use Rattle.runs.proofs.Noted.{same_contexts}
use Rattle.runs.proofs.SameLaws.{same_tracks}

-- what `cond` needs to be true
first_holds : (x y : Bool) → cond x y false ≡ true → x ≡ true
first_holds true y p = refl
first_holds false y p = absurd (true≢false (sym p))

rest_holds : (x y : Bool) → cond x y false ≡ true → y ≡ true
rest_holds true y p = p
rest_holds false y p = absurd (true≢false (sym p))

-- a track whose length fits has whole rows
whole_rows : (w : ℕ) (t : List ℕ) → track_fits w (length t) ≡ true → length t ≡ row_size w * (contexts w t + 1)
unfolding track_fits contexts
whole_rows w t p =
    let k : ℕ = rows_of w (length t) in
    let rows = eqb-true (k * row_size w) (length t) (first_holds (eqb (k * row_size w) (length t)) (cond (leb 2 k) (leb k (contexts_most + 1)) false) p) in
    let two = leb-true 2 k (first_holds (leb 2 k) (leb k (contexts_most + 1)) (rest_holds (eqb (k * row_size w) (length t)) (cond (leb 2 k) (leb k (contexts_most + 1)) false) p)) in
    sym rows ∙ mul_comm k (row_size w) ∙ ap (λ (x : ℕ). row_size w * x) (let e : k ≡ k - 1 + 1 = omega arith in e)

-- emptied tracks of one length are the same
all_same : (w : ℕ) (m t v : List ℕ) → lengths_fit w (length m) (length t) ≡ true → length v ≡ length t → flush_all w t ≡ flush_all w v
unfolding flush_of context_fits flushes
all_same w m t v p e =
    same_tracks w t (flush_all w t) (flush_all w v) (whole_rows w t (unfold lengths_fit in rest_holds (memory_fits (length m)) (track_fits w (length t)) p))
    (flushed_length w All everything t refl) (flushed_length w All everything v refl ∙ e)
    (λ u q h k. flushed_word w All everything t (has_context w m t p) refl u q h k
    ∙ sym (flushed_word w All everything v (subst (λ n. 0 < n) (same_contexts w t v e) (has_context w m t p)) refl u q (same_has w v t e u ∙ h) k))
  where
    everything : Operation
    everything = record { kind = All; a = 0; b = 0; c = 0 }

-- a start passes its checks where an operation does that is handed its registers and a track of the same length
start_passes : (o : Operation) (g : Setting) (m t v : List ℕ) → first_failing (checks o (start_registers g) (length m) (length t)) ≡ Ok tt → length v ≡ length t →
    first_failing (start_checks (length m) (length v) g) ≡ Ok tt
unfolding start_checks first_failing Hold checks
start_passes o g m t v p e =
    ap₂ (λ (x y : Bool). cond x (cond y (Ok tt) (Err WrongRoot)) (Err WrongLengths)) (ap (lengths_fit old_window (length m)) e ∙ held.0) root_fits_lem
  where
    held : Hold (checks o (start_registers g) (length m) (length t))
    held = passed (checks o (start_registers g) (length m) (length t)) p

    root_fits_lem : root_fits old_split g.root ≡ true
    root_fits_lem = unfold registers_fit in first_holds (root_fits old_split g.root) (cond (ltb 0 (last_row old_window (length t))) (cond (leb 0 1) (domains_fit 0x55555555) false) false) held.1.0

as_started_lem : (o : Operation) (g : Setting) (m t track : List ℕ) → o.kind ≡ All → is_refused (shown (stepped o (start_registers g) m t).answer) ≡ false →
    length track ≡ length t → stepped o (start_registers g) m t ≡ started m track g
unfolding stepped started
as_started_lem o g m t track k q e = go (first_failing (checks o (start_registers g) (length m) (length t))) refl q
  where
    go : (y : Check) → first_failing (checks o (start_registers g) (length m) (length t)) ≡ y →
        is_refused (shown (after_checks y o (start_registers g) m t).answer) ≡ false →
        after_checks y o (start_registers g) m t ≡ started_by (first_failing (start_checks (length m) (length track) g)) m track g
    go (Err n) p r = absurd (true≢false (unfold is_refused in r))
    go (Ok tt) p r =
        ap (λ z. operate z o (start_registers g) m t) k
        ∙ flushed
        ∙ ap (λ z. started_by z m track g) (sym (start_passes o g m t track p e))
      where
        lengths : lengths_fit old_window (length m) (length t) ≡ true
        lengths = unfold Hold checks in (passed (checks o (start_registers g) (length m) (length t)) p).0

        flushed : operate All o (start_registers g) m t ≡ started_by (Ok tt) m track g
        flushed = unfold operate in ap (λ l. carried (Done 0) (start_registers g) m l) (all_same old_window m t track lengths e)

-- ── Runs ──

-- a run of one list behind another
run_on : (y : After) (os ps : List Operation) → checker_run checker y (os ++ ps) ≡ checker_run checker y os ++ checker_run checker (last y (checker_run checker y os)) ps
unfolding checker_run last
run_on y [] ps = refl
run_on y (o ∷ os) ps = ap (λ ys. next checker o y ∷ ys) (run_on (next checker o y) os ps)

-- the track keeps its length
run_length : (y : After) (os : List Operation) → length (last y (checker_run checker y os)).track ≡ length y.track
unfolding checker_run last
run_length y [] = refl
run_length y (o ∷ os) =
    run_length (next checker o y) os ∙ track_length_lem (record { operation = o; registers = y.registers; memory = y.memory; track = y.track })

parts : (x : Session) (o : Operation) (os : List Operation) (g : Setting) (track : List ℕ) → o.kind ≡ All → (reached x).registers ≡ start_registers g →
    is_refused (shown (next checker o (reached x)).answer) ≡ false → length track ≡ length x.track →
    checker_run checker (begun checker x) (x.operations ++ (o ∷ os)) ≡
    checker_run_of checker x ++ (started (reached x).memory track g ∷ checker_run checker (started (reached x).memory track g) os)
parts x o os g track k r q e =
    run_on (begun checker x) x.operations (o ∷ os)
    ∙ ap (λ ys. checker_run_of checker x ++ ys) (unfold checker_run in ap (λ y. y ∷ checker_run checker y os) same)
  where
    length_kept : length (reached x).track ≡ length x.track
    length_kept = run_length (begun checker x) x.operations ∙ start_track_length_lem x.image x.track x.setting

    registers_set : next checker o (reached x) ≡ stepped o (start_registers g) (reached x).memory (reached x).track
    registers_set = ap (λ z. stepped o z (reached x).memory (reached x).track) r

    same : next checker o (reached x) ≡ started (reached x).memory track g
    same =
        registers_set
        ∙ as_started_lem o g (reached x).memory (reached x).track track k (sym (ap (λ (z : After). is_refused (shown z.answer)) registers_set) ∙ q) (e ∙ sym length_kept)

pub cuts : Cuts
cuts = record { as_started = as_started_lem; parts = parts }
