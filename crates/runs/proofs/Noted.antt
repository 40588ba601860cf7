-- In a run from an accepted start the track is noted after every operation: to note it again changes no word.
use Prim.Native.Nat.{ℕ, ◌+◌, ◌*◌, ◌-◌, ◌/◌, ◌<◌}
use mathlib.Core.Path.{◌≡◌, refl, sym, ap, ap₂, ◌∙◌, subst, subst₂}
use mathlib.Core.Bool.{Bool, true, false, cond, true≢false}
use mathlib.Core.List.{List, [], ◌∷◌}
use lib.ListN.{length}
use Rattle.model.specs.Limits.{page_size, old_window, row_size}
use Rattle.model.specs.Numbers.{Result, ok, fault, refused, shown, refusal_number}
use Rattle.model.specs.reference.Rules.{Translation, found, failed, bits, State, fresh, outcome, carried_out, Scope, scope_of, same_scope, flushes, Kept, empty, one, several, word_of, entry_of, kept, same, add_to, noted, noted_in, word_after, contexts, track_word}
use Rattle.model.specs.reference.Runs.{last, next, checker_run, is_refused}
use Rattle.model.specs.step.Machine.{After, started}
use Rattle.model.specs.Demands.{after}
use Rattle.model.specs.Invisible.{Session, begun, Accepted, at_end, checker}
use Rattle.model.specs.declared.Setting.{Setting}
use Rattle.model.specs.declared.Operation.{Operation}
use Rattle.model.specs.declared.Entry.{Entry}
use Rattle.runs.specs.Noted.{Noted}
use Rattle.model.proofs.Entries.{Fits, same_self}
use Rattle.model.proofs.Calls.{plain, words, unchanged, track_length_lem, call_passes, Begun, back, done, begun as begun-start, start_exactly_lem, start_words_lem, start_track_length_lem, start_lengths}
use Rattle.model.proofs.Instance.{state_of}
use Rattle.model.proofs.Kept.{call_at, not_given, start_not_given, same_has, begins, kept_word, same_scope_lem, suits_own, outcome_range}

-- ── Noting twice is noting once ──

add_twice : (u : Scope) (e : Entry) (w : ℕ) (k : Kept) → kept u w ≡ k → kept u (word_of e) ≡ one e →
    add_to (kept u (add_to k e w)) e (add_to k e w) ≡ add_to k e w
unfolding add_to
add_twice u e w empty q h = rw (h, same_self e)
add_twice u e w several q h = rw q
add_twice u e w (one x) q h = go (same x e) refl
  where
    of_1 : kept u 1 ≡ several
    of_1 = unfold kept word_of entry_of bits in refl

    go : (b : Bool) → same x e ≡ b → add_to (kept u (cond b w 1)) e (cond b w 1) ≡ cond b w 1
    go true p = rw (q, p)
    go false p = rw of_1

noted_twice : (u : Scope) (c : ℕ) (x : Translation) (w : ℕ) → ((e : Entry) → x ≡ found e → Fits e) → noted u c x (noted u c x w) ≡ noted u c x w
unfolding noted
noted_twice u c (failed n) w h = refl
noted_twice u c (found e) w h = go (same_scope u (scope_of c e)) refl
  where
    go : (b : Bool) → same_scope u (scope_of c e) ≡ b →
        cond b (add_to (kept u (cond b (add_to (kept u w) e w) w)) e (cond b (add_to (kept u w) e w) w)) (cond b (add_to (kept u w) e w) w) ≡ cond b (add_to (kept u w) e w) w
    go false p = refl
    go true p =
        let in-range : Fits e = h e refl in
        let suiting = subst (λ v. kept v (word_of e) ≡ one e) (sym (same_scope_lem u (scope_of c e) p)) (kept_word (scope_of c e) e (in-range, suits_own c e in-range)) in
        add_twice u e w (kept u w) refl suiting

again : (s : State) (u : Scope) (p w : ℕ) → noted_in s u p (noted_in s u p w) ≡ noted_in s u p w
unfolding noted_in
again s u p w = noted_twice u s.registers.context (outcome s (p * page_size)) w (outcome_range s (p * page_size))

-- ── Throughout a run ──

same_whole : (w : ℕ) (t v : List ℕ) → length v ≡ length t → length t ≡ row_size w * (contexts w t + 1) → length v ≡ row_size w * (contexts w v + 1)
unfolding contexts
same_whole w t v e h = e ∙ h ∙ ap (λ n. row_size w * (n / row_size w - 1 + 1)) (sym e)

pub same_contexts : (w : ℕ) (t v : List ℕ) → length v ≡ length t → contexts w t ≡ contexts w v
unfolding contexts
same_contexts w t v e = ap (λ n. n / row_size w - 1) (sym e)

module _ (m t : List ℕ) (g : Setting) (q : is_refused (shown (started m t g).answer) ≡ false) where
  accepted : state_of (started m t g) ≡ fresh m g
  accepted = begins m t g q

  context_0 : (started m t g).registers.context ≡ 0
  context_0 = ap (λ (s : State). s.registers.context) accepted ∙ (unfold fresh in refl)

  current_start : (started m t g).registers.context < contexts old_window (started m t g).track
  current_start = go (begun-start m t g)
    where
      go : Begun (started m t g) m t g → (started m t g).registers.context < contexts old_window (started m t g).track
      go (back n e) = absurd (start_not_given m t g q (refusal_number n) ((start_exactly_lem m t g (refusal_number n)).0 (ap (λ (z : After). shown z.answer) e)))
      go (done a k e) = rw (context_0, sym (same_contexts old_window t (started m t g).track (start_track_length_lem m t g))) k

  pub noted_start : Noted old_window (state_of (started m t g)) (started m t g).track
  noted_start = record {
    whole = same_whole old_window t (started m t g).track (start_track_length_lem m t g) (start_lengths m t g (start_not_given m t g q));
    current = current_start;
    stays = λ u p h k.
        let word = start_words_lem m t g (start_not_given m t g q) u p (sym (same_has old_window (started m t g).track t (start_track_length_lem m t g) u) ∙ h) k in
        ap₂ (λ (s : State) (w : ℕ). noted_in s u p w) accepted word ∙ again (fresh m g) u p 0 ∙ sym word;
  }

-- an operation carried out, and one refused
noted_carried : (s : State) (t : List ℕ) (o : Operation) → is_refused (shown (after (call_at s t o)).answer) ≡ false → Noted old_window s t →
    Noted old_window (state_of (after (call_at s t o))) (after (call_at s t o)).track
unfolding word_after
noted_carried s t o q n =
    let x = call_at s t o in
    let left = ap (λ (y : Result × State). y.1) (plain x (not_given x q)) in
    record {
      whole = same_whole old_window t (after x).track (track_length_lem x) n.whole;
      current = subst (λ k. (after x).registers.context < k) (same_contexts old_window t (after x).track (track_length_lem x)) (call_passes x (not_given x q)).left;
      stays = λ u p h k.
          let word = words x (not_given x q) u p (sym (same_has old_window (after x).track t (track_length_lem x) u) ∙ h) k in
          ap₂ (λ (z : State) (w : ℕ). noted_in z u p w) left word
          ∙ again (carried_out o s).1 u p (cond (flushes o.kind o u p) 0 (track_word old_window t u p))
          ∙ sym word;
    }

pub is_refused_lem : (x : Result) → is_refused x ≡ true → (r : ℕ) × (x ≡ refused r)
unfolding is_refused
is_refused_lem (ok v) q = absurd (true≢false (sym q))
is_refused_lem (fault n) q = absurd (true≢false (sym q))
is_refused_lem (refused r) q = (r, refl)

-- a refused call leaves the state and the track as they were
pub left_alone : (s : State) (t : List ℕ) (o : Operation) → is_refused (shown (after (call_at s t o)).answer) ≡ true →
    (state_of (after (call_at s t o)) ≡ s) × ((after (call_at s t o)).track ≡ t)
left_alone s t o q =
    let r = is_refused_lem (shown (after (call_at s t o)).answer) q in
    let l = unchanged (call_at s t o) r.0 r.1 in
    (λ i. record { memory = l.memory i; registers = l.registers i }, l.track)

pub noted_next : (s : State) (t : List ℕ) (o : Operation) → Noted old_window s t → Noted old_window (state_of (after (call_at s t o))) (after (call_at s t o)).track
noted_next s t o n = go (is_refused (shown (after (call_at s t o)).answer)) refl
  where
    go : (b : Bool) → is_refused (shown (after (call_at s t o)).answer) ≡ b → Noted old_window (state_of (after (call_at s t o))) (after (call_at s t o)).track
    go false q = noted_carried s t o q n
    go true q = let l = left_alone s t o q in subst₂ (Noted old_window) (sym l.0) (sym l.1) n

noted_run : (x : After) (os : List Operation) → Noted old_window (state_of x) x.track →
    Noted old_window (state_of (last x (checker_run checker x os))) (last x (checker_run checker x os)).track
unfolding last checker_run
noted_run x [] n = n
noted_run x (o ∷ os) n = noted_run (next checker o x) os (noted_next (state_of x) x.track o n)

pub noted_at_end : (x : Session) → Accepted checker x → Noted old_window (state_of (at_end checker x)) (at_end checker x).track
noted_at_end x acc = noted_run (begun checker x) x.operations (noted_start x.image x.track x.setting acc)
