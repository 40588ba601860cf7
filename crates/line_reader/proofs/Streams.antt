-- Feeding the whole input gives the image of the lines, or their refusal; and feeding part by part is feeding the whole. Assumes nothing.
use Prim.Native.Nat.{ℕ, zero, suc, ◌+◌, ◌*◌, ◌%◌, ◌^◌, ◌≤◌, ◌<◌}
use mathlib.Core.Path.{◌≡◌, refl, ap, ap₂, sym, ◌∙◌, subst}
use mathlib.Core.Bool.{Bool, true, false, cond, ◌&&◌, true≢false}
use mathlib.Core.List.{List, [], ◌∷◌, ◌++◌, append_assoc, append-nil}
use mathlib.Core.Logic.{◌⊎◌, inl, inr}
use native.Mathlib.Omega.{arith}
use native.Mathlib.Decide.{dec_lt}
use lib.Dec.{eqb, ltb}
use lib.ListN.{length, set, take, replicate, length-append, length-set, length-replicate}
use lib.Seq.{take-suc, take-set-le, get_or-set_same}
use borrow.Author.Tests.{lt-ltb, eq-eqb, ne_eqb, eqb-true, eqb-false, ltb-true, ltb-false}
use Rattle.text.specs.Split.{has, until, past, same}
use Rattle.text.proofs.SplitLaws.{join, past_shorter, same_lengths}
use Rattle.names.specs.Names.{newline}
use Rattle.model.specs.declared.Size.TheVariants.{Four}
use Rattle.model.specs.step.Memory.{written_at}
use Rattle.std.specs.declared.option.Option.{Option}
use Rattle.std.specs.declared.option.Option.TheVariants.{Some, None}
use Rattle.std.specs.declared.result.Result.TheVariants.{Ok}
use Rattle.lines.specs.Form.{line_names, line_of}
use Rattle.lines.specs.Words.{Word, is_empty, image_from, end_from}
use Rattle.lines.specs.Ways.{Converted, gives, refusal, length_fits, Read, words, turned, with_word, refuses19, judged, behind, ended, read_lines, has_names, read_all, made, image_of, output}
use Rattle.lines.specs.Settings.{image_limit, file_image}
use Rattle.lines.proofs.LineLaws.{line_fits, line_short}
use Rattle.lines.proofs.WordLaws.{Rises}
use Rattle.lines.proofs.ReadLaws.{order_kept, falls_refused, unaligned_refused, zero_refused, lines_read}
use Rattle.lines.proofs.Theorem.{fits_parts}
use Rattle.line_reader.specs.declared.Flaw.{Flaw}
use Rattle.line_reader.specs.declared.Flaw.TheVariants.{Form, Order}
use Rattle.line_reader.specs.Reading.{State, begun, line_limit, line_after, turn, accept, changed, so_far, names_ended, said, word_ended, line_ended, with_byte, byte_taken, is_decided, decides, step, feed, complete, last_test, by_flaw, ending, EndCall, finished, end_of, end_of_file, Streamed, FileStreamed}
use Rattle.line_reader.proofs.Laws.{byte_added, byte_refused, taken_late, taken_newline, taken_other, step_decided, step_taken, names_good, names_wrong, line_names_lem, line_said, word_falls, word_unaligned, word_good, last_open, file_good}
use Rattle.line_reader.proofs.Stored.{stored, written_length, stored_image}
use Rattle.line_reader.proofs.Front.{front}

below : (a b : ℕ) → (a < b) ⊎ (b ≤ a)
below a b = elim (dec_lt a b) [ yes h ↦ inl h | no n ↦ inr (omega arith) ]

-- ── Parts of the input ──
feed_parts : (xs ys : List ℕ) (s : State) → feed (xs ++ ys) s ≡ feed ys (feed xs s)
unfolding feed
feed_parts [] ys s = refl
feed_parts (x ∷ xs) ys s = feed_parts xs ys (step x s)

feed_decided : (l : List ℕ) (s : State) → is_decided s.reader ≡ true → feed l s ≡ s
unfolding feed
feed_decided [] s h = refl
feed_decided (b ∷ bs) s h = ap (feed bs) (step_decided b s h) ∙ feed_decided bs s h

-- what the end of the input gives after a state
abbrev end_gives : State → Converted
end_gives s = ending s.reader s.image

-- ── States ──
-- a line was turned back: whatever follows, the end gives its refusal
record Back (s : State) (n r : ℕ) : Type 0 where
  stays : is_decided s.reader ≡ true
  refuses : end_gives s ≡ refusal n r

back_end : (l : List ℕ) (s : State) (n r : ℕ) → Back s n r → end_gives (feed l s) ≡ refusal n r
back_end l s n r b = ap end_gives (feed_decided l s b.stays) ∙ b.refuses

-- n lines have ended and t has been read of the next; the image ends at `least`; z says whether the last word is zero
record Holds (s : State) (n : ℕ) (t : List ℕ) (least : ℕ) (z : Bool) (m : List ℕ) : Type 0 where
  good : s.reader.flaw ≡ None
  lines : s.reader.lines ≡ n
  count : s.reader.count ≡ length t
  text : take (length t) s.line ≡ t
  end : s.reader.end ≡ least
  zero : s.reader.zero ≡ z
  image : s.image ≡ m
  room : 17 ≤ length s.line

module _ {s : State} {n : ℕ} {t : List ℕ} {least : ℕ} {z : Bool} {m : List ℕ} (h : Holds s n t least z m) where
  undecided : is_decided s.reader ≡ false
  undecided = ap decides h.good

  so_far_lem : so_far s ≡ t
  so_far_lem = ap (λ (k : ℕ). take k s.line) h.count ∙ h.text

  -- the end of the input there, where the last line has no newline or the names line is missing
  open_end : complete s.reader ≡ false → end_gives s ≡ refusal (line_after n) 18
  open_end c = ap (λ (f : Option Flaw). by_flaw f s.reader s.image) h.good ∙ last_open s.reader s.image c ∙ ap (λ (k : ℕ). refusal (line_after k) 18) h.lines

  -- the line being read is turned back
  turn_back : (v : Flaw) (r : ℕ) → is_decided (turn v s.reader) ≡ true → (end_gives (changed (turn v s.reader) s) ≡ refusal (line_after s.reader.lines) r)
      → (q : State) → q ≡ changed (turn v s.reader) s → Back q (line_after n) r
  turn_back v r d e q f =
      subst (λ (x : State). Back x (line_after n) r) (sym f) (record { stays = d; refuses = e ∙ ap (λ (k : ℕ). refusal (line_after k) r) h.lines })

-- ── A line's bytes ──
take_set : (l : List ℕ) (k b : ℕ) → k < length l → take (suc k) (set l k b) ≡ take k l ++ (b ∷ [])
take_set l k b h =
    take-suc (set l k b) k 0 (omega (arith, length-set l k b))
    ∙ ap₂ (λ (x : List ℕ) (y : ℕ). x ++ (y ∷ [])) (take-set-le k l k b (omega arith)) (get_or-set_same l k b 0 h)

module _ {s : State} {n : ℕ} {t : List ℕ} {least : ℕ} {m : List ℕ} (b : ℕ) (h : Holds s n t least false m) (ne : b ≡ newline → ⊥) where
  byte_held : length t < length s.line → Holds (step b s) n (t ++ (b ∷ [])) least false m
  byte_held k =
      let e = step_taken b s (undecided h) ∙ taken_other b s h.zero ne ∙ byte_added b s (omega (arith, h.count)) in
      let long : length (t ++ (b ∷ [])) ≡ suc (length t) = omega (arith, length-append t (b ∷ [])) in
      subst (λ (q : State). Holds q n (t ++ (b ∷ [])) least false m) (sym e)
      (record {
        good = refl;
        lines = h.lines;
        count = omega (arith, h.count, long);
        text = ap₂ (λ (i j : ℕ). take i (set s.line j b)) long h.count ∙ take_set s.line (length t) b k ∙ ap (λ (x : List ℕ). x ++ (b ∷ [])) h.text;
        end = h.end;
        zero = h.zero;
        image = h.image;
        room = omega (arith, h.room, length-set s.line s.reader.count b);
      })

  byte_over : length s.line ≤ length t → Back (step b s) (line_after n) 18
  byte_over k = turn_back h Form 18 refl refl (step b s) (step_taken b s (undecided h) ∙ taken_other b s h.zero ne ∙ byte_refused b s (omega (arith, h.count)))

-- a text without a newline is held, or longer than any line
lacks : (b x : ℕ) (xs : List ℕ) → has b (x ∷ xs) ≡ false → (x ≡ b → ⊥) × (has b xs ≡ false)
unfolding has
lacks b x xs h = go (eqb x b) refl h
  where
    go : (t : Bool) → eqb x b ≡ t → cond t true (has b xs) ≡ false → (x ≡ b → ⊥) × (has b xs ≡ false)
    go true e k = absurd (true≢false k)
    go false e k = (eqb-false x b e, k)

abbrev Taken : State → ℕ → List ℕ → ℕ → List ℕ → Type 0
Taken s n t least m = Holds s n t least false m ⊎ (Back s (line_after n) 18 × (17 < length t))

text_taken : (u : List ℕ) (s : State) (n : ℕ) (t : List ℕ) (least : ℕ) (m : List ℕ) → Holds s n t least false m → has newline u ≡ false → Taken (feed u s) n (t ++ u) least m
unfolding feed
text_taken [] s n t least m h k = inl (subst (λ (x : List ℕ). Holds s n x least false m) (sym (append-nil t)) h)
text_taken (b ∷ u) s n t least m h k = go (λ q. text_taken u (step b s) n (t ++ (b ∷ [])) least m q (lacks newline b u k).1) (below (length t) (length s.line))
  where
    l : (b ≡ newline → ⊥) × (has newline u ≡ false)
    l = lacks newline b u k

    go : (Holds (step b s) n (t ++ (b ∷ [])) least false m → Taken (feed u (step b s)) n ((t ++ (b ∷ [])) ++ u) least m) → (length t < length s.line) ⊎ (length s.line ≤ length t) → Taken (feed u (step b s)) n (t ++ (b ∷ u)) least m
    go ih (inl p) = subst (λ (x : List ℕ). Taken (feed u (step b s)) n x least m) (append_assoc t (b ∷ []) u) (ih (byte_held b h l.0 p))
    go ih (inr p) =
        let k = byte_over b h l.0 p in
        inr (subst (λ (q : State). Back q (line_after n) 18) (sym (feed_decided u (step b s) k.stays)) k, omega (arith, h.room, length-append t (b ∷ u)))

-- ── Lines ──
-- the words that are read go into the image
abbrev result : List ℕ → ℕ → Read → Converted
result m least (words xs) = cond (length_fits (length m) (end_from least xs)) (gives (take (end_from least xs) (stored m xs))) (refusal 0 19)
result m least (turned n r) = refusal n r

result_word : (m : List ℕ) (least a w : ℕ) (q : Read) → result m least (with_word (record { address = a; word = w }) q) ≡ result (written_at Four m a w) (a + 4) q
unfolding stored end_from
result_word m least a w (words xs) =
    ap (λ (k : ℕ). cond (length_fits k (end_from (a + 4) xs)) (gives (take (end_from (a + 4) xs) (stored (written_at Four m a w) xs))) (refusal 0 19)) (sym (written_length m a w))
result_word m least a w (turned n r) = refl

-- the number of a line has 32 bits: addresses rise
line_number_lem : (n least : ℕ) → 4 * n ≤ least + 4 → least ≤ 2 ^ 32 → line_after n ≡ suc n
unfolding line_after
line_number_lem n least h k = ap (λ (t : Bool). cond t (n + 1) n) (lt-ltb n line_limit (omega arith)) ∙ (let e : n + 1 ≡ suc n = omega arith in e)

-- the end of a line that says a word
module _ {s : State} {n : ℕ} {t : List ℕ} {least : ℕ} {m : List ℕ} (h : Holds s n t least false m) (some : 1 ≤ n) (x : Option (ℕ × ℕ)) (e : line_of t ≡ x) where
  ended_line : step newline s ≡ said x s
  ended_line =
      step_taken newline s (undecided h) ∙ taken_newline newline s h.zero refl
      ∙ line_said s (λ z. omega (arith, h.lines)) x (ap line_of (so_far_lem h) ∙ e)

  line_back : said x s ≡ changed (turn Form s.reader) s → Back (step newline s) (line_after n) 18
  line_back f = turn_back h Form 18 refl refl (step newline s) (ended_line ∙ f)

  order_back : said x s ≡ changed (turn Order s.reader) s → Back (step newline s) (line_after n) 19
  order_back f = turn_back h Order 19 refl refl (step newline s) (ended_line ∙ f)

  word_held : (a w : ℕ) → said x s ≡ record { reader = accept s.reader (a + 4) (eqb w 0); line = s.line; image = written_at Four s.image a w }
      → Holds (step newline s) (line_after n) [] (a + 4) (eqb w 0) (written_at Four m a w)
  word_held a w f =
      subst (λ (q : State). Holds q (line_after n) [] (a + 4) (eqb w 0) (written_at Four m a w)) (sym (ended_line ∙ f))
      (record {
        good = refl;
        lines = ap line_after h.lines;
        count = refl;
        text = refl;
        end = refl;
        zero = refl;
        image = ap (λ (i : List ℕ). written_at Four i a w) h.image;
        room = h.room;
      })

-- a byte behind a zero word
late_back : (b : ℕ) (s : State) (n : ℕ) (least : ℕ) (m : List ℕ) → Holds s n [] least true m → Back (step b s) n 19
late_back b s n least m h =
    subst (λ (q : State). Back q n 19) (sym (step_taken b s (undecided h) ∙ taken_late b s h.zero))
    (record { stays = refl; refuses = ap (λ (k : ℕ). refusal k 19) h.lines })

-- the end of the input at the end of a line
line_end : (s : State) (n least : ℕ) (z : Bool) (m : List ℕ) → 1 ≤ n → Holds s n [] least z m → end_gives s ≡ result m least (words [])
unfolding last_test complete stored end_from
line_end s n least z m some h =
    ap (λ (f : Option Flaw). by_flaw f s.reader s.image) h.good
    ∙ ap₂ (λ (t u : Bool). cond (cond t u false) (cond (length_fits (length s.image) s.reader.end) (gives (take s.reader.end s.image)) (refusal 0 19)) (refusal (line_after s.reader.lines) 18))
    (eq-eqb s.reader.count 0 h.count) (lt-ltb 0 s.reader.lines (omega (arith, h.lines)))
    ∙ ap₂ (λ (i : List ℕ) (k : ℕ). cond (length_fits (length i) k) (gives (take k i)) (refusal 0 19)) h.image h.end

-- the end of the input inside a line
inside_end : (s : State) (n : ℕ) (t : List ℕ) (least : ℕ) (m : List ℕ) → 1 ≤ length t → Taken s n t least m → end_gives s ≡ refusal (line_after n) 18
inside_end s n t least m some (inl h) = open_end h (unfold complete in ap (λ (u : Bool). cond u (ltb 0 s.reader.lines) false) (ne_eqb s.reader.count 0 (λ z. omega (arith, h.count))))
inside_end s n t least m some (inr b) = b.0.refuses

-- ── A whole line, and what follows it ──
-- what is to be shown of the rest of the input behind a line that was accepted
abbrev Rest : ℕ → ℕ → ℕ → List ℕ → Type 0
Rest turns n least rest =
    (z : Bool) (m : List ℕ) (s : State) → 4 * n ≤ least + 4 → least ≤ 2 ^ 32 → (z ≡ true → rest ≡ []) → Holds s n [] least z m → end_gives (feed rest s) ≡ result m least (read_lines turns (suc n) least rest)

module _ (turns n least : ℕ) (m rest u : List ℕ) (s : State) (some : 1 ≤ n) (few : 4 * n ≤ least + 4) (low : least ≤ 2 ^ 32) where
  number : line_after n ≡ suc n
  number = line_number_lem n least few low

  refused_as : (r : ℕ) → Back (step newline s) (line_after n) r → end_gives (feed rest (step newline s)) ≡ refusal (suc n) r
  refused_as r b = back_end rest (step newline s) (line_after n) r b ∙ ap (λ (k : ℕ). refusal k r) number

  -- a word in its place: the rest follows, unless the word is zero and a byte follows it
  word_end : (a w : ℕ) → Holds s n u least false m → line_of u ≡ Some (a, w) → least ≤ a → a % 4 ≡ 0 → a < 2 ^ 32 → Rest turns (suc n) (a + 4) rest
      → end_gives (feed rest (step newline s)) ≡ result m least (judged (suc n) least rest (Some (a, w)) (read_lines turns (suc (suc n)) (a + 4) rest))
  word_end a w h e p q f ih = go rest refl (eqb w 0) refl
    where
      there : Holds (step newline s) (suc n) [] (a + 4) (eqb w 0) (written_at Four m a w)
      there =
          subst (λ (k : ℕ). Holds (step newline s) k [] (a + 4) (eqb w 0) (written_at Four m a w)) number
          (word_held h some (Some (a, w)) e a w (word_good a w s (omega (arith, h.end)) q))

      -- where the line is not turned back
      on : refuses19 least a w rest ≡ false → (w ≡ 0 → rest ≡ []) → end_gives (feed rest (step newline s)) ≡ result m least (judged (suc n) least rest (Some (a, w)) (read_lines turns (suc (suc n)) (a + 4) rest))
      on k last =
          ih (eqb w 0) (written_at Four m a w) (step newline s) (omega (arith, p)) (omega (arith, q, f)) (λ z. last (eqb-true w 0 z)) there
          ∙ sym (result_word m least a w (read_lines turns (suc (suc n)) (a + 4) rest))
          ∙ sym (ap (λ (t : Bool). result m least (cond t (turned (suc n) 19) (with_word (record { address = a; word = w }) (read_lines turns (suc (suc n)) (a + 4) rest)))) k)

      go : (l : List ℕ) → rest ≡ l → (t : Bool) → eqb w 0 ≡ t → end_gives (feed rest (step newline s)) ≡ result m least (judged (suc n) least rest (Some (a, w)) (read_lines turns (suc (suc n)) (a + 4) rest))
      go l g false k = on (order_kept least a w rest p q (λ z. absurd (eqb-false w 0 k z))) (λ z. absurd (eqb-false w 0 k z))
      go [] g true k = on (order_kept least a w rest p q (λ z. g)) (λ z. g)
      go (b ∷ bs) g true k =
          ap (λ (x : List ℕ). end_gives (feed x (step newline s))) g
          ∙ unfold feed in back_end bs (step b (step newline s)) (suc n) 19 (late_back b (step newline s) (suc n) (a + 4) (written_at Four m a w) (subst (λ (t : Bool). Holds (step newline s) (suc n) [] (a + 4) t (written_at Four m a w)) k there))
          ∙ sym (ap (λ (t : Bool). result m least (cond t (turned (suc n) 19) (with_word (record { address = a; word = w }) (read_lines turns (suc (suc n)) (a + 4) rest)))) (zero_refused least a w rest p q (eqb-true w 0 k) (ap is_empty g)))

  -- a line that was held, by what it says
  held_end : (x : Option (ℕ × ℕ)) → Holds s n u least false m → line_of u ≡ x → Rest turns (suc n) (behind x) rest
      → end_gives (feed rest (step newline s)) ≡ result m least (judged (suc n) least rest x (read_lines turns (suc (suc n)) (behind x) rest))
  held_end None h e ih = refused_as 18 (line_back h some None e refl)
  held_end (Some (a, w)) h e ih = go (ltb a least) refl (eqb (a % 4) 0) refl
    where
      f : (a < 2 ^ 32) × (w < 2 ^ 32)
      f = line_fits u a w e

      back : refuses19 least a w rest ≡ true → said (Some (a, w)) s ≡ changed (turn Order s.reader) s
          → end_gives (feed rest (step newline s)) ≡ result m least (judged (suc n) least rest (Some (a, w)) (read_lines turns (suc (suc n)) (a + 4) rest))
      back k g =
          refused_as 19 (order_back h some (Some (a, w)) e g)
          ∙ sym (ap (λ (t : Bool). result m least (cond t (turned (suc n) 19) (with_word (record { address = a; word = w }) (read_lines turns (suc (suc n)) (a + 4) rest)))) k)

      go : (t : Bool) → ltb a least ≡ t → (v : Bool) → eqb (a % 4) 0 ≡ v → end_gives (feed rest (step newline s)) ≡ result m least (judged (suc n) least rest (Some (a, w)) (read_lines turns (suc (suc n)) (a + 4) rest))
      go true p v q = let lt = ltb-true a least p in back (falls_refused least a w rest lt) (word_falls a w s (omega (arith, h.end, lt)))
      go false p false q =
          let le = ltb-false a least p in
          let ne = eqb-false (a % 4) 0 q in
          back (unaligned_refused least a w rest le ne) (word_unaligned a w s (omega (arith, h.end, le)) ne)
      go false p true q = word_end a w h e (ltb-false a least p) (eqb-true (a % 4) 0 q) f.0 ih

  -- a line that was held, or was too long to be one
  taken_end : (x : Option (ℕ × ℕ)) → Taken s n u least m → line_of u ≡ x → Rest turns (suc n) (behind x) rest
      → end_gives (feed rest (step newline s)) ≡ result m least (judged (suc n) least rest x (read_lines turns (suc (suc n)) (behind x) rest))
  taken_end x (inl h) e ih = held_end x h e ih
  taken_end None (inr b) e ih = ap (λ (q : State). end_gives (feed rest q)) (step_decided newline s b.0.stays) ∙ back_end rest s (line_after n) 18 b.0 ∙ ap (λ (k : ℕ). refusal k 18) number
  taken_end (Some (a, w)) (inr b) e ih = absurd (let z : ⊥ = omega (arith, b.1, line_short u a w e) in z)

-- ── The lines from a line on ──
until_lacks : (b : ℕ) (l : List ℕ) → has b (until b l) ≡ false
unfolding has until
until_lacks b [] = refl
until_lacks b (x ∷ xs) = go (until_lacks b xs) (eqb x b) refl
  where
    go : has b (until b xs) ≡ false → (t : Bool) → eqb x b ≡ t → has b (cond t [] (x ∷ until b xs)) ≡ false
    go ih true e = unfold has in refl
    go ih false e = unfold has in rw e ih

-- the input up to the first newline, the newline, and the rest
feed_line : (l : List ℕ) (s : State) → has newline l ≡ true → feed l s ≡ feed (past newline l) (step newline (feed (until newline l) s))
unfolding feed
feed_line l s h =
    ap (λ (k : List ℕ). feed k s) (join newline l h)
    ∙ feed_parts (until newline l) (newline ∷ past newline l) s

stream : (turns n least : ℕ) (l : List ℕ) → length l ≤ turns → 1 ≤ n → Rest turns n least l
stream zero n least l few some z m s a b last h = go l few
  where
    go : (k : List ℕ) → length k ≤ 0 → end_gives (feed k s) ≡ result m least (read_lines zero (suc n) least k)
    go [] p = unfold feed read_lines in line_end s n least z m some h
    go (x ∷ xs) p = absurd (let q : ⊥ = omega arith in q)
stream (suc turns) n least l few some z m s a b last h = go l few last (stream turns (suc n))
  where
    u : List ℕ → List ℕ
    u k = until newline k

    line : List ℕ → Option (ℕ × ℕ)
    line k = line_of (u k)

    Next : Type 0
    Next = (low : ℕ) (k : List ℕ) → length k ≤ turns → 1 ≤ suc n → Rest turns (suc n) low k

    by : (x : ℕ) (xs : List ℕ) → length (x ∷ xs) ≤ suc turns → Next → Holds s n [] least false m → (t : Bool) → has newline (x ∷ xs) ≡ t
        → end_gives (feed (x ∷ xs) s) ≡ result m least (ended t (suc n) (judged (suc n) least (past newline (x ∷ xs)) (line (x ∷ xs)) (read_lines turns (suc (suc n)) (behind (line (x ∷ xs))) (past newline (x ∷ xs)))))
    by x xs p ih g true e =
        ap end_gives (feed_line (x ∷ xs) s e)
        ∙ taken_end turns n least m (past newline (x ∷ xs)) (u (x ∷ xs)) (feed (u (x ∷ xs)) s) some a b (line (x ∷ xs)) (text_taken (u (x ∷ xs)) s n [] least m g (until_lacks newline (x ∷ xs))) refl
        (ih (behind (line (x ∷ xs))) (past newline (x ∷ xs)) (omega (arith, past_shorter newline x xs)) (omega arith))
    by x xs p ih g false e =
        inside_end (feed (x ∷ xs) s) n (x ∷ xs) least m (omega arith) (text_taken (x ∷ xs) s n [] least m g e)
        ∙ ap (λ (k : ℕ). refusal k 18) (line_number_lem n least a b)

    go : (k : List ℕ) → length k ≤ suc turns → (z ≡ true → k ≡ []) → Next → end_gives (feed k s) ≡ result m least (read_lines (suc turns) (suc n) least k)
    go [] p q ih = unfold feed read_lines in line_end s n least z m some h
    go (x ∷ xs) p q ih = unfold read_lines in by x xs p ih (subst (λ (t : Bool). Holds s n [] least t m) (none z refl) h) (has newline (x ∷ xs)) refl
      where
        none : (t : Bool) → z ≡ t → z ≡ false
        none true e = absurd (let w : ⊥ = omega (arith, ap length (q e)) in w)
        none false e = e

-- ── The whole input ──
-- in an image of zeros the words that are read make their image
result_made : (limit : ℕ) (q : Read) → ((xs : List Word) → q ≡ words xs → Rises 0 xs) → result (replicate limit 0) 0 q ≡ made limit q
result_made limit (turned n r) rise = refl
result_made limit (words xs) rise =
    ap (λ (k : ℕ). cond (length_fits k (end_from 0 xs)) (gives (take (end_from 0 xs) (stored (replicate limit 0) xs))) (refusal 0 19)) (length-replicate {A = ℕ} limit 0)
    ∙ go (length_fits limit (end_from 0 xs)) refl
  where
    go : (t : Bool) → length_fits limit (end_from 0 xs) ≡ t → cond t (gives (take (end_from 0 xs) (stored (replicate limit 0) xs))) (refusal 0 19) ≡ cond t (gives (image_from 0 xs)) (refusal 0 19)
    go true e = ap gives (stored_image xs [] 0 limit refl (rise xs refl) (omega (arith, (fits_parts limit (end_from 0 xs) e).3)))
    go false e = refl

first_line_lem : line_after 0 ≡ 1
unfolding line_after
first_line_lem = refl

-- the names line, where it is held
module _ (limit : ℕ) (u rest : List ℕ) (s : State) (h : Holds s 0 u 0 false (replicate limit 0)) where
  ended_names : step newline s ≡ names_ended s
  ended_names = step_taken newline s (undecided h) ∙ taken_newline newline s h.zero refl ∙ line_names_lem s h.lines

  names_held : same u line_names ≡ true → Holds (step newline s) 1 [] 0 false (replicate limit 0)
  names_held e =
      subst (λ (q : State). Holds q 1 [] 0 false (replicate limit 0)) (sym (ended_names ∙ names_good s (ap (λ (x : List ℕ). same x line_names) (so_far_lem h) ∙ e)))
      (record {
        good = refl;
        lines = ap line_after h.lines ∙ first_line_lem;
        count = refl;
        text = refl;
        end = refl;
        zero = refl;
        image = h.image;
        room = h.room;
      })

  names_end : (t : Bool) → same u line_names ≡ t → end_gives (feed rest (step newline s)) ≡ made limit (cond t (read_lines (length rest) 2 0 rest) (turned 1 18))
  names_end true e =
      stream (length rest) 1 0 rest (omega arith) (omega arith) false (replicate limit 0) (step newline s) (omega arith) (omega arith) (λ z. absurd (true≢false (sym z))) (names_held e)
      ∙ result_made limit (read_lines (length rest) 2 0 rest) (λ xs k. (lines_read (length rest) 2 0 rest xs k).1)
  names_end false e =
      back_end rest (step newline s) (line_after 0) 18 (turn_back h Form 18 refl refl (step newline s) (ended_names ∙ names_wrong s (ap (λ (x : List ℕ). same x line_names) (so_far_lem h) ∙ e)))
      ∙ ap (λ (k : ℕ). refusal k 18) first_line_lem

whole : (d : List ℕ) (limit : ℕ) (l : List ℕ) → 17 ≤ length d → end_gives (feed l (begun d limit)) ≡ image_of limit l
whole d limit l room = go (has newline l) refl
  where
    start : Holds (begun d limit) 0 [] 0 false (replicate limit 0)
    start = record { good = refl; lines = refl; count = refl; text = refl; end = refl; zero = refl; image = refl; room = room }

    u : List ℕ
    u = until newline l

    -- the first line, held or too long
    line : Taken (feed u (begun d limit)) 0 u 0 (replicate limit 0) → end_gives (feed (past newline l) (step newline (feed u (begun d limit)))) ≡ made limit (cond (same u line_names) (read_lines (length (past newline l)) 2 0 (past newline l)) (turned 1 18))
    line (inl h) = names_end limit u (past newline l) (feed u (begun d limit)) h (same u line_names) refl
    line (inr b) =
        ap (λ (q : State). end_gives (feed (past newline l) q)) (step_decided newline (feed u (begun d limit)) b.0.stays)
        ∙ back_end (past newline l) (feed u (begun d limit)) (line_after 0) 18 b.0
        ∙ ap (λ (k : ℕ). refusal k 18) first_line_lem
        ∙ sym (ap (λ (t : Bool). made limit (cond t (read_lines (length (past newline l)) 2 0 (past newline l)) (turned 1 18))) (same_lengths u line_names (λ z. omega (arith, b.1, z))))

    -- no newline at all
    none : (k : List ℕ) → Taken (feed k (begun d limit)) 0 k 0 (replicate limit 0) → end_gives (feed k (begun d limit)) ≡ refusal 1 18
    none [] t = unfold feed in open_end start (unfold complete in refl) ∙ ap (λ (k : ℕ). refusal k 18) first_line_lem
    none (x ∷ xs) t = inside_end (feed (x ∷ xs) (begun d limit)) 0 (x ∷ xs) 0 (replicate limit 0) (omega arith) t ∙ ap (λ (k : ℕ). refusal k 18) first_line_lem

    read : (t : Bool) → has newline l ≡ t → image_of limit l ≡ made limit (cond (t && same u line_names) (read_lines (length (past newline l)) 2 0 (past newline l)) (turned 1 18))
    read t e = unfold image_of read_all has_names in ap (λ (v : Bool). made limit (cond (v && same u line_names) (read_lines (length (past newline l)) 2 0 (past newline l)) (turned 1 18))) e

    go : (t : Bool) → has newline l ≡ t → end_gives (feed l (begun d limit)) ≡ image_of limit l
    go true e = ap end_gives (feed_line l (begun d limit) e) ∙ line (text_taken u (begun d limit) 0 [] 0 (replicate limit 0) start (until_lacks newline l)) ∙ sym (read true e)
    go false e = none l (text_taken l (begun d limit) 0 [] 0 (replicate limit 0) start e) ∙ sym (read false e)

-- ── The length of the image's buffer stays ──
abbrev Keeps : State → State → Type 0
Keeps s q = length q.image ≡ length s.image

either : (s p q : State) (t : Bool) → Keeps s p → Keeps s q → Keeps s (cond t p q)
either s p q true a b = a
either s p q false a b = b

said_length : (x : Option (ℕ × ℕ)) (s : State) → Keeps s (said x s)
said_length None s = refl
said_length (Some (a, w)) s = unfold word_ended in
    either s _ _ (ltb a s.reader.end) refl (either s _ _ (eqb (a % 4) 0) (written_length s.image a w) refl)

line_length : (s : State) → Keeps s (line_ended s)
unfolding line_ended names_ended
line_length s = either s _ _ (eqb s.reader.lines 0) (either s _ _ (same (so_far s) line_names) refl refl) (said_length (line_of (so_far s)) s)

step_length : (b : ℕ) (s : State) → Keeps s (step b s)
unfolding step byte_taken with_byte
step_length b s =
    either s _ _ (is_decided s.reader) refl
    (either s _ _ s.reader.zero refl (either s _ _ (eqb b newline) (line_length s) (either s _ _ (ltb s.reader.count (length s.line)) refl refl)))

feed_length : (l : List ℕ) (s : State) → Keeps s (feed l s)
unfolding feed
feed_length [] s = refl
feed_length (b ∷ bs) s = feed_length bs (step b s) ∙ step_length b s

-- ── The output ──
whole_front : (d : List ℕ) (limit : ℕ) (l : List ℕ) → 17 ≤ length d → 18 ≤ limit
    → ((end_of d limit l).told ≡ Ok (length (output (image_of limit l)))) × (take (length (output (image_of limit l))) (end_of d limit l).image ≡ output (image_of limit l))
whole_front d limit l room fit =
    let s = feed l (begun d limit) in
    let long : length s.image ≡ limit = feed_length l (begun d limit) ∙ length-replicate {A = ℕ} limit 0 in
    let f = front s.reader s.image (omega (arith, long)) in
    let e = whole d limit l room in (
      f.0 ∙ ap (λ (g : Converted). Ok (length (output g))) e,
      sym (ap (λ (g : Converted). take (length (output g)) (finished s.reader s.image).image) e) ∙ f.1 ∙ ap output e,
    )

pub streamed : Streamed
streamed = record { parts = feed_parts; decided = feed_decided; whole = whole; front = whole_front }

-- ── The programs ──
-- the image's buffer has kept its length, the limit
file_end : (d l : List ℕ) → end_of_file d l ≡ end_of d image_limit l
file_end d l = let s = feed l (begun d image_limit) in file_good s.reader s.image (feed_length l (begun d image_limit) ∙ length-replicate {A = ℕ} image_limit 0)

file_front : (d l : List ℕ) → 17 ≤ length d → let s = output (file_image l) in ((end_of_file d l).told ≡ Ok (length s)) × (take (length s) (end_of_file d l).image ≡ s)
file_front d l room =
    let f = whole_front d image_limit l room (omega arith) in
    let e = file_end d l in
    (ap (λ (c : EndCall). c.told) e ∙ f.0, ap (λ (c : EndCall). take (length (output (file_image l))) c.image) e ∙ f.1)

pub file_streamed : FileStreamed
file_streamed = record { front = file_front }
