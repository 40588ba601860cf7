-- An accepted list is the text of its operations, so two accepted lists with the same operations are the same bytes; and the text of
-- operations that have lines is accepted, with those operations. Assumes nothing.
use Prim.Native.Nat.{ℕ, zero, suc, ◌+◌, ◌≤◌}
use mathlib.Core.Path.{◌≡◌, refl, ap, ap₂, sym, ◌∙◌}
use mathlib.Core.Bool.{Bool, true, false, cond, true≢false}
use mathlib.Core.List.{List, [], ◌∷◌, ◌++◌, append_assoc}
use native.Mathlib.Omega.{arith}
use mathlib.Core.Logic.{◌⊎◌, inl, inr, ⊎_elim}
use lib.ListN.{length, length-append}
use borrow.Author.Tests.{le-ltb}
use Rattle.std.specs.Prelude.{Option, Some, None, Result, Ok, Err}
use Rattle.text.specs.Split.{has, until, past, same}
use Rattle.text.specs.Hex.{value_of, hex_of}
use Rattle.text.proofs.SplitLaws.{join, join_parts, has_append, same_equal, same_refl}
use Rattle.text.proofs.HexLaws.{hex_some, value_text, text_value, hex_lacks}
use Rattle.model.specs.declared.Kind.{Kind}
use Rattle.model.specs.declared.Kind.TheVariants.{Read, Write, Root, Asid, Mode, All, Addr, Ctx, AddrCtx, Fetch, Domain}
use Rattle.model.specs.declared.Operation.{Operation}
use Rattle.listing.specs.declared.Reason.{Reason}
use Rattle.listing.specs.declared.Reason.TheVariants.{TooLong, Names, Shape, Unused}
use Rattle.names.proofs.NameLaws.{name_some, comma_no_digit, newline_no_digit}
use Rattle.names.specs.Names.{comma, newline, names, name, kinds, named_in, named_of}
use Rattle.listing.specs.Line.{zeros, used, op_of, judged, values_of, field_a, field_b, field_c, fields_of, line_of, line_text, Valid}
use Rattle.listing.specs.Whole.{list_limit, too_long, has_names, Ending, finished, stopped, Reading, stopped_at, nothing_left, read_line, if_empty, read_lines, read_list, Accepts, lines_text, list_text, AllValid, more, Canonical}

-- a refusal is no operation
no_op : {r : Reason} {o : Operation} {A : Type 0} → Err r ≡ Ok o → A
no_op h = let z : ◌≡◌ {A = ℕ} 0 1 = cc in absurd (omega arith)

pub named_name : (ks : List Kind) (s : List ℕ) (k : Kind) → named_in ks s ≡ Some k → s ≡ name k
unfolding named_in
named_name [] s k h = let z : ◌≡◌ {A = ℕ} 0 1 = cc in absurd (omega arith)
named_name (j ∷ ks) s k h = go (named_name ks s k) (same s (name j)) refl h
  where
    go : (named_in ks s ≡ Some k → s ≡ name k) → (t : Bool) → same s (name j) ≡ t → cond t (Some j) (named_in ks s) ≡ Some k → s ≡ name k
    go ih true e q = let p : j ≡ k = cc in same_equal s (name j) e ∙ ap name p
    go ih false e q = ih q

-- what a line's parts are where the line holds an operation
module _ (o : Operation) where
  op_parts : (k : Kind) (a b c : ℕ) → op_of k a b c ≡ Ok o → o ≡ record { kind = k; a = a; b = b; c = c }
  unfolding op_of
  op_parts k a b c h = go (zeros (used k) a b c) h
    where
      go : (t : Bool) → cond t (Ok (record { kind = k; a = a; b = b; c = c })) (Err Unused) ≡ Ok o → o ≡ record { kind = k; a = a; b = b; c = c }
      go true e = cc
      go false e = no_op e

  judged_parts : (n : Option Kind) (a b c : ℕ) → judged n (Some (a, b, c)) ≡ Ok o → (n ≡ Some o.kind) × (a ≡ o.a) × (b ≡ o.b) × (c ≡ o.c)
  unfolding judged
  judged_parts (Some k) a b c h =
      let e = op_parts k a b c h in
      (sym (ap (λ (q : Operation). Some q.kind) e), sym (ap (λ (q : Operation). q.a) e), sym (ap (λ (q : Operation). q.b) e), sym (ap (λ (q : Operation). q.c) e))
  judged_parts None a b c h = no_op h

  -- whatever the name, values that are spelled wrong are no operation's
  wrong_parts : {A : Type 0} (n : Option Kind) → judged n None ≡ Ok o → A
  unfolding judged
  wrong_parts (Some k) h = no_op h
  wrong_parts None h = no_op h

  value_parts : (n : Option Kind) (a b c : Option ℕ) → judged n (values_of a b c) ≡ Ok o → (n ≡ Some o.kind) × (a ≡ Some o.a) × (b ≡ Some o.b) × (c ≡ Some o.c)
  unfolding values_of
  value_parts n (Some a) (Some b) (Some c) h = let e = judged_parts n a b c h in (e.0, ap Some e.1, ap Some e.2, ap Some e.3)
  value_parts n (Some a) (Some b) None h = wrong_parts n h
  value_parts n (Some a) None c h = wrong_parts n h
  value_parts n None b c h = wrong_parts n h

  c_parts : (n : Option Kind) (a b : Option ℕ) (l : List ℕ) → field_c n a b l ≡ Ok o → (n ≡ Some o.kind) × (a ≡ Some o.a) × (b ≡ Some o.b) × (l ≡ hex_of o.c)
  unfolding field_c
  c_parts n a b l h = go (has comma l) h
    where
      go : (t : Bool) → cond t (Err Shape) (judged n (values_of a b (value_of l))) ≡ Ok o → (n ≡ Some o.kind) × (a ≡ Some o.a) × (b ≡ Some o.b) × (l ≡ hex_of o.c)
      go true e = no_op e
      go false e = let q = value_parts n a b (value_of l) e in (q.0, q.1, q.2, value_text l o.c q.3)

  b_parts : (n : Option Kind) (a : Option ℕ) (l : List ℕ) → field_b n a l ≡ Ok o → (n ≡ Some o.kind) × (a ≡ Some o.a) × (l ≡ hex_of o.b ++ (comma ∷ hex_of o.c))
  unfolding field_b
  b_parts n a l h = go (has comma l) refl h
    where
      go : (t : Bool) → has comma l ≡ t → cond t (field_c n a (value_of (until comma l)) (past comma l)) (Err Shape) ≡ Ok o → (n ≡ Some o.kind) × (a ≡ Some o.a) × (l ≡ hex_of o.b ++ (comma ∷ hex_of o.c))
      go true e q =
          let p = c_parts n a (value_of (until comma l)) (past comma l) q in
          (p.0, p.1, join comma l e ∙ ap₂ (λ (x y : List ℕ). x ++ (comma ∷ y)) (value_text (until comma l) o.b p.2) p.3)
      go false e q = no_op q

  a_parts : (n : Option Kind) (l : List ℕ) → field_a n l ≡ Ok o → (n ≡ Some o.kind) × (l ≡ hex_of o.a ++ (comma ∷ (hex_of o.b ++ (comma ∷ hex_of o.c))))
  unfolding field_a
  a_parts n l h = go (has comma l) refl h
    where
      go : (t : Bool) → has comma l ≡ t → cond t (field_b n (value_of (until comma l)) (past comma l)) (Err Shape) ≡ Ok o → (n ≡ Some o.kind) × (l ≡ hex_of o.a ++ (comma ∷ (hex_of o.b ++ (comma ∷ hex_of o.c))))
      go true e q =
          let p = b_parts n (value_of (until comma l)) (past comma l) q in
          (p.0, join comma l e ∙ ap₂ (λ (x y : List ℕ). x ++ (comma ∷ y)) (value_text (until comma l) o.a p.1) p.2)
      go false e q = no_op q

  fields_text : (l : List ℕ) → fields_of l ≡ Ok o → l ≡ name o.kind ++ (comma ∷ (hex_of o.a ++ (comma ∷ (hex_of o.b ++ (comma ∷ hex_of o.c)))))
  unfolding fields_of
  fields_text l h = go (has comma l) refl h
    where
      go : (t : Bool) → has comma l ≡ t → cond t (field_a (named_of (until comma l)) (past comma l)) (Err Shape) ≡ Ok o → l ≡ name o.kind ++ (comma ∷ (hex_of o.a ++ (comma ∷ (hex_of o.b ++ (comma ∷ hex_of o.c)))))
      go true e q =
          let p = a_parts (named_of (until comma l)) (past comma l) q in
          join comma l e ∙ ap₂ (λ (x y : List ℕ). x ++ (comma ∷ y)) (named_name kinds (until comma l) o.kind p.0) p.1
      go false e q = no_op q

  -- a line that holds an operation is the operation's text
  pub line_text_lem : (l : List ℕ) → line_of l ≡ Ok o → l ≡ line_text o ++ past newline l
  unfolding line_of line_text
  line_text_lem l h = go (has newline l) refl h
    where
      go : (t : Bool) → has newline l ≡ t → cond t (fields_of (until newline l)) (Err Shape) ≡ Ok o → l ≡ (name o.kind ++ (comma ∷ (hex_of o.a ++ (comma ∷ (hex_of o.b ++ (comma ∷ (hex_of o.c ++ (newline ∷ [])))))))) ++ past newline l
      go true e q = join newline l e ∙ ap (λ (x : List ℕ). x ++ (newline ∷ past newline l)) (fields_text (until newline l) q) ∙ simp append_assoc
      go false e q = no_op q

-- a list that is turned back is not accepted
abbrev all : List Operation → Reading
all os = record { operations = os; ending = finished }

no_list : {n : ℕ} {x : Reason} {os : List Operation} {A : Type 0} → stopped_at n x ≡ all os → A
no_list {n} {x} h = let e : stopped n x ≡ finished = ap (λ (r : Reading). r.ending) h in let z : ◌≡◌ {A = ℕ} 0 1 = cc in absurd (omega arith)

-- a line in front of what is accepted
step_text : (n : ℕ) (l : List ℕ) (i : Result Operation Reason) (q : Reading) (os : List Operation) → line_of l ≡ i → ((ps : List Operation) → q ≡ all ps → past newline l ≡ lines_text ps) → read_line n i q ≡ all os → l ≡ lines_text os
unfolding lines_text
step_text n l (Ok o) q os e ih h =
    let f : q.ending ≡ finished = ap (λ (r : Reading). r.ending) h in
    let p : o ∷ q.operations ≡ os = ap (λ (r : Reading). r.operations) h in
    line_text_lem o l e ∙ ap (λ (x : List ℕ). line_text o ++ x) (ih q.operations (ap (λ (z : Ending). record { operations = q.operations; ending = z }) f)) ∙ ap lines_text p
step_text n l (Err r) q os e ih h = no_list h

none_text : (os : List Operation) → nothing_left ≡ all os → [] ≡ lines_text os
unfolding lines_text
none_text os h = ap lines_text (ap (λ (r : Reading). r.operations) h)

ops_text : (turns n : ℕ) (l : List ℕ) (os : List Operation) → read_lines turns n l ≡ all os → l ≡ lines_text os
unfolding read_lines
ops_text zero n l os h = go l h
  where
    go : (k : List ℕ) → if_empty k nothing_left (stopped_at n Shape) ≡ all os → k ≡ lines_text os
    go [] e = none_text os e
    go (x ∷ xs) e = no_list e
ops_text (suc turns) n l os h = go l (step_text n l (line_of l) (read_lines turns (suc n) (past newline l)) os refl (ops_text turns (suc n) (past newline l))) h
  where
    go : (k : List ℕ) → (read_line n (line_of k) (read_lines turns (suc n) (past newline k)) ≡ all os → k ≡ lines_text os) → if_empty k nothing_left (read_line n (line_of k) (read_lines turns (suc n) (past newline k))) ≡ all os → k ≡ lines_text os
    go [] f e = none_text os e
    go (x ∷ xs) f e = f e

-- an accepted list is the text of its operations
pub list_text_lem : (l : List ℕ) (os : List Operation) → Accepts l os → l ≡ list_text os
unfolding read_list has_names list_text
list_text_lem l os h = go (too_long l) (has newline l) refl (same (until newline l) names) refl h
  where
    go : (s t : Bool) → has newline l ≡ t → (u : Bool) → same (until newline l) names ≡ u → cond s (stopped_at 1 TooLong) (cond (cond t u false) (read_lines (length (past newline l)) 2 (past newline l)) (stopped_at 1 Names)) ≡ all os → l ≡ names ++ (newline ∷ lines_text os)
    go false true e true f q = join newline l e ∙ ap₂ (λ (x y : List ℕ). x ++ (newline ∷ y)) (same_equal (until newline l) names f) (ops_text (length (past newline l)) 2 (past newline l) os q)
    go false true e false f q = no_list q
    go false false e u f q = no_list q
    go true t e u f q = no_list q

-- the other way: the text of operations that have lines is accepted
named_known : (k : Kind) → named_of (name k) ≡ Some k
unfolding named_in same
named_known Read = refl
named_known Write = refl
named_known Root = refl
named_known Asid = refl
named_known Mode = refl
named_known All = refl
named_known Addr = refl
named_known Ctx = refl
named_known AddrCtx = refl
named_known Fetch = refl
named_known Domain = refl

name_lacks : (b : ℕ) → (b ≡ comma) ⊎ (b ≡ newline) → (k : Kind) → has b (name k) ≡ false
unfolding has
name_lacks b w Read = ⊎_elim (λ e. rw e) (λ e. rw e) w
name_lacks b w Write = ⊎_elim (λ e. rw e) (λ e. rw e) w
name_lacks b w Root = ⊎_elim (λ e. rw e) (λ e. rw e) w
name_lacks b w Asid = ⊎_elim (λ e. rw e) (λ e. rw e) w
name_lacks b w Mode = ⊎_elim (λ e. rw e) (λ e. rw e) w
name_lacks b w All = ⊎_elim (λ e. rw e) (λ e. rw e) w
name_lacks b w Addr = ⊎_elim (λ e. rw e) (λ e. rw e) w
name_lacks b w Ctx = ⊎_elim (λ e. rw e) (λ e. rw e) w
name_lacks b w AddrCtx = ⊎_elim (λ e. rw e) (λ e. rw e) w
name_lacks b w Fetch = ⊎_elim (λ e. rw e) (λ e. rw e) w
name_lacks b w Domain = ⊎_elim (λ e. rw e) (λ e. rw e) w

-- the line of an operation, and what follows it
module _ (o : Operation) (v : Valid o) where
  text_fields : fields_of (name o.kind ++ (comma ∷ (hex_of o.a ++ (comma ∷ (hex_of o.b ++ (comma ∷ hex_of o.c)))))) ≡ Ok o
  unfolding fields_of field_a field_b field_c values_of judged op_of
  text_fields =
      let c = hex_of o.c in
      let b = hex_of o.b ++ (comma ∷ c) in
      let a = hex_of o.a ++ (comma ∷ b) in
      let p = join_parts comma (name o.kind) a (name_lacks comma (inl refl) o.kind) in
      let q = join_parts comma (hex_of o.a) b (hex_lacks comma o.a comma_no_digit v.a_fits) in
      let r = join_parts comma (hex_of o.b) c (hex_lacks comma o.b comma_no_digit v.b_fits) in
      let s = hex_lacks comma o.c comma_no_digit v.c_fits in
      rw (p.0, p.1, p.2, q.0, q.1, q.2, r.0, r.1, r.2, s, named_known o.kind, text_value o.a v.a_fits, text_value o.b v.b_fits, text_value o.c v.c_fits, v.unused)

  -- the operation's line in front of anything
  module _ (rest : List ℕ) where
    body : List ℕ
    body = name o.kind ++ (comma ∷ (hex_of o.a ++ (comma ∷ (hex_of o.b ++ (comma ∷ hex_of o.c)))))

    body_line : line_text o ++ rest ≡ body ++ (newline ∷ rest)
    unfolding line_text body
    body_line = simp append_assoc

    comma_more : (xs ys : List ℕ) → has newline xs ≡ false → has newline ys ≡ false → has newline (xs ++ (comma ∷ ys)) ≡ false
    comma_more xs ys h k = has_append newline xs (comma ∷ ys) h (unfold has in k)

    body_lacks : has newline body ≡ false
    unfolding body
    body_lacks =
        comma_more (name o.kind) _ (name_lacks newline (inr refl) o.kind)
        (comma_more (hex_of o.a) _ (hex_lacks newline o.a newline_no_digit v.a_fits)
        (comma_more (hex_of o.b) _ (hex_lacks newline o.b newline_no_digit v.b_fits)
        (hex_lacks newline o.c newline_no_digit v.c_fits)))

    pub text_line : (line_of (line_text o ++ rest) ≡ Ok o) × (past newline (line_text o ++ rest) ≡ rest) × (has newline (line_text o ++ rest) ≡ true)
    unfolding line_of body
    text_line =
        let p = join_parts newline body rest body_lacks in
        (rw (body_line, p.0, p.1) text_fields, rw body_line p.2, rw body_line p.0)

not_empty : (b : ℕ) (l : List ℕ) (p q : Reading) → has b l ≡ true → if_empty l p q ≡ q
unfolding has
not_empty b [] p q h = absurd (true≢false (sym h))
not_empty b (x ∷ xs) p q h = refl

empty_ops : (turns n : ℕ) → read_lines turns n [] ≡ nothing_left
unfolding read_lines
empty_ops zero n = refl
empty_ops (suc turns) n = refl

text_ops : (os : List Operation) (turns n : ℕ) → AllValid os → length os ≤ turns → read_lines turns n (lines_text os) ≡ all os
unfolding lines_text read_lines
text_ops [] turns n v h = empty_ops turns n
text_ops (o ∷ os) zero n v h = absurd (omega arith)
text_ops (o ∷ os) (suc turns) n (more w v) h =
    let p = text_line o w (lines_text os) in
    not_empty newline (line_text o ++ lines_text os) nothing_left _ p.2
    ∙ rw (p.0, p.1) (ap (λ (r : Reading). read_line n (Ok o) r) (text_ops os turns (suc n) v (omega arith)))

line_length : (o : Operation) → 1 ≤ length (line_text o)
unfolding line_text
line_length o = omega (arith, length-append (name o.kind) (comma ∷ (hex_of o.a ++ (comma ∷ (hex_of o.b ++ (comma ∷ (hex_of o.c ++ (newline ∷ []))))))))

lines_length : (os : List Operation) → length os ≤ length (lines_text os)
unfolding lines_text
lines_length [] = omega arith
lines_length (o ∷ os) = omega (arith, length-append (line_text o) (lines_text os), line_length o, lines_length os)

pub text_list : (os : List Operation) → AllValid os → length (list_text os) ≤ list_limit → Accepts (list_text os) os
unfolding read_list too_long has_names list_text
text_list os v h =
    let l = names ++ (newline ∷ lines_text os) in
    let p = join_parts newline names (lines_text os) (unfold has in refl) in
    rw (le-ltb list_limit (length l) h, p.0, p.1, p.2, same_refl names) (text_ops os (length (lines_text os)) 2 v (lines_length os))

-- the second sentence of demand 2
pub canonical : Canonical
canonical = record { printed = list_text_lem; same_bytes = λ l m os h k. list_text_lem l os h ∙ sym (list_text_lem m os k); accepted = text_list }

-- a line that holds an operation has ten bytes or more
pub line_long : (o : Operation) → 10 ≤ length (line_text o)
unfolding line_text
line_long o = simp length-append (omega (arith, name_some o.kind, hex_some o.a, hex_some o.b, hex_some o.c))

pub line_rest : (o : Operation) (l : List ℕ) → line_of l ≡ Ok o → length (past newline l) + 10 ≤ length l
line_rest o l h = omega (arith, line_long o, ap length (line_text_lem o l h), length-append (line_text o) (past newline l))
