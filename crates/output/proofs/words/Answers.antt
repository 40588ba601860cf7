-- Where a text is cut in two, the words stand in front of the cut; where it is not, the cut's text stands nowhere in it.
use Rattle.std.proofs.Common.{Some, None, codes, inl, inr, refl}
use Rattle.std.proofs.lemmas.Str.Pattern.{split_text_parts}
use Rattle.output.proofs.words.Goals as goal

pub returns-in-Some : goal.returns-in-Some
returns-in-Some c =
    let front = c.in-Some.front in
    let rest = c.in-Some.field-0-1 in
    inl (rest.now, split_text_parts (codes " (os error ") c.args.text.now (Some (front, rest)) c.in-Some.ensures.cases)

pub returns-in-None : goal.returns-in-None
returns-in-None c = inr (refl, split_text_parts (codes " (os error ") c.args.text.now None c.in-None.ensures.cases)
