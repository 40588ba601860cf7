use Rattle.std.proofs.Common.{rules}
use borrow.Author.Tests.{tests}
use Rattle.names.proofs.NameLaws.{named_4, named_5, named_6, named_7}
use Rattle.names.proofs.name_of.Goals as goal

-- No name of this length begins as the text does.
pub returns-in_default-16 : goal.returns-in_default-16
returns-in_default-16 c = named_4 c.args.s.now _ c.in_default.len_at_least c.in_default.len_below (search (tests, rules))

pub returns-in_default-20 : goal.returns-in_default-20
returns-in_default-20 c = named_4 c.args.s.now _ c.in_default.len_at_least c.in_default.len_below (search (tests, rules))

pub returns-in_default-24 : goal.returns-in_default-24
returns-in_default-24 c = named_5 c.args.s.now _ c.in_default.len_at_least c.in_default.len_below (search (tests, rules))

pub returns-in_default-29 : goal.returns-in_default-29
returns-in_default-29 c = named_5 c.args.s.now _ c.in_default.len_at_least c.in_default.len_below (search (tests, rules))

pub returns-in_default-35 : goal.returns-in_default-35
returns-in_default-35 c = named_6 c.args.s.now _ c.in_default.len_at_least c.in_default.len_below (search (tests, rules))

pub returns-in_default-41 : goal.returns-in_default-41
returns-in_default-41 c = named_7 c.args.s.now _ c.in_default.len_at_least c.in_default.len_below (search (tests, rules))
