use mathlib.Core.Path.{sym, ◌∙◌}
use Rattle.text.proofs.PutLaws.{put_fits}
use Rattle.names.specs.Names.{name}
use Rattle.names.proofs.NameLaws.{name_most}
use Rattle.names.proofs.put_name.Goals as goal

pub returns-then-has_room-clause-holds : goal.returns-then-has_room-clause-holds
returns-then-has_room-clause-holds c =
    let w = c.args.w.now in
    rw c.text_of.ensures at c.put.ensures.holds
    ∙ (put_fits 7 w.out.now w.at (name c.args.k) (sym c.has_room.ensures ∙ c.if-has_room.true) (name_most c.args.k)).1
