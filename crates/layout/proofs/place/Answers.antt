-- Answers for `layout::place`. Assumes nothing.
use Rattle.layout.proofs.Stores.{place_law}
use borrow.Author.Rules.{rules}
use Rattle.layout.proofs.place.Goals as goal

pub returns-clause-stored : goal.returns-clause-stored
returns-clause-stored c = place_law c.args.mem.now c.args.p c.args.c (search rules) (search rules)
