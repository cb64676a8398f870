-- Answers for `image::Index::given_at`. Assumes nothing.
use Rattle.image.proofs.Indexing.{given-found, given_none, given-past}
use Rattle.image.proofs.Index.given_at.Goals as goal

pub returns-in-Some : goal.returns-in-Some
returns-in-Some c =
    let e = rw c.from.ensures at c.entry.ensures.exact in
    given-found _ _ c.args.p _ _ _ c.args.self.now.indexed c.in-Some.is e c.capability.ensures.0

pub returns-in_default : goal.returns-in_default
returns-in_default c = given_none _ _ _ c.args.self.now.indexed c.in_default.is

pub returns-else-p-lt-ALL_SLOTS : goal.returns-else-p-lt-ALL_SLOTS
returns-else-p-lt-ALL_SLOTS c = given-past _ _ _ c.args.self.now.indexed c.if-p-lt-ALL_SLOTS.false
