-- Answers for `flow::entry`. Assumes nothing.
use Rattle.flow.proofs.Entries.{accepted_law, listed_law}
use Rattle.flow.proofs.entry.Goals as goal

pub returns : goal.returns
returns c = listed_law _ (accepted_law _ c.args.accepted.now.not_refused) c.requires c.entry.ensures
