-- Answers for `flow::Rows::themselves`. Assumes nothing.
use Rattle.flow.proofs.Answers.{themselves}
use Rattle.flow.proofs.Rows.themselves.Goals as goal

pub returns : goal.returns
returns c = themselves
