-- Answers for `image::objects`. Assumes nothing.
use Rattle.rules.specs.State.{objects}
use Rattle.image.proofs.objects.Goals as goal

pub returns-in-Frame : goal.returns-in-Frame
unfolding objects
returns-in-Frame c = rw c.in-Frame.is

pub returns-in-Mailbox : goal.returns-in-Mailbox
unfolding objects
returns-in-Mailbox c = rw c.in-Mailbox.is

pub returns-in-Bell : goal.returns-in-Bell
unfolding objects
returns-in-Bell c = rw c.in-Bell.is
