-- Answers for `boot::load`. In each, as far as the code has come: `t`, the memory with its head; `e`, the memory with its table. Assumes
-- nothing.
use Rattle.boot.proofs.Loading.{right, tabled_start, tabled_since, tabled_now, entered_none, entered_since, entered_now, entered_all}
use Rattle.boot.proofs.load.Goals as goal

pub table-requires-clause-tabled : goal.table-requires-clause-tabled
table-requires-clause-tabled c =
    let i = c.args.accepted.now.image in
    tabled_now (tabled_start c.requires.words_is c.requires.mem_long_enough c.clear.ensures i.domains_is i.frames_is i.turns_is c.set_head.ensures)

pub entries-requires-clause-entered : goal.entries-requires-clause-entered
entries-requires-clause-entered c =
    let i = c.args.accepted.now.image in
    let t = tabled_start c.requires.words_is c.requires.mem_long_enough c.clear.ensures i.domains_is i.frames_is i.turns_is c.set_head.ensures in
    entered_now (entered_none (right _ c.args.accepted.now.not_refused) (tabled_since t c.table.ensures))

pub returns : goal.returns
returns c =
    let i = c.args.accepted.now.image in
    let t = tabled_start c.requires.words_is c.requires.mem_long_enough c.clear.ensures i.domains_is i.frames_is i.turns_is c.set_head.ensures in
    let e = entered_none (right _ c.args.accepted.now.not_refused) (tabled_since t c.table.ensures) in
    entered_all (entered_since e c.entries.ensures)
