-- Answers for `image::formed`. Assumes nothing.
use Rattle.image.proofs.Form.{whole_law, short_law, sizes_law, length_law, table_law, each_right, entries_law, rises_law, form_law}
use borrow.Author.Rules.{rules}
use Rattle.image.proofs.formed.Goals as goal

pub returns-then-image-lt-HEADER-clause-refusal : goal.returns-then-image-lt-HEADER-clause-refusal
returns-then-image-lt-HEADER-clause-refusal c = search (rules, short_law)

pub returns-then-not-sizes_right-clause-refusal : goal.returns-then-not-sizes_right-clause-refusal
returns-then-not-sizes_right-clause-refusal c = search (rules, sizes_law)

pub returns-then-not-length_right-clause-refusal : goal.returns-then-not-length_right-clause-refusal
returns-then-not-length_right-clause-refusal c = search (rules, length_law)

pub of-image-requires : goal.of-image-requires
of-image-requires c = whole_law _ _ c.length_right.ensures c.if-not-length_right.false

pub returns-then-not-turns_right-clause-refusal : goal.returns-then-not-turns_right-clause-refusal
returns-then-not-turns_right-clause-refusal c =
    let p = rw c.of-image.ensures at c.turns_right.ensures in
    table_law _ c.if-image-lt-HEADER.false _ c.sizes_right.ensures c.if-not-sizes_right.false _ c.length_right.ensures c.if-not-length_right.false _ p c.if-not-turns_right.true

pub returns-then-not-entries_right-clause-refusal : goal.returns-then-not-entries_right-clause-refusal
returns-then-not-entries_right-clause-refusal c =
    let p = rw c.of-image.ensures at c.turns_right.ensures in
    let i = c.of-image.result in
    let q = each_right c.entries_right.ensures i.domains_is i.frames_is i.entries_is c.of-image.ensures in
    entries_law _ c.if-image-lt-HEADER.false _ c.sizes_right.ensures c.if-not-sizes_right.false _ c.length_right.ensures c.if-not-length_right.false _ p c.if-not-turns_right.false
    _ q c.if-not-entries_right.true

pub returns-then-not-rises-clause-refusal : goal.returns-then-not-rises-clause-refusal
returns-then-not-rises-clause-refusal c =
    let p = rw c.of-image.ensures at c.turns_right.ensures in
    let i = c.of-image.result in
    let q = each_right c.entries_right.ensures i.domains_is i.frames_is i.entries_is c.of-image.ensures in
    let r = rw c.of-image.ensures at c.rises.ensures in
    rises_law _ c.if-image-lt-HEADER.false _ c.sizes_right.ensures c.if-not-sizes_right.false _ c.length_right.ensures c.if-not-length_right.false _ p c.if-not-turns_right.false
    _ q c.if-not-entries_right.false _ r c.if-not-rises.true

pub returns-clause-refusal : goal.returns-clause-refusal
returns-clause-refusal c =
    let p = rw c.of-image.ensures at c.turns_right.ensures in
    let i = c.of-image.result in
    let q = each_right c.entries_right.ensures i.domains_is i.frames_is i.entries_is c.of-image.ensures in
    let r = rw c.of-image.ensures at c.rises.ensures in
    form_law _ c.if-image-lt-HEADER.false _ c.sizes_right.ensures c.if-not-sizes_right.false _ c.length_right.ensures c.if-not-length_right.false _ p c.if-not-turns_right.false
    _ q c.if-not-entries_right.false _ r c.if-not-rises.false
