use Rattle.she_aes.proofs.Choices.{added_by_shuffles, plain_by_words, plain_by_tables}
use Rattle.she_aes.proofs.encrypt.Goals as goal

pub returns-in-Shuffles-clause-value : goal.returns-in-Shuffles-clause-value
returns-in-Shuffles-clause-value c =
    let are = rw c.schedule.view_is at c.schedule.invariant in
    let made = added_by_shuffles are c.in-Shuffles.ensures in
    rw c.schedule.view_is at c.encrypted.ensures.value made

pub returns-in-Words-clause-value : goal.returns-in-Words-clause-value
returns-in-Words-clause-value c =
    let are = rw c.schedule.view_is at c.schedule.invariant in
    let made = plain_by_words are c.in-Words.ensures in
    rw c.schedule.view_is at c.encrypted-in-Words.ensures.value made

pub returns-in-Tables-clause-value : goal.returns-in-Tables-clause-value
returns-in-Tables-clause-value c =
    let are = rw c.schedule.view_is at c.schedule.invariant in
    let made = plain_by_tables are c.in-Tables.ensures in
    rw c.schedule.view_is at c.encrypted-in-Tables.ensures.value made
