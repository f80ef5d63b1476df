use Rattle.std.proofs.lemmas.Result.{on_ok_weaker}
use Rattle.std.specs.Prelude.{codes}
use Rattle.slot_commands.specs.StoreWords.{named_if}
use Rattle.slot_commands.proofs.Texts.{five_lists}
use Rattle.slot_commands.proofs.cells.push_flags.Goals as goal

pub returns : goal.returns
returns c =
    let f = c.args.flags in
    on_ok_weaker c.push_if-5.result
    (λ d. five_lists c.args.text.now.items (named_if f.write (codes "WRITE_PROTECTION")) (named_if f.boot (codes "BOOT_PROTECTION"))
    (named_if f.debugger (codes "DEBUGGER_PROTECTION")) (named_if f.usage (codes "KEY_USAGE")) (named_if f.wildcard (codes "WILDCARD")) _ _ _ _ _
    c.in_ok-push_if.ensures c.in_ok-push_if-2.ensures c.in_ok-push_if-3.ensures c.in_ok-push_if-4.ensures d)
    c.push_if-5.ensures
