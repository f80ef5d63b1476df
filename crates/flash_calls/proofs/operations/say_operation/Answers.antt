use Prim.{search}
use Rattle.std.proofs.Common.{replicate, rules, ◌∙◌, arith}
use Rattle.std.proofs.lemmas.List.{drop-replicate}
use Rattle.std.proofs.lemmas.Slice.{drop-append-drop}
use Rattle.flash_calls.proofs.operations.say_operation.Goals as goal

pub returns-in-None-clause-rest : goal.returns-in-None-clause-rest
returns-in-None-clause-rest c = drop-replicate c.args.size 128 0

pub returns-in-Some-Read-clause-rest : goal.returns-in-Some-Read-clause-rest
returns-in-Some-Read-clause-rest c = drop-replicate c.args.size 128 0

pub returns-in-Some-Erase-clause-rest : goal.returns-in-Some-Erase-clause-rest
returns-in-Some-Erase-clause-rest c = drop-replicate c.args.size 128 0

pub returns-in-Some-Program-clause-rest : goal.returns-in-Some-Program-clause-rest
returns-in-Some-Program-clause-rest c =
    drop-append-drop c.args.size (replicate 128 0) c.line_bytes.new.bytes c.args.size (omega arith) (c.line_bytes.auto.bytes ∙ search rules) ∙ drop-replicate c.args.size 128 0
