use Rattle.std.proofs.Common.{inl, inr, arith}
use Rattle.std.proofs.lemmas.Bool.{ltb-false}
use Rattle.cell_store.specs.Twin.{first_at}
use Rattle.rathonsi_c.proofs.StaleLaws.{write-beside}
use Rattle.rathonsi_c.proofs.stale.reaches.Goals as goal

pub returns-then-write-eq0 : goal.returns-then-write-eq0
returns-then-write-eq0 c = λ off x room f. write-beside c.args.write.now x (first_at c.args.cell) 68 f (inl c.if-write-eq0.true)

pub returns-then-from-at : goal.returns-then-from-at
returns-then-from-at c = λ off x room f. write-beside c.args.write.now x (first_at c.args.cell) 68 f (inr (inl (let t = c.if-from-at.true in omega arith)))

pub returns : goal.returns
returns c = λ off x room f. write-beside c.args.write.now x (first_at c.args.cell) 68 f (inr (inr (ltb-false _ _ off)))
