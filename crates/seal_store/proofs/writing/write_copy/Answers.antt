use Rattle.std.proofs.Common.{◌+◌, ◌∙◌, inr, inl, [], get_or, arith}
use Rattle.seal_parts.specs.declared.PartClass.TheVariants.{Blanks}
use Rattle.seal_parts.specs.declared.UnitKind.TheVariants.{Line}
use Rattle.seal_parts.specs.declared.UnitContent.TheVariants.{Holds}
use Rattle.seal_parts.specs.declared.LineBody.TheVariants.{Copies}
use Rattle.seal_parts.specs.Parts.{is_blank}
use Rattle.seal_store.proofs.WriteLaws.{runs_then, err_any}
use Rattle.seal_store.proofs.DeedLaws.{programs, cuts}
use Rattle.seal_store.proofs.CopyLaws.{copy_more, copy_cuts}
use Rattle.seal_store.proofs.writing.write_copy.Goals as goal

pub program-requires-clause-may : goal.program-requires-clause-may
program-requires-clause-may g c = is_blank c.loop-i.invariant.erased (c.loop-i.invariant.blank c.loop-i.i (omega arith))

pub returns-in_err-program-clause-cuts : goal.returns-in_err-program-clause-cuts
returns-in_err-program-clause-cuts g c =
    let f = g.P.SealPart.state c.args.part.now in
    let b = g.P.SealPart.state c.loop-i.part in
    let h = g.P.SealPart.state c.program.new.self in
    err_any c.from_residual-in_err-program.result
    (copy_cuts Blanks c.args.bank c.args.generation c.args.cells.now c.loop-i.i c.loop-i-test.true f.flash b.flash h.flash c.loop-i.invariant.done
    (cuts b.class (c.loop-i.invariant.runs.class ∙ c.requires.class) c.args.bank c.loop-i.i Line (Holds (record { generation = c.args.generation; body = Copies c.loop-i.i (get_or c.args.cells.now c.loop-i.i []) })) b.flash h.flash c.in_err-program.ensures.cut))

pub loop-i-preserved : goal.loop-i-preserved
loop-i-preserved g c =
    let f = g.P.SealPart.state c.args.part.now in
    let b = g.P.SealPart.state c.loop-i.part in
    let h = g.P.SealPart.state c.program.new.self in
    let p = c.in_ok-program.ensures.done in
    let v = c.loop-i.invariant in
    record {
      runs = runs_then f b h v.runs c.in_ok-program.ensures.runs;
      count = c.in_ok-program.ensures.count ∙ v.count;
      done = copy_more Blanks c.args.bank c.args.generation c.args.cells.now c.loop-i.i c.loop-i-test.true f.flash b.flash h.flash v.done (c.loop-i.i + 1) (omega arith)
          (programs b.class (v.runs.class ∙ c.requires.class) c.args.bank c.loop-i.i Line (Holds (record { generation = c.args.generation; body = Copies c.loop-i.i (get_or c.args.cells.now c.loop-i.i []) })) b.flash h.flash p);
      erased = p.same.erased c.args.bank ∙ v.erased;
      blank = λ k far. p.same.units c.args.bank k Line (inr (inl (λ e. absurd (omega (arith, e, far))))) ∙ v.blank k (omega (arith, far));
    }
