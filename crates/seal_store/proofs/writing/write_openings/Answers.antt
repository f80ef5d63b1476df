use Rattle.std.proofs.Common.{◌≡◌, ◌+◌, ◌-◌, ℕ, suc, refl, sym, ap, subst, ◌∙◌, arith}
use Rattle.seal_parts.specs.declared.PartClass.TheVariants.{Blanks}
use Rattle.seal_parts.specs.declared.SealLine.{SealLine}
use Rattle.seal_parts.specs.Designs.{DoesPartWrites, CutsPartWrites, MayDoPartWrites}
use Rattle.seal_laws.specs.Writes.{deed_writes, opening_writes, last_after}
use Rattle.seal_store.proofs.WriteLaws.{runs_then, err_any}
use Rattle.seal_store.proofs.OpenLaws.{opening_may, opening_rest, opening_done, opening_cuts}
use Rattle.seal_store.proofs.writing.write_openings.Goals as goal

pub write_deed-requires-clause-may : goal.write_deed-requires-clause-may
write_deed-requires-clause-may g c =
    let p = c.args.point in
    let now = g.P.SealPart.state c.loop-i.part in
    let i = c.loop-i.i in
    let m : ℕ = p.lacking - suc i in
    let less = c.loop-i-test.true in
    subst (λ (z : SealLine). MayDoPartWrites Blanks (deed_writes Blanks p.bank (p.next + i) z) now.flash) (sym c.line_of-line.ensures)
    (opening_may p.bank p.generation i p.next (p.next + i) p.last c.loop-i.last now.flash now.flash now.flash refl c.loop-i.invariant.last m (suc m) refl
    (c.loop-i.invariant.may (suc m) (let e : p.lacking ≡ i + suc m = omega arith in e)))

pub returns-in_err-write_deed-clause-cuts : goal.returns-in_err-write_deed-clause-cuts
returns-in_err-write_deed-clause-cuts g c =
    let p = c.args.point in
    let f = g.P.SealPart.state c.args.part.now in
    let now = g.P.SealPart.state c.loop-i.part in
    let h = g.P.SealPart.state c.write_deed.new.part in
    let i = c.loop-i.i in
    let m : ℕ = p.lacking - suc i in
    let less = c.loop-i-test.true in
    err_any c.from_residual.result
    (opening_cuts p.bank p.generation i p.next (p.next + i) p.last c.loop-i.last f.flash now.flash h.flash refl c.loop-i.invariant.last m p.lacking (let e : p.lacking ≡ i + suc m = omega arith in e) c.loop-i.invariant.done
    (subst (λ (z : SealLine). CutsPartWrites Blanks (deed_writes Blanks p.bank (p.next + i) z) now.flash h.flash) c.line_of-line.ensures c.in_err-write_deed.ensures.cuts))

pub loop-i-init : goal.loop-i-init
loop-i-init g c =
    let p = c.args.point in
    let f = g.P.SealPart.state c.args.part.now in
    record {
      runs = record { class = refl; banks = refl; places = refl; later = omega arith };
      count = refl;
      last = refl;
      done = refl;
      may = λ m is. subst (λ (z : ℕ). MayDoPartWrites Blanks (opening_writes Blanks p.bank p.generation z p.last m) f.flash) (let e : p.next ≡ p.next + 0 = omega arith in e)
          (subst (λ (z : ℕ). MayDoPartWrites Blanks (opening_writes Blanks p.bank p.generation p.next p.last z) f.flash) (let e : p.lacking ≡ m = omega (arith, is) in e) c.requires.may);
    }

pub loop-i-preserved : goal.loop-i-preserved
loop-i-preserved g c =
    let p = c.args.point in
    let f = g.P.SealPart.state c.args.part.now in
    let now = g.P.SealPart.state c.loop-i.part in
    let h = g.P.SealPart.state c.write_deed.new.part in
    let i = c.loop-i.i in
    let v = c.loop-i.invariant in
    let does = subst (λ (z : SealLine). DoesPartWrites Blanks (deed_writes Blanks p.bank (p.next + i) z) now.flash h.flash) c.line_of-line.ensures c.in_ok-write_deed.ensures.does in
    record {
      runs = runs_then f now h v.runs c.in_ok-write_deed.ensures.runs;
      count = c.in_ok-write_deed.ensures.count ∙ v.count;
      last = ap (λ (n : ℕ). last_after p.next p.last n) (let e : suc i ≡ i + 1 = omega arith in e);
      done = opening_done p.bank p.generation i p.next (p.next + i) p.last c.loop-i.last f.flash now.flash h.flash refl v.last (i + 1) (omega arith) v.done does;
      may = λ m is. opening_rest p.bank p.generation i p.next (p.next + i) p.last c.loop-i.last f.flash now.flash h.flash refl v.last m (suc m) (p.next + (i + 1)) refl (omega arith)
          (v.may (suc m) (let e : p.lacking ≡ i + suc m = omega (arith, is) in e)) does;
    }
