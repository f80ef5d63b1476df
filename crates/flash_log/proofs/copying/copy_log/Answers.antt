use Rattle.std.proofs.Common.{◌≡◌, ◌+◌, suc, length, ℕ, arith, refl, ap, subst, ◌∙◌}
use Rattle.basics.specs.FaultCount.{Rose}
use Rattle.flash_places.specs.declared.FlashLine.TheVariants.{Head}
use Rattle.flash_places.specs.Places.{Flash, SameOthers}
use Rattle.flash_laws.specs.Logs.{CellList}
use Rattle.flash_laws.specs.Lives.{FlashLayout, next_bank}
use Rattle.flash_log.specs.Going.{Copying, layout_on}
use Rattle.flash_log.proofs.GoingLaws.{copy_more, copy_cut, head_done, head_cut, runs_then, others_then, others_either, OnOk-map, OnErr-map, OnErr-from, programs_at, cuts_program_at}
use Rattle.flash_log.proofs.CopyingLaws.{spare_is, spare_inside, head_blank, free_less, copied_more, holds_copy}
use Rattle.flash_log.proofs.copying.copy_log.Goals as goal

pub program-requires-clause-bank_inside : goal.program-requires-clause-bank_inside
program-requires-clause-bank_inside g c =
    spare_inside c.next_bank-spare.result c.banks.result _ _ c.args.bank c.next_bank-spare.ensures.is c.banks.ensures c.loop-i.invariant.runs.banks
    (g.met.D.FlashDevice.is_flash c.args.device.now).two c.requires.inside

pub program-requires-clause-place_inside : goal.program-requires-clause-place_inside
program-requires-clause-place_inside g c = omega (arith, c.loop-i.invariant.runs.places, c.requires.room)

pub program-requires-clause-blank : goal.program-requires-clause-blank
program-requires-clause-blank g c = ap (λ k. (g.D.FlashDevice.state c.loop-i.device).flash c.next_bank-spare.result k) (let e : 1 + c.loop-i.i ≡ suc c.loop-i.i = omega arith in e)
    ∙ c.loop-i.invariant.free c.loop-i.i (omega arith)

pub program-requires-2-clause-bank_inside : goal.program-requires-2-clause-bank_inside
program-requires-2-clause-bank_inside g c =
    spare_inside c.next_bank-spare.result c.banks.result _ _ c.args.bank c.next_bank-spare.ensures.is c.banks.ensures c.loop-i.invariant.runs.banks
    (g.met.D.FlashDevice.is_flash c.args.device.now).two c.requires.inside

pub returns-in_err-program-clause-runs : goal.returns-in_err-program-clause-runs
returns-in_err-program-clause-runs g c = runs_then _ _ _ c.loop-i.invariant.runs c.program.ensures.runs

pub returns-in_err-program-clause-failed : goal.returns-in_err-program-clause-failed
returns-in_err-program-clause-failed g c = OnErr-from c.from_residual.result (subst (λ z. Rose z (g.D.FlashDevice.state c.program.new.self).faults) c.loop-i.invariant.count c.in_err-program.ensures.failed)

pub returns-in_err-program-clause-others : goal.returns-in_err-program-clause-others
returns-in_err-program-clause-others g c =
    subst (λ z. SameOthers z (g.D.FlashDevice.state c.args.device.now).flash (g.D.FlashDevice.state c.program.new.self).flash)
    (spare_is c.next_bank-spare.result c.banks.result _ c.args.bank c.next_bank-spare.ensures.is c.banks.ensures)
    (others_then c.next_bank-spare.result _ _ _ c.loop-i.invariant.others c.in_err-program.ensures.cut.same.others)

pub returns-in_err-program-clause-cut : goal.returns-in_err-program-clause-cut
returns-in_err-program-clause-cut g c =
    OnErr-from c.from_residual.result (copy_cut (layout_on (g.D.FlashDevice.state c.args.device.now) (length c.args.cells.now)) c.args.bank c.args.generation c.args.cells.now _ _ _ c.loop-i.i c.loop-i.invariant.goes (omega arith)
    (cuts_program_at c.next_bank-spare.result (next_bank (g.D.FlashDevice.state c.args.device.now).banks c.args.bank) (1 + c.loop-i.i) (suc c.loop-i.i) _ _ _ _
    (spare_is c.next_bank-spare.result c.banks.result _ c.args.bank c.next_bank-spare.ensures.is c.banks.ensures) (omega arith) refl c.in_err-program.ensures.cut))

pub loop-i-preserved : goal.loop-i-preserved
loop-i-preserved g c =
    let v = c.loop-i.invariant in
    let does = c.in_ok-program.ensures.done in
    record {
      runs = runs_then _ _ _ v.runs c.program.ensures.runs;
      count = c.in_ok-program.ensures.count ∙ v.count;
      others = others_then c.next_bank-spare.result _ _ _ v.others does.same.others;
      goes = subst (λ k. Copying (layout_on (g.D.FlashDevice.state c.args.device.now) (length c.args.cells.now)) c.args.bank c.args.generation c.args.cells.now k
          (g.D.FlashDevice.state c.args.device.now).flash (g.D.FlashDevice.state c.program.new.self).flash) (let e : suc c.loop-i.i ≡ c.loop-i.i + 1 = omega arith in e)
          (copy_more (layout_on (g.D.FlashDevice.state c.args.device.now) (length c.args.cells.now)) c.args.bank c.args.generation c.args.cells.now _ _ _ c.loop-i.i v.goes (omega arith)
          (programs_at c.next_bank-spare.result (next_bank (g.D.FlashDevice.state c.args.device.now).banks c.args.bank) (1 + c.loop-i.i) (suc c.loop-i.i) _ _ _ _
          (spare_is c.next_bank-spare.result c.banks.result _ c.args.bank c.next_bank-spare.ensures.is c.banks.ensures) (omega arith) refl does));
      head = head_blank _ _ c.next_bank-spare.result c.loop-i.i (1 + c.loop-i.i) c.args.cells.now _ (omega arith) does v.head;
      copied = copied_more _ _ c.next_bank-spare.result c.loop-i.i (1 + c.loop-i.i) c.args.cells.now _ (omega arith) does (c.loop-i.i + 1) (omega arith) refl v.copied;
      free = free_less _ _ c.next_bank-spare.result c.loop-i.i (1 + c.loop-i.i) c.args.cells.now _ (omega arith) does (c.loop-i.i + 1) (omega arith) v.free;
    }

all_done : (l : FlashLayout) (f m : Flash) (bank generation : ℕ) (cells : CellList) (i : ℕ) → i ≡ length cells → Copying l bank generation cells i f m
    → Copying l bank generation cells (length cells) f m
all_done l f m bank generation cells i e h = subst (λ k. Copying l bank generation cells k f m) e h

pub returns-clause-runs : goal.returns-clause-runs
returns-clause-runs g c = runs_then _ _ _ c.loop-i.invariant.runs c.program-2.ensures.runs

pub returns-clause-count : goal.returns-clause-count
returns-clause-count g c = OnOk-map c.program-2.result (λ p. p ∙ c.loop-i.invariant.count) c.program-2.ensures.count

pub returns-clause-failed : goal.returns-clause-failed
returns-clause-failed g c = OnErr-map c.program-2.result (λ p. subst (λ z. Rose z (g.D.FlashDevice.state c.program-2.new.self).faults) c.loop-i.invariant.count p) c.program-2.ensures.failed

pub returns-clause-others : goal.returns-clause-others
returns-clause-others g c =
    subst (λ z. SameOthers z (g.D.FlashDevice.state c.args.device.now).flash (g.D.FlashDevice.state c.program-2.new.self).flash)
    (spare_is c.next_bank-spare.result c.banks.result _ c.args.bank c.next_bank-spare.ensures.is c.banks.ensures)
    (others_then c.next_bank-spare.result _ _ _ c.loop-i.invariant.others
    (others_either c.program-2.result (SameOthers c.next_bank-spare.result (g.D.FlashDevice.state c.loop-i.device).flash (g.D.FlashDevice.state c.program-2.new.self).flash)
    (OnOk-map c.program-2.result (λ p. p.same.others) c.program-2.ensures.done) (OnErr-map c.program-2.result (λ p. p.same.others) c.program-2.ensures.cut)))

pub returns-clause-copy : goal.returns-clause-copy
returns-clause-copy g c = OnOk-map c.program-2.result (λ p.
    holds_copy _ _ c.next_bank-spare.result _ c.loop-i.i (suc c.args.generation) c.args.cells.now
    (spare_is c.next_bank-spare.result c.banks.result _ c.args.bank c.next_bank-spare.ensures.is c.banks.ensures) (omega arith)
    (programs_at c.next_bank-spare.result c.next_bank-spare.result 0 0 _ _ _ _ refl refl (ap (λ n. Head n) (let e : c.args.generation + 1 ≡ suc c.args.generation = omega arith in e)) p)
    c.loop-i.invariant.copied c.loop-i.invariant.free) c.program-2.ensures.done

pub returns-clause-done : goal.returns-clause-done
returns-clause-done g c = OnOk-map c.program-2.result (λ p.
    head_done (layout_on (g.D.FlashDevice.state c.args.device.now) (length c.args.cells.now)) c.args.bank c.args.generation c.args.cells.now _ _ _
    (all_done (layout_on (g.D.FlashDevice.state c.args.device.now) (length c.args.cells.now)) _ _ c.args.bank c.args.generation c.args.cells.now c.loop-i.i (omega arith) c.loop-i.invariant.goes)
    (programs_at c.next_bank-spare.result (next_bank (g.D.FlashDevice.state c.args.device.now).banks c.args.bank) 0 0 _ _ _ _
    (spare_is c.next_bank-spare.result c.banks.result _ c.args.bank c.next_bank-spare.ensures.is c.banks.ensures) refl (ap (λ n. Head n) (let e : c.args.generation + 1 ≡ suc c.args.generation = omega arith in e)) p)) c.program-2.ensures.done

pub returns-clause-cut : goal.returns-clause-cut
returns-clause-cut g c = OnErr-map c.program-2.result (λ p.
    head_cut (layout_on (g.D.FlashDevice.state c.args.device.now) (length c.args.cells.now)) c.args.bank c.args.generation c.args.cells.now _ _ _
    (all_done (layout_on (g.D.FlashDevice.state c.args.device.now) (length c.args.cells.now)) _ _ c.args.bank c.args.generation c.args.cells.now c.loop-i.i (omega arith) c.loop-i.invariant.goes)
    (cuts_program_at c.next_bank-spare.result (next_bank (g.D.FlashDevice.state c.args.device.now).banks c.args.bank) 0 0 _ _ _ _
    (spare_is c.next_bank-spare.result c.banks.result _ c.args.bank c.next_bank-spare.ensures.is c.banks.ensures) refl (ap (λ n. Head n) (let e : c.args.generation + 1 ≡ suc c.args.generation = omega arith in e)) p)) c.program-2.ensures.cut
