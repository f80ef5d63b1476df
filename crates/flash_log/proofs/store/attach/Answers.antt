use Rattle.std.proofs.Common.{◌≡◌, ◌+◌, ◌<◌, true, length, refl, sym, ◌∙◌, arith}
use Rattle.std.proofs.lemmas.Bool.{true≢false}
use Rattle.flash_laws.specs.Lives.{Scans, off, found, was_found}
use Rattle.flash_log.specs.Going.{Goes, BlankFrom, machine, layout_on}
use Rattle.flash_log.specs.Taking.{last_generation}
use Rattle.flash_log.specs.declared.scanning.FoundLog.{FoundLog}
use Rattle.flash_log.proofs.GoingLaws.{goes_then, in_some}
use Rattle.flash_log.proofs.CopyingLaws.{spare_is}
use Rattle.flash_log.proofs.StoreLaws.{goes_on, older_is_noted, renewed, renewed_cut}
use Rattle.flash_log.proofs.store.attach.Goals as goal

pub returns-in-Ok-clause-ready : goal.returns-in-Ok-clause-ready
returns-in-Ok-clause-ready g c =
    let log = c.in-Ok-Some.found in
    goes_then (layout_on (g.D.FlashDevice.state c.args.device.now) (length c.args.cells.now)) _ (machine (g.D.FlashDevice.state c.scan.new.device).flash (found log.bank log.generation c.scan.new.cells log.next)) _
    (in_some (λ (z : FoundLog). Goes (layout_on (g.D.FlashDevice.state c.args.device.now) (length c.args.cells.now)) (machine (g.D.FlashDevice.state c.args.device.now).flash off)
    (machine (g.D.FlashDevice.state c.scan.new.device).flash (found z.bank z.generation c.scan.new.cells z.next))) c.in-Ok-Some.field-0 log c.in-Ok-Some.ensures.found c.in-Ok-Some.field-0-is)
    (renewed (g.D.FlashDevice.state c.args.device.now).banks (g.D.FlashDevice.state c.scan.new.device).banks (length c.args.cells.now) (length c.scan.new.cells) log.bank log.generation c.scan.new.cells
    (g.D.FlashDevice.state c.scan.new.device).flash (g.D.FlashDevice.state c.renew.new.device).flash c.scan.ensures.runs.banks c.scan.auto.cells (found log.bank log.generation c.scan.new.cells log.next) (was_found log.next refl) c.in-Ok.ensures.done
    c.next_bank.result (log.generation + 1) (1 + length c.scan.new.cells)
    (spare_is c.next_bank.result c.banks-banks.result _ log.bank c.next_bank.ensures.is (c.banks-banks.ensures ∙ c.scan.ensures.runs.banks)) (omega arith) (omega arith))

pub returns-in-Err-renew-clause-cut : goal.returns-in-Err-renew-clause-cut
returns-in-Err-renew-clause-cut g c =
    let log = c.in-Ok-Some.found in
    goes_then (layout_on (g.D.FlashDevice.state c.args.device.now) (length c.args.cells.now)) _ (machine (g.D.FlashDevice.state c.scan.new.device).flash (found log.bank log.generation c.scan.new.cells log.next)) _
    (in_some (λ (z : FoundLog). Goes (layout_on (g.D.FlashDevice.state c.args.device.now) (length c.args.cells.now)) (machine (g.D.FlashDevice.state c.args.device.now).flash off)
    (machine (g.D.FlashDevice.state c.scan.new.device).flash (found z.bank z.generation c.scan.new.cells z.next))) c.in-Ok-Some.field-0 log c.in-Ok-Some.ensures.found c.in-Ok-Some.field-0-is)
    (renewed_cut (g.D.FlashDevice.state c.args.device.now).banks (g.D.FlashDevice.state c.scan.new.device).banks (length c.args.cells.now) (length c.scan.new.cells) log.bank log.generation c.scan.new.cells
    (g.D.FlashDevice.state c.scan.new.device).flash (g.D.FlashDevice.state c.renew.new.device).flash c.scan.ensures.runs.banks c.scan.auto.cells (found log.bank log.generation c.scan.new.cells log.next) (was_found log.next refl) c.in-Err-renew.ensures.cut)

pub may_go_on-requires-clause-inside : goal.may_go_on-requires-clause-inside
may_go_on-requires-clause-inside g c =
    let h = in_some (λ (z : FoundLog). z.bank < (g.D.FlashDevice.state c.args.device.now).banks) c.in-Ok-Some.field-0 c.in-Ok-Some.found c.in-Ok-Some.ensures.inside c.in-Ok-Some.field-0-is in
    omega (arith, h, c.banks-banks.ensures, c.scan.ensures.runs.banks)

pub may_go_on-requires-clause-few : goal.may_go_on-requires-clause-few
may_go_on-requires-clause-few g c =
    let few = (g.met.D.FlashDevice.is_flash c.scan.new.device).few in
    omega (arith, few, c.banks-banks.ensures)

pub returns-then-may_go_on-clause-ready : goal.returns-then-may_go_on-clause-ready
returns-then-may_go_on-clause-ready g c =
    let log = c.in-Ok-Some.found in
    let inside = in_some (λ (z : FoundLog). z.bank < (g.D.FlashDevice.state c.args.device.now).banks) c.in-Ok-Some.field-0 c.in-Ok-Some.found c.in-Ok-Some.ensures.inside c.in-Ok-Some.field-0-is in
    let free = in_some (λ (z : FoundLog). z.is_free ≡ true → BlankFrom (g.D.FlashDevice.state c.scan.new.device).flash z.bank z.next) c.in-Ok-Some.field-0 c.in-Ok-Some.found c.in-Ok-Some.ensures.free c.in-Ok-Some.field-0-is in
    goes_on (layout_on (g.D.FlashDevice.state c.args.device.now) (length c.args.cells.now)) c.banks-banks.result log c.scan.new.cells (g.D.FlashDevice.state c.args.device.now).flash (g.D.FlashDevice.state c.scan.new.device).flash c.scan.new.latest
    (in_some (λ (z : FoundLog). Goes (layout_on (g.D.FlashDevice.state c.args.device.now) (length c.args.cells.now)) (machine (g.D.FlashDevice.state c.args.device.now).flash off) (machine (g.D.FlashDevice.state c.scan.new.device).flash (found z.bank z.generation c.scan.new.cells z.next))) c.in-Ok-Some.field-0 c.in-Ok-Some.found c.in-Ok-Some.ensures.found c.in-Ok-Some.field-0-is)
    (c.banks-banks.ensures ∙ c.scan.ensures.runs.banks) (g.met.D.FlashDevice.is_flash c.args.device.now).two inside (free (c.may_go_on.ensures.free c.if-may_go_on.true)) c.in-Ok-Some.ensures.latest
    (c.may_go_on.ensures.read c.if-may_go_on.true) (c.may_go_on.ensures.older c.if-may_go_on.true)

pub returns-then-may_go_on-clause-goes_on : goal.returns-then-may_go_on-clause-goes_on
returns-then-may_go_on-clause-goes_on g c tells = record {
  bank = c.in-Ok-Some.found.bank;
  generation = c.in-Ok-Some.found.generation;
  next = c.in-Ok-Some.found.next;
  between = (g.D.FlashDevice.state c.scan.new.device).flash;
  scanned = (in_some (λ (z : FoundLog). Scans (layout_on (g.D.FlashDevice.state c.args.device.now) (length c.args.cells.now)) (machine (g.D.FlashDevice.state c.args.device.now).flash off) (machine (g.D.FlashDevice.state c.scan.new.device).flash (found z.bank z.generation c.scan.new.cells z.next)))
      c.in-Ok-Some.field-0 c.in-Ok-Some.found c.in-Ok-Some.ensures.scanned c.in-Ok-Some.field-0-is);
  goes_on = λ may. (λ bank k. refl, refl);
}

pub returns-in-Ok-clause-goes_on : goal.returns-in-Ok-clause-goes_on
returns-in-Ok-clause-goes_on g c tells =
    let log = c.in-Ok-Some.found in
    let inside = (in_some (λ (z : FoundLog). z.bank < (g.D.FlashDevice.state c.args.device.now).banks)
    c.in-Ok-Some.field-0 c.in-Ok-Some.found c.in-Ok-Some.ensures.inside c.in-Ok-Some.field-0-is) in
    record {
      bank = log.bank;
      generation = log.generation;
      next = log.next;
      between = (g.D.FlashDevice.state c.scan.new.device).flash;
      scanned = (in_some (λ (z : FoundLog). Scans (layout_on (g.D.FlashDevice.state c.args.device.now) (length c.args.cells.now)) (machine (g.D.FlashDevice.state c.args.device.now).flash off) (machine (g.D.FlashDevice.state c.scan.new.device).flash (found z.bank z.generation c.scan.new.cells z.next)))
          c.in-Ok-Some.field-0 c.in-Ok-Some.found c.in-Ok-Some.ensures.scanned c.in-Ok-Some.field-0-is);
      goes_on = λ may. (
          let free = (in_some (λ (z : FoundLog). (g.D.FlashDevice.state c.args.device.now).tells_blank ≡ true → BlankFrom (g.D.FlashDevice.state c.scan.new.device).flash z.bank z.next → z.is_free ≡ true)
          c.in-Ok-Some.field-0 c.in-Ok-Some.found c.in-Ok-Some.ensures.told c.in-Ok-Some.field-0-is) tells may.free in
          let older = older_is_noted (layout_on (g.D.FlashDevice.state c.args.device.now) (length c.args.cells.now)) c.banks-banks.result log c.scan.new.latest (g.D.FlashDevice.state c.scan.new.device).flash last_generation
          (c.banks-banks.ensures ∙ c.scan.ensures.runs.banks) (g.met.D.FlashDevice.is_flash c.args.device.now).two inside c.may_go_on.ensures.sized (c.in-Ok-Some.ensures.noted tells) may in
          absurd (true≢false (sym (c.may_go_on.ensures.may free older.0 older.1) ∙ c.if-may_go_on.false)));
    }
