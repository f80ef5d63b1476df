use Rattle.std.proofs.Common.{◌≡◌, Ok, length, [], refl, sym, ap, ◌∙◌, arith}
use Rattle.flash_log.proofs.GoingLaws.{OnErr-from}
use Rattle.flash_log.proofs.BankLaws.{is_read, read_beyond, no_copy, head_part, puts_part, is_read_as, taken_part}
use Rattle.flash_log.proofs.FreeLaws.{head_looks, no_head, part_more, reads_more}
use Rattle.flash_log.proofs.HeadLaws.{noted_as}
use Rattle.flash_log.proofs.reading.read_log.Goals as goal

pub returns-in_err-head-clause-part : goal.returns-in_err-head-clause-part
returns-in_err-head-clause-part g c = OnErr-from c.from_residual.result
    (taken_part ((g.D.FlashDevice.state c.args.device.now).flash c.args.bank) ((g.D.FlashDevice.state c.look.new.self).flash c.args.bank) [] (λ k. c.in_err-head.ensures.same c.args.bank k))

pub returns-in_err-read_copy-in-Some-clause-part : goal.returns-in_err-read_copy-in-Some-clause-part
returns-in_err-read_copy-in-Some-clause-part g c =
    let d = c.in_ok-head.ensures.looks in
    let h = head_looks c.in_ok-head.head c.in-Some.generation _ _ (sym c.generation_of.ensures ∙ c.in-Some.is) d.looks in
    let t = c.in_err-read_copy-in-Some.ensures.part in
    OnErr-from c.from_residual-in_err-read_copy-in-Some.result
    (head_part (length c.args.cells.now) ((g.D.FlashDevice.state c.args.device.now).flash c.args.bank) ((g.D.FlashDevice.state c.look.new.self).flash c.args.bank) ((g.D.FlashDevice.state c.read_copy.new.device).flash c.args.bank) c.in-Some.generation h d.same.rest c.read_copy.ensures.head t.lines t.taken)

pub returns-then-not-branch-clause-log : goal.returns-then-not-branch-clause-log
returns-then-not-branch-clause-log g c =
    let d = c.in_ok-head.ensures.looks in
    let h = head_looks c.in_ok-head.head c.in-Some.generation _ _ (sym c.generation_of.ensures ∙ c.in-Some.is) d.looks in
    no_copy (length c.args.cells.now) ((g.D.FlashDevice.state c.args.device.now).flash c.args.bank) ((g.D.FlashDevice.state c.look.new.self).flash c.args.bank) ((g.D.FlashDevice.state c.read_copy.new.device).flash c.args.bank) c.in-Some.generation h d.same.rest c.read_copy.ensures.head c.read_copy.new.cells
    (c.in_ok-read_copy-in-Some.ensures.none (ap (λ z. Ok z) c.if-not-branch.true))

pub returns-in_err-end-in-Some-clause-part : goal.returns-in_err-end-in-Some-clause-part
returns-in_err-end-in-Some-clause-part g c =
    let d = c.in_ok-head.ensures.looks in
    let h = head_looks c.in_ok-head.head c.in-Some.generation _ _ (sym c.generation_of.ensures ∙ c.in-Some.is) d.looks in
    let t = c.in_err-end-in-Some.ensures.part in
    OnErr-from c.from_residual-in_err-end-in-Some.result
    (puts_part (length c.read_copy.new.cells) ((g.D.FlashDevice.state c.args.device.now).flash c.args.bank) ((g.D.FlashDevice.state c.look.new.self).flash c.args.bank) ((g.D.FlashDevice.state c.read_copy.new.device).flash c.args.bank) c.in-Some.generation h d.same.rest c.read_copy.ensures.head ((g.D.FlashDevice.state c.read_puts.new.device).flash c.args.bank) c.read_copy.new.cells refl (c.in_ok-read_copy-in-Some.ensures.copy (ap (λ z. Ok z) c.if-not-branch.false)) c.read_puts.ensures.before t.lines t.taken)

pub returns-in_err-is_free-in-Some-clause-part : goal.returns-in_err-is_free-in-Some-clause-part
returns-in_err-is_free-in-Some-clause-part g c =
    let d = c.in_ok-head.ensures.looks in
    let h = head_looks c.in_ok-head.head c.in-Some.generation _ _ (sym c.generation_of.ensures ∙ c.in-Some.is) d.looks in
    let t = c.in_ok-end-in-Some.ensures.puts in
    let next = c.in_ok-end-in-Some.end.next in
    let part = puts_part (length c.read_copy.new.cells) ((g.D.FlashDevice.state c.args.device.now).flash c.args.bank) ((g.D.FlashDevice.state c.look.new.self).flash c.args.bank) ((g.D.FlashDevice.state c.read_copy.new.device).flash c.args.bank) c.in-Some.generation h d.same.rest c.read_copy.ensures.head ((g.D.FlashDevice.state c.read_puts.new.device).flash c.args.bank) c.read_copy.new.cells refl (c.in_ok-read_copy-in-Some.ensures.copy (ap (λ z. Ok z) c.if-not-branch.false)) c.read_puts.ensures.before t.puts t.taken in
    let beyond = read_beyond (length c.read_copy.new.cells) ((g.D.FlashDevice.state c.args.device.now).flash c.args.bank) ((g.D.FlashDevice.state c.look.new.self).flash c.args.bank) ((g.D.FlashDevice.state c.read_copy.new.device).flash c.args.bank) c.in-Some.generation h d.same.rest c.read_copy.ensures.head ((g.D.FlashDevice.state c.read_puts.new.device).flash c.args.bank) c.read_copy.new.cells refl (c.in_ok-read_copy-in-Some.ensures.copy (ap (λ z. Ok z) c.if-not-branch.false)) c.read_puts.ensures.before c.read_puts.new.cells next t in
    OnErr-from c.from_residual-in_err-is_free-in-Some.result
    (part_more ((g.D.FlashDevice.state c.args.device.now).flash c.args.bank) ((g.D.FlashDevice.state c.read_puts.new.device).flash c.args.bank) ((g.D.FlashDevice.state c.read_free.new.device).flash c.args.bank) next part.read part.looks beyond c.read_free.ensures.looks c.read_free.ensures.before)

pub returns-in_ok-is_free-in-Some-clause-log : goal.returns-in_ok-is_free-in-Some-clause-log
returns-in_ok-is_free-in-Some-clause-log g c =
    let d = c.in_ok-head.ensures.looks in
    let h = head_looks c.in_ok-head.head c.in-Some.generation _ _ (sym c.generation_of.ensures ∙ c.in-Some.is) d.looks in
    let t = c.in_ok-end-in-Some.ensures.puts in
    let next = c.in_ok-end-in-Some.end.next in
    let free = c.in_ok-is_free-in-Some.is_free in
    let same : length c.read_copy.new.cells ≡ length c.args.cells.now = c.read_copy.auto.cells in
    let beyond = read_beyond (length c.read_copy.new.cells) ((g.D.FlashDevice.state c.args.device.now).flash c.args.bank) ((g.D.FlashDevice.state c.look.new.self).flash c.args.bank) ((g.D.FlashDevice.state c.read_copy.new.device).flash c.args.bank) c.in-Some.generation h d.same.rest c.read_copy.ensures.head ((g.D.FlashDevice.state c.read_puts.new.device).flash c.args.bank) c.read_copy.new.cells refl (c.in_ok-read_copy-in-Some.ensures.copy (ap (λ z. Ok z) c.if-not-branch.false)) c.read_puts.ensures.before c.read_puts.new.cells next t in
    reads_more (length c.args.cells.now) (record { generation = c.in-Some.generation; next = next; is_free = free }) c.read_puts.new.cells ((g.D.FlashDevice.state c.args.device.now).flash c.args.bank) ((g.D.FlashDevice.state c.read_puts.new.device).flash c.args.bank) ((g.D.FlashDevice.state c.read_free.new.device).flash c.args.bank)
    (is_read_as (length c.read_copy.new.cells) (length c.args.cells.now) same _ _ _ _ (is_read (length c.read_copy.new.cells) ((g.D.FlashDevice.state c.args.device.now).flash c.args.bank) ((g.D.FlashDevice.state c.look.new.self).flash c.args.bank) ((g.D.FlashDevice.state c.read_copy.new.device).flash c.args.bank) c.in-Some.generation h d.same.rest c.read_copy.ensures.head ((g.D.FlashDevice.state c.read_puts.new.device).flash c.args.bank) c.read_copy.new.cells refl (c.in_ok-read_copy-in-Some.ensures.copy (ap (λ z. Ok z) c.if-not-branch.false)) c.read_puts.ensures.before free c.read_puts.new.cells next t))
    beyond c.read_free.ensures.looks c.read_free.ensures.before

pub returns-in-None-clause-log : goal.returns-in-None-clause-log
returns-in-None-clause-log g c =
    let d = c.in_ok-head.ensures.looks in
    no_head c.in_ok-head.head (length c.args.cells.now) ((g.D.FlashDevice.state c.args.device.now).flash c.args.bank) ((g.D.FlashDevice.state c.look.new.self).flash c.args.bank) c.args.cells.now (sym c.generation_of.ensures ∙ c.in-None.is) d.looks d.same.rest

pub read_free-requires-clause-told : goal.read_free-requires-clause-told
read_free-requires-clause-told g c tells blank = c.in_ok-end-in-Some.ensures.told (sym c.read_puts.ensures.runs.tells ∙ tells) blank

pub returns-in_ok-is_free-in-Some-clause-told : goal.returns-in_ok-is_free-in-Some-clause-told
returns-in_ok-is_free-in-Some-clause-told g c tells blank =
    c.in_ok-is_free-in-Some.ensures.told (c.read_puts.ensures.runs.tells ∙ (c.read_copy.ensures.runs.tells ∙ (c.look.ensures.runs.tells ∙ tells))) blank

pub returns-then-not-branch-clause-noted : goal.returns-then-not-branch-clause-noted
returns-then-not-branch-clause-noted g c tells =
    noted_as c.in_ok-head.head ((g.D.FlashDevice.state c.args.device.now).flash c.args.bank 0) ((g.D.FlashDevice.state c.look.new.self).flash c.args.bank 0) ((g.D.FlashDevice.state c.read_copy.new.device).flash c.args.bank 0) c.latest_of-latest.result
    c.latest_of-latest.ensures (c.in_ok-head.ensures.told tells) c.in_ok-head.ensures.looks.looks c.read_copy.ensures.head

pub returns-in_ok-is_free-in-Some-clause-noted : goal.returns-in_ok-is_free-in-Some-clause-noted
returns-in_ok-is_free-in-Some-clause-noted g c tells =
    noted_as c.in_ok-head.head ((g.D.FlashDevice.state c.args.device.now).flash c.args.bank 0) ((g.D.FlashDevice.state c.look.new.self).flash c.args.bank 0) ((g.D.FlashDevice.state c.read_free.new.device).flash c.args.bank 0) c.latest_of-latest.result
    c.latest_of-latest.ensures (c.in_ok-head.ensures.told tells) c.in_ok-head.ensures.looks.looks
    (c.read_free.ensures.before 0 (omega arith) ∙ (c.read_puts.ensures.before 0 (omega arith) ∙ c.read_copy.ensures.head))

pub returns-in-None-clause-noted : goal.returns-in-None-clause-noted
returns-in-None-clause-noted g c tells =
    noted_as c.in_ok-head.head ((g.D.FlashDevice.state c.args.device.now).flash c.args.bank 0) ((g.D.FlashDevice.state c.look.new.self).flash c.args.bank 0) ((g.D.FlashDevice.state c.look.new.self).flash c.args.bank 0) c.latest_of-latest.result
    c.latest_of-latest.ensures (c.in_ok-head.ensures.told tells) c.in_ok-head.ensures.looks.looks refl
