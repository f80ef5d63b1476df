use Rattle.std.proofs.Common.{◌∙◌, [], refl, sym, subst, map, rules}
use Rattle.std.proofs.lemmas.List.{append-nil}
use Rattle.std.specs.Prelude.{string_bytes}
use Rattle.endpoint_commands.specs.Rows.{ComesBeforeLog, no_room}
use Rattle.endpoint_commands.proofs.OfWords.{none_over, one_over, makes_opened}
use Rattle.endpoint_commands.proofs.start.run_named.Goals as goal

pub do_endpoint-status-requires : goal.do_endpoint-status-requires
do_endpoint-status-requires g c = (c.in-Ok.ensures (map string_bytes c.args.words.now) (g.T.Source.state c.args.log.now) c.form_of-form.ensures).0

pub returns-in-Ok-open_disks-clause-runs : goal.returns-in-Ok-open_disks-clause-runs
returns-in-Ok-open_disks-clause-runs g c =
    let made = c.in-Ok.ensures (map string_bytes c.args.words.now) (g.T.Source.state c.args.log.now) c.form_of-form.ensures in
    one_over g.P.Opened.Disk.state _ _ _ _ _ _ c.in-Ok-open_disks.opened _ c.in-Ok.job.bus c.in-Ok.job.rules.items c.in-Ok.job.image made.1 c.word_at.ensures c.in-Ok-open_disks.ensures.named
    c.do_endpoint-status.ensures

pub returns-in-Ok-open_disks-clause-makes : goal.returns-in-Ok-open_disks-clause-makes
returns-in-Ok-open_disks-clause-makes g c = makes_opened _ _ _ _ _ _ _ c.in-Ok-open_disks.ensures.named (search rules)

pub returns-in-Err-open_disks-clause-makes : goal.returns-in-Err-open_disks-clause-makes
returns-in-Err-open_disks-clause-makes g c = ([], c.in-Err-open_disks.ensures.unopened ∙ sym (append-nil _), c.in-Err-open_disks.ensures.unmade ∙ sym (append-nil _))

pub returns-in-Err-open_disks-clause-runs : goal.returns-in-Err-open_disks-clause-runs
returns-in-Err-open_disks-clause-runs g c =
    let made = c.in-Ok.ensures (map string_bytes c.args.words.now) (g.T.Source.state c.args.log.now) c.form_of-form.ensures in
    let comes = subst (ComesBeforeLog _) (sym c.no_memory-refusal.ensures) (no_room (c.in-Ok.job.bus, c.in-Ok.job.rules.items, c.in-Ok.job.image, made.1, tt) refl) in
    none_over g.P.Opened.Disk.state _ _ _ _ _ _ c.new.ensures.items c.in-Err-open_disks.ensures.unopened (record { row = c.no_memory-refusal.result; comes = comes; told = c.tell_refusal.ensures }) refl

pub returns-in-Err-clause-makes : goal.returns-in-Err-clause-makes
returns-in-Err-clause-makes g c = ([], sym (append-nil _), sym (append-nil _))

pub returns-in-Err-clause-runs : goal.returns-in-Err-clause-runs
returns-in-Err-clause-runs g c =
    let comes = c.in-Err.ensures (map string_bytes c.args.words.now) (g.T.Source.state c.args.log.now) c.form_of-form.ensures in
    none_over g.P.Opened.Disk.state _ _ _ _ _ _ c.new-in-Err.ensures.items refl (record { row = c.in-Err.refusal; comes = comes; told = c.tell_refusal-in-Err.ensures }) refl
