use Rattle.std.proofs.Common.{sym, ap, ◌∙◌, arith}
use Rattle.std.specs.Prelude.{option_map}
use Rattle.bus_world.specs.History.{has_values}
use Rattle.bus_world.proofs.Finding.{find_line, find_no_line}
use Rattle.bus_world.proofs.records.source_among.Goals as goal

pub returns-then-is_of : goal.returns-then-is_of
returns-then-is_of c =
    sym (ap (option_map (λ s. s.number))
    (find_line (has_values c.args.id c.args.payload.now c.args.freshness) c.args.records.now c.loop-record.record-index c.record-item.result c.loop-record-test.true c.record-item.is
    (sym c.is_of.ensures ∙ c.if-is_of.true) c.loop-record.invariant))

pub returns : goal.returns
returns c =
    sym (ap (option_map (λ s. s.number))
    (find_no_line (has_values c.args.id c.args.payload.now c.args.freshness) c.args.records.now (λ k d fits. c.loop-record.invariant k d (omega arith))))
