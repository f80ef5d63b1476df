use Rattle.std.proofs.Common.{sym, ◌∙◌}
use Rattle.std.proofs.lemmas.Bool.{false≢true}
use Rattle.disk_looks.proofs.SeenLaws.{other_kind, other_cells, newer_other, same_stands, older_stands}
use Rattle.disk_looks.proofs.looks.seen_by.Goals as goal

pub returns-then-not-are_one_kind : goal.returns-then-not-are_one_kind
returns-then-not-are_one_kind c =
    other_kind c.args.there c.args.kind c.args.version c.args.cells (λ same. false≢true (sym c.if-not-are_one_kind.true ∙ c.are_one_kind.ensures.1 same))

pub returns-then-there-cells : goal.returns-then-there-cells
returns-then-there-cells c = other_cells c.args.there c.args.kind c.args.version c.args.cells c.if-there-cells.true

pub returns-in-One-One : goal.returns-in-One-One
returns-in-One-One c =
    same_stands c.args.there c.args.kind c.args.version c.args.cells (c.are_one_kind.ensures.0 c.if-not-are_one_kind.false) (c.in-One-One.is-0 ∙ sym c.in-One-One.is-1) c.if-there-cells.false

pub returns-in-One-One-2 : goal.returns-in-One-One-2
returns-in-One-One-2 c =
    same_stands c.args.there c.args.kind c.args.version c.args.cells (c.are_one_kind.ensures.0 c.if-not-are_one_kind.false) (c.in-One-One.is-0 ∙ sym c.in-One-One.is-1) c.if-there-cells.false

pub returns-in-One-Two : goal.returns-in-One-Two
returns-in-One-Two c =
    older_stands c.args.there c.args.kind c.args.version c.args.cells (c.are_one_kind.ensures.0 c.if-not-are_one_kind.false) c.in-One-Two.is-0 c.in-One-Two.is-1 c.if-there-cells.false

pub returns-in-Two-One : goal.returns-in-Two-One
returns-in-Two-One c = newer_other c.args.there c.args.kind c.args.version c.args.cells c.in-Two-One.is-0 c.in-Two-One.is-1
