-- The range alone is copied and marked, and all else was so already.
use Rattle.std.proofs.Common.{◌∙◌, arith}
use Rattle.cut_disk.proofs.Ranges.{copied, unmarked}
use Rattle.cut_disk.proofs.mem_disk.firm_up.Goals as goal

pub returns-clause-synced : goal.returns-clause-synced
returns-clause-synced c =
    c.place.ensures ∙ copied c.args.from c.args.to c.args.bytes.now c.args.synced.now c.requires.in_order c.requires.inside c.requires.synced c.requires.same

pub returns-clause-loose : goal.returns-clause-loose
returns-clause-loose c = c.mark.ensures ∙ unmarked c.args.from c.args.to c.args.loose.now c.requires.in_order (omega arith) c.requires.firm
