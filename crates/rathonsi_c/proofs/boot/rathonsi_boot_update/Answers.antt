use Rattle.std.proofs.Common.{◌++◌, arith}
use Rattle.std.proofs.lemmas.List.{length-append}
use Rattle.rathonsi_c.proofs.PieceLaws.{program_head, took_next}
use Rattle.rathonsi_c.proofs.boot.rathonsi_boot_update.Goals as goal

pub returns-clause-takes : goal.returns-clause-takes
returns-clause-takes c = λ _ key mac size before t.
    let bytes = c.args.bytes.now in
    record {
      is_program = t.is_program;
      took = took_next key before bytes size c.in-Some.mac (c.in-Some.ensures.some.1 key (program_head size ++ before) t.took);
      wanted = t.wanted;
      left = omega (arith, t.left, length-append before bytes);
    }
