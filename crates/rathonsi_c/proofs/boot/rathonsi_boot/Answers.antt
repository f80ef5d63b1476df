use Rattle.std.proofs.Common.{[], ◌++◌, length, refl, sym, ◌∙◌}
use Rattle.rathonsi_c.proofs.PieceLaws.{program_head, boot_tag, says_booted, took_next}
use Rattle.rathonsi_c.proofs.boot.rathonsi_boot.Goals as goal

pub returns-clause-boots : goal.returns-clause-boots
returns-clause-boots c = λ _.
    let program = c.args.program.now in
    let size = length program in
    let begins = c.in-Ok.ensures.begins in
    let key = begins.key in
    let took = took_next key [] program size c.in-Some.mac (c.in-Some.ensures.some.1 key (program_head size ++ []) begins.took.took) in
    let tag = boot_tag key program c.in-Some-finished.tag size refl (c.in-Some-finished.ensures.some.1 key (program_head size ++ program) took) in
    record {
      key = key;
      mac = begins.mac;
      keys = begins.keys;
      says = says_booted key program c.in-Some-finished.tag begins.mac c.is_wanted.result tag
          (λ e. c.is_wanted.ensures.yes (begins.took.wanted ∙ e))
          (λ differs. c.is_wanted.ensures.no (λ e. differs (sym begins.took.wanted ∙ e)));
    }
