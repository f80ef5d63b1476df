use Rattle.std.proofs.Common.{◌∙◌, ap, sym}
use Rattle.std.specs.Prelude.{codes}
use Rattle.clap.specs.Words.{first_of, found_of}
use Rattle.key_commands.specs.Files.{of_load}
use Rattle.key_commands.proofs.Values.{value_found}
use Rattle.key_commands.proofs.start.load_file.Goals as goal

pub returns-in-Ok : goal.returns-in-Ok
returns-in-Ok c = record {
  names = λ asks. of_load asks c.in-Ok.ensures.taken
      (c.get_str.ensures ∙ sym (value_found (found_of c.in-Ok.matches) (codes "FILE")) ∙ ap (first_of (codes "FILE")) c.in-Ok.ensures.values);
}
