use Rattle.bus_programs.proofs.Finding.{HasBus-refused}
use Rattle.bus_programs.proofs.bus_files.bus_in.Goals as goal

pub returns-in-Err : goal.returns-in-Err
returns-in-Err c = HasBus-refused c.args.text.now c.in-Err.fault c.config_refusal.result c.in-Err.ensures c.config_refusal.ensures
