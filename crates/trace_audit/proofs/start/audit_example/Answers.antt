use Rattle.std.proofs.Common.{◌≡◌, length, ap, refl, arith}
use Rattle.std.specs.Prelude.{Some}
use Rattle.bus_port.specs.MemSource.{CleanSourceState, clean_source}
use Rattle.program_edge.specs.Inputs.{Reading}
use Rattle.program_edge.proofs.CallerLemmas.{Offers-clean}
use Rattle.trace_audit.specs.declared.start.TheConstants.{EXAMPLE_MAP, EXAMPLE_LOG}
use Rattle.trace_audit.proofs.start.audit_example.Goals as goal

pub returns : goal.returns
returns g c =
    let map_size : length EXAMPLE_MAP.now ≡ 61 = refl in
    let log_size : length EXAMPLE_LOG.now ≡ 138 = refl in
    let map_read : Reading = record { before = clean_source c.new-map.result; after = clean_source c.run_audit.new.map } in
    let log_read : Reading = record { before = clean_source c.new-log.result; after = clean_source c.run_audit.new.log } in
    let map_told = ap (λ (s : CleanSourceState). Some s.left) c.new-map.ensures in
    let log_told = ap (λ (s : CleanSourceState). Some s.left) c.new-log.ensures in (
      record { words = _; map = map_read; log = log_read },
      (refl, Offers-clean map_read EXAMPLE_MAP.now map_told (omega (arith, map_size)) refl, Offers-clean log_read EXAMPLE_LOG.now log_told (omega (arith, log_size)) refl),
      c.run_audit.ensures,
    )
