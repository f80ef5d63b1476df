use Rattle.std.proofs.Common.{subst}
use Rattle.cell_store.specs.declared.kinds.Probe.{Probe}
use Rattle.cell_store.specs.declared.kinds.Version.TheVariants.{Two}
use Rattle.cell_store.specs.Layout.{part, from_base}
use Rattle.cell_store.specs.Store.{Probes}
use Rattle.store_growing.specs.StoreHeaders.{in_second}
use Rattle.store_growing.proofs.DiskSteps.{none_blank, none_foreign}
use Rattle.store_growing.proofs.headers.header_found.Goals as goal

pub returns-in-Store-clause-found : goal.returns-in-Store-clause-found
returns-in-Store-clause-found c x found =
    let is = subst (λ (p : Probe). Probes Two (part 0 32 (from_base Two x)) p) c.in-Store.is found in
    in_second c.in-Store.kind c.in-Store.cells is.0 is.1

pub returns-in-Blank-clause-found : goal.returns-in-Blank-clause-found
returns-in-Blank-clause-found c x found =
    none_blank x (subst (λ (p : Probe). Probes Two (part 0 32 (from_base Two x)) p) c.in-Blank.is found)

pub returns-in-Foreign-clause-found : goal.returns-in-Foreign-clause-found
returns-in-Foreign-clause-found c x found =
    none_foreign x (subst (λ (p : Probe). Probes Two (part 0 32 (from_base Two x)) p) c.in-Foreign.is found)
