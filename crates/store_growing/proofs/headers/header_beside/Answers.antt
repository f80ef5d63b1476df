use Rattle.std.proofs.Common.{Some, subst}
use Rattle.std.specs.Prelude.{Option, MatchOption}
use Rattle.store_growing.specs.declared.headers.StoreHeader.{StoreHeader}
use Rattle.store_growing.specs.StoreHeaders.{HasVersionTwo, HeaderStands}
use Rattle.store_growing.proofs.HeaderFacts.{stands_beside}
use Rattle.store_growing.proofs.headers.header_beside.Goals as goal

pub returns-in-Some-clause-stands : goal.returns-in-Some-clause-stands
returns-in-Some-clause-stands g c t told same =
    subst (λ (o : Option StoreHeader). MatchOption o (¬ HasVersionTwo t.bytes) (λ header. HeaderStands t.bytes (Some header))) c.in-Some.is
    (c.in_ok-header.ensures.stands t told)

pub returns-in-None-clause-stands : goal.returns-in-None-clause-stands
returns-in-None-clause-stands g c t told same =
    stands_beside t.bytes c.args.front.now c.first_header.result c.requires same
    (subst (λ (o : Option StoreHeader). MatchOption o (¬ HasVersionTwo t.bytes) (λ header. HeaderStands t.bytes (Some header))) c.in-None.is
    (c.in_ok-header.ensures.stands t told))
    c.first_header.ensures
