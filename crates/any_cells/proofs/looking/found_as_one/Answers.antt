use Rattle.std.proofs.Common.{refl, sym, ◌∙◌, inl, inr}
use Rattle.std.proofs.lemmas.Bool.{false≢true}
use Rattle.cell_store.specs.declared.kinds.Version.TheVariants.{One, Two}
use Rattle.any_cells.proofs.LookingLaws.{probe-stands, probe-blank, no-header, not-blank}
use Rattle.any_cells.proofs.looking.found_as_one.Goals as goal

pub returns-then-is_blank-clause-found : goal.returns-then-is_blank-clause-found
returns-then-is_blank-clause-found c = λ x high low. inr (
  no-header Two c.args.kind c.args.cells _ c.args.high c.requires high (λ e. false≢true (sym c.if-is_store.false ∙ c.is_store.ensures.1 e)),
  inl (probe-blank One _ c.args.low low (c.is_blank.ensures.0 c.if-is_blank.true), refl),
)

pub returns-then-is_store-2-clause-found : goal.returns-then-is_store-2-clause-found
returns-then-is_store-2-clause-found c = λ x high low. inr (
  no-header Two c.args.kind c.args.cells _ c.args.high c.requires high (λ e. false≢true (sym c.if-is_store.false ∙ c.is_store.ensures.1 e)),
  inr (
    not-blank One _ c.args.low low (λ e. false≢true (sym c.if-is_blank.false ∙ c.is_blank.ensures.1 e)),
    inl (probe-stands One c.args.kind c.args.cells _ c.args.low low (c.is_store-else-is_blank.ensures.0 c.if-is_store-2.true), refl),
  ),
)

pub returns-else-is_store-2-clause-found : goal.returns-else-is_store-2-clause-found
returns-else-is_store-2-clause-found c = λ x high low. inr (
  no-header Two c.args.kind c.args.cells _ c.args.high c.requires high (λ e. false≢true (sym c.if-is_store.false ∙ c.is_store.ensures.1 e)),
  inr (
    not-blank One _ c.args.low low (λ e. false≢true (sym c.if-is_blank.false ∙ c.is_blank.ensures.1 e)),
    inr (
      no-header One c.args.kind c.args.cells _ c.args.low c.requires low (λ e. false≢true (sym c.if-is_store-2.false ∙ c.is_store-else-is_blank.ensures.1 e)),
      refl,
    ),
  ),
)
