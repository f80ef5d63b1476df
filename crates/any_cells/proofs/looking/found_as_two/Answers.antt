use Rattle.std.proofs.Common.{refl, sym, ◌∙◌, inl, inr}
use Rattle.std.proofs.lemmas.Bool.{false≢true}
use Rattle.cell_store.specs.declared.kinds.Version.TheVariants.{One, Two}
use Rattle.any_cells.proofs.LookingLaws.{probe-stands, probe-blank, blank-probe, no-header}
use Rattle.any_cells.proofs.looking.found_as_two.Goals as goal

pub returns-then-is_store-2 : goal.returns-then-is_store-2
returns-then-is_store-2 c = λ x high low. inr (
  no-header Two c.args.kind c.args.cells _ c.args.high c.requires high (λ e. false≢true (sym c.if-is_store.false ∙ c.is_store.ensures.1 e)),
  inl (probe-stands One c.args.kind c.args.cells _ c.args.low low (c.is_store-else-is_store.ensures.0 c.if-is_store-2.true), refl),
)

pub returns-then-are_blank : goal.returns-then-are_blank
returns-then-are_blank c = λ x high low.
    let both = c.are_blank.ensures.0 c.if-are_blank.true in
    inr (
      no-header Two c.args.kind c.args.cells _ c.args.high c.requires high (λ e. false≢true (sym c.if-is_store.false ∙ c.is_store.ensures.1 e)),
      inr (
        no-header One c.args.kind c.args.cells _ c.args.low c.requires low (λ e. false≢true (sym c.if-is_store-2.false ∙ c.is_store-else-is_store.ensures.1 e)),
        inl ((probe-blank One _ c.args.low low both.0, probe-blank Two _ c.args.high high both.1), refl),
      ),
    )

pub returns-else-are_blank : goal.returns-else-are_blank
returns-else-are_blank c = λ x high low. inr (
  no-header Two c.args.kind c.args.cells _ c.args.high c.requires high (λ e. false≢true (sym c.if-is_store.false ∙ c.is_store.ensures.1 e)),
  inr (
    no-header One c.args.kind c.args.cells _ c.args.low c.requires low (λ e. false≢true (sym c.if-is_store-2.false ∙ c.is_store-else-is_store.ensures.1 e)),
    inr (
      λ both. false≢true (sym c.if-are_blank.false ∙ c.are_blank.ensures.1 (blank-probe One _ c.args.low low both.0, blank-probe Two _ c.args.high high both.1)),
      refl,
    ),
  ),
)
