-- The sources that words name, opened one after the other
use Rattle.std.proofs.Common.{◌≡◌, ℕ, List, ap, ◌∙◌, subst}
use Rattle.std.specs.Prelude.{Option}
use Rattle.bus_port.specs.Source.{SourceState}
use Rattle.program_edge.specs.NamedSources.{Openings, IsNamed, behind}

-- what a later opener opens an earlier one opens, too
pub named_earlier : (opens later : List ℕ → SourceState → Type 0) (o p : Openings) (word name : Option (List ℕ)) (source : SourceState) → ((next : List ℕ) (s : SourceState) → later next s → opens next s)
    → o ≡ p → word ≡ name → IsNamed later o word source → IsNamed opens p name source
named_earlier opens later o p word name source keeps same is named =
    subst (λ (q : Openings). IsNamed opens q name source) same
    (subst (λ (w : Option (List ℕ)). IsNamed opens o w source) is
    (record {
      is_none = named.is_none;
      is_input = named.is_input;
      is_opened = λ next asks other. keeps next source (named.is_opened next asks other);
    }))

-- what is left after a word
pub left_after : (o p q : Openings) (word name : Option (List ℕ)) → q ≡ behind word o → o ≡ p → word ≡ name → q ≡ behind name p
left_after o p q word name left same is = left ∙ ap (behind word) same ∙ ap (λ (w : Option (List ℕ)). behind w p) is
