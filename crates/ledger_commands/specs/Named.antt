-- The files that arguments name
use Rattle.std.specs.Prelude.{◌≡◌, ℕ, Some, List, [], ◌∷◌, ◌++◌, take, map}
use Rattle.bus_port.specs.Source.{SourceState}
use Rattle.program_edge.specs.NamedSources.{Openings, behind, IsNamed}
use Rattle.program_edge.specs.Inputs.{Reading}

-- each of these arguments was opened once, in their order, and these are the sources; and what there is to open then
pub data AllNamed (opens : List ℕ → SourceState → Type 0) (before : Openings)
    : List (List ℕ) → List Reading → Openings → Type 0 where
  none_yet : AllNamed opens before [] [] before
  one_more : (words : List (List ℕ)) (files : List Reading) (mid : Openings) (word : List ℕ) (r : Reading)
      → AllNamed opens before words files mid → IsNamed opens mid (Some word) r.before
      → AllNamed opens before (words ++ word ∷ []) (files ++ r ∷ []) (behind (Some word) mid)

-- This was had over the sources that the first of these arguments name, each opened once, in their order, and no other;
-- they were left so.
pub record OverAllNamed (opens : List ℕ → SourceState → Type 0) (before after : Openings) (words : List (List ℕ))
    (left : List SourceState) (Has : List Reading → Type 0) : Type 0 where
  pub files : List Reading
  pub number : ℕ
  pub named : AllNamed opens before (take number words) files after
  pub left_is : map (λ r. r.after) files ≡ left
  pub has : Has files
