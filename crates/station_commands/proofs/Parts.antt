-- The part that the first arguments name
use Rattle.std.proofs.Common.{◌≡◌, ◌∙◌, ℕ, List, ◌++◌, Option, Some, drop, subst, sym, ap, inl, inr}
use Rattle.bus_port.specs.Source.{SourceState}
use Rattle.cut_disk.specs.State.{DiskState}
use Rattle.file_disk.specs.NamedDisks.{OpenedByWords}
use Rattle.program_edge.specs.declared.word_sources.WordSource.{WordSource}
use Rattle.program_edge.specs.Endings.{Ending}
use Rattle.adopt_commands.specs.AdoptTasks.{may_make}
use Rattle.adopt_commands.specs.AdoptsOver.{MakesOpened}
use Rattle.station_commands.specs.declared.run.StationPart.{StationPart}
use Rattle.station_commands.specs.declared.run.StationPart.TheVariants.{Making, Growth, Adoption}
use Rattle.station_commands.specs.declared.run.StationFiles.{StationFiles}
use Rattle.station_commands.specs.Station.{part_of, RunsPart, RunsStation, MayMakeFile}

pub of_part : {O I D : Type 0} (opens : List ℕ → SourceState → Type 0) (disk_opens : List ℕ → DiskState → Type 0) (state : WordSource O I → SourceState)
    (disk : D → DiskState) (words asked : List (List ℕ)) (o : OpenedByWords) (part : Option StationPart) (files : StationFiles O I D) (e : Ending)
    → part ≡ part_of words → asked ≡ drop 1 words → RunsPart opens disk_opens state disk asked o part files e
    → RunsStation opens disk_opens state disk words o files e
of_part opens disk_opens state disk words asked o part files e is rest runs =
    subst (λ (p : Option StationPart). RunsPart opens disk_opens state disk (drop 1 words) o p files e) is
    (subst (λ (ws : List (List ℕ)). RunsPart opens disk_opens state disk ws o part files e) rest runs)

-- ---- the arguments with which a file may be made

growth_not_making : Some Growth ≡ Some Making → ⊥
growth_not_making is = absurd (cc)

growth_not_adoption : Some Growth ≡ Some Adoption → ⊥
growth_not_adoption is = absurd (cc)

adoption_not_making : Some Adoption ≡ Some Making → ⊥
adoption_not_making is = absurd (cc)

pub no_growth : (words : List (List ℕ)) → part_of words ≡ Some Growth → MayMakeFile words → ⊥
no_growth words is (inl making) = growth_not_making (sym is ∙ making)
no_growth words is (inr (adoption, may)) = growth_not_adoption (sym is ∙ adoption)

-- an adoption makes the file of the disk that it opens, if it may make one
pub adoption_makes : (words rest before after made_before made_after : List (List ℕ)) → part_of words ≡ Some Adoption → MayMakeFile words → rest ≡ drop 1 words
    → MakesOpened (may_make rest) before after made_before made_after
    → (opened : List (List ℕ)) × (after ≡ before ++ opened) × (made_after ≡ made_before ++ opened)
adoption_makes words rest before after made_before made_after is (inl making) same makes = absurd (adoption_not_making (sym is ∙ making))
adoption_makes words rest before after made_before made_after is (inr (adoption, may)) same makes = rw (ap may_make same ∙ may) at makes
