-- The phases of a run of `slots grow FILE BUS`, put together
use Rattle.std.proofs.Common.{◌≡◌, ◌∙◌, ℕ, List, [], ◌∷◌, ◌++◌, false, refl, sym, ap, subst}
use Rattle.std.specs.Prelude.{Option, Some, None, Result, Ok, Err, length, codes}
use Rattle.text_lines.specs.Written.{written}
use Rattle.cut_disk.specs.State.{DiskState}
use Rattle.cell_store.specs.declared.kinds.Layout.{Layout}
use Rattle.file_disk.specs.NamedDisks.{TellsFirmBytes}
use Rattle.program_edge.specs.Rows.{Row, row_of, memory_row}
use Rattle.program_edge.specs.Inputs.{IsUnread}
use Rattle.program_edge.specs.Endings.{Ending, EndsInRow}
use Rattle.program_edge.proofs.CallerLemmas.{EndsInRow-more}
use Rattle.freshness_routes.specs.declared.routes.Route.{Route}
use Rattle.bus_config.specs.Buses.{NamedBus, IsNamedBus}
use Rattle.bus_programs.specs.BusRoutes.{routes_of}
use Rattle.store_growing.specs.RouteCells.{route_cell}
use Rattle.store_growing.specs.GrowingStores.{OfBytes, CanBeGrown, GrowsStore}
use Rattle.bus_store_commands.specs.NodeBuses.{ReadsNodeBus, TakesNodeBus}
use Rattle.bus_store_commands.specs.BusWords.{asks_over_bus}
use Rattle.bus_store_commands.specs.GrowRows.{GrowsOnDisk, grown, grown_words}
use Rattle.bus_store_commands.specs.GrowsOverBus.{GrowInputs, AsksGrowth, grow_usage, LacksGrowth, asks_none, without_bus, TakesGrowth, ComesNamed, not_opened, over_disk}
use Rattle.bus_store_commands.specs.GrowsOverBus.{ComesOfGrowth, lacks_bus, with_bus, file_of, layout_of_bus, GrowsOverBus}
use Rattle.bus_store_commands.proofs.GrowPromises.{grows_row}
pub use Rattle.bus_store_commands.proofs.GrowPromises.{few_routes}

-- the bus file of arguments that ask for a growth
pub asked_bus : (i : GrowInputs) (result : Result NamedBus Row) → AsksGrowth i.words → TakesNodeBus i.bus result → TakesGrowth i result
asked_bus i (Ok bus) asks reads = (asks, reads)
asked_bus i (Err row) asks lacks = without_bus row asks lacks

-- arguments that don't
pub asked_none : (i : GrowInputs) (row : Row) → asks_over_bus (codes "grow") i.words ≡ false → IsUnread i.bus → row ≡ row_of 2 grow_usage
    → LacksGrowth i row
asked_none i row none unread is = subst (LacksGrowth i) (sym is) (asks_none none unread)

-- the text was made before the store grew
pub text_shows : (wanted : Layout) (routes : List Route) (old new : DiskState) (cells : ℕ) (text : List ℕ) → cells ≡ route_cell (length routes)
    → text ≡ written (grown_words cells) → OfBytes old (λ x. CanBeGrown wanted routes old) → GrowsStore routes old new → new.faults ≡ old.faults
    → GrowsOnDisk wanted routes old new (row_of 0 text)
text_shows wanted routes old new cells text cells_are is could grows faults =
    subst (λ (shown : List ℕ). GrowsOnDisk wanted routes old new (row_of 0 shown)) (ap (λ (n : ℕ). written (grown_words n)) (sym cells_are) ∙ sym is)
    (grown could grows faults)

-- no memory for a disk
pub not_over : (opens : List ℕ → DiskState → Type 0) (before after : List (List ℕ)) (word : List ℕ) (wanted : Layout) (routes : List Route) (row : Row)
    → row ≡ memory_row → after ≡ before → ComesNamed opens before after word wanted routes None None row
not_over opens before after word wanted routes row is once =
    subst (ComesNamed opens before after word wanted routes None None) (sym is) (not_opened once refl refl)

-- a run over a disk that an argument opened
pub over_opened : (opens : List ℕ → DiskState → Type 0) (before after : List (List ℕ)) (word : List ℕ) (wanted : Layout) (routes : List Route)
    (old new : DiskState) (e : Ending) → opens word old → TellsFirmBytes old → after ≡ before ++ word ∷ []
    → EndsInRow (GrowsOnDisk wanted routes old new) e → EndsInRow (ComesNamed opens before after word wanted routes (Some old) (Some new)) e
over_opened opens before after word wanted routes old new e opened tells once ends =
    EndsInRow-more
    (over_disk (record { old = old; new = new; opened = opened; tells = tells; once = once; was_is = refl; left_is = refl })) ends

-- a run over a bus file that gives a bus of one node, and over one that doesn't
module _ (opens : List ℕ → DiskState → Type 0) (before after : List (List ℕ)) (i : GrowInputs) (left : Option DiskState) (e : Ending) where
  pub with_routes : (bus : NamedBus) (word : List ℕ) (wanted : Layout) (routes : List Route) → IsNamedBus bus → AsksGrowth i.words
      → ReadsNodeBus i.bus bus → word ≡ file_of i → wanted ≡ layout_of_bus bus → routes ≡ routes_of bus
      → (was : Option DiskState) × EndsInRow (ComesNamed opens before after word wanted routes was left) e → GrowsOverBus opens before after i left e
  with_routes bus word wanted routes named asks reads word_is wanted_is are (was, ends) =
      grows_row opens before after i was left e
      (EndsInRow-more (λ row comes. with_bus bus row named asks reads
      (subst (λ (w : List ℕ). ComesNamed opens before after w (layout_of_bus bus) (routes_of bus) was left row) word_is
      (subst (λ (l : Layout). ComesNamed opens before after word l (routes_of bus) was left row) wanted_is
      (subst (λ (rs : List Route). ComesNamed opens before after word wanted rs was left row) are comes)))) ends)

  pub without_routes : (row : Row) → LacksGrowth i row → after ≡ before → left ≡ None → EndsInRow (λ shown. shown ≡ row) e
      → GrowsOverBus opens before after i left e
  without_routes row lacks once none ends =
      grows_row opens before after i None left e
      (EndsInRow-more (λ shown is. subst (ComesOfGrowth opens before after i None left) (sym is) (lacks_bus row lacks once refl none)) ends)
