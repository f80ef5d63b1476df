-- One more row of the nodes
use Rattle.std.proofs.Common.{◌≡◌, ℕ, ◌+◌, ◌<◌, ◌≤◌, Result, Ok, Err, List, [], ◌∷◌, ◌++◌, length, drop, get_or, map, ap, ◌∙◌}
use Rattle.std.proofs.lemmas.List.{drop_all}
use Rattle.toml.specs.declared.value.Value.{Value}
use Rattle.toml.specs.View.{view}
use Rattle.cell_store.specs.declared.kinds.Version.{Version}
use Rattle.text_lines.specs.Readings.{◌>>=◌}
use Rattle.bus_config.specs.declared.node_lines.NodeLine.{NodeLine}
use Rattle.bus_config.specs.declared.fault.ConfigFault.{ConfigFault}
use Rattle.bus_config.proofs.RowLists.{rows_left}
use Rattle.bus_config.specs.BusFile.{next_node, nodes_from}

abbrev pub nodes_left : Version → List NodeLine → List Value → ℕ → Result (List NodeLine) ConfigFault
nodes_left version before rows i = nodes_from version before (map view (drop i rows))

pub node_kept : (version : Version) (before : List NodeLine) (rows : List Value) (i : ℕ) (row : Value) (node : NodeLine) → i < length rows → get_or rows i row ≡ row
    → next_node version before (view row) ≡ Ok node → nodes_left version before rows i ≡ nodes_left version (before ++ node ∷ []) rows (i + 1)
unfolding nodes_from
node_kept version before rows i row node inside here next =
    ap (nodes_from version before) (rows_left rows i row inside here)
    ∙ ap (λ r. r >>= (λ n. nodes_from version (before ++ n ∷ []) (map view (drop (i + 1) rows)))) next

pub node_refused : (version : Version) (before : List NodeLine) (rows : List Value) (i : ℕ) (row : Value) (told : ConfigFault) → i < length rows → get_or rows i row ≡ row
    → next_node version before (view row) ≡ Err told → nodes_left version before rows i ≡ Err told
unfolding nodes_from
node_refused version before rows i row told inside here next =
    ap (nodes_from version before) (rows_left rows i row inside here)
    ∙ ap (λ r. r >>= (λ n. nodes_from version (before ++ n ∷ []) (map view (drop (i + 1) rows)))) next

pub nodes_done : (version : Version) (before : List NodeLine) (rows : List Value) (i : ℕ) → length rows ≤ i → nodes_left version before rows i ≡ Ok before
unfolding nodes_from
nodes_done version before rows i past = ap (λ rs. nodes_from version before (map view rs)) (drop_all i rows past)
