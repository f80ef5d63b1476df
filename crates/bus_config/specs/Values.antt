-- What a value of the bus file means by its key: what it stands for, or none if it isn't of its form (own; a TOML
-- value)
use Rattle.std.specs.Prelude.{ℕ, ℤ, Bool, pos, negsuc, ◌&&◌, ◌==◌, nat_le, if◌then◌else◌, bytes_eq, codes, Option, Some}
use Rattle.std.specs.Prelude.{None, option_map, option_and_then, List, [], ◌∷◌, length}
use Rattle.std.specs.List.{list_all}
use Rattle.std.specs.Option.{is_some}
use Rattle.toml.specs.Data.{Data, Items, no_items, item, as_str, as_integer, as_array, as_table}
use Rattle.cell_store.specs.declared.kinds.Kind.{Kind}
use Rattle.cell_store.specs.declared.kinds.Kind.TheVariants.{Twin, Log}
use Rattle.cell_store.specs.declared.kinds.Version.{Version}
use Rattle.cell_store.specs.declared.kinds.Version.TheVariants.{One, Two}
use Rattle.freshness_routes.specs.declared.routes.Direction.{Direction}
use Rattle.freshness_routes.specs.declared.routes.Direction.TheVariants.{Sends, Receives}
use Rattle.secoc_words.specs.Forms.{data_id_form, fresh_form}
use Rattle.secoc_words.specs.KeyForms.{engine_uid_form}
use Rattle.bus_config.specs.Names.{is_name}

-- `store`: the text `twin` or `log`
abbrev pub kind_form : List ℕ → Option Kind
kind_form text =
    if bytes_eq text (codes "twin") then Some Twin else (if bytes_eq text (codes "log") then Some Log else None)

abbrev pub kind_in : Data → Option Kind
kind_in value = option_and_then kind_form (as_str value)

-- a whole number from `least` to `most`
abbrev pub within : ℕ → ℕ → ℤ → Option ℕ
within least most (pos n) = if nat_le least n && nat_le n most then Some n else None
within least most (negsuc n) = None

abbrev pub whole_in : ℕ → ℕ → Data → Option ℕ
whole_in least most value = option_and_then (within least most) (as_integer value)

-- `version`: the whole number 1 or 2
abbrev pub version_numbered : ℕ → Option Version
version_numbered n = if n == 1 then Some One else (if n == 2 then Some Two else None)

abbrev pub version_in : Data → Option Version
version_in value = option_and_then version_numbered (whole_in 1 2 value)

-- `name`: a name
abbrev pub name_form : List ℕ → Option (List ℕ)
name_form text = if is_name text then Some text else None

abbrev pub name_in : Data → Option (List ℕ)
name_in value = option_and_then name_form (as_str value)

-- `uid`: a text of 30 hexadecimal digits, not all 0
abbrev pub uid_in : Data → Option (List ℕ)
uid_in value = option_and_then engine_uid_form (as_str value)

-- `id`: a text of four hexadecimal digits
abbrev pub id_in : Data → Option ℕ
id_in value = option_and_then data_id_form (as_str value)

-- `direction`: the text `send` or `receive`
abbrev pub direction_form : List ℕ → Option Direction
direction_form text =
    if bytes_eq text (codes "send") then Some Sends
    else (if bytes_eq text (codes "receive") then Some Receives else None)

abbrev pub direction_in : Data → Option Direction
direction_in value = option_and_then direction_form (as_str value)

-- `start`: a text of 16 hexadecimal digits
abbrev pub start_in : Data → Option ℕ
start_in value = option_and_then fresh_form (as_str value)

-- the items of an array as a list
abbrev pub items_list : Items → List Data
items_list no_items = []
items_list (item value rest) = value ∷ items_list rest

-- `node` and `route`: an array of `least` to `most` tables
abbrev pub is_table : Data → Bool
is_table value = is_some (as_table value)

abbrev pub are_tables : ℕ → ℕ → List Data → Bool
are_tables least most rows = nat_le least (length rows) && nat_le (length rows) most && list_all is_table rows

abbrev pub tables_form : ℕ → ℕ → List Data → Option (List Data)
tables_form least most rows = if are_tables least most rows then Some rows else None

abbrev pub rows_in : Data → Option (List Data)
rows_in value = option_map items_list (as_array value)

abbrev pub tables_in : ℕ → ℕ → Data → Option (List Data)
tables_in least most value = option_and_then (tables_form least most) (rows_in value)
