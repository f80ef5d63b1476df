-- What is watched for: a map, and how findings are printed
use Rattle.std.specs.Prelude.{◌≡◌, ℕ, List, Ok}
use Rattle.can_logs.specs.declared.map_lines.MapLine.{MapLine}
use Rattle.can_logs.specs.WatchMaps.{NumberedMap, watch_map_of, line_numbers}
use Rattle.watch_commands.specs.declared.options.WatchOptions.{WatchOptions}

-- the lines of a map, and the number of each in the text of the map; and how findings are printed
pub record WatchedMap : Type 0 where
  pub lines : List MapLine
  pub numbers : List ℕ
  pub options : WatchOptions

-- this map, watched so
abbrev pub watched_by : WatchOptions → NumberedMap → WatchedMap
watched_by options mapping = record { lines = mapping.lines; numbers = mapping.numbers; options = options }

-- a text is this map, watched so
abbrev pub IsWatchedMap : WatchOptions → List ℕ → WatchedMap → Type 0
IsWatchedMap options text mapping =
    (watch_map_of text ≡ Ok mapping.lines) × (mapping.numbers ≡ line_numbers text) × (mapping.options ≡ options)
