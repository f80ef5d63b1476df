-- The row that names the store whose header stands, where another is wanted
use Rattle.program_edge.specs.Rows.{Row, row_of}
use Rattle.disk_looks.specs.Texts.{standing_text}
use Rattle.store_growing.specs.declared.headers.StoreHeader.{StoreHeader}

-- `store: KIND VERSION CELLS`
abbrev pub standing_row : StoreHeader → Row
standing_row there = row_of 9 (standing_text there)
