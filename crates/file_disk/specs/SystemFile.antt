-- What is known of a file of the system.
use Rattle.std.specs.Prelude.{ℕ, Bool, is_some}
use Rattle.file_disk.specs.declared.system_file.SystemFile.{SystemFile}

-- whether there is a file
abbrev pub is_there : SystemFile → Bool
is_there file = is_some file.file

-- its length when it was opened
abbrev pub length_of : SystemFile → ℕ
length_of file = file.size

-- whether a write or a sync of it has failed
abbrev pub has_failed : SystemFile → Bool
has_failed file = file.failed
