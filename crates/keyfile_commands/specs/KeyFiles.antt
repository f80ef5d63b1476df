-- What a key file means (own)
use Rattle.std.specs.Prelude.{ℕ, ◌==◌, ◌&&◌, if◌then◌else◌, Bool, true, false, List, [], ◌∷◌, length, take, drop}
use Rattle.std.specs.Prelude.{Option, Some, None}
use Rattle.secoc_words.specs.Forms.{key_form}

-- nothing, or a line end: a line feed, which is 10, or a carriage return, 13, and a line feed
abbrev pub is_key_end : List ℕ → Bool
is_key_end [] = true
is_key_end (a ∷ []) = a == 10
is_key_end (a ∷ b ∷ []) = (a == 13) && (b == 10)
is_key_end _ = false

-- 16 bytes are the key; others are its 32 hexadecimal digits, and at most one line end
abbrev pub key_file_of : List ℕ → Option (List ℕ)
key_file_of x =
    if length x == 16 then Some x else if is_key_end (drop 32 x) then key_form (take 32 x) else None
