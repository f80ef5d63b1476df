use Rattle.std.specs.Prelude.{ℕ, ◌+◌, ◌-◌, ◌*◌, ◌/◌, ◌%◌, ◌^◌}

-- how many bits of a word of 128 stand below a field of this width that begins `at` bits below the top
abbrev pub bits_below : ℕ → ℕ → ℕ
bits_below width at = 128 - at - width

-- the number in a field of a word
abbrev pub bit_field : ℕ → ℕ → ℕ → ℕ
bit_field width at word = word / 2 ^ bits_below width at % 2 ^ width

-- the word whose field is this value, and whose other bits are those of the given word
abbrev pub with_bit_field : ℕ → ℕ → ℕ → ℕ → ℕ
with_bit_field width at value word =
    word / 2 ^ (128 - at) * 2 ^ (128 - at) + value * 2 ^ bits_below width at + word % 2 ^ bits_below width at
