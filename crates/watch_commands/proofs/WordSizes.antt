-- No word of a line is longer than the line
use Rattle.std.proofs.Common.{◌≡◌, ℕ, zero, suc, ◌+◌, ◌*◌, ◌-◌, ◌≤◌, List, [], ◌∷◌, length, drop, map, get_or, ap, arith}
use Rattle.std.proofs.lemmas.List.{length-take, length-drop}
use Rattle.text_lines.specs.declared.span.Span.{Span}
use Rattle.text_lines.specs.Spans.{word_at}
use Rattle.watch_commands.specs.Stamps.{LineStamp, stamp_of}

fits : (line : List ℕ) (spans : List Span) (k : ℕ) → length (get_or (map (word_at line) spans) k []) ≤ length line
fits line [] k = omega arith
fits line (s ∷ ss) zero = omega (arith, length-take s.len (drop s.at line), length-drop s.at line)
fits line (s ∷ ss) (suc k) = fits line ss k

-- so are the time and the channel
pub stamp_fits : (line : List ℕ) (spans : List Span) (stamp : LineStamp) → stamp ≡ stamp_of (map (word_at line) spans)
    → length stamp.time + length stamp.channel ≤ 2 * length line
stamp_fits line spans stamp is =
    omega (arith, ap (λ (s : LineStamp). length s.time) is, ap (λ (s : LineStamp). length s.channel) is, fits line spans (1 - 1), fits line spans (2 - 1))
