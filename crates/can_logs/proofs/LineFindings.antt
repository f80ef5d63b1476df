-- What is found of a line, and the lines that cuts stand for
use Rattle.std.proofs.Common.{◌≡◌, ℕ, get_or, ◌<◌, ◌+◌, List, [], ◌∷◌, ◌++◌, length, map, refl, sym, ap, ◌∙◌, subst}
use Rattle.std.specs.Prelude.{take, drop}
use Rattle.std.proofs.Math.Seq.{take-append_seam}
use Rattle.std.proofs.lemmas.List.{map-append, take_more}
use Rattle.std.proofs.lemmas.Option.{slice_get_within}
use Rattle.secured_pdu.specs.Verdict.{Accepted, FreshnessFailure, VerificationFailure, Verdict}
use Rattle.text_lines.specs.declared.span.Cut.{Cut}
use Rattle.text_lines.specs.declared.span.Span.{Span}
use Rattle.text_lines.specs.Lines.{TextLine, lines_of}
use Rattle.text_lines.specs.Places.{texts_of, unplaced, placed_lines_of}
use Rattle.text_lines.specs.Spans.{word_at, piece_at, line_at}
use Rattle.can_logs.specs.declared.map_lines.MapLine.{MapLine}
use Rattle.can_logs.specs.Findings.{Finding, other, too_short, verdict, is_other, is_other_tally, tally_of, AuditsLine}

-- what is found depends on the counters of the map's lines alone
pub AuditsLine-same : (mapping : List MapLine) (f g : ℕ → ℕ) (l : TextLine) (finding : Finding) → ((place : ℕ) → place < length mapping → f place ≡ g place)
    → AuditsLine mapping f l finding → AuditsLine mapping g l finding
AuditsLine-same mapping f g l (other k) same h = h
AuditsLine-same mapping f g l (too_short n p c) same h = h
AuditsLine-same mapping f g l (verdict n p c outcome) same (m, mapped, number_is, place_is, can_is, long, judged) =
    let inside : p < length mapping = subst (λ k. k < length mapping) (sym place_is) (slice_get_within mapping m.place m.entry mapped.3) in
    (m, mapped, number_is, place_is, can_is, long, subst (λ k. Verdict m.entry.key m.entry.id k m.entry.window (take (m.entry.size + 4) m.bytes) outcome) (same p inside) judged)

-- a line is an other one exactly if it counts as one
pub other_as : (finding : Finding) → is_other finding ≡ is_other_tally (tally_of finding)
other_as (other k) = refl
other_as (too_short n p c) = refl
other_as (verdict n p c (Accepted payload v)) = refl
other_as (verdict n p c FreshnessFailure) = refl
other_as (verdict n p c VerificationFailure) = refl

-- counters that were lent and are as many as before are all that there are
pub put_back : (size : ℕ) (old new : List ℕ) → size ≡ length new → take size (new ++ drop (length new) old) ≡ new
put_back size old new as_many = ap (λ n. take n (new ++ drop (length new) old)) as_many ∙ take-append_seam new (drop (length new) old)

-- the line that a cut stands for
pub line_of : List ℕ → Cut → TextLine
line_of log c = record { number = c.line; words = map (word_at log) c.words }

texts_of_pieces : (log : List ℕ) (spans : List Span) → texts_of (map (piece_at log) spans) ≡ map (word_at log) spans
texts_of_pieces log [] = refl
texts_of_pieces log (span ∷ spans) = ap (λ (l : List (List ℕ)). word_at log span ∷ l) (texts_of_pieces log spans)

lines_are : (log : List ℕ) (cuts : List Cut) → map (line_of log) cuts ≡ map unplaced (map (line_at log) cuts)
unfolding line_of
lines_are log [] = refl
lines_are log (c ∷ cuts) =
    ap (λ (ws : List (List ℕ)). record { number = c.line; words = ws } ∷ map (line_of log) cuts) (sym (texts_of_pieces log c.words))
    ∙ ap (λ (ls : List TextLine). unplaced (line_at log c) ∷ ls) (lines_are log cuts)

-- the numbers of cuts are those of the lines that they stand for
pub numbers_same : (text : List ℕ) (cuts : List Cut) → map (λ (c : Cut). c.line) cuts ≡ map (λ (l : TextLine). l.number) (map (line_of text) cuts)
unfolding line_of
numbers_same text [] = refl
numbers_same text (c ∷ cuts) = ap (λ (ns : List ℕ). c.line ∷ ns) (numbers_same text cuts)

-- all cuts are all lines of the log
pub all_lines : (log : List ℕ) (cuts : List Cut) → map (line_at log) cuts ≡ placed_lines_of log → map unplaced (placed_lines_of log) ≡ lines_of log
    → map (line_of log) cuts ≡ lines_of log
all_lines log cuts cut_is law = lines_are log cuts ∙ ap (λ ls. map unplaced ls) cut_is ∙ law

-- the line of one more cut, by its words
pub line_more : (log : List ℕ) (cuts : List Cut) (i : ℕ) (c : Cut) (words : List (List ℕ)) → i < length cuts → c ≡ get_or cuts i c → words ≡ map (word_at log) c.words
    → map (line_of log) (take (i + 1) cuts) ≡ map (line_of log) (take i cuts) ++ record { number = c.line; words = words } ∷ []
unfolding line_of
line_more log cuts i c words inside is words_are =
    ap (map (line_of log)) (take_more cuts i c inside) ∙ map-append (line_of log) (take i cuts) (get_or cuts i c ∷ [])
    ∙ ap (λ (x : Cut). map (line_of log) (take i cuts) ++ line_of log x ∷ []) (sym is)
    ∙ ap (λ (ws : List (List ℕ)). map (line_of log) (take i cuts) ++ record { number = c.line; words = ws } ∷ []) (sym words_are)
