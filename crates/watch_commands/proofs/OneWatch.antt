-- At most one list of findings is found of the lines of a log, and the lines of a map have windows
use Rattle.std.proofs.Common.{◌≡◌, ℕ, ◌+◌, Bool, true, false, List, [], ◌∷◌, ◌++◌, length, refl, sym, ap, ◌∙◌, subst, arith, inl, inr}
use Rattle.std.proofs.lemmas.List.{same_from_push, length_push}
use Rattle.text_lines.specs.Lines.{words_of, is_skipped}
use Rattle.can_logs.specs.declared.map_lines.MapLine.{MapLine}
use Rattle.can_logs.specs.Findings.{Finding, counter_of_place}
use Rattle.can_logs.proofs.CallerLemmas.{HaveWindows, same_finding}
use Rattle.watch_commands.specs.Watching.{Found, stamped, findings_of, WatchesLine, WatchesEach, none, more}
use Rattle.line_stream.specs.Pieces.{in_64_bits}

-- ---- what is found of a line

skipped_or_kept : (b : Bool) → b ≡ true → b ≡ false → ⊥
skipped_or_kept b skipped kept = cc

module _ (mapping : List MapLine) (counter : ℕ → ℕ) (number : ℕ) (bytes : List ℕ) (windows : HaveWindows mapping) where
  same_found : (found others : List Finding) → WatchesLine mapping counter number bytes found → WatchesLine mapping counter number bytes others → found ≡ others
  same_found found others (inl (long, is)) (inl (long2, is2)) = is ∙ sym is2
  same_found found others (inl (long, is)) (inr (inl (few, skipped, is2))) = absurd (omega (arith, long, few))
  same_found found others (inl (long, is)) (inr (inr (few, kept, finds))) = absurd (omega (arith, long, few))
  same_found found others (inr (inl (few, skipped, is))) (inl (long, is2)) = absurd (omega (arith, long, few))
  same_found found others (inr (inl (few, skipped, is))) (inr (inl (few2, skipped2, is2))) = is ∙ sym is2
  same_found found others (inr (inl (few, skipped, is))) (inr (inr (few2, kept, finds))) =
      absurd (skipped_or_kept (is_skipped (words_of bytes)) skipped kept)
  same_found found others (inr (inr (few, kept, finds))) (inl (long, is2)) = absurd (omega (arith, long, few))
  same_found found others (inr (inr (few, kept, finds))) (inr (inl (few2, skipped, is2))) =
      absurd (skipped_or_kept (is_skipped (words_of bytes)) skipped kept)
  same_found found others (inr (inr (few, kept, (f, is, finds)))) (inr (inr (few2, kept2, (f2, is2, finds2)))) =
      is
      ∙ ap (λ (x : Finding). x ∷ [])
      (same_finding mapping counter (record { number = number; words = words_of bytes }) f f2 windows finds finds2)
      ∙ sym is2

-- ---- what is found of the lines

none_pushed : (lines : List (List ℕ)) (bytes : List ℕ) → [] ≡ lines ++ bytes ∷ [] → ⊥
none_pushed lines bytes same =
    let as_many : 0 ≡ length (lines ++ bytes ∷ []) = ap (λ (ls : List (List ℕ)). length ls) same in
    omega (arith, as_many, length_push lines bytes)

same_each : (mapping : List MapLine) (one two : List (List ℕ)) (findings others : List Found) → HaveWindows mapping
    → WatchesEach mapping one findings → WatchesEach mapping two others → one ≡ two → findings ≡ others
same_each mapping one two findings others windows none none same = refl
same_each mapping one two findings others windows none (more lines so_far bytes found each finds) same = absurd (none_pushed lines bytes same)
same_each mapping one two findings others windows (more lines so_far bytes found each finds) none same = absurd (none_pushed lines bytes (sym same))
same_each mapping one two findings others windows (more lines so_far bytes found each finds) (more lines2 so_far2 bytes2 found2 each2 finds2) same =
    let parts = same_from_push lines lines2 bytes bytes2 same in
    let front : so_far ≡ so_far2 = same_each mapping lines lines2 so_far so_far2 windows each each2 parts.0 in
    let number : ℕ = in_64_bits (length lines + 1) in
    let here : WatchesLine mapping (counter_of_place mapping (findings_of so_far)) number bytes found2 =
    subst (λ (fs : List Found). WatchesLine mapping (counter_of_place mapping (findings_of fs)) number bytes found2) (sym front)
    (subst (λ (ls : List (List ℕ)). WatchesLine mapping (counter_of_place mapping (findings_of so_far2)) (in_64_bits (length ls + 1)) bytes found2) (sym parts.0)
    (subst (λ (line : List ℕ). WatchesLine mapping (counter_of_place mapping (findings_of so_far2)) (in_64_bits (length lines2 + 1)) line found2) (sym parts.1) finds2)) in
    ap (λ (fs : List Found). fs ++ stamped bytes found) front
    ∙ ap (λ (fs : List Finding). so_far2 ++ stamped bytes fs)
    (same_found mapping (counter_of_place mapping (findings_of so_far)) number bytes windows found found2 finds here)
    ∙ ap (λ (line : List ℕ). so_far2 ++ stamped line found2) parts.1

pub same_findings : (mapping : List MapLine) (lines : List (List ℕ)) (findings others : List Found) → HaveWindows mapping
    → WatchesEach mapping lines findings → WatchesEach mapping lines others → findings ≡ others
same_findings mapping lines findings others windows one two = same_each mapping lines lines findings others windows one two refl
