-- Findings with the time and the channel of their lines
use Rattle.std.proofs.Common.{◌≡◌, ℕ, ◌+◌, ◌≤◌, List, [], ◌∷◌, ◌++◌, length, take, refl, sym, ◌∙◌, ap, subst, inl, inr}
use Rattle.std.proofs.lemmas.List.{map-append}
use Rattle.can_logs.specs.Findings.{Finding}
use Rattle.line_stream.specs.Pieces.{line_limit}
use Rattle.line_stream.proofs.CallerLemmas.{kept_whole}
use Rattle.watch_commands.specs.WatchedMaps.{WatchedMap}
use Rattle.watch_commands.specs.Watching.{Found, stamped, findings_of, WatchesLine, found_text}

findings_stamped : (bytes : List ℕ) (findings : List Finding) → findings_of (stamped bytes findings) ≡ findings
findings_stamped bytes [] = refl
findings_stamped bytes (f ∷ fs) = ap (λ (xs : List Finding). f ∷ xs) (findings_stamped bytes fs)

-- what was found with one more line
pub findings_more : (found : List Found) (bytes : List ℕ) (findings : List Finding)
    → findings_of (found ++ stamped bytes findings) ≡ findings_of found ++ findings
findings_more found bytes findings =
    map-append (λ (f : Found). f.finding) found (stamped bytes findings)
    ∙ ap (λ (fs : List Finding). findings_of found ++ fs) (findings_stamped bytes findings)

-- of a line that is too long nothing is printed, so its time and channel are never looked at
pub stamped_kept : (mapping : WatchedMap) (counter : ℕ → ℕ) (number : ℕ) (line rest : List ℕ) (findings : List Finding) → line ≡ take (line_limit + 1) rest
    → WatchesLine mapping.lines counter number line findings → found_text mapping (stamped line findings) ≡ found_text mapping (stamped rest findings)
stamped_kept mapping counter number line rest findings is (inl (long, are)) =
    subst (λ (fs : List Finding). found_text mapping (stamped line fs) ≡ found_text mapping (stamped rest fs)) (sym are) refl
stamped_kept mapping counter number line rest findings is (inr (inl (few, skipped, are))) =
    subst (λ (fs : List Finding). found_text mapping (stamped line fs) ≡ found_text mapping (stamped rest fs)) (sym are) refl
stamped_kept mapping counter number line rest findings is (inr (inr (few, kept, finds))) =
    ap (λ (l : List ℕ). found_text mapping (stamped l findings)) (is ∙ kept_whole line_limit rest (subst (λ (l : List ℕ). length l ≤ line_limit) is few))
