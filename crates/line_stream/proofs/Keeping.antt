-- What is kept by each line and each pause holds of a stream
use Rattle.std.proofs.Common.{◌≡◌, ℕ, ◌≤◌, List, [], ◌∷◌, ◌++◌, length, sym, subst, append-nil, append_assoc, length-append}
use Rattle.std.specs.Prelude.{Result, Ok}
use Rattle.line_stream.specs.Pieces.{log_lines}
use Rattle.line_stream.specs.Streams.{TakesNext, TakesLines, Paused, before_log, after_piece}

module _ {S E : Type 0} (takes : S → ℕ → List ℕ → S → Result (Unit {0}) E → Type 0) where
  -- what each line keeps holds after all of them
  pub TakesLines-keeps : (I : List (List ℕ) → S → Type 0) → ((lines : List (List ℕ)) (s : S) (line : List ℕ) (t : S) → I lines s → TakesNext takes (length lines) s line t (Ok tt) → I (lines ++ line ∷ []) t)
      → (lines more : List (List ℕ)) (s t : S) → I lines s → TakesLines takes (length lines) s more t → I (lines ++ more) t
  TakesLines-keeps I step lines [] s t holds is = subst (λ ls. I ls t) (sym (append-nil lines)) (subst (I lines) (sym is) holds)
  TakesLines-keeps I step lines (line ∷ more) s t holds taken =
      subst (λ ls. I ls t) (append_assoc lines (line ∷ []) more)
      (TakesLines-keeps I step (lines ++ line ∷ []) more taken.0 t (step lines s line taken.0 holds taken.1)
      (subst (λ n. TakesLines takes n taken.0 more t) (sym (length-append lines (line ∷ []))) taken.2))

  -- what each piece and the pause after it keep holds at each pause
  pub Paused-keeps : (pauses : S → S → Result (Unit {0}) E → Type 0) (start : S) (I : List ℕ → List (List ℕ) → S → Type 0) → I [] [] start
      → ((bytes piece : List ℕ) (lines more : List (List ℕ)) (rest : List ℕ) (s t v : S) → I bytes lines s → length piece ≤ 4096 → log_lines (bytes ++ piece) ≡ (lines ++ more) ++ rest ∷ []
      → TakesLines takes (length lines) s more t → pauses t v (Ok tt) → I (bytes ++ piece) (lines ++ more) v)
      → (bytes : List ℕ) (lines : List (List ℕ)) (now : S) → Paused takes pauses start bytes lines now → I bytes lines now
  Paused-keeps pauses start I first step _ _ _ before_log = first
  Paused-keeps pauses start I first step _ _ _ (after_piece bytes piece lines more rest s t v paused short cut taken pause) =
      step bytes piece lines more rest s t v (Paused-keeps pauses start I first step bytes lines s paused) short cut taken pause
