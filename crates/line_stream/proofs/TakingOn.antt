-- The driver goes on by more bytes, and by the end of a line.
use Rattle.std.proofs.Common.{◌≡◌, ℕ, ◌+◌, List, [], ◌∷◌, ◌++◌, length, refl, sym, ◌∙◌, ap, subst, arith, append-nil, append_assoc, length-append}
use Rattle.std.specs.Prelude.{Result, Ok, Err}
use Rattle.std.proofs.lemmas.List.Splits.{length-slice_split}
use Rattle.basics.specs.FaultCount.{counted}
use Rattle.text_lines.specs.Lines.{is_line_feed}
use Rattle.line_stream.specs.Pieces.{line_limit, log_lines, in_64_bits}
use Rattle.line_stream.proofs.Cutting.{HasNoFeed, one_line, cut_more, take_twice}
use Rattle.line_stream.specs.Streams.{kept_of, TakesNext, TakesLines}
use Rattle.line_stream.specs.Unended.{UnendedState, IsUnendedOf, TakesComplete, StopsInBytes}

pub next_number : (count n : ℕ) → count ≡ in_64_bits n → counted count ≡ in_64_bits (n + 1)
next_number count n is = omega (arith, is)

-- before the log
pub IsUnendedOf-none : IsUnendedOf (record { line = []; lines = 0 }) [] []
IsUnendedOf-none = record { rest = []; cut = refl; line_is = refl; lines_are = refl }

module _ {S E : Type 0} (takes : S → ℕ → List ℕ → S → Result (Unit {0}) E → Type 0) where
  -- the lines that were taken first, and those that were taken next
  pub TakesLines-more : (count : ℕ) (before : S) (lines more : List (List ℕ)) (mid after : S) → TakesLines takes count before lines mid
      → TakesLines takes (count + length lines) mid more after → TakesLines takes count before (lines ++ more) after
  TakesLines-more count before [] more mid after is next =
      subst (λ s. TakesLines takes count s more after) is (subst (λ n. TakesLines takes n mid more after) (omega arith) next)
  TakesLines-more count before (line ∷ lines) more mid after taken next = (
    taken.0,
    taken.1,
    TakesLines-more (count + 1) taken.0 lines more mid after taken.2 (subst (λ n. TakesLines takes n mid more after) (omega arith) next),
  )

  pub TakesComplete-nothing : (u : UnendedState) (s : S) → TakesComplete takes u s [] u s
  TakesComplete-nothing u s = λ bytes lines b. (
    [],
    subst (λ x. IsUnendedOf u x (lines ++ [])) (sym (append-nil bytes)) (subst (IsUnendedOf u bytes) (sym (append-nil lines)) b),
    refl,
  )

  -- bytes without a line feed are added to the line, as far as it is kept
  pub TakesComplete-keeps : (old : UnendedState) (s : S) (piece : List ℕ) → HasNoFeed piece → TakesComplete takes old s piece (record old { line = kept_of (old.line ++ piece) }) s
  TakesComplete-keeps old s piece free = λ bytes lines b. (
    [],
    record {
      rest = b.rest ++ piece;
      cut = cut_more bytes piece lines b.rest piece [] b.cut (one_line piece free) ∙ ap (λ (ls : List (List ℕ)). ls ++ (b.rest ++ piece) ∷ []) (sym (append-nil lines));
      line_is = ap (λ l. kept_of (l ++ piece)) b.line_is ∙ take_twice (line_limit + 1) b.rest piece;
      lines_are = b.lines_are ∙ ap (λ (ls : List (List ℕ)). in_64_bits (length ls)) (sym (append-nil lines));
    },
    refl,
  )

  -- a line feed came, and the line was taken
  pub TakesComplete-ends : (old : UnendedState) (s t : S) → takes s (counted old.lines) old.line t (Ok tt) → TakesComplete takes old s (10 ∷ []) (record { line = []; lines = counted old.lines }) t
  TakesComplete-ends old s t taken = λ bytes lines b.
      let number : counted old.lines ≡ in_64_bits (length lines + 1) = next_number old.lines (length lines) b.lines_are in (
        b.rest ∷ [],
        record {
          rest = [];
          cut = cut_more bytes (10 ∷ []) lines b.rest [] ([] ∷ []) b.cut refl ∙ ap (λ r. lines ++ r ∷ [] ∷ []) (append-nil b.rest)
              ∙ sym (append_assoc lines (b.rest ∷ []) ([] ∷ []));
          line_is = refl;
          lines_are = number ∙ ap in_64_bits (sym (length-append lines (b.rest ∷ [])));
        },
        (t, subst (λ l. takes s (in_64_bits (length lines + 1)) l t (Ok tt)) b.line_is (subst (λ n. takes s n old.line t (Ok tt)) number taken), refl),
      )

  pub TakesComplete-more : (old mid new : UnendedState) (s t u : S) (one two : List ℕ) → TakesComplete takes old s one mid t → TakesComplete takes mid t two new u → TakesComplete takes old s (one ++ two) new u
  TakesComplete-more old mid new s t u one two first next = λ bytes lines b.
      let (some, unended, taken) = first bytes lines b in
      let (more, unended_more, taken_more) = next (bytes ++ one) (lines ++ some) unended in (
        some ++ more,
        subst (λ ls. IsUnendedOf new (bytes ++ (one ++ two)) ls) (append_assoc lines some more)
            (subst (λ x. IsUnendedOf new x ((lines ++ some) ++ more)) (append_assoc bytes one two) unended_more),
        TakesLines-more (length lines) s some more t u taken (subst (λ n. TakesLines takes n t more u) (length-append lines some) taken_more),
      )

  -- a line feed came, and it stopped at the line, whatever comes after it
  pub StopsInBytes-ends : (old : UnendedState) (s t : S) (left : List ℕ) (end : E) → takes s (counted old.lines) old.line t (Err end) → StopsInBytes takes old s (10 ∷ left) t end
  StopsInBytes-ends old s t left end stopped = λ bytes lines b.
      let number : counted old.lines ≡ in_64_bits ((length lines + 0) + 1) = omega (arith, b.lines_are) in
      record {
        more = [];
        taken = s;
        takes_more = refl;
        line = b.rest;
        beyond = log_lines left;
        cut = cut_more bytes (10 ∷ left) lines b.rest [] (log_lines left) b.cut refl ∙ ap (λ r. lines ++ r ∷ log_lines left) (append-nil b.rest)
            ∙ ap (λ (ls : List (List ℕ)). ls ++ b.rest ∷ log_lines left) (sym (append-nil lines));
        complete = omega (arith, length-slice_split is_line_feed left);
        stops = subst (λ l. takes s (in_64_bits ((length lines + 0) + 1)) l t (Err end)) b.line_is (subst (λ n. takes s n old.line t (Err end)) number stopped);
      }

  pub StopsInBytes-more : (old mid : UnendedState) (s t u : S) (one two : List ℕ) (end : E) → TakesComplete takes old s one mid t → StopsInBytes takes mid t two u end → StopsInBytes takes old s (one ++ two) u end
  StopsInBytes-more old mid s t u one two end first stop = λ bytes lines b.
      let (some, unended, taken) = first bytes lines b in
      let st = stop (bytes ++ one) (lines ++ some) unended in
      record {
        more = some ++ st.more;
        taken = st.taken;
        takes_more = TakesLines-more (length lines) s some st.more t st.taken taken
            (subst (λ n. TakesLines takes n t st.more st.taken) (length-append lines some) st.takes_more);
        line = st.line;
        beyond = st.beyond;
        cut = ap log_lines (sym (append_assoc bytes one two)) ∙ st.cut ∙ ap (λ (ls : List (List ℕ)). ls ++ st.line ∷ st.beyond) (append_assoc lines some st.more);
        complete = st.complete;
        stops = subst (λ n. TakesNext takes n st.taken st.line u (Err end)) (omega (arith, length-append lines some, length-append some st.more)) st.stops;
      }
