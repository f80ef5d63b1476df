-- At most one finding is found of a line of a log
use Rattle.std.proofs.Common.{◌≡◌, ℕ, ◌+◌, List, length, take, sym, ap, ◌∙◌, subst, arith}
use Rattle.std.specs.List.{slice_get}
use Rattle.std.proofs.lemmas.Option.{none-some, same_Some}
use Rattle.secured_pdu.specs.Verdict.{Outcome, Verdict}
use Rattle.secured_pdu.proofs.CallerLemmas.{same_from_Verdict}
use Rattle.text_lines.specs.Lines.{TextLine}
use Rattle.can_logs.specs.declared.map_lines.MapLine.{MapLine}
use Rattle.can_logs.specs.declared.frames.LogFrame.{LogFrame}
use Rattle.can_logs.specs.MapLines.{row_head, place_of_frame}
use Rattle.can_logs.specs.Findings.{Finding, other, too_short, verdict, Mapped, channel_of, IsMapped, IsUnmapped, AuditsLine}
use Rattle.can_logs.proofs.Windows.{HaveWindows, window_at}

-- ---- what a line is mapped to

record SameMapped (m n : Mapped) : Type 0 where
  pub place : m.place ≡ n.place
  pub entry : m.entry ≡ n.entry
  pub bytes : m.bytes ≡ n.bytes

same_mapped : (mapping : List MapLine) (words : List (List ℕ)) (m n : Mapped) → IsMapped mapping words m → IsMapped mapping words n → SameMapped m n
same_mapped mapping words m n (f, f_is, f_place, f_entry, f_bytes) (h, h_is, h_place, h_entry, h_bytes) =
    let frame : f ≡ h = same_Some f h (sym f_is ∙ h_is) in
    let place : m.place ≡ n.place =
    same_Some m.place n.place (sym f_place ∙ ap (λ (x : LogFrame). place_of_frame mapping x.can (channel_of words)) frame ∙ h_place) in
    record {
      place = place;
      entry = same_Some m.entry n.entry (sym f_entry ∙ ap (λ (k : ℕ). slice_get mapping k) place ∙ h_entry);
      bytes = f_bytes ∙ ap (λ (x : LogFrame). x.bytes) frame ∙ sym h_bytes;
    }

unmapped_or_mapped : (mapping : List MapLine) (words : List (List ℕ)) (m : Mapped) → IsUnmapped mapping words → IsMapped mapping words m → ⊥
unmapped_or_mapped mapping words m unmapped (frame, is, place, entry, bytes) = none-some m.place (sym (unmapped frame is) ∙ place)

-- ---- what is found of a line

module _ (mapping : List MapLine) (counter : ℕ → ℕ) (l : TextLine) where
  same_short : (n p : ℕ) (c : List ℕ) (n2 p2 : ℕ) (c2 : List ℕ) → AuditsLine mapping counter l (too_short n p c) → AuditsLine mapping counter l (too_short n2 p2 c2)
      → too_short n p c ≡ too_short n2 p2 c2
  same_short n p c n2 p2 c2 (m, mapped, number_is, place_is, can_is, short) (m2, mapped2, number_is2, place_is2, can_is2, short2) =
      let same : SameMapped m m2 = same_mapped mapping l.words m m2 mapped mapped2 in
      ap (λ (k : ℕ). too_short k p c) (number_is ∙ sym number_is2)
      ∙ ap (λ (k : ℕ). too_short n2 k c) (place_is ∙ same.place ∙ sym place_is2)
      ∙ ap (λ (can : List ℕ). too_short n2 p2 can) (can_is ∙ ap row_head same.entry ∙ sym can_is2)

  short_or_long : (n p : ℕ) (c : List ℕ) (n2 p2 : ℕ) (c2 : List ℕ) (o : Outcome) → AuditsLine mapping counter l (too_short n p c)
      → AuditsLine mapping counter l (verdict n2 p2 c2 o) → ⊥
  short_or_long n p c n2 p2 c2 o (m, mapped, number_is, place_is, can_is, short) (m2, mapped2, number_is2, place_is2, can_is2, long, judged) =
      let same : SameMapped m m2 = same_mapped mapping l.words m m2 mapped mapped2 in
      let size : m.entry.size ≡ m2.entry.size = ap (λ (x : MapLine). x.size) same.entry in
      let as_many : length m.bytes ≡ length m2.bytes = ap (λ (bs : List ℕ). length bs) same.bytes in
      omega (arith, short, long, size, as_many)

  same_verdict : (n p : ℕ) (c : List ℕ) (o : Outcome) (n2 p2 : ℕ) (c2 : List ℕ) (o2 : Outcome) → HaveWindows mapping
      → AuditsLine mapping counter l (verdict n p c o) → AuditsLine mapping counter l (verdict n2 p2 c2 o2) → verdict n p c o ≡ verdict n2 p2 c2 o2
  same_verdict n p c o n2 p2 c2 o2 windows (m, mapped, number_is, place_is, can_is, long, judged) (m2, mapped2, number_is2, place_is2, can_is2, long2, judged2) =
      let same : SameMapped m m2 = same_mapped mapping l.words m m2 mapped mapped2 in
      let places : p ≡ p2 = place_is ∙ same.place ∙ sym place_is2 in
      let here : Verdict m.entry.key m.entry.id (counter p) m.entry.window (take (m.entry.size + 4) m.bytes) o2 =
      subst (λ (x : MapLine). Verdict x.key x.id (counter p) x.window (take (x.size + 4) m.bytes) o2) (sym same.entry)
      (subst (λ (bs : List ℕ). Verdict m2.entry.key m2.entry.id (counter p) m2.entry.window (take (m2.entry.size + 4) bs) o2) (sym same.bytes)
      (subst (λ (k : ℕ). Verdict m2.entry.key m2.entry.id (counter k) m2.entry.window (take (m2.entry.size + 4) m2.bytes) o2) (sym places) judged2)) in
      ap (λ (k : ℕ). verdict k p c o) (number_is ∙ sym number_is2)
      ∙ ap (λ (k : ℕ). verdict n2 k c o) places
      ∙ ap (λ (can : List ℕ). verdict n2 p2 can o) (can_is ∙ ap row_head same.entry ∙ sym can_is2)
      ∙ ap (λ (x : Outcome). verdict n2 p2 c2 x)
      (same_from_Verdict m.entry.key m.entry.id (counter p) m.entry.window (take (m.entry.size + 4) m.bytes) o o2 (window_at mapping m.place m.entry windows mapped.3) judged here)

  -- at most one finding
  pub same_finding : (f g : Finding) → HaveWindows mapping → AuditsLine mapping counter l f → AuditsLine mapping counter l g → f ≡ g
  same_finding (other k) (other j) windows x y = ap other (x.1 ∙ sym y.1)
  same_finding (other k) (too_short n p c) windows x y = absurd (unmapped_or_mapped mapping l.words y.0 x.0 y.1)
  same_finding (other k) (verdict n p c o) windows x y = absurd (unmapped_or_mapped mapping l.words y.0 x.0 y.1)
  same_finding (too_short n p c) (other k) windows x y = absurd (unmapped_or_mapped mapping l.words x.0 y.0 x.1)
  same_finding (too_short n p c) (too_short n2 p2 c2) windows x y = same_short n p c n2 p2 c2 x y
  same_finding (too_short n p c) (verdict n2 p2 c2 o2) windows x y = absurd (short_or_long n p c n2 p2 c2 o2 x y)
  same_finding (verdict n p c o) (other k) windows x y = absurd (unmapped_or_mapped mapping l.words x.0 y.0 x.1)
  same_finding (verdict n p c o) (too_short n2 p2 c2) windows x y = absurd (short_or_long n2 p2 c2 n p c o y x)
  same_finding (verdict n p c o) (verdict n2 p2 c2 o2) windows x y = same_verdict n p c o n2 p2 c2 o2 windows x y
