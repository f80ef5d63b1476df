-- A format that was cut.
use Rattle.std.proofs.Common.{◌≡◌, inl, inr, ℕ, suc, ◌<◌, ◌≤◌, Option, length, refl, sym, subst, ◌∙◌, arith}
use Rattle.std.proofs.lemmas.Bool.{cases_eq}
use Rattle.flash_places.specs.declared.FlashLine.{FlashLine}
use Rattle.flash_places.specs.declared.FlashLine.TheVariants.{Head}
use Rattle.flash_places.specs.Places.{Flash, CutsProgram, LooksAll, blank_place, whole_place}
use Rattle.flash_laws.specs.Logs.{CellList}
use Rattle.flash_laws.specs.Lives.{FlashLayout, ScanFinds, off}
use Rattle.flash_laws.specs.CutFormats.{CutFormatted}
use Rattle.flash_laws.proofs.CallerLemmas.{no_line, with_head, with_others, with_same, suc≢zero}
use Rattle.flash_log.specs.Going.{machine}
use Rattle.flash_plan.specs.declared.operations.FlashOutcome.{FlashOutcome}
use Rattle.flash_plan.specs.declared.operations.FlashOutcome.TheVariants.{Answered, Done, Failed}
use Rattle.flash_plan.specs.declared.operations.Operation.TheVariants.{Program}
use Rattle.flash_plan.specs.Performing.{DoesOperation}
use Rattle.flash_plan.specs.Plans.{Fails}
use Rattle.flash_plan.specs.Formatting.{FilledTo}

-- a program that failed is cut
cut_by : (at : ℕ) (line : FlashLine) (outcome : FlashOutcome) (f g : Flash) → Fails (Program 0 at line) outcome
    → DoesOperation (Program 0 at line) outcome f g → CutsProgram 0 at line f g
cut_by at line (Answered answer) f g fails does = does
cut_by at line Done f g fails does = absurd fails
cut_by at line Failed f g fails does = does

-- ---- before its head

abbrev HeadsBlank : FlashLayout → Flash → Type 0
HeadsBlank l f = (x : ℕ) → x < l.banks → f x 0 ≡ blank_place

filled_heads : (l : FlashLayout) (done : ℕ) (cells : CellList) (f : Flash) → FilledTo l done cells f → HeadsBlank l f
filled_heads l done cells f h x inside = elim (cases_eq x 0) [
  | inl e ↦ subst (λ y. f y 0 ≡ blank_place) (sym e) h.head
  | inr ne ↦ h.spare x (omega (arith, ne)) inside
]

cut_heads : (l : FlashLayout) (done : ℕ) (line : FlashLine) (f g : Flash) → CutsProgram 0 (suc done) line f g → HeadsBlank l f → HeadsBlank l g
cut_heads l done line f g cut h x inside = elim (cases_eq x 0) [
  | inl e ↦ subst (λ y. g y 0 ≡ blank_place) (sym e)
      (cut.same.rest 0 (λ z. suc≢zero done (sym z)) ∙ subst (λ y. f y 0 ≡ blank_place) e (h x inside))
  | inr ne ↦ cut.same.others x ne 0 ∙ h x inside
]

none_found : (l : FlashLayout) (f after : Flash) (read : ℕ → ℕ → Option FlashLine) → HeadsBlank l f → LooksAll f read after → ScanFinds l read → ⊥
none_found l f after read blank looks s =
    no_line (f s.bank 0) (after s.bank 0) (read s.bank 0) (Head s.generation) (looks s.bank 0) (blank s.bank s.counts.inside) s.counts.log.head

pub filled_none : (l : FlashLayout) (done : ℕ) (cells : CellList) (f after : Flash) (read : ℕ → ℕ → Option FlashLine) → FilledTo l done cells f
    → LooksAll f read after → ScanFinds l read → ⊥
filled_none l done cells f after read h looks s = none_found l f after read (filled_heads l done cells f h) looks s

pub cut_none : (l : FlashLayout) (done : ℕ) (cells : CellList) (line : FlashLine) (f g after : Flash) (outcome : FlashOutcome)
    (read : ℕ → ℕ → Option FlashLine) → FilledTo l done cells f → Fails (Program 0 (suc done) line) outcome
    → DoesOperation (Program 0 (suc done) line) outcome f g → LooksAll g read after → ScanFinds l read → ⊥
cut_none l done cells line f g after outcome read h fails does looks s =
    none_found l g after read
    (cut_heads l done line f g (cut_by (suc done) line outcome f g fails does) (filled_heads l done cells f h)) looks s

-- ---- at its head

pub format_cut : (l : FlashLayout) (cells : CellList) (f g : Flash) (outcome : FlashOutcome) → 2 ≤ l.banks → length cells ≡ l.cells
    → FilledTo l (length cells) cells f → Fails (Program 0 0 (Head 1)) outcome → DoesOperation (Program 0 0 (Head 1)) outcome f g
    → CutFormatted l cells (machine g off)
format_cut l cells f g outcome two count filled fails does =
    let cut = cut_by 0 (Head 1) outcome f g fails does in
    record {
      whole = with_head g (whole_place (Head 1));
      formatted = record {
        two = two;
        count = count;
        generation = 1;
        head = refl;
        copied = λ i below. cut.same.rest (suc i) (suc≢zero i) ∙ filled.copied i (omega (arith, below, count));
        ends = cut.same.rest (suc l.cells) (suc≢zero l.cells) ∙ filled.rest (suc l.cells) (omega (arith, count));
        spare = λ bank inside ne.
            sym (with_others g (whole_place (Head 1)) bank ne 0) ∙ (cut.same.others bank ne 0 ∙ filled.spare bank (omega (arith, ne)) inside);
        is_off = refl;
      };
      left = cut.left;
      same = with_same g (whole_place (Head 1));
      is_off = refl;
    }
