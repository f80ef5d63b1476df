-- Lives that begin with a format whose head was cut.
use Rattle.std.proofs.Common.{◌≡◌, ◌≢◌, inl, inr, ℕ, zero, suc, ◌<◌, Option, Some, List, [], ◌∷◌, refl, sym, ap, subst, ◌∙◌}
use Rattle.std.proofs.lemmas.Bool.{cases_eq, true≢false}
use Rattle.std.proofs.lemmas.Option.{none-some, same_Some}
use Rattle.flash_places.specs.declared.FlashLine.{FlashLine}
use Rattle.flash_places.specs.declared.FlashLine.TheVariants.{Head}
use Rattle.flash_places.specs.Places.{Flash, FlashPlace, LooksAll, Looks, sees, sees_nothing, SameButAt, blank_place, whole_place}
use Rattle.flash_laws.specs.Logs.{CellList}
use Rattle.flash_laws.specs.Lives.{FlashLayout, FlashMachine, FlashStage, off, found, copying, ready, IsUp, was_found, was_ready}
use Rattle.flash_laws.specs.Lives.{FlashDeed, scans, resumes, erases, copies, heads, puts, cuts_scan, cuts_erase, cuts_copy, cuts_head, cuts_put, cuts}
use Rattle.flash_laws.specs.Lives.{FlashLives, Possible, IsReadyFlash, Scans, CutsScan, CutsBetween}
use Rattle.flash_laws.specs.CutFormats.{CutFormatted, LivesFormatted}
use Rattle.flash_laws.proofs.Reached.{formatted_lives}

-- ---- what a place is read as

-- no line is read of a blank place
pub no_line : (p q : FlashPlace) (answer : Option FlashLine) (line : FlashLine) → Looks p answer q → p ≡ blank_place → answer ≡ Some line → ⊥
no_line p q answer line (sees other content is now) blank says = none-some other (sym (ap (λ (r : FlashPlace). r.content) blank) ∙ content)
no_line p q answer line (sees_nothing odd none same) blank says = none-some line (sym none ∙ says)

-- a blank place stays so, and a whole one
kept_blank : (p q : FlashPlace) (answer : Option FlashLine) → Looks p answer q → p ≡ blank_place → q ≡ blank_place
kept_blank p q answer (sees line content is now) blank = absurd (none-some line (sym (ap (λ (r : FlashPlace). r.content) blank) ∙ content))
kept_blank p q answer (sees_nothing odd none same) blank = same ∙ blank

kept_whole : (p q : FlashPlace) (answer : Option FlashLine) (line : FlashLine) → Looks p answer q → p ≡ whole_place line → q ≡ whole_place line
kept_whole p q answer line (sees other content is now) whole =
    now ∙ ap whole_place (same_Some other line (sym content ∙ ap (λ (r : FlashPlace). r.content) whole))
kept_whole p q answer line (sees_nothing (inl blank) none same) whole =
    absurd (none-some line (sym (ap (λ (r : FlashPlace). r.content) blank) ∙ ap (λ (r : FlashPlace). r.content) whole))
kept_whole p q answer line (sees_nothing (inr odd) none same) whole =
    absurd (true≢false (sym (ap (λ (r : FlashPlace). r.firm) whole) ∙ odd))

-- its content stays
kept_content : (p q : FlashPlace) (answer : Option FlashLine) → Looks p answer q → q.content ≡ p.content
kept_content p q answer (sees line content is now) = ap (λ (r : FlashPlace). r.content) now ∙ sym content
kept_content p q answer (sees_nothing odd none same) = ap (λ (r : FlashPlace). r.content) same

-- ---- the same flash with its head whole

abbrev pub with_head : Flash → FlashPlace → Flash
with_head g head zero zero = head
with_head g head zero (suc k) = g zero (suc k)
with_head g head (suc bank) k = g (suc bank) k

with_rest : (g : Flash) (head : FlashPlace) (k : ℕ) → k ≢ 0 → g 0 k ≡ with_head g head 0 k
with_rest g head zero ne = absurd (ne refl)
with_rest g head (suc k) ne = refl

pub with_others : (g : Flash) (head : FlashPlace) (bank : ℕ) → bank ≢ 0 → (k : ℕ) → g bank k ≡ with_head g head bank k
with_others g head zero ne k = absurd (ne refl)
with_others g head (suc bank) ne k = refl

pub with_same : (g : Flash) (head : FlashPlace) → SameButAt 0 0 (with_head g head) g
with_same g head = record { rest = with_rest g head; others = with_others g head }

pub suc≢zero : (k : ℕ) → suc k ≢ 0
suc≢zero k e = absurd (cc)

-- ---- a scan

module _ (l : FlashLayout) (cells : CellList) (a m : FlashMachine) (h : CutFormatted l cells a) where
  abbrev machine-of : FlashMachine
  machine-of = record { flash = h.whole; stage = off }

  -- the head that a scan found is that of bank 0
  head_seen : (s : Scans l a m) → (s.read 0 0 ≡ Some (Head s.generation))
  head_seen s = elim (cases_eq s.bank 0) [
    | inl e ↦ subst (λ bank. s.read bank 0 ≡ Some (Head s.generation)) e s.counts.log.head
    | inr ne ↦
        absurd (no_line (a.flash s.bank 0) (m.flash s.bank 0) (s.read s.bank 0) (Head s.generation) (s.looks s.bank 0)
        (h.same.others s.bank ne 0 ∙ h.formatted.spare s.bank s.counts.inside ne) s.counts.log.head)
  ]

  looks_head : (answer : Option FlashLine) (line : FlashLine) (q : FlashPlace) → Looks (a.flash 0 0) answer q → answer ≡ Some line → Looks (h.whole 0 0) answer q
  looks_head answer line q (sees other content is now) says = elim h.left [
    | inl same ↦ sees other (sym same ∙ content) is now
    | inr none ↦ absurd (none-some other (sym none ∙ content))
  ]
  looks_head answer line q (sees_nothing odd none same) says = absurd (none-some line (sym none ∙ says))

  looks_whole : (s : Scans l a m) → LooksAll h.whole s.read m.flash
  looks_whole s bank k = elim (cases_eq bank 0) [
    | inr ne ↦ subst (λ (p : FlashPlace). Looks p (s.read bank k) (m.flash bank k)) (h.same.others bank ne k) (s.looks bank k)
    | inl e ↦ elim (cases_eq k 0) [
      | inr ne ↦ subst (λ b. Looks (h.whole b k) (s.read b k) (m.flash b k)) (sym e)
          (subst (λ (p : FlashPlace). Looks p (s.read 0 k) (m.flash 0 k)) (h.same.rest k ne) (s.looks 0 k))
      | inl z ↦ subst (λ b. Looks (h.whole b k) (s.read b k) (m.flash b k)) (sym e)
          (subst (λ j. Looks (h.whole 0 j) (s.read 0 j) (m.flash 0 j)) (sym z)
          (looks_head (s.read 0 0) (Head s.generation) (m.flash 0 0) (s.looks 0 0) (head_seen s)))
    ]
  ]

  scans_whole : Scans l a m → Scans l machine-of m
  scans_whole s = record {
    was = refl;
    read = s.read;
    looks = looks_whole s;
    bank = s.bank;
    generation = s.generation;
    cells = s.cells;
    next = s.next;
    counts = s.counts;
    now = s.now;
  }

  -- a scan that was cut leaves such a format
  spare_blank : (bank : ℕ) → bank < l.banks → bank ≢ 0 → (f : Flash) → (answer : ℕ → ℕ → Option FlashLine) → LooksAll a.flash answer f → f bank 0 ≡ blank_place
  spare_blank bank inside ne f answer looks =
      kept_blank (a.flash bank 0) (f bank 0) (answer bank 0) (looks bank 0) (h.same.others bank ne 0 ∙ h.formatted.spare bank inside ne)

  cut_scanned : CutsScan a m → CutFormatted l cells m
  cut_scanned s = record {
    whole = with_head m.flash (h.whole 0 0);
    formatted = record {
      two = h.formatted.two;
      count = h.formatted.count;
      generation = h.formatted.generation;
      head = h.formatted.head;
      copied = λ i below.
          kept_whole (a.flash 0 (suc i)) (m.flash 0 (suc i)) (s.read 0 (suc i)) _ (s.looks 0 (suc i))
          (h.same.rest (suc i) (suc≢zero i) ∙ h.formatted.copied i below);
      ends = kept_blank (a.flash 0 (suc l.cells)) (m.flash 0 (suc l.cells)) (s.read 0 (suc l.cells)) (s.looks 0 (suc l.cells))
          (h.same.rest (suc l.cells) (suc≢zero l.cells) ∙ h.formatted.ends);
      spare = λ bank inside ne.
          sym (with_others m.flash (h.whole 0 0) bank ne 0) ∙ spare_blank bank inside ne m.flash s.read s.looks;
      is_off = refl;
    };
    left = elim h.left [
      | inl same ↦ inl (kept_content (a.flash 0 0) (m.flash 0 0) (s.read 0 0) (s.looks 0 0) ∙ same)
      | inr none ↦ inr (kept_content (a.flash 0 0) (m.flash 0 0) (s.read 0 0) (s.looks 0 0) ∙ none)
    ];
    same = with_same m.flash (h.whole 0 0);
    is_off = s.now;
  }

  -- and so does a loss of power in between
  cut_between : CutsBetween a m → CutFormatted l cells m
  cut_between s = record {
    whole = h.whole;
    formatted = h.formatted;
    left = elim h.left [
      | inl same ↦ inl (ap (λ (p : FlashPlace). p.content) (s.same 0 0) ∙ same)
      | inr none ↦ inr (ap (λ (p : FlashPlace). p.content) (s.same 0 0) ∙ none)
    ];
    same = record { rest = λ k ne. s.same 0 k ∙ h.same.rest k ne; others = λ bank ne k. s.same bank k ∙ h.same.others bank ne k };
    is_off = s.now;
  }

-- nothing is up while the power is off
off_up : (stage : FlashStage) (bank generation : ℕ) (cells : CellList) → stage ≡ off → IsUp stage bank generation cells → ⊥
off_up stage bank generation cells is (was_found next e) = absurd (cc)
off_up stage bank generation cells is (was_ready next e) = absurd (cc)

off_ready : (stage : FlashStage) (bank generation : ℕ) (cells : CellList) (next : ℕ) → stage ≡ off → stage ≡ ready bank generation cells next → ⊥
off_ready stage bank generation cells next is e = absurd (cc)

off_copying : (stage : FlashStage) (bank generation : ℕ) (cells : CellList) (done : ℕ) → stage ≡ off → stage ≡ copying bank generation cells done → ⊥
off_copying stage bank generation cells done is e = absurd (cc)

off_found : (stage : FlashStage) (bank generation : ℕ) (cells : CellList) (next : ℕ) → stage ≡ off → stage ≡ found bank generation cells next → ⊥
off_found stage bank generation cells next is e = absurd (cc)

-- from such a format a store that is ready is reached as from a whole one
record CutFormatLife (l : FlashLayout) (cells : CellList) (deeds : List FlashDeed) (b : FlashMachine) : Type 0 where
  found : LivesFormatted l cells b
  same : (now : CellList) → Possible found.deeds cells now → Possible deeds cells now

cut_format_life : (l : FlashLayout) (deeds : List FlashDeed) (cells now : CellList) (a b : FlashMachine) → CutFormatted l cells a
    → FlashLives l deeds a b → IsReadyFlash b now → CutFormatLife l cells deeds b
cut_format_life l [] cells now a b h lives is =
    absurd (off_ready b.stage is.bank is.generation now is.next (ap (λ (m : FlashMachine). m.stage) lives ∙ h.is_off) is.is)
cut_format_life l (scans ∷ deeds) cells now a b h lives is = record {
  found = record {
    start = record { flash = h.whole; stage = off };
    formatted = h.formatted;
    deeds = scans ∷ deeds;
    lives = (lives.0, (scans_whole l cells a lives.0 h lives.1.0, lives.1.1));
  };
  same = λ x p. p;
}
cut_format_life l (cuts_scan ∷ deeds) cells now a b h lives is =
    let rest = cut_format_life l deeds cells now lives.0 b (cut_scanned l cells a lives.0 h lives.1.0) lives.1.1 is in
    record { found = rest.found; same = λ x p. (cells, (refl, rest.same x p)) }
cut_format_life l (cuts ∷ deeds) cells now a b h lives is =
    let rest = cut_format_life l deeds cells now lives.0 b (cut_between l cells a lives.0 h lives.1.0) lives.1.1 is in
    record { found = rest.found; same = λ x p. (cells, (refl, rest.same x p)) }
cut_format_life l (resumes ∷ deeds) cells now a b h lives is = let d = lives.1.0 in absurd (off_found a.stage d.bank d.generation d.cells d.next h.is_off d.was)
cut_format_life l (erases target ∷ deeds) cells now a b h lives is = let d = lives.1.0 in absurd (off_up a.stage d.bank d.generation d.cells h.is_off d.up)
cut_format_life l (copies ∷ deeds) cells now a b h lives is = let d = lives.1.0 in absurd (off_copying a.stage d.bank d.generation d.cells d.done h.is_off d.was)
cut_format_life l (heads ∷ deeds) cells now a b h lives is = let d = lives.1.0 in absurd (off_copying a.stage d.bank d.generation d.cells _ h.is_off d.was)
cut_format_life l (puts cell payload ∷ deeds) cells now a b h lives is = let d = lives.1.0 in absurd (off_ready a.stage d.bank d.generation d.cells d.next h.is_off d.was)
cut_format_life l (cuts_erase target ∷ deeds) cells now a b h lives is = let d = lives.1.0 in absurd (off_up a.stage d.bank d.generation d.cells h.is_off d.up)
cut_format_life l (cuts_copy ∷ deeds) cells now a b h lives is = let d = lives.1.0 in absurd (off_copying a.stage d.bank d.generation d.cells d.done h.is_off d.was)
cut_format_life l (cuts_head ∷ deeds) cells now a b h lives is = let d = lives.1.0 in absurd (off_copying a.stage d.bank d.generation d.cells _ h.is_off d.was)
cut_format_life l (cuts_put cell payload ∷ deeds) cells now a b h lives is = let d = lives.1.0 in absurd (off_ready a.stage d.bank d.generation d.cells d.next h.is_off d.was)

pub cut_format_found : (l : FlashLayout) (deeds : List FlashDeed) (cells now : CellList) (a b : FlashMachine) → CutFormatted l cells a
    → FlashLives l deeds a b → IsReadyFlash b now → LivesFormatted l cells b
cut_format_found l deeds cells now a b h lives is = (cut_format_life l deeds cells now a b h lives is).found

pub cut_format_lives : (l : FlashLayout) (deeds : List FlashDeed) (cells now : CellList) (a b : FlashMachine) → CutFormatted l cells a
    → FlashLives l deeds a b → IsReadyFlash b now → Possible deeds cells now
cut_format_lives l deeds cells now a b h lives is =
    let life = cut_format_life l deeds cells now a b h lives is in
    let found = life.found in
    life.same now (formatted_lives l found.deeds cells now found.start b found.formatted found.lives is)
