-- What holds all along. At each moment one log counts, in one bank. It is firm, except for at most one line at its end,
-- whose program was cut. The next bank has an older head or none, or a copy that may become the log that counts; every
-- other bank has an older head or none.
use Rattle.std.proofs.Common.{◌≡◌, ◌≢◌, ◌⊎◌, inl, inr, ℕ, suc, ◌+◌, ◌<◌, ◌≤◌, Some, None, List, [], ◌∷◌, ◌++◌, length, get_or, sym, ap, subst, ◌∙◌, arith}
use Rattle.flash_places.specs.declared.FlashLine.{FlashLine}
use Rattle.flash_places.specs.declared.FlashLine.TheVariants.{Head, Entry}
use Rattle.flash_places.specs.Places.{FlashPlace, Flash, blank_place, whole_place}
use Rattle.flash_laws.specs.Logs.{CellList, copy_lines, after_lines}
use Rattle.flash_laws.specs.Lives.{FlashLayout, FlashStage, off, found, copying, ready, IsUp, was_found, was_ready, IsOlder, next_bank}
use Rattle.flash_laws.proofs.Reading.{contents, content_of, Keeps, keeps_same, Less, SamePlaces}
use Rattle.flash_laws.proofs.Copies.{length-after}
use Rattle.flash_laws.proofs.Wear.{Wear, Spent, next_other, next_inside}

-- whether a copy is under way, as a number
abbrev pub copies_now : FlashStage → ℕ
copies_now off = 0
copies_now (found bank generation cells next) = 0
copies_now (copying bank generation cells done) = 1
copies_now (ready bank generation cells next) = 0

abbrev pub OneOf : CellList → CellList → CellList → Type 0
OneOf a b x = (x ≡ a) ⊎ (x ≡ b)

-- the log of these cells, firm, up to place `next`
pub record HoldsLog (n : ℕ) (u : ℕ → FlashPlace) (generation : ℕ) (cells : CellList) (next : ℕ) : Type 0 where
  pub first : CellList
  pub puts : List FlashLine
  pub count : length first ≡ n
  pub head : u 0 ≡ whole_place (Head generation)
  pub lines : Keeps u 1 (copy_lines 0 first ++ puts)
  pub now : cells ≡ after_lines puts first
  pub ends : next ≡ 1 + length (copy_lines 0 first ++ puts)

-- a line that may stand at the end makes a or b of the cells, and none stands after it
abbrev pub LastOf : (ℕ → FlashPlace) → CellList → ℕ → CellList → CellList → Type 0
LastOf u cells next a b = (line : FlashLine) → contents u next ≡ Some line
    → OneOf a b (after_lines (line ∷ []) cells) × (contents u (suc next) ≡ None)

-- the log that counts: whatever is read of it, its cells are a or b
pub record KeepsLog (n : ℕ) (u : ℕ → FlashPlace) (generation : ℕ) (a b : CellList) : Type 0 where
  pub cells : CellList
  pub next : ℕ
  pub held : HoldsLog n u generation cells next
  pub one : OneOf a b cells
  pub last : LastOf u cells next a b

-- a copy of a or b in this bank, whose places have its lines or nothing
pub record Ahead (l : FlashLayout) (w : Wear) (u : ℕ → FlashPlace) (bank generation : ℕ) (a b : CellList) : Type 0 where
  pub cells : CellList
  pub count : length cells ≡ l.cells
  pub one : OneOf a b cells
  pub head : (h : ℕ) → contents u 0 ≡ Some (Head h) → h ≡ suc generation
  pub lines : (i : ℕ) (line : FlashLine) → contents u (suc i) ≡ Some line → (i < length cells) × (line ≡ Entry i (get_or cells i []))
  pub spent : Spent l.banks w 0 bank

abbrev pub Beside : FlashLayout → Wear → (ℕ → FlashPlace) → ℕ → ℕ → CellList → CellList → Type 0
Beside l w u bank generation a b = IsOlder u generation ⊎ Ahead l w u bank generation a b

pub record SoundAt (l : FlashLayout) (w : Wear) (f : Flash) (bank g : ℕ) (a b : CellList) : Type 0 where
  pub inside : bank < l.banks
  pub kept : KeepsLog l.cells (f bank) g a b
  pub beside : Beside l w (f (next_bank l.banks bank)) (next_bank l.banks bank) g a b
  pub older : (x : ℕ) → x < l.banks → x ≢ bank → x ≢ next_bank l.banks bank → IsOlder (f x) g
  pub spent : Spent l.banks w 0 bank

pub record SoundOff (l : FlashLayout) (w : Wear) (f : Flash) (a b : CellList) : Type 0 where
  pub bank : ℕ
  pub generation : ℕ
  pub at : SoundAt l w f bank generation a b

pub record SoundFound (l : FlashLayout) (w : Wear) (f : Flash) (bank g : ℕ) (cells : CellList) (next : ℕ) (a b : CellList) : Type 0 where
  pub at : SoundAt l w f bank g a b
  pub held : HoldsLog l.cells (f bank) g cells next
  pub one : OneOf a b cells

pub record SoundCopying (l : FlashLayout) (w : Wear) (f : Flash) (bank g : ℕ) (cells : CellList) (done : ℕ) (a b : CellList) : Type 0 where
  pub inside : bank < l.banks
  pub kept : KeepsLog l.cells (f bank) g a b
  pub one : OneOf a b cells
  pub count : length cells ≡ l.cells
  pub head : f (next_bank l.banks bank) 0 ≡ blank_place
  pub copied : (i : ℕ) → i < done → f (next_bank l.banks bank) (suc i) ≡ whole_place (Entry i (get_or cells i []))
  pub free : (k : ℕ) → done ≤ k → f (next_bank l.banks bank) (suc k) ≡ blank_place
  pub older : (x : ℕ) → x < l.banks → x ≢ bank → x ≢ next_bank l.banks bank → IsOlder (f x) g
  pub spent : Spent l.banks w 0 (next_bank l.banks bank)
  pub spent_before : Spent l.banks w 1 bank

pub record SoundReady (l : FlashLayout) (w : Wear) (f : Flash) (bank g : ℕ) (cells : CellList) (next : ℕ) (a b : CellList) : Type 0 where
  pub inside : bank < l.banks
  pub held : HoldsLog l.cells (f bank) g cells next
  pub one : OneOf a b cells
  pub free : (k : ℕ) → next ≤ k → f bank k ≡ blank_place
  pub older : (x : ℕ) → x < l.banks → x ≢ bank → IsOlder (f x) g
  pub spent : Spent l.banks w 0 bank

abbrev pub Sound : FlashLayout → Wear → CellList → CellList → Flash → FlashStage → Type 0
Sound l w a b f off = SoundOff l w f a b
Sound l w a b f (found bank g cells next) = SoundFound l w f bank g cells next a b
Sound l w a b f (copying bank g cells done) = SoundCopying l w f bank g cells done a b
Sound l w a b f (ready bank g cells next) = SoundReady l w f bank g cells next a b

-- ---- what stays if places stay, or lose what they had

pub held_same : (n : ℕ) (u v : ℕ → FlashPlace) (g : ℕ) (cells : CellList) (next : ℕ) → SamePlaces u v → HoldsLog n u g cells next → HoldsLog n v g cells next
held_same n u v g cells next same h = record {
  first = h.first;
  puts = h.puts;
  count = h.count;
  head = same 0 ∙ h.head;
  lines = keeps_same u v same 1 (copy_lines 0 h.first ++ h.puts) h.lines;
  now = h.now;
  ends = h.ends;
}

pub kept_same : (n : ℕ) (u v : ℕ → FlashPlace) (g : ℕ) (a b : CellList) → SamePlaces u v → KeepsLog n u g a b → KeepsLog n v g a b
kept_same n u v g a b same k = record {
  cells = k.cells;
  next = k.next;
  held = held_same n u v g k.cells k.next same k.held;
  one = k.one;
  last = λ line is. (
      let r = k.last line (sym (content_of (v k.next) (u k.next) (same k.next)) ∙ is) in
      (r.0, content_of (v (suc k.next)) (u (suc k.next)) (same (suc k.next)) ∙ r.1));
}

pub older_less : (u v : ℕ → FlashPlace) (g : ℕ) → Less u v → IsOlder u g → IsOlder v g
older_less u v g less older h is = older h (less 0 (Head h) is)

pub older_later : (u : ℕ → FlashPlace) (g : ℕ) → IsOlder u g → IsOlder u (suc g)
older_later u g older h is = let below = older h is in omega (arith, below)

pub no_head_older : (u : ℕ → FlashPlace) (g : ℕ) → contents u 0 ≡ None → IsOlder u g
no_head_older u g none h is = let f : None ≡ Some (Head h) = sym none ∙ is in absurd (cc)

pub this_head_older : (u : ℕ → FlashPlace) (g : ℕ) → u 0 ≡ whole_place (Head g) → IsOlder u (suc g)
this_head_older u g head h is =
    let f : Some (Head g) ≡ Some (Head h) = sym (content_of (u 0) (whole_place (Head g)) head) ∙ is in
    let e : g ≡ h = cc in omega (arith, e)

pub same_less : (u v : ℕ → FlashPlace) → SamePlaces u v → Less u v
same_less u v same k line is = sym (content_of (v k) (u k) (same k)) ∙ is

pub beside_less : (l : FlashLayout) (w w' : Wear) (u v : ℕ → FlashPlace) (bank g : ℕ) (a b : CellList)
    → ((x : ℕ) → Spent l.banks w 0 x → Spent l.banks w' 0 x) → Less u v → Beside l w u bank g a b → Beside l w' v bank g a b
beside_less l w w' u v bank g a b grow less h = elim h [
  | inl older ↦ inl (older_less u v g less older)
  | inr c ↦ inr (record {
    cells = c.cells;
    count = c.count;
    one = c.one;
    head = λ h is. c.head h (less 0 (Head h) is);
    lines = λ i line is. c.lines i line (less (suc i) line is);
    spent = grow bank c.spent;
  })
]

-- the bank that counts stays, and the others lose what they had or stay
pub moved_at : (l : FlashLayout) (w w' : Wear) (f f' : Flash) (bank g : ℕ) (a b : CellList) → 2 ≤ l.banks
    → ((x : ℕ) → Spent l.banks w 0 x → Spent l.banks w' 0 x) → SamePlaces (f bank) (f' bank) → ((x : ℕ) → x ≢ bank → Less (f x) (f' x))
    → SoundAt l w f bank g a b → SoundAt l w' f' bank g a b
moved_at l w w' f f' bank g a b two grow same less s = record {
  inside = s.inside;
  kept = kept_same l.cells (f bank) (f' bank) g a b same s.kept;
  beside = beside_less l w w' (f (next_bank l.banks bank)) (f' (next_bank l.banks bank)) (next_bank l.banks bank) g a b grow
      (less (next_bank l.banks bank) (next_other l.banks bank two s.inside)) s.beside;
  older = λ x in_x ne ne_next. older_less (f x) (f' x) g (less x ne) (s.older x in_x ne ne_next);
  spent = grow bank s.spent;
}

-- ---- from one stage to another

pub held_count : (n : ℕ) (u : ℕ → FlashPlace) (g : ℕ) (cells : CellList) (next : ℕ) → HoldsLog n u g cells next → length cells ≡ n
held_count n u g cells next h = ap (λ (z : CellList). length z) h.now ∙ (length-after h.puts h.first ∙ h.count)

pub kept_of_held : (n : ℕ) (u : ℕ → FlashPlace) (g : ℕ) (cells : CellList) (next : ℕ) (a b : CellList) → HoldsLog n u g cells next → contents u next ≡ None
    → OneOf a b cells → KeepsLog n u g a b
kept_of_held n u g cells next a b held none one = record {
  cells = cells;
  next = next;
  held = held;
  one = one;
  last = λ line is. (let f : None ≡ Some line = sym none ∙ is in absurd (cc));
}

pub ready_at : (l : FlashLayout) (w : Wear) (f : Flash) (bank g : ℕ) (cells : CellList) (next : ℕ) (a b : CellList) → 2 ≤ l.banks
    → SoundReady l w f bank g cells next a b → SoundAt l w f bank g a b
ready_at l w f bank g cells next a b two r = record {
  inside = r.inside;
  kept = kept_of_held l.cells (f bank) g cells next a b r.held (content_of (f bank next) blank_place (r.free next (omega arith))) r.one;
  beside = inl (r.older (next_bank l.banks bank) (next_inside l.banks bank two r.inside) (next_other l.banks bank two r.inside));
  older = λ x in_x ne ne_next. r.older x in_x ne;
  spent = r.spent;
}

pub record SoundUp (l : FlashLayout) (w : Wear) (f : Flash) (bank g : ℕ) (cells a b : CellList) : Type 0 where
  pub at : SoundAt l w f bank g a b
  pub one : OneOf a b cells
  pub count : length cells ≡ l.cells

pub up_sound : (l : FlashLayout) (w : Wear) (f : Flash) (stage : FlashStage) (bank g : ℕ) (cells a b : CellList) → 2 ≤ l.banks
    → IsUp stage bank g cells → Sound l w a b f stage → SoundUp l w f bank g cells a b
up_sound l w f stage bank g cells a b two up sound = elim up [
  | was_found next e ↦ (let s : SoundFound l w f bank g cells next a b = subst (λ (p : FlashStage). Sound l w a b f p) e sound in
      record { at = s.at; one = s.one; count = held_count l.cells (f bank) g cells next s.held })
  | was_ready next e ↦ (let r : SoundReady l w f bank g cells next a b = subst (λ (p : FlashStage). Sound l w a b f p) e sound in
      record { at = ready_at l w f bank g cells next a b two r; one = r.one; count = held_count l.cells (f bank) g cells next r.held })
]
