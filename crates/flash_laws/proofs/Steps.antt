-- Each deed keeps what holds all along.
use Rattle.std.proofs.Common.{◌≡◌, ◌≢◌, inl, inr, ℕ, zero, suc, ◌+◌, ◌<◌, ◌≤◌, Some, None, List, [], ◌∷◌, ◌++◌, length, set, get_or, refl, sym, ap, subst, ◌∙◌, arith, length-append}
use Rattle.std.proofs.lemmas.Option.{same_Some}
use Rattle.std.proofs.lemmas.Bool.{cases_eq, cases_lt}
use Rattle.flash_places.specs.declared.FlashLine.{FlashLine}
use Rattle.flash_places.specs.declared.FlashLine.TheVariants.{Head, Entry}
use Rattle.flash_places.specs.Places.{Flash, SameFlash, blank_place, whole_place, Erases, CutsErase}
use Rattle.flash_laws.specs.Logs.{CellList, copy_lines, after_lines}
use Rattle.flash_laws.specs.Lives.{FlashLayout, FlashMachine, FlashStage, off, found, copying, ready, IsOlder, next_bank, Scans, CutsScan, Resumes, ErasesNext, CutsErasing, CopiesCell, CutsCopying, WritesHead, CutsHead, PutsCell, CutsPut, CutsBetween}
use Rattle.flash_laws.proofs.Reading.{contents, content_of, Keeps, keeps_before, keeps_append, Less, SamePlaces, looks_less, held_seen}
use Rattle.flash_laws.proofs.Copies.{length-copy, after-append, append_twice, append_none, keeps_all}
use Rattle.flash_laws.proofs.Wear.{Wear, Spent, next_other, next_inside}
use Rattle.flash_laws.proofs.Sound.{copies_now, OneOf, HoldsLog, KeepsLog, Ahead, Beside, SoundAt, SoundOff, SoundFound, SoundCopying, SoundReady, Sound, held_same, kept_same, older_less, older_later, no_head_older, this_head_older, same_less, beside_less, moved_at, kept_of_held, ready_at, up_sound}
use Rattle.flash_laws.proofs.Scanning.{held_of_log, older_scan, kept_looks, kept_found, kept_scan, ahead_scan}

-- the log that counts is in this bank, and every other is older
pub at_of_older : (l : FlashLayout) (w : Wear) (f : Flash) (bank g : ℕ) (a b : CellList) → 2 ≤ l.banks → bank < l.banks → KeepsLog l.cells (f bank) g a b
    → ((x : ℕ) → x < l.banks → x ≢ bank → IsOlder (f x) g) → Spent l.banks w 0 bank → SoundAt l w f bank g a b
at_of_older l w f bank g a b two inside kept older spent = record {
  inside = inside;
  kept = kept;
  beside = inl (older (next_bank l.banks bank) (next_inside l.banks bank two inside) (next_other l.banks bank two inside));
  older = λ x in_x ne ne_next. older x in_x ne;
  spent = spent;
}

module _ (l : FlashLayout) (two : 2 ≤ l.banks) (w w' : Wear) (a b : CellList) (m m' : FlashMachine) (sound : Sound l w a b m.flash m.stage) where
  abbrev f : Flash
  f = m.flash

  abbrev f' : Flash
  f' = m'.flash

  -- ---- power-up

  module _ (grow : (x : ℕ) → Spent l.banks w 0 x → Spent l.banks w' 0 x) (s : Scans l m m') where
    abbrev held_now : HoldsLog l.cells (f' s.bank) s.generation s.cells s.next
    held_now = held_of_log l.cells (f s.bank) (s.read s.bank) (f' s.bank) (s.looks s.bank) s.generation s.cells s.next s.counts.log

    -- the log that counted is found
    scan_same : (g : ℕ) → SoundAt l w f s.bank g a b → SoundFound l w' f' s.bank s.generation s.cells s.next a b
    scan_same g at =
        let r = kept_scan l.cells (f s.bank) (s.read s.bank) (f' s.bank) (s.looks s.bank) g a b at.kept s.generation s.cells s.next s.counts.log in
        let next : ℕ = next_bank l.banks s.bank in
        record {
          at = record {
            inside = at.inside;
            kept = record { cells = s.cells; next = s.next; held = held_now; one = r.one; last = r.last };
            beside = subst (λ z. Beside l w' (f' next) next z a b) (sym r.same)
                (beside_less l w w' (f next) (f' next) next g a b grow (looks_less (f next) (s.read next) (f' next) (s.looks next)) at.beside);
            older = λ x in_x ne ne_next. subst (λ z. IsOlder (f' x) z) (sym r.same)
                (older_less (f x) (f' x) g (looks_less (f x) (s.read x) (f' x) (s.looks x)) (at.older x in_x ne ne_next));
            spent = grow s.bank at.spent;
          };
          held = held_now;
          one = r.one;
        }

    -- a copy that is whole is found in the next bank
    scan_ahead : (bank g : ℕ) → SoundAt l w f bank g a b → s.bank ≢ bank → s.bank ≡ next_bank l.banks bank → Ahead l w (f s.bank) s.bank g a b
        → SoundFound l w' f' s.bank s.generation s.cells s.next a b
    scan_ahead bank g at ne is_next c =
        let r = ahead_scan l.cells (f s.bank) (s.read s.bank) (f' s.bank) (s.looks s.bank) l w s.bank g a b refl c s.generation s.cells s.next s.counts.log in
        let older : (x : ℕ) → x < l.banks → x ≢ s.bank → IsOlder (f' x) s.generation = λ x in_x ne_x. subst (λ z. IsOlder (f' x) z) (sym r.same) (elim (cases_eq x bank) [
          | inl here ↦ subst (λ z. IsOlder (f' z) (suc g)) (sym here)
              (this_head_older (f' bank) g (held_seen (f bank 0) (s.read bank 0) (f' bank 0) (Head g) (s.looks bank 0) at.kept.held.head).1)
          | inr there ↦ older_later (f' x) g
              (older_less (f x) (f' x) g (looks_less (f x) (s.read x) (f' x) (s.looks x)) (at.older x in_x there (λ e. ne_x (e ∙ sym is_next))))
        ]) in
        record {
          at = at_of_older l w' f' s.bank s.generation a b two s.counts.inside
              (kept_of_held l.cells (f' s.bank) s.generation s.cells s.next a b held_now r.none r.one) older (grow s.bank c.spent);
          held = held_now;
          one = r.one;
        }

    scan_other : (bank g : ℕ) → SoundAt l w f bank g a b → s.bank ≢ bank → SoundFound l w' f' s.bank s.generation s.cells s.next a b
    scan_other bank g at ne =
        let that = kept_found l.cells (f bank) (s.read bank) (f' bank) (s.looks bank) g a b at.kept in
        let won : g < s.generation = s.counts.wins bank g that.cells that.next at.inside (λ e. ne (sym e)) that.log in
        let lost : IsOlder (f s.bank) g → ⊥ = λ older.
        (let less = older_scan l.cells (f s.bank) (s.read s.bank) (f' s.bank) (s.looks s.bank) g older s.generation s.cells s.next s.counts.log in omega (arith, won, less)) in
        elim (cases_eq s.bank (next_bank l.banks bank)) [
          | inl is_next ↦ (
              let beside : Beside l w (f s.bank) s.bank g a b = subst (λ z. Beside l w (f z) z g a b) (sym is_next) at.beside in
              elim beside [
                | inl older ↦ absurd (lost older)
                | inr c ↦ scan_ahead bank g at ne is_next c
              ])
          | inr far ↦ absurd (lost (at.older s.bank s.counts.inside ne far))
        ]

    pub scan_step : Sound l w' a b f' m'.stage
    scan_step =
        let o : SoundOff l w f a b = subst (λ (p : FlashStage). Sound l w a b f p) s.was sound in
        subst (λ (p : FlashStage). Sound l w' a b f' p) (sym s.now) (elim (cases_eq s.bank o.bank) [
          | inl here ↦ scan_same o.generation (subst (λ z. SoundAt l w f z o.generation a b) (sym here) o.at)
          | inr there ↦ scan_other o.bank o.generation o.at there
        ])

  pub scan_cut : ((x : ℕ) → Spent l.banks w 0 x → Spent l.banks w' 0 x) → CutsScan m m' → Sound l w' a b f' m'.stage
  scan_cut grow s =
      let o : SoundOff l w f a b = subst (λ (p : FlashStage). Sound l w a b f p) s.was sound in
      let next : ℕ = next_bank l.banks o.bank in
      subst (λ (p : FlashStage). Sound l w' a b f' p) (sym s.now) (record {
        bank = o.bank;
        generation = o.generation;
        at = record {
          inside = o.at.inside;
          kept = kept_looks l.cells (f o.bank) (s.read o.bank) (f' o.bank) (s.looks o.bank) o.generation a b o.at.kept;
          beside = beside_less l w w' (f next) (f' next) next o.generation a b grow (looks_less (f next) (s.read next) (f' next) (s.looks next)) o.at.beside;
          older = λ x in_x ne ne_next. older_less (f x) (f' x) o.generation (looks_less (f x) (s.read x) (f' x) (s.looks x)) (o.at.older x in_x ne ne_next);
          spent = grow o.bank o.at.spent;
        };
      })

  pub resume_step : ((x : ℕ) → Spent l.banks w 0 x → Spent l.banks w' 0 x) → Resumes l m m' → Sound l w' a b f' m'.stage
  resume_step grow s =
      let c : SoundFound l w f s.bank s.generation s.cells s.next a b = subst (λ (p : FlashStage). Sound l w a b f p) s.was sound in
      let next : ℕ = next_bank l.banks s.bank in
      subst (λ (p : FlashStage). Sound l w' a b f' p) (sym s.now) (record {
        inside = c.at.inside;
        held = held_same l.cells (f s.bank) (f' s.bank) s.generation s.cells s.next (s.same s.bank) c.held;
        one = c.one;
        free = λ k from. s.same s.bank k ∙ s.free k from;
        older = λ x in_x ne. older_less (f x) (f' x) s.generation (same_less (f x) (f' x) (s.same x)) (elim (cases_eq x next) [
          | inl here ↦ subst (λ z. IsOlder (f z) s.generation) (sym here) s.older
          | inr there ↦ c.at.older x in_x ne there
        ]);
        spent = grow s.bank c.at.spent;
      })

  -- ---- an erase

  pub erase_step : (target : ℕ) → ((bank : ℕ) → bank < l.banks → target ≡ next_bank l.banks bank → Spent l.banks w 0 bank → Spent l.banks w' 0 (next_bank l.banks bank))
      → ((x : ℕ) → Spent l.banks w 0 x → Spent l.banks w' 1 x) → ErasesNext l target m m' → Sound l w' a b f' m'.stage
  erase_step target turn back s =
      let u = up_sound l w f m.stage s.bank s.generation s.cells a b two s.up sound in
      let next : ℕ = next_bank l.banks s.bank in
      let does : Erases next f f' = subst (λ z. Erases z f f') s.is_next s.does in
      let apart : s.bank ≢ next = λ e. next_other l.banks s.bank two u.at.inside (sym e) in
      subst (λ (p : FlashStage). Sound l w' a b f' p) (sym s.now) (record {
        inside = u.at.inside;
        kept = kept_same l.cells (f s.bank) (f' s.bank) s.generation a b (does.others s.bank apart) u.at.kept;
        one = u.one;
        count = u.count;
        head = does.erased 0;
        copied = λ i below. absurd (omega (arith, below));
        free = λ k from. does.erased (suc k);
        older = λ x in_x ne ne_next. older_less (f x) (f' x) s.generation (same_less (f x) (f' x) (does.others x ne_next)) (u.at.older x in_x ne ne_next);
        spent = turn s.bank u.at.inside s.is_next u.at.spent;
        spent_before = back s.bank u.at.spent;
      })

  pub erase_cut : (target : ℕ) → ((x : ℕ) → Spent l.banks w 0 x → Spent l.banks w' 0 x) → CutsErasing l target m m' → Sound l w' a b f' m'.stage
  erase_cut target grow s =
      let u = up_sound l w f m.stage s.bank s.generation s.cells a b two s.up sound in
      let next : ℕ = next_bank l.banks s.bank in
      let does : CutsErase next f f' = subst (λ z. CutsErase z f f') s.is_next s.does in
      let apart : s.bank ≢ next = λ e. next_other l.banks s.bank two u.at.inside (sym e) in
      let lost : Less (f next) (f' next) = λ k line is. elim (does.left k) [
        | inl same ↦ sym same ∙ is
        | inr none ↦ (let e : None ≡ Some line = sym none ∙ is in absurd (cc))
      ] in
      subst (λ (p : FlashStage). Sound l w' a b f' p) (sym s.now) (record {
        bank = s.bank;
        generation = s.generation;
        at = moved_at l w w' f f' s.bank s.generation a b two grow (does.others s.bank apart) (λ x ne. elim (cases_eq x next) [
          | inl here ↦ subst (λ z. Less (f z) (f' z)) (sym here) lost
          | inr there ↦ same_less (f x) (f' x) (does.others x there)
        ]) u.at;
      })

  -- ---- a copy

  module _ (bank g : ℕ) (cells : CellList) (done : ℕ) (c : SoundCopying l w f bank g cells done a b) (others : (x : ℕ) → x ≢ next_bank l.banks bank → SamePlaces (f x) (f' x)) where
    copying_kept : KeepsLog l.cells (f' bank) g a b
    copying_kept = kept_same l.cells (f bank) (f' bank) g a b (others bank (λ e. next_other l.banks bank two c.inside (sym e))) c.kept

    copying_older : (x : ℕ) → x < l.banks → x ≢ bank → x ≢ next_bank l.banks bank → IsOlder (f' x) g
    copying_older x in_x ne ne_next = older_less (f x) (f' x) g (same_less (f x) (f' x) (others x ne_next)) (c.older x in_x ne ne_next)

    -- no head was begun yet
    copying_off : f' (next_bank l.banks bank) 0 ≡ blank_place → Spent l.banks w' 0 bank → SoundOff l w' f' a b
    copying_off head spent = record {
      bank = bank;
      generation = g;
      at = record {
        inside = c.inside;
        kept = copying_kept;
        beside = inl (no_head_older (f' (next_bank l.banks bank)) g (content_of (f' (next_bank l.banks bank) 0) blank_place head));
        older = copying_older;
        spent = spent;
      };
    }

  pub copy_step : ((more x : ℕ) → Spent l.banks w more x → Spent l.banks w' more x) → CopiesCell l m m' → Sound l w' a b f' m'.stage
  copy_step grow s =
      let c : SoundCopying l w f s.bank s.generation s.cells s.done a b = subst (λ (p : FlashStage). Sound l w a b f p) s.was sound in
      let next : ℕ = next_bank l.banks s.bank in
      subst (λ (p : FlashStage). Sound l w' a b f' p) (sym s.now) (record {
        inside = c.inside;
        kept = copying_kept s.bank s.generation s.cells s.done c s.does.same.others;
        one = c.one;
        count = c.count;
        head = s.does.same.rest 0 (λ e. absurd (omega (arith, e))) ∙ c.head;
        copied = λ i below. elim (cases_eq i s.done) [
          | inl here ↦ subst (λ k. f' next (suc k) ≡ whole_place (Entry k (get_or s.cells k []))) (sym here) s.does.now
          | inr there ↦ s.does.same.rest (suc i) (λ e. there (omega (arith, e))) ∙ c.copied i (omega (arith, below, there))
        ];
        free = λ k from. s.does.same.rest (suc k) (λ e. absurd (omega (arith, e, from))) ∙ c.free k (omega (arith, from));
        older = copying_older s.bank s.generation s.cells s.done c s.does.same.others;
        spent = grow 0 next c.spent;
        spent_before = grow 1 s.bank c.spent_before;
      })

  pub copy_cut : ((x : ℕ) → Spent l.banks w 1 x → Spent l.banks w' 0 x) → CutsCopying l m m' → Sound l w' a b f' m'.stage
  copy_cut shrink s =
      let c : SoundCopying l w f s.bank s.generation s.cells s.done a b = subst (λ (p : FlashStage). Sound l w a b f p) s.was sound in
      subst (λ (p : FlashStage). Sound l w' a b f' p) (sym s.now)
      (copying_off s.bank s.generation s.cells s.done c s.does.same.others (s.does.same.rest 0 (λ e. absurd (omega (arith, e))) ∙ c.head) (shrink s.bank c.spent_before))

  -- ---- a head

  blank_from : (bank done : ℕ) → ((j : ℕ) → j ≢ 0 → f' bank j ≡ f bank j) → ((j : ℕ) → done ≤ j → f bank (suc j) ≡ blank_place) → (k : ℕ) → suc done ≤ k → f' bank k ≡ blank_place
  blank_from bank done rest free zero from = absurd (omega (arith, from))
  blank_from bank done rest free (suc k) from = rest (suc k) (λ e. absurd (omega (arith, e))) ∙ free k (omega (arith, from))

  pub head_step : ((x : ℕ) → Spent l.banks w 0 x → Spent l.banks w' 0 x) → WritesHead l m m' → Sound l w' a b f' m'.stage
  head_step grow s =
      let c : SoundCopying l w f s.bank s.generation s.cells (length s.cells) a b = subst (λ (p : FlashStage). Sound l w a b f p) s.was sound in
      let next : ℕ = next_bank l.banks s.bank in
      let apart : s.bank ≢ next = λ e. next_other l.banks s.bank two c.inside (sym e) in
      let held : Keeps (f' next) 1 (copy_lines 0 s.cells) = keeps_all (f' next) s.cells (λ i below. s.does.same.rest (suc i) (λ e. absurd (omega (arith, e))) ∙ c.copied i below) in
      subst (λ (p : FlashStage). Sound l w' a b f' p) (sym s.now) (record {
        inside = next_inside l.banks s.bank two c.inside;
        held = record {
          first = s.cells;
          puts = [];
          count = c.count;
          head = s.does.now;
          lines = subst (λ (ls : List FlashLine). Keeps (f' next) 1 ls) (sym (append_none (copy_lines 0 s.cells))) held;
          now = refl;
          ends = (let e : length (copy_lines 0 s.cells ++ []) ≡ length s.cells = ap (λ (ls : List FlashLine). length ls) (append_none (copy_lines 0 s.cells)) ∙ length-copy 0 s.cells in omega (arith, e));
        };
        one = c.one;
        free = blank_from next (length s.cells) s.does.same.rest c.free;
        older = λ x in_x ne. elim (cases_eq x s.bank) [
          | inl here ↦ subst (λ z. IsOlder (f' z) (suc s.generation)) (sym here)
              (this_head_older (f' s.bank) s.generation (s.does.same.others s.bank apart 0 ∙ c.kept.held.head))
          | inr there ↦ older_later (f' x) s.generation (copying_older s.bank s.generation s.cells (length s.cells) c s.does.same.others x in_x there ne)
        ];
        spent = grow next c.spent;
      })

  pub head_cut : ((x : ℕ) → Spent l.banks w 0 x → Spent l.banks w' 0 x) → ((x : ℕ) → Spent l.banks w 1 x → Spent l.banks w' 0 x) → CutsHead l m m' → Sound l w' a b f' m'.stage
  head_cut grow shrink s =
      let c : SoundCopying l w f s.bank s.generation s.cells (length s.cells) a b = subst (λ (p : FlashStage). Sound l w a b f p) s.was sound in
      let next : ℕ = next_bank l.banks s.bank in
      subst (λ (p : FlashStage). Sound l w' a b f' p) (sym s.now) (record {
        bank = s.bank;
        generation = s.generation;
        at = record {
          inside = c.inside;
          kept = copying_kept s.bank s.generation s.cells (length s.cells) c s.does.same.others;
          beside = inr (record {
            cells = s.cells;
            count = c.count;
            one = c.one;
            head = λ h is. elim s.does.left [
              | inl some ↦ (let e : Some (Head (suc s.generation)) ≡ Some (Head h) = sym some ∙ is in let r : h ≡ suc s.generation = cc in r)
              | inr none ↦ (let e : None ≡ Some (Head h) = sym none ∙ is in absurd (cc))
            ];
            lines = λ i line is. (
                let was : contents (f next) (suc i) ≡ Some line = sym (content_of (f' next (suc i)) (f next (suc i)) (s.does.same.rest (suc i) (λ e. absurd (omega (arith, e))))) ∙ is in
                elim (cases_lt i (length s.cells)) [
                  | inl below ↦ (below, same_Some _ _ (sym was ∙ content_of (f next (suc i)) (whole_place (Entry i (get_or s.cells i []))) (c.copied i below)))
                  | inr far ↦ (let e : None ≡ Some line = sym (content_of (f next (suc i)) blank_place (c.free i far)) ∙ was in absurd (cc))
                ]);
            spent = grow next c.spent;
          });
          older = copying_older s.bank s.generation s.cells (length s.cells) c s.does.same.others;
          spent = shrink s.bank c.spent_before;
        };
      })

  -- ---- a put

  pub put_step : (i : ℕ) (p : List ℕ) → ((x : ℕ) → Spent l.banks w 0 x → Spent l.banks w' 0 x) → (s : PutsCell i p m m') → Sound l w' (set s.cells i p) (set s.cells i p) f' m'.stage
  put_step i p grow s =
      let r : SoundReady l w f s.bank s.generation s.cells s.next a b = subst (λ (q : FlashStage). Sound l w a b f q) s.was sound in
      let h = r.held in
      let before : List FlashLine = copy_lines 0 h.first ++ h.puts in
      let far : 1 + length before ≤ s.next = omega (arith, h.ends) in
      let held : Keeps (f' s.bank) 1 before = keeps_before (f s.bank) (f' s.bank) s.next s.does.same.rest 1 before far h.lines in
      let split : before ++ (Entry i p ∷ []) ≡ copy_lines 0 h.first ++ (h.puts ++ (Entry i p ∷ [])) = append_twice (copy_lines 0 h.first) h.puts (Entry i p ∷ []) in
      subst (λ (q : FlashStage). Sound l w' (set s.cells i p) (set s.cells i p) f' q) (sym s.now) (record {
        inside = r.inside;
        held = record {
          first = h.first;
          puts = h.puts ++ (Entry i p ∷ []);
          count = h.count;
          head = s.does.same.rest 0 (λ e. absurd (omega (arith, e, h.ends))) ∙ h.head;
          lines = subst (λ (ls : List FlashLine). Keeps (f' s.bank) 1 ls) split (keeps_append (f' s.bank) 1 before (Entry i p) held s.next h.ends s.does.now);
          now = ap (λ (z : CellList). set z i p) h.now ∙ sym (after-append h.puts (Entry i p ∷ []) h.first);
          ends = omega (arith, h.ends, length-append before (Entry i p ∷ []), ap (λ (ls : List FlashLine). length ls) split);
        };
        one = inl refl;
        free = λ k from. s.does.same.rest k (λ e. absurd (omega (arith, e, from))) ∙ r.free k (omega (arith, from));
        older = λ x in_x ne. older_less (f x) (f' x) s.generation (same_less (f x) (f' x) (s.does.same.others x ne)) (r.older x in_x ne);
        spent = grow s.bank r.spent;
      })

  pub put_cut : (i : ℕ) (p : List ℕ) → ((x : ℕ) → Spent l.banks w 0 x → Spent l.banks w' 0 x) → (s : CutsPut i p m m') → Sound l w' s.cells (set s.cells i p) f' m'.stage
  put_cut i p grow s =
      let r : SoundReady l w f s.bank s.generation s.cells s.next a b = subst (λ (q : FlashStage). Sound l w a b f q) s.was sound in
      let h = r.held in
      let before : List FlashLine = copy_lines 0 h.first ++ h.puts in
      let far : 1 + length before ≤ s.next = omega (arith, h.ends) in
      let kept : KeepsLog l.cells (f' s.bank) s.generation s.cells (set s.cells i p) = record {
        cells = s.cells;
        next = s.next;
        held = record {
          first = h.first;
          puts = h.puts;
          count = h.count;
          head = s.does.same.rest 0 (λ e. absurd (omega (arith, e, h.ends))) ∙ h.head;
          lines = keeps_before (f s.bank) (f' s.bank) s.next s.does.same.rest 1 before far h.lines;
          now = h.now;
          ends = h.ends;
        };
        one = inl refl;
        last = λ line is. elim s.does.left [
          | inl some ↦ (
              let e : Entry i p ≡ line = same_Some _ _ (sym some ∙ is) in
              let one : OneOf s.cells (set s.cells i p) (set s.cells i p) = inr refl in (
                subst (λ (z : FlashLine). OneOf s.cells (set s.cells i p) (after_lines (z ∷ []) s.cells)) e one,
                content_of (f' s.bank (suc s.next)) blank_place (s.does.same.rest (suc s.next) (λ x. absurd (omega (arith, x))) ∙ r.free (suc s.next) (omega arith)),
              ))
          | inr none ↦ (let e : None ≡ Some line = sym none ∙ is in absurd (cc))
        ];
      } in
      subst (λ (q : FlashStage). Sound l w' s.cells (set s.cells i p) f' q) (sym s.now) (record {
        bank = s.bank;
        generation = s.generation;
        at = at_of_older l w' f' s.bank s.generation s.cells (set s.cells i p) two r.inside kept
            (λ x in_x ne. older_less (f x) (f' x) s.generation (same_less (f x) (f' x) (s.does.same.others x ne)) (r.older x in_x ne)) (grow s.bank r.spent);
      })

  -- ---- the power goes in between

  off_then : ((x : ℕ) → Spent l.banks w 0 x → Spent l.banks w' 0 x) → SameFlash f f' → (stage : FlashStage)
      → (copies_now stage ≡ 1 → (x : ℕ) → Spent l.banks w 1 x → Spent l.banks w' 0 x) → Sound l w a b f stage → SoundOff l w' f' a b
  off_then grow same off shrink s = record {
    bank = s.bank;
    generation = s.generation;
    at = moved_at l w w' f f' s.bank s.generation a b two grow (same s.bank) (λ x ne. same_less (f x) (f' x) (same x)) s.at;
  }
  off_then grow same (found bank g cells next) shrink s = record {
    bank = bank;
    generation = g;
    at = moved_at l w w' f f' bank g a b two grow (same bank) (λ x ne. same_less (f x) (f' x) (same x)) s.at;
  }
  off_then grow same (copying bank g cells done) shrink s =
      copying_off bank g cells done s (λ x ne. same x) (same (next_bank l.banks bank) 0 ∙ s.head) (shrink refl bank s.spent_before)
  off_then grow same (ready bank g cells next) shrink s = record {
    bank = bank;
    generation = g;
    at = moved_at l w w' f f' bank g a b two grow (same bank) (λ x ne. same_less (f x) (f' x) (same x)) (ready_at l w f bank g cells next a b two s);
  }

  pub cut_step : ((x : ℕ) → Spent l.banks w 0 x → Spent l.banks w' 0 x) → (copies_now m.stage ≡ 1 → (x : ℕ) → Spent l.banks w 1 x → Spent l.banks w' 0 x)
      → CutsBetween m m' → Sound l w' a b f' m'.stage
  cut_step grow shrink s = subst (λ (p : FlashStage). Sound l w' a b f' p) (sym s.now) (off_then grow s.same m.stage shrink sound)
