-- What a scan finds in a bank.
use Rattle.std.proofs.Common.{◌≡◌, ◌⊎◌, inl, inr, ℕ, suc, ◌+◌, ◌<◌, ◌≤◌, Option, Some, None, List, [], ◌∷◌, ◌++◌, length, get_or, refl, sym, ap, subst, ◌∙◌, arith, length-append}
use Rattle.std.proofs.lemmas.Option.{same_Some}
use Rattle.std.proofs.lemmas.Bool.{cases_lt}
use Rattle.flash_places.specs.declared.FlashLine.{FlashLine}
use Rattle.flash_places.specs.declared.FlashLine.TheVariants.{Head, Entry}
use Rattle.flash_places.specs.Places.{FlashPlace}
use Rattle.flash_laws.specs.Logs.{CellList, copy_lines, after_lines, Spells, IsLog}
use Rattle.flash_laws.specs.Lives.{FlashLayout, IsOlder}
use Rattle.flash_laws.proofs.Reading.{contents, LooksBank, seen, held_seen, nothing_seen, some_or_none, same_contents, looks_less, keeps_seen, spelled_firm, held_part, held_spells, spells_behind, spells_once, something_spelled}
use Rattle.flash_laws.proofs.Copies.{length-copy, after-append, copy_once, spells_copy, append_twice, append_none}
use Rattle.flash_laws.proofs.Wear.{Wear}
use Rattle.flash_laws.proofs.Sound.{OneOf, HoldsLog, LastOf, KeepsLog, Ahead}

-- a log with its cells and its end
pub record SomeLog (n : ℕ) (read : ℕ → Option FlashLine) (g : ℕ) : Type 0 where
  pub cells : CellList
  pub next : ℕ
  pub log : IsLog n read g cells next

module _ (n : ℕ) (u : ℕ → FlashPlace) (read : ℕ → Option FlashLine) (v : ℕ → FlashPlace) (looks : LooksBank u read v) where
  -- a log that was read is held
  pub held_of_log : (g : ℕ) (cells : CellList) (next : ℕ) → IsLog n read g cells next → HoldsLog n v g cells next
  held_of_log g cells next log = record {
    first = log.first;
    puts = log.puts;
    count = log.count;
    head = (seen (u 0) (read 0) (v 0) (Head g) (looks 0) log.head).1;
    lines = spelled_firm u read v looks 1 (copy_lines 0 log.first ++ log.puts) log.lines;
    now = log.now;
    ends = log.ends;
  }

  pub older_scan : (g : ℕ) → IsOlder u g → (now : ℕ) (cells : CellList) (next : ℕ) → IsLog n read now cells next → now < g
  older_scan g older now cells next log = older now (seen (u 0) (read 0) (v 0) (Head now) (looks 0) log.head).0

  module _ (g : ℕ) (a b : CellList) where
    pub kept_looks : KeepsLog n u g a b → KeepsLog n v g a b
    kept_looks k = record {
      cells = k.cells;
      next = k.next;
      held = record {
        first = k.held.first;
        puts = k.held.puts;
        count = k.held.count;
        head = (held_seen (u 0) (read 0) (v 0) (Head g) (looks 0) k.held.head).1;
        lines = keeps_seen u read v looks 1 (copy_lines 0 k.held.first ++ k.held.puts) k.held.lines;
        now = k.held.now;
        ends = k.held.ends;
      };
      one = k.one;
      last = λ line is. (
          let r = k.last line (looks_less u read v looks k.next line is) in
          (r.0, same_contents u read v looks (suc k.next) ∙ r.1));
    }

    -- it is found, whatever is read
    pub kept_found : KeepsLog n u g a b → SomeLog n read g
    kept_found k =
        let base : List FlashLine = copy_lines 0 k.held.first ++ k.held.puts in
        let head_read : read 0 ≡ Some (Head g) = (held_seen (u 0) (read 0) (v 0) (Head g) (looks 0) k.held.head).0 in
        elim (some_or_none (read k.next)) [
          | inl none ↦ record {
            cells = k.cells;
            next = k.next;
            log = record {
              first = k.held.first;
              count = k.held.count;
              puts = k.held.puts;
              head = head_read;
              lines = subst (λ (ls : List FlashLine). Spells read 1 ls) (append_none base) (held_spells u read v looks 1 base [] k.held.lines k.next k.held.ends none);
              now = k.held.now;
              ends = k.held.ends;
            };
          }
          | inr some ↦ (
              let here = (seen (u k.next) (read k.next) (v k.next) some.0 (looks k.next) some.1).0 in
              let none : read (suc k.next) ≡ None = nothing_seen (u (suc k.next)) (read (suc k.next)) (v (suc k.next)) (looks (suc k.next)) (k.last some.0 here).1 in
              record {
                cells = after_lines (k.held.puts ++ some.0 ∷ []) k.held.first;
                next = 1 + length (copy_lines 0 k.held.first ++ (k.held.puts ++ some.0 ∷ []));
                log = record {
                  first = k.held.first;
                  count = k.held.count;
                  puts = k.held.puts ++ some.0 ∷ [];
                  head = head_read;
                  lines = subst (λ (ls : List FlashLine). Spells read 1 ls) (append_twice (copy_lines 0 k.held.first) k.held.puts (some.0 ∷ []))
                      (held_spells u read v looks 1 base (some.0 ∷ []) k.held.lines k.next k.held.ends (some.1, none));
                  now = refl;
                  ends = refl;
                };
              })
        ]

    rest_scan : (k : KeepsLog n u g a b) (rest : List FlashLine) (cells : CellList) (next : ℕ) → Spells read k.next rest → cells ≡ after_lines rest k.cells
        → next ≡ k.next + length rest → OneOf a b cells × LastOf v cells next a b
    unfolding kept_looks
    rest_scan k [] cells next said made is =
        let here : k.next ≡ next = omega (arith, is) in (
          subst (λ (z : CellList). OneOf a b z) (sym made) k.one,
          subst (λ j. LastOf v cells j a b) here (subst (λ (z : CellList). LastOf v z k.next a b) (sym made) (kept_looks k).last),
        )
    rest_scan k (p ∷ []) cells next said made is =
        let r = k.last p (seen (u k.next) (read k.next) (v k.next) p (looks k.next) said.0).0 in
        let here : suc k.next ≡ next = omega (arith, is) in
        let none : contents v next ≡ None = subst (λ j. contents v j ≡ None) here (same_contents u read v looks (suc k.next) ∙ r.1) in (
          subst (λ (z : CellList). OneOf a b z) (sym made) r.0,
          λ line has. (let f : None ≡ Some line = sym none ∙ has in absurd (cc)),
        )
    rest_scan k (p ∷ q ∷ rest) cells next said made is =
        let r = k.last p (seen (u k.next) (read k.next) (v k.next) p (looks k.next) said.0).0 in
        let none = nothing_seen (u (suc k.next)) (read (suc k.next)) (v (suc k.next)) (looks (suc k.next)) r.1 in
        let f : None ≡ Some q = sym none ∙ said.1.0 in absurd (cc)

    pub record KeptScan (now : ℕ) (cells : CellList) (next : ℕ) : Type 0 where
      pub same : now ≡ g
      pub one : OneOf a b cells
      pub last : LastOf v cells next a b

    -- what is read of it is a or b
    pub kept_scan : KeepsLog n u g a b → (now : ℕ) (cells : CellList) (next : ℕ) → IsLog n read now cells next → KeptScan now cells next
    kept_scan k now cells next log =
        let h = k.held in
        let base : List FlashLine = copy_lines 0 h.first ++ h.puts in
        let xs : List FlashLine = copy_lines 0 log.first ++ log.puts in
        let part = held_part u read v looks 1 base xs h.lines log.lines in
        let sized : length log.first ≡ length h.first = log.count ∙ sym h.count in
        let parts = copy_once 0 log.first h.first log.puts (h.puts ++ part.0) sized (part.1 ∙ append_twice (copy_lines 0 h.first) h.puts part.0) in
        let made : cells ≡ after_lines part.0 k.cells =
        log.now ∙ (ap (λ (z : CellList). after_lines log.puts z) parts.cells ∙ (ap (λ (zs : List FlashLine). after_lines zs h.first) parts.lines
        ∙ (after-append h.puts part.0 h.first ∙ ap (λ (z : CellList). after_lines part.0 z) (sym h.now)))) in
        let place : next ≡ k.next + length part.0 = omega (arith, log.ends, h.ends, ap (λ (zs : List FlashLine). length zs) part.1, length-append base part.0) in
        let behind : Spells read k.next part.0 = spells_behind read 1 base part.0 (subst (λ (zs : List FlashLine). Spells read 1 zs) part.1 log.lines) k.next h.ends in
        let r = rest_scan k part.0 cells next behind made place in
        let heads : Head now ≡ Head g = same_Some _ _ (sym log.head ∙ (held_seen (u 0) (read 0) (v 0) (Head g) (looks 0) h.head).0) in
        record { same = (let e : now ≡ g = cc in e); one = r.0; last = r.1 }

  module _ (l : FlashLayout) (w : Wear) (bank g : ℕ) (a b : CellList) (sized : l.cells ≡ n) (c : Ahead l w u bank g a b) where
    ahead_end : contents u (suc (length c.cells)) ≡ None
    ahead_end = elim (some_or_none (contents u (suc (length c.cells)))) [
      | inl none ↦ none
      | inr some ↦ absurd (let h = (c.lines (length c.cells) some.0 some.1).0 in omega (arith, h))
    ]

    ahead_lines : (xs : List FlashLine) → Spells read 1 xs → length c.cells ≤ length xs → xs ≡ copy_lines 0 c.cells
    ahead_lines xs said far = spells_copy read 1 0 c.cells xs (λ i line is.
        let here : read (suc i) ≡ Some line = ap read (let e : suc i ≡ 1 + i = omega arith in e) ∙ is in
        let r = c.lines i line (seen (u (suc i)) (read (suc i)) (v (suc i)) line (looks (suc i)) here).0 in
        (r.0, r.1 ∙ ap (λ z. Entry z (get_or c.cells i [])) (let e : i ≡ 0 + i = omega arith in e))) said far

    long_enough : (now : ℕ) (cells : CellList) (next : ℕ) → (log : IsLog n read now cells next) → length c.cells ≤ length (copy_lines 0 log.first ++ log.puts)
    long_enough now cells next log = omega (arith, length-append (copy_lines 0 log.first) log.puts, length-copy 0 log.first, log.count, c.count, sized)

    pub record AheadScan (now : ℕ) (cells : CellList) (next : ℕ) : Type 0 where
      pub same : now ≡ suc g
      pub one : OneOf a b cells
      pub none : contents v next ≡ None

    -- what is read of it is the copy
    pub ahead_scan : (now : ℕ) (cells : CellList) (next : ℕ) → IsLog n read now cells next → AheadScan now cells next
    ahead_scan now cells next log =
        let xs : List FlashLine = copy_lines 0 log.first ++ log.puts in
        let is : xs ≡ copy_lines 0 c.cells = ahead_lines xs log.lines (long_enough now cells next log) in
        let parts = copy_once 0 c.cells log.first [] log.puts (c.count ∙ (sized ∙ sym log.count)) (append_none (copy_lines 0 c.cells) ∙ sym is) in
        let made : cells ≡ c.cells = log.now ∙ (ap (λ (zs : List FlashLine). after_lines zs log.first) (sym parts.lines) ∙ sym parts.cells) in
        let place : suc (length c.cells) ≡ next = omega (arith, log.ends, ap (λ (zs : List FlashLine). length zs) is, length-copy 0 c.cells) in
        record {
          same = c.head now (seen (u 0) (read 0) (v 0) (Head now) (looks 0) log.head).0;
          one = subst (λ (z : CellList). OneOf a b z) (sym made) c.one;
          none = subst (λ j. contents v j ≡ None) place (same_contents u read v looks (suc (length c.cells)) ∙ ahead_end);
        }

    head_found : (line : FlashLine) → read 0 ≡ Some line → Spells read 1 (copy_lines 0 c.cells)
        → SomeLog n read (suc g) ⊎ ((now : ℕ) (left : CellList) (end : ℕ) → IsLog n read now left end → ⊥)
    head_found (Head h) is said = inl (
        let same : h ≡ suc g = c.head h (seen (u 0) (read 0) (v 0) (Head h) (looks 0) is).0 in
        record {
          cells = c.cells;
          next = 1 + length (copy_lines 0 c.cells ++ []);
          log = record {
            first = c.cells;
            count = c.count ∙ sized;
            puts = [];
            head = is ∙ ap (λ z. Some (Head z)) same;
            lines = subst (λ (ls : List FlashLine). Spells read 1 ls) (sym (append_none (copy_lines 0 c.cells))) said;
            now = refl;
            ends = refl;
          };
        })
    head_found (Entry i p) is said = inr (λ now left end log. let f : Some (Entry i p) ≡ Some (Head now) = sym is ∙ log.head in absurd (cc))

    -- it is read as the log that counts, or as none
    pub ahead_found : SomeLog n read (suc g) ⊎ ((now : ℕ) (left : CellList) (end : ℕ) → IsLog n read now left end → ⊥)
    ahead_found =
        let at : suc (length c.cells) ≡ 1 + length c.cells = omega arith in
        let none : read (1 + length c.cells) ≡ None = subst (λ j. read j ≡ None) at
        (nothing_seen (u (suc (length c.cells))) (read (suc (length c.cells))) (v (suc (length c.cells))) (looks (suc (length c.cells))) ahead_end) in
        let some = something_spelled read (length c.cells) 1 none in
        elim (cases_lt (length some.0) (length c.cells)) [
          | inl short ↦ inr (λ now left end log.
              let same = spells_once read 1 some.0 (copy_lines 0 log.first ++ log.puts) some.1 log.lines in
              let long = long_enough now left end log in
              absurd (omega (arith, short, long, ap (λ (ls : List FlashLine). length ls) same)))
          | inr long ↦ elim (some_or_none (read 0)) [
            | inl no_head ↦ inr (λ now left end log. let f : None ≡ Some (Head now) = sym no_head ∙ log.head in absurd (cc))
            | inr line ↦ head_found line.0 line.1 (subst (λ (ls : List FlashLine). Spells read 1 ls) (ahead_lines some.0 some.1 long) some.1)
          ]
        ]
