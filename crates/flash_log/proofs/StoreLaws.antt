-- What a call of a store does, from one machine to the next.
use Rattle.std.proofs.Common.{◌≡◌, ◌<◌, ◌≤◌, inl, inr, ℕ, suc, List, get_or, length, set, refl, sym, ap, subst, ◌∙◌, arith}
use Rattle.flash_places.specs.declared.FlashLine.TheVariants.{Entry}
use Rattle.flash_places.specs.Places.{Flash, Programs, CutsProgram}
use Rattle.flash_laws.specs.Logs.{CellList}
use Rattle.flash_laws.specs.Lives.{FlashLayout, FlashStage, off, found, ready, resumes, IsUp, next_bank}
use Rattle.flash_log.specs.Going.{machine, Goes, BlankFrom, Renews, CutsRenew}
use Rattle.flash_log.specs.declared.scanning.FoundLog.{FoundLog}
use Rattle.flash_log.specs.Taking.{last_generation}
use Rattle.flash_log.specs.Scanned.{NoLaterHeads, NotesHeads}
use Rattle.flash_log.specs.Stores.{PutsIn, CutsPutIn, MayGoOn}
use Rattle.flash_laws.proofs.CallerLemmas.{next_inside}
use Rattle.flash_log.proofs.GoingLaws.{layout_of, goes_then, goes_one}

-- a renewal under a layout and a stage that are named otherwise
module _ (banks banks' n n' bank g : ℕ) (cells : CellList) (f h : Flash) (same : banks' ≡ banks) (count : n' ≡ n) (stage : FlashStage) (up : IsUp stage bank g cells) where
  pub renewed : Renews (layout_of banks' n') bank g cells f h → (b gen next : ℕ) → b ≡ next_bank banks bank → gen ≡ suc g → next ≡ suc (length cells)
      → Goes (layout_of banks n) (machine f stage) (machine h (ready b gen cells next))
  renewed renews b gen next is_b is_gen is_next =
      subst (λ z. Goes (layout_of banks n) (machine f stage) (machine h (ready z gen cells next))) (sym is_b)
      (subst (λ z. Goes (layout_of banks n) (machine f stage) (machine h (ready (next_bank banks bank) z cells next))) (sym is_gen)
      (subst (λ z. Goes (layout_of banks n) (machine f stage) (machine h (ready (next_bank banks bank) (suc g) cells z))) (sym is_next)
      (subst (λ z. Goes (layout_of banks z) (machine f stage) (machine h (ready (next_bank banks bank) (suc g) cells (suc (length cells))))) count
      (subst (λ z. Goes (layout_of z n') (machine f stage) (machine h (ready (next_bank z bank) (suc g) cells (suc (length cells))))) same (renews stage up)))))

  pub renewed_cut : CutsRenew (layout_of banks' n') bank g cells f h → Goes (layout_of banks n) (machine f stage) (machine h off)
  renewed_cut cuts =
      subst (λ z. Goes (layout_of banks z) (machine f stage) (machine h off)) count
      (subst (λ z. Goes (layout_of z n') (machine f stage) (machine h off)) same (cuts stage up))

-- a put behind what was done before
module _ (l : FlashLayout) (before : FlashStage) (bank g next : ℕ) (cells : CellList) (cell : ℕ) (payload : List ℕ) (f m h : Flash)
    (goes : Goes l (machine f before) (machine m (ready bank g cells next))) where
  pub puts_in : Programs bank next (Entry cell payload) m h → (now : CellList) → now ≡ set cells cell payload → (later : ℕ) → later ≡ suc next
      → PutsIn l cell payload (machine f before) (machine h (ready bank g now later))
  puts_in does now made later e = record {
    between = machine m (ready bank g cells next);
    goes = goes;
    does = record {
      bank = bank;
      generation = g;
      cells = cells;
      next = next;
      was = refl;
      does = does;
      now = ap (λ (z : CellList). ready bank g z later) made ∙ ap (λ k. ready bank g (set cells cell payload) k) e;
    };
  }

  pub cuts_put_in : CutsProgram bank next (Entry cell payload) m h → CutsPutIn l cell payload (machine f before) (machine h off)
  cuts_put_in does = inr (record {
    between = machine m (ready bank g cells next);
    goes = goes;
    does = record { bank = bank; generation = g; cells = cells; next = next; was = refl; does = does; now = refl };
  })

-- a start goes on in the log that it found
pub goes_on : (l : FlashLayout) (banks : ℕ) (log : FoundLog) (cells : CellList) (f g : Flash) (latest : List ℕ)
    → Goes l (machine f off) (machine g (found log.bank log.generation cells log.next)) → banks ≡ l.banks → 2 ≤ l.banks → log.bank < l.banks
    → BlankFrom g log.bank log.next → NoLaterHeads g l.banks latest → get_or latest (next_bank banks log.bank) 0 < last_generation → get_or latest (next_bank banks log.bank) 0 < log.generation
    → Goes l (machine f off) (machine g (ready log.bank log.generation cells log.next))
goes_on l banks log cells f g latest goes e two inside free heads was_read older =
    let small : get_or latest (next_bank l.banks log.bank) 0 < last_generation = subst (λ b. get_or latest (next_bank b log.bank) 0 < last_generation) e was_read in
    let low : get_or latest (next_bank l.banks log.bank) 0 < log.generation = subst (λ b. get_or latest (next_bank b log.bank) 0 < log.generation) e older in
    goes_then l _ (machine g (found log.bank log.generation cells log.next)) _ goes (goes_one l resumes _ _ (λ old new h. h, tt) (record {
      bank = log.bank;
      generation = log.generation;
      cells = cells;
      next = log.next;
      was = refl;
      free = free;
      older = λ x is. (
          let h = heads (next_bank l.banks log.bank) (next_inside l.banks log.bank two inside) small x is in
          omega (arith, h, low));
      same = λ bank k. refl;
      now = refl;
    }))

lower : (a b top : ℕ) → a < b → b ≤ top → a < top
lower a b top below most = omega (arith, below, most)

-- if it may go on, what is noted of the next bank's head says so
pub older_is_noted : (l : FlashLayout) (banks : ℕ) (log : FoundLog) (latest : List ℕ) (g : Flash) (top : ℕ) → banks ≡ l.banks → 2 ≤ l.banks → log.bank < l.banks → log.generation ≤ top
    → NotesHeads g l.banks latest → MayGoOn l g log.bank log.generation log.next
    → (get_or latest (next_bank banks log.bank) 0 < top) × (get_or latest (next_bank banks log.bank) 0 < log.generation)
older_is_noted l banks log latest g top e two inside most noted may =
    let note = noted (next_bank l.banks log.bank) (next_inside l.banks log.bank two inside) in
    let below : get_or latest (next_bank l.banks log.bank) 0 < log.generation = elim may.older [
      | inl blank ↦ (let is = note.none blank.0 in omega (arith, is, blank.1))
      | inr head ↦ (let is = note.head head.0 head.1.0 in omega (arith, is, head.1.1))
    ] in
    subst (λ b. (get_or latest (next_bank b log.bank) 0 < top) × (get_or latest (next_bank b log.bank) 0 < log.generation)) (sym e)
    (lower (get_or latest (next_bank l.banks log.bank) 0) log.generation top below most, below)
