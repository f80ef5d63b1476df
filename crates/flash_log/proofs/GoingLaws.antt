-- Deeds that follow one another.
use Rattle.std.proofs.Common.{Option, Some, IfSome, Result, Ok, Err, OnOk, OnErr, ◌≡◌, ℕ, zero, suc, ◌<◌, ◌≤◌, List, [], ◌∷◌, ◌++◌, length, get_or, refl, sym, ap, subst, ◌∙◌, arith}
use Rattle.flash_places.specs.declared.FlashLine.{FlashLine}
use Rattle.flash_places.specs.declared.FlashLine.TheVariants.{Head, Entry}
use Rattle.flash_places.specs.Places.{Flash, SameOthers, blank_place, Erases, CutsErase, Programs, CutsProgram}
use Rattle.flash_places.specs.State.{FlashState, FlashRuns}
use Rattle.flash_laws.specs.Logs.{CellList}
use Rattle.flash_laws.specs.Lives.{FlashLayout, FlashMachine, FlashStage, off, copying, ready, FlashDeed, erases, copies, heads, cuts_erase, cuts_copy, cuts_head, FlashLives, DoesFlashDeed, IsUp, next_bank}
use Rattle.flash_log.specs.Going.{machine, ChangesNoCell, Goes, BlankFrom, Copying, HoldsCopy, Renews, CutsRenew}

pub lives_then : (l : FlashLayout) (ds es : List FlashDeed) (a b c : FlashMachine) → FlashLives l ds a b → FlashLives l es b c → FlashLives l (ds ++ es) a c
lives_then l [] es a b c same more = subst (λ (x : FlashMachine). FlashLives l es x c) same more
lives_then l (e ∷ ds) es a b c lives more = (lives.0, (lives.1.0, lives_then l ds es lives.0 b c lives.1.1 more))

pub quiet_then : (ds es : List FlashDeed) → ChangesNoCell ds → ChangesNoCell es → ChangesNoCell (ds ++ es)
quiet_then [] es q r = r
quiet_then (d ∷ ds) es q r = (q.0, quiet_then ds es q.1 r)

pub goes_then : (l : FlashLayout) (a b c : FlashMachine) → Goes l a b → Goes l b c → Goes l a c
goes_then l a b c g h = record {
  deeds = g.deeds ++ h.deeds;
  quiet = quiet_then g.deeds h.deeds g.quiet h.quiet;
  lives = lives_then l g.deeds h.deeds a b c g.lives h.lives;
}

pub goes_none : (l : FlashLayout) (a : FlashMachine) → Goes l a a
goes_none l a = record { deeds = []; quiet = tt; lives = refl }

-- one deed
pub goes_one : (l : FlashLayout) (d : FlashDeed) (a b : FlashMachine) → ChangesNoCell (d ∷ []) → DoesFlashDeed l d a b → Goes l a b
goes_one l d a b quiet does = record { deeds = d ∷ []; quiet = quiet; lives = (b, (does, refl)) }

module _ (l : FlashLayout) (bank g : ℕ) (cells : CellList) (f m m' : Flash) where
  pub copy_more : (i : ℕ) → Copying l bank g cells i f m → i < length cells → Programs (next_bank l.banks bank) (suc i) (Entry i (get_or cells i [])) m m'
      → Copying l bank g cells (suc i) f m'
  copy_more i before below does = goes_then l _ (machine m (copying bank g cells i)) _ before
      (goes_one l copies _ _ (λ old new e. e, tt) (record { bank = bank; generation = g; cells = cells; done = i; was = refl; below = below; does = does; now = refl }))

  pub copy_cut : (i : ℕ) → Copying l bank g cells i f m → i < length cells → CutsProgram (next_bank l.banks bank) (suc i) (Entry i (get_or cells i [])) m m'
      → Goes l (machine f (copying bank g cells 0)) (machine m' off)
  copy_cut i before below does = goes_then l _ (machine m (copying bank g cells i)) _ before
      (goes_one l cuts_copy _ _ (λ old new e. e, tt) (record { bank = bank; generation = g; cells = cells; done = i; was = refl; below = below; does = does; now = refl }))

  pub head_done : Copying l bank g cells (length cells) f m → Programs (next_bank l.banks bank) 0 (Head (suc g)) m m'
      → Goes l (machine f (copying bank g cells 0)) (machine m' (ready (next_bank l.banks bank) (suc g) cells (suc (length cells))))
  head_done before does = goes_then l _ (machine m (copying bank g cells (length cells))) _ before
      (goes_one l heads _ _ (λ old new e. e, tt) (record { bank = bank; generation = g; cells = cells; was = refl; does = does; now = refl }))

  pub head_cut : Copying l bank g cells (length cells) f m → CutsProgram (next_bank l.banks bank) 0 (Head (suc g)) m m'
      → Goes l (machine f (copying bank g cells 0)) (machine m' off)
  head_cut before does = goes_then l _ (machine m (copying bank g cells (length cells))) _ before
      (goes_one l cuts_head _ _ (λ old new e. e, tt) (record { bank = bank; generation = g; cells = cells; was = refl; does = does; now = refl }))

  pub erased : (target : ℕ) (stage : FlashStage) → IsUp stage bank g cells → target ≡ next_bank l.banks bank → Erases target f m
      → Goes l (machine f stage) (machine m (copying bank g cells 0))
  erased target stage up is does =
      goes_one l (erases target) _ _ (λ old new e. e, tt) (record { bank = bank; generation = g; cells = cells; up = up; is_next = is; does = does; now = refl })

  pub erase_cut : (target : ℕ) (stage : FlashStage) → IsUp stage bank g cells → target ≡ next_bank l.banks bank → CutsErase target f m
      → Goes l (machine f stage) (machine m off)
  erase_cut target stage up is does =
      goes_one l (cuts_erase target) _ _ (λ old new e. e, tt) (record { bank = bank; generation = g; cells = cells; up = up; is_next = is; does = does; now = refl })

-- calls that follow one another
pub runs_then : (a b c : FlashState) → FlashRuns a b → FlashRuns b c → FlashRuns a c
runs_then a b c r s = record { banks = s.banks ∙ r.banks; places = s.places ∙ r.places; later = omega (arith, r.later, s.later); tells = s.tells ∙ r.tells }

pub others_then : (bank : ℕ) (f g h : Flash) → SameOthers bank f g → SameOthers bank g h → SameOthers bank f h
others_then bank f g h r s x ne k = s x ne k ∙ r x ne k

-- clauses on a result
pub OnOk-map : {T E P Q : Type 0} (r : Result T E) → (P → Q) → OnOk r P → OnOk r Q
OnOk-map (Ok x) f p = f p
OnOk-map (Err e) f p = tt

pub OnErr-map : {T E P Q : Type 0} (r : Result T E) → (P → Q) → OnErr r P → OnErr r Q
OnErr-map (Ok x) f p = tt
OnErr-map (Err e) f p = f p

pub OnErr-from : {T E P : Type 0} (r : Result T E) → P → OnErr r P
OnErr-from (Ok x) p = tt
OnErr-from (Err e) p = p

-- where an operation is done or cut, the other banks are as before
pub others_either : {T E : Type 0} (r : Result T E) (P : Type 0) → OnOk r P → OnErr r P → P
others_either (Ok x) P p q = p
others_either (Err e) P p q = q

-- the same place, named otherwise
pub programs_at : (b b' at at' : ℕ) (line line' : FlashLine) (f f' : Flash) → b ≡ b' → at ≡ at' → line ≡ line' → Programs b at line f f' → Programs b' at' line' f f'
programs_at b b' at at' line line' f f' e h i does =
    subst (λ x. Programs x at' line' f f') e (subst (λ k. Programs b k line' f f') h (subst (λ q. Programs b at q f f') i does))

pub cuts_program_at : (b b' at at' : ℕ) (line line' : FlashLine) (f f' : Flash) → b ≡ b' → at ≡ at' → line ≡ line' → CutsProgram b at line f f' → CutsProgram b' at' line' f f'
cuts_program_at b b' at at' line line' f f' e h i does =
    subst (λ x. CutsProgram x at' line' f f') e (subst (λ k. CutsProgram b k line' f f') h (subst (λ q. CutsProgram b at q f f') i does))

-- places from one on, told by their predecessors
pub blank_all : (f : Flash) (bank from : ℕ) → ((k : ℕ) → from ≤ k → f bank (suc k) ≡ blank_place) → BlankFrom f bank (suc from)
blank_all f bank from free zero h = absurd (omega (arith, h))
blank_all f bank from free (suc k) h = free k (omega (arith, h))

-- ---- an erase, and then a copy, of a flash whose number of banks is told twice

abbrev pub layout_of : ℕ → ℕ → FlashLayout
layout_of banks n = record { banks = banks; cells = n }

module _ (banks banks' n bank g : ℕ) (cells : CellList) (f m h : Flash) (target : ℕ) (same : banks' ≡ banks) (is : target ≡ next_bank banks bank) where
  pub renew_done : Erases target f m
      → Goes (layout_of banks' n) (machine m (copying bank g cells 0)) (machine h (ready (next_bank banks' bank) (suc g) cells (suc (length cells))))
      → Renews (layout_of banks n) bank g cells f h
  renew_done does go = λ stage up. goes_then (layout_of banks n) _ _ _ (erased (layout_of banks n) bank g cells f m m target stage up is does)
      (subst (λ z. Goes (layout_of z n) (machine m (copying bank g cells 0)) (machine h (ready (next_bank z bank) (suc g) cells (suc (length cells))))) same go)

  pub renew_cut : Erases target f m → Goes (layout_of banks' n) (machine m (copying bank g cells 0)) (machine h off) → CutsRenew (layout_of banks n) bank g cells f h
  renew_cut does go = λ stage up. goes_then (layout_of banks n) _ _ _ (erased (layout_of banks n) bank g cells f m m target stage up is does)
      (subst (λ z. Goes (layout_of z n) (machine m (copying bank g cells 0)) (machine h off)) same go)

  pub renew_erase_cut : CutsErase target f m → CutsRenew (layout_of banks n) bank g cells f m
  renew_erase_cut does = λ stage up. erase_cut (layout_of banks n) bank g cells f m m target stage up is does

  pub renew_others : SameOthers target f m → SameOthers (next_bank banks' bank) m h → SameOthers (next_bank banks bank) f h
  renew_others r s = others_then (next_bank banks bank) f m h (subst (λ z. SameOthers z f m) is r) (subst (λ z. SameOthers (next_bank z bank) m h) same s)

  pub renew_copy : HoldsCopy h (next_bank banks' bank) (suc g) cells → HoldsCopy h (next_bank banks bank) (suc g) cells
  renew_copy copy = subst (λ z. HoldsCopy h (next_bank z bank) (suc g) cells) same copy

  pub renew_blank : Erases target f m → BlankFrom m (next_bank banks' bank) 0
  renew_blank does k from = (subst (λ z. Erases z f m) (is ∙ ap (λ z. next_bank z bank) (sym same)) does).erased k

pub in_some : {T : Type 0} (P : T → Type 0) (o : Option T) (x : T) → IfSome o P → o ≡ Some x → P x
in_some P o x h e = subst (λ (z : Option _). IfSome z P) e h
