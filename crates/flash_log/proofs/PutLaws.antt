-- What a put comes to over lives.
use Rattle.std.proofs.Common.{◌≡◌, ◌⊎◌, inl, inr, ℕ, List, [], ◌∷◌, ◌++◌, set, refl, sym, subst, ◌∙◌}
use Rattle.flash_places.specs.Places.{Flash}
use Rattle.flash_laws.specs.Logs.{CellList}
use Rattle.flash_laws.specs.Lives.{FlashLayout, FlashMachine, FlashDeed, puts, cuts_put, FlashLives, FlashFormatted, IsReadyFlash, MayMake, Possible, off}
use Rattle.flash_laws.proofs.CallerLemmas.{formatted_lives, later_lives, power_up}
use Rattle.flash_log.specs.declared.store.FlashLog.{FlashLog}
use Rattle.flash_log.specs.Going.{machine, ChangesNoCell, Goes, GoesAndDoes}
use Rattle.flash_log.specs.Scanned.{NoLogCounts}
use Rattle.flash_log.specs.Stores.{stage_of, PutsIn, CutsPutIn}
use Rattle.flash_log.proofs.GoingLaws.{lives_then, goes_then}

-- what may be after deeds and more deeds, told at the list between
pub possible_split : (ds es : List FlashDeed) (a c : CellList) → Possible (ds ++ es) a c → (b : CellList) × (Possible ds a b × Possible es b c)
possible_split [] es a c p = (a, (refl, p))
possible_split (d ∷ ds) es a c p =
    let t = possible_split ds es p.0 c p.1.1 in
    (t.0, ((p.0, (p.1.0, t.1.0)), t.1.1))

pub no_change : (ds : List FlashDeed) (a c : CellList) → ChangesNoCell ds → Possible ds a c → c ≡ a
no_change [] a c q p = p
no_change (d ∷ ds) a c q p = no_change ds p.0 c q.1 p.1.1 ∙ q.0 a p.0 p.1.0

is_ready : (g : Flash) (s : FlashLog) (now : CellList) → IsReadyFlash (machine g (stage_of s now)) now
is_ready g s now = record { bank = s.bank; generation = s.generation; next = s.next; is = refl }

pub attached_cells : (l : FlashLayout) (deeds : List FlashDeed) (cells now : CellList) (start : FlashMachine) (f g : Flash) (store : FlashLog)
    → FlashFormatted l cells start → FlashLives l deeds start (machine f off) → Goes l (machine f off) (machine g (stage_of store now)) → Possible deeds cells now
attached_cells l deeds cells now start f g store formatted lives goes =
    let p = formatted_lives l (deeds ++ goes.deeds) cells now start (machine g (stage_of store now)) formatted
    (lives_then l deeds goes.deeds start (machine f off) _ lives goes.lives) (is_ready g store now) in
    let t = possible_split deeds goes.deeds cells now p in
    subst (λ (x : CellList). Possible deeds cells x) (sym (no_change goes.deeds t.0 now goes.quiet t.1.1)) t.1.0

pub store_found : (l : FlashLayout) (deeds : List FlashDeed) (cells : CellList) (start : FlashMachine) (f g : Flash)
    → FlashFormatted l cells start → FlashLives l deeds start (machine f off) → NoLogCounts l f g → ⊥
store_found l deeds cells start f g formatted lives n = n.none (power_up l deeds cells start (machine f off) n.read g formatted lives refl n.looks)

-- one deed between others that change nothing
between_quiet : (ds es : List FlashDeed) (d : FlashDeed) (a c : CellList) → ChangesNoCell ds → ChangesNoCell es → Possible (ds ++ d ∷ es) a c → MayMake d a c
between_quiet ds es d a c q r p =
    let t = possible_split ds (d ∷ es) a c p in
    let e = no_change ds a t.0 q t.1.0 in
    let u = t.1.1 in
    subst (λ (x : CellList). MayMake d x c) e (subst (λ (y : CellList). MayMake d t.0 y) (sym (no_change es u.0 c r u.1.1)) u.1.0)

module _ (l : FlashLayout) (deeds : List FlashDeed) (first olds news : CellList) (start : FlashMachine) (f k : Flash) (old new : FlashLog)
    (formatted : FlashFormatted l first start) (lives : FlashLives l deeds start (machine f (stage_of old olds))) where
  later : (more : List FlashDeed) → FlashLives l more (machine f (stage_of old olds)) (machine k (stage_of new news)) → Possible more olds news
  later more lives_on = later_lives l deeds more first olds news start (machine f (stage_of old olds)) (machine k (stage_of new news)) formatted lives (is_ready f old olds) lives_on (is_ready k new news)

  one_deed : (d : FlashDeed) (m : FlashMachine) → GoesAndDoes l d (machine f (stage_of old olds)) m → Goes l m (machine k (stage_of new news)) → MayMake d olds news
  one_deed d m does goes = between_quiet does.goes.deeds goes.deeds d olds news does.goes.quiet goes.quiet
      (later (does.goes.deeds ++ d ∷ goes.deeds) (lives_then l does.goes.deeds (d ∷ goes.deeds) _ does.between _ does.goes.lives (m, (does.does, goes.lives))))

  pub put_done : (mids : CellList) (g h : Flash) (mid : FlashLog) (cell : ℕ) (payload : List ℕ)
      → PutsIn l cell payload (machine f (stage_of old olds)) (machine g (stage_of mid mids)) → Goes l (machine g (stage_of mid mids)) (machine h off)
      → Goes l (machine h off) (machine k (stage_of new news)) → news ≡ set olds cell payload
  put_done mids g h mid cell payload does goes again = one_deed (puts cell payload) (machine g (stage_of mid mids)) does (goes_then l _ (machine h off) _ goes again)

  pub put_cut : (h : Flash) (cell : ℕ) (payload : List ℕ) → CutsPutIn l cell payload (machine f (stage_of old olds)) (machine h off)
      → Goes l (machine h off) (machine k (stage_of new news)) → (news ≡ olds) ⊎ (news ≡ set olds cell payload)
  put_cut h cell payload does again = elim does [
    | inl before ↦ (let all = goes_then l _ (machine h off) _ before again in inl (no_change all.deeds olds news all.quiet (later all.deeds all.lives)))
    | inr cut ↦ one_deed (cuts_put cell payload) (machine h off) cut again
  ]
