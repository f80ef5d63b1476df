-- No store on two banks.
use Rattle.std.proofs.Common.{◌≡◌, ◌≢◌, inl, inr, ◌<◌, ◌+◌, ℕ, suc, Some, None, List, [], ◌∷◌, ◌++◌, refl, sym, ap, subst, ◌∙◌, arith}
use Rattle.std.proofs.lemmas.Bool.{cases_eq}
use Rattle.std.proofs.lemmas.List.{append-nil}
use Rattle.flash_places.specs.declared.FlashLine.{FlashLine}
use Rattle.flash_places.specs.Places.{Flash, blank_place}
use Rattle.flash_limits.specs.Limits.{FlashView, MayBeRead, FlashWrite, erases_bank, programs_place, StoreDesign, MayWrite, DoesWrite, CutsWrite, CutsWrites, DoesWrites, MayDoWrites, whole_life, cut_life, ProgramsOnce, WritesTwoBanks, OnTwoBanks, KeepsPuts}
use Rattle.flash_limits.proofs.Cuts.{loose_place, loose_isnt_blank, bank_here, bank_there, set_there, bank_of, done_flash, cut_flash, done_view, done_elsewhere, view_elsewhere, does_it, cuts_it, same_reads, old_read, new_read, done_read}
use Rattle.flash_limits.proofs.Firsts.{ReachedBy, one_more, FirstErases, erases_cut, first_at, one_is_lost, same_first}

-- ---- some writes and the next one

snoc_is : (ps ws : List FlashWrite) (w : FlashWrite) → (ps ++ w ∷ []) ++ ws ≡ ps ++ w ∷ ws
snoc_is [] ws w = refl
snoc_is (p ∷ ps) ws w = ap (λ (rest : List FlashWrite). p ∷ rest) (snoc_is ps ws w)

does_then : (ps : List FlashWrite) (w : FlashWrite) (f g h : Flash) → DoesWrites ps f g → DoesWrite w g h → DoesWrites (ps ++ w ∷ []) f h
does_then [] w f g h all next = (h, (subst (λ (z : Flash). DoesWrite w z h) all next, refl))
does_then (p ∷ ps) w f g h all next = (all.0, (all.1.0, does_then ps w all.0 g h all.1.1 next))

cuts_then : (ps ws : List FlashWrite) (w : FlashWrite) (f g h : Flash) → DoesWrites ps f g → CutsWrite w g h → CutsWrites (ps ++ w ∷ ws) f h
cuts_then [] ws w f g h all next = inl (subst (λ (z : Flash). CutsWrite w z h) all next)
cuts_then (p ∷ ps) ws w f g h all next = inr (all.0, (all.1.0, cuts_then ps ws w all.0 g h all.1.1 next))

-- all of them are writes to this bank
abbrev AllTo : ℕ → List FlashWrite → Type 0
AllTo bank [] = Unit {0}
AllTo bank (w ∷ ws) = (bank_of w ≡ bank) × AllTo bank ws

to_then : (bank : ℕ) (ps : List FlashWrite) (w : FlashWrite) → AllTo bank ps → bank_of w ≡ bank → AllTo bank (ps ++ w ∷ [])
to_then bank [] w all is = (is, tt)
to_then bank (p ∷ ps) w all is = (all.0, to_then bank ps w all.1 is)

two_head : (w : FlashWrite) (ws : List FlashWrite) → WritesTwoBanks (w ∷ ws) → (bank_of w < 2) × WritesTwoBanks ws
two_head (erases_bank bank) ws two = two
two_head (programs_place bank place line) ws two = two

-- a place of another bank that is programmed after them was blank before them
blank_before : (y : ℕ) (ps ws : List FlashWrite) (x place : ℕ) (line : FlashLine) (f : Flash) → AllTo y ps → x ≢ y
    → MayDoWrites (ps ++ programs_place x place line ∷ ws) f → f x place ≡ blank_place
blank_before y [] ws x place line f all other may = may.0
blank_before y (p ∷ ps) ws x place line f all other may =
    sym (done_elsewhere p f x place (λ is. other (is ∙ all.0)))
    ∙ blank_before y ps ws x place line (done_flash p f) all.1 other (may.1 (done_flash p f) (does_it p f may.0))

module _ (d : StoreDesign) (start : Flash) (once : ProgramsOnce d start) (two : OnTwoBanks d) (keeps : KeepsPuts d start) where
  -- A life that read nothing of bank y, and is asked a put. It has written to y alone so far.
  module _ (y : ℕ) (in_y : y < 2) (s : Flash) (v : FlashView) (value : ℕ) (r : ReachedBy d start s) (reads : MayBeRead s v)
      (lost : (k : ℕ) → v y k ≡ None) (other : d.hands v ≢ value) where
    -- bank y is read as nothing: so all is read as before
    as_before : (t : Flash) (seen : FlashView) → MayBeRead t seen → ((x k : ℕ) → x ≢ y → seen x k ≡ v x k) → MayBeRead (cut_flash (erases_bank y) t) v
    as_before t seen reads_seen same = same_reads (cut_flash (erases_bank y) t) (done_view (erases_bank y) seen) v
        (λ x k. elim (cases_eq x y) [
          | inl is ↦ ap (λ z. v z k) is ∙ lost k ∙ sym (bank_here y x k (λ j. None) seen is)
          | inr ne ↦ sym (view_elsewhere (erases_bank y) seen x k ne ∙ same x k ne)
        ]) (new_read t seen reads_seen (erases_bank y))

    to_other : (w : FlashWrite) (ws ps : List FlashWrite) (t : Flash) (seen : FlashView) → d.writes v value ≡ ps ++ w ∷ ws → AllTo y ps → DoesWrites ps s t
        → MayWrite w t → bank_of w < 2 → bank_of w ≢ y → MayBeRead t seen → ((x k : ℕ) → x ≢ y → seen x k ≡ v x k)
        → FirstErases d seen (suc (d.hands seen + d.hands v)) y → ReachedBy d start (cut_flash w t) → ⊥
    to_other (erases_bank x) ws ps t seen is all does may in_x ne reads_seen same first there =
        one_is_lost d start once two keeps (cut_flash (erases_bank x) t) seen (done_view (erases_bank x) seen) (suc (d.hands seen + d.hands v)) x y there
        (old_read t seen reads_seen (erases_bank x) tt) (new_read t seen reads_seen (erases_bank x)) first in_x in_y ne (λ k. bank_here x x k (λ j. None) seen refl)
    to_other (programs_place x place line) ws ps t seen is all does may in_x ne reads_seen same first there =
        let c : Flash = cut_flash (programs_place x place line) t in
        let e : Flash = cut_flash (erases_bank y) c in
        let still = old_read t seen reads_seen (programs_place x place line) may in
        let later = one_more d start c e (cut_life seen (suc (d.hands seen + d.hands v))) there
        (erases_cut d start c seen (suc (d.hands seen + d.hands v)) y there still first) in
        let again = once later.lives e v value later.run (as_before c seen still same) in
        let blank = blank_before y ps ws x place line e all ne (subst (λ (z : List FlashWrite). MayDoWrites z e) is again) in
        loose_isnt_blank (Some line) (sym (bank_there y x place (λ j. loose_place (c y j).content) c ne ∙ set_there x place (loose_place (Some line)) t) ∙ blank)

    walk : (ws ps : List FlashWrite) (t : Flash) (seen : FlashView) → d.writes v value ≡ ps ++ ws → AllTo y ps → DoesWrites ps s t → MayDoWrites ws t → WritesTwoBanks ws
        → MayBeRead t seen → ((x k : ℕ) → x ≢ y → seen x k ≡ v x k) → FirstErases d seen (suc (d.hands seen + d.hands v)) y → ⊥
    walk [] ps t seen is all does may both reads_seen same first =
        let whole : DoesWrites (d.writes v value) s t = subst (λ (z : List FlashWrite). DoesWrites z s t) (sym (is ∙ append-nil ps)) does in
        let there = one_more d start s t (whole_life v value) r (reads, whole) in
        elim (keeps.cut r.lives s t (cut_flash (erases_bank y) t) v seen v value (suc (d.hands seen + d.hands v)) r.run (reads, whole)
        (erases_cut d start t seen (suc (d.hands seen + d.hands v)) y there reads_seen first) (as_before t seen reads_seen same)) [
          | inl done ↦ other done
          | inr next ↦ absurd (omega (arith, next))
        ]
    walk (w ∷ ws) ps t seen is all does may both reads_seen same first =
        let bounds = two_head w ws both in
        let cut : CutsWrites (d.writes v value) s (cut_flash w t) =
        subst (λ (z : List FlashWrite). CutsWrites z s (cut_flash w t)) (sym is) (cuts_then ps ws w s t (cut_flash w t) does (cuts_it w t may.0)) in
        let there = one_more d start s (cut_flash w t) (cut_life v value) r (reads, cut) in
        elim (cases_eq (bank_of w) y) [
          | inl here ↦
              let next = first_at d start once two keeps (cut_flash w t) (done_view w seen) (d.hands v) there (new_read t seen reads_seen w) in
              let bank : next.bank ≡ y = same_first d start once two keeps (cut_flash w t) seen (done_view w seen)
              (suc (d.hands seen + d.hands v)) (suc (d.hands (done_view w seen) + d.hands v)) y next.bank there
              (old_read t seen reads_seen w may.0) (new_read t seen reads_seen w) first next.first in_y next.below in
              walk ws (ps ++ w ∷ []) (done_flash w t) (done_view w seen) (is ∙ sym (snoc_is ps ws w)) (to_then y ps w all here)
              (does_then ps w s t (done_flash w t) does (does_it w t may.0)) (may.1 (done_flash w t) (does_it w t may.0)) bounds.1
              (done_read t seen reads_seen w) (λ x k ne. view_elsewhere w seen x k (λ e. ne (e ∙ here)) ∙ same x k ne)
              (subst (λ z. FirstErases d (done_view w seen) (suc (d.hands (done_view w seen) + d.hands v)) z) bank next.first)
          | inr ne ↦ to_other w ws ps t seen is all does may.0 bounds.0 ne reads_seen same first there
        ]

  pub no_store : ⊥
  no_store =
      let seen : FlashView = λ bank k. (start bank k).content in
      let begun : ReachedBy d start start = record { lives = []; run = refl } in
      let reads : MayBeRead start seen = λ bank k. inl refl in
      let first = first_at d start once two keeps start seen 0 begun reads in
      let y : ℕ = first.bank in
      let s : Flash = cut_flash (erases_bank y) start in
      let v : FlashView = done_view (erases_bank y) seen in
      let r = one_more d start start s (cut_life seen (suc (d.hands seen + 0))) begun (erases_cut d start start seen (suc (d.hands seen + 0)) y begun reads first.first) in
      let reads_v = new_read start seen reads (erases_bank y) in
      let next = first_at d start once two keeps s v (d.hands v) r reads_v in
      let same = same_first d start once two keeps s seen v (suc (d.hands seen + 0)) (suc (d.hands v + d.hands v)) y next.bank r
      (old_read start seen reads (erases_bank y) tt) reads_v first.first next.first first.below next.below in
      walk y first.below s v (suc (d.hands v)) r reads_v (λ k. bank_here y y k (λ j. None) seen refl) (λ e. absurd (omega (arith, e)))
      (d.writes v (suc (d.hands v))) [] s v refl tt refl (once r.lives s v (suc (d.hands v)) r.run reads_v) (two v (suc (d.hands v)))
      reads_v (λ x k ne. refl) (subst (λ z. FirstErases d v (suc (d.hands v + d.hands v)) z) same next.first)
