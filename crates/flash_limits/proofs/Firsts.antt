-- The first write of a life, and which bank it erases.
use Rattle.std.proofs.Common.{◌≡◌, ◌≢◌, inl, inr, ◌<◌, ◌+◌, ℕ, suc, Some, None, List, [], ◌∷◌, ◌++◌, refl, sym, ap, subst, ◌∙◌, arith}
use Rattle.std.proofs.lemmas.Bool.{cases_eq}
use Rattle.flash_places.specs.declared.FlashLine.{FlashLine}
use Rattle.flash_places.specs.Places.{Flash, blank_place}
use Rattle.flash_limits.specs.Limits.{FlashView, MayBeRead, FlashWrite, erases_bank, programs_place, StoreDesign, CutsWrites, DoesWrites, MayDoWrites, FlashLife, cut_life, LivesOnce, LivesOn, ProgramsOnce, WritesTwoBanks, OnTwoBanks, KeepsPuts}
use Rattle.flash_limits.proofs.Cuts.{loose_place, loose_isnt_blank, bank_here, set_there, cut_flash, done_view, view_elsewhere, cuts_it, old_read, new_read}

pub record ReachedBy (d : StoreDesign) (start f : Flash) : Type 0 where
  pub lives : List FlashLife
  pub run : LivesOn d lives start f

lives_then : (d : StoreDesign) (lives : List FlashLife) (life : FlashLife) (start f g : Flash) → LivesOn d lives start f → LivesOnce d life f g
    → LivesOn d (lives ++ life ∷ []) start g
lives_then d [] life start f g run once = (g, (subst (λ (z : Flash). LivesOnce d life z g) run once, refl))
lives_then d (first ∷ lives) life start f g run once = (run.0, (run.1.0, lives_then d lives life run.0 f g run.1.1 once))

pub one_more : (d : StoreDesign) (start f g : Flash) (life : FlashLife) → ReachedBy d start f → LivesOnce d life f g → ReachedBy d start g
one_more d start f g life r once = record { lives = r.lives ++ life ∷ []; run = lives_then d r.lives life start f g r.run once }

-- ---- it programs nothing

pub programs_nothing : (d : StoreDesign) (start f : Flash) (view : FlashView) (value bank place : ℕ) (line : FlashLine) (rest : List FlashWrite)
    → ProgramsOnce d start → ReachedBy d start f → MayBeRead f view → d.writes view value ≡ programs_place bank place line ∷ rest → ⊥
programs_nothing d start f view value bank place line rest once r reads is =
    let may : f bank place ≡ blank_place = (subst (λ (ws : List FlashWrite). MayDoWrites ws f) is (once r.lives f view value r.run reads)).0 in
    let c : Flash = cut_flash (programs_place bank place line) f in
    let cut : CutsWrites (d.writes view value) f c =
    subst (λ (ws : List FlashWrite). CutsWrites ws f c) (sym is) (inl (cuts_it (programs_place bank place line) f may)) in
    let later = one_more d start f c (cut_life view value) r (reads, cut) in
    let again : c bank place ≡ blank_place = (subst (λ (ws : List FlashWrite). MayDoWrites ws c) is
    (once later.lives c view value later.run (old_read f view reads (programs_place bank place line) may))).0 in
    loose_isnt_blank (Some line) (sym (set_there bank place (loose_place (Some line)) f) ∙ again)

-- ---- it erases a bank

pub record FirstErases (d : StoreDesign) (view : FlashView) (value bank : ℕ) : Type 0 where
  pub rest : List FlashWrite
  pub is : d.writes view value ≡ erases_bank bank ∷ rest

pub record ErasesFirst (d : StoreDesign) (view : FlashView) (value : ℕ) : Type 0 where
  pub bank : ℕ
  pub below : bank < 2
  pub first : FirstErases d view value bank

pub erases_cut : (d : StoreDesign) (start f : Flash) (view : FlashView) (value bank : ℕ) → ReachedBy d start f → MayBeRead f view → FirstErases d view value bank
    → LivesOnce d (cut_life view value) f (cut_flash (erases_bank bank) f)
erases_cut d start f view value bank r reads first =
    (reads, subst (λ (ws : List FlashWrite). CutsWrites ws f (cut_flash (erases_bank bank) f)) (sym first.is) (inl (cuts_it (erases_bank bank) f tt)))

module _ (d : StoreDesign) (start : Flash) (once : ProgramsOnce d start) (two : OnTwoBanks d) (keeps : KeepsPuts d start) where
  -- a put of another value than is handed out writes something
  first_of : (f : Flash) (view : FlashView) (value : ℕ) (ws : List FlashWrite) → ReachedBy d start f → MayBeRead f view → d.hands view ≢ value
      → d.writes view value ≡ ws → ErasesFirst d view value
  first_of f view value [] r reads other is =
      absurd (other (keeps.done r.lives f f view view value r.run (reads, subst (λ (ws : List FlashWrite). DoesWrites ws f f) (sym is) refl) reads))
  first_of f view value (erases_bank bank ∷ rest) r reads other is = record {
    bank = bank;
    below = (subst WritesTwoBanks is (two view value)).0;
    first = record { rest = rest; is = is };
  }
  first_of f view value (programs_place bank place line ∷ rest) r reads other is =
      absurd (programs_nothing d start f view value bank place line rest once r reads is)

  pub first_at : (f : Flash) (view : FlashView) (more : ℕ) → ReachedBy d start f → MayBeRead f view → ErasesFirst d view (suc (d.hands view + more))
  first_at f view more r reads =
      first_of f view (suc (d.hands view + more)) (d.writes view (suc (d.hands view + more))) r reads (λ same. absurd (omega (arith, same))) refl

  -- both banks read nothing
  both_nothing : (f : Flash) (view : FlashView) (x y : ℕ) → ReachedBy d start f → MayBeRead f view → x < 2 → y < 2 → x ≢ y
      → ((k : ℕ) → view x k ≡ None) → ((k : ℕ) → view y k ≡ None) → ⊥
  both_nothing f view x y r reads in_x in_y other at_x at_y = elim (cases_eq x 0) [
    | inl zero ↦
        let one : y ≡ 1 = (let ne : y ≢ 0 = (λ is. other (zero ∙ sym is)) in omega (arith, in_y, ne)) in
        keeps.found r.lives f view r.run reads (λ k. ap (λ z. view z k) (sym zero) ∙ at_x k) (λ k. ap (λ z. view z k) (sym one) ∙ at_y k)
    | inr some ↦
        let one : x ≡ 1 = omega (arith, in_x, some) in
        let zero : y ≡ 0 = (let ne : y ≢ 1 = (λ is. other (one ∙ sym is)) in omega (arith, in_y, ne)) in
        keeps.found r.lives f view r.run reads (λ k. ap (λ z. view z k) (sym zero) ∙ at_y k) (λ k. ap (λ z. view z k) (sym one) ∙ at_x k)
  ]

  -- a bank that may be read as nothing is the only one that a life erases first
  pub one_is_lost : (f : Flash) (view nothing : FlashView) (value x y : ℕ) → ReachedBy d start f → MayBeRead f view → MayBeRead f nothing
      → FirstErases d view value y → x < 2 → y < 2 → x ≢ y → ((k : ℕ) → nothing x k ≡ None) → ⊥
  one_is_lost f view nothing value x y r reads reads_nothing first in_x in_y other lost =
      both_nothing (cut_flash (erases_bank y) f) (done_view (erases_bank y) nothing) x y
      (one_more d start f (cut_flash (erases_bank y) f) (cut_life view value) r (erases_cut d start f view value y r reads first))
      (new_read f nothing reads_nothing (erases_bank y)) in_x in_y other
      (λ k. view_elsewhere (erases_bank y) nothing x k other ∙ lost k)
      (λ k. bank_here y y k (λ j. None) nothing refl)

  -- all that may be read of a flash at one time has one such bank
  pub same_first : (f : Flash) (v w : FlashView) (a b x y : ℕ) → ReachedBy d start f → MayBeRead f v → MayBeRead f w → FirstErases d v a x → FirstErases d w b y
      → x < 2 → y < 2 → y ≡ x
  same_first f v w a b x y r reads_v reads_w first_v first_w in_x in_y = elim (cases_eq y x) [
    | inl same ↦ same
    | inr other ↦ absurd (one_is_lost (cut_flash (erases_bank x) f) w (done_view (erases_bank x) w) b x y
        (one_more d start f (cut_flash (erases_bank x) f) (cut_life v a) r (erases_cut d start f v a x r reads_v first_v))
        (old_read f w reads_w (erases_bank x) tt) (new_read f w reads_w (erases_bank x)) first_w in_x in_y (λ is. other (sym is))
        (λ k. bank_here x x k (λ j. None) w refl))
  ]
