-- What follows over all lives.
use Rattle.std.proofs.Common.{◌≡◌, ◌≢◌, inl, inr, ℕ, suc, ◌+◌, ◌<◌, ◌≤◌, Bool, if◌then◌else◌, Option, List, [], ◌∷◌, length, set, refl, sym, ap, subst, arith}
use Rattle.std.proofs.lemmas.Bool.{cases_eq}
use Rattle.std.proofs.lemmas.Bool.Decides.{eqb_tells}
use Rattle.std.proofs.Math.Dec.{eqb}
use Rattle.flash_places.specs.declared.FlashLine.{FlashLine}
use Rattle.flash_places.specs.Places.{Flash, LooksAll, blank_place}
use Rattle.flash_laws.specs.Logs.{CellList, copy_lines, IsLog}
use Rattle.flash_laws.specs.Lives.{FlashLayout, FlashMachine, FlashStage, off, found, copying, ready, IsUp, was_found, was_ready, FlashDeed, scans, resumes, erases, copies, heads, puts, cuts_scan, cuts_erase, cuts_copy, cuts_head, cuts_put, cuts, next_bank, DoesFlashDeed, FlashLives, MayMake, Possible, IsReadyFlash, IsOff, FlashFormatted, PlaceIsBlank, ScanFinds, erases_begun, wear_of, copy_begun, copy_done, copies_begun, copies_done}
use Rattle.flash_laws.proofs.Reading.{content_of, Keeps}
use Rattle.flash_laws.proofs.Copies.{length-copy, append_none, keeps_all}
use Rattle.flash_laws.proofs.Wear.{Wear, Spent, Bumps, spent_as, spent_more, spent_next, spent_even, next_inside}
use Rattle.flash_laws.proofs.Sound.{copies_now, OneOf, SoundOff, SoundCopying, SoundReady, Sound, no_head_older, kept_of_held}
use Rattle.flash_laws.proofs.Scanning.{older_scan, kept_found, kept_scan, ahead_found}
use Rattle.flash_laws.proofs.Steps.{at_of_older, scan_step, scan_cut, resume_step, erase_step, erase_cut, copy_step, copy_cut, head_step, head_cut, put_step, put_cut, cut_step}

-- ---- wear, one deed later

-- how many copies a deed loses
abbrev pub copies_lost : FlashStage → FlashDeed → ℕ
copies_lost stage scans = 0
copies_lost stage resumes = 0
copies_lost stage (erases target) = 0
copies_lost stage copies = 0
copies_lost stage heads = 0
copies_lost stage (puts i p) = 0
copies_lost stage cuts_scan = 0
copies_lost stage (cuts_erase target) = 1
copies_lost stage cuts_copy = 1
copies_lost stage cuts_head = 1
copies_lost stage (cuts_put i p) = 0
copies_lost stage cuts = copies_now stage

abbrev pub after_deed : Wear → FlashStage → FlashDeed → Wear
after_deed w stage deed = record { worn = λ x. w.worn x + erases_begun x deed; lost = w.lost + copies_lost stage deed }

abbrev one_if : Bool → ℕ
one_if b = if b then 1 else 0

bumps_once : (w : Wear) (target lost : ℕ) → Bumps target w (record { worn = λ x. w.worn x + one_if (eqb x target); lost = lost })
bumps_once w target lost = record {
  at = elim (eqb_tells target target) [
    | inl same ↦ (let e : one_if (eqb target target) ≡ 1 = ap one_if same.0 in omega (arith, e))
    | inr other ↦ absurd (other.1 refl)
  ];
  others = λ x ne. elim (eqb_tells x target) [
    | inl same ↦ absurd (ne same.1)
    | inr other ↦ (let e : one_if (eqb x target) ≡ 0 = ap one_if other.0 in omega (arith, e))
  ];
}

-- ---- one deed

pub record Stepped (l : FlashLayout) (w : Wear) (before : FlashStage) (a b : CellList) (deed : FlashDeed) (m : FlashMachine) : Type 0 where
  pub a' : CellList
  pub b' : CellList
  pub sound : Sound l (after_deed w before deed) a' b' m.flash m.stage
  pub from : (x : CellList) → OneOf a' b' x → (y : CellList) × (OneOf a b y × MayMake deed y x)

module _ (l : FlashLayout) (two : 2 ≤ l.banks) (w : Wear) (a b : CellList) (m m' : FlashMachine) (sound : Sound l w a b m.flash m.stage) where
  -- the power stays
  grown : (more x : ℕ) → Spent l.banks w more x → Spent l.banks (record { worn = λ y. w.worn y + 0; lost = w.lost + 0 }) more x
  grown more x s = spent_as l.banks w (record { worn = λ y. w.worn y + 0; lost = w.lost + 0 }) more more x (λ y. omega arith) (omega arith) s

  -- a copy is lost
  lost : (more x : ℕ) → more ≤ 1 → Spent l.banks w more x → Spent l.banks (record { worn = λ y. w.worn y + 0; lost = w.lost + 1 }) 0 x
  lost more x below s = spent_as l.banks w (record { worn = λ y. w.worn y + 0; lost = w.lost + 1 }) more 0 x (λ y. omega arith) (omega (arith, below)) s

  pub step : (deed : FlashDeed) → DoesFlashDeed l deed m m' → Stepped l w m.stage a b deed m'
  step scans s = record { a' = a; b' = b; sound = scan_step l two w (after_deed w m.stage scans) a b m m' sound (grown 0) s; from = λ x one. (x, (one, refl)) }
  step resumes s = record { a' = a; b' = b; sound = resume_step l two w (after_deed w m.stage resumes) a b m m' sound (grown 0) s; from = λ x one. (x, (one, refl)) }
  step (erases target) s = record {
    a' = a;
    b' = b;
    sound = erase_step l two w (after_deed w m.stage (erases target)) a b m m' sound target
        (λ bank inside is spent. spent_next l.banks w (after_deed w m.stage (erases target)) 0 bank two inside
        (subst (λ z. Bumps z w (after_deed w m.stage (erases target))) is (bumps_once w target (w.lost + 0))) (omega arith) spent)
        (λ x spent. spent_more l.banks w (after_deed w m.stage (erases target)) 0 1 x target (bumps_once w target (w.lost + 0)) (omega arith) spent) s;
    from = λ x one. (x, (one, refl));
  }
  step copies s = record { a' = a; b' = b; sound = copy_step l two w (after_deed w m.stage copies) a b m m' sound grown s; from = λ x one. (x, (one, refl)) }
  step heads s = record { a' = a; b' = b; sound = head_step l two w (after_deed w m.stage heads) a b m m' sound (grown 0) s; from = λ x one. (x, (one, refl)) }
  step (puts i p) s =
      let r : SoundReady l w m.flash s.bank s.generation s.cells s.next a b = subst (λ (q : FlashStage). Sound l w a b m.flash q) s.was sound in
      record {
        a' = set s.cells i p;
        b' = set s.cells i p;
        sound = put_step l two w (after_deed w m.stage (puts i p)) a b m m' sound i p (grown 0) s;
        from = λ x one. (s.cells, (r.one, elim one [ inl e ↦ e | inr e ↦ e ]));
      }
  step cuts_scan s = record { a' = a; b' = b; sound = scan_cut l two w (after_deed w m.stage cuts_scan) a b m m' sound (grown 0) s; from = λ x one. (x, (one, refl)) }
  step (cuts_erase target) s = record {
    a' = a;
    b' = b;
    sound = erase_cut l two w (after_deed w m.stage (cuts_erase target)) a b m m' sound target
        (λ x spent. spent_more l.banks w (after_deed w m.stage (cuts_erase target)) 0 0 x target (bumps_once w target (w.lost + 1)) (omega arith) spent) s;
    from = λ x one. (x, (one, refl));
  }
  step cuts_copy s = record { a' = a; b' = b; sound = copy_cut l two w (after_deed w m.stage cuts_copy) a b m m' sound (λ x. lost 1 x (omega arith)) s; from = λ x one. (x, (one, refl)) }
  step cuts_head s = record {
    a' = a;
    b' = b;
    sound = head_cut l two w (after_deed w m.stage cuts_head) a b m m' sound (λ x. lost 0 x (omega arith)) (λ x. lost 1 x (omega arith)) s;
    from = λ x one. (x, (one, refl));
  }
  step (cuts_put i p) s =
      let r : SoundReady l w m.flash s.bank s.generation s.cells s.next a b = subst (λ (q : FlashStage). Sound l w a b m.flash q) s.was sound in
      record {
        a' = s.cells;
        b' = set s.cells i p;
        sound = put_cut l two w (after_deed w m.stage (cuts_put i p)) a b m m' sound i p (grown 0) s;
        from = λ x one. (s.cells, (r.one, one));
      }
  step cuts s = record {
    a' = a;
    b' = b;
    sound = cut_step l two w (after_deed w m.stage cuts) a b m m' sound
        (λ x spent. spent_as l.banks w (after_deed w m.stage cuts) 0 0 x (λ y. omega arith) (omega arith) spent)
        (λ now x spent. spent_as l.banks w (after_deed w m.stage cuts) 1 0 x (λ y. omega arith) (omega (arith, now)) spent) s;
    from = λ x one. (x, (one, refl));
  }

-- what was begun is done, lost, or under way
up_none : (stage : FlashStage) (bank generation : ℕ) (cells : CellList) → IsUp stage bank generation cells → copies_now stage ≡ 0
up_none stage bank generation cells (was_found next is) = ap copies_now is
up_none stage bank generation cells (was_ready next is) = ap copies_now is

balance : (l : FlashLayout) (m m' : FlashMachine) (deed : FlashDeed) → DoesFlashDeed l deed m m'
    → copies_lost m.stage deed + copies_now m'.stage + copy_done deed ≡ copies_now m.stage + copy_begun deed
balance l m m' scans s = let e = ap copies_now s.was in let d = ap copies_now s.now in omega (arith, e, d)
balance l m m' resumes s = let e = ap copies_now s.was in let d = ap copies_now s.now in omega (arith, e, d)
balance l m m' (erases target) s = let e = up_none m.stage s.bank s.generation s.cells s.up in let d = ap copies_now s.now in omega (arith, e, d)
balance l m m' copies s = let e = ap copies_now s.was in let d = ap copies_now s.now in omega (arith, e, d)
balance l m m' heads s = let e = ap copies_now s.was in let d = ap copies_now s.now in omega (arith, e, d)
balance l m m' (puts i p) s = let e = ap copies_now s.was in let d = ap copies_now s.now in omega (arith, e, d)
balance l m m' cuts_scan s = let e = ap copies_now s.was in let d = ap copies_now s.now in omega (arith, e, d)
balance l m m' (cuts_erase target) s = let e = up_none m.stage s.bank s.generation s.cells s.up in let d = ap copies_now s.now in omega (arith, e, d)
balance l m m' cuts_copy s = let e = ap copies_now s.was in let d = ap copies_now s.now in omega (arith, e, d)
balance l m m' cuts_head s = let e = ap copies_now s.was in let d = ap copies_now s.now in omega (arith, e, d)
balance l m m' (cuts_put i p) s = let e = ap copies_now s.was in let d = ap copies_now s.now in omega (arith, e, d)
balance l m m' cuts s = let d = ap copies_now s.now in omega (arith, d)

-- ---- all deeds

pub record Reached (l : FlashLayout) (w : Wear) (before : FlashStage) (a b : CellList) (deeds : List FlashDeed) (c : FlashMachine) : Type 0 where
  pub a' : CellList
  pub b' : CellList
  pub w' : Wear
  pub sound : Sound l w' a' b' c.flash c.stage
  pub from : (x : CellList) → OneOf a' b' x → (y : CellList) × (OneOf a b y × Possible deeds y x)
  pub worn : (x : ℕ) → w'.worn x ≡ w.worn x + wear_of x deeds
  pub lost : w'.lost + copies_now c.stage + copies_done deeds ≡ w.lost + copies_now before + copies_begun deeds

pub reached : (l : FlashLayout) → 2 ≤ l.banks → (w : Wear) (a b : CellList) (deeds : List FlashDeed) (m c : FlashMachine)
    → Sound l w a b m.flash m.stage → FlashLives l deeds m c → Reached l w m.stage a b deeds c
reached l two w a b [] m c sound lives = record {
  a' = a;
  b' = b;
  w' = w;
  sound = subst (λ (z : FlashMachine). Sound l w a b z.flash z.stage) (sym lives) sound;
  from = λ x one. (x, (one, refl));
  worn = λ x. omega arith;
  lost = (let e = ap (λ (z : FlashMachine). copies_now z.stage) lives in omega (arith, e));
}
reached l two w a b (deed ∷ deeds) m c sound lives =
    let s = step l two w a b m lives.0 sound deed lives.1.0 in
    let r = reached l two (after_deed w m.stage deed) s.a' s.b' deeds lives.0 c s.sound lives.1.1 in
    record {
      a' = r.a';
      b' = r.b';
      w' = r.w';
      sound = r.sound;
      from = λ x one. (
          let t = r.from x one in
          let u = s.from t.0 t.1.0 in
          (u.0, (u.1.0, (t.0, (u.1.1, t.1.1)))));
      worn = λ x. (let e = r.worn x in omega (arith, e));
      lost = (let e = balance l m lives.0 deed lives.1.0 in omega (arith, r.lost, e));
    }

abbrev pub unworn : Wear
unworn = record { worn = λ x. 0; lost = 0 }

pub formatted_sound : (l : FlashLayout) (cells : CellList) (m : FlashMachine) → FlashFormatted l cells m → Sound l unworn cells cells m.flash m.stage
formatted_sound l cells m s =
    let held : Keeps (m.flash 0) 1 (copy_lines 0 cells) = keeps_all (m.flash 0) cells (λ i below. s.copied i (omega (arith, below, s.count))) in
    subst (λ (p : FlashStage). Sound l unworn cells cells m.flash p) (sym s.is_off) (record {
      bank = 0;
      generation = s.generation;
      at = at_of_older l unworn m.flash 0 s.generation cells cells s.two (let t = s.two in omega (arith, t))
          (kept_of_held l.cells (m.flash 0) s.generation cells (suc l.cells) cells cells (record {
            first = cells;
            puts = [];
            count = s.count;
            head = s.head;
            lines = subst (λ (ls : List FlashLine). Keeps (m.flash 0) 1 ls) (sym (append_none (copy_lines 0 cells))) held;
            now = refl;
            ends = omega (arith, s.count, length-copy 0 cells, ap (λ (ls : List FlashLine). length ls) (append_none (copy_lines 0 cells)));
          }) (content_of (m.flash 0 (suc l.cells)) blank_place s.ends) (inl refl))
          (λ x in_x ne. no_head_older (m.flash x) s.generation (content_of (m.flash x 0) blank_place (s.spare x in_x ne)))
          (record {
            rounds = 0;
            low = λ x in_x. omega arith;
            low_turn = λ x in_x positive turn. absurd (omega (arith, positive));
            high = λ x in_x late. omega arith;
            high_turn = λ x in_x. omega arith;
          });
    })

pub reached_of : (l : FlashLayout) (deeds : List FlashDeed) (cells : CellList) (a b : FlashMachine) → FlashFormatted l cells a → FlashLives l deeds a b
    → Reached l unworn a.stage cells cells deeds b
reached_of l deeds cells a b formatted lives = reached l formatted.two unworn cells cells deeds a b (formatted_sound l cells a formatted) lives

ready_cells : (l : FlashLayout) (w : Wear) (before : FlashStage) (cells now : CellList) (deeds : List FlashDeed) (b : FlashMachine) → Reached l w before cells cells deeds b → IsReadyFlash b now
    → Possible deeds cells now
ready_cells l w before cells now deeds b r is =
    let s : SoundReady l r.w' b.flash is.bank is.generation now is.next r.a' r.b' = subst (λ (p : FlashStage). Sound l r.w' r.a' r.b' b.flash p) is.is r.sound in
    let t = r.from now s.one in
    let e : t.0 ≡ cells = elim t.1.0 [ inl e ↦ e | inr e ↦ e ] in
    subst (λ (z : CellList). Possible deeds z now) e t.1.1

pub formatted_lives : (l : FlashLayout) (deeds : List FlashDeed) (cells now : CellList) (a b : FlashMachine) → FlashFormatted l cells a → FlashLives l deeds a b
    → IsReadyFlash b now → Possible deeds cells now
formatted_lives l deeds cells now a b formatted lives is = ready_cells l unworn a.stage cells now deeds b (reached_of l deeds cells a b formatted lives) is

pub later_lives : (l : FlashLayout) (earlier deeds : List FlashDeed) (first cells now : CellList) (start a b : FlashMachine) → FlashFormatted l first start
    → FlashLives l earlier start a → IsReadyFlash a cells → FlashLives l deeds a b → IsReadyFlash b now → Possible deeds cells now
later_lives l earlier deeds first cells now start a b formatted before is lives q =
    let s = reached_of l earlier first start a formatted before in
    let h : SoundReady l s.w' a.flash is.bank is.generation cells is.next s.a' s.b' = subst (λ (p : FlashStage). Sound l s.w' s.a' s.b' a.flash p) is.is s.sound in
    let alone : SoundReady l s.w' a.flash is.bank is.generation cells is.next cells cells = record {
      inside = h.inside;
      held = h.held;
      one = inl refl;
      free = h.free;
      older = h.older;
      spent = h.spent;
    } in
    ready_cells l s.w' a.stage cells now deeds b
    (reached l formatted.two s.w' cells cells deeds a b (subst (λ (p : FlashStage). Sound l s.w' cells cells a.flash p) (sym is.is) alone) lives) q

-- ---- a power-up finds the store

pub finds : (l : FlashLayout) → 2 ≤ l.banks → (w : Wear) (f : Flash) (a b : CellList) (read : ℕ → ℕ → Option FlashLine) (f' : Flash)
    → SoundOff l w f a b → LooksAll f read f' → ScanFinds l read
finds l two w f a b read f' o looks =
    let g : ℕ = o.generation in
    let next : ℕ = next_bank l.banks o.bank in
    let that = kept_found l.cells (f o.bank) (read o.bank) (f' o.bank) (looks o.bank) g a b o.at.kept in
    let far : (x now : ℕ) (left : CellList) (end : ℕ) → x < l.banks → x ≢ o.bank → x ≢ next → IsLog l.cells (read x) now left end → now < g = λ x now left end in_x ne ne_next log.
    older_scan l.cells (f x) (read x) (f' x) (looks x) g (o.at.older x in_x ne ne_next) now left end log in
    let stays : ((now : ℕ) (left : CellList) (end : ℕ) → IsLog l.cells (read next) now left end → now < g) → ScanFinds l read = λ beside. record {
      bank = o.bank;
      generation = g;
      cells = that.cells;
      next = that.next;
      counts = record {
        inside = o.at.inside;
        log = that.log;
        wins = λ x now left end in_x ne log. elim (cases_eq x next) [
          | inl here ↦ beside now left end (subst (λ z. IsLog l.cells (read z) now left end) here log)
          | inr there ↦ far x now left end in_x ne there log
        ];
      };
    } in
    elim o.at.beside [
      | inl older ↦ stays (older_scan l.cells (f next) (read next) (f' next) (looks next) g older)
      | inr c ↦ elim (ahead_found l.cells (f next) (read next) (f' next) (looks next) l w next g a b refl c) [
        | inl some ↦ record {
          bank = next;
          generation = suc g;
          cells = some.cells;
          next = some.next;
          counts = record {
            inside = next_inside l.banks o.bank two o.at.inside;
            log = some.log;
            wins = λ x now left end in_x ne log. elim (cases_eq x o.bank) [
              | inl here ↦ (
                  let r = kept_scan l.cells (f o.bank) (read o.bank) (f' o.bank) (looks o.bank) g a b o.at.kept now left end (subst (λ z. IsLog l.cells (read z) now left end) here log) in
                  omega (arith, r.same))
              | inr there ↦ (let below = far x now left end in_x there ne log in omega (arith, below))
            ];
          };
        }
        | inr none ↦ stays (λ now left end log. absurd (none now left end log))
      ]
    ]

pub power_up : (l : FlashLayout) (deeds : List FlashDeed) (cells : CellList) (a b : FlashMachine) (read : ℕ → ℕ → Option FlashLine) (after : Flash)
    → FlashFormatted l cells a → FlashLives l deeds a b → IsOff b → LooksAll b.flash read after → ScanFinds l read
power_up l deeds cells a b read after formatted lives is looks =
    let r = reached_of l deeds cells a b formatted lives in
    let s : SoundOff l r.w' b.flash r.a' r.b' = subst (λ (p : FlashStage). Sound l r.w' r.a' r.b' b.flash p) is r.sound in
    finds l formatted.two r.w' b.flash r.a' r.b' read after s looks

-- ---- a place is programmed once

pub place_blank : (l : FlashLayout) (deeds : List FlashDeed) (cells : CellList) (a b : FlashMachine) → FlashFormatted l cells a → FlashLives l deeds a b → PlaceIsBlank l b
place_blank l deeds cells a b formatted lives =
    let r = reached_of l deeds cells a b formatted lives in
    record {
      copy = λ bank g cells done is. (
          let s : SoundCopying l r.w' b.flash bank g cells done r.a' r.b' = subst (λ (p : FlashStage). Sound l r.w' r.a' r.b' b.flash p) is r.sound in
          s.free done (omega arith));
      head = λ bank g cells done is. (
          let s : SoundCopying l r.w' b.flash bank g cells done r.a' r.b' = subst (λ (p : FlashStage). Sound l r.w' r.a' r.b' b.flash p) is r.sound in
          s.head);
      put = λ bank g cells next is. (
          let s : SoundReady l r.w' b.flash bank g cells next r.a' r.b' = subst (λ (p : FlashStage). Sound l r.w' r.a' r.b' b.flash p) is r.sound in
          s.free next (omega arith));
    }

-- ---- wear

some_spent : (l : FlashLayout) (w : Wear) (a b : CellList) (f : Flash) (stage : FlashStage) (one other : ℕ) → Sound l w a b f stage → one < l.banks → other < l.banks
    → w.worn one ≤ w.worn other + 1 + w.lost
some_spent l w a b f off one other s in_one in_other = let h = spent_even l.banks w 0 s.bank one other s.at.spent in_one in_other in omega (arith, h)
some_spent l w a b f (found bank g cells next) one other s in_one in_other = let h = spent_even l.banks w 0 bank one other s.at.spent in_one in_other in omega (arith, h)
some_spent l w a b f (copying bank g cells done) one other s in_one in_other =
    let h = spent_even l.banks w 0 (next_bank l.banks bank) one other s.spent in_one in_other in omega (arith, h)
some_spent l w a b f (ready bank g cells next) one other s in_one in_other = let h = spent_even l.banks w 0 bank one other s.spent in_one in_other in omega (arith, h)

pub even_wear : (l : FlashLayout) (deeds : List FlashDeed) (cells : CellList) (a b : FlashMachine) (one other : ℕ) → FlashFormatted l cells a → FlashLives l deeds a b
    → one < l.banks → other < l.banks → wear_of one deeds + copies_done deeds ≤ wear_of other deeds + 1 + copies_begun deeds
even_wear l deeds cells a b one other formatted lives in_one in_other =
    let r = reached_of l deeds cells a b formatted lives in
    let h = some_spent l r.w' r.a' r.b' b.flash b.stage one other r.sound in_one in_other in
    let e = r.worn one in
    let d = r.worn other in
    let none = ap copies_now formatted.is_off in
    omega (arith, h, e, d, r.lost, none)
