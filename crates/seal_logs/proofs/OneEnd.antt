-- A start makes one thing of what was read.
use Rattle.std.proofs.Common.{◌≡◌, inl, inr, ◌↔◌, ℕ, zero, suc, ◌-◌, ◌<◌, Bool, true, false, Option, Some, None, List, [], ◌∷◌, length, get_or, refl, sym, ap, subst, ◌∙◌, arith}
use Rattle.std.proofs.lemmas.Bool.{cases_lt}
use Rattle.std.proofs.lemmas.Option.{same_Some}
use Rattle.seal_parts.specs.declared.SealLine.{SealLine}
use Rattle.seal_parts.specs.declared.LineBody.TheVariants.{Copies}
use Rattle.seal_parts.specs.declared.LogDeed.{LogDeed}
use Rattle.seal_parts.specs.declared.DeedBody.{DeedBody}
use Rattle.seal_parts.specs.declared.DeedBody.TheVariants.{Opens, Puts, Moves, IsNew}
use Rattle.seal_logs.specs.declared.PlaceRead.{PlaceRead}
use Rattle.seal_logs.specs.declared.LogSizes.{LogSizes}
use Rattle.seal_logs.specs.declared.finding.FoundDeed.{FoundDeed}
use Rattle.seal_logs.specs.declared.starting.FoundStore.{FoundStore}
use Rattle.seal_logs.specs.declared.starting.StartEnd.{StartEnd}
use Rattle.seal_logs.specs.declared.starting.StartEnd.TheVariants.{NoStore, Damaged, Exhausted, Found}
use Rattle.seal_logs.specs.Reads.{LogReads, IsDeedPlace, ReadsDeed, HasNoDeedIn, HasTwoLatestIn, EndsBefore, LacksLine, IsCopyRead, IsChain, MakesOf, after_body}
use Rattle.seal_logs.specs.Starts.{IsMove, IsLatestDeed, HasChain, IsClean, HasHome, LacksHomeLine, home_bank, home_generation, IsWholeLog, IsStoreFound, IsLogJammed, IsLogNew, has_no_deed, is_begun, IsLogDamaged, has_two_latest, lacks_line, lacks_deed, lacks_copy, lacks_home_line, StartFinds}
use Rattle.seal_logs.proofs.ChainLaws.{one_deed}

-- ---- the latest deed

same_found : (b c p q g h : ℕ) (d e : LogDeed) → b ≡ c → p ≡ q → g ≡ h → d ≡ e
    → let x : FoundDeed = record { bank = b; place = p; generation = g; deed = d } in let y : FoundDeed = record { bank = c; place = q; generation = h; deed = e } in x ≡ y
same_found b c p q g h d e x y z w = cc

module _ (s : LogSizes) (r : LogReads) where
  pub latest_one : (d e : FoundDeed) → IsLatestDeed s r d → IsLatestDeed s r e → d ≡ e
  latest_one d e x y =
      let a = x.latest e.bank e.place e.generation e.deed y.inside y.is in
      let b = y.latest d.bank d.place d.generation d.deed x.inside x.is in
      let g : d.generation ≡ e.generation = elim a [ inl l ↦ elim b [ inl m ↦ omega arith | inr m ↦ m.0 ] | inr l ↦ sym l.0 ] in
      let bank : d.bank ≡ e.bank = elim a [ inl l ↦ absurd (omega (arith, l, g)) | inr l ↦ sym l.1.0 ] in
      let place : d.place ≡ e.place = elim a [
        | inl l ↦ absurd (omega (arith, l, g))
        | inr l ↦ elim b [
          | inl m ↦ absurd (omega (arith, m, g))
          | inr m ↦ (let u = l.1.1 in let v = m.1.1 in omega (arith, u, v))
        ]
      ] in
      let there : ReadsDeed (r e.bank e.place) e.generation d.deed =
      subst (λ (z : ℕ). ReadsDeed (r z e.place) e.generation d.deed) bank
      (subst (λ (z : ℕ). ReadsDeed (r d.bank z) e.generation d.deed) place
      (subst (λ (z : ℕ). ReadsDeed (r d.bank d.place) z d.deed) g x.is)) in
      same_found d.bank e.bank d.place e.place d.generation e.generation d.deed e.deed bank place g (one_deed (r e.bank e.place) e.generation d.deed e.deed there y.is)

  no_latest : (d : FoundDeed) → HasNoDeedIn (IsDeedPlace s) r → IsLatestDeed s r d → ⊥
  no_latest d none x = none d.bank d.place d.generation d.deed x.inside x.is

  not_two : (d : FoundDeed) (generation : ℕ) → HasTwoLatestIn (IsDeedPlace s) r generation → IsLatestDeed s r d → ⊥
  not_two d generation two x =
      let a = x.latest two.bank two.one.place generation two.one.deed two.one.inside two.one.is in
      let b = x.latest two.other two.another.place generation two.another.deed two.another.inside two.another.is in
      let m = two.most d.bank d.place d.generation d.deed x.inside x.is in
      elim a [
        | inl l ↦ omega (arith, l, m)
        | inr l ↦ elim b [
          | inl n ↦ omega (arith, n, m)
          | inr n ↦ two.differ (l.1.0 ∙ sym n.1.0)
        ]
      ]

  two_not_none : (generation : ℕ) → HasTwoLatestIn (IsDeedPlace s) r generation → HasNoDeedIn (IsDeedPlace s) r → ⊥
  two_not_none generation two none = none two.bank two.one.place generation two.one.deed two.one.inside two.one.is

-- ---- the chain, the copy, and what the deeds make of it

pub chain_one : (s : LogSizes) (places : ℕ → PlaceRead) (g limit : ℕ) (last : Option ℕ) (xs ys : List ℕ) → IsChain s places g limit last xs → IsChain s places g limit last ys → xs ≡ ys
chain_one s places g limit None [] [] a b = refl
chain_one s places g limit None [] (y ∷ ys) a b = absurd b
chain_one s places g limit None (x ∷ xs) ys a b = absurd a
chain_one s places g limit (Some at) [] ys a b = absurd a
chain_one s places g limit (Some at) (x ∷ xs) [] a b = absurd b
chain_one s places g limit (Some at) (x ∷ xs) (y ∷ ys) a b =
    let d = a.1.1.1.0 in
    let e = b.1.1.1.0 in
    let same : d ≡ e = one_deed (places at) g d e a.1.1.1.1.0 b.1.1.1.1.0 in
    let rest : xs ≡ ys = chain_one s places g at d.prev xs ys a.1.1.1.1.1 (subst (λ (z : LogDeed). IsChain s places g at z.prev ys) (sym same) b.1.1.1.1.1) in
    ap (λ (z : ℕ). z ∷ xs) (a.0 ∙ sym b.0) ∙ ap (λ (zs : List ℕ). y ∷ zs) rest

copies_body : (i : ℕ) (x y : List ℕ) → Copies i x ≡ Copies i y → x ≡ y
copies_body i x y e = cc

copies_same : (i : ℕ) (x y : List ℕ) (g : ℕ) → Some (let z : SealLine = record { generation = g; body = Copies i x } in z) ≡ Some (let z : SealLine = record { generation = g; body = Copies i y } in z) → x ≡ y
copies_same i x y g e = copies_body i x y (ap (λ (z : SealLine). z.body) (same_Some _ _ e))

pub list_one : (xs ys : List (List ℕ)) → length xs ≡ length ys → ((i : ℕ) → i < length xs → get_or xs i [] ≡ get_or ys i []) → xs ≡ ys
list_one [] [] e h = refl
list_one [] (y ∷ ys) e h = absurd (omega (arith, e))
list_one (x ∷ xs) [] e h = absurd (omega (arith, e))
list_one (x ∷ xs) (y ∷ ys) e h = ap (λ (z : List ℕ). z ∷ xs) (h 0 (omega arith)) ∙ ap (λ (zs : List (List ℕ)). y ∷ zs) (list_one xs ys (omega (arith, e)) (λ i below. h (suc i) (omega (arith, below))))

pub copy_one : (places : ℕ → PlaceRead) (g : ℕ) (one other : List (List ℕ)) → length one ≡ length other → IsCopyRead places g one → IsCopyRead places g other → one ≡ other
copy_one places g one other e a b = list_one one other e (λ i below. copies_same i (get_or one i []) (get_or other i []) g (sym (a i below) ∙ b i (omega (arith, below, e))))

pub makes_one : (places : ℕ → PlaceRead) (g : ℕ) (ks : List ℕ) (cells one other : List (List ℕ)) → MakesOf places g ks cells one → MakesOf places g ks cells other → one ≡ other
makes_one places g [] cells one other a b = a ∙ sym b
makes_one places g (k ∷ ks) cells one other a b =
    let same : a.0 ≡ b.0 = one_deed (places k) g a.0 b.0 a.1.0 b.1.0 in
    let rest : a.1.1.0 ≡ b.1.1.0 = makes_one places g ks cells a.1.1.0 b.1.1.0 a.1.1.1.0 b.1.1.1.0 in
    a.1.1.1.1 ∙ (ap (λ (d : LogDeed). after_body d.body a.1.1.0) same ∙ (ap (λ (z : List (List ℕ)). after_body b.0.body z) rest ∙ sym b.1.1.1.1))

-- ---- where a bank ends

not_before : (s : LogSizes) (places : ℕ → PlaceRead) (g n m : ℕ) → EndsBefore s places g n → EndsBefore s places g m → n < m → ⊥
not_before s places g n zero a b less = omega (arith, less)
not_before s places g n (suc k) a b less =
    let from = a.from in
    let below = b.below in
    a.none k (omega (arith, less)) (omega (arith, below)) (b.last k (omega (arith, less, from)) refl)

pub end_one : (s : LogSizes) (places : ℕ → PlaceRead) (g n m : ℕ) → EndsBefore s places g n → EndsBefore s places g m → n ≡ m
end_one s places g n m a b = elim (cases_lt n m) [
  | inl less ↦ absurd (not_before s places g n m a b less)
  | inr more ↦ elim (cases_lt m n) [
    | inl less ↦ absurd (not_before s places g m n b a less)
    | inr same ↦ omega arith
  ]
]

-- ---- one end

-- a test that says of two flags the same
same_flag : (P : Type 0) (a b : Bool) → ((a ≡ true) ↔ P) → ((b ≡ true) ↔ P) → a ≡ b
same_flag P true true x y = refl
same_flag P true false x y = sym (y.1 (x.0 refl))
same_flag P false true x y = x.1 (y.0 refl)
same_flag P false false x y = refl

same_parts : (l m : FoundDeed) (k j n i : ℕ) (c d : Bool) (h o g f p q : ℕ) → l ≡ m → k ≡ j → n ≡ i → c ≡ d → h ≡ o → g ≡ f → p ≡ q
    → let x : FoundStore = record { latest = l; lacking = k; next = n; is_clean = c; home = h; generation = g; home_next = p } in
    let y : FoundStore = record { latest = m; lacking = j; next = i; is_clean = d; home = o; generation = f; home_next = q } in x ≡ y
same_parts l m k j n i c d h o g f p q x y z w u v t = cc

same_store : (a b : FoundStore) → a.latest ≡ b.latest → a.lacking ≡ b.lacking → a.next ≡ b.next → a.is_clean ≡ b.is_clean → a.home ≡ b.home → a.generation ≡ b.generation → a.home_next ≡ b.home_next → a ≡ b
same_store a b x y z w u v t = same_parts a.latest b.latest a.lacking b.lacking a.next b.next a.is_clean b.is_clean a.home b.home a.generation b.generation a.home_next b.home_next x y z w u v t

module _ (s : LogSizes) (r : LogReads) where
  module _ (d e : FoundDeed) (xs ys : List ℕ) (one other : List (List ℕ)) (a : IsWholeLog s r d xs one) (b : IsWholeLog s r e ys other) where
    whole_deed : d ≡ e
    whole_deed = latest_one s r d e a.latest b.latest

    whole_chain : xs ≡ ys
    whole_chain = chain_one s (r e.bank) e.generation s.places (Some e.place) xs ys (subst (λ (z : FoundDeed). HasChain s r z xs) whole_deed a.followed) b.followed

    whole_copy : one ≡ other
    whole_copy =
        let h : HasHome s r e one = subst (λ (z : FoundDeed). HasHome s r z one) whole_deed a.home in
        copy_one (r (home_bank e e.deed.body)) (home_generation e e.deed.body) one other (h.count ∙ sym b.home.count) h.copied b.home.copied

  module _ (f g : FoundStore) (cells now : List (List ℕ)) (a : IsStoreFound s r f cells) (b : IsStoreFound s r g now) where
    latest : f.latest ≡ g.latest
    latest = whole_deed f.latest g.latest a.chain b.chain a.copy b.copy a.whole b.whole

    to : (P : FoundDeed → Type 0) → P f.latest → P g.latest
    to P x = subst P latest x

    home : f.home ≡ g.home
    home = a.home ∙ (ap (λ (z : FoundDeed). home_bank z z.deed.body) latest ∙ sym b.home)

    generation : f.generation ≡ g.generation
    generation = a.generation ∙ (ap (λ (z : FoundDeed). home_generation z z.deed.body) latest ∙ sym b.generation)

    next : f.next ≡ g.next
    next = end_one s (r g.latest.bank) g.latest.generation f.next g.next (to (λ (z : FoundDeed). EndsBefore s (r z.bank) z.generation f.next) a.next) b.next

    home_next : f.home_next ≡ g.home_next
    home_next = end_one s (r g.home) g.generation f.home_next g.home_next
        (subst (λ (z : ℕ). EndsBefore s (r z) g.generation f.home_next) home (subst (λ (z : ℕ). EndsBefore s (r f.home) z f.home_next) generation a.home_next)) b.home_next

    clean : f.is_clean ≡ g.is_clean
    clean = same_flag (IsClean r g.latest g.next) f.is_clean g.is_clean
        (subst (λ (n : ℕ). (f.is_clean ≡ true) ↔ IsClean r g.latest n) next (to (λ (z : FoundDeed). (f.is_clean ≡ true) ↔ IsClean r z f.next) a.clean)) b.clean

    lacking : f.lacking ≡ g.lacking
    lacking = a.lacking ∙ (ap (λ (ks : List ℕ). 2 - length ks) (whole_chain f.latest g.latest a.chain b.chain a.copy b.copy a.whole b.whole) ∙ sym b.lacking)

    pub store_one : f ≡ g
    store_one = same_store f g latest lacking next clean home generation home_next

    copies : a.copy ≡ b.copy
    copies = whole_copy f.latest g.latest a.chain b.chain a.copy b.copy a.whole b.whole

    of_body : (body : DeedBody) → (IsMove body → cells ≡ a.copy) → (IsMove body → now ≡ b.copy)
        → ((IsMove body → ⊥) → MakesOf (r g.latest.bank) g.latest.generation b.chain b.copy cells) → ((IsMove body → ⊥) → MakesOf (r g.latest.bank) g.latest.generation b.chain b.copy now) → cells ≡ now
    of_body (Moves bank to_generation) x y z w = x tt ∙ (copies ∙ sym (y tt))
    of_body Opens x y z w = makes_one (r g.latest.bank) g.latest.generation b.chain b.copy cells now (z (λ h. h)) (w (λ h. h))
    of_body IsNew x y z w = makes_one (r g.latest.bank) g.latest.generation b.chain b.copy cells now (z (λ h. h)) (w (λ h. h))
    of_body (Puts cell payload) x y z w = makes_one (r g.latest.bank) g.latest.generation b.chain b.copy cells now (z (λ h. h)) (w (λ h. h))

    pub cells_one : cells ≡ now
    cells_one =
        let chains = whole_chain f.latest g.latest a.chain b.chain a.copy b.copy a.whole b.whole in
        of_body g.latest.deed.body (to (λ (z : FoundDeed). IsMove z.deed.body → cells ≡ a.copy) a.moved) b.moved
        (subst (λ (c : List (List ℕ)). (IsMove g.latest.deed.body → ⊥) → MakesOf (r g.latest.bank) g.latest.generation b.chain c cells) copies
        (subst (λ (ks : List ℕ). (IsMove g.latest.deed.body → ⊥) → MakesOf (r g.latest.bank) g.latest.generation ks a.copy cells) chains
        (to (λ (z : FoundDeed). (IsMove z.deed.body → ⊥) → MakesOf (r z.bank) z.generation a.chain a.copy cells) a.stayed))) b.stayed

  -- a log that is whole isn't another
  whole_not_damaged : (d : FoundDeed) (xs : List ℕ) (copy : List (List ℕ)) → IsWholeLog s r d xs copy → IsLogDamaged s r → ⊥
  whole_not_damaged d xs copy w (has_two_latest generation two) = not_two s r d generation two w.latest
  whole_not_damaged d xs copy w (lacks_line e l lost) = w.lines (subst (λ (z : FoundDeed). LacksLine s (r z.bank) z.generation) (latest_one s r e d l w.latest) lost)
  whole_not_damaged d xs copy w (lacks_deed e l none) = none xs (subst (λ (z : FoundDeed). HasChain s r z xs) (latest_one s r d e w.latest l) w.followed)
  whole_not_damaged d xs copy w (lacks_copy e l old none) = none copy (subst (λ (z : FoundDeed). HasHome s r z copy) (latest_one s r d e w.latest l) w.home)
  whole_not_damaged d xs copy w (lacks_home_line e l lost) = w.home_lines (subst (λ (z : FoundDeed). LacksHomeLine s r z) (latest_one s r e d l w.latest) lost)

  whole_not_new : (d : FoundDeed) (xs : List ℕ) (copy : List (List ℕ)) → IsWholeLog s r d xs copy → IsLogNew s r → ⊥
  whole_not_new d xs copy w (has_no_deed none) = no_latest s r d none w.latest
  whole_not_new d xs copy w (is_begun e ys l lines chain new) = w.old (ap (λ (z : FoundDeed). z.deed.body) (latest_one s r d e w.latest l) ∙ new)

  home_of_new : (d : FoundDeed) (body : DeedBody) → body ≡ IsNew → LacksLine s (r (home_bank d body)) (home_generation d body) → LacksLine s (r d.bank) d.generation
  home_of_new d IsNew e lost = lost
  home_of_new d Opens e lost = lost
  home_of_new d (Puts cell payload) e lost = lost
  home_of_new d (Moves bank generation) e lost = absurd (cc)

  new_not_damaged : IsLogNew s r → IsLogDamaged s r → ⊥
  new_not_damaged (has_no_deed none) (has_two_latest generation two) = two_not_none s r generation two none
  new_not_damaged (has_no_deed none) (lacks_line e l lost) = no_latest s r e none l
  new_not_damaged (has_no_deed none) (lacks_deed e l x) = no_latest s r e none l
  new_not_damaged (has_no_deed none) (lacks_copy e l old x) = no_latest s r e none l
  new_not_damaged (has_no_deed none) (lacks_home_line e l lost) = no_latest s r e none l
  new_not_damaged (is_begun d xs l lines chain new) (has_two_latest generation two) = not_two s r d generation two l
  new_not_damaged (is_begun d xs l lines chain new) (lacks_line e m lost) = lines (subst (λ (z : FoundDeed). LacksLine s (r z.bank) z.generation) (latest_one s r e d m l) lost)
  new_not_damaged (is_begun d xs l lines chain new) (lacks_deed e m none) = none xs (subst (λ (z : FoundDeed). HasChain s r z xs) (latest_one s r d e l m) chain)
  new_not_damaged (is_begun d xs l lines chain new) (lacks_copy e m old none) = old (ap (λ (z : FoundDeed). z.deed.body) (latest_one s r e d m l) ∙ new)
  new_not_damaged (is_begun d xs l lines chain new) (lacks_home_line e m lost) = lines (home_of_new d d.deed.body new (subst (λ (z : FoundDeed). LacksHomeLine s r z) (latest_one s r e d m l) lost))

  -- a store that is found isn't jammed
  found_not_jammed : (f : FoundStore) (cells : List (List ℕ)) → IsStoreFound s r f cells → IsLogJammed s r → ⊥
  found_not_jammed f cells a j =
      let same : j.deed ≡ f.latest = latest_one s r j.deed f.latest j.whole.latest a.whole.latest in
      elim j.full [
        | inl x ↦ (
            let e : f.next ≡ s.places = end_one s (r f.latest.bank) f.latest.generation f.next s.places a.next (subst (λ (z : FoundDeed). EndsBefore s (r z.bank) z.generation s.places) same x.0) in
            let n : IsClean r f.latest s.places → ⊥ = subst (λ (z : FoundDeed). IsClean r z s.places → ⊥) same x.1 in
            not_full f.is_clean refl (λ c. n (subst (λ m. IsClean r f.latest m) e (a.clean.0 c))) (λ c. (let l = a.room c in omega (arith, l, e))))
        | inr x ↦ (
            let move : IsMove f.latest.deed.body = subst (λ (z : FoundDeed). IsMove z.deed.body) same x.0 in
            let e : EndsBefore s (r f.home) f.generation s.places =
            subst (λ b. EndsBefore s (r b) f.generation s.places) (sym a.home)
            (subst (λ g. EndsBefore s (r (home_bank f.latest f.latest.deed.body)) g s.places) (sym a.generation)
            (subst (λ (z : FoundDeed). EndsBefore s (r (home_bank z z.deed.body)) (home_generation z z.deed.body) s.places) same x.1)) in
            let m : f.home_next ≡ s.places = end_one s (r f.home) f.generation f.home_next s.places a.home_next e in
            let l = a.home_room move in
            omega (arith, l, m))
      ]
    where
      not_full : (b : Bool) → f.is_clean ≡ b → (f.is_clean ≡ true → ⊥) → (f.is_clean ≡ false → ⊥) → ⊥
      not_full true e x y = x e
      not_full false e x y = y e

  pub end_is_one : (one other : StartEnd) (cells now : List (List ℕ)) → StartFinds s r one cells → StartFinds s r other now → one ≡ other
  end_is_one NoStore NoStore cells now a b = refl
  end_is_one NoStore Damaged cells now a b = absurd (new_not_damaged a b)
  end_is_one NoStore Exhausted cells now a b = absurd (whole_not_new b.deed b.chain b.copy b.whole a)
  end_is_one NoStore (Found g) cells now a b = absurd (whole_not_new g.latest b.chain b.copy b.whole a)
  end_is_one Damaged NoStore cells now a b = absurd (new_not_damaged b a)
  end_is_one Damaged Damaged cells now a b = refl
  end_is_one Damaged Exhausted cells now a b = absurd (whole_not_damaged b.deed b.chain b.copy b.whole a)
  end_is_one Damaged (Found g) cells now a b = absurd (whole_not_damaged g.latest b.chain b.copy b.whole a)
  end_is_one Exhausted NoStore cells now a b = absurd (whole_not_new a.deed a.chain a.copy a.whole b)
  end_is_one Exhausted Damaged cells now a b = absurd (whole_not_damaged a.deed a.chain a.copy a.whole b)
  end_is_one Exhausted Exhausted cells now a b = refl
  end_is_one Exhausted (Found g) cells now a b = absurd (found_not_jammed g now b a)
  end_is_one (Found f) NoStore cells now a b = absurd (whole_not_new f.latest a.chain a.copy a.whole b)
  end_is_one (Found f) Damaged cells now a b = absurd (whole_not_damaged f.latest a.chain a.copy a.whole b)
  end_is_one (Found f) Exhausted cells now a b = absurd (found_not_jammed f cells a b)
  end_is_one (Found f) (Found g) cells now a b = ap Found (store_one f g cells now a b)
