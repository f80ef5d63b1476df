-- What a start makes of what it read.
use Rattle.std.proofs.Common.{◌≡◌, ◌⊎◌, inl, inr, ◌↔◌, ℕ, ◌-◌, ◌<◌, ◌≤◌, true, false, List, length, sym, subst, ◌∙◌, arith}
use Rattle.std.proofs.lemmas.Bool.{true≢false}
use Rattle.seal_logs.specs.declared.LogSizes.{LogSizes}
use Rattle.seal_logs.specs.declared.finding.FoundDeed.{FoundDeed}
use Rattle.seal_logs.specs.declared.starting.FoundStore.{FoundStore}
use Rattle.seal_logs.specs.Reads.{LogReads, EndsBefore, MakesOf}
use Rattle.seal_logs.specs.Starts.{IsMove, IsClean, IsWholeLog, IsStoreFound, IsLogJammed, home_bank, home_generation}

module _ (s : LogSizes) (r : LogReads) (f : FoundStore) (d : FoundDeed) (chain : List ℕ) (copy : List (List ℕ)) (is : f.latest ≡ d) (whole : IsWholeLog s r d chain copy)
    (next : EndsBefore s (r d.bank) d.generation f.next) (home_next : EndsBefore s (r (home_bank d d.deed.body)) (home_generation d d.deed.body) f.home_next)
    (clean : (f.is_clean ≡ true) ↔ IsClean r d f.next) where
  of : (P : FoundDeed → Type 0) → P d → P f.latest
  of P x = subst P (sym is) x

  pub is_jammed : ((f.is_clean ≡ false) × (s.places ≤ f.next)) ⊎ (IsMove f.latest.deed.body × (s.places ≤ f.home_next)) → IsLogJammed s r
  is_jammed full = record {
    deed = d;
    chain = chain;
    copy = copy;
    whole = whole;
    full = elim full [
      | inl x ↦ (
          let e : f.next ≡ s.places = (let a = x.1 in let b = next.below in omega (arith, a, b)) in
          inl (
            subst (λ n. EndsBefore s (r d.bank) d.generation n) e next,
            λ c. true≢false (sym (clean.1 (subst (λ n. IsClean r d n) (sym e) c)) ∙ x.0),
          ))
      | inr x ↦ inr (
        subst (λ (z : FoundDeed). IsMove z.deed.body) is x.0,
        subst (λ n. EndsBefore s (r (home_bank d d.deed.body)) (home_generation d d.deed.body) n)
            (let a = x.1 in let b = home_next.below in let e : f.home_next ≡ s.places = omega (arith, a, b) in e) home_next,
      )
    ];
  }

  module _ (cells : List (List ℕ)) (home : f.home ≡ home_bank d d.deed.body) (generation : f.generation ≡ home_generation d d.deed.body) (lacking : f.lacking ≡ 2 - length chain)
      (moved : IsMove d.deed.body → cells ≡ copy) (stayed : (IsMove d.deed.body → ⊥) → MakesOf (r d.bank) d.generation chain copy cells)
      (room : f.is_clean ≡ false → f.next < s.places) (home_room : IsMove f.latest.deed.body → f.home_next < s.places) where
    pub is_found : IsStoreFound s r f cells
    is_found = record {
      chain = chain;
      copy = copy;
      whole = of (λ z. IsWholeLog s r z chain copy) whole;
      home = of (λ (z : FoundDeed). f.home ≡ home_bank z z.deed.body) home;
      generation = of (λ (z : FoundDeed). f.generation ≡ home_generation z z.deed.body) generation;
      lacking = lacking;
      next = of (λ (z : FoundDeed). EndsBefore s (r z.bank) z.generation f.next) next;
      home_next = subst (λ (b : ℕ). EndsBefore s (r b) f.generation f.home_next) (sym home)
          (subst (λ (g : ℕ). EndsBefore s (r (home_bank d d.deed.body)) g f.home_next) (sym generation) home_next);
      clean = of (λ (z : FoundDeed). (f.is_clean ≡ true) ↔ IsClean r z f.next) clean;
      moved = of (λ (z : FoundDeed). IsMove z.deed.body → cells ≡ copy) moved;
      stayed = of (λ (z : FoundDeed). (IsMove z.deed.body → ⊥) → MakesOf (r z.bank) z.generation chain copy cells) stayed;
      room = room;
      home_room = home_room;
    }
