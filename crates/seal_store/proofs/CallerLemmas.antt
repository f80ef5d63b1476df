-- For callers: what a part has after each event.
use Rattle.std.proofs.Common.{◌≡◌, ℕ, Bool, true, if◌then◌else◌, List, [], ◌∷◌, ◌++◌, length, refl, sym, ap, subst, ◌∙◌}
use Rattle.seal_parts.specs.declared.PartClass.{PartClass}
use Rattle.seal_parts.specs.declared.PartClass.TheVariants.{Blanks}
use Rattle.seal_parts.specs.Parts.{PartFlash}
use Rattle.seal_parts.specs.State.{PartState, PartRuns}
use Rattle.seal_logs.specs.declared.starting.StartEnd.{StartEnd}
use Rattle.seal_laws.specs.declared.SealSizes.{SealSizes}
use Rattle.seal_laws.specs.Lives.{seal_off, seal_ready, SealMachine, SealEvent, rests, DoesSealEvent, SealLives, FormattedSeal, FindsSeal, CutsStartSeal, cuts_reads}
use Rattle.seal_store.specs.declared.SealStore.{SealStore}
use Rattle.seal_store.specs.Store.{off_at, seal_stage_of, machine_at}
use Rattle.seal_store.specs.Lived.{HasLived, HasSealStore, StandsOn}

-- one event more
lives_then : (class : PartClass) (s : SealSizes) (events : List SealEvent) (event : SealEvent) (a b c : SealMachine)
    → SealLives class s events a b → DoesSealEvent class s event b c → SealLives class s (events ++ event ∷ []) a c
lives_then class s [] event a b c run does =
    (c, (subst (λ (z : SealMachine). DoesSealEvent class s event z c) run does, refl))
lives_then class s (e ∷ es) event a b c run does =
    (run.0, (run.1.0, lives_then class s es event run.0 b c run.1.1 does))

pub lived_after : (s : SealSizes) (event : SealEvent) (a b : SealMachine) → HasLived s a
    → DoesSealEvent Blanks s event a b → HasLived s b
lived_after s event a b x does = record {
  cells = x.cells;
  first = x.first;
  events = x.events ++ event ∷ [];
  formatted = x.formatted;
  lives = lives_then Blanks s x.events event x.first a b x.lives does;
}

pub lived_first : (s : SealSizes) (cells : List (List ℕ)) (a : SealMachine) → FormattedSeal Blanks s cells a
    → HasLived s a
lived_first s cells a x = record { cells = cells; first = a; events = []; formatted = x; lives = refl }

-- a part has its store after an event that ends with the power off
pub store_after : (s : SealSizes) (event : SealEvent) (p q : PartState) (a : SealMachine) → p.class ≡ Blanks
    → s.log.banks ≡ p.banks → s.log.places ≡ p.places → PartRuns p q → HasLived s a
    → DoesSealEvent Blanks s event a (off_at q.flash) → HasSealStore q s
store_after s event p q a class banks places runs lived does = record {
  class = runs.class ∙ class;
  banks = banks ∙ sym runs.banks;
  places = places ∙ sym runs.places;
  lived = lived_after s event a (off_at q.flash) lived does;
}

-- a store stands on its part after an event that ends with it started
pub stands_after : (event : SealEvent) (p q : PartState) (s : SealSizes) (store : SealStore) (cells : List (List ℕ))
    (a : SealMachine) → p.class ≡ Blanks → s.log.banks ≡ p.banks → s.log.places ≡ p.places → PartRuns p q
    → store.sizes ≡ s → length cells ≡ s.log.cells → HasLived s a
    → DoesSealEvent Blanks s event a (machine_at q.flash store cells) → StandsOn q store cells
stands_after event p q s store cells a class banks places runs sizes alike lived does = record {
  class = runs.class ∙ class;
  banks = ap (λ (z : SealSizes). z.log.banks) sizes ∙ (banks ∙ sym runs.banks);
  places = ap (λ (z : SealSizes). z.log.places) sizes ∙ (places ∙ sym runs.places);
  alike = alike ∙ sym (ap (λ (z : SealSizes). z.log.cells) sizes);
  lived = subst (λ (z : SealSizes). HasLived z (machine_at q.flash store cells)) (sym sizes)
      (lived_after s event a (machine_at q.flash store cells) lived does);
}

-- a store that is ready stands at its point
pub ready_stage : (store : SealStore) (cells : List (List ℕ)) → store.is_ready ≡ true
    → seal_stage_of store cells ≡ seal_ready store.point cells
ready_stage store cells ready = ap (λ (b : Bool). if b then seal_ready store.point cells else seal_off) ready

-- the power goes while a store stands
pub store_rests : (part : PartState) (s : SealSizes) (store : SealStore) (cells : List (List ℕ)) → store.sizes ≡ s
    → StandsOn part store cells → HasSealStore part s
store_rests part s store cells sizes x = subst (λ (z : SealSizes). HasSealStore part z) sizes (record {
  class = x.class;
  banks = x.banks;
  places = x.places;
  lived = lived_after store.sizes rests (machine_at part.flash store cells) (off_at part.flash) x.lived (refl, refl);
})

-- a start that ends without a store has read the part, and no more
pub found_off : (s : SealSizes) (f g : PartFlash) (end : StartEnd) (cells : List (List ℕ)) → FindsSeal Blanks s (off_at f) end cells g → CutsStartSeal Blanks s (off_at f) (off_at g)
found_off s f g end cells x = cuts_reads x.view refl x.reads refl

-- nothing was done
pub stands_same : (p q : PartState) (a b : SealStore) (old new : List (List ℕ)) → q ≡ p → b ≡ a → new ≡ old → StandsOn p a old → StandsOn q b new
stands_same p q a b old new part store cells x = subst (λ (z : PartState). StandsOn z b new) (sym part) (subst (λ (z : SealStore). StandsOn p z new) (sym store) (subst (λ (z : List (List ℕ)). StandsOn p a z) (sym cells) x))
