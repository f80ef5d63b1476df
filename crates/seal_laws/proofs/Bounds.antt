-- How many cuts a jam needs on a part of blanks, and how many banks puts erase.
use Rattle.std.proofs.Common.{◌≡◌, ℕ, suc, ◌+◌, ◌-◌, ◌*◌, ◌<◌, ◌≤◌, ◌^◌, List, [], ◌∷◌, set, sym, subst, arith}
use Rattle.std.proofs.Math.Nat.{suc-mul}
use Rattle.seal_parts.specs.declared.PartClass.TheVariants.{Blanks}
use Rattle.seal_parts.specs.Parts.{PartFlash}
use Rattle.seal_logs.specs.declared.starting.FoundStore.{FoundStore}
use Rattle.seal_logs.specs.declared.starting.StartEnd.{StartEnd}
use Rattle.seal_logs.specs.declared.starting.StartEnd.TheVariants.{Found}
use Rattle.seal_laws.specs.declared.SealSizes.{SealSizes}
use Rattle.seal_laws.specs.declared.SealPoint.{SealPoint}
use Rattle.seal_laws.specs.Writes.{FitsMove}
use Rattle.seal_laws.specs.Lives.{seal_ready, SealMachine, SealEvent, starts, puts_cell, makes_anew, cuts_start, cuts_puts, cuts_anew, rests, PutsSeal, goes_next, goes_on, SealLives, FindsSeal, FormattedSeal}
use Rattle.seal_laws.specs.Wear.{HasReserve, cut_places_in, cut_places_since, puts_done_in, puts_to_erase, erases_of_put, erases_of_puts}
use Rattle.seal_laws.proofs.Writing.{ready_within}
use Rattle.seal_laws.proofs.Erasing.{put_erases, move_erases}
use Rattle.seal_laws.proofs.Jamming.{finds_place}
use Rattle.seal_laws.proofs.Living.{off_rests, ready_stands, PutLimit, LimitsAfter, AfterAll, Only, stands_then}

-- ---- the limit and the reserve

put_low : (s : SealSizes) → HasReserve s → (cell : ℕ) (payload : List ℕ) (a b : SealMachine) (x : PutsSeal Blanks s cell payload a b) (old new : ℕ) → PutLimit s cell payload a b x old new → new + s.reserve ≤ s.log.places + 0
put_low s room cell payload a b (goes_next p cells fits below w) old new is = (let v = is.1 in omega (arith, v))
put_low s room cell payload a b (goes_on p cells full fits below w) old new is = (let v = is.0 in omega (arith, v, room))

-- it is above the places but for the reserve by what cuts took since the last put that was done, at most
limit_low : (s : SealSizes) → HasReserve s → (events : List SealEvent) (a b : SealMachine) (run : SealLives Blanks s events a b) (old new taken : ℕ) → old + s.reserve ≤ s.log.places + taken → LimitsAfter s events a b run old new
    → new + s.reserve ≤ s.log.places + cut_places_since taken events
limit_low s room [] a b run old new taken low is = omega (arith, low, is)
limit_low s room (starts ∷ events) a b run old new taken low is = (let v = is.1.0 in limit_low s room events run.0 b run.1.1 is.0 new (taken + 0) (omega (arith, low, v)) is.1.1.1)
limit_low s room (puts_cell cell payload ∷ events) a b run old new taken low is =
    limit_low s room events run.0 b run.1.1 is.0 new 0 (put_low s room cell payload a run.0 run.1.0 old is.0 is.1.0) is.1.1.1
limit_low s room (makes_anew made ∷ events) a b run old new taken low is = (let v = is.1.0 in limit_low s room events run.0 b run.1.1 is.0 new 0 (omega (arith, room, v)) is.1.1.1)
limit_low s room (cuts_start ∷ events) a b run old new taken low is = (let v = is.1.0 in limit_low s room events run.0 b run.1.1 is.0 new (taken + 1) (omega (arith, low, v)) is.1.1.1)
limit_low s room (cuts_puts cell payload ∷ events) a b run old new taken low is = (let v = is.1.0 in limit_low s room events run.0 b run.1.1 is.0 new (taken + 2) (omega (arith, low, v)) is.1.1.1)
limit_low s room (cuts_anew made ∷ events) a b run old new taken low is = (let v = is.1.0 in limit_low s room events run.0 b run.1.1 is.0 new (taken + 2) (omega (arith, low, v)) is.1.1.1)
limit_low s room (rests ∷ events) a b run old new taken low is = (let v = is.1.0 in limit_low s room events run.0 b run.1.1 is.0 new (taken + 0) (omega (arith, low, v)) is.1.1.1)

-- ---- erases

-- sums: the last terms alone differ
low_more : (m c p q k old new : ℕ) → new ≤ old + k → m + c ≤ p + q + new → m + c ≤ p + (k + q) + old
low_more m c p q k old new v low = omega (arith, v, low)

less_both : (m c most : ℕ) → m + c ≤ most + c → m ≤ most
less_both m c most low = omega (arith, low)

put_more : (a p q old : ℕ) → a ≤ suc (p + q) + old → a ≤ suc p + (0 + q) + old
put_more a p q old low = omega (arith, low)

none_more : (r c old : ℕ) → c ≤ old → 0 * r + c ≤ 0 + 0 + old
none_more r c old least = omega (arith, least)

one_more : (m c most old new : ℕ) → new ≤ suc old → m + c ≤ most + new → m + c ≤ suc most + old
one_more m c most old new v low = omega (arith, v, low)

no_erase : (e later r c most old new : ℕ) → e ≡ 0 → new ≤ suc old → later * r + c ≤ most + new → (e + later) * r + c ≤ suc most + old
no_erase e later r c most old new is v low = subst (λ (n : ℕ). n * r + c ≤ suc most + old) (let x : later ≡ e + later = omega (arith, is) in x) (one_more (later * r) c most old new v low)

bank_more : (m cells reserve places most old new : ℕ) → new ≡ cells + 2 → places ≤ old + reserve → cells + 2 ≤ old → m + (cells + 2) ≤ most + new → m + (places - (cells + reserve + 1)) + (cells + 2) ≤ suc most + old
bank_more m cells reserve places most old new v u least low = omega (arith, v, u, least, low)

-- an erase, after as many places as there are puts to one
one_erase : (e later cells reserve places most old new : ℕ) → e ≡ 1 → new ≡ cells + 2 → places ≤ old + reserve → cells + 2 ≤ old → later * (places - (cells + reserve + 1)) + (cells + 2) ≤ most + new
    → (e + later) * (places - (cells + reserve + 1)) + (cells + 2) ≤ suc most + old
one_erase e later cells reserve places most old new is v u least low =
    subst (λ (n : ℕ). n * (places - (cells + reserve + 1)) + (cells + 2) ≤ suc most + old) (let x : suc later ≡ e + later = omega (arith, is) in x)
    (subst (λ (n : ℕ). n + (cells + 2) ≤ suc most + old) (sym (suc-mul later (places - (cells + reserve + 1)))) (bank_more (later * (places - (cells + reserve + 1))) cells reserve places most old new v u least low))

put_wears : (s : SealSizes) (cell : ℕ) (payload : List ℕ) (a b : SealMachine) (x : PutsSeal Blanks s cell payload a b) (old new later most : ℕ) → s.log.cells + 2 ≤ old → PutLimit s cell payload a b x old new
    → later * puts_to_erase s + (s.log.cells + 2) ≤ most + new → (erases_of_put Blanks s cell payload a b x + later) * puts_to_erase s + (s.log.cells + 2) ≤ suc most + old
put_wears s cell payload a b (goes_next p cells fits below w) old new later most least is low =
    no_erase (erases_of_put Blanks s cell payload a b (goes_next p cells fits below w)) later (puts_to_erase s) (s.log.cells + 2) most old new (put_erases Blanks p cell payload) is.0 low
put_wears s cell payload a b (goes_on p cells full fits below w) old new later most least is low =
    one_erase (erases_of_put Blanks s cell payload a b (goes_on p cells full fits below w)) later s.log.cells s.reserve s.log.places most old new (move_erases Blanks s p (set cells cell payload)) is.0 is.1 least low

-- an event that is no put
erases_keep : (s : SealSizes) (events : List SealEvent) (b c : SealMachine) (run : SealLives Blanks s events b c) (old between new k : ℕ) → between ≤ old + k
    → erases_of_puts Blanks s events b c run * puts_to_erase s + (s.log.cells + 2) ≤ puts_done_in events + cut_places_in events + between
    → erases_of_puts Blanks s events b c run * puts_to_erase s + (s.log.cells + 2) ≤ puts_done_in events + (k + cut_places_in events) + old
erases_keep s events b c run old between new k v low = low_more (erases_of_puts Blanks s events b c run * puts_to_erase s) (s.log.cells + 2) (puts_done_in events) (cut_places_in events) k old between v low

erases_low : (s : SealSizes) (events : List SealEvent) (a b : SealMachine) (run : SealLives Blanks s events a b) (old new : ℕ) → s.log.cells + 2 ≤ old → LimitsAfter s events a b run old new
    → erases_of_puts Blanks s events a b run * puts_to_erase s + (s.log.cells + 2) ≤ puts_done_in events + cut_places_in events + old
erases_low s [] a b run old new least is = none_more (puts_to_erase s) (s.log.cells + 2) old least
erases_low s (starts ∷ events) a b run old new least is = erases_keep s events run.0 b run.1.1 old is.0 new 0 is.1.0 (erases_low s events run.0 b run.1.1 is.0 new is.1.1.0 is.1.1.1)
erases_low s (puts_cell cell payload ∷ events) a b run old new least is =
    put_more ((erases_of_put Blanks s cell payload a run.0 run.1.0 + erases_of_puts Blanks s events run.0 b run.1.1) * puts_to_erase s + (s.log.cells + 2)) (puts_done_in events) (cut_places_in events) old
    (put_wears s cell payload a run.0 run.1.0 old is.0 (erases_of_puts Blanks s events run.0 b run.1.1) (puts_done_in events + cut_places_in events) least is.1.0 (erases_low s events run.0 b run.1.1 is.0 new is.1.1.0 is.1.1.1))
erases_low s (makes_anew made ∷ events) a b run old new least is = erases_keep s events run.0 b run.1.1 old is.0 new 0 (let v = is.1.0 in omega (arith, v, least)) (erases_low s events run.0 b run.1.1 is.0 new is.1.1.0 is.1.1.1)
erases_low s (cuts_start ∷ events) a b run old new least is = erases_keep s events run.0 b run.1.1 old is.0 new 1 is.1.0 (erases_low s events run.0 b run.1.1 is.0 new is.1.1.0 is.1.1.1)
erases_low s (cuts_puts cell payload ∷ events) a b run old new least is = erases_keep s events run.0 b run.1.1 old is.0 new 2 is.1.0 (erases_low s events run.0 b run.1.1 is.0 new is.1.1.0 is.1.1.1)
erases_low s (cuts_anew made ∷ events) a b run old new least is = erases_keep s events run.0 b run.1.1 old is.0 new 2 is.1.0 (erases_low s events run.0 b run.1.1 is.0 new is.1.1.0 is.1.1.1)
erases_low s (rests ∷ events) a b run old new least is = erases_keep s events run.0 b run.1.1 old is.0 new 0 is.1.0 (erases_low s events run.0 b run.1.1 is.0 new is.1.1.0 is.1.1.1)

-- ---- the laws

module _ (s : SealSizes) (events : List SealEvent) (cells : List (List ℕ)) (a b : SealMachine) (x : FormattedSeal Blanks s cells a) (run : SealLives Blanks s events a b) where
  pub puts_erase : erases_of_puts Blanks s events a b run * puts_to_erase s ≤ puts_done_in events + cut_places_in events
  puts_erase =
      let after = stands_then s events cells a b x run in
      less_both (erases_of_puts Blanks s events a b run * puts_to_erase s) (s.log.cells + 2) (puts_done_in events + cut_places_in events) (erases_low s events a b run (s.log.cells + 2) after.limit (omega arith) after.is)

  limit_then : HasReserve s → (stands_then s events cells a b x run).limit + s.reserve ≤ s.log.places + cut_places_since 0 events
  limit_then room =
      let after = stands_then s events cells a b x run in
      limit_low s room events a b run (s.log.cells + 2) after.limit 0 (omega (arith, room)) after.is

  pub start_has_place : HasReserve s → (end : StartEnd) (made : List (List ℕ)) (after : PartFlash) → FindsSeal Blanks s b end made after → cut_places_since 0 events ≤ s.reserve → (found : FoundStore) × (end ≡ Found found)
  start_has_place room end made after finds few =
      let now_on = stands_then s events cells a b x run in
      let most = limit_then room in
      let low : now_on.limit ≤ s.log.places = omega (arith, most, few) in
      finds_place (AfterAll events (Only cells)) s b.flash after finds.view finds.reads now_on.limit low (off_rests (AfterAll events (Only cells)) s now_on.limit b now_on.stands) end made finds.finds

  pub put_has_place : HasReserve s → (p : SealPoint) (now : List (List ℕ)) → b.stage ≡ seal_ready p now → cut_places_since 0 events < s.reserve → suc p.generation < 2 ^ 64 → FitsMove s p
  put_has_place room p now is few generation =
      let now_on = stands_then s events cells a b x run in
      let most = limit_then room in
      let within = (ready_within (AfterAll events (Only cells)) s.log now_on.limit b.flash p now (ready_stands (AfterAll events (Only cells)) s now_on.limit b p now is now_on.stands)).0 in
      record { place = omega (arith, most, few, within); generation = generation }
