-- How many places of a bank cuts take, how many units starts program, and how many banks puts erase.
use Rattle.std.specs.Prelude.{◌+◌, ◌-◌, ◌≤◌, ℕ, suc, List, [], ◌∷◌, length, set}
use Rattle.seal_parts.specs.declared.PartClass.{PartClass}
use Rattle.seal_laws.specs.declared.SealSizes.{SealSizes}
use Rattle.seal_laws.specs.Writes.{put_writes, move_writes, start_writes, erases_begun_by}
use Rattle.seal_laws.specs.Lives.{SealMachine, SealEvent, starts, puts_cell, makes_anew, cuts_start, cuts_puts}
use Rattle.seal_laws.specs.Lives.{cuts_anew, PutsSeal, goes_next, goes_on, SealLives}

-- a bank has places for the copy, two deeds and the reserve
abbrev pub HasReserve : SealSizes → Type 0
HasReserve s = s.log.cells + 2 + s.reserve ≤ s.log.places

-- The places that an event takes, at most, if the power cuts it: that of the deed that was cut, and that of the deed
-- that the next start programs again. If a start is cut, that second one was counted before.
abbrev pub cut_places : SealEvent → ℕ
cut_places cuts_start = 1
cut_places (cuts_puts cell payload) = 2
cut_places (cuts_anew made) = 2
cut_places event = 0

abbrev pub cut_places_in : List SealEvent → ℕ
cut_places_in [] = 0
cut_places_in (event ∷ events) = cut_places event + cut_places_in events

-- so many before these events, and those that they take since a put was done last, or all cells were made anew
abbrev pub cut_places_since : ℕ → List SealEvent → ℕ
cut_places_since taken [] = taken
cut_places_since taken (puts_cell cell payload ∷ events) = cut_places_since 0 events
cut_places_since taken (makes_anew made ∷ events) = cut_places_since 0 events
cut_places_since taken (event ∷ events) = cut_places_since (taken + cut_places event) events

-- how many puts were done
abbrev pub puts_done_in : List SealEvent → ℕ
puts_done_in [] = 0
puts_done_in (puts_cell cell payload ∷ events) = suc (puts_done_in events)
puts_done_in (event ∷ events) = puts_done_in events

-- how many puts there are to an erase, at least, if the power cuts none
abbrev pub puts_to_erase : SealSizes → ℕ
puts_to_erase s = s.log.places - (s.log.cells + s.reserve + 1)

-- how many units the starts of these lives program, but for those that are cut
abbrev pub programs_of_starts : (class : PartClass) (s : SealSizes) (events : List SealEvent) (a c : SealMachine)
    → SealLives class s events a c → ℕ
programs_of_starts class s [] a c run = 0
programs_of_starts class s (starts ∷ events) a c run =
    length (start_writes class s run.1.0.found) + programs_of_starts class s events run.0 c run.1.1
programs_of_starts class s (event ∷ events) a c run = programs_of_starts class s events run.0 c run.1.1

-- how many banks a put erases, and how many all puts of these lives do
abbrev pub erases_of_put : (class : PartClass) (s : SealSizes) (cell : ℕ) (payload : List ℕ) (a b : SealMachine)
    → PutsSeal class s cell payload a b → ℕ
erases_of_put class s cell payload a b (goes_next p cells fits below w) =
    erases_begun_by (put_writes class p cell payload)
erases_of_put class s cell payload a b (goes_on p cells full fits below w) =
    erases_begun_by (move_writes class s p (set cells cell payload))

abbrev pub erases_of_puts : (class : PartClass) (s : SealSizes) (events : List SealEvent) (a c : SealMachine)
    → SealLives class s events a c → ℕ
erases_of_puts class s [] a c run = 0
erases_of_puts class s (puts_cell cell payload ∷ events) a c run =
    erases_of_put class s cell payload a run.0 run.1.0 + erases_of_puts class s events run.0 c run.1.1
erases_of_puts class s (event ∷ events) a c run = erases_of_puts class s events run.0 c run.1.1
