-- Two units in all their lives: a sender of one route, and the receiver of it at the other end. Each does what it likes,
-- as `Lives` has it. The sender's route answers questions, and the receiver's route rejoins by an answer.
use Rattle.std.specs.Prelude.{◌≡◌, ℕ, Bool, true, false, ◌==◌, if◌then◌else◌, List, [], ◌∷◌, ◌++◌}
use Rattle.std.specs.List.{Contains}
use Rattle.rathonsi_c.specs.declared.sync.RathonsiQuestion.{RathonsiQuestion}
use Rattle.rathonsi_c.specs.Lives.{Memory, Deed, sends, accepts, takes, rejoins, opens, sets, reserves, loads, drops}
use Rattle.rathonsi_c.specs.Lives.{finishes, powers_up, DoesDeed, given_out, rejoins_it}

-- both memories
pub record Pair : Type 0 where
  pub sender : Memory
  pub receiver : Memory

-- a deed of the one or of the other; an answer of the sender's route to this question, which tells this counter
pub data PairDeed : Type 0 where
  of_sender : (deed : Deed) → PairDeed
  of_receiver : (deed : Deed) → PairDeed
  answers : (question : RathonsiQuestion) → (told : ℕ) → PairDeed

-- the sender's route s tells its counter
pub record TellsIts (s told : ℕ) (a b : Pair) : Type 0 where
  pub told_is : told ≡ (a.sender.routes s).counter
  pub same : b ≡ a

-- one deed, if the sender has m routes and the receiver n
abbrev pub DoesPair : (m n s : ℕ) → PairDeed → Pair → Pair → Type 0
DoesPair m n s (of_sender deed) a b = DoesDeed m deed a.sender b.sender × (b.receiver ≡ a.receiver)
DoesPair m n s (of_receiver deed) a b = DoesDeed n deed a.receiver b.receiver × (b.sender ≡ a.sender)
DoesPair m n s (answers question told) a b = TellsIts s told a b

abbrev pub PairLives : (m n s : ℕ) → List PairDeed → Pair → Pair → Type 0
PairLives m n s [] a c = c ≡ a
PairLives m n s (deed ∷ deeds) a c = (b : Pair) × (DoesPair m n s deed a b × PairLives m n s deeds b c)

-- what the receiver's route r accepted, in order
abbrev pub accepted_of_route : ℕ → List PairDeed → List ℕ
accepted_of_route r [] = []
accepted_of_route r (of_sender deed ∷ deeds) = accepted_of_route r deeds
accepted_of_route r (of_receiver deed ∷ deeds) = given_out r (deed ∷ []) ++ accepted_of_route r deeds
accepted_of_route r (answers question told ∷ deeds) = accepted_of_route r deeds

-- the deed opens the route, or all
abbrev pub opens_it : ℕ → Deed → Bool
opens_it r (sends k freshness) = false
opens_it r (accepts k freshness) = false
opens_it r (takes k counter) = false
opens_it r (rejoins k counter) = false
opens_it r (opens k) = k == r
opens_it r (sets k) = false
opens_it r (reserves k) = false
opens_it r (loads slot) = false
opens_it r drops = false
opens_it r finishes = false
opens_it r powers_up = true

-- the receiver's route r isn't opened, nor does its power come back
abbrev pub StaysOpen : ℕ → List PairDeed → Type 0
StaysOpen r [] = Unit {0}
StaysOpen r (of_sender deed ∷ deeds) = StaysOpen r deeds
StaysOpen r (of_receiver deed ∷ deeds) = (opens_it r deed ≡ false) × StaysOpen r deeds
StaysOpen r (answers question told ∷ deeds) = StaysOpen r deeds

-- ---- what the law asks for

-- what was seen so far: the freshness that the sender's route sent, and the answers that it made since the receiver's
-- route was opened
pub record Seen : Type 0 where
  pub sent : List ℕ
  pub answered : List (RathonsiQuestion × ℕ)

abbrev pub nothing_seen : Seen
nothing_seen = record { sent = []; answered = [] }

abbrev pub seen_next : (s r : ℕ) → PairDeed → Seen → Seen
seen_next s r (of_sender deed) seen =
    record { sent = given_out s (deed ∷ []) ++ seen.sent; answered = seen.answered }
seen_next s r (of_receiver deed) seen =
    record { sent = seen.sent; answered = if opens_it r deed then [] else seen.answered }
seen_next s r (answers question told) seen =
    record { sent = seen.sent; answered = (question, told) ∷ seen.answered }

-- what the receiver accepts by a deed is what the sender sent, so nobody else sends under the key; and it rejoins by an
-- answer that the sender made since the route was opened, so none to that question was made before
pub record IsHonest (r : ℕ) (deed : Deed) (seen : Seen) : Type 0 where
  pub sent : (freshness : ℕ) → Contains (given_out r (deed ∷ [])) freshness → Contains seen.sent freshness
  pub answered : (told : ℕ) → deed ≡ rejoins r told
      → (question : RathonsiQuestion) × Contains seen.answered (question, told)

-- the sender's route doesn't rejoin, as no route does that sends
abbrev pub IsGenuine : (s r : ℕ) → PairDeed → Seen → Type 0
IsGenuine s r (of_sender deed) seen = rejoins_it s deed ≡ false
IsGenuine s r (of_receiver deed) seen = IsHonest r deed seen
IsGenuine s r (answers question told) seen = Unit {0}

abbrev pub AllGenuine : (s r : ℕ) → Seen → List PairDeed → Type 0
AllGenuine s r seen [] = Unit {0}
AllGenuine s r seen (deed ∷ deeds) = IsGenuine s r deed seen × AllGenuine s r (seen_next s r deed seen) deeds
