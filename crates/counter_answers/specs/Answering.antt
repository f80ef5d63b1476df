-- How a unit tells another one the counter of its route (own). The other asks: it names itself, the unit that it asks,
-- the route, and a nonce. The answer is the counter, with a CMAC of all this under the key of the route's PDUs.
use Rattle.std.specs.Prelude.{◌≡◌, ℕ, ◌^◌, ◌<◌, List, [], ◌∷◌, ◌++◌, length, codes}
use Rattle.basics.specs.Numbers.{bytes_of}
use Rattle.she_cmac.specs.Cmac.{cmac}
use Rattle.counter_answers.specs.declared.answering.CounterQuestion.{CounterQuestion}

-- 88 bytes: a label of 53, the Data ID in two, the direction in one, the asker and the answerer in four each, the nonce
-- in 16 and the counter in eight, the numbers big-endian
unfoldable pub answer_input : CounterQuestion → ℕ → List ℕ
answer_input q counter =
    codes "RATHONSI COUNTER OF A ROUTE, IN ANSWER TO A QUESTION:" ++ bytes_of 2 q.id ++ (q.direction ∷ [])
    ++ bytes_of 4 q.asker ++ bytes_of 4 q.answerer ++ q.nonce ++ bytes_of 8 counter

-- the numbers and the nonce of a question fit their bytes
pub record IsQuestion (q : CounterQuestion) : Type 0 where
  pub id_fits : q.id < 2 ^ 16
  pub asker_fits : q.asker < 2 ^ 32
  pub answerer_fits : q.answerer < 2 ^ 32
  pub is_nonce : length q.nonce ≡ 16

-- an answer: the counter in eight bytes, and a MAC whole
unfoldable pub answer_of : ℕ → List ℕ → List ℕ
answer_of counter mac = bytes_of 8 counter ++ mac

-- the answer tells this counter, with this MAC
pub record TellsWith (mac : List ℕ) (counter : ℕ) (answer : List ℕ) : Type 0 where
  pub fits : counter < 2 ^ 64
  pub answer_is : answer ≡ answer_of counter mac

-- it is the answer to this question under this key, and tells this counter
abbrev pub AnswersWith : List ℕ → CounterQuestion → ℕ → List ℕ → Type 0
AnswersWith key q counter answer = TellsWith (cmac key (answer_input q counter)) counter answer

-- two messages have one CMAC under this key
pub record SharesMac (key first second : List ℕ) : Type 0 where
  pub other : ¬ (first ≡ second)
  pub same : cmac key first ≡ cmac key second
