-- An answer, and what is made of it, in two steps.
use Rattle.std.proofs.Common.{◌≡◌, ◌≢◌, ℕ, ◌^◌, ◌<◌, inl, inr, Option, Some, None, List, take, refl, sym, ap, subst, ◌∙◌}
use Rattle.basics.specs.Numbers.{number_of}
use Rattle.she_cmac.specs.Cmac.{cmac}
use Rattle.counter_answers.specs.Answering.{answer_input, answer_of, TellsWith}
use Rattle.counter_answers.specs.declared.answering.CounterQuestion.{CounterQuestion}
use Rattle.counter_answers.proofs.CallerLemmas.{first_is, one_counter_told}
use Rattle.freshness_routes.specs.declared.routes.Direction.{Direction}
use Rattle.rathonsi_c.specs.declared.TheConstants.{BAD_VALUE}
use Rattle.rathonsi_c.specs.declared.secoc.RathonsiVerdict.{RathonsiVerdict}
use Rattle.rathonsi_c.specs.declared.route.RathonsiRoute.{RathonsiRoute}
use Rattle.rathonsi_c.specs.declared.sync.RathonsiQuestion.{RathonsiQuestion}
use Rattle.rathonsi_c.specs.declared.sync.RathonsiAnswerInput.{RathonsiAnswerInput}
use Rattle.rathonsi_c.specs.Causes.{IfCause}
use Rattle.rathonsi_c.specs.Images.{ImageKey, ImageBound}
use Rattle.rathonsi_c.specs.Routes.{InUse, RouteReady, is_booted, no_verdict}
use Rattle.rathonsi_c.specs.Steps.{BoundAnswers}
use Rattle.rathonsi_c.specs.Syncing.{way_of, asked_of, asked_by, input_with, input_of_answer, AnsweredBy, TellsCounter, TellsCounterWith, sync_verdict}
use Rattle.rathonsi_c.specs.Syncing.{JudgesSync, JudgesSyncBy, SyncTakeAnswers, TakeMacAnswers}
use Rattle.rathonsi_c.proofs.ImageLaws.{bound_once}
use Rattle.rathonsi_c.proofs.AnswerLaws.{damaged_keeps_none}
use Rattle.rathonsi_c.proofs.SyncLaws.{ready_rest, one_key}

pub answered_in_steps : (r : RathonsiRoute) (image key answer : List ℕ) (q : RathonsiQuestion) (input : RathonsiAnswerInput) → r.counter < 2 ^ 64 → ImageKey image r.slot (is_booted r) key → input ≡ input_with (asked_of r q) r.counter
    → answer ≡ answer_of input.counter (cmac key input.bytes) → AnsweredBy r image q answer
answered_in_steps r image key answer q input fits keyed is made = record {
  key = key;
  keyed = keyed;
  told = record { fits = fits; answer_is = made ∙ ap (λ (i : RathonsiAnswerInput). answer_of i.counter (cmac key i.bytes)) is };
}

-- a route whose bound is at hand answers as the rest says
pub bound_rest : (r : RathonsiRoute) (direction : Direction) (image : List ℕ) (bound : ℕ) (rest : RathonsiVerdict → Type 0) (v : RathonsiVerdict) → InUse r direction → ImageBound image r.cell r.data_id direction bound
    → BoundAnswers no_verdict r direction image rest v → rest v
bound_rest r direction image bound rest v used kept answers = elim answers [
  | inl (out, e) ↦ absurd (out used)
  | inr (in_use, own) ↦ elim own [
    | inl (others, e) ↦ absurd (others.no_bound bound kept)
    | inr (ours, sound) ↦ elim sound [
      | inl (damaged, e) ↦ absurd (damaged_keeps_none image r.cell r.data_id direction bound damaged kept)
      | inr (whole, says) ↦ says
    ]
  ]
]

-- what an answer tells by the MAC of its input, it tells under the key
pub told_under_key : (key mac answer : List ℕ) (q : CounterQuestion) (told : Option ℕ) → mac ≡ cmac key (answer_input q (number_of (take 8 answer))) → TellsCounterWith mac answer told → TellsCounter key q answer told
told_under_key key mac answer q (Some counter) e tells =
    let made : mac ≡ cmac key (answer_input q counter) = e ∙ ap (λ (n : ℕ). cmac key (answer_input q n)) (first_is mac counter answer tells) in
    subst (λ (m : List ℕ). TellsWith m counter answer) made tells
told_under_key key mac answer q None e tells = λ counter t.
    let made : mac ≡ cmac key (answer_input q counter) = e ∙ ap (λ (n : ℕ). cmac key (answer_input q n)) (first_is (cmac key (answer_input q counter)) counter answer t) in
    tells counter (subst (λ (m : List ℕ). TellsWith m counter answer) (sym made) t)

-- an answer tells one counter, or none
pub one_told : (key answer : List ℕ) (q : CounterQuestion) (told other : Option ℕ) → TellsCounter key q answer told → TellsCounter key q answer other → told ≡ other
one_told key answer q (Some counter) (Some last) x y = ap Some (one_counter_told (cmac key (answer_input q counter)) (cmac key (answer_input q last)) counter last answer x y)
one_told key answer q (Some counter) None x y = absurd (y counter x)
one_told key answer q None (Some last) x y = absurd (x last y)
one_told key answer q None None x y = refl

-- both verdicts of a route that is ready
judged_alike : (r : RathonsiRoute) (image key answer : List ℕ) (q : RathonsiQuestion) (bound : ℕ) (input : RathonsiAnswerInput) (one two : RathonsiVerdict) → RouteReady r (way_of r) image key bound → input ≡ input_of_answer r q answer
    → JudgesSync r image q answer one → JudgesSyncBy r image answer (cmac key input.bytes) two → one ≡ two
judged_alike r image key answer q bound input one two ready its j k =
    let same_key : j.key ≡ key = one_key image r.slot r j.key key j.ready.keyed ready.keyed in
    let same_bound : j.bound ≡ k.bound = bound_once image r.cell r.data_id (way_of r) j.bound k.bound j.ready.kept k.kept in
    let mac_is : cmac key input.bytes ≡ cmac key (answer_input (asked_by r q) (number_of (take 8 answer))) = ap (λ (i : RathonsiAnswerInput). cmac key i.bytes) its in
    let same_told : j.told ≡ k.told = one_told key answer (asked_by r q) j.told k.told
    (subst (λ (x : List ℕ). TellsCounter x (asked_by r q) answer j.told) same_key j.tells)
    (told_under_key key (cmac key input.bytes) answer (asked_by r q) k.told mac_is k.tells) in
    j.is ∙ (ap (λ b. sync_verdict r.counter b j.told) same_bound ∙ (ap (λ (t : Option ℕ). sync_verdict r.counter k.bound t) same_told ∙ sym k.is))

pub taken_in_steps : (r : RathonsiRoute) (image key answer : List ℕ) (q : RathonsiQuestion) (bound : ℕ) (input : RathonsiAnswerInput) (one two : RathonsiVerdict) → RouteReady r (way_of r) image key bound → input ≡ input_of_answer r q answer
    → SyncTakeAnswers r image q answer one → TakeMacAnswers r image q answer input (cmac key input.bytes) two → one ≡ two
taken_in_steps r image key answer q bound input one two ready its first second = elim first [
  | inl (own, e) ↦ elim second [
    | inl (_, f) ↦ e ∙ sym f
    | inr (asks, _) ↦ absurd (asks own)
  ]
  | inr (asks, known) ↦ elim second [
    | inl (own, _) ↦ absurd (asks own)
    | inr (_, told) ↦
        elim (bound_rest r (way_of r) image bound (IfCause (input ≢ input_of_answer r q answer) (no_verdict BAD_VALUE) (JudgesSyncBy r image answer (cmac key input.bytes))) two
        (record { ranges = ready.ranges; opened = ready.opened }) ready.kept told) [
          | inl (other, _) ↦ absurd (other its)
          | inr (_, says) ↦ judged_alike r image key answer q bound input one two ready its (ready_rest r (way_of r) image key bound (JudgesSync r image q answer) one ready known) says
        ]
  ]
]
