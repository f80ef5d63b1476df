-- Who moves a counter by a rejoin, and a rejoin in two steps.
use Rattle.std.proofs.Common.{ℤ, ◌≡◌, ◌≢◌, ℕ, ◌<◌, ◌⊎◌, inl, inr, Option, Some, None, List, take, refl, sym, ap, subst, ◌∙◌, arith}
use Rattle.std.specs.Prelude.{nat_eq}
use Rattle.std.proofs.lemmas.Bool.{cases_Bool, cond-true, cond-false, eqb-true}
use Rattle.std.proofs.lemmas.Option.{same_Some}
use Rattle.basics.specs.Numbers.{number_of}
use Rattle.she_cmac.specs.Cmac.{cmac}
use Rattle.counter_answers.specs.Answering.{answer_input, IsQuestion, AnswersWith, SharesMac}
use Rattle.counter_answers.specs.declared.answering.CounterQuestion.{CounterQuestion}
use Rattle.counter_answers.proofs.CallerLemmas.{one_question}
use Rattle.freshness_routes.specs.declared.routes.Direction.TheVariants.{Receives}
use Rattle.rathonsi_c.specs.declared.TheConstants.{OK, BAD_VALUE, FRESHNESS_FAILURE, VERIFICATION_FAILURE, RESERVE}
use Rattle.rathonsi_c.specs.declared.opened.TheConstants.{FRESH}
use Rattle.rathonsi_c.specs.declared.secoc.RathonsiVerdict.{RathonsiVerdict}
use Rattle.rathonsi_c.specs.declared.route.RathonsiRoute.{RathonsiRoute}
use Rattle.rathonsi_c.specs.declared.sync.RathonsiQuestion.{RathonsiQuestion}
use Rattle.rathonsi_c.specs.declared.sync.RathonsiAnswerInput.{RathonsiAnswerInput}
use Rattle.rathonsi_c.specs.Causes.{IfCause}
use Rattle.rathonsi_c.specs.Routes.{RouteReady, no_verdict}
use Rattle.rathonsi_c.specs.Syncing.{AsksAnother, AnsweredBy, TellsCounter, asked_of, asked_by, input_of_answer}
use Rattle.rathonsi_c.specs.Rejoining.{JudgesRejoin, JudgesRejoinBy, RejoinAnswers, RejoinMacAnswers, RejoinedBy, rejoin_verdict}
use Rattle.rathonsi_c.proofs.ImageLaws.{bound_once}
use Rattle.rathonsi_c.proofs.AnswerLaws.{other_status}
use Rattle.rathonsi_c.proofs.SyncLaws.{judged_done, judged_reserved, told_freshness, told_above, ready_rest, one_key}
use Rattle.rathonsi_c.proofs.SyncSteps.{bound_rest, told_under_key, one_told}

-- ---- who moves a counter

-- what a verdict tells that isn't a failure: a counter above the route's, or the route is fresh
record Retold (r : RathonsiRoute) (bound : ℕ) (told : Option ℕ) : Type 0 where
  number : ℕ
  is : told ≡ Some number
  may : (r.counter < number) ⊎ (r.opened ≡ FRESH)
  freshness_is : (rejoin_verdict r bound told).freshness ≡ number

retold : (r : RathonsiRoute) (bound : ℕ) (told : Option ℕ) (s : ℤ) → (VERIFICATION_FAILURE ≡ s → ⊥) → (FRESHNESS_FAILURE ≡ s → ⊥) → (rejoin_verdict r bound told).status ≡ s → Retold r bound told
retold r bound None s unverified stale e = absurd (unverified e)
retold r bound (Some number) s unverified stale e = elim (cases_Bool (nat_eq r.opened FRESH)) [
  | inl fresh ↦ record {
    number = number;
    is = refl;
    may = inr (eqb-true r.opened FRESH fresh);
    freshness_is = ap (λ (u : RathonsiVerdict). u.freshness) (cond-true _ _ _ fresh) ∙ told_freshness bound number;
  }
  | inr moved ↦
      let t = told_above r.counter bound (Some number) s unverified stale (sym (ap (λ (u : RathonsiVerdict). u.status) (cond-false _ _ _ moved)) ∙ e) in
      let same : number ≡ t.number = same_Some _ _ t.is in
      record {
        number = number;
        is = refl;
        may = inl (let a = t.above in omega arith);
        freshness_is = ap (λ (u : RathonsiVerdict). u.freshness) (cond-false _ _ _ moved) ∙ (t.freshness_is ∙ sym same);
      }
]

told_so : (r : RathonsiRoute) (image answer : List ℕ) (q : RathonsiQuestion) (v : RathonsiVerdict) → AsksAnother q → (j : JudgesRejoin r image q answer v) → Retold r j.bound j.told → RejoinedBy r image q answer v.freshness
told_so r image answer q v asks j t =
    let same : v.freshness ≡ t.number = ap (λ (u : RathonsiVerdict). u.freshness) j.is ∙ t.freshness_is in
    record {
      asks = asks;
      key = j.key;
      keyed = j.ready.keyed;
      told_so = subst (λ n. AnswersWith j.key (asked_by r q) n answer) (sym same) (subst (λ (o : Option ℕ). TellsCounter j.key (asked_by r q) answer o) t.is j.tells);
      may = subst (λ n. (r.counter < n) ⊎ (r.opened ≡ FRESH)) (sym same) t.may;
    }

pub rejoined_by_key : (r : RathonsiRoute) (image answer : List ℕ) (q : RathonsiQuestion) (v : RathonsiVerdict) → RejoinAnswers r image q answer v → v.status ≡ OK → RejoinedBy r image q answer v.freshness
rejoined_by_key r image answer q v answers is =
    let (asks, j) = judged_done r Receives image q (JudgesRejoin r image q answer) v answers is in
    told_so r image answer q v asks j (retold r j.bound j.told OK (other_status VERIFICATION_FAILURE OK (λ x. omega arith)) (other_status FRESHNESS_FAILURE OK (λ x. omega arith)) (sym (ap (λ (u : RathonsiVerdict). u.status) j.is) ∙ is))

pub retold_by_key : (r : RathonsiRoute) (image answer : List ℕ) (q : RathonsiQuestion) (v : RathonsiVerdict) → RejoinAnswers r image q answer v → v.status ≡ RESERVE → RejoinedBy r image q answer v.freshness
retold_by_key r image answer q v answers is =
    let (asks, j) = judged_reserved r Receives image q (JudgesRejoin r image q answer) v answers is in
    told_so r image answer q v asks j (retold r j.bound j.told RESERVE (other_status VERIFICATION_FAILURE RESERVE (λ x. omega arith)) (other_status FRESHNESS_FAILURE RESERVE (λ x. omega arith)) (sym (ap (λ (u : RathonsiVerdict). u.status) j.is) ∙ is))

-- ---- whose answer it is

pub rejoined_asked : (s r : RathonsiRoute) (sent image answer : List ℕ) (q p : RathonsiQuestion) (told : ℕ) (a : AnsweredBy s sent q answer) (t : RejoinedBy r image p answer told) → IsQuestion (asked_of s q) → IsQuestion (asked_by r p)
    → a.key ≡ t.key → asked_of s q ≢ asked_by r p → SharesMac a.key (answer_input (asked_of s q) s.counter) (answer_input (asked_by r p) told)
rejoined_asked s r sent image answer q p told a t hq hp same apart =
    one_question a.key (asked_of s q) (asked_by r p) s.counter told answer hq hp a.told (subst (λ (k : List ℕ). AnswersWith k (asked_by r p) told answer) (sym same) t.told_so) apart

pub rejoined_not_own : (s r : RathonsiRoute) (sent image answer : List ℕ) (q p : RathonsiQuestion) (told : ℕ) (a : AnsweredBy s sent q answer) (t : RejoinedBy r image p answer told) → IsQuestion (asked_of s q) → IsQuestion (asked_by r p)
    → a.key ≡ t.key → q.answerer ≡ p.asker → SharesMac a.key (answer_input (asked_of s q) s.counter) (answer_input (asked_by r p) told)
rejoined_not_own s r sent image answer q p told a t hq hp same own =
    rejoined_asked s r sent image answer q p told a t hq hp same (λ e. t.asks (sym own ∙ ap (λ (c : CounterQuestion). c.answerer) e))

-- ---- two steps

judged_alike : (r : RathonsiRoute) (image key answer : List ℕ) (q : RathonsiQuestion) (bound : ℕ) (input : RathonsiAnswerInput) (one two : RathonsiVerdict) → RouteReady r Receives image key bound → input ≡ input_of_answer r q answer
    → JudgesRejoin r image q answer one → JudgesRejoinBy r image answer (cmac key input.bytes) two → one ≡ two
judged_alike r image key answer q bound input one two ready its j k =
    let same_key : j.key ≡ key = one_key image r.slot r j.key key j.ready.keyed ready.keyed in
    let same_bound : j.bound ≡ k.bound = bound_once image r.cell r.data_id Receives j.bound k.bound j.ready.kept k.kept in
    let mac_is : cmac key input.bytes ≡ cmac key (answer_input (asked_by r q) (number_of (take 8 answer))) = ap (λ (i : RathonsiAnswerInput). cmac key i.bytes) its in
    let same_told : j.told ≡ k.told = one_told key answer (asked_by r q) j.told k.told
    (subst (λ (x : List ℕ). TellsCounter x (asked_by r q) answer j.told) same_key j.tells)
    (told_under_key key (cmac key input.bytes) answer (asked_by r q) k.told mac_is k.tells) in
    j.is ∙ (ap (λ b. rejoin_verdict r b j.told) same_bound ∙ (ap (λ (t : Option ℕ). rejoin_verdict r k.bound t) same_told ∙ sym k.is))

pub rejoined_in_steps : (r : RathonsiRoute) (image key answer : List ℕ) (q : RathonsiQuestion) (bound : ℕ) (input : RathonsiAnswerInput) (one two : RathonsiVerdict) → RouteReady r Receives image key bound → input ≡ input_of_answer r q answer
    → RejoinAnswers r image q answer one → RejoinMacAnswers r image q answer input (cmac key input.bytes) two → one ≡ two
rejoined_in_steps r image key answer q bound input one two ready its first second = elim first [
  | inl (own, e) ↦ elim second [
    | inl (_, f) ↦ e ∙ sym f
    | inr (asks, _) ↦ absurd (asks own)
  ]
  | inr (asks, known) ↦ elim second [
    | inl (own, _) ↦ absurd (asks own)
    | inr (_, told) ↦
        elim (bound_rest r Receives image bound (IfCause (input ≢ input_of_answer r q answer) (no_verdict BAD_VALUE) (JudgesRejoinBy r image answer (cmac key input.bytes))) two
        (record { ranges = ready.ranges; opened = ready.opened }) ready.kept told) [
          | inl (other, _) ↦ absurd (other its)
          | inr (_, says) ↦ judged_alike r image key answer q bound input one two ready its (ready_rest r Receives image key bound (JudgesRejoin r image q answer) one ready known) says
        ]
  ]
]
