-- What an answer to a nonce moves.
use Rattle.std.proofs.Common.{ℤ, ◌≡◌, ◌≢◌, ℕ, ◌+◌, ◌^◌, ◌<◌, ◌≤◌, inl, inr, Option, Some, None, List, take, refl, sym, ap, subst, ◌∙◌, arith}
use Rattle.std.specs.Prelude.{nat_lt, if◌then◌else◌, IfSome, IfNone}
use Rattle.std.proofs.lemmas.Bool.{cases_Bool, cond-true, cond-false, ltb-true}
use Rattle.std.proofs.lemmas.Option.{same_Some}
use Rattle.key_slots.specs.declared.memory.Slot.{Slot}
use Rattle.key_slots.specs.declared.memory.Slot.TheVariants.{Filled}
use Rattle.key_slots.specs.Slots.{key_of}
use Rattle.key_slots.specs.declared.refusals.Erc.{Erc}
use Rattle.key_slots.specs.declared.refusals.Erc.TheVariants.{KeyNotAvailable, KeyInvalid, KeyEmpty, NoSecureBoot, KeyWriteProtected, KeyUpdateError, SequenceError}
use Rattle.freshness_routes.specs.declared.routes.Direction.{Direction}
use Rattle.freshness_routes.specs.declared.routes.Direction.TheVariants.{Receives}
use Rattle.secured_pdu.specs.Frame.{IsFrame, Secured}
use Rattle.secured_pdu.proofs.CallerLemmas.{IsFrame-Secured, same_from_Verdict, Verdict_of_secured}
use Rattle.secured_pdu.specs.Verdict.{Outcome, Verdict, Accepted}
use Rattle.basics.specs.Numbers.{number_of}
use Rattle.she_cmac.specs.Cmac.{cmac}
use Rattle.counter_answers.specs.Answering.{answer_input, IsQuestion, TellsWith, AnswersWith, SharesMac}
use Rattle.counter_answers.specs.declared.answering.CounterQuestion.{CounterQuestion}
use Rattle.counter_answers.proofs.CallerLemmas.{first_is, one_counter_told, one_question}
use Rattle.rathonsi_c.specs.declared.TheConstants.{OK, BAD_VALUE, FRESHNESS_FAILURE, VERIFICATION_FAILURE, DAMAGED, RESERVE, WRONG_CELL}
use Rattle.rathonsi_c.specs.declared.secoc.RathonsiVerdict.{RathonsiVerdict}
use Rattle.rathonsi_c.specs.declared.route.RathonsiRoute.{RathonsiRoute}
use Rattle.rathonsi_c.specs.Causes.{IfCause, erc_status}
use Rattle.rathonsi_c.specs.Images.{ImageKey}
use Rattle.rathonsi_c.specs.Routes.{IsFreshnessOnly, RouteReady, RouteAdvances, is_booted, no_verdict, bounded_answer, JudgesPdu, RouteAnswers, ReceiveAnswers}
use Rattle.rathonsi_c.specs.declared.refusals.Refusal.{Refusal}
use Rattle.rathonsi_c.specs.declared.sync.RathonsiQuestion.{RathonsiQuestion}
use Rattle.rathonsi_c.specs.Refused.{route_status, RouteRefused}
use Rattle.rathonsi_c.specs.Syncing.{AsksAnother, AnsweredBy, TellsCounter, JudgesSync, SyncTakeAnswers, TookAnswer, sync_verdict}
use Rattle.rathonsi_c.specs.Syncing.{way_of, asked_of, asked_by}
use Rattle.rathonsi_c.specs.Rejoining.{JudgesRejoin, RejoinAnswers, rejoin_verdict}
use Rattle.rathonsi_c.specs.Lives.{Memory, Deed, PoweredUp, Lives, RisesTo, given_out, NeverRejoins}
use Rattle.rathonsi_c.proofs.ImageLaws.{bound_once, slot_once}
use Rattle.rathonsi_c.proofs.AnswerLaws.{other_status, damaged_keeps_none, may-not-refused, ready_route, refused_route}
use Rattle.rathonsi_c.proofs.LivesLaws.{first_sound, lives-sound, rises}

-- the MAC that was made of the counter that was read is that of the counter that is told
read_mac : (key mac answer : List ℕ) (q : CounterQuestion) (counter : ℕ) → mac ≡ cmac key (answer_input q (number_of (take 8 answer))) → number_of (take 8 answer) ≡ counter → mac ≡ cmac key (answer_input q counter)
read_mac key mac answer q counter e same = e ∙ ap (λ (n : ℕ). cmac key (answer_input q n)) same

-- what the code found in an answer, by this MAC
tells_counter : (key mac answer : List ℕ) (q : CounterQuestion) (told : Option ℕ) → mac ≡ cmac key (answer_input q (number_of (take 8 answer)))
    → IfNone told ((counter : ℕ) → ¬ TellsWith mac counter answer) → IfSome told (λ counter. TellsWith mac counter answer) → TellsCounter key q answer told
tells_counter key mac answer q (Some counter) e none some =
    subst (λ (m : List ℕ). TellsWith m counter answer) (read_mac key mac answer q counter e (first_is mac counter answer some)) some
tells_counter key mac answer q None e none some = λ counter t.
    none counter (subst (λ (m : List ℕ). TellsWith m counter answer) (sym (read_mac key mac answer q counter e (first_is (cmac key (answer_input q counter)) counter answer t))) t)

-- the verdict of a route that is ready
pub judged_sync : (r : RathonsiRoute) (image answer key mac : List ℕ) (q : RathonsiQuestion) (bound : ℕ) (told : Option ℕ) (verdict : RathonsiVerdict) → AsksAnother q → RouteReady r (way_of r) image key bound
    → mac ≡ cmac key (answer_input (asked_by r q) (number_of (take 8 answer)))
    → IfNone told ((counter : ℕ) → ¬ TellsWith mac counter answer) → IfSome told (λ counter. TellsWith mac counter answer)
    → verdict ≡ sync_verdict r.counter bound told → SyncTakeAnswers r image q answer verdict
judged_sync r image answer key mac q bound told verdict asks ready e none some is =
    inr (
      (λ one. one asks),
      ready_route no_verdict r (way_of r) image key bound (JudgesSync r image q answer) verdict ready
          (record { key = key; bound = bound; ready = ready; told = told; tells = tells_counter key mac answer (asked_by r q) told e none some; is = is }),
    )

-- the verdict of a receiver that is ready, and may rejoin
pub judged_rejoin : (r : RathonsiRoute) (image answer key mac : List ℕ) (q : RathonsiQuestion) (bound : ℕ) (told : Option ℕ) (verdict : RathonsiVerdict) → AsksAnother q → RouteReady r Receives image key bound
    → mac ≡ cmac key (answer_input (asked_by r q) (number_of (take 8 answer)))
    → IfNone told ((counter : ℕ) → ¬ TellsWith mac counter answer) → IfSome told (λ counter. TellsWith mac counter answer)
    → verdict ≡ rejoin_verdict r bound told → RejoinAnswers r image q answer verdict
judged_rejoin r image answer key mac q bound told verdict asks ready e none some is =
    inr (
      (λ one. one asks),
      ready_route no_verdict r Receives image key bound (JudgesRejoin r image q answer) verdict ready
          (record { key = key; bound = bound; ready = ready; told = told; tells = tells_counter key mac answer (asked_by r q) told e none some; is = is }),
    )

pub refused_rejoin : (r : RathonsiRoute) (image answer : List ℕ) (q : RathonsiQuestion) (refusal : Refusal) → AsksAnother q → RouteRefused r Receives image refusal → RejoinAnswers r image q answer (no_verdict (route_status refusal))
refused_rejoin r image answer q refusal asks h = inr ((λ one. one asks), refused_route no_verdict r Receives image (JudgesRejoin r image q answer) refusal h)

-- a route that isn't ready to take
pub refused_sync : (r : RathonsiRoute) (image answer : List ℕ) (q : RathonsiQuestion) (refusal : Refusal) → AsksAnother q → RouteRefused r (way_of r) image refusal → SyncTakeAnswers r image q answer (no_verdict (route_status refusal))
refused_sync r image answer q refusal asks h = inr ((λ one. one asks), refused_route no_verdict r (way_of r) image (JudgesSync r image q answer) refusal h)

-- ---- who moves a counter

-- no refusal of a key is this status
abbrev NoRefusal : ℤ → Type 0
NoRefusal s = (refusal : Erc) → erc_status refusal ≡ s → ⊥

refused_not_done : NoRefusal OK
refused_not_done KeyEmpty e = other_status (erc_status KeyEmpty) OK (λ x. omega arith) e
refused_not_done KeyInvalid e = other_status (erc_status KeyInvalid) OK (λ x. omega arith) e
refused_not_done KeyNotAvailable e = other_status (erc_status KeyNotAvailable) OK (λ x. omega arith) e
refused_not_done KeyWriteProtected e = other_status (erc_status KeyWriteProtected) OK (λ x. omega arith) e
refused_not_done KeyUpdateError e = other_status (erc_status KeyUpdateError) OK (λ x. omega arith) e
refused_not_done NoSecureBoot e = other_status (erc_status NoSecureBoot) OK (λ x. omega arith) e
refused_not_done SequenceError e = other_status (erc_status SequenceError) OK (λ x. omega arith) e

refused_not_reserved : NoRefusal RESERVE
refused_not_reserved KeyEmpty e = other_status (erc_status KeyEmpty) RESERVE (λ x. omega arith) e
refused_not_reserved KeyInvalid e = other_status (erc_status KeyInvalid) RESERVE (λ x. omega arith) e
refused_not_reserved KeyNotAvailable e = other_status (erc_status KeyNotAvailable) RESERVE (λ x. omega arith) e
refused_not_reserved KeyWriteProtected e = other_status (erc_status KeyWriteProtected) RESERVE (λ x. omega arith) e
refused_not_reserved KeyUpdateError e = other_status (erc_status KeyUpdateError) RESERVE (λ x. omega arith) e
refused_not_reserved NoSecureBoot e = other_status (erc_status NoSecureBoot) RESERVE (λ x. omega arith) e
refused_not_reserved SequenceError e = other_status (erc_status SequenceError) RESERVE (λ x. omega arith) e

-- a verdict that tells a status alone
alone : (v : RathonsiVerdict) (status s : ℤ) → v ≡ no_verdict status → v.status ≡ s → status ≡ s
alone v status s e is = sym (ap (λ (u : RathonsiVerdict). u.status) e) ∙ is

-- the answer was judged
judged : (r : RathonsiRoute) (direction : Direction) (image : List ℕ) (q : RathonsiQuestion) (rest : RathonsiVerdict → Type 0) (v : RathonsiVerdict) (s : ℤ) → (BAD_VALUE ≡ s → ⊥) → (WRONG_CELL ≡ s → ⊥) → (DAMAGED ≡ s → ⊥) → NoRefusal s
    → IfCause (¬ AsksAnother q) (no_verdict BAD_VALUE) (RouteAnswers no_verdict r direction image rest) v → v.status ≡ s → AsksAnother q × rest v
judged r direction image q rest v s bad wrong damaged refused answers is = elim answers [
  | inl (one, e) ↦ absurd (bad (alone v _ s e is))
  | inr (two, known) ↦ elim known [
    | inl (out, e) ↦ absurd (bad (alone v _ s e is))
    | inr (in_use, own) ↦ elim own [
      | inl (others, e) ↦ absurd (wrong (alone v _ s e is))
      | inr (ours, sound) ↦ elim sound [
        | inl (none, e) ↦ absurd (damaged (alone v _ s e is))
        | inr (whole, keyed) ↦ elim keyed [
          | inl (refusal, (refuses, e)) ↦ absurd (refused refusal (alone v _ s e is))
          | inr (may, says) ↦ ((λ same. two (λ apart. apart same)), says)
        ]
      ]
    ]
  ]
]

pub judged_done : (r : RathonsiRoute) (direction : Direction) (image : List ℕ) (q : RathonsiQuestion) (rest : RathonsiVerdict → Type 0) (v : RathonsiVerdict)
    → IfCause (¬ AsksAnother q) (no_verdict BAD_VALUE) (RouteAnswers no_verdict r direction image rest) v → v.status ≡ OK → AsksAnother q × rest v
judged_done r direction image q rest v answers is =
    judged r direction image q rest v OK (other_status BAD_VALUE OK (λ x. omega arith)) (other_status WRONG_CELL OK (λ x. omega arith)) (other_status DAMAGED OK (λ x. omega arith)) refused_not_done answers is

pub judged_reserved : (r : RathonsiRoute) (direction : Direction) (image : List ℕ) (q : RathonsiQuestion) (rest : RathonsiVerdict → Type 0) (v : RathonsiVerdict)
    → IfCause (¬ AsksAnother q) (no_verdict BAD_VALUE) (RouteAnswers no_verdict r direction image rest) v → v.status ≡ RESERVE → AsksAnother q × rest v
judged_reserved r direction image q rest v answers is =
    judged r direction image q rest v RESERVE (other_status BAD_VALUE RESERVE (λ x. omega arith)) (other_status WRONG_CELL RESERVE (λ x. omega arith)) (other_status DAMAGED RESERVE (λ x. omega arith)) refused_not_reserved answers is

-- what such a verdict tells: a counter above the route's
pub record Told (counter bound : ℕ) (told : Option ℕ) : Type 0 where
  pub number : ℕ
  pub is : told ≡ Some number
  pub above : counter < number
  pub freshness_is : (sync_verdict counter bound told).freshness ≡ number

abbrev sync_verdict_above : ℕ → ℕ → RathonsiVerdict
sync_verdict_above bound number =
    if nat_lt bound number then record { status = RESERVE; payload_length = 0; freshness = number } else record { status = OK; payload_length = 0; freshness = number }

pub told_freshness : (bound number : ℕ) → (sync_verdict_above bound number).freshness ≡ number
told_freshness bound number = elim (cases_Bool (nat_lt bound number)) [
  | inl above ↦ ap (λ (u : RathonsiVerdict). u.freshness) (cond-true _ _ _ above)
  | inr below ↦ ap (λ (u : RathonsiVerdict). u.freshness) (cond-false _ _ _ below)
]

pub told_above : (counter bound : ℕ) (told : Option ℕ) (s : ℤ) → (VERIFICATION_FAILURE ≡ s → ⊥) → (FRESHNESS_FAILURE ≡ s → ⊥) → (sync_verdict counter bound told).status ≡ s → Told counter bound told
told_above counter bound None s unverified stale e = absurd (unverified e)
told_above counter bound (Some number) s unverified stale e = elim (cases_Bool (nat_lt counter number)) [
  | inl above ↦ record {
    number = number;
    is = refl;
    above = ltb-true counter number above;
    freshness_is = ap (λ (u : RathonsiVerdict). u.freshness) (cond-true _ _ _ above) ∙ told_freshness bound number;
  }
  | inr below ↦ absurd (stale (sym (ap (λ (u : RathonsiVerdict). u.status) (cond-false _ _ _ below)) ∙ e))
]

took_answer : (r : RathonsiRoute) (image answer : List ℕ) (q : RathonsiQuestion) (v : RathonsiVerdict) → AsksAnother q → (j : JudgesSync r image q answer v) → Told r.counter j.bound j.told → TookAnswer r image q answer v.freshness
took_answer r image answer q v asks j t =
    let same : v.freshness ≡ t.number = ap (λ (u : RathonsiVerdict). u.freshness) j.is ∙ t.freshness_is in
    record {
      asks = asks;
      key = j.key;
      keyed = j.ready.keyed;
      told_so = subst (λ n. AnswersWith j.key (asked_by r q) n answer) (sym same) (subst (λ (o : Option ℕ). TellsCounter j.key (asked_by r q) answer o) t.is j.tells);
      above = (let a = t.above in omega arith);
    }

pub moved_by_key : (r : RathonsiRoute) (image answer : List ℕ) (q : RathonsiQuestion) (v : RathonsiVerdict) → SyncTakeAnswers r image q answer v → v.status ≡ OK → TookAnswer r image q answer v.freshness
moved_by_key r image answer q v answers is =
    let (asks, j) = judged_done r (way_of r) image q (JudgesSync r image q answer) v answers is in
    took_answer r image answer q v asks j (told_above r.counter j.bound j.told OK (other_status VERIFICATION_FAILURE OK (λ x. omega arith)) (other_status FRESHNESS_FAILURE OK (λ x. omega arith)) (sym (ap (λ (u : RathonsiVerdict). u.status) j.is) ∙ is))

pub reserved_by_key : (r : RathonsiRoute) (image answer : List ℕ) (q : RathonsiQuestion) (v : RathonsiVerdict) → SyncTakeAnswers r image q answer v → v.status ≡ RESERVE → TookAnswer r image q answer v.freshness
reserved_by_key r image answer q v answers is =
    let (asks, j) = judged_reserved r (way_of r) image q (JudgesSync r image q answer) v answers is in
    took_answer r image answer q v asks j (told_above r.counter j.bound j.told RESERVE (other_status VERIFICATION_FAILURE RESERVE (λ x. omega arith)) (other_status FRESHNESS_FAILURE RESERVE (λ x. omega arith)) (sym (ap (λ (u : RathonsiVerdict). u.status) j.is) ∙ is))

-- ---- whose answer is taken

-- what is taken is no answer to another question
pub asked_this : (s r : RathonsiRoute) (sent image answer : List ℕ) (q p : RathonsiQuestion) (told : ℕ) (a : AnsweredBy s sent q answer) (t : TookAnswer r image p answer told) → IsQuestion (asked_of s q) → IsQuestion (asked_by r p)
    → a.key ≡ t.key → asked_of s q ≢ asked_by r p → SharesMac a.key (answer_input (asked_of s q) s.counter) (answer_input (asked_by r p) told)
asked_this s r sent image answer q p told a t hq hp same apart =
    one_question a.key (asked_of s q) (asked_by r p) s.counter told answer hq hp a.told (subst (λ (k : List ℕ). AnswersWith k (asked_by r p) told answer) (sym same) t.told_so) apart

-- so it is none that this unit made
pub not_its_own : (s r : RathonsiRoute) (sent image answer : List ℕ) (q p : RathonsiQuestion) (told : ℕ) (a : AnsweredBy s sent q answer) (t : TookAnswer r image p answer told) → IsQuestion (asked_of s q) → IsQuestion (asked_by r p)
    → a.key ≡ t.key → q.answerer ≡ p.asker → SharesMac a.key (answer_input (asked_of s q) s.counter) (answer_input (asked_by r p) told)
not_its_own s r sent image answer q p told a t hq hp same own =
    asked_this s r sent image answer q p told a t hq hp same (λ e. t.asks (sym own ∙ ap (λ (c : CounterQuestion). c.answerer) e))

-- ---- what is accepted after it

-- a route that is ready answers as the rest says
pub ready_rest : (r : RathonsiRoute) (direction : Direction) (image key : List ℕ) (bound : ℕ) (rest : RathonsiVerdict → Type 0) (v : RathonsiVerdict) → RouteReady r direction image key bound
    → RouteAnswers no_verdict r direction image rest v → rest v
ready_rest r direction image key bound rest v ready answers = elim answers [
  | inl (out, e) ↦ absurd (out (record { ranges = ready.ranges; opened = ready.opened }))
  | inr (in_use, own) ↦ elim own [
    | inl (others, e) ↦ absurd (others.no_bound bound ready.kept)
    | inr (ours, sound) ↦ elim sound [
      | inl (none, e) ↦ absurd (elim none [
        | inl damaged ↦ damaged_keeps_none image r.cell r.data_id direction bound damaged ready.kept
        | inr empty ↦ empty (Filled key ready.keyed.counter ready.keyed.flags) ready.keyed.held
      ])
      | inr (whole, keyed) ↦ elim keyed [
        | inl (refusal, (refuses, e)) ↦ absurd (may-not-refused image r key refusal ready.keyed refuses)
        | inr (may, says) ↦ says
      ]
    ]
  ]
]

-- a receiver that is ready judges a frame
pub judged_ready : (r : RathonsiRoute) (image pdu key : List ℕ) (bound : ℕ) (v : RathonsiVerdict) → IsFrame pdu → ¬ IsFreshnessOnly r → RouteReady r Receives image key bound → ReceiveAnswers r image pdu v → JudgesPdu r image pdu v
judged_ready r image pdu key bound v frame not_alone ready answers = elim answers [
  | inl (short, e) ↦ absurd (short frame)
  | inr (long, asked) ↦ elim asked [
    | inl (alone, e) ↦ absurd (not_alone alone)
    | inr (_, rest) ↦ ready_rest r Receives image key bound (JudgesPdu r image pdu) v ready rest
  ]
]

-- an image keeps one key in a slot
pub one_key : (image : List ℕ) (place : ℕ) (r : RathonsiRoute) (key other : List ℕ) → ImageKey image place (is_booted r) key → ImageKey image place (is_booted r) other → key ≡ other
one_key image place r key other k o =
    same_Some _ _ (ap (λ (s : Slot). key_of s) (slot_once image place (Filled key k.counter k.flags) (Filled other o.counter o.flags) k.held o.held))

pub after_answer : (s r taken : RathonsiRoute) (sent image later answer : List ℕ) (q p : RathonsiQuestion) (v : RathonsiVerdict) → AnsweredBy s sent q answer → SyncTakeAnswers r image p answer v → v.status ≡ OK
    → RouteAdvances Receives r image v.freshness taken → (key payload pdu : List ℕ) (bound freshness : ℕ) (second : RathonsiVerdict) → Secured key taken.data_id payload freshness pdu
    → s.counter < freshness → freshness ≤ s.counter + taken.window → freshness < 2 ^ 64 → ¬ IsFreshnessOnly taken → RouteReady taken Receives later key bound → ReceiveAnswers taken later pdu second
    → second ≡ bounded_answer bound (Accepted payload freshness)
after_answer s r taken sent image later answer q p v told answers is advances key payload pdu bound freshness second secured above near fits own ready receives =
    let took = moved_by_key r image answer p v answers is in
    let same : v.freshness ≡ s.counter = one_counter_told (cmac took.key (answer_input (asked_by r p) v.freshness)) (cmac told.key (answer_input (asked_of s q) s.counter)) v.freshness s.counter answer took.told_so told.told in
    let now : taken.counter ≡ v.freshness = ap (λ (t : RathonsiRoute). t.counter) advances.now in
    let frame = IsFrame-Secured key taken.data_id payload freshness pdu secured in
    let j = judged_ready taken later pdu key bound second frame own ready receives in
    let accepted : Verdict key taken.data_id taken.counter taken.window pdu (Accepted payload freshness) =
    Verdict_of_secured key taken.data_id taken.counter taken.window payload freshness pdu secured (record { above = omega arith; near = omega arith; low_is = refl; fits = fits }) in
    let same_key : j.key ≡ key = one_key later taken.slot taken j.key key j.ready.keyed ready.keyed in
    let same_outcome : j.outcome ≡ Accepted payload freshness =
    same_from_Verdict key taken.data_id taken.counter taken.window pdu j.outcome (Accepted payload freshness) ready.ranges.window_is (subst (λ (k : List ℕ). Verdict k taken.data_id taken.counter taken.window pdu j.outcome) same_key j.verdict) accepted in
    let same_bound : j.bound ≡ bound = bound_once later taken.cell taken.data_id Receives j.bound bound j.ready.kept ready.kept in
    j.is ∙ (ap (λ b. bounded_answer b j.outcome) same_bound ∙ ap (λ (o : Outcome). bounded_answer bound o) same_outcome)

-- the freshness that a route gives out from the middle of its lives on
pub rises_after : (n k : ℕ) (before after : List Deed) (first mid last : Memory) → PoweredUp n first → Lives n before first mid → Lives n after mid last → k < n → NeverRejoins k after
    → (q : RathonsiQuestion) (answer : List ℕ) → AnsweredBy (mid.routes k) mid.image q answer → (mac : List ℕ) (told : ℕ) → TellsWith mac told answer
    → RisesTo told (given_out k after) (last.routes k).counter
rises_after n k before after first mid last powered lived lives x never q answer a mac told t =
    let same : told ≡ (mid.routes k).counter = one_counter_told mac (cmac a.key (answer_input (asked_of (mid.routes k) q) (mid.routes k).counter)) told (mid.routes k).counter answer t a.told in
    subst (λ low. RisesTo low (given_out k after) (last.routes k).counter) (sym same)
    (rises n k after mid last x never (lives-sound n before first mid (first_sound n first powered) lived) lives)
