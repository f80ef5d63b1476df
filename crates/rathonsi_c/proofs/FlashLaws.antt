-- From the refusals of a put on flash to the answers of the call.
use Rattle.std.proofs.Common.{◌≡◌, inl, inr, ℕ, ◌<◌, List, ap, subst, arith}
use Rattle.store_plan.specs.declared.planning.Plan.{Plan}
use Rattle.store_plan.specs.Plans.{IsEmptyPlan}
use Rattle.flash_calls.specs.declared.calls.FlashRefusal.{FlashRefusal}
use Rattle.flash_calls.specs.declared.calls.FlashRefusal.TheVariants.{BadLength, BadValue, NoStore, Busy, Exhausted, Failed}
use Rattle.flash_calls.specs.declared.numbers.FlashNumbers.{FlashNumbers}
use Rattle.flash_calls.specs.Operations.{IsCallOf}
use Rattle.flash_calls.specs.Calls.{FlashPutRefused}
use Rattle.flash_images.specs.Images.{WritesPut}
use Rattle.flash_images.proofs.CallerLemmas.{writes_once}
use Rattle.rathonsi_c.specs.declared.TheConstants.{OK, BAD_LENGTH, BAD_VALUE, NO_STORE, BUSY, EXHAUSTED, FAILED}
use Rattle.rathonsi_c.specs.Flash.{flash_status, FlashPutAnswers}
use Rattle.rathonsi_c.proofs.AnswerLaws.{other_status}

-- a refusal isn't answered OK
pub refusal_isnt_ok : (refusal : FlashRefusal) → flash_status refusal ≡ OK → ⊥
refusal_isnt_ok BadLength e = other_status BAD_LENGTH OK (λ n. absurd (omega (arith, n))) e
refusal_isnt_ok BadValue e = other_status BAD_VALUE OK (λ n. absurd (omega (arith, n))) e
refusal_isnt_ok NoStore e = other_status NO_STORE OK (λ n. absurd (omega (arith, n))) e
refusal_isnt_ok Busy e = other_status BUSY OK (λ n. absurd (omega (arith, n))) e
refusal_isnt_ok Exhausted e = other_status EXHAUSTED OK (λ n. absurd (omega (arith, n))) e
refusal_isnt_ok Failed e = other_status FAILED OK (λ n. absurd (omega (arith, n))) e

-- a plan that puts a cell isn't empty
writes_some : (plan : Plan) (i : ℕ) (c : List ℕ) → WritesPut plan i c → IsEmptyPlan plan → ⊥
writes_some plan i c w empty = let n = w.opens.count in let z = empty.third in absurd (omega (arith, n, z))

pub put_refused : (n i : ℕ) (c : List ℕ) (plan : Plan) (flash : FlashNumbers) (refusal : FlashRefusal) → IsCallOf n flash → WritesPut plan i c
    → FlashPutRefused n i flash refusal → FlashPutAnswers n plan flash (flash_status refusal)
put_refused n i c plan flash refusal call writes (inl (is, outside)) =
    inr (
      (λ none. none call),
      inl (
        (λ takes. elim takes [
          | inl empty ↦ writes_some plan i c writes empty
          | inr (j, (d, (below, other))) ↦ outside call (subst (λ k. k < n) (writes_once plan j i d c other writes) below)
        ]),
        ap flash_status is,
      ),
    )
put_refused n i c plan flash refusal call writes (inr ((whole, below), why)) =
    inr (
      (λ none. none call),
      inr (
        (λ none. none (inr (i, (c, (below, writes))))),
        elim why [
          | inl (is, busy) ↦ inl (busy, ap flash_status is)
          | inr (is, (idle, full)) ↦ inr ((λ busy. busy idle), inl (((λ empty. writes_some plan i c writes empty), full), ap flash_status is))
        ],
      ),
    )
