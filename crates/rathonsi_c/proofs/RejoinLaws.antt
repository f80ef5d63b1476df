-- What a rejoin moves.
use Rattle.std.proofs.Common.{◌≡◌, ℕ, ◌<◌, ◌≤◌, ◌⊎◌, inl, inr, Option, Some, None, List, sym, ap, ◌∙◌, arith}
use Rattle.std.specs.Prelude.{nat_lt, nat_eq}
use Rattle.std.proofs.lemmas.Bool.{cases_Bool, cond-true, cond-false, ltb-true, ltb-false, eqb-true}
use Rattle.freshness_routes.specs.declared.routes.Direction.TheVariants.{Receives}
use Rattle.rathonsi_c.specs.declared.TheConstants.{OK, FRESHNESS_FAILURE, VERIFICATION_FAILURE, RESERVE}
use Rattle.rathonsi_c.specs.declared.opened.TheConstants.{FRESH}
use Rattle.rathonsi_c.specs.declared.secoc.RathonsiVerdict.{RathonsiVerdict}
use Rattle.rathonsi_c.specs.declared.route.RathonsiRoute.{RathonsiRoute}
use Rattle.rathonsi_c.specs.Images.{ImageBound}
use Rattle.rathonsi_c.specs.Routes.{InRanges, IsOpened, at_counter}
use Rattle.rathonsi_c.specs.Syncing.{told_within, sync_verdict}
use Rattle.rathonsi_c.specs.Rejoining.{Rejoins, rejoin_verdict}
use Rattle.rathonsi_c.proofs.AnswerLaws.{other_status}

-- the status of a verdict that is this one
status_of : (v u : RathonsiVerdict) → v ≡ u → v.status ≡ OK → u.status ≡ OK
status_of v u e ok = sym (ap (λ (x : RathonsiVerdict). x.status) e) ∙ ok

-- what is told is within the bound
record Within (bound told : ℕ) (v : RathonsiVerdict) : Type 0 where
  is : v.freshness ≡ told
  covers : told ≤ bound

within : (bound told : ℕ) (v : RathonsiVerdict) → v ≡ told_within bound told → v.status ≡ OK → Within bound told v
within bound told v is ok = elim (cases_Bool (nat_lt bound told)) [
  | inl over ↦ absurd (other_status RESERVE OK (λ x. omega arith) (status_of v _ (is ∙ cond-true _ _ _ over) ok))
  | inr covered ↦ record { is = ap (λ (x : RathonsiVerdict). x.freshness) (is ∙ cond-false _ _ _ covered); covers = ltb-false bound told covered }
]

-- the counter may become this one
record Allows (r : RathonsiRoute) (bound freshness : ℕ) : Type 0 where
  may : (r.counter < freshness) ⊎ (r.opened ≡ FRESH)
  covers : freshness ≤ bound

goes_up : (r : RathonsiRoute) (bound told : ℕ) (v : RathonsiVerdict) → v ≡ sync_verdict r.counter bound (Some told) → v.status ≡ OK → Allows r bound v.freshness
goes_up r bound told v is ok = elim (cases_Bool (nat_lt r.counter told)) [
  | inl above ↦
      let w = within bound told v (is ∙ cond-true _ _ _ above) ok in
      record { may = inl (omega (arith, w.is, ltb-true r.counter told above)); covers = omega (arith, w.is, w.covers) }
  | inr below ↦ absurd (other_status FRESHNESS_FAILURE OK (λ x. omega arith) (status_of v _ (is ∙ cond-false _ _ _ below) ok))
]

goes : (r : RathonsiRoute) (bound : ℕ) (told : Option ℕ) (v : RathonsiVerdict) → v ≡ rejoin_verdict r bound told → v.status ≡ OK → Allows r bound v.freshness
goes r bound None v is ok = absurd (other_status VERIFICATION_FAILURE OK (λ x. omega arith) (status_of v _ is ok))
goes r bound (Some told) v is ok = elim (cases_Bool (nat_eq r.opened FRESH)) [
  | inl fresh ↦
      let w = within bound told v (is ∙ cond-true _ _ _ fresh) ok in
      record { may = inr (eqb-true r.opened FRESH fresh); covers = omega (arith, w.is, w.covers) }
  | inr moved ↦ goes_up r bound told v (is ∙ cond-false _ _ _ moved) ok
]

pub rejoined_by : (r : RathonsiRoute) (image : List ℕ) (bound : ℕ) (told : Option ℕ) (v : RathonsiVerdict) (next : RathonsiRoute) → InRanges r Receives → IsOpened r → ImageBound image r.cell r.data_id Receives bound
    → v ≡ rejoin_verdict r bound told → v.status ≡ OK → next ≡ at_counter r v.freshness → Rejoins r image v.freshness next
rejoined_by r image bound told v next ranges opened kept is ok now =
    let a = goes r bound told v is ok in
    record { ranges = ranges; opened = opened; may = a.may; covered = record { bound = bound; kept = kept; covers = a.covers }; now = now }
