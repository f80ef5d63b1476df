use Rattle.std.proofs.Common.{◌≡◌, ℕ, inl, inr, Option, List, refl, sym, subst}
use Rattle.std.specs.Cmp.Lexicographic.{other_text}
use Rattle.std.proofs.lemmas.Bool.{cases_lt, false≢true, leb-true, le-leb}
use Rattle.rathonsi_c.specs.Stale.{KeyFalls}
use Rattle.rathonsi_c.proofs.StaleLaws.{key-none, key-lower, key-higher}
use Rattle.rathonsi_c.proofs.stale.key_falls.Goals as goal

pub returns-in_default : goal.returns-in_default
returns-in_default c = (λ e. absurd (false≢true e), λ falls. absurd (c.in_default.ensures.none falls.counter falls.held))

pub returns-in-Some-counter_held : goal.returns-in-Some-counter_held
returns-in-Some-counter_held c =
    let before = c.args.before.now in
    let counter = c.in-Some.counter in
    let bytes = c.in-Some-after.bytes in
    let next = c.in-Some-counter_held.next in
    let held = c.in-Some.ensures.some in
    let other : bytes ≡ before → ⊥ = λ e. other_text _ _ c.if-eq.ensures e in (
      λ yes. subst (λ (o : Option (List ℕ)). KeyFalls before o) (sym c.in-Some-after.is) (key-lower before bytes counter held next c.in-Some-counter_held.ensures.some (leb-true _ _ yes) other),
      λ falls. elim (cases_lt counter next) [
        | inl above ↦ absurd (key-higher before bytes counter held next c.in-Some-counter_held.ensures.some above (subst (λ (o : Option (List ℕ)). KeyFalls before o) c.in-Some-after.is falls))
        | inr below ↦ le-leb _ _ below
      ],
    )

pub returns-in-None : goal.returns-in-None
returns-in-None c =
    let before = c.args.before.now in
    let bytes = c.in-Some-after.bytes in
    let other : bytes ≡ before → ⊥ = λ e. other_text _ _ c.if-eq.ensures e in (
      λ _. subst (λ (o : Option (List ℕ)). KeyFalls before o) (sym c.in-Some-after.is) (key-none before bytes c.in-Some.counter c.in-Some.ensures.some c.in-None.ensures.none other),
      λ _. refl,
    )
