use Rattle.std.proofs.Common.{◌≡◌, inl, inr, ℕ, true, refl, subst, ◌∙◌, arith}
use Rattle.std.proofs.lemmas.Bool.{cases_lt, cases_eq}
use Rattle.seal_parts.specs.Parts.{blank_unit}
use Rattle.seal_store.proofs.WriteLaws.{runs_then}
use Rattle.seal_store.proofs.starting.erase_all.Goals as goal

pub loop-bank-init : goal.loop-bank-init
loop-bank-init g c = record {
  runs = record { class = refl; banks = refl; places = refl; later = omega arith };
  count = refl;
  blank = λ bank k kind below. absurd (omega (arith, below));
  erased = λ bank below. absurd (omega (arith, below));
}

pub loop-bank-preserved : goal.loop-bank-preserved
loop-bank-preserved g c =
    let f = g.P.SealPart.state c.args.part.now in
    let b = g.P.SealPart.state c.loop-bank.part in
    let h = g.P.SealPart.state c.erase.new.self in
    let v = c.loop-bank.invariant in
    let e = c.in_ok-erase.ensures.done in
    let i = c.loop-bank.bank in
    record {
      runs = runs_then f b h v.runs c.in_ok-erase.ensures.runs;
      count = c.in_ok-erase.ensures.count ∙ v.count;
      blank = λ bank k kind below. elim (cases_eq bank i) [
        | inl is ↦ subst (λ (n : ℕ). h.flash.unit n k kind ≡ blank_unit) (let back : i ≡ bank = omega (arith, is) in back) (e.blank k kind)
        | inr ne ↦ e.others.units bank k kind ne ∙ v.blank bank k kind (omega (arith, below, ne))
      ];
      erased = λ bank below. elim (cases_eq bank i) [
        | inl is ↦ subst (λ (n : ℕ). h.flash.is_erased n ≡ true) (let back : i ≡ bank = omega (arith, is) in back) e.erased
        | inr ne ↦ e.others.erased bank ne ∙ v.erased bank (omega (arith, below, ne))
      ];
    }

pub returns-clause-blank : goal.returns-clause-blank
returns-clause-blank g c = λ bank k kind. elim (cases_lt bank c.loop-bank.bank) [
  | inl less ↦ c.loop-bank.invariant.blank bank k kind less
  | inr far ↦ (g.met.P.SealPart.is_part c.loop-bank.part).beyond bank k kind (let all = c.banks-bank-end.ensures in let same = c.loop-bank.invariant.runs.banks in omega (arith, far, all, same))
]

pub returns-clause-erased : goal.returns-clause-erased
returns-clause-erased g c = λ bank below. c.loop-bank.invariant.erased bank (let all = c.banks-bank-end.ensures in omega (arith, below, all))
