-- A test of both messages tells whether a reply confirms
use Rattle.std.proofs.Common.{Bool, IsTrue, ◌↔◌, ◌&&◌, Decides, ◌≡◌, ℕ, List, sym, ap, ◌∙◌, subst}
use Rattle.std.proofs.lemmas.Bool.{and_parts}
use Rattle.memory_update.specs.Messages.{Confirms}
use Rattle.memory_update.proofs.CallerLemmas.{same_reply}
use Rattle.memory_update.specs.declared.messages.Update.{Update}
use Rattle.memory_update.specs.declared.messages.Reply.{Reply}

pub confirmed_by : (r s : Reply) (u : Update) (uid : List ℕ) (b p q : Bool) → Confirms s u uid → Decides p (r.m4 ≡ s.m4) → Decides q (r.m5 ≡ s.m5) → b ≡ (p && q) → IsTrue b ↔ Confirms r u uid
confirmed_by r s u uid b p q confirms m4 m5 test = (
  λ told.
      let both = and_parts p q (sym test ∙ told) in
      let Make : List (List ℕ) → List ℕ → Reply = λ x y. record { m4 = x; m5 = y } in
      let same : r ≡ s = ap (λ x. Make x r.m5) (m4.0 both.0) ∙ ap (Make s.m4) (m5.0 both.1) in
      subst (λ (x : Reply). Confirms x u uid) (sym same) confirms,
  λ h.
      let same : r ≡ s = same_reply r s u uid h confirms in
      test ∙ ap (λ x. x && q) (m4.1 (ap (λ (x : Reply). x.m4) same)) ∙ m5.1 (ap (λ (x : Reply). x.m5) same),
)
