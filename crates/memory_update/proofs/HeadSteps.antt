-- What `head` reads from an M1
use Rattle.std.proofs.Common.{◌≡◌, ℕ, ◌/◌, ◌%◌, ◌<◌, List, Option, Some, None, IsSome, get_or, take, sym, ap, ◌∙◌, subst, arith}
use Rattle.basics.specs.Blocks.{IsBlock}
use Rattle.memory_update.specs.Messages.{HasSlots, HeadOf, head_in, id_of, auth_of}
use Rattle.memory_update.proofs.CallerLemmas.{HasSlots-head, HeadOf-head_in, same_head, id_of-last, auth_of-last}
use Rattle.memory_update.specs.declared.messages.Head.{Head}

-- what the code reads: the first 15 bytes, and the two numbers in the last one
pub record Read (m1 uid : List ℕ) (id auth : ℕ) : Type 0 where
  pub uid_is : uid ≡ take 15 m1
  pub id_is : id_of m1 ≡ id
  pub auth_is : auth_of m1 ≡ auth

pub read : (m1 bytes front uid : List ℕ) → IsBlock m1 → bytes ≡ m1 → front ≡ take 15 bytes → uid ≡ front → Read m1 uid (get_or bytes 15 0 / 16) (get_or bytes 15 0 % 16)
read m1 bytes front uid is_m1 same at is = record {
  uid_is = is ∙ at ∙ ap (take 15) same;
  id_is = id_of-last m1 is_m1 ∙ ap (λ x. get_or x 15 0 / 16) (sym same);
  auth_is = auth_of-last m1 is_m1 ∙ ap (λ x. get_or x 15 0 % 16) (sym same);
}

-- a head that was read is the head of its M1
pub found : (m1 : List ℕ) (h : Head) → IsBlock m1 → Read m1 h.uid h.id h.auth → h.id < 14 → h.auth < 14 → HeadOf m1 h
found m1 h is_m1 r id auth =
    let Make : List ℕ → ℕ → ℕ → Head = λ x i a. record { uid = x; id = i; auth = a } in
    let same : head_in m1 ≡ h = ap (λ x. Make x (id_of m1) (auth_of m1)) (sym r.uid_is) ∙ ap (λ i. Make h.uid i (auth_of m1)) r.id_is ∙ ap (λ a. Make h.uid h.id a) r.auth_is in
    let slots : HasSlots m1 = (omega (arith, r.id_is, id), omega (arith, r.auth_is, auth)) in
    subst (λ (x : Head). HeadOf m1 x) same (HeadOf-head_in m1 is_m1 slots)

pub found_only : (m1 : List ℕ) (h : Head) → HeadOf m1 h → (k : Head) → HeadOf m1 k → Some h ≡ Some k
found_only m1 h of_h k of_k = ap Some (sym (same_head m1 h of_h) ∙ same_head m1 k of_k)

pub missing_some : (m1 : List ℕ) (r : Option Head) → r ≡ None → ¬ HasSlots m1 → (IsSome r → HasSlots m1) × (HasSlots m1 → IsSome r)
missing_some m1 r none outside =
    let empty : Option Head = None in
    (λ some. let at_none : IsSome empty = subst (λ (o : Option Head). IsSome o) none some in cc, λ slots. absurd (outside slots))

pub missing_only : (m1 : List ℕ) (r : Option Head) → ¬ HasSlots m1 → (k : Head) → HeadOf m1 k → r ≡ Some k
missing_only m1 r outside k of_k = absurd (outside (HasSlots-head m1 k of_k))
