use Rattle.std.proofs.Common.{◌≡◌, ℕ, ◌+◌, ◌*◌, ◌<◌, List, [], ◌∷◌, ◌++◌, sym, ap, ◌∙◌, arith}
use Rattle.basics.specs.Numbers.{bytes_of}
use Rattle.memory_update.specs.Messages.{head_number, IsUid}
use Rattle.memory_update.proofs.CallerLemmas.{head_bytes}
use Rattle.memory_update.proofs.blocks.head_block.Goals as goal

joined : (block front uid : List ℕ) (x id auth : ℕ) → block ≡ front ++ x ∷ [] → front ≡ uid → x ≡ id * 16 + auth → IsUid uid → id < 14 → auth < 14 → block ≡ bytes_of 16 (head_number uid id auth)
joined block front uid x id auth whole same sum is_uid i a =
    whole ∙ ap (λ f. f ++ x ∷ []) same ∙ ap (λ y. uid ++ y ∷ []) sum ∙ sym (head_bytes uid id auth is_uid i a)

pub returns-clause-value : goal.returns-clause-value
returns-clause-value c =
    joined c.of.result c.copy_from_slice.new.self c.args.uid.now (c.number.result * 16 + c.number-2.result) c.args.id c.args.auth c.of.ensures.value (c.copy_from_slice.ensures.after ∙ c.as_slice.ensures.value) (omega arith) c.as_slice.ensures.is_uid (omega arith) (omega arith)
