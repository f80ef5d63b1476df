use Rattle.std.proofs.Common.{◌≡◌, ℕ, ◌*◌, List, [], ◌++◌, replicate, sym, subst, ◌∙◌, rules}
use Rattle.std.specs.Int.{w32}
use Rattle.basics.specs.Numbers.{bytes_of}
use Rattle.basics.proofs.CallerLemmas.{to_be_bytes-is}
use Rattle.she_cmac.specs.declared.pieces.MacParts.{MacParts}
use Rattle.she_cmac.specs.Took.{TookParts}
use Rattle.rathonsi_c.proofs.boot.mac_begun.Goals as goal

pub returns : goal.returns
returns c =
    let key = c.args.key.now in
    let schedule = c.expand-schedule.result in
    let zeros : List ℕ = replicate 12 0 in
    let number_is : c.to_be_bytes.result ≡ bytes_of 4 (8 * c.args.size) = c.to_be_bytes.ensures ∙ to_be_bytes-is w32 (8 * c.args.size) in
    let went = c.parts.ensures schedule (zeros ++ c.to_be_bytes.result) (c.update-2.ensures schedule zeros (c.update.ensures schedule [] c.new-mac.ensures)) in
    record {
      is_key = search rules;
      key_is = c.mac_struct.ensures.key;
      begun = c.mac_struct.ensures.begun;
      took = subst (λ (p : MacParts). TookParts key (zeros ++ bytes_of 4 (8 * c.args.size)) p) (sym c.mac_struct.ensures.parts)
          (subst (λ (b : List ℕ). TookParts key (zeros ++ b) c.parts.result) number_is (subst (λ (k : List ℕ). TookParts k (zeros ++ c.to_be_bytes.result) c.parts.result) c.expand-schedule.ensures.value went));
    }
