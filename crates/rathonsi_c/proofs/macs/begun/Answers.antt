use Rattle.std.proofs.Common.{ℕ, List, [], sym, subst, rules}
use Rattle.she_cmac.specs.declared.pieces.MacParts.{MacParts}
use Rattle.she_cmac.specs.Took.{TookParts}
use Rattle.rathonsi_c.proofs.macs.begun.Goals as goal

pub returns : goal.returns
returns c = record {
  is_key = search rules;
  key_is = c.mac_struct.ensures.key;
  begun = c.mac_struct.ensures.begun;
  took = subst (λ (p : MacParts). TookParts c.args.key.now [] p) (sym c.mac_struct.ensures.parts)
      (subst (λ (k : List ℕ). TookParts k [] c.parts.result) c.expand-schedule.ensures.value (c.parts.ensures c.expand-schedule.result [] c.new.ensures));
}
