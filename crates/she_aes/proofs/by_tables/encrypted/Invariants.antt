use Rattle.std.proofs.Common.{◌≡◌}
use Rattle.she_aes.specs.Cipher.{key_words, after_rounds}
use Rattle.she_aes.specs.RoundKeys.{IsPlainUnder}
use Rattle.she_aes.proofs.by_tables.encrypted.Given as goal

-- the state is that after the rounds so far
abbrev pub invariant-loop-done : goal.invariant-loop-done
invariant-loop-done l = IsPlainUnder l.key l.plain → l.state ≡ after_rounds (key_words l.key) l.block l.done
