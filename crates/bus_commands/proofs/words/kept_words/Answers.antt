use Rattle.std.proofs.Common.{arith, rules}
use Rattle.bus_commands.proofs.KeptWordsAsked.{five_texts, few_keep_nothing, many_keep_nothing}
use Rattle.bus_commands.proofs.words.kept_words.Goals as goal
