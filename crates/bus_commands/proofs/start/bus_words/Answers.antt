use Rattle.std.proofs.Common.{[], map, refl, sym}
use Rattle.std.proofs.lemmas.List.{append-nil}
use Rattle.std.specs.Prelude.{string_bytes}
use Rattle.bus_commands.specs.Named.{ran_in_memory, wanted_disks}
use Rattle.bus_commands.proofs.OfWords.{words_usage, words_usage_only, words_no_disk, words_start}
use Rattle.bus_commands.proofs.start.bus_words.Goals as goal

-- ---- over the disk that a word names

pub run_node-requires : goal.run_node-requires
run_node-requires g c = (map string_bytes c.args.words.now, rw c.in-Some.is at c.command_line-asked.ensures.names_disk)

pub returns-in-Some-clause-words : goal.returns-in-Some-clause-words
returns-in-Some-clause-words g c =
    let asked = c.command_line-asked.ensures in
    c.run_node.ensures.runs (map string_bytes c.args.words.now) (asked.names_config, asked.names_script)
    (rw c.in-Some.is at asked.names_disk)

pub returns-in-Some-clause-usage : goal.returns-in-Some-clause-usage
returns-in-Some-clause-usage g c = words_usage _ _ _ _ _ _ _ _ (returns-in-Some-clause-words g c)

pub returns-in-Some-clause-usage_only : goal.returns-in-Some-clause-usage_only
returns-in-Some-clause-usage_only g c = words_usage_only _ _ _ _ _ _ _ _ (returns-in-Some-clause-words g c)

pub returns-in-Some-clause-no_disk : goal.returns-in-Some-clause-no_disk
returns-in-Some-clause-no_disk g c = words_no_disk _ _ _ _ _ _ _ _ (returns-in-Some-clause-words g c)

pub returns-in-Some-clause-starts : goal.returns-in-Some-clause-starts
returns-in-Some-clause-starts g c = words_start _ _ _ _ _ _ _ _ (returns-in-Some-clause-words g c)

-- ---- over disks in memory

pub returns-in-Ok-clause-words : goal.returns-in-Ok-clause-words
returns-in-Ok-clause-words g c = ran_in_memory refl c.new.ensures.items (record {
  no_disk = rw c.in-None.is at c.command_line-asked.ensures.names_disk;
  made = c.in-Ok.disks;
  used = c.run_over-status.new.disks;
  given = c.in-Ok.ensures.given (map string_bytes c.args.words.now) c.command_line-asked.ensures.asks;
  over = c.run_over-status.ensures (map string_bytes c.args.words.now) c.command_line-asked.ensures;
})

pub returns-in-Ok-clause-makes : goal.returns-in-Ok-clause-makes
returns-in-Ok-clause-makes g c = ([], sym (append-nil _), sym (append-nil _))

pub returns-in-Ok-clause-usage : goal.returns-in-Ok-clause-usage
returns-in-Ok-clause-usage g c = words_usage _ _ _ _ _ _ _ _ (returns-in-Ok-clause-words g c)

pub returns-in-Ok-clause-usage_only : goal.returns-in-Ok-clause-usage_only
returns-in-Ok-clause-usage_only g c = words_usage_only _ _ _ _ _ _ _ _ (returns-in-Ok-clause-words g c)

pub returns-in-Ok-clause-starts : goal.returns-in-Ok-clause-starts
returns-in-Ok-clause-starts g c = words_start _ _ _ _ _ _ _ _ (returns-in-Ok-clause-words g c)

pub returns-in-Err-clause-words : goal.returns-in-Err-clause-words
returns-in-Err-clause-words g c =
    wanted_disks refl c.without_memory.ensures.disks (record {
      asks = c.in-Err.ensures.wanted (map string_bytes c.args.words.now) c.command_line-asked.ensures.asks;
      wants = record {
        status_is = c.without_memory.ensures.status;
        unwritten = refl;
        unopened = refl;
        config_missing = c.without_memory.ensures.config;
        script_missing = c.without_memory.ensures.script;
      };
    })

pub returns-in-Err-clause-makes : goal.returns-in-Err-clause-makes
returns-in-Err-clause-makes g c = ([], sym (append-nil _), sym (append-nil _))

pub returns-in-Err-clause-usage_only : goal.returns-in-Err-clause-usage_only
returns-in-Err-clause-usage_only g c = words_usage_only _ _ _ _ _ _ _ _ (returns-in-Err-clause-words g c)
