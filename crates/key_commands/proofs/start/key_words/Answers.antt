use Rattle.std.proofs.Common.{◌∙◌, map, ap, refl, inl, inr}
use Rattle.std.specs.Prelude.{string_bytes}
use Rattle.program_edge.proofs.CallerLemmas.{EndsInRow-memory}
use Rattle.key_commands.specs.declared.subcommands.Subcommand.TheVariants.{Make}
use Rattle.key_commands.specs.Rows.{ComesOfWords, no_memory}
use Rattle.key_commands.proofs.LoadAlone.{load_alone, example_alone}
use Rattle.key_commands.proofs.Promises.{Keys-ran, apart}
use Rattle.key_commands.proofs.start.key_words.Goals as goal

pub returns-in_default-clause-example : goal.returns-in_default-clause-example
returns-in_default-clause-example g c few =
    rw c.new.ensures.items
    (Keys-ran _ _ (apart (EndsInRow-memory (ComesOfWords _) _ (no_memory (Make, refl))) refl refl refl refl))

pub returns-then-is_empty-clause-example : goal.returns-then-is_empty-clause-example
returns-then-is_empty-clause-example g c few =
    rw (ap (map string_bytes) c.as_slice.ensures.value ∙ c.in-Ok.ensures, c.new-none.ensures.items) at
    c.run_asked-status.ensures

pub returns-then-is_empty-clause-load_alone : goal.returns-then-is_empty-clause-load_alone
returns-then-is_empty-clause-load_alone g c high =
    absurd (example_alone _ _ (ap (map string_bytes) c.as_slice.ensures.value ∙ c.in-Ok.ensures) c.run_asked-status.ensures high)

pub returns-clause-named : goal.returns-clause-named
returns-clause-named g c some = inl (record {
  disks = c.in-Ok-open_named.disks.items;
  named = c.in-Ok-open_named.ensures.named;
  runs = c.run_asked-status-2.ensures;
})

pub returns-clause-load_alone : goal.returns-clause-load_alone
returns-clause-load_alone g c high = load_alone _ _ c.run_asked-status-2.ensures high

pub returns-in_default-open_named-clause-named : goal.returns-in_default-open_named-clause-named
returns-in_default-open_named-clause-named g c some = inr (record {
  asks = c.in_default-open_named.ensures.asks;
  status_is = refl;
  unwritten = refl;
  unread = refl;
  no_disk = ap (map g.P.Opened.Disk.state) c.new-in_default-open_named.ensures.items;
  unopened = c.in_default-open_named.ensures.unopened;
})
