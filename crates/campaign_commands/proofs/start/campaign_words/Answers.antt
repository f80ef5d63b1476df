use Rattle.std.proofs.Common.{◌≡◌, ◌∙◌, ◌<◌, ◌++◌, ℕ, List, [], ◌∷◌, length, map, refl, sym, ap, arith, rules}
use Rattle.std.specs.Prelude.{Option, None, Some, string_bytes}
use Rattle.std.proofs.lemmas.Bool.Decides.{nat_tests}
use Rattle.std.proofs.lemmas.List.{length-map, append-nil}
use Rattle.cut_disk.specs.State.{DiskState}
use Rattle.file_disk.specs.NamedDisks.{DisksAreNamed, with_opened}
use Rattle.program_edge.specs.NamedSources.{word_source, missing_source}
use Rattle.campaign_commands.specs.Files.{ran_example, ran_words, wanted_disk}
use Rattle.campaign_commands.proofs.Known.{campaigns_known}
use Rattle.campaign_commands.proofs.WantsMemory.{are_two, wants_memory}
use Rattle.campaign_commands.proofs.start.campaign_words.Goals as goal

-- an argument that opens a disk makes its file
makes_opened : (opens : List ℕ → DiskState → Type 0) (before after made_before made_after : List (List ℕ)) (word : Option (List ℕ)) (disks : List DiskState)
    → DisksAreNamed opens before after word disks → made_after ≡ with_opened word made_before
    → (words : List (List ℕ)) × (after ≡ before ++ words) × (made_after ≡ made_before ++ words)
makes_opened opens before after made_before made_after None disks named made = ([], named.opened_once ∙ sym (append-nil before), made ∙ sym (append-nil made_before))
makes_opened opens before after made_before made_after (Some word) disks named made = (word ∷ [], named.opened_once, made)

pub returns-then-is_empty-clause-makes : goal.returns-then-is_empty-clause-makes
returns-then-is_empty-clause-makes g c = ([], sym (append-nil _), sym (append-nil _))

pub returns-in_default-clause-makes : goal.returns-in_default-clause-makes
returns-in_default-clause-makes g c = ([], c.in_default.ensures.unopened ∙ sym (append-nil _), c.in_default.ensures.unmade ∙ sym (append-nil _))

pub returns-clause-makes : goal.returns-clause-makes
returns-clause-makes g c = makes_opened _ _ _ _ _ _ _ c.in-Ok.ensures.named (search rules)

pub returns-then-is_empty-clause-promises : goal.returns-then-is_empty-clause-promises
returns-then-is_empty-clause-promises g c =
    let words = c.args.words.now in
    let none : length (map string_bytes words) ≡ 0 = grind (arith, nat_tests, length-map words string_bytes) in
    ran_example none (record { sources = refl; disks = refl }) c.run_example-status.ensures

pub returns-in_default-clause-promises : goal.returns-in_default-clause-promises
returns-in_default-clause-promises g c =
    let words = map string_bytes c.args.words.now in
    let two = are_two words (rw c.two_words.ensures.second at c.in_default.ensures.wanted) in
    wanted_disk (record {
      two = two;
      status_is = refl;
      unopened = record { sources = refl; disks = c.in_default.ensures.unopened };
      script_unopened = ap missing_source c.new-missing.ensures;
      disk_unopened = ap (map g.P.Opened.Disk.state) c.new-in_default.ensures.items;
      runs = wants_memory words (missing_source 0) [] (g.K.Sink.state c.args.sink.now) two;
    })

pub returns-clause-promises : goal.returns-clause-promises
returns-clause-promises g c =
    let source = word_source g.O.Opened.Source.state g.I.Source.state in
    let state = g.P.Opened.Disk.state in
    let words = c.args.words.now in
    let some : 0 < length (map string_bytes words) = grind (arith, nat_tests, length-map words string_bytes) in
    ran_words some (record {
      disks = map state c.in-Ok.disks.items;
      disk_named = rw c.two_words.ensures.second at c.in-Ok.ensures.named;
      over_script = record {
        source = record { before = source c.open_word-script.result; after = source c.run_campaign-status.new.script };
        named = rw c.two_words.ensures.first at c.open_word-script.ensures.named;
        opened_once = rw c.two_words.ensures.first at c.open_word-script.ensures.left;
        left_is = refl;
        has = campaigns_known _ _ _ _ (λ same. ap (λ v. map state v.items) same) c.run_campaign-status.ensures.promises c.run_campaign-status.ensures.campaigned;
      };
    })
