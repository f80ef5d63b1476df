use Rattle.std.proofs.Common.{◌≡◌, Bool, true, false, refl, sym, ap, subst, ◌∙◌}
use Rattle.std.specs.Prelude.{Option, None, Some}
use Rattle.watch_commands.specs.declared.options.WatchOption.{WatchOption}
use Rattle.watch_commands.specs.declared.options.WordKind.TheVariants as kind
use Rattle.watch_commands.specs.OptionWords.{Asked, with_value, step_at, step_of_value, TakesWord, SetsValue}
use Rattle.watch_commands.proofs.options.Asked.take.Goals as goal

-- an option takes its value, or can't have it
value_taken : (next : Option Asked) (old new : Asked) (has : Bool) → SetsValue next old new has → has ≡ true → TakesWord (step_of_value next) old new kind.Option
value_taken None old new has sets is = absurd (let e : true ≡ false = sym is ∙ sets.0 in cc)
value_taken (Some next) old new has sets is = (refl, sets.1)

value_refused : (next : Option Asked) (old new : Asked) (has : Bool) → SetsValue next old new has → has ≡ false → TakesWord (step_of_value next) old new kind.NoValue
value_refused None old new has sets is = (refl, sets.1)
value_refused (Some next) old new has sets is = absurd (let e : true ≡ false = sym sets.0 ∙ is in cc)

pub returns-then-set_value : goal.returns-then-set_value
returns-then-set_value c =
    let waits : c.args.self.now.waiting ≡ Some c.in-Some.option = sym (ap (λ (a : Asked). a.waiting) c.self.view_is) ∙ c.in-Some.is in
    subst (λ (o : Option WatchOption). TakesWord (step_at c.args.self.now c.args.word.now o) c.args.self.now c.set_value.new.self kind.Option) (sym waits)
    (value_taken (with_value c.args.self.now c.args.word.now c.in-Some.option) c.args.self.now c.set_value.new.self c.set_value.result c.set_value.ensures c.if-set_value.true)

pub returns-in-Some : goal.returns-in-Some
returns-in-Some c =
    let waits : c.args.self.now.waiting ≡ Some c.in-Some.option = sym (ap (λ (a : Asked). a.waiting) c.self.view_is) ∙ c.in-Some.is in
    subst (λ (o : Option WatchOption). TakesWord (step_at c.args.self.now c.args.word.now o) c.args.self.now c.set_value.new.self kind.NoValue) (sym waits)
    (value_refused (with_value c.args.self.now c.args.word.now c.in-Some.option) c.args.self.now c.set_value.new.self c.set_value.result c.set_value.ensures c.if-set_value.false)
