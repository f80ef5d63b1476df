-- The loop of the driver: the commands so far are done, and their lines are taken up.
use Rattle.std.proofs.Common.{◌≡◌, ℕ, ◌+◌, ◌<◌, ◌≤◌, List, [], ◌∷◌, ◌++◌, length, take, drop, get_or, Result, Ok, Err, refl, sym, ◌∙◌, ap, subst, arith, add-one, suc}
use Rattle.std.proofs.Math.Seq.{drop-cons}
use Rattle.std.proofs.lemmas.List.{map_push, take_more, take_all, length_push, length-map, length-take-le}
use Rattle.machine_runs.specs.Run.{Moment, Run, commands_in, lines_in}
use Rattle.machine_runs.proofs.CallerLemmas.{Run-more}
use Rattle.run_driver.specs.Driven.{TakenUp, Driven}

-- these commands were done, and the line of each was taken up
pub record DoneSoFar {C L S T E : Type 0} (steps : S → C → L → S → Type 0) (takes : T → ℕ → L → T → Result (Unit {0}) E → Type 0) (start now : S) (before after : T) (commands : List C) : Type 0 where
  pub moments : List (Moment C L S)
  pub run : Run steps start moments now
  pub done : commands_in moments ≡ commands
  pub taken : TakenUp takes 1 before (lines_in moments) after

-- a further line was taken up
TakenUp-more : {L T E : Type 0} (takes : T → ℕ → L → T → Result (Unit {0}) E → Type 0) (number : ℕ) (before : T) (lines : List L) (mid : T) (line : L) (after : T)
    → TakenUp takes number before lines mid → takes mid (number + length lines) line after (Ok tt) → TakenUp takes number before (lines ++ line ∷ []) after
TakenUp-more takes number before [] mid line after taken next =
    (after, subst (λ t. takes t number line after (Ok tt)) taken (subst (λ n. takes mid n line after (Ok tt)) (omega arith) next), refl)
TakenUp-more takes number before (x ∷ lines) mid line after taken next = (
  taken.0,
  taken.1,
  TakenUp-more takes (number + 1) taken.0 lines mid line after taken.2 (subst (λ n. takes mid n line after (Ok tt)) (omega arith) next),
)

-- what is left of a list begins with the item at the place
pub drop_next : {C : Type 0} (xs : List C) (i : ℕ) (item : C) → i < length xs → item ≡ get_or xs i item → drop i xs ≡ item ∷ drop (i + 1) xs
drop_next xs i item fits at =
    drop-cons xs i item fits ∙ ap (λ x. x ∷ drop (suc i) xs) (sym at) ∙ ap (λ n. item ∷ drop n xs) (sym (add-one i))

module _ {C L S T E : Type 0} (steps : S → C → L → S → Type 0) (takes : T → ℕ → L → T → Result (Unit {0}) E → Type 0) (start : S) (before : T) (commands : List C) where
  pub DoneSoFar-begins : DoneSoFar steps takes start start before before []
  DoneSoFar-begins = record { moments = []; run = refl; done = refl; taken = refl }

  -- as many moments as commands
  moments_done : (i : ℕ) (now : S) (after : T) (d : DoneSoFar steps takes start now before after (take i commands)) → i ≤ length commands → length d.moments ≡ i
  moments_done i now after d fits =
      sym (length-map d.moments (λ m. m.command)) ∙ ap length d.done ∙ length-take-le i commands fits

  -- the commands with the next one
  commands_done : (i : ℕ) (now later : S) (after : T) (command : C) (line : L) (d : DoneSoFar steps takes start now before after (take i commands))
      → i < length commands → command ≡ get_or commands i command
      → commands_in (d.moments ++ record { command = command; line = line; after = later } ∷ []) ≡ take (i + 1) commands
  commands_done i now later after command line d fits at =
      map_push (λ m. m.command) d.moments (record { command = command; line = line; after = later })
      ∙ ap (λ cs. cs ++ command ∷ []) d.done ∙ ap (λ c. take i commands ++ c ∷ []) at ∙ sym (take_more commands i command fits)

  -- a further command was done, and its line was taken up
  pub DoneSoFar-more : (i : ℕ) (now later : S) (mid after : T) (command : C) (line : L) → i < length commands → DoneSoFar steps takes start now before mid (take i commands)
      → steps now command line later → takes mid (i + 1) line after (Ok tt) → command ≡ get_or commands i command
      → DoneSoFar steps takes start later before after (take (i + 1) commands)
  DoneSoFar-more i now later mid after command line fits d step next at =
      let m : Moment C L S = record { command = command; line = line; after = later } in
      let number : i + 1 ≡ 1 + length (lines_in d.moments) = omega (arith, moments_done i now mid d (omega arith), length-map d.moments (λ m. m.line)) in
      record {
        moments = d.moments ++ m ∷ [];
        run = Run-more steps start d.moments now m d.run step;
        done = commands_done i now later mid command line d fits at;
        taken = subst (λ ls. TakenUp takes 1 before ls after) (sym (map_push (λ m. m.line) d.moments m))
            (TakenUp-more takes 1 before (lines_in d.moments) mid line after d.taken (subst (λ n. takes mid n line after (Ok tt)) number next));
      }

  -- a further command was done, and its line was refused
  pub Driven-refused : (i : ℕ) (now later : S) (mid after : T) (command : C) (line : L) (cause : E) → i < length commands → DoneSoFar steps takes start now before mid (take i commands)
      → steps now command line later → takes mid (i + 1) line after (Err cause) → command ≡ get_or commands i command
      → Driven steps takes start later before after commands (Err cause)
  Driven-refused i now later mid after command line cause fits d step next at =
      let m : Moment C L S = record { command = command; line = line; after = later } in
      let number : i + 1 ≡ length (d.moments ++ m ∷ []) = omega (arith, moments_done i now mid d (omega arith), length_push d.moments m) in
      record {
        moments = d.moments ++ m ∷ [];
        run = Run-more steps start d.moments now m d.run step;
        first = commands_done i now later mid command line d fits at ∙ ap (λ n. take n commands) number;
        holds = record {
          front = d.moments;
          last = m;
          all = refl;
          mid = mid;
          taken = d.taken;
          refused = subst (λ n. takes mid n line after (Err cause)) number next;
        };
      }

  -- all commands were done
  pub Driven-all : (i : ℕ) (now : S) (after : T) (u : Unit {0}) → length commands ≤ i → DoneSoFar steps takes start now before after (take i commands)
      → Driven steps takes start now before after commands (Ok u)
  Driven-all i now after u all d =
      let done : commands_in d.moments ≡ commands = d.done ∙ take_all i commands all in
      let count : length d.moments ≡ length commands = sym (length-map d.moments (λ m. m.command)) ∙ ap length done in
      record {
        moments = d.moments;
        run = d.run;
        first = done ∙ sym (take_all (length d.moments) commands (omega (arith, count)));
        holds = (count, d.taken);
      }
