use Rattle.std.proofs.Common.{[], ◌∷◌, ◌++◌, refl, sym, ap, subst}
use Rattle.pdu_collection.specs.Joined.{JoinerState}
use Rattle.pdu_collection.specs.Receiving.{Answered}
use Rattle.pdu_collection.proofs.Answered.{Answered-none, Answered-more, entries-more, no_head}
use Rattle.pdu_collection.proofs.answering.entry_answers.Goals as goal
use Rattle.pdu_collection.proofs.answering.entry_answers.Goals.{in-Entry+in_ok-push_answer-in-Entry, in-Head}

pub loop-line-init : goal.loop-line-init
loop-line-init c =
    let head = c.args.head.now in (
      [],
      refl,
      subst (Answered head [] (record { joiner = c.new.result; counter = head.counter })) (sym c.new-text.ensures.items)
          (Answered-none head _ (ap (λ (s : JoinerState). s.place) c.new.ensures.value) refl c.new.ensures.given),
    )

pub loop-line-preserved : goal.loop-line-preserved
loop-line-preserved c =
    let (entries, so_far, answered) = c.loop-line.invariant in
    let lines = c.args.lines.now in
    let i = c.loop-line.line-index in
    elim c.match-line.branch [
      | in-Entry+in_ok-push_answer-in-Entry w ↦ (
        entries ++ w.in-Entry.entry ∷ [],
        entries-more lines i c.line-item.result entries w.in-Entry.entry c.loop-line-test.true c.line-item.is so_far w.in-Entry.is,
        rw (w.text-is, w.receiver-is) (Answered-more c.args.head.now entries _ _ w.in-Entry.entry _ _ answered w.in_ok-push_answer-in-Entry.ensures),
      )
      | in-Head w ↦ absurd (no_head lines i c.line-item.result c.requires.0 _ c.loop-line-test.true c.line-item.is c.requires.1 w.in-Head.is)
    ]
