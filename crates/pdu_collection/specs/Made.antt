-- What is said when the PDUs arrive that are made of a payload and a freshness.
use Rattle.std.specs.Prelude.{◌≡◌, ℕ, ◌%◌, List}
use Rattle.secured_pdu.specs.Frame.{Secured, Ahead}
use Rattle.secured_pdu.specs.Verdict.{Outcome, Accepted, Verdict}
use Rattle.pdu_collection.specs.declared.pair_lines.Head.{Head}
use Rattle.pdu_collection.specs.Answering.{Said, judged}

-- what is said is the verdict on the one Secured I-PDU of this payload and freshness; so it is accepted if the
-- freshness is 1 to 256 ahead
pub record JudgedAsOne (head : Head) (counter : ℕ) (payload : List ℕ) (freshness : ℕ) (said : Said) : Type 0 where
  pub frame : List ℕ
  pub secured : Secured head.key head.id payload freshness frame
  pub outcome : Outcome
  pub said_is : said ≡ judged outcome
  pub verdict : Verdict head.key head.id counter 256 frame outcome
  pub in_time : Ahead counter 256 (freshness % 256) freshness → outcome ≡ Accepted payload freshness
